-- Lists in other orders: what they are mapped from, what is kept of them, and by keys.
use Rattle.std.proofs.Common.{ℕ, ◌≡◌, ◌≢◌, ◌+◌, ◌==◌, Bool, true, false, not, cond, List, [], ◌∷◌}
use Rattle.std.proofs.Common.{◌++◌, Option, Some, None, get_or, set, length, map, refl, sym, ap, subst, arith, ◌∙◌, inl}
use Rattle.std.proofs.Common.{inr, AllPairs, Contains, IsPermutation, sum_by}
use Rattle.std.specs.List.{cons_option, filter, filter_map, flat_map, swap}
use Rattle.std.specs.Bool.{Decides}
use Rattle.std.proofs.Math.ListN.{get_or-map}
use Rattle.std.proofs.lemmas.Bool.{both_ways, cases_Bool, eq-eqb, eqb-true, ne_eqb, not-true, not_from_false}
use Rattle.std.proofs.lemmas.Bool.{not_from_true}
use Rattle.std.proofs.lemmas.List.{length-map, map-set}
use Rattle.std.proofs.lemmas.List.Elements.{All-contains}
use Rattle.std.proofs.lemmas.List.Sorted.{IsPermutation-append_right, IsPermutation-filter_both, IsPermutation-keeps}
use Rattle.std.proofs.lemmas.List.Sorted.{IsPermutation-refl, IsPermutation-swap, IsPermutation-trans}
use Rattle.std.proofs.lemmas.List.Sorted.{sum_by-IsPermutation}
use Rattle.std.proofs.lemmas.List.Sums.{sum_by-cons}
use Rattle.cell_num.proofs.Lists.{contains_cons, contains_here, contains_none, contains_there}
use Rattle.cell_num.proofs.Pairs.{pairs_head, pairs_tail}
use Rattle.cell_num.proofs.Permutations.{permutation_from_counts}
use Rattle.cell_num.specs.declared.net.NetNo.{NetNo}
use Rattle.trail_state.proofs.Members.{filter_off, filter_on, passes_from}

-- a list in the order of what it is mapped to
pub record Ordered {X Y : Type 0} (f : X → Y) (xs : List X) (ys : List Y) : Type 0 where
  pub it : List X
  pub same : IsPermutation xs it
  pub is : map f it ≡ ys

swap_map : {X Y : Type 0} (f : X → Y) (xs : List X) (i j : ℕ) → map f (swap xs i j) ≡ swap (map f xs) i j
swap_map f [] i j = refl
swap_map f (d ∷ ys) i j =
    map-set f (set (d ∷ ys) i (get_or (d ∷ ys) j d)) j (get_or (d ∷ ys) i d)
    ∙ ap (λ l. set l j (f (get_or (d ∷ ys) i d))) (map-set f (d ∷ ys) i (get_or (d ∷ ys) j d))
    ∙ ap (λ a. set (set (map f (d ∷ ys)) i a) j (f (get_or (d ∷ ys) i d))) (sym (get_or-map f (d ∷ ys) j d))
    ∙ ap (λ b. set (set (map f (d ∷ ys)) i (get_or (map f (d ∷ ys)) j (f d))) j b) (sym (get_or-map f (d ∷ ys) i d))

pub ordered : {X Y : Type 0} (f : X → Y) (xs : List X) (ys : List Y) → IsPermutation (map f xs) ys → Ordered f xs ys
ordered f xs ys h =
    IsPermutation-keeps (map f xs) (Ordered f xs) (record { it = xs; same = IsPermutation-refl xs; is = refl })
    (λ l i j p q o. let long : length l ≡ length o.it = ap length (sym o.is) ∙ length-map o.it f in record {
      it = swap o.it i j;
      same =
          IsPermutation-trans xs o.it (swap o.it i j) o.same
          (IsPermutation-swap o.it (swap o.it i j) i j (omega (arith, p, long)) (omega (arith, q, long)) refl);
      is = swap_map f o.it i j ∙ ap (λ m. swap m i j) o.is;
    }) ys h

-- what h keeps of a list in another order
module _ {X Y : Type 0} (eq : Y → Y → Bool) (decides : (a b : Y) → Decides (eq a b) (a ≡ b)) (h : X → Option Y) where
  abbrev times : (Y → ℕ) → Option Y → ℕ
  times q None = 0
  times q (Some y) = q y

  one_more : (q : Y → ℕ) (o : Option Y) (ys : List Y) → sum_by q (cons_option o ys) ≡ times q o + sum_by q ys
  one_more q None ys = omega arith
  one_more q (Some y) ys = sum_by-cons q y ys

  summed : (q : Y → ℕ) (xs : List X) → sum_by q (filter_map h xs) ≡ sum_by (λ x. times q (h x)) xs
  summed q [] = refl
  summed q (x ∷ xs) =
      omega (arith, one_more q (h x) (filter_map h xs), summed q xs, sum_by-cons (λ z. times q (h z)) x xs)

  same_sum : (q : Y → ℕ) (xs ys : List X) → IsPermutation xs ys
      → sum_by q (filter_map h ys) ≡ sum_by q (filter_map h xs)
  same_sum q xs ys p = omega (arith, summed q xs, summed q ys, sum_by-IsPermutation (λ x. times q (h x)) xs ys p)

  long : (ys : List Y) → sum_by (λ y. 1) ys ≡ length ys
  long [] = refl
  long (y ∷ ys) = omega (arith, long ys, sum_by-cons (λ (z : Y). 1) y ys)

  pub kept_permutation : (xs ys : List X) → IsPermutation xs ys → IsPermutation (filter_map h xs) (filter_map h ys)
  kept_permutation xs ys p =
      permutation_from_counts eq decides (filter_map h xs) (filter_map h ys)
      (omega (arith, same_sum (λ y. 1) xs ys p, long (filter_map h xs), long (filter_map h ys)))
      (λ z. let same : sum_by (λ y. cond (eq z y) 1 0) (filter_map h ys) ≡ sum_by (λ y. cond (eq z y) 1 0)
      (filter_map h xs) = same_sum (λ y. cond (eq z y) 1 0) xs ys p in omega (arith, same))

pub flat_map_same : {X Y : Type 0} (f g : X → List Y) (xs : List X) → ((x : X) → Contains xs x → f x ≡ g x)
    → flat_map f xs ≡ flat_map g xs
flat_map_same f g [] same = refl
flat_map_same f g (x ∷ xs) same =
    ap (λ l. l ++ flat_map f xs) (same x (contains_here x xs))
    ∙ ap (λ l. g x ++ l) (flat_map_same f g xs (λ y k. same y (contains_there x xs y k)))

-- the elements by keys of which each is listed once
module _ {X : Type 0} (key : X → ℕ) where
  abbrev pub with_key : List X → NetNo → List X
  with_key xs g = filter (λ (x : X). key x == g.0) xs

  abbrev HasKey : List NetNo → X → Type 0
  HasKey gs x = (g : NetNo) × Contains gs g × (key x ≡ g.0)

  others : ℕ → List X → List X
  others g xs = filter (λ (x : X). not (key x == g)) xs

  others_off : (g : ℕ) (x : X) (xs : List X) → (key x == g) ≡ true → others g (x ∷ xs) ≡ others g xs
  unfolding others
  others_off g x xs e = filter_off (λ (y : X). not (key y == g)) x xs (not_from_true (key x == g) e)

  others_on : (g : ℕ) (x : X) (xs : List X) → (key x == g) ≡ false → others g (x ∷ xs) ≡ x ∷ others g xs
  unfolding others
  others_on g x xs e = filter_on (λ (y : X). not (key y == g)) x xs (not_from_false (key x == g) e)

  stays : (g : ℕ) (h : NetNo) (xs : List X) → g ≢ h.0 → with_key (others g xs) h ≡ with_key xs h
  unfolding others
  stays g h [] differ = refl
  stays g h (x ∷ xs) differ =
      elim (cases_Bool (key x == g)) [
        | inl on ↦
            let not_h : (key x == h.0) ≡ false = ne_eqb (key x) h.0 (λ e. differ (sym (eqb-true (key x) g on) ∙ e)) in
            ap (λ l. with_key l h) (others_off g x xs on) ∙ stays g h xs differ
            ∙ sym (filter_off (λ (y : X). key y == h.0) x xs not_h)
        | inr off ↦ ap (λ l. with_key l h) (others_on g x xs off) ∙ elim (cases_Bool (key x == h.0)) [
          | inl h_on ↦ filter_on (λ (y : X). key y == h.0) x (others g xs) h_on ∙ ap (λ l. x ∷ l) (stays g h xs differ)
              ∙ sym (filter_on (λ (y : X). key y == h.0) x xs h_on)
          | inr h_off ↦ filter_off (λ (y : X). key y == h.0) x (others g xs) h_off ∙ stays g h xs differ
              ∙ sym (filter_off (λ (y : X). key y == h.0) x xs h_off)
        ]
      ]

  split : (g : NetNo) (xs : List X) → IsPermutation xs (with_key xs g ++ others g.0 xs)
  unfolding others
  split g xs = IsPermutation-filter_both (λ (x : X). key x == g.0) (λ (x : X). not (key x == g.0)) (λ x. refl) xs

  left_key : (g : NetNo) (gs : List NetNo) (xs : List X) → ((x : X) → Contains xs x → HasKey (g ∷ gs) x) → (x : X)
      → Contains (others g.0 xs) x → HasKey gs x
  unfolding others
  left_key g gs xs have x k =
      let f = passes_from (λ (y : X). not (key y == g.0)) xs x k in
      let off : (key x == g.0) ≡ false = not-true (key x == g.0) f.passes in
      let (h, listed, is) = have x f.there in
      elim (contains_cons g gs h listed) [
        | inl same ↦ absurd (both_ways (key x == g.0) off
            (eq-eqb (key x) g.0 (is ∙ ap (λ (n : NetNo). n.0) (sym same))))
        | inr later ↦ (h, later, is)
      ]

  pub all_keys : (gs : List NetNo) (xs : List X) → AllPairs (λ (a b : NetNo). a.0 ≢ b.0) gs
      → ((x : X) → Contains xs x → HasKey gs x) → IsPermutation xs (flat_map (with_key xs) gs)
  all_keys [] [] differ have = IsPermutation-refl []
  all_keys [] (x ∷ xs) differ have =
      let (g, listed, is) = have x (contains_here x xs) in absurd (contains_none g listed)
  all_keys (g ∷ gs) xs differ have =
      let rest : IsPermutation (others g.0 xs) (flat_map (with_key (others g.0 xs)) gs) =
      all_keys gs (others g.0 xs) (pairs_tail (λ (a b : NetNo). a.0 ≢ b.0) g gs differ) (left_key g gs xs have) in
      let same : flat_map (with_key (others g.0 xs)) gs ≡ flat_map (with_key xs) gs =
      flat_map_same (with_key (others g.0 xs)) (with_key xs) gs
      (λ h k. stays g.0 h xs (All-contains (λ (b : NetNo). g.0 ≢ b.0) gs h
      (pairs_head (λ (a b : NetNo). a.0 ≢ b.0) g gs differ) k)) in
      IsPermutation-trans xs (with_key xs g ++ others g.0 xs) (with_key xs g ++ flat_map (with_key xs) gs) (split g xs)
      (IsPermutation-append_right (with_key xs g) (others g.0 xs) (flat_map (with_key xs) gs)
      (subst (IsPermutation (others g.0 xs)) same rest))
