-- Items with numbers in ascending order: what is found by a number, and all of them by a list of numbers.
use Rattle.std.specs.Prelude.{ℕ, ◌≡◌, ◌<◌, ◌≤◌, ◌==◌, Bool, true, false, List, [], ◌∷◌, Option, Some, None, AllPairs, Contains, find}
use Rattle.std.specs.List.{cons_option, filter, filter_map}
use Rattle.std.proofs.Common.{refl, sym, ap, subst, arith, ◌∙◌, inl, inr}
use Rattle.std.proofs.lemmas.Bool.{both_ways, cases_Bool, eq-eqb, eqb-true, false_from_ne_true}
use Rattle.std.proofs.lemmas.List.Elements.{All-contains}
use Rattle.std.proofs.lemmas.Option.{none-some}
use Rattle.cell_num.proofs.Lists.{contains_cons, contains_here, contains_none, contains_there, some_same}
use Rattle.cell_num.proofs.Pairs.{pairs_head, pairs_tail}
use Rattle.trail_state.specs.declared.edge.Node.{Node}
use Rattle.trail_state.proofs.Members.{Passes, filter_off, filter_on}

pub find_on : {X : Type 0} (p : X → Bool) (y : X) (ys : List X) → p y ≡ true → find p (y ∷ ys) ≡ Some y
find_on p y ys e = rw e refl

pub find_off : {X : Type 0} (p : X → Bool) (y : X) (ys : List X) → p y ≡ false → find p (y ∷ ys) ≡ find p ys
find_off p y ys e = rw e refl

-- what is found is there, and passes
pub found_is : {X : Type 0} (p : X → Bool) (xs : List X) (x : X) → find p xs ≡ Some x → Passes p xs x
found_is p [] x e = absurd (none-some x e)
found_is p (y ∷ ys) x e =
    elim (cases_Bool (p y)) [
      | inl on ↦ subst (Passes p (y ∷ ys)) (some_same y x (sym (find_on p y ys on) ∙ e)) (record { there = contains_here y ys; passes = on })
      | inr off ↦
          let rest : Passes p ys x = found_is p ys x (sym (find_off p y ys off) ∙ e) in
          record { there = contains_there y ys x rest.there; passes = rest.passes }
    ]

-- nothing is found where nothing passes
pub find_none : {X : Type 0} (p : X → Bool) (xs : List X) → ((x : X) → Contains xs x → p x ≡ false) → find p xs ≡ None
find_none p [] h = refl
find_none p (y ∷ ys) h = find_off p y ys (h y (contains_here y ys)) ∙ find_none p ys (λ x c. h x (contains_there y ys x c))

-- the first that passes is the least
pub first_least : {X : Type 0} (f : X → ℕ) (p : X → Bool) (xs : List X) (x it : X) → AllPairs (λ (a b : X). f a < f b) xs → Contains xs x → p x ≡ true → find p xs ≡ Some it → f it ≤ f x
first_least f p [] x it ascend there on is = absurd (contains_none x there)
first_least {X} f p (y ∷ ys) x it ascend there on is =
    elim (cases_Bool (p y)) [
      | inl here ↦
          let same : f y ≡ f it = ap f (some_same y it (sym (find_on p y ys here) ∙ is)) in
          elim (contains_cons y ys x there) [
            | inl first ↦ omega (arith, same, ap f first)
            | inr rest ↦ let l : f y < f x = All-contains (λ (b : X). f y < f b) ys x (pairs_head (λ (a b : X). f a < f b) y ys ascend) rest in omega (arith, same, l)
          ]
      | inr other ↦ elim (contains_cons y ys x there) [
        | inl first ↦ absurd (both_ways (p y) other (ap p first ∙ on))
        | inr rest ↦ first_least f p ys x it (pairs_tail (λ (a b : X). f a < f b) y ys ascend) rest on (sym (find_off p y ys other) ∙ is)
      ]
    ]

-- items with one number are one
pub one_numbered : {X : Type 0} (f : X → ℕ) (xs : List X) (x y : X) → AllPairs (λ (a b : X). f a < f b) xs → Contains xs x → Contains xs y → f x ≡ f y → x ≡ y
one_numbered f [] x y ascend cx cy e = absurd (contains_none x cx)
one_numbered {X} f (z ∷ zs) x y ascend cx cy e =
    elim (contains_cons z zs x cx) [
      | inl zx ↦ elim (contains_cons z zs y cy) [
        | inl zy ↦ sym zx ∙ zy
        | inr later ↦ absurd (omega (arith, above y later, ap f zx, e))
      ]
      | inr later ↦ elim (contains_cons z zs y cy) [
        | inl zy ↦ absurd (omega (arith, above x later, ap f zy, e))
        | inr last ↦ one_numbered f zs x y (pairs_tail (λ (a b : X). f a < f b) z zs ascend) later last e
      ]
    ]
  where
    above : (w : X) → Contains zs w → f z < f w
    above w c = All-contains (λ (b : X). f z < f b) zs w (pairs_head (λ (a b : X). f a < f b) z zs ascend) c

pub same_kept : {X Y : Type 0} (g h : X → Option Y) (xs : List X) → ((x : X) → Contains xs x → g x ≡ h x) → filter_map g xs ≡ filter_map h xs
same_kept g h [] same = refl
same_kept g h (x ∷ xs) same =
    ap (λ o. cons_option o (filter_map g xs)) (same x (contains_here x xs)) ∙ ap (cons_option (h x)) (same_kept g h xs (λ y c. same y (contains_there x xs y c)))

pub same_filtered : {X : Type 0} (p q : X → Bool) (xs : List X) → ((x : X) → Contains xs x → p x ≡ q x) → filter p xs ≡ filter q xs
same_filtered p q [] same = refl
same_filtered {X} p q (x ∷ xs) same =
    let rest : filter p xs ≡ filter q xs = same_filtered p q xs (λ y c. same y (contains_there x xs y c)) in
    let here : p x ≡ q x = same x (contains_here x xs) in
    elim (cases_Bool (p x)) [
      | inl on ↦ filter_on p x xs on ∙ ap (λ (ys : List X). x ∷ ys) rest ∙ sym (filter_on q x xs (sym here ∙ on))
      | inr off ↦ filter_off p x xs off ∙ rest ∙ sym (filter_off q x xs (sym here ∙ off))
    ]

-- ---- items at some nodes

module _ {X : Type 0} (f : X → ℕ) where
  -- the item with the number
  abbrev pub item_at : List X → Node → Option X
  item_at xs v = find (λ x. f x == v.0) xs

  none_kept_of : (nodes : List Node) → filter_map (item_at []) nodes ≡ []
  none_kept_of [] = refl
  none_kept_of (v ∷ vs) = none_kept_of vs

  -- those that are found by the nodes are all items, in their order
  pub items_back : (nodes : List Node) (xs : List X) → AllPairs (λ (a b : Node). a.0 < b.0) nodes → AllPairs (λ (a b : X). f a < f b) xs → ((x : X) → Contains xs x → (v : Node) × Contains nodes v × (v.0 ≡ f x)) → filter_map (item_at xs) nodes ≡ xs
  items_back nodes [] h k within = none_kept_of nodes
  items_back [] (p ∷ ps) h k within = let (v, there, is) = within p (contains_here p ps) in absurd (contains_none v there)
  items_back (x ∷ xs) (p ∷ ps) h k within =
      elim (cases_Bool (f p == x.0)) [
        | inl on ↦
            let first : item_at (p ∷ ps) x ≡ Some p = find_on (λ z. f z == x.0) p ps on in
            let rest : filter_map (item_at ps) xs ≡ ps = items_back xs ps (pairs_tail (λ (a b : Node). a.0 < b.0) x xs h) (pairs_tail (λ (a b : X). f a < f b) p ps k) (λ q c. behind q c (eqb-true (f p) x.0 on) (within q (contains_there p ps q c))) in
            ap (λ o. cons_option o (filter_map (item_at (p ∷ ps)) xs)) first
            ∙ ap (λ (qs : List X). p ∷ qs) (same_kept (item_at (p ∷ ps)) (item_at ps) xs (λ v c. skips v (below v c (eqb-true (f p) x.0 on))) ∙ rest)
        | inr off ↦
            let first : item_at (p ∷ ps) x ≡ None = find_none (λ z. f z == x.0) (p ∷ ps) (λ q c. false_from_ne_true (f q == x.0) (λ e. other q c (eqb-true (f q) x.0 e) off)) in
            ap (λ o. cons_option o (filter_map (item_at (p ∷ ps)) xs)) first
            ∙ items_back xs (p ∷ ps) (pairs_tail (λ (a b : Node). a.0 < b.0) x xs h) k (λ q c. later q c off (within q c))
      ]
    where
      above : (v : Node) → Contains xs v → x.0 < v.0
      above v c = All-contains (λ (b : Node). x.0 < b.0) xs v (pairs_head (λ (a b : Node). a.0 < b.0) x xs h) c

      after : (q : X) → Contains ps q → f p < f q
      after q c = All-contains (λ (b : X). f p < f b) ps q (pairs_head (λ (a b : X). f a < f b) p ps k) c

      below : (v : Node) → Contains xs v → f p ≡ x.0 → f p < v.0
      below v c e = omega (arith, above v c, e)

      skips : (v : Node) → f p < v.0 → item_at (p ∷ ps) v ≡ item_at ps v
      skips v l = find_off (λ z. f z == v.0) p ps (false_from_ne_true (f p == v.0) (λ e. omega (arith, l, eqb-true (f p) v.0 e)))

      behind : (q : X) → Contains ps q → f p ≡ x.0 → ((v : Node) × Contains (x ∷ xs) v × (v.0 ≡ f q)) → (v : Node) × Contains xs v × (v.0 ≡ f q)
      behind q c e (v, there, is) = elim (contains_cons x xs v there) [
        | inl first ↦ absurd (omega (arith, after q c, e, is, ap (λ (w : Node). w.0) first))
        | inr rest ↦ (v, rest, is)
      ]

      first_on : ((v : Node) × Contains (x ∷ xs) v × (v.0 ≡ f p)) → (f p == x.0) ≡ false → x.0 < f p
      first_on (v, there, is) off = elim (contains_cons x xs v there) [
        | inl first ↦ absurd (both_ways (f p == x.0) off (eq-eqb (f p) x.0 (sym is ∙ sym (ap (λ (w : Node). w.0) first))))
        | inr rest ↦ omega (arith, above v rest, is)
      ]

      beyond : (q : X) → Contains (p ∷ ps) q → (f p == x.0) ≡ false → x.0 < f q
      beyond q c off =
          let l : x.0 < f p = first_on (within p (contains_here p ps)) off in
          elim (contains_cons p ps q c) [
            | inl same ↦ omega (arith, l, ap f same)
            | inr rest ↦ omega (arith, l, after q rest)
          ]

      other : (q : X) → Contains (p ∷ ps) q → f q ≡ x.0 → (f p == x.0) ≡ false → ⊥
      other q c e off = omega (arith, beyond q c off, e)

      later : (q : X) → Contains (p ∷ ps) q → (f p == x.0) ≡ false → ((v : Node) × Contains (x ∷ xs) v × (v.0 ≡ f q)) → (v : Node) × Contains xs v × (v.0 ≡ f q)
      later q c off (v, there, is) = elim (contains_cons x xs v there) [
        | inl first ↦ absurd (omega (arith, beyond q c off, is, ap (λ (w : Node). w.0) first))
        | inr rest ↦ (v, rest, is)
      ]
