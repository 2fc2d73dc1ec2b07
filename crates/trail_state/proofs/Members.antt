-- Members of lists of places: by a node, by a test, in a part of the list, in its image.
use Rattle.std.proofs.Common.{ℕ, ◌≡◌, ◌≢◌, ◌==◌, Bool, true, false, List, [], ◌∷◌, Option, Some, None, map, refl, sym, ap, subst, ◌∙◌, inl, inr, AllPairs, Contains, unwrap_or}
use Rattle.std.specs.List.{cons_option, filter, filter_map, find}
use Rattle.std.proofs.lemmas.Bool.{both_ways, cases_Bool, eq-eqb, eqb-true}
use Rattle.std.proofs.lemmas.List.Elements.{All-contains}
use Rattle.std.proofs.lemmas.List.Kept.{AllPairs-cons}
use Rattle.cell_num.proofs.In.{Image, in_map, contains_map}
use Rattle.cell_num.proofs.Lists.{Kept, all_from_contains, contains_none, contains_cons, contains_here, contains_there, kept_from}
use Rattle.cell_num.proofs.Pairs.{pairs_head, pairs_none, pairs_tail}
use Rattle.trail_state.specs.declared.state.Place.{Place}
use Rattle.trail_state.specs.Places.{new_place, place_or_new}

-- what holds of the image of each member holds of each member of the image
pub mapped : {X Y : Type 0} (P : Y → Type 0) (g : X → Y) (xs : List X) → ((x : X) → Contains xs x → P (g x)) → (y : Y) → Contains (map g xs) y → P y
mapped P g xs h y c = let i : Image g xs y = in_map g xs y c in subst P i.is (h i.of i.listed)

-- a member of the part that passes a test
pub record Passes {X : Type 0} (p : X → Bool) (xs : List X) (x : X) : Type 0 where
  pub there : Contains xs x
  pub passes : p x ≡ true

pub filter_on : {X : Type 0} (p : X → Bool) (y : X) (ys : List X) → p y ≡ true → filter p (y ∷ ys) ≡ y ∷ filter p ys
filter_on p y ys e = rw e refl

pub filter_off : {X : Type 0} (p : X → Bool) (y : X) (ys : List X) → p y ≡ false → filter p (y ∷ ys) ≡ filter p ys
filter_off p y ys e = rw e refl

passes_more : {X : Type 0} (p : X → Bool) (y : X) (ys : List X) (x : X) → Passes p ys x → Passes p (y ∷ ys) x
passes_more p y ys x h = record { there = contains_there y ys x h.there; passes = h.passes }

pub passes_from : {X : Type 0} (p : X → Bool) (xs : List X) (x : X) → Contains (filter p xs) x → Passes p xs x
passes_from p [] x c = absurd (contains_none x c)
passes_from p (y ∷ ys) x c =
    elim (cases_Bool (p y)) [
      | inl e ↦ elim (contains_cons y (filter p ys) x (subst (λ l. Contains l x) (filter_on p y ys e) c)) [
        | inl same ↦ subst (Passes p (y ∷ ys)) same (record { there = contains_here y ys; passes = e })
        | inr rest ↦ passes_more p y ys x (passes_from p ys x rest)
      ]
      | inr e ↦ passes_more p y ys x (passes_from p ys x (subst (λ l. Contains l x) (filter_off p y ys e) c))
    ]

pub passes_to : {X : Type 0} (p : X → Bool) (xs : List X) (x : X) → Contains xs x → p x ≡ true → Contains (filter p xs) x
passes_to p [] x c e = absurd (contains_none x c)
passes_to {X} p (y ∷ ys) x c e =
    elim (contains_cons y ys x c) [
      | inl same ↦ subst (λ l. Contains l x) (sym (filter_on p y ys (ap p same ∙ e))) (subst (Contains (y ∷ filter p ys)) same (contains_here y (filter p ys)))
      | inr rest ↦ elim (cases_Bool (p y)) [
        | inl on ↦ subst (λ l. Contains l x) (sym (filter_on p y ys on)) (contains_there y (filter p ys) x (passes_to p ys x rest e))
        | inr off ↦ subst (λ l. Contains l x) (sym (filter_off p y ys off)) (passes_to p ys x rest e)
      ]
    ]

-- what is found, where some member passes the test
pub record Found {X : Type 0} (p : X → Bool) (xs : List X) : Type 0 where
  pub it : X
  pub there : Contains xs it
  pub passes : p it ≡ true
  pub is : find p xs ≡ Some it

pub found_from : {X : Type 0} (p : X → Bool) (xs : List X) (x : X) → Contains xs x → p x ≡ true → Found p xs
found_from p [] x c e = absurd (contains_none x c)
found_from p (y ∷ ys) x c e =
    elim (cases_Bool (p y)) [
      | inl on ↦ record { it = y; there = contains_here y ys; passes = on; is = rw on refl }
      | inr off ↦ elim (contains_cons y ys x c) [
        | inl same ↦ absurd (both_ways (p y) off (ap p same ∙ e))
        | inr rest ↦
            let f : Found p ys = found_from p ys x rest e in
            record { it = f.it; there = contains_there y ys f.it f.there; passes = f.passes; is = rw off f.is }
      ]
    ]

-- a place of the list has the node
pub record At (places : List Place) (v : ℕ) : Type 0 where
  pub it : Place
  pub there : Contains places it
  pub node : it.node.0 ≡ v

pub at_found : (places : List Place) (v : ℕ) → At places v → Found (λ (p : Place). p.node.0 == v) places
at_found places v at = found_from (λ (p : Place). p.node.0 == v) places at.it at.there (eq-eqb at.it.node.0 v at.node)

-- where there is a place of the node, that is one
pub record IsAt (places : List Place) (v : ℕ) (p : Place) : Type 0 where
  pub there : Contains places p
  pub node : p.node.0 ≡ v

pub or_new_at : (places : List Place) (v : ℕ) → At places v → IsAt places v (place_or_new places v)
or_new_at places v at =
    let f : Found (λ (p : Place). p.node.0 == v) places = at_found places v at in
    let is : place_or_new places v ≡ f.it = ap (λ o. unwrap_or o (new_place v)) f.is in
    subst (IsAt places v) (sym is) (record { there = f.there; node = eqb-true f.it.node.0 v f.passes })

pub at_map : (g : Place → Place) (places : List Place) (v : ℕ) → ((p : Place) → (g p).node.0 ≡ p.node.0) → At places v → At (map g places) v
at_map g places v same at = record { it = g at.it; there = contains_map g places at.it at.there; node = same at.it ∙ at.node }

-- no two places have one node
abbrev pub AreApart : List Place → Type 0
AreApart places = AllPairs (λ (p q : Place). p.node.0 ≢ q.node.0) places

pub one_place : (places : List Place) (p q : Place) → AreApart places → Contains places p → Contains places q → p.node.0 ≡ q.node.0 → p ≡ q
one_place [] p q apart cp cq e = absurd (contains_none p cp)
one_place (x ∷ xs) p q apart cp cq e =
    elim (contains_cons x xs p cp) [
      | inl px ↦ elim (contains_cons x xs q cq) [
        | inl qx ↦ sym px ∙ qx
        | inr qr ↦ absurd (other q qr (ap (λ (z : Place). z.node.0) px ∙ e))
      ]
      | inr pr ↦ elim (contains_cons x xs q cq) [
        | inl qx ↦ absurd (other p pr (ap (λ (z : Place). z.node.0) qx ∙ sym e))
        | inr qr ↦ one_place xs p q (pairs_tail (λ (a b : Place). a.node.0 ≢ b.node.0) x xs apart) pr qr e
      ]
    ]
  where
    other : (z : Place) → Contains xs z → x.node.0 ≡ z.node.0 → ⊥
    other z c same = All-contains (λ (b : Place). x.node.0 ≢ b.node.0) xs z (pairs_head (λ (a b : Place). a.node.0 ≢ b.node.0) x xs apart) c same

-- pairs of the values that a function gives
pub pairs_kept : {X Y : Type 0} (S : X → X → Type 0) (R : Y → Y → Type 0) (h : X → Option Y) (xs : List X) → ((x y : X) (a b : Y) → S x y → h x ≡ Some a → h y ≡ Some b → R a b) → AllPairs S xs → AllPairs R (filter_map h xs)
pairs_kept S R h [] each pairs = pairs_none R
pairs_kept {X} {Y} S R h (x ∷ xs) each pairs = more (pairs_kept S R h xs each (pairs_tail S x xs pairs)) (h x) refl
  where
    behind : (a : Y) → h x ≡ Some a → (b : Y) → Contains (filter_map h xs) b → R a b
    behind a e b c = let k : Kept h xs b = kept_from h xs b c in each x k.from a b (All-contains (S x) xs k.from (pairs_head S x xs pairs) k.there) e k.gives

    more : AllPairs R (filter_map h xs) → (o : Option Y) → h x ≡ o → AllPairs R (filter_map h (x ∷ xs))
    more rest None e = subst (λ o. AllPairs R (cons_option o (filter_map h xs))) (sym e) rest
    more rest (Some a) e = subst (λ o. AllPairs R (cons_option o (filter_map h xs))) (sym e) (AllPairs-cons R a (filter_map h xs) (all_from_contains (R a) (filter_map h xs) (behind a e)) rest)
