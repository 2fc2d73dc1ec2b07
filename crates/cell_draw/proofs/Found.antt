-- What `find` finds in a list.
use Rattle.std.proofs.Common.{ℕ, ◌≡◌, ◌≤◌, ◌==◌, Bool, true, false, List, [], ◌∷◌, Some, None, inl, inr, find, All, Contains, refl, sym, subst, ◌∙◌}
use Rattle.std.proofs.lemmas.List.Elements.{All-head, All-tail}
use Rattle.cell_num.proofs.Lists.{contains_none, contains_cons}
use Rattle.cell_num.specs.declared.net.NetNo.{NetNo}
use Rattle.channel_route.specs.declared.routing.Trunk.{Trunk}
use Rattle.cell_draw.specs.Layouts.{trunk_of, holds}

pub found_all : {X : Type 0} (P : X → Type 0) (p : X → Bool) (xs : List X) (x : X) → All P xs → find p xs ≡ Some x → P x
found_all P p [] x all e = absurd cc
found_all {X} P p (y ∷ ys) x all e = by (p y) refl (found_all P p ys x (All-tail P y ys all))
  where
    by : (b : Bool) → p y ≡ b → (find p ys ≡ Some x → P x) → P x
    by true here rest = let same : find p (y ∷ ys) ≡ Some y = rw here refl in let is : y ≡ x = cc in subst (λ z. P z) is (All-head P y ys all)
    by false here rest = let same : find p (y ∷ ys) ≡ find p ys = rw here refl in rest cc

-- what was found passes the test
pub found_is : {X : Type 0} (p : X → Bool) (xs : List X) (x : X) → find p xs ≡ Some x → p x ≡ true
found_is p [] x e = absurd cc
found_is {X} p (y ∷ ys) x e = by (p y) refl (found_is p ys x)
  where
    by : (b : Bool) → p y ≡ b → (find p ys ≡ Some x → p x ≡ true) → p x ≡ true
    by true here rest = let same : find p (y ∷ ys) ≡ Some y = rw here refl in let is : y ≡ x = cc in subst (λ z. p z ≡ true) is here
    by false here rest = let same : find p (y ∷ ys) ≡ find p ys = rw here refl in rest cc

-- a test that an element passes finds one
pub none_found : {X : Type 0} (p : X → Bool) (xs : List X) (x : X) → Contains xs x → p x ≡ true → find p xs ≡ None → ⊥
none_found p [] x c h e = contains_none x c
none_found {X} p (y ∷ ys) x c h e = by (p y) refl (λ more. none_found p ys x more h)
  where
    by : (b : Bool) → p y ≡ b → (Contains ys x → find p ys ≡ None → ⊥) → ⊥
    by true here later = let found : find p (y ∷ ys) ≡ Some y = rw here refl in cc
    by false here later =
        let rest : find p (y ∷ ys) ≡ find p ys = rw here refl in
        elim (contains_cons y ys x c) [
          | inl same ↦ cc
          | inr more ↦ later more (sym rest ∙ e)
        ]

pub found_track : (trunks : List Trunk) (net : NetNo) (t : Trunk) → All (λ (u : Trunk). u.track ≤ 1000) trunks → trunk_of trunks net ≡ Some t → t.track ≤ 1000
found_track trunks net t all e = found_all (λ (u : Trunk). u.track ≤ 1000) (λ (u : Trunk). u.net.0 == net.0) trunks t all e

pub held_track : (trunks : List Trunk) (net : NetNo) (line : ℕ) (t : Trunk) → All (λ (u : Trunk). u.track ≤ 1000) trunks → find (holds net line) trunks ≡ Some t → t.track ≤ 1000
held_track trunks net line t all e = found_all (λ (u : Trunk). u.track ≤ 1000) (holds net line) trunks t all e
