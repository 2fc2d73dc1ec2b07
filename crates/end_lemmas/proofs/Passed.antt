-- What a loop over a list has passed so far, where a test decides a fact on each item.
use Rattle.std.specs.Prelude.{ℕ, ◌≡◌, ◌+◌, ◌++◌, ◌<◌, ◌≤◌, ◌↔◌, Bool, true, false, List, [], ◌∷◌, All, Any, IsTrue, length, take}
use Rattle.std.proofs.Common.{refl, sym, subst, ◌∙◌, inl, inr, get_or}
use Rattle.std.proofs.lemmas.List.{take_all, take_more}
use Rattle.std.proofs.lemmas.List.Elements.{All-more, Contains-push_cases}
use Rattle.cell_num.proofs.Lists.{contains_none}
use Rattle.cell_num.proofs.Pairs.{Some', any_at, some_from_any}

-- a test that fails
pub told_off : {P : Type 0} (b : Bool) → IsTrue b ↔ P → b ≡ false → P → ⊥
told_off b decides off holds = apart off (decides.1 holds)
  where
    apart : b ≡ false → b ≡ true → ⊥
    apart e f = cc

abbrev pub NoneOf : {X : Type 0} → (X → Type 0) → List X → Type 0
NoneOf P xs = Any P xs → ⊥

module _ {X : Type 0} (P : X → Type 0) where
  pub none_first : NoneOf P []
  none_first any = let one : Some' P [] = some_from_any P [] any in contains_none one.it one.there

  push_none : (xs : List X) (x : X) → NoneOf P xs → (P x → ⊥) → NoneOf P (xs ++ x ∷ [])
  push_none xs x before off any =
      let one : Some' P (xs ++ x ∷ []) = some_from_any P (xs ++ x ∷ []) any in
      elim (Contains-push_cases xs x one.it one.there) [
        | inl earlier ↦ before (any_at P xs one.it earlier one.holds)
        | inr same ↦ off (subst P (sym same) one.holds)
      ]

  -- the item at a place, what the test says of it, and the list so far
  module _ (xs : List X) (i : ℕ) (x : X) (b : Bool) (within : i < length xs) (is : x ≡ get_or xs i x)
      (decides : IsTrue b ↔ P x) where
    pub none_more : NoneOf P (take i xs) → b ≡ false → NoneOf P (take (i + 1) xs)
    none_more before off =
        subst (NoneOf P) (sym (take_more xs i x within))
        (push_none (take i xs) (get_or xs i x) before (λ holds. told_off b decides off (subst P (sym is) holds)))

    pub all_more : All P (take i xs) → b ≡ true → All P (take (i + 1) xs)
    all_more before on = All-more P xs i x within before (subst P is (decides.0 on))

    pub not_all : (all : List X) → xs ≡ all → b ≡ false → IsTrue false ↔ All P all
    not_all all same off = (λ on. absurd cc, λ holds. absurd (fails (subst (All P) (sym same) holds)))
      where
        fails : All P xs → ⊥
        fails holds = told_off b decides off (subst P (sym is) (holds i x within))

  module _ (xs : List X) (i : ℕ) (past : length xs ≤ i) where
    pub none_passed : NoneOf P (take i xs) → NoneOf P xs
    none_passed before any = before (subst (Any P) (sym (take_all i xs past)) any)

    pub all_passed : (all : List X) → xs ≡ all → All P (take i xs) → IsTrue true ↔ All P all
    all_passed all same before = (λ _. subst (All P) (take_all i xs past ∙ same) before, λ _. refl)
