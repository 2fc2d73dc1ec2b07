-- The greatest bound of a lemma on the start state, among those so far.
use Rattle.std.specs.Prelude.{ℕ, ◌≡◌, ◌+◌, ◌++◌, ◌<◌, ◌≤◌, ◌⊎◌, ◌↔◌, IsTrue, Bool, leb, List, [], ◌∷◌, Any, length, max, take, true, false}
use Rattle.std.proofs.Common.{refl, sym, ap, subst, arith, ◌∙◌, inl, inr, get_or}
use Rattle.std.proofs.lemmas.Bool.{cases_Bool, leb-true}
use Rattle.std.proofs.lemmas.List.{take_more}
use Rattle.std.proofs.lemmas.List.Elements.{Contains-push, Contains-push_cases}
use Rattle.cell_num.proofs.Lists.{contains_none}
use Rattle.cell_num.proofs.Pairs.{any_append_left, any_at}
use Rattle.end_lemmas.specs.declared.lemma.EndLemma.{EndLemma}
use Rattle.end_lemmas.specs.Justified.{AreEndsProved, IsAtStart}
use Rattle.end_lemmas.proofs.Passed.{told_off}

module _ {S : Type 0} (start : S) where
  abbrev IsOne : ℕ → EndLemma S → Type 0
  IsOne ends lemma = IsAtStart start lemma × (lemma.bound ≡ ends)

  pub none_proved : AreEndsProved start [] 0
  none_proved = record { most = λ lemma there. absurd (contains_none lemma there); one = inl refl }

  still : (xs : List (EndLemma S)) (x : EndLemma S) (ends : ℕ) → (ends ≡ 0) ⊎ Any (IsOne ends) xs
      → (ends ≡ 0) ⊎ Any (IsOne ends) (xs ++ x ∷ [])
  still xs x ends (inl none) = inl none
  still xs x ends (inr any) = inr (any_append_left (IsOne ends) xs (x ∷ []) any)

  push_other : (xs : List (EndLemma S)) (x : EndLemma S) (ends : ℕ) → AreEndsProved start xs ends
      → (IsAtStart start x → ⊥) → AreEndsProved start (xs ++ x ∷ []) ends
  push_other xs x ends proved off = record {
    most = λ lemma there at.
        elim (Contains-push_cases xs x lemma there) [
          | inl before ↦ proved.most lemma before at
          | inr same ↦ absurd (off (subst (IsAtStart start) (sym same) at))
        ];
    one = still xs x ends proved.one;
  }

  push_start : (xs : List (EndLemma S)) (x : EndLemma S) (ends : ℕ) → AreEndsProved start xs ends
      → IsAtStart start x → AreEndsProved start (xs ++ x ∷ []) (max ends x.bound)
  push_start xs x ends proved here =
      elim (cases_Bool (leb ends x.bound)) [
        | inl on ↦
            let few : ends ≤ x.bound = leb-true ends x.bound on in
            let is : max ends x.bound ≡ x.bound = omega (arith, few) in
            subst (AreEndsProved start (xs ++ x ∷ [])) (sym is) (greater few)
        | inr off ↦
            let few : x.bound ≤ ends = more ends x.bound off in
            let is : max ends x.bound ≡ ends = omega (arith, few) in
            subst (AreEndsProved start (xs ++ x ∷ [])) (sym is) (less few)
      ]
    where
      more : (a b : ℕ) → leb a b ≡ false → b ≤ a
      more a b off = grind (arith, off)

      greater : ends ≤ x.bound → AreEndsProved start (xs ++ x ∷ []) x.bound
      greater few = record {
        most = λ lemma there at.
            elim (Contains-push_cases xs x lemma there) [
              | inl before ↦ let low : lemma.bound ≤ ends = proved.most lemma before at in omega (arith, low, few)
              | inr same ↦ let is : x.bound ≡ lemma.bound = ap (λ (l : EndLemma S). l.bound) same in omega (arith, is)
            ];
        one = inr (any_at (IsOne x.bound) (xs ++ x ∷ []) x (Contains-push xs x) (here, refl));
      }

      less : x.bound ≤ ends → AreEndsProved start (xs ++ x ∷ []) ends
      less few = record {
        most = λ lemma there at.
            elim (Contains-push_cases xs x lemma there) [
              | inl before ↦ proved.most lemma before at
              | inr same ↦
                  let is : x.bound ≡ lemma.bound = ap (λ (l : EndLemma S). l.bound) same in omega (arith, is, few)
            ];
        one = still xs x ends proved.one;
      }

  module _ (lemmas : List (EndLemma S)) (i ends : ℕ) where
    module _ (x : EndLemma S) (b : Bool) (within : i < length lemmas) (is : x ≡ get_or lemmas i x)
        (decides : IsTrue b ↔ IsAtStart start x) (proved : AreEndsProved start (take i lemmas) ends) where
      at : (k : ℕ) → AreEndsProved start (take i lemmas ++ x ∷ []) k → AreEndsProved start (take (i + 1) lemmas) k
      at k h =
          subst (λ (xs : List (EndLemma S)). AreEndsProved start xs k)
          (ap (λ (y : EndLemma S). take i lemmas ++ y ∷ []) is ∙ sym (take_more lemmas i x within)) h

      pub start_more : (new : ℕ) → new ≡ max ends x.bound → b ≡ true → AreEndsProved start (take (i + 1) lemmas) new
      start_more new more on =
          subst (AreEndsProved start (take (i + 1) lemmas)) (sym more)
          (at (max ends x.bound) (push_start (take i lemmas) x ends proved (decides.0 on)))

      pub other_more : (new : ℕ) → new ≡ ends → b ≡ false → AreEndsProved start (take (i + 1) lemmas) new
      other_more new same off =
          subst (AreEndsProved start (take (i + 1) lemmas)) (sym same)
          (at ends (push_other (take i lemmas) x ends proved (told_off b decides off)))
