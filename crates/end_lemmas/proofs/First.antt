-- Whether a lemma is justified, by its parts, and which is the first that is not.
use Rattle.std.specs.Prelude.{ℕ, ◌≡◌, ◌↔◌, ◌+◌, ◌-◌, ◌++◌, ◌<◌, ◌≤◌, Bool, true, false, List, [], ◌∷◌, Some, None, All, Contains, IfOk, IsTrue, Result, length, slice_get, take}
use Rattle.std.specs.Prelude.{Ok, Err}
use Rattle.std.proofs.Common.{sym, ap, subst, arith, ◌∙◌, inl, inr, get_or}
use Rattle.std.proofs.lemmas.List.{take-append-le, take_all, take_more}
use Rattle.std.proofs.lemmas.List.Elements.{All-contains}
use Rattle.std.proofs.lemmas.Option.{none-some, same_Some, slice_get-get_or, slice_get_within}
use Rattle.cell_num.proofs.Lists.{all_from_contains}
use Rattle.end_lemmas.specs.declared.lemma.EndLemma.{EndLemma}
use Rattle.end_lemmas.specs.Justified.{AreJustified, IsJustified, IsKnown, IsUnproved, Reaches}
use Rattle.end_lemmas.specs.Steps.{Steps}
use Rattle.end_lemmas.proofs.Found.{last_or_before}
use Rattle.end_lemmas.proofs.Passed.{told_off}

pub one_more : {X : Type 0} (xs : List X) (i : ℕ) (x : X) → i < length xs → x ≡ get_or xs i x
    → take (i + 1) xs ≡ take i xs ++ x ∷ []
one_more xs i x within is = take_more xs i x within ∙ ap (λ y. take i xs ++ y ∷ []) (sym is)

module _ {L C S : Type 0} (steps : Steps L C S) where
  pub reaches_is : (earlier : List (EndLemma S)) (level : L) (lemma : EndLemma S) (choice : C) (done need ends : ℕ)
      (state : S) (b : Bool) → done ≡ lemma.done + 1 → state ≡ steps.next level lemma.state choice
      → ends ≡ steps.ends level lemma.state choice → need ≡ lemma.bound - ends
      → IsTrue b ↔ IsKnown earlier done state need → IsTrue b ↔ Reaches steps earlier level lemma choice
  reaches_is earlier level lemma choice done need ends state b of_done of_state of_ends of_need decides =
      subst (λ (n : ℕ). IsTrue b ↔ IsKnown earlier (lemma.done + 1) (steps.next level lemma.state choice) n)
      (of_need ∙ ap (λ (e : ℕ). lemma.bound - e) of_ends)
      (subst (λ (s : S). IsTrue b ↔ IsKnown earlier (lemma.done + 1) s need) of_state
      (subst (λ (d : ℕ). IsTrue b ↔ IsKnown earlier d state need) of_done decides))

  module _ (levels : List L) where
    module _ (earlier : List (EndLemma S)) (lemma : EndLemma S) where
      pub not_fitting : (b : Bool) → b ≡ steps.fits lemma.state → b ≡ false
          → IsTrue false ↔ IsJustified steps levels earlier lemma
      not_fitting b is off = (λ on. absurd cc, λ j. absurd (at is off j.fits))
        where
          at : b ≡ steps.fits lemma.state → b ≡ false → steps.fits lemma.state ≡ true → ⊥
          at e f g = cc

      pub no_level : slice_get levels lemma.done ≡ None → IsTrue false ↔ IsJustified steps levels earlier lemma
      no_level none = (λ on. absurd cc, λ j. absurd (none-some j.level (sym none ∙ j.there)))

      at_level : (level : L) (b : Bool) → slice_get levels lemma.done ≡ Some level → steps.fits lemma.state ≡ true
          → IsTrue b ↔ All (Reaches steps earlier level lemma) (steps.choices level)
          → IsTrue b ↔ IsJustified steps levels earlier lemma
      at_level level b there fits (to, from) = (
        λ on. record {
          level = level;
          there = there;
          fits = fits;
          reaches = λ c within.
              All-contains (Reaches steps earlier level lemma) (steps.choices level) c (to on) within;
        },
        back,
      )
        where
          here : (j : IsJustified steps levels earlier lemma) → j.level ≡ level
          here j = same_Some j.level level (sym j.there ∙ there)

          back : IsJustified steps levels earlier lemma → IsTrue b
          back j =
              from (all_from_contains (Reaches steps earlier level lemma) (steps.choices level)
              (λ c within.
              subst (λ (l : L). Reaches steps earlier l lemma c) (here j)
              (j.reaches c (subst (λ (l : L). Contains (steps.choices l) c) (sym (here j)) within))))

      pub by_level : {E : Type 0} (level : L) (r : Result Bool E) → slice_get levels lemma.done ≡ Some level
          → steps.fits lemma.state ≡ true
          → IfOk r (λ b. IsTrue b ↔ All (Reaches steps earlier level lemma) (steps.choices level))
          → IfOk r (λ b. IsTrue b ↔ IsJustified steps levels earlier lemma)
      by_level level (Ok b) there fits decides = at_level level b there fits decides
      by_level level (Err e) there fits decides = tt

    -- ---- one lemma more

    pub justified_push : (xs : List (EndLemma S)) (x : EndLemma S) → AreJustified steps levels xs
        → IsJustified steps levels xs x → AreJustified steps levels (xs ++ x ∷ [])
    justified_push xs x all one at y there =
        elim (last_or_before xs x y at there) [
          | inl before ↦
              let within : at < length xs = slice_get_within xs at y before in
              subst (λ (ys : List (EndLemma S)). IsJustified steps levels ys y)
              (sym (take-append-le at xs (x ∷ []) (omega (arith, within)))) (all at y before)
          | inr end ↦
              let whole : take at (xs ++ x ∷ []) ≡ xs =
              take-append-le at xs (x ∷ []) (omega (arith, end.0)) ∙ take_all at xs (omega (arith, end.0)) in
              subst (λ (ys : List (EndLemma S)). IsJustified steps levels ys y) (sym whole)
              (subst (IsJustified steps levels xs) end.1 one)
        ]

    pub none_justified : AreJustified steps levels []
    none_justified at x there = absurd (none_at at there)
      where
        none_at : (i : ℕ) → slice_get [] i ≡ Some x → ⊥
        none_at i e = absurd (omega (arith, slice_get_within [] i x e))

    module _ (lemmas : List (EndLemma S)) (i : ℕ) where
      module _ (x : EndLemma S) (b : Bool) (within : i < length lemmas) (is : x ≡ get_or lemmas i x)
          (decides : IsTrue b ↔ IsJustified steps levels (take i lemmas) x)
          (before : AreJustified steps levels (take i lemmas)) where
        pub justified_more : b ≡ true → AreJustified steps levels (take (i + 1) lemmas)
        justified_more on =
            subst (AreJustified steps levels) (sym (one_more lemmas i x within is))
            (justified_push (take i lemmas) x before (decides.0 on))

        pub one_unproved : b ≡ false → IsUnproved steps levels lemmas i
        one_unproved off = record {
          lemma = x;
          there = slice_get-get_or lemmas i x within ∙ ap (λ (y : EndLemma S). Some y) (sym is);
          before = before;
          fails = told_off b decides off;
        }

      pub all_justified : length lemmas ≤ i → AreJustified steps levels (take i lemmas)
          → AreJustified steps levels lemmas
      all_justified past all = subst (AreJustified steps levels) (take_all i lemmas past) all
