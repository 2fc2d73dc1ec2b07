-- A text that was filled up to an even length is read back.
use Rattle.std.proofs.Common.{ℕ, ◌≡◌, ◌%◌, List, [], ◌∷◌, ◌++◌, length, refl, ap, ◌∙◌, inl, inr}
use Rattle.std.proofs.lemmas.Bool.{cases_eq, eq-eqb, ne_eqb}
use Rattle.gds_read.specs.Structure.{trimmed, or_nothing}
use Rattle.gds_write.specs.Written.{padded}
use Rattle.gds_read.specs.RoundTrip.{HasNoZeroEnd}

kept : (text : List ℕ) → HasNoZeroEnd text → trimmed text ≡ text
kept [] whole = refl
kept (b ∷ []) whole =
    elim (cases_eq b 0) [
      | inl zero ↦ absurd (whole [] (ap (λ (x : ℕ). x ∷ []) zero))
      | inr other ↦ rw (ne_eqb b 0 other) refl
    ]
kept (b ∷ c ∷ cs) whole = ap (λ (t : List ℕ). or_nothing b t) (kept (c ∷ cs) (λ front e. whole (b ∷ front) (ap (λ (t : List ℕ). b ∷ t) e)))

one_less : (text : List ℕ) → trimmed (text ++ 0 ∷ []) ≡ trimmed text
one_less [] = refl
one_less (b ∷ bs) = ap (λ (t : List ℕ). or_nothing b t) (one_less bs)

pub padded_back : (text : List ℕ) → HasNoZeroEnd text → trimmed (padded text) ≡ text
padded_back text whole =
    elim (cases_eq (length text % 2) 0) [
      | inl even ↦ rw (eq-eqb _ _ even) (kept text whole)
      | inr odd ↦ rw (ne_eqb _ _ odd) (one_less text ∙ kept text whole)
    ]
