-- How the lemmas of a certificate are spelled, and read.
use Rattle.std.specs.Prelude.{ℕ, ◌≡◌, List, ◌∷◌, Option, Some, All, codes}
use Rattle.std.proofs.Common.{refl}
use Rattle.std.proofs.lemmas.List.Elements.{All-cons}
use Rattle.log_lines.proofs.Splits.{IsAbove}
use Rattle.bound_log.proofs.Again.{by_test}

-- the words of a good lemma are read again, and no others; none of their bytes is a space or below it
pub record Spells {L : Type 0} (said : List (List ℕ) → Option L) (words : L → List (List ℕ)) (Good : L → Type 0) : Type 0 where
  pub again : (lemma : L) → Good lemma → said (words lemma) ≡ Some lemma
  pub only : (all : List (List ℕ)) (lemma : L) → said all ≡ Some lemma → (all ≡ words lemma) × Good lemma
  pub above : (lemma : L) → All (IsAbove 32) (words lemma)

pub lemma_above : {L : Type 0} (words : L → List (List ℕ)) (lemma : L) → All (IsAbove 32) (words lemma) → All (IsAbove 32) (codes "lemma" ∷ words lemma)
lemma_above words lemma h = All-cons (IsAbove 32) (codes "lemma") (words lemma) (by_test 32 (codes "lemma") refl) h
