-- A text of a log that is ready to be given.
use Rattle.std.specs.Prelude.{ℕ, ◌≡◌, List, [], All}
use Rattle.bound_log.specs.declared.log.Lemma.{Lemma}
use Rattle.bound_log.specs.declared.log.Log.{Log}
use Rattle.bound_log.specs.Fits.{Fits, ForSome, IsLogName}
use Rattle.bound_log.specs.Kept.{HasRoom}

-- What the lines of a log ask for: a name that is in a line, lemmas and columns that a text can hold, room for each
-- lemma, and an empty block.
pub record CanBeGiven (name : List ℕ) (log : Log) (lemma : Lemma) (block : List ℕ) : Type 0 where
  pub named : IsLogName name
  pub fits : ForSome (λ k. Fits k log)
  pub room : All (HasRoom lemma) log.lemmas
  pub empty : block ≡ []
