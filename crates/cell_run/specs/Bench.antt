-- What a call of `bench` reports.
use Rattle.std.specs.Prelude.{ℕ, ◌≡◌, ◌++◌, Option, Some}
use Rattle.cell_io.specs.Desk.{View, Both}
use Rattle.bench_command.specs.declared.tally.Tally.{Tally}
use Rattle.call_end.specs.declared.status.Status.{Status}
use Rattle.call_end.specs.declared.status.Status.TheVariants as status
use Rattle.bench_command.specs.Report.{IsCounted, bench_text}
use Rattle.call_end.specs.Deliver.{Says}
use Rattle.call_end.specs.Status.{first_line}
use Rattle.call_words.specs.Words.{Form, Bench}

abbrev pub IsBench : Option Form → Type 0
IsBench form = (number : ℕ) × (form ≡ Some (Bench number))

-- the counts were reported
pub record IsBenchTold (number : ℕ) (old new : View) : Type 0 where
  pub tally : Tally
  pub counted : IsCounted number tally
  pub says : Both (Says (first_line status.Done ++ bench_text number tally)) old.said new.said

-- where a call of `bench` is done, this holds of its number
abbrev pub WhereBenchEnds : Option Form → Status → (ℕ → Type 0) → Type 0
WhereBenchEnds form answer Is = (number : ℕ) → form ≡ Some (Bench number) → answer ≡ status.Done → Is number
