-- What a call of `check` reports.
use Rattle.std.specs.Prelude.{◌≡◌, ◌⊎◌, Option}
use Rattle.cell_io.specs.Desk.{Files}
use Rattle.call_end.specs.declared.status.Status.{Status}
use Rattle.call_end.specs.declared.status.Status.TheVariants.{Done}
use Rattle.call_words.specs.Words.{Form}
use Rattle.call_work.specs.Commands.{Checking}
use Rattle.cell_run.specs.Ended.{Gathers, IsOfKind}
use Rattle.cell_run.specs.Evidence.{IsTextOfAccepted, IsTextOfCrowded}

-- the inputs are there and accepted, and the file is the text of evidence that is accepted for them
abbrev pub HoldsAccepted : Files → Option Form → Type 0
HoldsAccepted files form = Gathers Checking files form (λ m. IsTextOfAccepted m.evidence m.inputs m.bytes)

-- the file is the text of evidence with a gate whose fingers pair in more ways than a checker lists
abbrev pub HoldsCrowded : Files → Option Form → Type 0
HoldsCrowded files form = Gathers Checking files form (λ m. IsTextOfCrowded m.evidence m.inputs m.bytes)

-- it is done only where the evidence is accepted; and there it is, or a gate has too many ways
abbrev pub IsDoneWhereHeld : Files → Option Form → Status → Type 0
IsDoneWhereHeld files form answer =
    (answer ≡ Done → HoldsAccepted files form)
    × (HoldsAccepted files form → (answer ≡ Done) ⊎ HoldsCrowded files form)

abbrev pub IsCheck : Option Form → Type 0
IsCheck form = IsOfKind Checking form
