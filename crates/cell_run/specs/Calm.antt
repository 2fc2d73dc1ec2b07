-- Calls whose reading and writing did not fail.
use Rattle.std.specs.Prelude.{◌≡◌, ◌⊎◌, Option, IfSome}
use Rattle.cell_io.specs.Desk.{Files, View, Rose}
use Rattle.call_end.specs.declared.status.Status.{Status}
use Rattle.call_end.specs.declared.status.Status.TheVariants.{Done, NoMemory}
use Rattle.call_words.specs.Words.{Form}

pub record IsCalm (old new : View) : Type 0 where
  pub reads : Rose old.read_faults new.read_faults → ⊥
  pub writes : Rose old.write_faults new.write_faults → ⊥

-- so it is of the files, where they are shown and the call was calm
abbrev pub IfCalm : View → View → (Files → Type 0) → Type 0
IfCalm old new Says = IfSome old.given (λ files. IsCalm old new → Says files)

-- where so it is of the files and the form, and the call was calm, it ends with this status, or memory ran out
abbrev pub EndsSo : View → View → Option Form → Status → Status → (Files → Option Form → Type 0) → Type 0
EndsSo old new form answer settled Holds =
    IfCalm old new (λ files. Holds files form → (answer ≡ settled) ⊎ (answer ≡ NoMemory))

abbrev pub IsDoneOrShort : Status → Type 0
IsDoneOrShort answer = (answer ≡ Done) ⊎ (answer ≡ NoMemory)
