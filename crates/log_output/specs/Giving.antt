-- How a text goes to its place in pieces: lines gather in a block, whose bytes go there together.
use Rattle.std.specs.Prelude.{ℕ, ◌≡◌, List, ◌++◌, length, Some, None, Result, Ok, Err}
use Rattle.cell_io.specs.Desk.{View, IsQuiet, OnlyAppends, OnlySays}
use Rattle.cell_io.specs.Output.{Place, Puts}
use Rattle.cell_io.specs.declared.output.WriteFault.{WriteFault}
use Rattle.cell_io.specs.declared.output.WriteFault.TheVariants.{Failed, NoMemory}

-- a front of the bytes went there, and the rest is left
abbrev pub Gives : Place → List ℕ → List ℕ → View → View → Type 0
Gives place bytes left old new = (front : List ℕ) × (bytes ≡ front ++ left) × Puts place front (length front) old new

-- some front of the bytes went there
abbrev pub GivesSome : Place → List ℕ → View → View → Type 0
GivesSome place bytes old new = (left : List ℕ) × Gives place bytes left old new

-- nothing changed but that place, and the counts of failed writes and of short memory, which did not fall
abbrev pub OnlyPuts : Place → View → View → Type 0
OnlyPuts None old new = OnlySays old new
OnlyPuts (Some name) old new = OnlyAppends old new

-- no call of the desk failed except the one that the answer reports
abbrev pub KeepsUntold : {X : Type 0} → Result X WriteFault → View → View → Type 0
KeepsUntold (Ok x) old new = IsQuiet old new
KeepsUntold (Err Failed) old new = new.shorts ≡ old.shorts
KeepsUntold (Err NoMemory) old new = new.write_faults ≡ old.write_faults
