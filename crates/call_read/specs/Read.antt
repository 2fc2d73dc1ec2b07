-- One file, read over a desk.
use Rattle.std.specs.Prelude.{ℕ, ◌≡◌, ◌⊎◌, List, Result, Ok, Err}
use Rattle.cell_io.specs.Desk.{View, Rose}
use Rattle.call_read.specs.declared.read.Source.{Source as Asked}
use Rattle.call_read.specs.declared.read.Source.TheVariants as asked
use Rattle.call_read.specs.declared.refusal.Refusal.{Refusal}
use Rattle.call_read.specs.declared.refusal.Refusal.TheVariants.{Unread, NoMemory}
use Rattle.call_read.specs.Sources.{Source, TechFile, SpiceFile, LogFile, GdsFile, LefFile, TrailFile, TrackFile}
use Rattle.call_read.specs.Sources.{MayRead}

-- the program's source, by its text
abbrev pub named : Asked → Source
named (asked.Tech name) = TechFile name.now
named (asked.Spice name) = SpiceFile name.now
named (asked.Log name) = LogFile name.now
named (asked.Gds name) = GdsFile name.now
named (asked.Lef name) = LefFile name.now
named (asked.Trails name) = TrailFile name.now
named (asked.Tracks name) = TrackFile name.now

-- it was read so, or memory ran out
abbrev pub IsRead : View → View → Source → Result (List ℕ) Refusal → Type 0
IsRead old new source read =
    MayRead old.given (Rose old.read_faults new.read_faults) source read ⊎ (read ≡ Err NoMemory)

-- no reading failed, but where a file was refused as unread, or memory ran out
abbrev pub KeepsReadsBut : Refusal → View → View → Type 0
KeepsReadsBut (Unread name) old new = Unit {0}
KeepsReadsBut NoMemory old new = Unit {0}
KeepsReadsBut _ old new = new.read_faults ≡ old.read_faults

abbrev pub KeepsReads : {A : Type 0} → Result A Refusal → View → View → Type 0
KeepsReads (Ok x) old new = new.read_faults ≡ old.read_faults
KeepsReads (Err e) old new = KeepsReadsBut e old new
