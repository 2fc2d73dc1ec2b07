-- Bytes that go to the end of a file or of what was said.
use Rattle.std.specs.Prelude.{ℕ, List, Option, Some, None, IfSome}
use Rattle.cell_io.specs.Desk.{View, Rose, Both, AddsPart, AppendedIn, IsHeld, OnlyAppends, OnlySays}

-- a place to put bytes: a file by name, or, without one, what is said
abbrev pub Place : Type 0
Place = Option (List ℕ)

-- the file that is put into was made
abbrev pub CanPut : Place → View → Type 0
CanPut None view = Unit {0}
CanPut (Some name) view = IfSome view.made (λ files. IsHeld files name)

-- the first bytes of a part were put there, and no more
abbrev pub Puts : Place → List ℕ → ℕ → View → View → Type 0
Puts None part count old new = Both (AddsPart part count) old.said new.said × OnlySays old new
Puts (Some name) part count old new = Both (AppendedIn name part count) old.made new.made × OnlyAppends old new

-- neither the count of failed writes nor that of short memory rose
pub record IsSpared (old new : View) : Type 0 where
  pub writes : Rose old.write_faults new.write_faults → ⊥
  pub shorts : Rose old.shorts new.shorts → ⊥
