-- A list whose items are written at their places.
use Rattle.std.specs.Prelude.{List, ◌++◌, length, take, drop}

-- `old` with the items of `new` in place of its own, one for one: `new` itself where both have one length
abbrev pub overwritten : {X : Type 0} → List X → List X → List X
overwritten old new = take (length old) (new ++ drop (length new) old)
