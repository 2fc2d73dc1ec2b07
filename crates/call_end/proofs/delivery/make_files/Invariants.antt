use Rattle.std.proofs.Common.{ℕ, List, Option, drop, length}
use Rattle.cell_io.specs.Desk.{Files, Both, IsQuiet, OnlyMakes}
use Rattle.call_end.specs.Deliver.{CreatesAll, CreatesFront, MakesAll, MakesSome}
use Rattle.call_end.proofs.delivery.make_files.Given as goal

-- all that is left, made from here on, makes all; and so a part of it; and so of creations
abbrev pub invariant-files : goal.invariant-files
invariant-files g l =
    ((last : Option Files) → Both (MakesAll (drop (length l.yielded) l.fn.files)) (g.D.Desk.view l.desk).made last → Both (MakesAll l.fn.files) (g.D.Desk.view l.fn.desk).made last)
    × ((last : Option Files) → Both (MakesSome (drop (length l.yielded) l.fn.files)) (g.D.Desk.view l.desk).made last → Both (MakesSome l.fn.files) (g.D.Desk.view l.fn.desk).made last)
    × OnlyMakes (g.D.Desk.view l.fn.desk) (g.D.Desk.view l.desk)
    × IsQuiet (g.D.Desk.view l.fn.desk) (g.D.Desk.view l.desk)
    × ((last : Option (List (List ℕ))) → Both (CreatesAll (drop (length l.yielded) l.fn.files)) (g.D.Desk.view l.desk).created last → Both (CreatesAll l.fn.files) (g.D.Desk.view l.fn.desk).created last)
    × ((last : Option (List (List ℕ))) → Both (CreatesFront (drop (length l.yielded) l.fn.files)) (g.D.Desk.view l.desk).created last → Both (CreatesFront l.fn.files) (g.D.Desk.view l.fn.desk).created last)
