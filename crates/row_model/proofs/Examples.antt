-- The definitions, computed on small cells.
use Rattle.std.proofs.Common.{ℕ, ◌≡◌, List, [], ◌∷◌, Some, None, true, false, refl}
use Rattle.cell_num.specs.declared.net.NetNo.{NetNo}
use Rattle.cell_num.specs.declared.finger.Row.{Row}
use Rattle.cell_num.specs.declared.finger.Row.TheVariants.{P, N}
use Rattle.cell_num.specs.declared.finger.Finger.{Finger}
use Rattle.cell_num.specs.declared.finger.Fingers.{Fingers}
use Rattle.row_model.specs.declared.column.Placed.{Placed}
use Rattle.row_model.specs.declared.column.Column.{Column}
use Rattle.row_model.specs.Arrangement.{IsArrangement}
use Rattle.row_model.specs.Gaps.{gaps_of}
use Rattle.row_model.proofs.Decide.{arrangement_decides}

abbrev net : ℕ → NetNo
net n = record { 0 = n }

abbrev finger : Row → ℕ → ℕ → ℕ → Finger
finger row gate lo hi = record { row = row; gate = net gate; lo = net lo; hi = net hi; width = 20 }

abbrev unflipped : Finger → Placed
unflipped f = record { finger = f; flipped = false }

abbrev flipped : Finger → Placed
flipped f = record { finger = f; flipped = true }

-- a NAND2 of the gates 0 and 1, its output 2, its inner net 3, vdd 4 and gnd 5
abbrev nand : List Column
nand =
    record { p = Some (unflipped (finger P 0 2 4)); n = Some (unflipped (finger N 0 2 3)) }
    ∷ record { p = Some (flipped (finger P 1 2 4)); n = Some (unflipped (finger N 1 3 5)) }
    ∷ []

abbrev nand_fingers : Fingers
nand_fingers = record { nets = 6; p = finger P 1 2 4 ∷ finger P 0 2 4 ∷ []; n = finger N 0 2 3 ∷ finger N 1 3 5 ∷ [] }

nand_is_arranged : IsArrangement nand nand_fingers
nand_is_arranged = (arrangement_decides nand nand_fingers).0 refl

nand_has_no_gap : gaps_of nand ≡ 0
nand_has_no_gap = refl

-- two inverters with the outputs 2 and 3, both unflipped
two_have_a_gap : gaps_of (record { p = Some (unflipped (finger P 0 2 4)); n = Some (unflipped (finger N 0 2 5)) } ∷ record { p = Some (unflipped (finger P 1 3 4)); n = Some (unflipped (finger N 1 3 5)) } ∷ []) ≡ 1
two_have_a_gap = refl

-- half columns never face each other
halves_have_no_gap : gaps_of (record { p = None; n = Some (unflipped (finger N 2 0 1)) } ∷ record { p = Some (unflipped (finger P 3 0 1)); n = None } ∷ []) ≡ 0
halves_have_no_gap = refl

empty_has_no_gap : gaps_of [] ≡ 0
empty_has_no_gap = refl
