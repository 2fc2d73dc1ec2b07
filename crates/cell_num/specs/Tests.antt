-- Tests that compute what is asked of fingers.
use Rattle.std.specs.List.{list_all}
use Rattle.std.specs.Prelude.{ℕ, Bool, true, false, ◌&&◌, nat_le, nat_lt}
use Rattle.cell_num.specs.declared.finger.Row.{Row}
use Rattle.cell_num.specs.declared.finger.Row.TheVariants.{P, N}
use Rattle.cell_num.specs.declared.finger.Finger.{Finger}
use Rattle.cell_num.specs.declared.finger.Fingers.{Fingers}
use Rattle.cell_num.specs.Fingers.{columns_of}

abbrev pub same_row : Row → Row → Bool
same_row P P = true
same_row N N = true
same_row _ _ = false

abbrev pub finger_test : Row → ℕ → Finger → Bool
finger_test at nets f = same_row f.row at && nat_le f.lo.0 f.hi.0 && nat_lt f.gate.0 nets && nat_lt f.hi.0 nets

abbrev pub fingers_test : Fingers → Bool
fingers_test f = nat_le f.nets 256 && list_all (finger_test P f.nets) f.p && list_all (finger_test N f.nets) f.n
    && nat_le (columns_of f) 32
