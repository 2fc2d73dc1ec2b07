-- The fingers of a subcircuit: each transistor is cut into as few fingers as its row's greatest width and
-- the number that is asked for allow, whose widths differ by one unit at most.
use Rattle.std.specs.Prelude.{ℕ, ◌+◌, ◌-◌, ◌/◌, ◌%◌, ◌^◌, nat_le, List, ◌++◌, length}
use Rattle.std.specs.Prelude.{min, max, filter, flat_map, replicate, Result, Ok}
use Rattle.std.specs.Int.{div_ceil}
use Rattle.cell_num.specs.declared.finger.Row.{Row}
use Rattle.cell_num.specs.declared.finger.Row.TheVariants.{P, N}
use Rattle.cell_num.specs.declared.finger.Finger.{Finger}
use Rattle.cell_num.specs.declared.finger.Fingers.{Fingers}
use Rattle.cell_num.specs.Fingers.{columns_of}
use Rattle.cell_num.specs.Tests.{same_row}
use Rattle.tech_file.specs.Technology.{Technology}
use Rattle.spice_net.specs.declared.subckt.Device.{Device}
use Rattle.spice_net.specs.declared.subckt.Subckt.{Subckt}
use Rattle.cell_num.specs.Steps.{require, ◌>>=◌}
use Rattle.finger_fold.specs.declared.folding.FoldFault.{FoldFault}
use Rattle.finger_fold.specs.declared.folding.FoldFault.TheVariants as fault

-- the greatest width of a finger in a row
abbrev pub widest : Technology → Row → ℕ
widest tech P = tech.wmax_p
widest tech N = tech.wmax_n

-- how many fingers a transistor has: as few as the widest finger allows, and at least as many as are asked for
abbrev pub count_of : Technology → Device → ℕ
count_of tech d = max (div_ceil d.width (widest tech d.row)) d.fingers

-- a finger of a transistor, with its lower-numbered end net first
abbrev pub finger_of : Device → ℕ → Finger
finger_of d width = record {
  row = d.row;
  gate = d.gate;
  lo = record { 0 = min d.drain.0 d.source.0 };
  hi = record { 0 = max d.drain.0 d.source.0 };
  width = width;
}

-- W units over k fingers, W = q * k + r with r below k: r fingers of q + 1 units, and then k - r of q units
abbrev pub shared_out : Device → ℕ → List Finger
shared_out d k =
    replicate (d.width % k) (finger_of d (d.width / k + 1)) ++ replicate (k - d.width % k) (finger_of d (d.width / k))

abbrev pub fingers_of : Technology → Device → List Finger
fingers_of tech d = shared_out d (count_of tech d)

-- the fingers of a row, in the order of their transistors
abbrev pub fingers_in : Row → Technology → List Device → List Finger
fingers_in row tech devices = flat_map (fingers_of tech) (filter (λ d. same_row d.row row) devices)

abbrev pub all_fingers : Technology → Subckt → Fingers
all_fingers tech cell =
    record { nets = length cell.nets; p = fingers_in P tech cell.devices; n = fingers_in N tech cell.devices }

-- a count as a fault reports it: at most the greatest number of 64 bits
abbrev pub saturated : ℕ → ℕ
saturated count = min count (2 ^ 64 - 1)

abbrev pub most_fingers : ℕ
most_fingers = 64

abbrev pub most_columns : ℕ
most_columns = 32

abbrev pub within_limits : Fingers → Result Fingers FoldFault
within_limits f = do
  _ ← require (nat_le (length f.p) most_fingers) (fault.TooManyFingers (saturated (length f.p)))
  _ ← require (nat_le (length f.n) most_fingers) (fault.TooManyFingers (saturated (length f.n)))
  _ ← require (nat_le (columns_of f) most_columns) (fault.TooManyColumns (columns_of f))
  Ok f

-- the fingers of a subcircuit: at most 64 in a row, in at most 32 columns; or the first limit passed
abbrev pub folded : Technology → Subckt → Result Fingers FoldFault
folded tech cell = within_limits (all_fingers tech cell)
