-- What a reference says: which structure it names, and where its copies are.
use Rattle.std.specs.Prelude.{ℕ, suc, ◌≡◌, ◌≤◌, ◌+◌, ◌*◌, ◌==◌, ◌&&◌, ◌||◌, not, nat_lt}
use Rattle.std.specs.Prelude.{Bool, true, false, ℤ, pos, ◌+ℤ◌, ◌-ℤ◌, ◌*ℤ◌, unsigned_abs}
use Rattle.std.specs.Prelude.{List, [], ◌∷◌, length, find, option_map, Option, Some, None, if◌then◌else◌}
use Rattle.std.specs.Int.{int_div_euclid, int_rem_euclid}
use Rattle.gds_record.specs.declared.types.RecordType.{RecordType}
use Rattle.gds_record.specs.declared.types.RecordType.TheVariants as record_type
use Rattle.gds_record.specs.Records.{Item, items_from}
use Rattle.gds_area.specs.declared.point.Point.{Point}
use Rattle.gds_area.specs.declared.placement.Turn.{Turn}
use Rattle.gds_area.specs.declared.placement.Turn.TheVariants as turn
use Rattle.gds_area.specs.declared.placement.Move.{Move}
use Rattle.gds_read.specs.declared.reference.Facing.{Facing}
use Rattle.gds_read.specs.declared.lattice.Counts.{Counts}
use Rattle.gds_read.specs.declared.lattice.Lattice.{Lattice}
use Rattle.gds_read.specs.declared.reference.Array.{Array}
use Rattle.gds_read.specs.Structure.{is_type, trimmed, behind_name}
use Rattle.gds_area.specs.Points.{point_at}
use Rattle.gds_read.specs.Elements.{xy_of}
use Rattle.gds_read.specs.Real.{word_at, is_whole, is_zero}

-- ---- the structure

abbrev pub the_one : List (List Item) → Option (List Item)
the_one (one ∷ []) = Some one
the_one _ = None

-- exactly one structure has the name
abbrev pub named_in : List Item → Option Item → Option (List Item)
named_in records None = None
named_in records (Some name) = the_one (behind_name (trimmed name.content) records)

abbrev pub target_in : List Item → List Item → Option (List Item)
target_in records inside = named_in records (find (is_type record_type.SName) inside)

-- the records after its name begin at a place
abbrev pub Targets : List ℕ → Option ℕ → Option (List Item) → Type 0
Targets bytes (Some place) (Some one) = (one ≡ items_from bytes place) × (place ≤ length bytes)
Targets bytes None None = Unit {0}
Targets bytes _ _ = ⊥

-- ---- how often a record is there

abbrev pub times : RecordType → List Item → ℕ
times kind [] = 0
times kind (r ∷ rs) = if is_type kind r then suc (times kind rs) else times kind rs

abbrev pub stands_twice : RecordType → List Item → Bool
stands_twice kind records = nat_lt 1 (times kind records)

abbrev pub repeats : List Item → Bool
repeats inside =
    stands_twice record_type.SName inside
    || (stands_twice record_type.Xy inside
    || (stands_twice record_type.ColRow inside
    || (stands_twice record_type.STrans inside
    || (stands_twice record_type.Mag inside
    || stands_twice record_type.Angle inside))))

-- the data of the first record of a type, if there is one
abbrev pub data_in : RecordType → List Item → Option (List ℕ)
data_in kind records = option_map (λ (r : Item). r.content) (find (is_type kind) records)

-- ---- which way it faces

-- the first of sixteen bits
abbrev pub first_bit : List ℕ → Option Bool
first_bit (high ∷ low ∷ []) = Some (not (nat_lt high 128))
first_bit _ = None

abbrev pub mirror_told : Option (List ℕ) → Option Bool
mirror_told None = Some false
mirror_told (Some bits) = first_bit bits

abbrev pub turn_of : ℕ → Option Turn
turn_of word =
    if is_zero word then Some turn.Zero else
    if is_whole 90 word then Some turn.Quarter else
    if is_whole 180 word then Some turn.Half else
    if is_whole 270 word then Some turn.ThreeQuarters else None

abbrev pub turn_told : Option (List ℕ) → Option Turn
turn_told None = Some turn.Zero
turn_told (Some angle) = if length angle == 8 then turn_of (word_at angle 0) else None

-- nothing is magnified
abbrev pub is_full_size : Option (List ℕ) → Bool
is_full_size None = true
is_full_size (Some size) = length size == 8 && is_whole 1 (word_at size 0)

abbrev pub faces : Option Bool → Option Turn → Option Facing
faces (Some mirrored) (Some turn) = Some (record { mirrored = mirrored; turn = turn })
faces _ _ = None

abbrev pub facing_of : List Item → Option Facing
facing_of inside =
    if is_full_size (data_in record_type.Mag inside)
    then faces (mirror_told (data_in record_type.STrans inside)) (turn_told (data_in record_type.Angle inside))
    else None

-- ---- where its copies are

abbrev pub is_count : ℕ → Bool
is_count n = nat_lt 0 n && nat_lt n 32768

abbrev pub counts_of : ℕ → ℕ → Option Counts
counts_of columns rows =
    if is_count columns && is_count rows then Some (record { columns = columns; rows = rows }) else None

-- two numbers of two bytes, each 1 or more in two's complement
abbrev pub two_counts : List ℕ → Option Counts
two_counts (a ∷ b ∷ c ∷ d ∷ []) = counts_of (256 * a + b) (256 * c + d)
two_counts _ = None

abbrev pub counts_told : Option (List ℕ) → Option Counts
counts_told None = None
counts_told (Some content) = two_counts content

abbrev pub divides : ℕ → ℤ → Bool
divides n z = unsigned_abs (int_rem_euclid z (pos n)) == 0

-- N equal steps of whole file units lead from one point to another
abbrev pub has_steps : ℕ → Point → Point → Bool
has_steps n p q = divides n (q.x -ℤ p.x) && divides n (q.y -ℤ p.y)

abbrev pub lattice_on : Point → Point → Point → Option Counts → Option Lattice
lattice_on p q s None = None
lattice_on p q s (Some n) =
    if has_steps n.columns p q && has_steps n.rows p s
    then Some (record { first = p; behind_columns = q; behind_rows = s; columns = n.columns; rows = n.rows })
    else None

abbrev pub single : Point → Lattice
single p = record { first = p; behind_columns = p; behind_rows = p; columns = 1; rows = 1 }

abbrev pub may_stand : Option (List ℕ) → Bool
may_stand None = true
may_stand (Some counts) = length counts == 4

-- one point of SREF, or three points of AREF: the first, and it moved by all columns and by all rows
abbrev pub lattice_of : RecordType → List ℕ → Option (List ℕ) → Option Lattice
lattice_of record_type.SRef xy counts =
    if length xy == 8 && may_stand counts then Some (single (point_at 0 xy)) else None
lattice_of record_type.ARef xy counts =
    if length xy == 24
    then lattice_on (point_at 0 xy) (point_at 8 xy) (point_at 16 xy) (counts_told counts)
    else None
lattice_of _ xy counts = None

abbrev pub facing_on : Option Facing → Option Lattice → Option Array
facing_on (Some facing) (Some lattice) = Some (record { facing = facing; lattice = lattice })
facing_on _ _ = None

abbrev pub array_of : RecordType → List Item → Option Array
array_of kind inside =
    if repeats inside then None else
    facing_on (facing_of inside) (lattice_of kind (xy_of inside) (data_in record_type.ColRow inside))

-- PART of the WHOLE number of steps that lead from one coordinate to another
abbrev pub shift : ℤ → ℤ → ℕ → ℕ → ℤ
shift from to part whole = pos part *ℤ int_div_euclid (to -ℤ from) (pos whole)

abbrev pub copy_at : Array → ℕ → ℕ → Move
copy_at a column row = record {
  mirrored = a.facing.mirrored;
  turn = a.facing.turn;
  x = a.lattice.first.x
      +ℤ (shift a.lattice.first.x a.lattice.behind_columns.x column a.lattice.columns
      +ℤ shift a.lattice.first.x a.lattice.behind_rows.x row a.lattice.rows);
  y = a.lattice.first.y
      +ℤ (shift a.lattice.first.y a.lattice.behind_columns.y column a.lattice.columns
      +ℤ shift a.lattice.first.y a.lattice.behind_rows.y row a.lattice.rows);
}
