-- What the elements of a structure draw, with the structures that they refer to.
use Rattle.std.specs.Prelude.{ℕ, zero, suc, ◌≡◌, ◌≤◌, ◌+◌, ◌-◌, List, Option, Some, None, Result, Ok, Err}
use Rattle.std.specs.List.{range_with_len}
use Rattle.box_geom.specs.declared.shape.Shapes.{Shapes}
use Rattle.gds_record.specs.declared.types.RecordType.{RecordType}
use Rattle.gds_record.specs.declared.types.RecordType.TheVariants as record_type
use Rattle.gds_record.specs.Types.{type_numbered}
use Rattle.gds_record.specs.Records.{Item, item_of, record_at, items_from}
use Rattle.gds_record.specs.declared.record.GdsRec.{GdsRec}
use Rattle.gds_record.specs.declared.record.RecFault.{RecFault}
use Rattle.gds_area.specs.declared.fault.GdsFault.{GdsFault}
use Rattle.gds_area.specs.declared.fault.GdsFault.TheVariants as fault
use Rattle.gds_area.specs.declared.units.Grid.{Grid}
use Rattle.gds_area.specs.declared.placement.Move.{Move}
use Rattle.gds_read.specs.declared.reference.Array.{Array}
use Rattle.gds_area.specs.declared.progress.Progress.{Progress}
use Rattle.gds_area.specs.declared.progress.Origin.{Origin}
use Rattle.gds_area.specs.declared.progress.Context.{Context}
use Rattle.gds_read.specs.declared.reference.Copies.{Copies}
use Rattle.gds_read.specs.Structure.{trimmed}
use Rattle.gds_area.specs.Moves.{composed, IsNear}
use Rattle.gds_area.specs.Progress.{plain, no_progress, one_reference, both, within_limit, in_order, origin_of}
use Rattle.gds_read.specs.References.{target_in, array_of, copy_at}
use Rattle.gds_read.specs.Elements.{Element, until, element_of, elements_of, content_of, xy_place}
use Rattle.gds_read.specs.Elements.{areas_of, drawn_on, draw_context_for, text_spot, with_label}
use Rattle.cell_num.specs.Steps.{◌>>=◌, or_fault}

-- all records of a file, and its grid
pub record File : Type 0 where
  pub grid : Grid
  pub records : List Item

abbrev pub file_of : Grid → List ℕ → File
file_of grid bytes = record { grid = grid; records = items_from bytes 0 }

-- what a structure draws where it is referred to
abbrev pub Below : Type 0
Below = Origin → ℕ → List Element → Result Progress GdsFault

-- ---- references

abbrev pub inside_copy : Origin → Move → Origin
inside_copy origin m = record { stands = composed origin.stands m; outer = origin.outer }

abbrev pub row_of : Below → Origin → List Element → Array → ℕ → ℕ → Result Progress GdsFault
row_of below origin elements array count row =
    in_order (λ n column. below (inside_copy origin (copy_at array column row)) n elements)
    count (range_with_len 0 array.lattice.columns)

-- row by row, and in each row column by column
abbrev pub copies_of : Below → Origin → List Element → Array → ℕ → Result Progress GdsFault
copies_of below origin elements array count =
    in_order (λ n row. row_of below origin elements array n row) count (range_with_len 0 array.lattice.rows)

abbrev pub referred : Below → File → Origin → ℕ → Element → RecordType → Result Progress GdsFault
referred below file origin count e kind =
    or_fault (target_in file.records e.inside) (fault.Reference e.at)
    >>= λ target. or_fault (array_of kind e.inside) (fault.Reference e.at)
    >>= λ array. copies_of below origin (elements_of target) array count

-- ---- elements

abbrev pub drawn_from : Grid → Origin → ℕ → List Item → RecordType → Result Progress GdsFault
drawn_from grid origin count inside kind =
    drawn_on origin.outer count (draw_context_for grid origin.stands inside) (areas_of (xy_place inside) inside kind)

-- The labels of a structure that is referred to are not taken.
abbrev pub text_by : Grid → Option Origin → Element → Result Progress GdsFault
text_by grid None e =
    text_spot grid e >>= λ spot. Ok (plain (with_label (trimmed (content_of record_type.StringText e.inside)) spot))
text_by grid (Some origin) e = Ok no_progress

-- what an element draws, or its first fault
abbrev pub element_by : Below → File → Option Origin → ℕ → Element → RecordType → Result Progress GdsFault
element_by below file origin count e record_type.Boundary =
    drawn_from file.grid (origin_of origin e.at) count e.inside record_type.Boundary
element_by below file origin count e record_type.Path =
    drawn_from file.grid (origin_of origin e.at) count e.inside record_type.Path
element_by below file origin count e record_type.Text = text_by file.grid origin e
element_by below file origin count e record_type.SRef =
    referred below file (origin_of origin e.at) count e record_type.SRef
element_by below file origin count e record_type.ARef =
    referred below file (origin_of origin e.at) count e record_type.ARef
element_by below file origin count e _ = Ok no_progress

-- what elements draw in order, or the first fault; the number is of what was taken before
abbrev pub one_level : Below → File → Option Origin → ℕ → List Element → Result Progress GdsFault
one_level below file origin count elements = in_order (λ n e. element_by below file origin n e e.kind) count elements

-- The copy of a structure is one reference more, and then its elements are drawn. N references at most may
-- be inside one another.
unfoldable pub flat : ℕ → File → Below
flat zero file = λ origin count elements. Err (fault.Deep origin.outer)
flat (suc levels) file = λ origin count elements.
    within_limit origin.outer count one_reference
    >>= λ one. one_level (flat levels file) file (Some origin) (count + 1) elements
    >>= λ rest. Ok (both one rest)

abbrev pub drawn_by : File → ℕ → Element → RecordType → Result Progress GdsFault
drawn_by file count e kind = element_by (flat 16 file) file None count e kind

-- what the elements of a structure itself draw in order, or the first fault
unfoldable pub drawn : File → ℕ → List Element → Result Progress GdsFault
drawn file count elements = one_level (flat 16 file) file None count elements

-- ---- what the functions give that draw

abbrev pub Gives : Result Shapes GdsFault → Result Progress GdsFault → Type 0
Gives (Ok shapes) read = (read >>= λ progress. Ok progress.shapes) ≡ Ok shapes
Gives (Err fault.NoMemory) read = Unit {0}
Gives (Err f) read = read ≡ Err f

-- with the room that a context leaves for further references
pub record IsContext (context : Context) : Type 0 where
  pub lambda : 1 ≤ context.grid.lambda_nm
  pub unit : context.grid.picometres ≤ 1000000000000000000
  pub levels : context.levels ≤ 16
  pub near : IsNear (16 - context.levels) (origin_of context.origin 0).stands

-- what a record of some bytes draws that begins an element, and what is drawn from a place on
abbrev pub element_in : List ℕ → Context → ℕ → Element → RecordType → Result Progress GdsFault
element_in bytes context count e kind =
    element_by (flat context.levels (file_of context.grid bytes)) (file_of context.grid bytes)
    context.origin count e kind

abbrev pub record_in : List ℕ → Context → ℕ → Item → List Item → Option RecordType → Result Progress GdsFault
record_in bytes context count r rs None = Ok no_progress
record_in bytes context count r rs (Some kind) =
    element_in bytes context count (record { kind = kind; at = r.at; inside = until record_type.EndEl rs }) kind

abbrev pub drawn_record : List ℕ → Context → ℕ → GdsRec → Result Progress GdsFault
drawn_record bytes context count r =
    record_in bytes context count (item_of bytes r) (items_from bytes r.next) (type_numbered r.code)

abbrev pub drawn_in : List ℕ → Context → ℕ → List Element → Result Progress GdsFault
drawn_in bytes context count elements =
    one_level (flat context.levels (file_of context.grid bytes)) (file_of context.grid bytes)
    context.origin count elements

abbrev pub flat_in : List ℕ → Grid → ℕ → Origin → ℕ → ℕ → Result Progress GdsFault
flat_in bytes grid levels origin count place =
    flat levels (file_of grid bytes) origin count (elements_of (items_from bytes place))

-- what the elements draw whose first records are at some places
abbrev pub drawn_told : List ℕ → Context → ℕ → Result GdsRec RecFault → Result Progress GdsFault
drawn_told bytes context count (Ok r) = drawn_record bytes context count r
drawn_told bytes context count (Err f) = Ok no_progress

abbrev pub drawn_at : List ℕ → Context → ℕ → ℕ → Result Progress GdsFault
drawn_at bytes context count place = drawn_told bytes context count (record_at bytes place)

abbrev pub listed_in : List ℕ → Context → ℕ → List ℕ → Result Progress GdsFault
listed_in bytes context count places = in_order (drawn_at bytes context) count places

-- what a record draws in a copy that is placed so, before other records
abbrev pub in_copy : List ℕ → Grid → ℕ → Origin → ℕ → Item → List Item → Result Progress GdsFault
in_copy bytes grid levels origin count r rs =
    record_in bytes (record { grid = grid; origin = Some origin; levels = levels }) count r rs (type_numbered r.code)

-- copies of the structure whose name ends at a place
abbrev pub row_in : List ℕ → Context → Origin → Copies → ℕ → ℕ → Result Progress GdsFault
row_in bytes context origin copies count row =
    row_of (flat context.levels (file_of context.grid bytes)) origin (elements_of (items_from bytes copies.place))
    copies.array count row

abbrev pub copies_in : List ℕ → Context → Origin → Copies → ℕ → Result Progress GdsFault
copies_in bytes context origin copies count =
    copies_of (flat context.levels (file_of context.grid bytes)) origin (elements_of (items_from bytes copies.place))
    copies.array count

abbrev pub referred_in : List ℕ → Context → ℕ → GdsRec → RecordType → Result Progress GdsFault
referred_in bytes context count r kind =
    referred (flat context.levels (file_of context.grid bytes)) (file_of context.grid bytes)
    (origin_of context.origin r.at) count (element_of bytes r kind) kind
