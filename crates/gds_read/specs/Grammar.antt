-- The grammar of a library, as a recognizer of the list of its records: which records of the table are
-- allowed at which place, and the first record that is not right at its place.
use Rattle.std.specs.Prelude.{ℕ, ◌+◌, ◌%◌, ◌==◌, ◌||◌, ◌&&◌, not, nat_lt, is_some, Bool, true, false, List, [], ◌∷◌}
use Rattle.std.specs.Prelude.{length, get_or, drop, position, Option, Some, None, Result, Ok, Err, if◌then◌else◌}
use Rattle.cell_num.specs.Steps.{◌>>=◌}
use Rattle.gds_record.specs.declared.record.GdsRec.{GdsRec}
use Rattle.gds_record.specs.declared.record.RecFault.{RecFault}
use Rattle.gds_record.specs.declared.types.RecordType.{RecordType}
use Rattle.gds_record.specs.declared.types.RecordType.TheVariants as record_type
use Rattle.gds_record.specs.Types.{type_numbered, data_type_of, data_number_of}
use Rattle.gds_record.specs.Records.{Item, records_from}
use Rattle.gds_read.specs.declared.grammar.ElementKind.{ElementKind}
use Rattle.gds_read.specs.declared.grammar.ElementKind.TheVariants as element
use Rattle.gds_read.specs.declared.grammar.Seen.{Seen}
use Rattle.gds_read.specs.declared.grammar.Place.{Place}
use Rattle.gds_read.specs.declared.grammar.Place.TheVariants.{Start, Opened, Library, Naming, Structure, Element, Ended}
use Rattle.gds_area.specs.declared.fault.GdsFault.{GdsFault}
use Rattle.gds_area.specs.declared.fault.GdsFault.TheVariants as fault
use Rattle.gds_area.specs.Faults.{as_fault}
use Rattle.gds_read.specs.Real.{picometres_at}

-- a record with its data
abbrev pub item_with : GdsRec → List ℕ → Item
item_with r content = record { at = r.at; code = r.code; form = r.form; content = content; next = r.next }

-- the element that a record begins
abbrev pub element_begun : RecordType → Option ElementKind
element_begun record_type.Boundary = Some element.Boundary
element_begun record_type.Path = Some element.Path
element_begun record_type.Text = Some element.Text
element_begun record_type.SRef = Some element.Other
element_begun record_type.ARef = Some element.Other
element_begun record_type.Node = Some element.Other
element_begun record_type.Box = Some element.Other
element_begun _ = None

abbrev pub nothing_seen : Seen
nothing_seen = record { layer = false; xy = false; width = false; path_type = false; string = false }

-- a boundary and a path have a layer and points, a text these and its characters
abbrev pub is_complete : ElementKind → Seen → Bool
is_complete element.Boundary seen = seen.layer && seen.xy
is_complete element.Path seen = seen.layer && seen.xy
is_complete element.Text seen = seen.layer && (seen.xy && seen.string)
is_complete element.Other seen = true

-- what an element has at most once
abbrev pub has_one_layer : ElementKind → Bool
has_one_layer element.Other = false
has_one_layer _ = true

abbrev pub has_one_width : ElementKind → Bool
has_one_width element.Boundary = true
has_one_width element.Path = true
has_one_width _ = false

abbrev pub has_one_string : ElementKind → Bool
has_one_string element.Text = true
has_one_string _ = false

abbrev pub is_allowed_inside : ElementKind → Seen → RecordType → Bool
is_allowed_inside kind seen record_type.Layer = not (has_one_layer kind) || not seen.layer
is_allowed_inside kind seen record_type.Xy = not (has_one_layer kind) || not seen.xy
is_allowed_inside kind seen record_type.Width = not (has_one_width kind) || not seen.width
is_allowed_inside kind seen record_type.PathType = not (has_one_width kind) || not seen.path_type
is_allowed_inside kind seen record_type.StringText = not (has_one_string kind) || not seen.string
is_allowed_inside kind seen record_type.DataType = true
is_allowed_inside kind seen record_type.TextType = true
is_allowed_inside kind seen record_type.SName = true
is_allowed_inside kind seen record_type.ColRow = true
is_allowed_inside kind seen record_type.Presentation = true
is_allowed_inside kind seen record_type.STrans = true
is_allowed_inside kind seen record_type.Mag = true
is_allowed_inside kind seen record_type.Angle = true
is_allowed_inside kind seen record_type.PropAttr = true
is_allowed_inside kind seen record_type.PropValue = true
is_allowed_inside kind seen record_type.EndEl = is_complete kind seen
is_allowed_inside kind seen _ = false

abbrev pub seen_with : Seen → RecordType → Seen
seen_with seen record_type.Layer = record seen { layer = true }
seen_with seen record_type.Xy = record seen { xy = true }
seen_with seen record_type.Width = record seen { width = true }
seen_with seen record_type.PathType = record seen { path_type = true }
seen_with seen record_type.StringText = record seen { string = true }
seen_with seen _ = seen

-- where the grammar allows a record of the table
abbrev pub is_allowed : Place → RecordType → Bool
is_allowed Start record_type.Header = true
is_allowed Opened record_type.BgnLib = true
is_allowed (Library named units structures) record_type.LibName = not named && not structures
is_allowed (Library named units structures) record_type.Units = not units
is_allowed (Library named units structures) record_type.BgnStr = units
is_allowed (Library named units structures) record_type.EndLib = units
is_allowed Naming record_type.StrName = true
is_allowed Structure record_type.EndStr = true
is_allowed Structure kind = is_some (element_begun kind)
is_allowed (Element kind seen) inner = is_allowed_inside kind seen inner
is_allowed _ _ = false

-- lengths of data that a record of the table can't have where it is allowed
abbrev pub has_wrong_length : Place → RecordType → ℕ → Bool
has_wrong_length _ record_type.Layer size = not (size == 2)
has_wrong_length _ record_type.PathType size = not (size == 2)
has_wrong_length _ record_type.Width size = not (size == 4)
has_wrong_length _ record_type.Units size = not (size == 16)
has_wrong_length (Element element.Text seen) record_type.Xy size = not (size == 8)
has_wrong_length _ record_type.Xy size = size == 0 || not (size % 8 == 0)
has_wrong_length _ _ _ = false

-- after a structure's record that begins no element the structure has ended
abbrev pub behind_structure : Option ElementKind → Place
behind_structure (Some kind) = Element kind nothing_seen
behind_structure None = Library true true true

-- the place after a record that is allowed
abbrev pub follows : Place → RecordType → Place
follows Start _ = Opened
follows Opened _ = Library false false false
follows (Library named units structures) record_type.LibName = Library true units structures
follows (Library named units structures) record_type.Units = Library named true structures
follows (Library named units structures) record_type.BgnStr = Naming
follows (Library named units structures) _ = Ended
follows Naming _ = Structure
follows Structure kind = behind_structure (element_begun kind)
follows (Element kind seen) record_type.EndEl = Structure
follows (Element kind seen) inner = Element kind (seen_with seen inner)
follows Ended _ = Ended

-- the database unit is a whole number of picometres from 1 to 1,000,000
abbrev pub is_wrong_unit : ℕ → Bool
is_wrong_unit picometres = nat_lt picometres 1 || nat_lt 1000000 picometres

abbrev pub with_unit : RecordType → Item → Place → Result Place GdsFault
with_unit record_type.Units r next =
    if is_wrong_unit (picometres_at r.content 8) then Err (fault.Unit (picometres_at r.content 8)) else Ok next
with_unit _ r next = Ok next

-- at a record of the table the faults are looked for in this order
abbrev pub known_step : Place → Item → RecordType → Result Place GdsFault
known_step place r kind =
    if not (is_allowed place kind) then Err (fault.Order r.at r.code) else
    if not (r.form == data_number_of (data_type_of kind)) then Err (fault.Kind r.at r.code) else
    if has_wrong_length place kind (length r.content) then Err (fault.Length r.at) else
    with_unit kind r (follows place kind)

-- another record is passed over, but not as the first
abbrev pub at_type : Place → Item → Option RecordType → Result Place GdsFault
at_type Start r None = Err (fault.Order r.at r.code)
at_type place r None = Ok place
at_type place r (Some kind) = known_step place r kind

-- a record at a place: the place after it, or its first fault
abbrev pub step_of : Place → Item → Result Place GdsFault
step_of place r = at_type place r (type_numbered r.code)

-- after the end there are zero bytes alone
abbrev pub first_behind : List ℕ → ℕ → Option ℕ → Result ℕ GdsFault
first_behind bytes from None = Ok from
first_behind bytes from (Some more) = Err (fault.Order (from + more) (get_or bytes (from + more) 0))

abbrev pub zeros_behind : List ℕ → ℕ → Result ℕ GdsFault
zeros_behind bytes from = first_behind bytes from (position (λ b. not (b == 0)) (drop from bytes))

abbrev pub goes_on : Place → Result ℕ GdsFault → Result ℕ GdsFault → Result ℕ GdsFault
goes_on Ended behind rest = behind
goes_on _ behind rest = rest

-- The records of the library, up to its end: the place after them, or the fault of the first record
-- that is not right at its place.
unfoldable pub pass : List ℕ → Place → List Item → RecFault → Result ℕ GdsFault
pass bytes place [] end = Err (as_fault end)
pass bytes place (r ∷ rs) end =
    step_of place r >>= λ next. goes_on next (zeros_behind bytes r.next) (pass bytes next rs end)

abbrev pub pass_from : List ℕ → Place → ℕ → Result ℕ GdsFault
pass_from bytes place at = pass bytes place (records_from bytes at).items (records_from bytes at).fault

-- the place after the library, or the first fault
abbrev pub first_pass_of : List ℕ → Result ℕ GdsFault
first_pass_of bytes = pass_from bytes Start 0
