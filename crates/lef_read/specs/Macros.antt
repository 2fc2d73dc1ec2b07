-- The macro of a name in a LEF library, in grid units.
use Rattle.std.specs.Prelude.{ℕ, ◌==◌, Bool, ℤ, pos, unsigned_abs, List, [], ◌∷◌, Option, Some, None}
use Rattle.std.specs.Prelude.{Result, Ok, Err, bytes_eq, is_some, not, if◌then◌else◌}
use Rattle.std.specs.Int.{int_div_euclid, int_rem_euclid}
use Rattle.std.specs.List.{find, filter_map}
use Rattle.std.specs.Option.{option_map}
use Rattle.cell_num.specs.Steps.{◌>>=◌, or_fault}
use Rattle.box_geom.specs.Rectangle.{Rectangle}
use Rattle.lef_read.specs.Tokens.{tokens_from}
use Rattle.lef_read.specs.Reading.{Box, Item, Begins, Pin, Port, Obstruction, At, InLibrary, read}
use Rattle.lef_read.specs.declared.fault.LefFault.{LefFault}
use Rattle.lef_read.specs.declared.fault.LefFault.TheVariants.{NoMacro, Grid}
use Rattle.lef_read.specs.declared.cell.LefRect.{LefRect}
use Rattle.lef_read.specs.declared.cell.LefPin.{LefPin}
use Rattle.lef_read.specs.declared.cell.Macro.{Macro}

-- nanometres as a whole number of grid units
abbrev pub units_in : ℕ → ℤ → Option ℤ
units_in unit z =
    if unsigned_abs (int_rem_euclid z (pos unit)) == 0 then Some (int_div_euclid z (pos unit)) else None

abbrev pub with_sides : Option ℤ → Option ℤ → Option ℤ → Option ℤ → Option Rectangle
with_sides (Some x1) (Some y1) (Some x2) (Some y2) = Some (record { x1 = x1; y1 = y1; x2 = x2; y2 = y2 })
with_sides _ _ _ _ = None

abbrev pub sides_in : ℕ → Rectangle → Option Rectangle
sides_in unit r = with_sides (units_in unit r.x1) (units_in unit r.y1) (units_in unit r.x2) (units_in unit r.y2)

-- a rectangle in grid units, where all its sides are on the grid
abbrev pub rect_in : ℕ → Box → Option LefRect
rect_in unit box = option_map (λ r. record { layer = box.layer; rect = r }) (sides_in unit box.sides)

-- ---- what is in a macro

abbrev pub up_to_next : List Item → List Item
up_to_next [] = []
up_to_next (Begins name ∷ items) = []
up_to_next (i ∷ items) = i ∷ up_to_next items

-- the items of the first macro of a name
abbrev pub items_of : List ℕ → List Item → Option (List Item)
items_of name [] = None
items_of name (Begins n ∷ items) = if bytes_eq n name then Some (up_to_next items) else items_of name items
items_of name (i ∷ items) = items_of name items

-- the rectangles of ports up to the next pin
abbrev pub ports_in : List Item → List Box
ports_in [] = []
ports_in (Pin name ∷ items) = []
ports_in (Port box ∷ items) = box ∷ ports_in items
ports_in (i ∷ items) = ports_in items

abbrev pub pins_in : ℕ → List Item → List LefPin
pins_in unit [] = []
pins_in unit (Pin name ∷ items) =
    record { name = name; ports = filter_map (rect_in unit) (ports_in items) } ∷ pins_in unit items
pins_in unit (i ∷ items) = pins_in unit items

abbrev pub obstructions_in : List Item → List Box
obstructions_in [] = []
obstructions_in (Obstruction box ∷ items) = box ∷ obstructions_in items
obstructions_in (i ∷ items) = obstructions_in items

-- all rectangles
abbrev pub boxes_in : List Item → List Box
boxes_in [] = []
boxes_in (Port box ∷ items) = box ∷ boxes_in items
boxes_in (Obstruction box ∷ items) = box ∷ boxes_in items
boxes_in (i ∷ items) = boxes_in items

abbrev pub is_off_grid : ℕ → Box → Bool
is_off_grid unit box = not (is_some (rect_in unit box))

-- refused at the first rectangle off the grid
abbrev pub on_grid : Option Box → Macro → Result Macro LefFault
on_grid (Some box) m = Err (Grid box.line)
on_grid None m = Ok m

abbrev pub macro_of : ℕ → List ℕ → List Item → Result Macro LefFault
macro_of unit name items = on_grid (find (is_off_grid unit) (boxes_in items)) (record {
  name = name;
  pins = pins_in unit items;
  obstructions = filter_map (rect_in unit) (obstructions_in items);
})

-- the first macro of the name: all statements are looked at first, then the name is looked for, then the grid counts
abbrev pub macro_named : ℕ → List ℕ → List Item → Result Macro LefFault
macro_named unit name items = or_fault (items_of name items) NoMacro >>= λ own. macro_of unit name own

unfoldable pub macro_in : List ℕ → List ℕ → ℕ → Result Macro LefFault
macro_in bytes name unit = read (At InLibrary) (tokens_from 1 bytes) >>= λ items. macro_named unit name items
