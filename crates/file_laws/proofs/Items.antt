-- What the items of a macro come to, from the last one to the first.
use Rattle.std.proofs.Common.{ℕ, ◌≡◌, true, List, [], ◌∷◌, Some, None, Ok, filter_map, refl, ap}
use Rattle.std.specs.Prelude.{bytes_eq}
use Rattle.std.specs.List.{find}
use Rattle.std.proofs.lemmas.Slice.Eq.{bytes_eq-Decides}
use Rattle.lef_read.specs.Macros.{rect_in, up_to_next, ports_in, pins_in, obstructions_in, boxes_in, is_off_grid, macro_named}
use Rattle.lef_read.specs.Reading.{Box, Item, Begins, Pin, Port, Obstruction}
use Rattle.lef_read.specs.declared.cell.LefPin.{LefPin}
use Rattle.lef_read.specs.declared.cell.LefRect.{LefRect}

-- the items of one macro tell these rectangles up to its next pin, these pins, and these obstructions, all on the grid
pub record Tells (unit : ℕ) (items : List Item) (rs : List LefRect) (ps : List LefPin) (os : List LefRect) : Type 0 where
  pub own : up_to_next items ≡ items
  pub ports : filter_map (rect_in unit) (ports_in items) ≡ rs
  pub pins : pins_in unit items ≡ ps
  pub obstructions : filter_map (rect_in unit) (obstructions_in items) ≡ os
  pub grid : find (is_off_grid unit) (boxes_in items) ≡ None

pub tells_none : (unit : ℕ) → Tells unit [] [] [] []
tells_none unit = record { own = refl; ports = refl; pins = refl; obstructions = refl; grid = refl }

pub tells_pin : (unit : ℕ) (items : List Item) (ports : List LefRect) (pins : List LefPin) (obs : List LefRect) (name : List ℕ) → Tells unit items ports pins obs → Tells unit (Pin name ∷ items) [] (record { name = name; ports = ports } ∷ pins) obs
tells_pin unit items ports pins obs name t = record {
  own = ap (λ is. Pin name ∷ is) t.own;
  ports = refl;
  pins = rw (t.ports, t.pins) refl;
  obstructions = t.obstructions;
  grid = t.grid;
}

pub tells_port : (unit : ℕ) (items : List Item) (ports : List LefRect) (pins : List LefPin) (obs : List LefRect) (box : Box) (r : LefRect) → rect_in unit box ≡ Some r → Tells unit items ports pins obs → Tells unit (Port box ∷ items) (r ∷ ports) pins obs
tells_port unit items ports pins obs box r e t = record {
  own = ap (λ is. Port box ∷ is) t.own;
  ports = rw (e, t.ports) refl;
  pins = t.pins;
  obstructions = t.obstructions;
  grid = rw (e, t.grid) refl;
}

pub tells_obstruction : (unit : ℕ) (items : List Item) (ports : List LefRect) (pins : List LefPin) (obs : List LefRect) (box : Box) (r : LefRect) → rect_in unit box ≡ Some r → Tells unit items ports pins obs → Tells unit (Obstruction box ∷ items) ports pins (r ∷ obs)
tells_obstruction unit items ports pins obs box r e t = record {
  own = ap (λ is. Obstruction box ∷ is) t.own;
  ports = t.ports;
  pins = t.pins;
  obstructions = rw (e, t.obstructions) refl;
  grid = rw (e, t.grid) refl;
}

pub bytes_same : (w : List ℕ) → bytes_eq w w ≡ true
bytes_same w = (bytes_eq-Decides w w).1 refl

pub macro_told : (unit : ℕ) (name : List ℕ) (items : List Item) (ports : List LefRect) (pins : List LefPin) (obs : List LefRect) → Tells unit items ports pins obs → macro_named unit name (Begins name ∷ items) ≡ Ok (record { name = name; pins = pins; obstructions = obs })
macro_told unit name items ports pins obs t = rw (bytes_same name, t.own, t.grid, t.pins, t.obstructions) refl
