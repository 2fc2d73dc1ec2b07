-- The reader's own words: a macro that is being read, and what it is with the items that follow.
use Rattle.std.specs.Prelude.{ℕ, ◌≡◌, List, [], ◌∷◌, ◌++◌, Option, Some, None, Result, Ok, Err}
use Rattle.std.specs.List.{find, filter_map}
use Rattle.std.specs.Option.{option_map}
use Rattle.cell_num.specs.Steps.{◌>>=◌, or_fault}
use Rattle.lef_read.specs.Reading.{Item, Block, OfPin, OfMacro}
use Rattle.lef_read.specs.Macros.{rect_in, up_to_next, ports_in, pins_in, obstructions_in}
use Rattle.lef_read.specs.Macros.{boxes_in, is_off_grid, items_of, on_grid}
use Rattle.lef_read.specs.declared.block_kind.Block.{Block as BlockIn}
use Rattle.lef_read.specs.declared.block_kind.Block.TheVariants as block
use Rattle.lef_read.specs.declared.stage.Stage.{Stage}
use Rattle.lef_read.specs.declared.stage.Stage.TheVariants.{Before, Inside, Behind}
use Rattle.lef_read.specs.declared.fault.LefFault.{LefFault}
use Rattle.lef_read.specs.declared.fault.LefFault.TheVariants.{NoMemory, NoMacro, Grid}
use Rattle.lef_read.specs.declared.cell.LefRect.{LefRect}
use Rattle.lef_read.specs.declared.cell.LefPin.{LefPin}
use Rattle.lef_read.specs.declared.cell.Macro.{Macro}

-- the wanted macro as far as it is read: its pins, the last one apart, its obstructions, or the line of its first
-- rectangle off the grid
pub record Draft : Type 0 where
  pub wanted : List ℕ
  pub unit : ℕ
  pub stage : Stage
  pub off_grid : Option ℕ
  pub pins : List LefPin
  pub last : Option LefPin
  pub obstructions : List LefRect

abbrev pub begun : List ℕ → ℕ → Draft
begun wanted unit =
    record { wanted = wanted; unit = unit; stage = Before; off_grid = None; pins = []; last = None; obstructions = [] }

abbrev pub last_pin : ℕ → Option LefPin → List Item → List LefPin
last_pin unit None own = []
last_pin unit (Some pin) own =
    record { name = pin.name; ports = pin.ports ++ filter_map (rect_in unit) (ports_in own) } ∷ []

-- the draft with the items of its macro that are still to come
abbrev pub with_own : Draft → List Item → Macro
with_own d own = record {
  name = d.wanted;
  pins = d.pins ++ (last_pin d.unit d.last own ++ pins_in d.unit own);
  obstructions = d.obstructions ++ filter_map (rect_in d.unit) (obstructions_in own);
}

abbrev pub closed : Option ℕ → Draft → List Item → Result Macro LefFault
closed (Some line) d own = Err (Grid line)
closed None d own = on_grid (find (is_off_grid d.unit) (boxes_in own)) (with_own d own)

abbrev pub closed_at : Stage → Draft → List Item → Result Macro LefFault
closed_at Before d items = or_fault (items_of d.wanted items) NoMacro >>= λ own. closed d.off_grid d own
closed_at Inside d items = closed d.off_grid d (up_to_next items)
closed_at Behind d items = closed d.off_grid d []

-- what a draft results in with the items that follow
unfoldable pub completed : Draft → List Item → Result Macro LefFault
completed d items = closed_at d.stage d items

unfoldable pub outcome : Draft → Result (List Item) LefFault → Result Macro LefFault
outcome d items = items >>= λ is. completed d is

-- a step after which the outcome is the same, or which is refused as the whole is
abbrev pub Keeps : Result (Unit {0}) LefFault → Result Macro LefFault → Result Macro LefFault → Type 0
Keeps (Ok x) before after = before ≡ after
Keeps (Err NoMemory) before after = Unit {0}
Keeps (Err f) before after = before ≡ Err f

-- ---- single steps

abbrev pub pins_with : List LefPin → Option LefPin → List LefPin
pins_with pins None = pins
pins_with pins (Some pin) = pins ++ pin ∷ []

abbrev pub with_last_pin : Draft → Draft
with_last_pin d = record d { pins = pins_with d.pins d.last; last = None }

abbrev pub block_shown : BlockIn → Block
block_shown (block.OfPin cell pin) = OfPin cell.now pin.now
block_shown (block.OfMacro cell) = OfMacro cell.now

abbrev pub pin_with : LefRect → LefPin → LefPin
pin_with rect pin = record { name = pin.name; ports = pin.ports ++ rect ∷ [] }

abbrev pub with_rect : Block → LefRect → Draft → Draft
with_rect (OfMacro cell) rect d = record d { obstructions = d.obstructions ++ rect ∷ [] }
with_rect (OfPin cell pin) rect d = record d { last = option_map (pin_with rect) d.last }
