-- What a draft comes to does not change when it takes the next item.
use Rattle.std.proofs.Common.{ℕ, ◌≡◌, Bool, true, false, List, [], ◌∷◌, ◌++◌, refl, sym, ap, ◌∙◌, append_assoc, append-nil}
use Rattle.std.specs.Prelude.{Option, Some, None, Ok, Err, bytes_eq, ◌≢◌}
use Rattle.std.specs.List.{find, filter_map}
use Rattle.std.specs.Option.{option_map}
use Rattle.cell_num.specs.Steps.{◌>>=◌, or_fault}
use Rattle.box_geom.specs.Rectangle.{Rectangle}
use Rattle.box_geom.specs.declared.layer.Layer.{Layer}
use Rattle.lef_read.specs.Stages.{next_stage}
use Rattle.lef_read.specs.Reading.{Box, Item, Begins, Pin, Port, Obstruction, Block, OfPin, OfMacro, item_of}
use Rattle.lef_read.specs.Macros.{rect_in, sides_in, up_to_next, items_of, ports_in, pins_in, obstructions_in, boxes_in, is_off_grid, on_grid}
use Rattle.lef_read.specs.Drafts.{Draft, last_pin, closed, closed_at, completed, pins_with, with_last_pin, with_rect, pin_with}
use Rattle.lef_read.specs.declared.stage.Stage.{Stage}
use Rattle.lef_read.specs.declared.stage.Stage.TheVariants.{Before, Inside, Behind}
use Rattle.lef_read.specs.declared.fault.LefFault.TheVariants.{NoMacro, Grid}
use Rattle.lef_read.specs.declared.cell.LefRect.{LefRect}
use Rattle.lef_read.specs.declared.cell.LefPin.{LefPin}

-- ---- a macro begins

stage_same : (g : Option ℕ) (d : Draft) (t : Stage) (own : List Item) → closed g d own ≡ closed g (record d { stage = t }) own
stage_same (Some line) d t own = refl
stage_same None d t own = refl

pub macro_begins : (d : Draft) (n : List ℕ) (items : List Item) → completed d (Begins n ∷ items) ≡ completed (record d { stage = next_stage d.stage (bytes_eq n d.wanted) }) items
unfolding completed
macro_begins d n items = by d.stage (next_stage d.stage (bytes_eq n d.wanted)) (bytes_eq n d.wanted) refl
  where
    search_on : (o : Option (List Item)) (t : Stage) → (or_fault o NoMacro >>= λ own. closed d.off_grid d own) ≡ (or_fault o NoMacro >>= λ own. closed d.off_grid (record d { stage = t }) own)
    search_on None t = refl
    search_on (Some own) t = stage_same d.off_grid d t own

    by : (s t : Stage) (b : Bool) → bytes_eq n d.wanted ≡ b → closed_at s d (Begins n ∷ items) ≡ closed_at (next_stage s b) (record d { stage = t }) items
    by Before t true e = rw e (stage_same d.off_grid d t (up_to_next items))
    by Before t false e = rw e (search_on (items_of d.wanted items) t)
    by Inside t b e = stage_same d.off_grid d t []
    by Behind t b e = stage_same d.off_grid d t []

-- ---- a pin begins

pins_same : (u : ℕ) (ps : List LefPin) (l : Option LefPin) (n : List ℕ) (own : List Item)
    → ps ++ (last_pin u l (Pin n ∷ own) ++ pins_in u (Pin n ∷ own)) ≡ pins_with ps l ++ (last_pin u (Some (record { name = n; ports = [] })) own ++ pins_in u own)
pins_same u ps None n own = refl
pins_same u ps (Some p) n own = rw (append-nil p.ports) (sym (append_assoc ps (p ∷ []) (pins_in u (Pin n ∷ own))))

closed_pin : (g : Option ℕ) (d : Draft) (n : List ℕ) (own : List Item) → closed g d (Pin n ∷ own) ≡ closed g (record (with_last_pin d) { last = Some (record { name = n; ports = [] }) }) own
closed_pin (Some line) d n own = refl
closed_pin None d n own =
    ap (λ (ps : List LefPin). on_grid (find (is_off_grid d.unit) (boxes_in own)) (record { name = d.wanted; pins = ps; obstructions = d.obstructions ++ filter_map (rect_in d.unit) (obstructions_in own) })) (pins_same d.unit d.pins d.last n own)

pub pin_begins : (d : Draft) (n : List ℕ) (items : List Item) → d.stage ≡ Inside → completed d (Pin n ∷ items) ≡ completed (record (with_last_pin d) { last = Some (record { name = n; ports = [] }) }) items
unfolding completed
pin_begins d n items e = by d.stage e
  where
    by : (s : Stage) → s ≡ Inside → closed_at s d (Pin n ∷ items) ≡ closed_at s (record (with_last_pin d) { last = Some (record { name = n; ports = [] }) }) items
    by Before e = absurd cc
    by Inside e = closed_pin d.off_grid d n (up_to_next items)
    by Behind e = absurd cc

pub pin_elsewhere : (d : Draft) (n : List ℕ) (items : List Item) → d.stage ≢ Inside → completed d (Pin n ∷ items) ≡ completed d items
unfolding completed
pin_elsewhere d n items other = by d.stage other
  where
    by : (s : Stage) → s ≢ Inside → closed_at s d (Pin n ∷ items) ≡ closed_at s d items
    by Before other = refl
    by Inside other = absurd (other refl)
    by Behind other = refl

-- ---- a rectangle

pub rect_elsewhere : (d : Draft) (b : Block) (box : Box) (items : List Item) → d.stage ≢ Inside → completed d (item_of b box ∷ items) ≡ completed d items
unfolding completed
rect_elsewhere d b box items other = by d.stage b other
  where
    by : (s : Stage) (b : Block) → s ≢ Inside → closed_at s d (item_of b box ∷ items) ≡ closed_at s d items
    by Before (OfPin cell pin) other = refl
    by Before (OfMacro cell) other = refl
    by Inside b other = absurd (other refl)
    by Behind b other = refl

pub rect_behind_fault : (d : Draft) (b : Block) (box : Box) (line : ℕ) (items : List Item) → d.stage ≡ Inside → d.off_grid ≡ Some line → completed d (item_of b box ∷ items) ≡ completed d items
unfolding completed
rect_behind_fault d b box line items e f = rw (e, f) refl

off : (u : ℕ) (box : Box) → sides_in u box.sides ≡ None → is_off_grid u box ≡ true
off u box e = rw e refl

first_off : (u : ℕ) (box : Box) (b : Block) (own : List Item) → sides_in u box.sides ≡ None → find (is_off_grid u) (boxes_in (item_of b box ∷ own)) ≡ Some box
first_off u box (OfPin cell pin) own e = rw e refl
first_off u box (OfMacro cell) own e = rw e refl

pub rect_off_grid : (d : Draft) (b : Block) (box : Box) (items : List Item) → d.stage ≡ Inside → d.off_grid ≡ None → sides_in d.unit box.sides ≡ None → completed d (item_of b box ∷ items) ≡ completed (record d { off_grid = Some box.line }) items
unfolding completed
rect_off_grid d b box items e f g = rw (e, f) (by b)
  where
    by : (b : Block) → closed None d (up_to_next (item_of b box ∷ items)) ≡ Err (Grid box.line)
    by (OfPin cell pin) = rw (first_off d.unit box (OfPin cell pin) (up_to_next items) g) refl
    by (OfMacro cell) = rw (first_off d.unit box (OfMacro cell) (up_to_next items) g) refl

more_ports : (u : ℕ) (ps : List LefPin) (l : Option LefPin) (box : Box) (r : LefRect) (own : List Item) → rect_in u box ≡ Some r
    → ps ++ (last_pin u l (Port box ∷ own) ++ pins_in u own) ≡ ps ++ (last_pin u (option_map (pin_with r) l) own ++ pins_in u own)
more_ports u ps None box r own e = refl
more_ports u ps (Some p) box r own e = rw (e, append_assoc p.ports (r ∷ []) (filter_map (rect_in u) (ports_in own))) refl

last_other : (u : ℕ) (l : Option LefPin) (box : Box) (own : List Item) → last_pin u l (Obstruction box ∷ own) ≡ last_pin u l own
last_other u None box own = refl
last_other u (Some p) box own = refl

kept : (d : Draft) (b : Block) (box : Box) (r : LefRect) (own : List Item) → rect_in d.unit box ≡ Some r → closed None d (item_of b box ∷ own) ≡ closed None (with_rect b r d) own
kept d (OfPin cell pin) box r own e =
    rw e (ap (λ (ps : List LefPin). on_grid (find (is_off_grid d.unit) (boxes_in own)) (record { name = d.wanted; pins = ps; obstructions = d.obstructions ++ filter_map (rect_in d.unit) (obstructions_in own) })) (more_ports d.unit d.pins d.last box r own e))
kept d (OfMacro cell) box r own e = rw (e, last_other d.unit d.last box own, append_assoc d.obstructions (r ∷ []) (filter_map (rect_in d.unit) (obstructions_in own))) refl

pub rect_kept : (d e : Draft) (b : Block) (line : ℕ) (layer : Layer) (sides r : Rectangle) (items : List Item) → d.stage ≡ Inside → d.off_grid ≡ None → sides_in d.unit sides ≡ Some r → e ≡ with_rect b (record { layer = layer; rect = r }) d
    → completed d (item_of b (record { line = line; layer = layer; sides = sides }) ∷ items) ≡ completed e items
unfolding completed
rect_kept d e b line layer sides r items inside none g same = rw same (by b)
  where
    in_units : rect_in d.unit (record { line = line; layer = layer; sides = sides }) ≡ Some (record { layer = layer; rect = r })
    in_units = rw g refl

    by : (b : Block) → closed_at d.stage d (item_of b (record { line = line; layer = layer; sides = sides }) ∷ items) ≡ closed_at (with_rect b (record { layer = layer; rect = r }) d).stage (with_rect b (record { layer = layer; rect = r }) d) items
    by (OfPin cell pin) = rw (inside, none) (kept d (OfPin cell pin) (record { line = line; layer = layer; sides = sides }) _ (up_to_next items) in_units)
    by (OfMacro cell) = rw (inside, none) (kept d (OfMacro cell) (record { line = line; layer = layer; sides = sides }) _ (up_to_next items) in_units)

-- ---- the end

pub none_found : (d : Draft) → d.stage ≡ Before → completed d [] ≡ Err NoMacro
unfolding completed
none_found d e = rw e refl

at_end : (d : Draft) → d.stage ≢ Before → completed d [] ≡ closed d.off_grid d []
unfolding completed
at_end d other = by d.stage other
  where
    by : (s : Stage) → s ≢ Before → closed_at s d [] ≡ closed d.off_grid d []
    by Before other = absurd (other refl)
    by Inside other = refl
    by Behind other = refl

pub ends_off_grid : (d : Draft) (line : ℕ) → d.stage ≢ Before → d.off_grid ≡ Some line → completed d [] ≡ Err (Grid line)
ends_off_grid d line other e = at_end d other ∙ rw e refl

last_whole : (u : ℕ) (ps : List LefPin) (l : Option LefPin) → ps ++ (last_pin u l [] ++ []) ≡ pins_with ps l
last_whole u ps None = append-nil ps
last_whole u ps (Some p) = rw (append-nil p.ports) refl

pub ends_whole : (d : Draft) → d.stage ≢ Before → d.off_grid ≡ None → completed d [] ≡ Ok (record { name = d.wanted; pins = pins_with d.pins d.last; obstructions = d.obstructions })
ends_whole d other e = at_end d other ∙ rw (e, last_whole d.unit d.pins d.last, append-nil d.obstructions) refl

pub ruleset end_rules = (none_found, ends_off_grid, ends_whole)
