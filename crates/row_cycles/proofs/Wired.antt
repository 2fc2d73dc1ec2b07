-- A row without a cycle has no nets above each other in a cycle, so it has a routing; a certificate excludes both.
use Rattle.std.proofs.Common.{ℕ, ◌≤◌, List, [], ◌∷◌, length, map, arith, All}
use Rattle.cell_num.specs.declared.finger.Row.{Row}
use Rattle.cell_num.specs.declared.finger.Fingers.{Fingers}
use Rattle.cell_num.specs.declared.net.NetNo.{NetNo}
use Rattle.cell_num.specs.declared.net.Pins.{Pins}
use Rattle.row_model.specs.declared.column.Column.{Column}
use Rattle.row_model.specs.Arrangement.{IsArrangement, IsColumn}
use Rattle.row_model.specs.Gaps.{gaps_of}
use Rattle.row_place.specs.declared.placement.Placement.{Placement}
use Rattle.row_place.specs.Places.{placement_of}
use Rattle.row_place.specs.Trunks.{HasPins, IsAbove}
use Rattle.channel_route.specs.declared.routing.Above.{Above}
use Rattle.channel_route.specs.declared.routing.Routing.{Routing}
use Rattle.channel_route.specs.Cycle.{HasNoCycle, by_number, nets}
use Rattle.channel_route.specs.Routing.{HasTightRouting, IsLegal}
use Rattle.channel_route.specs.Walk.{IsWalk}
use Rattle.channel_route.proofs.Routes.{some_routing}
use Rattle.row_state.specs.declared.kind.Kinds.{Kinds}
use Rattle.row_state.specs.declared.state.State.{State}
use Rattle.row_state.specs.Start.{AreKinds, AreSomeKinds}
use Rattle.row_state.proofs.Unfold.{columns_same}
use Rattle.track_ways.specs.declared.line.Line.{Line}
use Rattle.track_ways.specs.Channel.{AreLinesOf}
use Rattle.track_ways.specs.Rows.{lines_of_row}
use Rattle.track_ways.proofs.Placed.{lines_placed}
use Rattle.track_ways.proofs.Sound.{Holds}
use Rattle.row_cycles.specs.declared.lemma.CycleLemma.{CycleLemma}
use Rattle.row_cycles.specs.Above.{HasCycle, LeadsDown, above_of}
use Rattle.row_cycles.specs.Certificate.{Certifies}
use Rattle.row_cycles.proofs.Lemmas.{cyclic_rows}
use Rattle.row_cycles.proofs.Legal.{row_unwired}
use Rattle.row_cycles.proofs.Pairs.{above_there}

-- a walk of nets above each other is a path
walk_leads : (p : Placement) (pins : Pins) (lines : List Line) → AreLinesOf p lines → (a : Above) (more : List Above)
    (back : NetNo) → IsWalk nets (by_number (IsAbove p pins)) (a ∷ more) back.0
    → LeadsDown (above_of pins lines) a.net (map (λ (b : Above). b.net) more) back
walk_leads p pins lines h a [] back walk = above_there p pins lines h a.net back a.line walk.0
walk_leads p pins lines h a (b ∷ more) back walk =
    (above_there p pins lines h a.net b.net a.line walk.0, walk_leads p pins lines h b more back walk.1)

no_cycle : (p : Placement) (pins : Pins) (lines : List Line) → AreLinesOf p lines
    → (HasCycle (above_of pins lines) → ⊥) → HasNoCycle p pins
no_cycle p pins lines h none [] c = c
no_cycle p pins lines h none (first ∷ rest) c =
    none (first.net, (map (λ (b : Above). b.net) rest, walk_leads p pins lines h first rest first.net c.above))

pub row_no_cycle : (row : List Column) (pins : Pins) → All IsColumn row → length row ≤ 32
    → (HasCycle (above_of pins (lines_of_row row)) → ⊥) → HasNoCycle (placement_of row) pins
row_no_cycle row pins columns few none =
    no_cycle (placement_of row) pins (lines_of_row row) (lines_placed row columns few) none

pub row_wired : (row : List Column) (pins : Pins) → All IsColumn row → length row ≤ 32
    → HasPins (placement_of row) pins → (HasCycle (above_of pins (lines_of_row row)) → ⊥)
    → HasTightRouting (placement_of row) pins
row_wired row pins columns few have none =
    some_routing (placement_of row) pins have (row_no_cycle row pins columns few none)

-- what a certificate shows
pub none_wired : (value : Row → State → Kinds → ℕ) (pins : Pins) (f : Fingers) (k : Kinds) (gaps : ℕ)
    (lemmas : List CycleLemma) → Holds value k → AreKinds f k → AreSomeKinds k → Certifies value pins k gaps lemmas
    → (row : List Column) (r : Routing) → IsArrangement row f → gaps_of row ≤ gaps
    → IsLegal (placement_of row) pins r → ⊥
none_wired value pins f k gaps lemmas law kinds some h row r is few legal =
    let short : length row ≤ 32 = omega (arith, is.fewest, columns_same f k kinds, some.few_columns) in
    row_unwired row pins r is.columns short (cyclic_rows value pins f k gaps lemmas law kinds some h row is few) legal
