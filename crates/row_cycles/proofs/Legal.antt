-- A row with a cycle has no legal routing: round the cycle tracks would fall below themselves.
use Rattle.std.proofs.Common.{◌≡◌, ◌<◌, ◌≤◌, List, [], ◌∷◌, length, sym, subst, arith, All, Contains}
use Rattle.cell_num.specs.declared.net.NetNo.{NetNo}
use Rattle.cell_num.specs.declared.net.Pins.{Pins}
use Rattle.cell_num.proofs.Pairs.{Some', some_from_any}
use Rattle.row_model.specs.declared.column.Column.{Column}
use Rattle.row_model.specs.Arrangement.{IsColumn}
use Rattle.row_place.specs.declared.placement.Placement.{Placement}
use Rattle.row_place.specs.Places.{placement_of}
use Rattle.row_place.specs.Trunks.{HasTrunk, IsAbove}
use Rattle.channel_route.specs.declared.routing.Routing.{Routing}
use Rattle.channel_route.specs.declared.routing.Trunk.{Trunk}
use Rattle.channel_route.specs.Routing.{IsLegal}
use Rattle.track_ways.specs.declared.line.Line.{Line}
use Rattle.track_ways.specs.Channel.{AreLinesOf}
use Rattle.track_ways.specs.Rows.{lines_of_row}
use Rattle.track_ways.proofs.Placed.{lines_placed}
use Rattle.row_cycles.specs.Above.{HasCycle, LeadsDown, above_of, over}
use Rattle.row_cycles.proofs.Paths.{first_pair, last_pair}
use Rattle.row_cycles.proofs.Pairs.{PairAt, has_trunk, pair_above, pair_at}

-- the net stands above another, and below one
record InPairs (pins : Pins) (lines : List Line) (net : NetNo) : Type 0 where
  lower : NetNo
  below : Contains (above_of pins lines) (over net lower)
  upper : NetNo
  above : Contains (above_of pins lines) (over upper net)

in_trunk : (p : Placement) (pins : Pins) (lines : List Line) → AreLinesOf p lines → (net : NetNo)
    → InPairs pins lines net → HasTrunk p pins net
in_trunk p pins lines h net i =
    let down : PairAt pins lines (over net i.lower) = pair_at pins lines (over net i.lower) i.below in
    let up : PairAt pins lines (over i.upper net) = pair_at pins lines (over i.upper net) i.above in
    has_trunk p pins lines h down.at up.at net down.apart.upper_signal down.p up.n

-- the trunk of a net
abbrev Of : Routing → NetNo → Type 0
Of r net = Some' (λ (t : Trunk). t.net ≡ net) r.trunks

of_net : (p : Placement) (pins : Pins) (r : Routing) → IsLegal p pins r → (net : NetNo) → HasTrunk p pins net → Of r net
of_net p pins r legal net trunk = some_from_any (λ (t : Trunk). t.net ≡ net) r.trunks ((legal.nets net).0 trunk)

-- the lower net of a pair has the lower track
pair_falls : (p : Placement) (pins : Pins) (lines : List Line) → AreLinesOf p lines → (r : Routing) → IsLegal p pins r
    → (upper lower : NetNo) → Contains (above_of pins lines) (over upper lower) → HasTrunk p pins upper
    → HasTrunk p pins lower → (t : Of r upper) (b : Of r lower) → b.it.track < t.it.track
pair_falls p pins lines h r legal upper lower there up down t b =
    let pair : PairAt pins lines (over upper lower) = pair_at pins lines (over upper lower) there in
    let above : IsAbove p pins upper lower pair.at = pair_above p pins lines h (over upper lower) pair up down in
    legal.above t.it b.it t.there b.there pair.at
    (subst (λ n. IsAbove p pins n b.it.net pair.at) (sym t.holds)
    (subst (λ n. IsAbove p pins upper n pair.at) (sym b.holds) above))

-- along a path the tracks fall
falls : (p : Placement) (pins : Pins) (lines : List Line) → AreLinesOf p lines → (r : Routing) → IsLegal p pins r
    → (upper : NetNo) (between : List NetNo) (lower : NetNo) → LeadsDown (above_of pins lines) upper between lower
    → HasTrunk p pins upper → HasTrunk p pins lower → (t : Of r upper) (b : Of r lower) → b.it.track < t.it.track
falls p pins lines h r legal upper [] lower leads up down t b =
    pair_falls p pins lines h r legal upper lower leads up down t b
falls p pins lines h r legal upper (net ∷ between) lower leads up down t b =
    let next : (next : NetNo) × Contains (above_of pins lines) (over net next) =
    first_pair (above_of pins lines) net between lower leads.1 in
    let trunk : HasTrunk p pins net =
    in_trunk p pins lines h net (record { lower = next.0; below = next.1; upper = upper; above = leads.0 }) in
    let u : Of r net = of_net p pins r legal net trunk in
    let first : u.it.track < t.it.track = pair_falls p pins lines h r legal upper net leads.0 up trunk t u in
    let rest : b.it.track < u.it.track = falls p pins lines h r legal net between lower leads.1 trunk down u b in
    omega (arith, first, rest)

pub cycle_unwired : (p : Placement) (pins : Pins) (lines : List Line) → AreLinesOf p lines → (r : Routing)
    → HasCycle (above_of pins lines) → IsLegal p pins r → ⊥
cycle_unwired p pins lines h r (net, (between, leads)) legal =
    let next : (next : NetNo) × Contains (above_of pins lines) (over net next) =
    first_pair (above_of pins lines) net between net leads in
    let last : (last : NetNo) × Contains (above_of pins lines) (over last net) =
    last_pair (above_of pins lines) net between net leads in
    let trunk : HasTrunk p pins net =
    in_trunk p pins lines h net (record { lower = next.0; below = next.1; upper = last.0; above = last.1 }) in
    let t : Of r net = of_net p pins r legal net trunk in
    let less : t.it.track < t.it.track = falls p pins lines h r legal net between net leads trunk trunk t t in
    omega (arith, less)

-- a row with a cycle has no legal routing
pub row_unwired : (row : List Column) (pins : Pins) (r : Routing) → All IsColumn row → length row ≤ 32
    → HasCycle (above_of pins (lines_of_row row)) → IsLegal (placement_of row) pins r → ⊥
row_unwired row pins r columns few cycle legal =
    cycle_unwired (placement_of row) pins (lines_of_row row) (lines_placed row columns few) r cycle legal
