-- Rows that can be wired, and among them those with the fewest gaps.
use Rattle.std.proofs.Common.{ℕ, ◌≡◌, ◌≤◌, ◌<◌, List, [], ◌∷◌, length, subst, sym, arith, Contains}
use Rattle.std.proofs.Math.Nat.{min-le_right}
use Rattle.std.proofs.lemmas.List.Sums.{count_by-le-length}
use Rattle.std.proofs.lemmas.Slice.Zip.{length-zip}
use Rattle.std.specs.List.{zip}
use Rattle.cell_num.specs.declared.net.NetNo.{NetNo}
use Rattle.cell_num.specs.Pins.{ArePins}
use Rattle.row_model.specs.declared.column.Column.{Column}
use Rattle.row_model.specs.Arrangement.{IsArrangement}
use Rattle.row_model.specs.Gaps.{gaps_of, is_gap}
use Rattle.row_search.specs.First.{IsFirstLeast}
use Rattle.row_place.specs.declared.placement.Placement.{Placement}
use Rattle.row_place.specs.Places.{placement_of}
use Rattle.row_place.specs.Trunks.{HasPins, lines_of}
use Rattle.row_place.proofs.Pins.{has_pins}
use Rattle.row_place.proofs.Placed.{placement_is}
use Rattle.channel_route.specs.declared.ring.Ring.{Ring}
use Rattle.channel_route.specs.declared.routing.Routing.{Routing}
use Rattle.channel_route.specs.Routing.{IsLegal}
use Rattle.cell_draw.proofs.NetsNamed.{place_low}
use Rattle.cell_draw.proofs.TrunkCount.{few_tracks as few_of_wiring}
use Rattle.cell_inputs.specs.declared.style.Wiring.{Wiring}
use Rattle.cell_inputs.specs.Inputs.{AreInputs, Inputs}
use Rattle.cell_make.specs.LowRows.{CanBeRouted, IsFirstLeastWired, IsLeast, IsLeastWired, IsRinged, IsWired}
use Rattle.cell_make.specs.Style.{AreLegal, AreTight, IsToldRing}
use Rattle.cell_make.proofs.Extent.{some_column}
use Rattle.cell_make.proofs.FewTracks.{few_tracks}
use Rattle.cell_make.proofs.Makes.{few_columns, sound_row}
use Rattle.cell_make.proofs.Rings.{no_ring, ring_is}
use Rattle.cell_make.proofs.Wirings.{wired_by}

-- ---- an arrangement

-- a legal routing of straight trunks has fewer tracks than the cell has nets
pub fewer_than_nets : (inputs : Inputs) (row : List Column) (r : Routing) → AreInputs inputs → IsArrangement row inputs.fingers → IsLegal (placement_of row) inputs.cell.pins r → r.tracks < inputs.fingers.nets
fewer_than_nets inputs row r are arranged legal = few_tracks (placement_of row) inputs.cell.pins inputs.fingers.nets r legal (omega (arith, are.pins.vdd, are.pins.named, are.sound.named)) low
  where
    low : (net : NetNo) (line : ℕ) → Contains (lines_of (placement_of row) net) line → net.0 < inputs.fingers.nets
    low net line there = omega (arith, place_low inputs.cell.nets inputs.cell.pins (placement_of row) (placement_is row arranged.columns (few_columns inputs row are arranged)) (sound_row inputs row are arranged) net line there, are.sound.named)

-- one by pieces has no more than 160
pub few_routed : (wiring : Wiring) (inputs : Inputs) (row : List Column) (r : Routing) → AreInputs inputs → IsArrangement row inputs.fingers → AreLegal wiring (placement_of row) inputs.cell.pins r → r.tracks ≤ 160
few_routed wiring inputs row r are arranged legal =
    few_of_wiring (placement_of row) inputs.cell.pins r (placement_is row arranged.columns (few_columns inputs row are arranged)) (wired_by wiring (placement_of row) inputs.cell.pins r legal)

-- in it each pin has a place
pub pins_there : (inputs : Inputs) (row : List Column) → AreInputs inputs → IsArrangement row inputs.fingers → HasPins (placement_of row) inputs.cell.pins
pins_there inputs row are arranged = has_pins inputs.cell.nets inputs.cell.pins inputs.fingers row are.sound (subst (λ n. ArePins n inputs.cell.pins) (sym are.sound.named) are.pins) arranged

-- it has fewer gaps than columns
less_gaps : (row : List Column) → 1 ≤ length row → gaps_of row < length row
less_gaps [] some = absurd (omega (arith, some))
less_gaps (c ∷ cs) some = omega (arith, count_by-le-length is_gap (zip (c ∷ cs) cs), length-zip (c ∷ cs) cs, min-le_right (length (c ∷ cs)) (length cs))

pub fewer_than_columns : (inputs : Inputs) (row : List Column) → AreInputs inputs → IsArrangement row inputs.fingers → gaps_of row < length row
fewer_than_columns inputs row are arranged = less_gaps row (some_column row inputs.fingers arranged are.some)

-- ---- a least row that can be wired

pub least_wired : (wiring : Wiring) (inputs : Inputs) (row : List Column) → IsLeast inputs.fingers row → IsWired wiring inputs row → IsLeastWired wiring inputs row
least_wired wiring inputs row is wired = record { arranges = is.arranges; wired = wired; least = λ other arranged w. is.least other arranged }

-- where it is the first least row, it precedes all others
pub first_wired : (wiring : Wiring) (inputs : Inputs) (row : List Column) → IsWired wiring inputs row → IsFirstLeast inputs.fingers row → IsFirstLeastWired wiring inputs row
first_wired wiring inputs row wired is = record {
  least = least_wired wiring inputs row (record { arranges = is.arranges; least = is.least }) wired;
  first = λ other o. is.first other o.arranges (omega (arith, o.least row is.arranges wired, is.least other o.arranges));
}

-- ---- by what routing its channel answered

-- it can be wired, and routed
pub wired_so : (wiring : Wiring) (inputs inside : Inputs) (row : List Column) (placement : Placement) (routing : Routing) → inside ≡ inputs → placement ≡ placement_of row → AreLegal wiring placement inside.cell.pins routing → IsWired wiring inputs row
wired_so wiring inputs inside row placement routing view placed legal =
    (routing, subst (λ (i : Inputs). AreLegal wiring (placement_of row) i.cell.pins routing) view (subst (λ (p : Placement). AreLegal wiring p inside.cell.pins routing) placed legal))

pub routable_so : (wiring : Wiring) (inputs inside : Inputs) (row : List Column) (placement : Placement) (routing : Routing) → inside ≡ inputs → placement ≡ placement_of row → AreLegal wiring placement inside.cell.pins routing → AreTight wiring placement inside.cell.pins routing → CanBeRouted wiring inputs row
unfolding wired_so
routable_so wiring inputs inside row placement routing view placed legal tight none =
    let wired : IsWired wiring inputs row = wired_so wiring inputs inside row placement routing view placed legal in
    let near : AreTight wiring (placement_of row) inside.cell.pins routing = subst (λ (p : Placement). AreTight wiring p inside.cell.pins routing) placed tight in
    (routing, wired.1, subst (λ (i : Inputs). AreTight wiring (placement_of row) i.cell.pins routing) view near)

-- or a cycle is told
pub ringed_so : (wiring : Wiring) (inputs inside : Inputs) (row : List Column) (placement : Placement) (ring : Ring) → inside ≡ inputs → placement ≡ placement_of row → IsToldRing wiring placement inside.cell.pins ring → IsRinged wiring inputs row ring
ringed_so wiring inputs inside row placement ring view placed told =
    let near : IsToldRing wiring (placement_of row) inside.cell.pins ring = subst (λ (p : Placement). IsToldRing wiring p inside.cell.pins ring) placed told in
    let here : IsToldRing wiring (placement_of row) inputs.cell.pins ring = subst (λ (i : Inputs). IsToldRing wiring (placement_of row) i.cell.pins ring) view near in
    record {
      cyclic = λ none. no_ring wiring (placement_of row) inputs.cell.pins ring none (ring_is wiring (placement_of row) inputs.cell.pins ring here);
      is = ring_is wiring (placement_of row) inputs.cell.pins ring here;
      told = here;
    }
