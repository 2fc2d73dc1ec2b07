use Rattle.std.proofs.Common.{ap}
use Rattle.row_place.specs.declared.placement.Placement.{Placement}
use Rattle.first_route.specs.First.{IsFirstRouting}
use Rattle.track_ways.specs.Lines.{StraightFits}
use Rattle.track_search.specs.Fewest.{IsFirstOn}
use Rattle.track_search.proofs.LowestFound.{columns, few, first_low, first_on, fits_lemmas, found_some, kept_found, kept_open, kept_same, placed_pins, prove_same, take_same, takes, within_found, within_open}
use Rattle.track_search.proofs.lowest.lowest_row.Goals as goal

pub place-requires-clause-columns : goal.place-requires-clause-columns
place-requires-clause-columns g c =
    let on : IsFirstOn (g.B.RowBound.value c.args.bound.now) c.args.pins.now c.args.kinds.now c.args.gaps c.in-Found.row c.in-Found.tracks c.in-Found.lemmas = first_on (g.B.RowBound.value c.args.bound.now) c.args.pins.now c.args.kinds.now c.args.gaps c.in_ok-row.field-0 c.in-Found.row c.in-Found.tracks c.in-Found.lemmas c.in-Found.is c.in_ok-row.ensures.fewest in
    columns c.args.kinds.now c.in-Found.row on.first.arranges

pub place-requires-clause-few : goal.place-requires-clause-few
place-requires-clause-few g c =
    let on : IsFirstOn (g.B.RowBound.value c.args.bound.now) c.args.pins.now c.args.kinds.now c.args.gaps c.in-Found.row c.in-Found.tracks c.in-Found.lemmas = first_on (g.B.RowBound.value c.args.bound.now) c.args.pins.now c.args.kinds.now c.args.gaps c.in_ok-row.field-0 c.in-Found.row c.in-Found.tracks c.in-Found.lemmas c.in-Found.is c.in_ok-row.ensures.fewest in
    few c.args.kinds.now c.in-Found.row c.show_limits.ensures on.first.arranges

pub routing_on-requires-clause-pins : goal.routing_on-requires-clause-pins
routing_on-requires-clause-pins g c =
    let on : IsFirstOn (g.B.RowBound.value c.args.bound.now) c.args.pins.now c.args.kinds.now c.args.gaps c.in-Found.row c.in-Found.tracks c.in-Found.lemmas = first_on (g.B.RowBound.value c.args.bound.now) c.args.pins.now c.args.kinds.now c.args.gaps c.in_ok-row.field-0 c.in-Found.row c.in-Found.tracks c.in-Found.lemmas c.in-Found.is c.in_ok-row.ensures.fewest in
    placed_pins c.args.pins.now c.args.kinds.now c.args.gaps c.in-Found.row c.in_ok-placement-in-Found.placement c.in_ok-placement-in-Found.ensures.exact c.requires (record { arranges = on.first.arranges; within = on.first.within })

pub returns-in-Some-clause-fewest : goal.returns-in-Some-clause-fewest
returns-in-Some-clause-fewest g c =
    let routed : IsFirstRouting c.in_ok-placement-in-Found.placement c.args.pins.now c.in-Found.tracks c.in-Some.routing = found_some (IsFirstRouting c.in_ok-placement-in-Found.placement c.args.pins.now c.in-Found.tracks) c.in_ok-routing-in-Found.field-0 c.in-Some.routing c.in-Some.is c.in_ok-routing-in-Found.ensures.first in
    take_same c.args.pins.now c.args.kinds.now c.args.gaps c.in-Found.tracks c.in-Some.routing.tracks routed.is.tracks (takes c.args.pins.now c.args.kinds.now c.args.gaps c.in_ok-row.field-0 c.in-Found.row c.in-Found.tracks c.in-Found.lemmas c.in-Found.is c.in_ok-row.ensures.take)

pub returns-in-Some-clause-first : goal.returns-in-Some-clause-first
returns-in-Some-clause-first g c =
    let on : IsFirstOn (g.B.RowBound.value c.args.bound.now) c.args.pins.now c.args.kinds.now c.args.gaps c.in-Found.row c.in-Found.tracks c.in-Found.lemmas = first_on (g.B.RowBound.value c.args.bound.now) c.args.pins.now c.args.kinds.now c.args.gaps c.in_ok-row.field-0 c.in-Found.row c.in-Found.tracks c.in-Found.lemmas c.in-Found.is c.in_ok-row.ensures.fewest in
    let routed : IsFirstRouting c.in_ok-placement-in-Found.placement c.args.pins.now c.in-Found.tracks c.in-Some.routing = found_some (IsFirstRouting c.in_ok-placement-in-Found.placement c.args.pins.now c.in-Found.tracks) c.in_ok-routing-in-Found.field-0 c.in-Some.routing c.in-Some.is c.in_ok-routing-in-Found.ensures.first in
    first_low c.args.pins.now c.args.kinds.now c.args.gaps c.in-Found.tracks c.in-Some.routing.tracks c.in-Found.row c.in_ok-placement-in-Found.placement.row routed.is.tracks (ap (λ (p : Placement). p.row) c.in_ok-placement-in-Found.ensures.exact) on.first

pub returns-in-Some-clause-certified : goal.returns-in-Some-clause-certified
returns-in-Some-clause-certified g c =
    let on : IsFirstOn (g.B.RowBound.value c.args.bound.now) c.args.pins.now c.args.kinds.now c.args.gaps c.in-Found.row c.in-Found.tracks c.in-Found.lemmas = first_on (g.B.RowBound.value c.args.bound.now) c.args.pins.now c.args.kinds.now c.args.gaps c.in_ok-row.field-0 c.in-Found.row c.in-Found.tracks c.in-Found.lemmas c.in-Found.is c.in_ok-row.ensures.fewest in
    let routed : IsFirstRouting c.in_ok-placement-in-Found.placement c.args.pins.now c.in-Found.tracks c.in-Some.routing = found_some (IsFirstRouting c.in_ok-placement-in-Found.placement c.args.pins.now c.in-Found.tracks) c.in_ok-routing-in-Found.field-0 c.in-Some.routing c.in-Some.is c.in_ok-routing-in-Found.ensures.first in
    prove_same StraightFits (g.B.RowBound.value c.args.bound.now) c.args.pins.now c.args.kinds.now c.args.gaps c.in-Found.tracks c.in-Some.routing.tracks c.in-Found.lemmas routed.is.tracks on.proved

pub returns-in-Some-clause-fits : goal.returns-in-Some-clause-fits
returns-in-Some-clause-fits g c = λ few low. fits_lemmas c.args.kinds.now c.args.gaps c.args.most c.in-Found.lemmas few low (within_found c.args.kinds.now c.args.most c.args.gaps c.in_ok-row.field-0 c.in-Found.row c.in-Found.tracks c.in-Found.lemmas c.in-Found.is c.in_ok-row.ensures.within)

pub returns-in-Found-clause-fits : goal.returns-in-Found-clause-fits
returns-in-Found-clause-fits g c = λ few low. fits_lemmas c.args.kinds.now c.args.gaps c.args.most c.in-Found.lemmas few low (within_found c.args.kinds.now c.args.most c.args.gaps c.in_ok-row.field-0 c.in-Found.row c.in-Found.tracks c.in-Found.lemmas c.in-Found.is c.in_ok-row.ensures.within)

pub returns-clause-fits : goal.returns-clause-fits
returns-clause-fits g c = λ few low. fits_lemmas c.args.kinds.now c.args.gaps c.args.most c.in-Open.lemmas few low (within_open c.args.kinds.now c.args.most c.args.gaps c.in_ok-row.field-0 c.in-Open.proved c.in-Open.lemmas c.in-Open.is c.in_ok-row.ensures.within)

pub returns-in-Some-clause-kept : goal.returns-in-Some-clause-kept
returns-in-Some-clause-kept g c =
    let routed : IsFirstRouting c.in_ok-placement-in-Found.placement c.args.pins.now c.in-Found.tracks c.in-Some.routing = found_some (IsFirstRouting c.in_ok-placement-in-Found.placement c.args.pins.now c.in-Found.tracks) c.in_ok-routing-in-Found.field-0 c.in-Some.routing c.in-Some.is c.in_ok-routing-in-Found.ensures.first in
    kept_same StraightFits (g.B.RowBound.value c.args.bound.now) c.args.pins.now c.args.kinds.now c.args.gaps c.args.budget c.in-Found.tracks c.in-Some.routing.tracks c.in-Found.lemmas routed.is.tracks
    (kept_found StraightFits (g.B.RowBound.value c.args.bound.now) c.args.pins.now c.args.kinds.now c.args.gaps c.args.budget c.in_ok-row.field-0 c.in-Found.row c.in-Found.tracks c.in-Found.lemmas c.in-Found.is c.in_ok-row.ensures.kept)

pub returns-in-Found-clause-kept : goal.returns-in-Found-clause-kept
returns-in-Found-clause-kept g c = kept_found StraightFits (g.B.RowBound.value c.args.bound.now) c.args.pins.now c.args.kinds.now c.args.gaps c.args.budget c.in_ok-row.field-0 c.in-Found.row c.in-Found.tracks c.in-Found.lemmas c.in-Found.is c.in_ok-row.ensures.kept

pub returns-clause-kept : goal.returns-clause-kept
returns-clause-kept g c = kept_open StraightFits (g.B.RowBound.value c.args.bound.now) c.args.pins.now c.args.kinds.now c.args.gaps c.args.budget c.in_ok-row.field-0 c.in-Open.proved c.in-Open.lemmas c.in-Open.is c.in_ok-row.ensures.kept
