use Rattle.std.proofs.Common.{ap}
use Rattle.row_place.specs.declared.placement.Placement.{Placement}
use Rattle.track_search.proofs.LowestFound.{columns, few, fits_lemmas, kept_found, kept_open, kept_same, placed_pins, prove_same, within_found, within_open}
use Rattle.piece_lines.specs.Lines.{PieceLineFits}
use Rattle.piece_search.proofs.Found.{arranged, first_on, first_same, has_some, same_tracks, take_found, take_open, take_same}
use Rattle.piece_search.proofs.lowest.lowest_pieces.Goals as goal

pub place-requires-clause-columns : goal.place-requires-clause-columns
place-requires-clause-columns g c =
    columns c.args.kinds.now c.in-Found.row
    (first_on (g.B.RowBound.value c.args.bound.now) c.args.pins.now c.args.kinds.now c.args.gaps c.in_ok-row.field-0
    c.in-Found.row c.in-Found.tracks c.in-Found.lemmas c.in-Found.is c.in_ok-row.ensures.fewest).first.arranges

pub place-requires-clause-few : goal.place-requires-clause-few
place-requires-clause-few g c =
    few c.args.kinds.now c.in-Found.row c.show_limits.ensures
    (first_on (g.B.RowBound.value c.args.bound.now) c.args.pins.now c.args.kinds.now c.args.gaps c.in_ok-row.field-0
    c.in-Found.row c.in-Found.tracks c.in-Found.lemmas c.in-Found.is c.in_ok-row.ensures.fewest).first.arranges

pub pieces_on-requires-clause-pins : goal.pieces_on-requires-clause-pins
pieces_on-requires-clause-pins g c =
    placed_pins c.args.pins.now c.args.kinds.now c.args.gaps c.in-Found.row c.in_ok-placement-in-Found.placement
    c.in_ok-placement-in-Found.ensures.exact c.requires
    (arranged c.args.pins.now c.args.kinds.now c.args.gaps c.in-Found.tracks c.in-Found.row (first_on
    (g.B.RowBound.value c.args.bound.now) c.args.pins.now c.args.kinds.now c.args.gaps c.in_ok-row.field-0
    c.in-Found.row c.in-Found.tracks c.in-Found.lemmas c.in-Found.is c.in_ok-row.ensures.fewest).first)

pub pieces_on-requires-clause-some : goal.pieces_on-requires-clause-some
pieces_on-requires-clause-some g c =
    has_some (g.B.RowBound.value c.args.bound.now) c.args.pins.now c.args.kinds.now c.args.gaps c.in_ok-row.field-0
    c.in-Found.row c.in-Found.tracks c.in-Found.lemmas c.in_ok-placement-in-Found.placement c.show_limits.ensures
    c.in-Found.is c.in_ok-row.ensures.fewest c.in_ok-row.ensures.take c.in_ok-placement-in-Found.ensures.exact
    (pieces_on-requires-clause-pins g c)

pub returns-in-Some-clause-fewest : goal.returns-in-Some-clause-fewest
returns-in-Some-clause-fewest g c =
    take_same c.args.pins.now c.args.kinds.now c.args.gaps c.in-Found.tracks c.in-Some.routing.tracks
    (same_tracks c.in_ok-placement-in-Found.placement c.args.pins.now c.in-Found.tracks c.in_ok-routing-in-Found.field-0
    c.in-Some.routing c.in-Some.is c.in_ok-routing-in-Found.ensures.first)
    (take_found c.args.pins.now c.args.kinds.now c.args.gaps c.in_ok-row.field-0 c.in-Found.row c.in-Found.tracks
    c.in-Found.lemmas c.show_limits.ensures c.in-Found.is c.in_ok-row.ensures.take)

pub returns-in-Some-clause-first : goal.returns-in-Some-clause-first
returns-in-Some-clause-first g c =
    first_same c.args.pins.now c.args.kinds.now c.args.gaps c.in-Found.tracks c.in-Some.routing.tracks c.in-Found.row
    c.in_ok-placement-in-Found.placement.row c.show_limits.ensures
    (same_tracks c.in_ok-placement-in-Found.placement c.args.pins.now c.in-Found.tracks c.in_ok-routing-in-Found.field-0
    c.in-Some.routing c.in-Some.is c.in_ok-routing-in-Found.ensures.first)
    (ap (λ (p : Placement). p.row) c.in_ok-placement-in-Found.ensures.exact)
    (first_on (g.B.RowBound.value c.args.bound.now) c.args.pins.now c.args.kinds.now c.args.gaps c.in_ok-row.field-0
    c.in-Found.row c.in-Found.tracks c.in-Found.lemmas c.in-Found.is c.in_ok-row.ensures.fewest).first

pub returns-in-Some-clause-certified : goal.returns-in-Some-clause-certified
returns-in-Some-clause-certified g c =
    prove_same PieceLineFits (g.B.RowBound.value c.args.bound.now) c.args.pins.now c.args.kinds.now c.args.gaps
    c.in-Found.tracks c.in-Some.routing.tracks c.in-Found.lemmas
    (same_tracks c.in_ok-placement-in-Found.placement c.args.pins.now c.in-Found.tracks c.in_ok-routing-in-Found.field-0
    c.in-Some.routing c.in-Some.is c.in_ok-routing-in-Found.ensures.first)
    (first_on (g.B.RowBound.value c.args.bound.now) c.args.pins.now c.args.kinds.now c.args.gaps c.in_ok-row.field-0
    c.in-Found.row c.in-Found.tracks c.in-Found.lemmas c.in-Found.is c.in_ok-row.ensures.fewest).proved

pub returns-in-Some-clause-fits : goal.returns-in-Some-clause-fits
returns-in-Some-clause-fits g c =
    λ few low. fits_lemmas c.args.kinds.now c.args.gaps c.args.most c.in-Found.lemmas few low
    (within_found c.args.kinds.now c.args.most c.args.gaps c.in_ok-row.field-0 c.in-Found.row c.in-Found.tracks
    c.in-Found.lemmas c.in-Found.is c.in_ok-row.ensures.within)

pub returns-in-Some-clause-kept : goal.returns-in-Some-clause-kept
returns-in-Some-clause-kept g c =
    kept_same PieceLineFits (g.B.RowBound.value c.args.bound.now) c.args.pins.now c.args.kinds.now c.args.gaps
    c.args.budget c.in-Found.tracks c.in-Some.routing.tracks c.in-Found.lemmas
    (same_tracks c.in_ok-placement-in-Found.placement c.args.pins.now c.in-Found.tracks c.in_ok-routing-in-Found.field-0
    c.in-Some.routing c.in-Some.is c.in_ok-routing-in-Found.ensures.first)
    (kept_found PieceLineFits (g.B.RowBound.value c.args.bound.now) c.args.pins.now c.args.kinds.now c.args.gaps
    c.args.budget c.in_ok-row.field-0 c.in-Found.row c.in-Found.tracks c.in-Found.lemmas c.in-Found.is
    c.in_ok-row.ensures.kept)

pub returns-in-Found-clause-fewest : goal.returns-in-Found-clause-fewest
returns-in-Found-clause-fewest g c =
    take_found c.args.pins.now c.args.kinds.now c.args.gaps c.in_ok-row.field-0 c.in-Found.row c.in-Found.tracks
    c.in-Found.lemmas c.show_limits.ensures c.in-Found.is c.in_ok-row.ensures.take

pub returns-in-Found-clause-fits : goal.returns-in-Found-clause-fits
returns-in-Found-clause-fits g c =
    λ few low. fits_lemmas c.args.kinds.now c.args.gaps c.args.most c.in-Found.lemmas few low
    (within_found c.args.kinds.now c.args.most c.args.gaps c.in_ok-row.field-0 c.in-Found.row c.in-Found.tracks
    c.in-Found.lemmas c.in-Found.is c.in_ok-row.ensures.within)

pub returns-in-Found-clause-kept : goal.returns-in-Found-clause-kept
returns-in-Found-clause-kept g c =
    kept_found PieceLineFits (g.B.RowBound.value c.args.bound.now) c.args.pins.now c.args.kinds.now c.args.gaps
    c.args.budget c.in_ok-row.field-0 c.in-Found.row c.in-Found.tracks c.in-Found.lemmas c.in-Found.is
    c.in_ok-row.ensures.kept

pub returns-clause-fewest : goal.returns-clause-fewest
returns-clause-fewest g c =
    take_open c.args.pins.now c.args.kinds.now c.args.gaps c.in_ok-row.field-0 c.in-Open.proved c.in-Open.lemmas
    c.show_limits.ensures c.in-Open.is c.in_ok-row.ensures.take

pub returns-clause-fits : goal.returns-clause-fits
returns-clause-fits g c =
    λ few low. fits_lemmas c.args.kinds.now c.args.gaps c.args.most c.in-Open.lemmas few low
    (within_open c.args.kinds.now c.args.most c.args.gaps c.in_ok-row.field-0 c.in-Open.proved c.in-Open.lemmas
    c.in-Open.is c.in_ok-row.ensures.within)

pub returns-clause-kept : goal.returns-clause-kept
returns-clause-kept g c =
    kept_open PieceLineFits (g.B.RowBound.value c.args.bound.now) c.args.pins.now c.args.kinds.now c.args.gaps
    c.args.budget c.in_ok-row.field-0 c.in-Open.proved c.in-Open.lemmas c.in-Open.is c.in_ok-row.ensures.kept
