use Rattle.std.proofs.Common.{sym, subst}
use Rattle.net_extract.specs.Corners.{HaveFewSides}
use Rattle.net_extract.proofs.Cornering.{few_sides}
use Rattle.net_extract.proofs.drawing.map_few.Goals as goal

pub wells_by-requires-clause-few : goal.wells_by-requires-clause-few
wells_by-requires-clause-few c = subst HaveFewSides (sym c.as_slice-rects.ensures) (few_sides c.args.shapes.now.rects c.requires.few.rects)

pub connections_by-requires-clause-few : goal.connections_by-requires-clause-few
connections_by-requires-clause-few c = subst HaveFewSides (sym c.as_slice-rects.ensures) (few_sides c.args.shapes.now.rects c.requires.few.rects)

pub gate_map-requires-clause-few : goal.gate_map-requires-clause-few
gate_map-requires-clause-few c = subst HaveFewSides (sym c.as_slice-rects.ensures) (few_sides c.args.shapes.now.rects c.requires.few.rects)
