use Rattle.std.proofs.Common.{rules, take, get_or}
use Rattle.std.specs.List.{flat_map}
use Rattle.trail_state.specs.declared.edge.FingerEnds.{FingerEnds}
use Rattle.trail_state.specs.Fronts.{paired_with}
use Rattle.trail_state.specs.Known.{parts_of}
use Rattle.trail_state.proofs.Added.{first_edges, now_there}
use Rattle.trail_state.proofs.beside.add_paired.Goals as goal

pub add_at-requires-clause-fingers : goal.add_at-requires-clause-fingers
add_at-requires-clause-fingers c =
    now_there (parts_of c.args.all.now.keys) (parts_of c.loop-at.all.keys) (flat_map (paired_with c.args.x c.args.part.now) (take c.loop-at.at c.args.part.now.left)) c.loop-at.invariant.0

pub add_at-requires-clause-known : goal.add_at-requires-clause-known
add_at-requires-clause-known c =
    let none : FingerEnds = record { lo = 0; hi = 0 } in
    first_edges c.args.x c.args.part.now (get_or c.as_slice-left.result.now c.loop-at.at none) c.loop-at.at c.args.known.fingers c.args.known.edges c.first_beside.result none
    (parts_of c.args.all.now.keys) (parts_of c.loop-at.all.keys) (flat_map (paired_with c.args.x c.args.part.now) (take c.loop-at.at c.args.part.now.left))
    (search rules) (search rules) c.first_beside.ensures c.loop-at.invariant.0 c.requires.edges
