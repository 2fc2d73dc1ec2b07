use Rattle.std.proofs.Common.{rules}
use Rattle.trail_state.proofs.Fronts.{edge_added}
use Rattle.trail_state.proofs.columns.add_edge.Goals as goal

pub returns-clause-added : goal.returns-clause-added
returns-clause-added c =
    edge_added c.args.all.now.keys c.add_copy.new.all.keys c.put_edges.new.more c.args.part.now c.args.more.now.part.left c.args.more.now.known.fingers c.args.number c.args.edge.now
    (search rules) (search rules) (search rules) (search rules) (search rules)
