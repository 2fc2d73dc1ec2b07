use Rattle.std.proofs.Common.{rules}
use Rattle.trail_state.specs.declared.edge.Edge.{Edge}
use Rattle.trail_state.specs.Known.{parts_of}
use Rattle.trail_state.proofs.Fronts.{column_known, column_parts}
use Rattle.trail_state.proofs.columns.add_column.Goals as goal

pub loop-number-preserved : goal.loop-number-preserved
loop-number-preserved c =
    let none : Edge = record { a = record { 0 = 0 }; b = record { 0 = 0 } } in (
      column_parts c.args.part.now c.args.more.part.left c.args.edges.now c.loop-number.number c.args.more.known.fingers c.known_number-known.result none (parts_of c.args.all.now.keys) c.loop-number.all.keys c.add_edge.new.all.keys
          (search rules) (search rules) (search rules),
      λ gate xs next known.
          column_known gate xs c.args.part.now c.args.more.part.left c.args.more.known.fingers c.known_number-known.result c.args.again c.args.edges.now c.loop-number.number none _ c.loop-number.all.keys c.add_edge.new.all.keys
          (search rules) (search rules) (search rules) (search rules) next (c.loop-number.invariant.1 gate xs next known),
      search rules,
      search rules,
    )
