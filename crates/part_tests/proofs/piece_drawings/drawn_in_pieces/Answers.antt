use Rattle.std.proofs.Common.{subst, sym}
use Rattle.cell_num.specs.Pins.{ArePins}
use Rattle.part_tests.proofs.piece_drawings.drawn_in_pieces.Goals as goal

pub drawn_in-drawing-requires-clause-pins : goal.drawn_in-drawing-requires-clause-pins
drawn_in-drawing-requires-clause-pins c =
    let s = c.requires.sound in
    c.in_ok-placement.ensures.pins c.args.cell.now.names c.args.cell.now.pins s.fingers s.sound (subst (λ n. ArePins n c.args.cell.now.pins) (sym s.sound.named) c.requires.pins) s.arranged
