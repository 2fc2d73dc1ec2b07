use Rattle.std.proofs.Common.{sym, subst}
use Rattle.cell_num.specs.declared.finger.Row.TheVariants.{P, N}
use Rattle.net_extract.specs.Pieces.{rect_of}
use Rattle.net_extract.specs.Sides.{IsInRow}
use Rattle.net_extract.proofs.Siding.{no_row}
use Rattle.net_extract.proofs.device.device_of.Goals as goal

pub returns-clause-none : goal.returns-clause-none
returns-clause-none c = λ e. no_row c.args.map.now.deck c.args.shapes.now (rect_of c.args.gate.now)
    (λ h. let t = c.is_in_row.ensures.1 (subst (IsInRow c.args.shapes.now P) (sym c.whole.ensures) h) in let f = c.if-is_in_row.false in absurd cc)
    (λ h. let t = c.is_in_row-2.ensures.1 (subst (IsInRow c.args.shapes.now N) (sym c.whole-2.ensures) h) in let f = c.if-is_in_row-2.false in absurd cc)
