use Rattle.std.proofs.Common.{IfOk, refl, subst}
use Rattle.cell_commands.specs.Given.{Arranges}
use Rattle.cell_commands.specs.Make.{IsDrawnTo}
use Rattle.cell_commands.specs.RowEnd.{RowEvidence}
use Rattle.cell_commands.proofs.given.given_end.Goals as goal

pub drawn-requires : goal.drawn-requires
drawn-requires c = record { arranged = subst (Arranges c.args.inputs.now) c.in-Row.is c.requires }

pub returns-in-Row : goal.returns-in-Row
returns-in-Row c =
    rw c.in-Row.is (subst (λ (told : RowEvidence). IfOk c.drawn.result (IsDrawnTo c.args.style c.args.inputs.now c.args.stem.now c.in-Row.row told)) c.without_file-evidence.ensures c.drawn.ensures)

pub returns-in-Refused : goal.returns-in-Refused
returns-in-Refused c = rw c.in-Refused.is refl
