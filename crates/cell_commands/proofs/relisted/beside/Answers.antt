use Rattle.std.proofs.Common.{◌∙◌, sym}
use Rattle.cell_commands.specs.Relisted.{kind_of}
use Rattle.cell_commands.proofs.Ended.{found_arranges, short_row}
use Rattle.cell_commands.proofs.Lows.{beside_listed, beside_more}
use Rattle.cell_commands.proofs.relisted.beside.Goals as goal

pub gaps-requires : goal.gaps-requires
gaps-requires c = short_row c.args.inputs.now c.args.row.now c.show_limits.ensures c.requires.arranged

pub gaps-requires-2 : goal.gaps-requires-2
gaps-requires-2 c =
    short_row c.args.inputs.now c.args.least.now c.show_limits.ensures
    (found_arranges (kind_of c.args.certificate) c.args.inputs.now c.args.least.now c.args.certificate c.requires.found)

pub returns-then-gaps : goal.returns-then-gaps
returns-then-gaps c =
    beside_listed c.args.inputs.now c.args.least.now c.args.row.now c.args.certificate c.relisted.result c.requires.found c.requires.arranged
    (sym c.gaps.ensures ∙ c.if-gaps.true ∙ c.gaps-2.ensures) c.relisted.ensures

pub returns-else-gaps : goal.returns-else-gaps
returns-else-gaps c =
    beside_more c.args.inputs.now c.args.least.now c.args.row.now c.args.certificate c.requires.found c.requires.arranged
    (λ same. c.if-gaps.false (c.gaps.ensures ∙ same ∙ sym c.gaps-2.ensures))
