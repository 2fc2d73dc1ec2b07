use Rattle.std.proofs.Common.{rules, ◌≡◌, subst}
use Rattle.std.specs.List.{All}
use Rattle.lef_read.specs.Agreement.{shown_on}
use Rattle.lef_read.specs.Lookups.{HasLimits, HavePortsLimits}
use Rattle.lef_read.proofs.BareMetal.{shown_blocks}
use Rattle.lef_read.proofs.metal.shown.Goals as goal

pub returns-clause-blocks : goal.returns-clause-blocks
returns-clause-blocks c =
    let e : c.add_shown.new.blocks.items ≡ shown_on c.args.layer c.args.cell.now = search rules in
    shown_blocks c.args.layer c.args.cell.now c.add_shown.new.blocks.items (subst (All HavePortsLimits) c.as_slice.ensures c.show_ports_limits.ensures) (subst (All HasLimits) c.as_slice-2.ensures c.show_limits.ensures) e
