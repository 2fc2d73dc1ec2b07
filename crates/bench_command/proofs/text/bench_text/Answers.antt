use Rattle.std.proofs.Common.{◌≡◌, ◌++◌, rules}
use Rattle.bench_command.specs.Text.{cell_text}
use Rattle.bench_command.proofs.Drawn.{text_more}
use Rattle.bench_command.proofs.text.bench_text.Goals as goal

pub loop-cell-preserved : goal.loop-cell-preserved
loop-cell-preserved c =
    let next : c.put_cell.new.out ≡ c.loop-cell.out ++ cell_text c.loop-cell.cell = search rules in
    text_more cell_text c.loop-cell.cell c.loop-cell.out c.put_cell.new.out c.loop-cell.invariant next
