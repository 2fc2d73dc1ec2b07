use Rattle.std.proofs.Common.{ℕ, ◌≡◌, ◌++◌, OnOk, subst}
use Rattle.cell_report.specs.Cells.{fewest_dogleg_text}
use Rattle.cell_report.proofs.cells.put_fewest_dogleg.Goals as goal

pub returns : goal.returns
returns c = subst (λ (n : ℕ). OnOk c.put_count.result (c.put_count.new.out ≡ c.args.out.now ++ fewest_dogleg_text n)) c.from.ensures c.put_count.ensures
