use Rattle.call_work.proofs.Keeping.{keeps_bench}
use Rattle.call_work.proofs.commands.gather_form.Goals as goal

pub returns-in-Bench-clause-comes : goal.returns-in-Bench-clause-comes
returns-in-Bench-clause-comes g c =
    rw c.in-Bench.is (keeps_bench (g.D.Desk.view c.args.desk.now) (g.D.Desk.view c.args.desk.now) c.in-Bench.number)
