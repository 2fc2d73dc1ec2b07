use Rattle.log_output.specs.Targets.{place_of}
use Rattle.log_output.proofs.Giving.{can_still, then_put, then_stop}
use Rattle.log_output.proofs.block.Block.add.Goals as goal

pub put-requires : goal.put-requires
put-requires g c = can_still (place_of c.args.target) c.args.self.now c.flush.new.self (g.D.Desk.view c.args.desk.now) (g.D.Desk.view c.flush.new.desk) c.in_ok-flush.ensures.all c.requires

pub returns-clause-all : goal.returns-clause-all
returns-clause-all g c = then_put c.put.result (place_of c.args.target) c.args.self.now c.flush.new.self c.args.line.now (g.D.Desk.view c.args.desk.now) (g.D.Desk.view c.flush.new.desk) (g.D.Desk.view c.put.new.desk) c.in_ok-flush.ensures.empty c.in_ok-flush.ensures.all c.put.ensures.all

pub returns-clause-some : goal.returns-clause-some
returns-clause-some g c = then_stop c.put.result (place_of c.args.target) c.args.self.now c.flush.new.self c.args.line.now (g.D.Desk.view c.args.desk.now) (g.D.Desk.view c.flush.new.desk) (g.D.Desk.view c.put.new.desk) c.in_ok-flush.ensures.empty c.in_ok-flush.ensures.all c.put.ensures.some
