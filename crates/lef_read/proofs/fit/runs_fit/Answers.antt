use Rattle.std.proofs.Common.{rules, ◌-◌, length, take, drop}
use Rattle.lef_read.specs.Lookups.{Fits, HasBlock}
use Rattle.lef_read.proofs.Runs.{first_part, run_back, run_front, run_goes, run_stops}
use Rattle.lef_read.proofs.fit.runs_fit.Goals as goal

pub do_fit-requires-clause-more : goal.do_fit-requires-clause-more
do_fit-requires-clause-more c = run_front HasBlock c.first-item.result c.runs.rest.now (take (length c.runs.rest.now - 1) (drop 1 c.runs.rest.now)) c.split_at.result.0.now c.count_alike.result (first_part c.runs.rest.now c.first-item.result c.in-len1-up.len_at_least c.first-item.is) c.split_at.ensures.front c.runs.invariant.1

pub returns-then-not-branch : goal.returns-then-not-branch
returns-then-not-branch c = run_stops (Fits c.args.map.now) c.first-item.result c.runs.rest.now (take (length c.runs.rest.now - 1) (drop 1 c.runs.rest.now)) c.args.claims.now c.split_at.result.0.now c.count_alike.result c.in_ok-do_fit.field-0 (first_part c.runs.rest.now c.first-item.result c.in-len1-up.len_at_least c.first-item.is) c.split_at.ensures.front (search rules) c.in_ok-do_fit.ensures c.runs.invariant.0

pub runs-preserved : goal.runs-preserved
runs-preserved c = (
  run_goes (Fits c.args.map.now) c.first-item.result c.runs.rest.now (take (length c.runs.rest.now - 1) (drop 1 c.runs.rest.now)) c.args.claims.now c.split_at.result.0.now c.split_at.result.1.now c.count_alike.result c.in_ok-do_fit.field-0 (first_part c.runs.rest.now c.first-item.result c.in-len1-up.len_at_least c.first-item.is) c.split_at.ensures.front c.split_at.ensures.back (search rules) c.in_ok-do_fit.ensures c.runs.invariant.0,
  run_back HasBlock c.first-item.result c.runs.rest.now (take (length c.runs.rest.now - 1) (drop 1 c.runs.rest.now)) c.split_at.result.1.now c.count_alike.result (first_part c.runs.rest.now c.first-item.result c.in-len1-up.len_at_least c.first-item.is) c.split_at.ensures.back c.runs.invariant.1,
)
