use Rattle.std.proofs.Common.{rules, ◌≡◌, length}
use Rattle.lef_read.specs.Lookups.{Fits}
use Rattle.lef_read.proofs.Runs.{before_answer, behind_answer, only_one}
use Rattle.lef_read.proofs.fit.+first_misfit.Goals as goal

pub returns-in-len1 : goal.returns-in-len1
returns-in-len1 t c =
    let one : length c.args.claims.now ≡ 1 = search rules in
    only_one (Fits c.args.map.now) c.args.claims.now c.claim-item.result one c.claim-item.is c.requires.some

pub returns-then-branch : goal.returns-then-branch
returns-then-branch t c = behind_answer (Fits c.args.map.now) _ c.args.claims.now c.split_at.result.0.now c.split_at.result.1.now c.first_misfit.result c.split_at.ensures.front c.split_at.ensures.back (c.in_ok-all_fit.ensures.0 c.if-branch.true) c.first_misfit.ensures

pub returns-else-branch : goal.returns-else-branch
returns-else-branch t c = before_answer (Fits c.args.map.now) _ c.args.claims.now c.split_at.result.0.now c.split_at.result.1.now c.first_misfit-else-branch.result c.split_at.ensures.front c.split_at.ensures.back c.first_misfit-else-branch.ensures
