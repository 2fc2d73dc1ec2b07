use Rattle.std.proofs.Common.{rules, ◌*◌, ◌+◌, ◌≡◌, arith, refl, ◌∙◌}
use Rattle.end_search.specs.declared.proof.SearchEnd.TheVariants as ended
use Rattle.end_search.proofs.Limits.{fewer_start, proof_stopped, proof_whole, proved_more, proved_none}
use Rattle.end_search.proofs.search.search_ends.Goals as goal

pub loop-limit-init : goal.loop-limit-init
loop-limit-init g c =
    proved_none (g.E.EndSteps.steps c.args.steps.now) g.E.EndSteps.number_of c.args.levels.now (g.E.StartedSteps.start c.args.steps.now) c.args.budget
    c.begin-progress.result c.begin-progress.ensures.lemmas c.begin-progress.ensures.indexed c.begin-progress.ensures.left

pub returns-in-Fewer : goal.returns-in-Fewer
returns-in-Fewer g c =
    proof_stopped (g.E.EndSteps.steps c.args.steps.now) g.E.EndSteps.number_of c.args.levels.now (g.E.StartedSteps.start c.args.steps.now) c.args.budget
    c.args.gaps c.loop-limit.progress c.visit.new.progress c.in_ok-start.start c.loop-limit.ends c.loop-limit.limit (2 * c.loop-limit.limit + 3) ended.Exact c.proof.result
    c.in_ok-start.ensures c.proof.ensures c.loop-limit.invariant refl c.in_ok-visit.ensures.further c.in_ok-visit.ensures.path
    (fewer_start (g.E.EndSteps.steps c.args.steps.now) g.E.EndSteps.number_of c.args.levels.now (g.E.StartedSteps.start c.args.steps.now) c.args.budget
    c.in_ok-start.start c.loop-limit.ends c.loop-limit.limit (2 * c.loop-limit.limit + 3) c.in_ok-start.ensures c.loop-limit.invariant.gaps_are refl
    (c.in_ok-visit.ensures.fewer c.in-Fewer.is))
    (let all : c.from-limit-end.result ≡ c.args.gaps = search rules in omega (arith, all, c.loop-limit-test.true))

pub returns-in-Spent : goal.returns-in-Spent
returns-in-Spent g c =
    proof_stopped (g.E.EndSteps.steps c.args.steps.now) g.E.EndSteps.number_of c.args.levels.now (g.E.StartedSteps.start c.args.steps.now) c.args.budget
    c.args.gaps c.loop-limit.progress c.visit.new.progress c.in_ok-start.start c.loop-limit.ends c.loop-limit.limit (2 * c.loop-limit.limit + 3) ended.Spent c.proof-in-Spent.result
    c.in_ok-start.ensures c.proof-in-Spent.ensures c.loop-limit.invariant refl c.in_ok-visit.ensures.further c.in_ok-visit.ensures.path
    (c.in_ok-visit.ensures.spent c.in-Spent.is)
    (let all : c.from-limit-end.result ≡ c.args.gaps = search rules in omega (arith, all, c.loop-limit-test.true))

pub loop-limit-preserved : goal.loop-limit-preserved
loop-limit-preserved g c =
    proved_more (g.E.EndSteps.steps c.args.steps.now) g.E.EndSteps.number_of c.args.levels.now (g.E.StartedSteps.start c.args.steps.now) c.args.budget
    c.loop-limit.progress c.visit.new.progress c.keep.new.progress c.in_ok-start.start c.loop-limit.ends c.loop-limit.limit (2 * c.loop-limit.limit + 3)
    c.in_ok-start.ensures c.loop-limit.invariant refl c.in_ok-visit.ensures.further
    (c.in_ok-visit.ensures.shown c.in-Shown.is) (c.in_ok-visit.ensures.each c.in-Shown.is)
    c.in_ok-keep.ensures.lemmas c.in_ok-keep.ensures.indexed c.in_ok-keep.ensures.left

pub returns : goal.returns
returns g c =
    let all : c.from-limit-end.result ≡ c.args.gaps = search rules in
    let last : c.loop-limit.limit ≡ c.args.gaps = omega (arith, all, c.loop-limit-test.false, c.loop-limit.auto.limit-end) in
    proof_whole (g.E.EndSteps.steps c.args.steps.now) g.E.EndSteps.number_of c.args.levels.now (g.E.StartedSteps.start c.args.steps.now) c.args.budget
    c.args.gaps c.loop-limit.progress c.loop-limit.ends c.loop-limit.limit c.proof-2.result
    c.proof-2.ensures c.loop-limit.invariant (c.loop-limit.invariant.gaps_are ∙ last)
