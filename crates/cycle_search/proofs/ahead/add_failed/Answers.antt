use Rattle.cycle_search.proofs.Needs.{adds_on, adds_some, all_follow_self}
use Rattle.std.proofs.Common.{ap, ◌∙◌, ◌++◌}
use Rattle.cycle_search.proofs.Visited.{covers_all}
use Rattle.cycle_search.proofs.ahead.add_failed.Goals as goal

pub returns-then-branch-clause-covers : goal.returns-then-branch-clause-covers
returns-then-branch-clause-covers c = c.in_ok-add_known.ensures.covers c.if-branch.true

pub returns-clause-adds : goal.returns-clause-adds
returns-clause-adds c = adds_on c.args.asked.now.pairs c.args.need.now c.add_known.new.need c.extend.new.self c.in_ok-add_known.ensures.adds
    (adds_some c.args.asked.now.pairs c.add_known.new.need c.extend.new.self c.args.asked.now.pairs (c.in_ok-extend.ensures.ok ∙ ap (λ ps. c.add_known.new.need ++ ps) c.as_slice.ensures) (all_follow_self c.args.asked.now.pairs))

pub returns-clause-covers : goal.returns-clause-covers
returns-clause-covers c =
    covers_all c.args.known.now.lemmas.now c.args.ahead.now.state.state c.args.ahead.now.left c.args.asked.now.pairs c.add_known.new.need c.extend.new.self c.args.ahead.now.new c.args.ahead.now.asked.pairs (c.in_ok-extend.ensures.ok ∙ ap (λ ps. c.add_known.new.need ++ ps) c.as_slice.ensures) c.requires.onward c.requires.covered
