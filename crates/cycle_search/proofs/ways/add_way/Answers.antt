use Rattle.std.proofs.Common.{ap, ◌∙◌, ◌++◌}
use Rattle.std.proofs.lemmas.Bool.{both_ways}
use Rattle.cycle_search.specs.Ways.{IsWay}
use Rattle.cycle_search.proofs.Needs.{adds_none, adds_some, way_added}
use Rattle.cycle_search.proofs.ways.add_way.Goals as goal

pub returns-then-is_same-clause-adds : goal.returns-then-is_same-clause-adds
returns-then-is_same-clause-adds c = adds_none c.args.asked.now.pairs c.args.need.now

pub returns-in_default-clause-adds : goal.returns-in_default-clause-adds
returns-in_default-clause-adds c = adds_none c.args.asked.now.pairs c.args.need.now

pub returns-clause-adds : goal.returns-clause-adds
returns-clause-adds c =
    let way : IsWay c.args.asked.now.pairs c.args.new.now c.args.pair.now.upper c.args.pair.now.lower c.in-Some.pairs = rw c.in-Some.is at c.in_ok-pairs.ensures in
    adds_some c.args.asked.now.pairs c.args.need.now c.extend.new.self c.in-Some.pairs (c.in_ok-extend.ensures.ok ∙ ap (λ ps. c.args.need.now ++ ps) c.as_slice.ensures) way.follow

pub returns-clause-follows : goal.returns-clause-follows
returns-clause-follows c = λ e.
    let way : IsWay c.args.asked.now.pairs c.args.new.now c.args.pair.now.upper c.args.pair.now.lower c.in-Some.pairs = rw c.in-Some.is at c.in_ok-pairs.ensures in
    way_added c.args.asked.now.pairs c.args.need.now c.in-Some.pairs c.extend.new.self c.args.new.now c.args.pair.now (c.in_ok-extend.ensures.ok ∙ ap (λ ps. c.args.need.now ++ ps) c.as_slice.ensures) (λ same. both_ways c.is_same.result c.if-is_same.false (c.is_same.ensures.1 same)) way
