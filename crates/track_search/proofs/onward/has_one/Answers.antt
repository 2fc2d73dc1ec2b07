use Rattle.std.proofs.lemmas.Bool.{both_ways}
use Rattle.track_search.specs.Visit.{HasPart}
use Rattle.row_cycles.proofs.Loops.{all_end, any_here, one_more}
use Rattle.track_search.proofs.onward.has_one.Goals as goal

pub loop-other-preserved : goal.loop-other-preserved
loop-other-preserved c = one_more (λ other. HasPart c.args.way.now other → ⊥) c.args.others.now c.loop-other.other-index c.other-item.result c.other-item.is c.loop-other-test.true c.loop-other.invariant (λ part. both_ways c.has_part.result c.if-has_part.false (c.has_part.ensures.1 part))

pub returns-then-has_part-clause-yes : goal.returns-then-has_part-clause-yes
returns-then-has_part-clause-yes c = λ e. any_here (HasPart c.args.way.now) c.args.others.now c.loop-other.other-index c.other-item.result c.other-item.is c.loop-other-test.true (c.has_part.ensures.0 c.if-has_part.true)

pub returns-clause-no : goal.returns-clause-no
returns-clause-no c = λ e. all_end (λ other. HasPart c.args.way.now other → ⊥) c.args.others.now c.loop-other.other-index c.loop-other-test.false c.loop-other.invariant
