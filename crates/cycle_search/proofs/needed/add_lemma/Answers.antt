use Rattle.std.proofs.Common.{All, subst, ◌++◌}
use Rattle.row_cycles.specs.Above.{Follows}
use Rattle.cycle_search.proofs.Needs.{adds_none}
use Rattle.cycle_search.proofs.needed.add_lemma.Goals as goal

pub returns-then-not-is_about-clause-adds : goal.returns-then-not-is_about-clause-adds
returns-then-not-is_about-clause-adds c = adds_none c.args.asked.now.pairs c.args.need.now

pub returns-clause-covers : goal.returns-clause-covers
returns-clause-covers c = λ e. record {
  state = c.is_about.ensures.state c.if-not-is_about.false;
  enough = c.is_about.ensures.gaps c.if-not-is_about.false;
  follow = subst (λ ps. All (Follows (c.add_ways.new.need ++ ps)) c.args.lemma.now.above) c.as_slice.ensures
      (subst (All (Follows (c.add_ways.new.need ++ c.as_slice.result.now))) c.as_slice-2.ensures (c.in_ok-found.ensures.follow e));
}
