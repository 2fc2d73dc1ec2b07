use Rattle.std.proofs.Common.{◌↔◌, ap, subst, ◌∙◌}
use Rattle.std.specs.Prelude.{IsTrue}
use Rattle.track_ways.specs.Certificate.{NeedsMore}
use Rattle.track_search.specs.declared.known.Known.{Known}
use Rattle.track_search.proofs.Bare.{free_same, most_same, part_same, too_few_set}
use Rattle.track_search.proofs.progress.Progress.needs_more.Goals as goal

pub returns-clause-noted : goal.returns-clause-noted
returns-clause-noted g c = record {
  places = c.requires.noted.places;
  too_few = too_few_set (g.B.RowBound.value c.args.task.now.bound.now) c.args.task.now.kinds.now c.args.self.now.known c.set.new.self c.args.at.now.state c.args.at.now.code c.args.gaps c.requires.numbered.valid c.requires.numbered.code (c.in_ok-more.ensures.more.0 c.if-not-more.false) (ap (λ (x : Known). x.too_few) c.in_ok-set.ensures.set) c.in_ok-set.ensures.others c.requires.noted.too_few;
  bare = most_same c.args.task.now.kinds.now c.args.self.now.lemmas c.args.self.now.known c.set.new.self (part_same (λ (x : Known). x.closed) c.args.self.now.known c.set.new.self c.args.at.now.code (ap (λ (x : Known). x.closed) c.in_ok-set.ensures.set ∙ ap (λ (x : Known). x.closed) c.at-here.ensures) c.in_ok-set.ensures.others) c.requires.noted.bare;
  free = free_same c.args.task.now.pins.now c.args.task.now.limit c.args.task.now.kinds.now c.args.self.now.known c.set.new.self (part_same (λ (x : Known). x.free) c.args.self.now.known c.set.new.self c.args.at.now.code (ap (λ (x : Known). x.free) c.in_ok-set.ensures.set ∙ ap (λ (x : Known). x.free) c.at-here.ensures) c.in_ok-set.ensures.others) c.requires.noted.free;
}

pub returns-then-not-more-clause-more : goal.returns-then-not-more-clause-more
returns-then-not-more-clause-more g c = subst (λ b. IsTrue b ↔ NeedsMore (g.B.RowBound.value c.args.task.now.bound.now) c.args.task.now.kinds.now c.args.at.now.state c.args.gaps) c.if-not-more.true c.in_ok-more.ensures.more

pub returns-clause-more : goal.returns-clause-more
returns-clause-more g c = subst (λ b. IsTrue b ↔ NeedsMore (g.B.RowBound.value c.args.task.now.bound.now) c.args.task.now.kinds.now c.args.at.now.state c.args.gaps) c.if-not-more.false c.in_ok-more.ensures.more
