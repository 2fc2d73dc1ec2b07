use Rattle.std.proofs.Common.{ap, ◌∙◌}
use Rattle.track_search.specs.declared.known.Known.{Known}
use Rattle.track_search.proofs.Bare.{free_set, most_same, too_few_same, part_same}
use Rattle.track_search.proofs.progress.Progress.note_free.Goals as goal

pub returns-clause-noted : goal.returns-clause-noted
returns-clause-noted g c = record {
  places = c.requires.noted.places;
  too_few = too_few_same (g.B.RowBound.value c.args.task.now.bound.now) c.args.task.now.kinds.now c.args.self.now.known c.set.new.self (part_same (λ (x : Known). x.too_few) c.args.self.now.known c.set.new.self c.args.at.now.code (ap (λ (x : Known). x.too_few) c.in_ok-set.ensures.set ∙ ap (λ (x : Known). x.too_few) c.at-here.ensures) c.in_ok-set.ensures.others) c.requires.noted.too_few;
  bare = most_same c.args.task.now.kinds.now c.args.self.now.lemmas c.args.self.now.known c.set.new.self (part_same (λ (x : Known). x.closed) c.args.self.now.known c.set.new.self c.args.at.now.code (ap (λ (x : Known). x.closed) c.in_ok-set.ensures.set ∙ ap (λ (x : Known). x.closed) c.at-here.ensures) c.in_ok-set.ensures.others) c.requires.noted.bare;
  free = free_set c.args.task.now.pins.now c.args.task.now.limit c.args.task.now.kinds.now c.args.self.now.known c.set.new.self c.args.at.now.state c.args.at.now.code c.args.gaps c.requires.numbered.valid c.requires.numbered.code c.requires.free (ap (λ (x : Known). x.free) c.in_ok-set.ensures.set) c.in_ok-set.ensures.others c.requires.noted.free;
}
