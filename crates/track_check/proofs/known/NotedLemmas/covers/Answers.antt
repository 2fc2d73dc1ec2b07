use Rattle.std.proofs.lemmas.List.Elements.{All-more}
use Rattle.track_ways.specs.Checked.{CoversListed}
use Rattle.track_check.specs.Noted.{IsPassed, state_of}
use Rattle.row_cycles.proofs.Loops.{all_end, no_from, yes_from}
use Rattle.row_cycles.proofs.Noted.{none_of_all}
use Rattle.track_check.proofs.known.NotedLemmas.covers.Goals as goal

pub returns-then-is_covered_at : goal.returns-then-is_covered_at
returns-then-is_covered_at c = yes_from (c.is_covered_at.ensures.yes c.if-is_covered_at.true)

pub loop-place-preserved : goal.loop-place-preserved
loop-place-preserved c = All-more (IsPassed c.args.self.now.lemmas.now c.args.at.now.state c.args.gaps c.args.way.now) c.at-place-items.result.now c.loop-place.place-index 0 c.loop-place-test.true c.loop-place.invariant (c.is_covered_at.ensures.no c.if-is_covered_at.false)

pub returns : goal.returns
returns c = no_from (none_of_all state_of (CoversListed c.args.at.now.state c.args.gaps c.args.way.now) c.args.self.now.lemmas.now c.args.self.now.places.now c.args.at.now c.at-place-items.result.now (λ lemma h. h.state) c.requires c.at-place-items.ensures
    (all_end (IsPassed c.args.self.now.lemmas.now c.args.at.now.state c.args.gaps c.args.way.now) c.at-place-items.result.now c.loop-place.place-index c.loop-place-test.false c.loop-place.invariant))
