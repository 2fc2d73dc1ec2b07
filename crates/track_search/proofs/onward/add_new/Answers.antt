use Rattle.std.proofs.Common.{All, Any, ap, inl, inr, subst, sym, ◌++◌, ◌∷◌, [], ◌∙◌}
use Rattle.std.proofs.lemmas.Bool.{both_ways}
use Rattle.track_ways.specs.Checked.{CoversListed}
use Rattle.track_search.specs.Visit.{HasPart}
use Rattle.track_search.proofs.Lists.{added_all, added_none, added_push, added_taken, fresh_push}
use Rattle.track_search.proofs.onward.add_new.Goals as goal

pub loop-way-init : goal.loop-way-init
loop-way-init c = (added_none c.args.known.now.lemmas.now c.args.at.now.state c.args.left c.args.found.now c.args.ways.now, c.requires.fresh)

pub loop-way-preserved-then-covers : goal.loop-way-preserved-then-covers
loop-way-preserved-then-covers c = (added_taken c.args.known.now.lemmas.now c.args.at.now.state c.args.left c.args.found.now c.args.ways.now c.loop-way.ways c.loop-way.way-index c.way-item.result c.way-item.is c.loop-way-test.true c.loop-way.invariant.0 (inl (subst (λ w. Any (CoversListed c.args.at.now.state c.args.left w) c.args.known.now.lemmas.now) c.as_slice.ensures (c.covers.ensures.0 c.if-covers.true))), c.loop-way.invariant.1)

pub loop-way-preserved-then-has_one : goal.loop-way-preserved-then-has_one
loop-way-preserved-then-has_one c = (added_taken c.args.known.now.lemmas.now c.args.at.now.state c.args.left c.args.found.now c.args.ways.now c.loop-way.ways c.loop-way.way-index c.way-item.result c.way-item.is c.loop-way-test.true c.loop-way.invariant.0 (inr (subst (Any (HasPart c.way-item.result)) c.as_slice-in-loop-way.ensures (c.has_one.ensures.yes c.if-has_one.true))), c.loop-way.invariant.1)

pub loop-way-preserved : goal.loop-way-preserved
loop-way-preserved c = (
  added_push c.args.known.now.lemmas.now c.args.at.now.state c.args.left c.args.found.now c.args.ways.now c.loop-way.ways c.push.new.self c.loop-way.way-index c.way-item.result c.way-item.is c.loop-way-test.true c.loop-way.invariant.0 (c.in_ok-push.ensures.ok ∙ ap (λ z. c.loop-way.ways ++ z ∷ []) c.in_ok-copied_way.ensures),
  fresh_push c.args.known.now.lemmas.now c.args.at.now.state c.args.left c.loop-way.ways c.push.new.self c.way-item.result c.loop-way.invariant.1 (c.in_ok-push.ensures.ok ∙ ap (λ z. c.loop-way.ways ++ z ∷ []) c.in_ok-copied_way.ensures) (λ any. both_ways c.covers.result c.if-covers.false (c.covers.ensures.1 (subst (λ w. Any (CoversListed c.args.at.now.state c.args.left w) c.args.known.now.lemmas.now) (sym c.as_slice.ensures) any))) (subst (All (λ other. HasPart c.way-item.result other → ⊥)) c.as_slice-in-loop-way.ensures (c.has_one.ensures.no c.if-has_one.false)),
)

pub returns-clause-added : goal.returns-clause-added
returns-clause-added c = added_all c.args.known.now.lemmas.now c.args.at.now.state c.args.left c.args.found.now c.args.ways.now c.loop-way.ways c.loop-way.way-index c.loop-way-test.false c.loop-way.invariant.0
