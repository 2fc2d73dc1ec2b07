use Rattle.std.proofs.Common.{refl}
use Rattle.std.proofs.lemmas.List.{map-append}
use Rattle.row_state.specs.declared.kind.Kind.{Kind}
use Rattle.row_state.specs.Tests.{with_each}
use Rattle.row_state.proofs.Sides.{given_all, given_more, given_none}
use Rattle.row_state.proofs.listing.push_each.Goals as goal

pub loop-at-init : goal.loop-at-init
loop-at-init c = given_none (with_each c.args.p) c.args.steps.now c.args.kinds.now c.args.left.now c.args.gate c.args.run.from refl c.requires.run.begins

pub loop-at-preserved : goal.loop-at-preserved
loop-at-preserved c =
    let blank : Kind = record { gate = record { 0 = 0 }; lo = record { 0 = 0 }; hi = record { 0 = 0 }; width = 0; count = 0 } in
    given_more (with_each c.args.p) c.args.steps.now c.loop-at.steps c.push_turns.new.steps c.args.kinds.now c.args.kinds.now c.args.left.now c.args.left.now c.args.gate c.loop-at.at c.args.run blank 0 (λ xs ys. map-append _ xs ys) c.requires.run c.requires.same c.loop-at.auto.at c.loop-at-test.true refl refl c.loop-at.invariant c.in_ok-push_turns.ensures

pub returns : goal.returns
returns c = given_all (with_each c.args.p) c.args.steps.now c.loop-at.steps c.args.kinds.now c.args.left.now c.args.gate c.loop-at.at c.args.run c.requires.run c.loop-at.auto.at-end c.loop-at-test.false c.loop-at.invariant
