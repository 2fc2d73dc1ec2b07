use Rattle.std.proofs.Common.{List, ltb, refl, ap, ◌∙◌}
use Rattle.std.specs.List.{flat_map}
use Rattle.std.proofs.lemmas.Grind.{flat_map-append}
use Rattle.row_state.specs.declared.kind.Kind.{Kind}
use Rattle.row_state.specs.declared.kind.Kinds.{Kinds}
use Rattle.row_state.specs.declared.step.Side.{Side}
use Rattle.row_state.specs.declared.step.Step.{Step}
use Rattle.row_state.specs.Tests.{sides_on, with_side}
use Rattle.row_state.proofs.Sides.{given_all, given_more, given_none}
use Rattle.row_state.proofs.listing.push_filled.Goals as goal

pub loop-at-init : goal.loop-at-init
loop-at-init c =
    let one : Side → List Step = with_side (sides_on c.args.kinds.now.n c.args.state.now.n_left c.args.on.now.gate) (ltb c.args.on.now.n.left c.args.on.now.p.left) in
    given_none (flat_map one) c.args.steps.now c.args.kinds.now.p c.args.state.now.p_left c.args.on.now.gate c.args.on.now.p.from refl c.requires.on.p.begins

pub loop-at-preserved : goal.loop-at-preserved
loop-at-preserved c =
    let blank : Kind = record { gate = record { 0 = 0 }; lo = record { 0 = 0 }; hi = record { 0 = 0 }; width = 0; count = 0 } in
    let one : Side → List Step = with_side (sides_on c.args.kinds.now.n c.args.state.now.n_left c.args.on.now.gate) (ltb c.args.on.now.n.left c.args.on.now.p.left) in
    given_more (flat_map one) c.args.steps.now c.loop-at.steps c.push_kind.new.steps c.args.kinds.now.p c.as_slice-p_kinds.result.now c.args.state.now.p_left c.as_slice-p_left.result.now c.args.on.now.gate c.loop-at.at c.args.on.now.p blank 0 (λ xs ys. flat_map-append one xs ys) c.requires.on.p c.requires.state.p_kinds c.loop-at.auto.at c.loop-at-test.true (c.as_slice-p_kinds.ensures ∙ ap (λ (k : Kinds). k.p) c.kinds.view_is) c.as_slice-p_left.ensures c.loop-at.invariant c.in_ok-push_kind.ensures

pub returns : goal.returns
returns c =
    let one : Side → List Step = with_side (sides_on c.args.kinds.now.n c.args.state.now.n_left c.args.on.now.gate) (ltb c.args.on.now.n.left c.args.on.now.p.left) in
    given_all (flat_map one) c.args.steps.now c.loop-at.steps c.args.kinds.now.p c.args.state.now.p_left c.args.on.now.gate c.loop-at.at c.args.on.now.p c.requires.on.p c.loop-at.auto.at-end c.loop-at-test.false c.loop-at.invariant
