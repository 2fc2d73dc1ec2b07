use Rattle.std.proofs.Common.{rules, ◌≡◌, List, ap, ◌∙◌}
use Rattle.trail_state.specs.declared.edge.Edge.{Edge}
use Rattle.trail_state.specs.declared.edge.Node.{Node}
use Rattle.trail_state.specs.Settling.{ends_after, state_after}
use Rattle.trail_check.proofs.Each.{reaches_is}
use Rattle.trail_check.proofs.justified.reaches_by_lemmas.Goals as goal

pub returns : goal.returns
returns c =
    let done : c.from.result ≡ c.args.lemma.now.done = search rules in
    let nodes : c.as_slice.result.now ≡ c.args.level.now.now = search rules in
    let next : c.as_slice-2.result.now ≡ c.args.level.now.next = search rules in
    let edges : c.as_slice-3.result.now ≡ c.args.choice.now = search rules in
    let state : c.in_ok-settled.settled.state ≡ state_after c.args.level.now.now c.args.level.now.next c.args.lemma.now.state c.args.choice.now =
    c.in_ok-settled.ensures.state
    ∙ ap (λ (l : List Node). state_after l c.as_slice-2.result.now c.args.lemma.now.state c.as_slice-3.result.now) nodes
    ∙ ap (λ (l : List Node). state_after c.args.level.now.now l c.args.lemma.now.state c.as_slice-3.result.now) next
    ∙ ap (λ (l : List Edge). state_after c.args.level.now.now c.args.level.now.next c.args.lemma.now.state l) edges in
    let ends : c.in_ok-settled.settled.ends ≡ ends_after c.args.level.now.now c.args.level.now.next c.args.lemma.now.state c.args.choice.now =
    c.in_ok-settled.ensures.ends
    ∙ ap (λ (l : List Node). ends_after l c.as_slice-2.result.now c.args.lemma.now.state c.as_slice-3.result.now) nodes
    ∙ ap (λ (l : List Node). ends_after c.args.level.now.now l c.args.lemma.now.state c.as_slice-3.result.now) next
    ∙ ap (λ (l : List Edge). ends_after c.args.level.now.now c.args.level.now.next c.args.lemma.now.state l) edges in
    c.knows.ensures
    ∙ reaches_is c.args.earlier.now c.args.level.now c.args.lemma.now c.args.choice.now c.from.result c.in_ok-settled.settled.state c.in_ok-settled.settled.ends c.saturating_sub-need.result done state ends c.saturating_sub-need.ensures
