use Rattle.std.proofs.Common.{rules, ◌≡◌, ◌≤◌, List, length, sym, ap, subst, ◌∙◌}
use Rattle.trail_state.specs.declared.state.Place.{Place}
use Rattle.trail_state.specs.Places.{with_edges}
use Rattle.trail_state.specs.Settling.{closing_of, ends_settled, kept_of}
use Rattle.trail_state.proofs.Few.{closing_few}
use Rattle.trail_state.proofs.settle.after.Goals as goal

pub count_ends-ends-requires : goal.count_ends-ends-requires
count_ends-ends-requires c =
    let is : c.as_slice-5.result.now ≡ closing_of c.args.next.now (with_edges c.args.nodes.now c.args.state.now c.args.choice.now) = search rules in
    record { few = subst (λ (l : List Place). length l ≤ 65536) (sym is) (closing_few c.args.nodes.now c.args.next.now c.args.state.now c.args.choice.now c.requires) }

pub returns-clause-ends : goal.returns-clause-ends
returns-clause-ends c =
    let kept : c.as_slice-4.result.now ≡ kept_of c.args.next.now (with_edges c.args.nodes.now c.args.state.now c.args.choice.now) = search rules in
    let closing : c.as_slice-5.result.now ≡ closing_of c.args.next.now (with_edges c.args.nodes.now c.args.state.now c.args.choice.now) = search rules in
    c.count_ends-ends.ensures ∙ ap (λ (l : List Place). ends_settled l c.as_slice-5.result.now) kept ∙ ap (λ (l : List Place). ends_settled (kept_of c.args.next.now (with_edges c.args.nodes.now c.args.state.now c.args.choice.now)) l) closing
