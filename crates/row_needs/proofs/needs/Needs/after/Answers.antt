use Rattle.std.proofs.Common.{ap, nat_eq, subst, sym, ◌-◌, ◌≡◌, ◌∙◌}
use Rattle.std.specs.Prelude.{IfSome}
use Rattle.std.specs.HashMap.{get}
use Rattle.row_state.specs.Decoded.{rows_code}
use Rattle.row_state.specs.Start.{IsState}
use Rattle.row_state.specs.Steps.{state_after}
use Rattle.row_state.proofs.Digits.{counts_less}
use Rattle.row_state.proofs.StateAfter.{after_valid}
use Rattle.row_state.proofs.Valid.{ends_are_nets}
use Rattle.row_needs.specs.Need.{IsNeed}
use Rattle.row_needs.specs.Rest.{HasRest}
use Rattle.row_needs.proofs.Bounds.{behind_is, read_need, read_there}
use Rattle.row_needs.proofs.needs.Needs.after.Goals as goal

pub overflow_sub-counts : goal.overflow_sub-counts
overflow_sub-counts c = (counts_less c.args.kinds.now c.args.at.now c.args.next.now c.requires.numbered c.requires.next c.requires.step).0

pub read_behind-requires : goal.read_behind-requires
read_behind-requires c =
    let counts : c.args.at.now.counts - c.args.next.now.rows ≡ rows_code c.args.kinds.now (state_after c.args.kinds.now c.args.at.now.state c.args.next.now.step) = (counts_less c.args.kinds.now c.args.at.now c.args.next.now c.requires.numbered c.requires.next c.requires.step).1 in
    let valid : IsState c.args.kinds.now (state_after c.args.kinds.now c.args.at.now.state c.args.next.now.step) = after_valid c.args.kinds.now c.args.at.now.state c.args.next.now.step (ends_are_nets c.args.kinds.now c.show_limits.ensures) c.requires.numbered.valid c.requires.step in
    record { few = λ rest there. (c.requires.sound (state_after c.args.kinds.now c.args.at.now.state c.args.next.now.step) rest valid (ap (get nat_eq c.args.self.now.rests) (sym counts) ∙ there)).1 }

pub returns-clause-need : goal.returns-clause-need
returns-clause-need c =
    let counts : c.args.at.now.counts - c.args.next.now.rows ≡ rows_code c.args.kinds.now (state_after c.args.kinds.now c.args.at.now.state c.args.next.now.step) = (counts_less c.args.kinds.now c.args.at.now c.args.next.now c.requires.numbered c.requires.next c.requires.step).1 in
    let valid : IsState c.args.kinds.now (state_after c.args.kinds.now c.args.at.now.state c.args.next.now.step) = after_valid c.args.kinds.now c.args.at.now.state c.args.next.now.step (ends_are_nets c.args.kinds.now c.show_limits.ensures) c.requires.numbered.valid c.requires.step in
    subst (λ o. IfSome o (IsNeed c.args.kinds.now (state_after c.args.kinds.now c.args.at.now.state c.args.next.now.step)))
    (sym (c.read_behind.ensures ∙ behind_is c.args.kinds.now c.args.self.now c.args.at.now.state c.args.next.now (c.args.at.now.counts - c.args.next.now.rows) c.end_behind.result c.end_behind-2.result c.requires.next.column c.end_behind.ensures c.end_behind-2.ensures))
    (read_need c.args.kinds.now c.args.self.now (state_after c.args.kinds.now c.args.at.now.state c.args.next.now.step) (c.args.at.now.counts - c.args.next.now.rows) counts valid c.requires.sound)

pub returns-clause-here : goal.returns-clause-here
returns-clause-here c =
    let counts : c.args.at.now.counts - c.args.next.now.rows ≡ rows_code c.args.kinds.now (state_after c.args.kinds.now c.args.at.now.state c.args.next.now.step) = (counts_less c.args.kinds.now c.args.at.now c.args.next.now c.requires.numbered c.requires.next c.requires.step).1 in
    subst (λ o. IfSome o (λ _. HasRest c.args.kinds.now c.args.self.now (state_after c.args.kinds.now c.args.at.now.state c.args.next.now.step)))
    (sym (c.read_behind.ensures ∙ behind_is c.args.kinds.now c.args.self.now c.args.at.now.state c.args.next.now (c.args.at.now.counts - c.args.next.now.rows) c.end_behind.result c.end_behind-2.result c.requires.next.column c.end_behind.ensures c.end_behind-2.ensures))
    (read_there c.args.kinds.now c.args.self.now (state_after c.args.kinds.now c.args.at.now.state c.args.next.now.step) (c.args.at.now.counts - c.args.next.now.rows) counts)
