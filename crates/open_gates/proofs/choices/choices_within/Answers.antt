use Rattle.std.proofs.Common.{rules, ◌≡◌, false}
use Rattle.trail_state.specs.Pairings.{choices_of}
use Rattle.open_gates.specs.Open.{is_left_open}
use Rattle.open_gates.proofs.Closed.{closed_chosen}
use Rattle.open_gates.proofs.choices.choices_within.Goals as goal

pub returns-in_ok-merged_choices-in-Some-clause-all : goal.returns-in_ok-merged_choices-in-Some-clause-all
returns-in_ok-merged_choices-in-Some-clause-all c =
    let off : is_left_open c.args.opened.now c.args.gate.0 ≡ false = search rules in
    let are : c.as_slice.result.now ≡ choices_of c.args.fingers.now c.args.gate.0 = search rules in
    closed_chosen c.args.fingers.now c.args.opened.now c.args.nets.now c.args.gate.0 c.as_slice.result.now
    c.in_ok-merged_choices-in-Some.field-0 c.requires.fingers c.requires.nets off are
    c.in_ok-merged_choices-in-Some.ensures
