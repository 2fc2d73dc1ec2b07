use Rattle.std.proofs.Common.{◌≡◌, ◌++◌, ◌∙◌, ap, subst, sym}
use Rattle.std.proofs.lemmas.Bool.{both_ways}
use Rattle.row_cycles.specs.Above.{HasCycle, above_end}
use Rattle.row_cycles.proofs.Loops.{yes_from}
use Rattle.row_cycles.proofs.Nets.{both_nets, end_nets}
use Rattle.row_cycles.proofs.justified.end_is_refuted.Goals as goal

pub returns-then-has_fingers : goal.returns-then-has_fingers
returns-then-has_fingers c = yes_from (λ none. absurd (none ((c.has_fingers.ensures c.args.kinds.now c.requires.valid).0 c.if-has_fingers.true)))

pub has_cycle-requires : goal.has_cycle-requires
has_cycle-requires c =
    let grown : c.as_slice.result.now ≡ c.args.lemma.now.above ++ above_end c.args.pins.now c.args.lemma.now.state = c.as_slice.ensures ∙ c.in_ok-add_end.ensures ∙ ap (λ xs. xs ++ above_end c.args.pins.now c.args.lemma.now.state) c.in_ok-above.ensures in
    record { nets = both_nets c.args.kinds.now c.args.lemma.now.above (above_end c.args.pins.now c.args.lemma.now.state) c.as_slice.result.now c.show_limits.ensures c.requires.nets (end_nets c.args.pins.now c.args.kinds.now c.args.lemma.now.state c.requires.valid) grown }

pub returns : goal.returns
returns c =
    let grown : c.as_slice.result.now ≡ c.args.lemma.now.above ++ above_end c.args.pins.now c.args.lemma.now.state = c.as_slice.ensures ∙ c.in_ok-add_end.ensures ∙ ap (λ xs. xs ++ above_end c.args.pins.now c.args.lemma.now.state) c.in_ok-above.ensures in (
      λ e none. subst HasCycle grown (c.has_cycle.ensures.0 e),
      λ h. c.has_cycle.ensures.1 (subst HasCycle (sym grown) (h (λ has. both_ways c.has_fingers.result c.if-has_fingers.false ((c.has_fingers.ensures c.args.kinds.now c.requires.valid).1 has)))),
    )
