use Rattle.std.proofs.Common.{All, subst, sym}
use Rattle.std.proofs.lemmas.Bool.{both_ways}
use Rattle.row_state.specs.Start.{IsState}
use Rattle.row_cycles.specs.Above.{HasCycle, HasNets}
use Rattle.row_cycles.proofs.Loops.{no_from, yes_from}
use Rattle.row_cycles.proofs.Nets.{few_nets}
use Rattle.row_cycles.proofs.Refuted.{cyclic_branches}
use Rattle.row_cycles.proofs.justified.branches.Goals as goal

pub has_cycle-requires : goal.has_cycle-requires
has_cycle-requires g c = record { nets = subst (All (HasNets 256)) (sym c.as_slice.ensures) (few_nets c.args.grounds.now.kinds.now c.args.lemma.now.above c.show_limits.ensures c.requires.nets) }

pub returns-then-has_cycle : goal.returns-then-has_cycle
returns-then-has_cycle g c = yes_from (cyclic_branches (g.B.GapBound.value c.args.grounds.now.bound.now) c.args.grounds.now.pins.now c.args.grounds.now.kinds.now c.args.earlier.now.lemmas.now c.args.lemma.now (subst HasCycle c.as_slice.ensures (c.has_cycle.ensures.0 c.if-has_cycle.true)))

pub returns-then-not-branch : goal.returns-then-not-branch
returns-then-not-branch g c = no_from (λ b. both_ways _ c.if-not-branch.true (c.in_ok-end_is_refuted.ensures.1 b.ends))

pub end_is_refuted-requires : goal.end_is_refuted-requires
end_is_refuted-requires g c = record {
  valid = subst (IsState c.args.grounds.now.kinds.now) c.requires.state c.requires.numbered.valid;
  nets = c.requires.nets;
}

pub steps_are_refuted-requires : goal.steps_are_refuted-requires
steps_are_refuted-requires g c = record {
  candidates = c.requires.candidates;
  nets = c.requires.nets;
  none = λ cycle. both_ways c.has_cycle.result c.if-has_cycle.false (c.has_cycle.ensures.1 (subst HasCycle (sym c.as_slice.ensures) cycle));
  numbered = c.requires.numbered;
  state = c.requires.state;
  noted = c.requires.noted;
}

pub returns : goal.returns
returns g c = (
  λ e. record { steps = λ step left possible sum. c.in_ok-refuted.ensures.0 e step left possible sum; ends = c.in_ok-end_is_refuted.ensures.0 c.if-not-branch.false },
  λ b. c.in_ok-refuted.ensures.1 (λ step left possible sum. b.steps step left possible sum),
)
