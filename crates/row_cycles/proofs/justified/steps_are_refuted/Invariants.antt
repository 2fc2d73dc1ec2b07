use Rattle.std.proofs.Common.{All, take}
use Rattle.row_state.specs.declared.candidate.Candidate.{Candidate}
use Rattle.row_cycles.specs.Steps.{StepIsRefuted}
use Rattle.row_cycles.proofs.justified.steps_are_refuted.Given as goal

abbrev pub invariant-loop-next : goal.invariant-loop-next
invariant-loop-next g l = All (λ (c : Candidate). StepIsRefuted (g.B.GapBound.value l.grounds.bound.now) l.grounds.pins.now l.grounds.kinds.now l.earlier.lemmas.now l.lemma c.step) (take l.next-index l.next-items)
