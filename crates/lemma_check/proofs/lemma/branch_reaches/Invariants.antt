use Rattle.std.proofs.Common.{All, take}
use Rattle.row_state.specs.declared.candidate.Candidate.{Candidate}
use Rattle.lemma_check.specs.Known.{best_known}
use Rattle.lemma_check.proofs.Branches.{Passes}
use Rattle.lemma_check.proofs.lemma.branch_reaches.Given as goal

abbrev pub invariant-loop-next : goal.invariant-loop-next
invariant-loop-next l = All (λ (c : Candidate). Passes l.kinds (best_known l.known l.kinds) l.from.state l.bound c.step) (take l.next-index l.next-items)
