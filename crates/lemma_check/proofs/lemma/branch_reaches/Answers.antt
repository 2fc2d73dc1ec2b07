use Rattle.std.proofs.Common.{refl}
use Rattle.std.proofs.lemmas.List.Elements.{All-more}
use Rattle.row_state.specs.declared.candidate.Candidate.{Candidate}
use Rattle.lemma_check.specs.Known.{best_known}
use Rattle.lemma_check.proofs.Branches.{Passes, branch_end}
use Rattle.lemma_check.proofs.lemma.branch_reaches.Goals as goal

pub loop-next-preserved : goal.loop-next-preserved
loop-next-preserved c =
    All-more (λ (x : Candidate). Passes c.args.kinds.now (best_known c.args.known.now c.args.kinds.now) c.args.from.now.state c.args.bound x.step) c.as_slice-next-items.result.now c.loop-next.next-index _ c.loop-next-test.true c.loop-next.invariant (c.passes.ensures.0 c.if-not-passes.false)

pub returns : goal.returns
returns c = (
  λ _. branch_end c.args.kinds.now c.args.from.now.state c.args.candidates.now c.as_slice-next-items.result.now c.loop-next.next-index (best_known c.args.known.now c.args.kinds.now) c.args.bound c.requires.numbered.valid c.requires.candidates c.as_slice-next-items.ensures c.loop-next-test.false c.loop-next.invariant,
  λ _. refl,
)
