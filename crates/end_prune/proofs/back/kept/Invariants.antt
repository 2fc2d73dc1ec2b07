use Rattle.std.specs.Prelude.{reverse}
use Rattle.std.proofs.Common.{vec_len}
use Rattle.end_prune.specs.Marks.{marked}
use Rattle.end_prune.proofs.Walk.{IsWalk}
use Rattle.end_prune.proofs.back.kept.Given as goal

abbrev pub invariant-loop-lemma : goal.invariant-loop-lemma
invariant-loop-lemma g l =
    IsWalk (g.E.EndSteps.steps l.steps) l.levels g.E.EndSteps.number_of l.index l.fn.lemmas.items
    (marked l.fn.marks.items l.fn.lemmas.items) l.left.items l.marks_left.items (reverse l.kept)

abbrev pub decreases-loop-lemma : goal.decreases-loop-lemma
decreases-loop-lemma g l = vec_len l.left
