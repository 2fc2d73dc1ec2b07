use Rattle.std.proofs.Common.{ℕ, ◌<◌}
use Rattle.number_trees.specs.Ties.{HaveOneTie}
use Rattle.number_trees.proofs.tied.tied_before.Given as goal

abbrev pub invariant-loop-earlier : goal.invariant-loop-earlier
invariant-loop-earlier l = (k : ℕ) → k < l.earlier → HaveOneTie l.ties l.at k → ⊥
