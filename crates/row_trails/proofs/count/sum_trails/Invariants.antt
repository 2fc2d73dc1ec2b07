use Rattle.std.proofs.Common.{◌≡◌, ◌≤◌, ◌*◌}
use Rattle.cell_num.specs.Fingers.{sum_below}
use Rattle.row_trails.specs.Counts.{entry, fewest_trails, flag}
use Rattle.row_trails.proofs.count.sum_trails.Given as goal

abbrev pub invariant-loop-class : goal.invariant-loop-class
invariant-loop-class l =
    (l.sum ≡ sum_below (λ h. fewest_trails (flag l.met h) (entry l.odd h)) l.class)
    × (l.sum ≤ 128 * l.class)
