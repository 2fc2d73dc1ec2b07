use Rattle.std.proofs.Common.{◌≡◌, ◌≤◌, ◌+◌, ◌*◌, All}
use Rattle.trail_check.specs.Justified.{ends_proved, gaps_proved}
use Rattle.trail_search.specs.Reached.{IsWithin}
use Rattle.trail_search.specs.Search.{IsFurther}
use Rattle.trail_search.specs.Units.{units_of}
use Rattle.trail_search.proofs.New.{KnowFewer}
use Rattle.trail_search.proofs.limits.refute_limits.Given as goal

abbrev pub invariant-loop-limit : goal.invariant-loop-limit
invariant-loop-limit l =
    IsFurther l.levels l.fn.kept l.kept
    × (l.left ≤ l.fn.left)
    × (l.left + units_of l.levels l.kept.lemmas ≡ l.fn.left + units_of l.levels l.fn.kept.lemmas)
    × (l.limit ≤ gaps_proved (ends_proved l.kept.lemmas))
    × KnowFewer (2 * (l.limit + 1)) l.kept
    × All (IsWithin l.levels (2 * l.limit + 1)) l.kept.lemmas
