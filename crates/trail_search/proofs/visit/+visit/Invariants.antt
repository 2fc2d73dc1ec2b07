use Rattle.std.proofs.Common.{◌≡◌, ◌≤◌, ◌+◌, ◌-◌, All, length, take}
use Rattle.trail_search.specs.Search.{IsFurther, StayAs, StayWithin}
use Rattle.trail_search.specs.Units.{units_at, units_of}
use Rattle.trail_search.proofs.Grown.{Fails}
use Rattle.trail_search.proofs.visit.+visit.Given as goal

abbrev pub decreases-visit : goal.decreases-visit
decreases-visit l = length l.levels.now - l.done

abbrev pub invariant-loop-choice : goal.invariant-loop-choice
invariant-loop-choice l =
    IsFurther l.levels l.fn.kept l.kept
    × (l.left ≤ l.fn.left)
    × All (Fails l.kept.lemmas l.level l.done l.state (l.allowed + 1)) (take l.choice-index l.choice-items)
    × (l.left + units_of l.levels l.kept.lemmas + units_at l.levels l.done ≡ l.fn.left + units_of l.levels l.fn.kept.lemmas)
    × StayAs (l.done + 1) (l.allowed + 1) l.fn.kept l.kept
    × StayWithin l.levels l.done l.state (l.allowed + 1) l.fn.kept l.kept
