use Rattle.std.proofs.Common.{◌≡◌, ◌≤◌, ◌*◌, ◌^◌, sum_by, take}
use Rattle.trail_search.specs.Units.{choice_units}
use Rattle.trail_search.proofs.units.listed_units.Given as goal

abbrev pub invariant-loop-level : goal.invariant-loop-level
invariant-loop-level l = (l.total ≡ sum_by choice_units (take l.level-index l.level-items)) × (l.total ≤ l.level-index * 2 ^ 58)
