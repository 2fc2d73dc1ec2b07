use Rattle.std.proofs.Common.{◌≡◌, ◌++◌, drop, map}
use Rattle.dogleg_route.specs.Cuts.{entry_of}
use Rattle.dogleg_route.proofs.router.entries_of.Given as goal

abbrev pub invariant-loop-step : goal.invariant-loop-step
invariant-loop-step l = l.entries.items ++ map entry_of (drop l.step-index l.cycle) ≡ map entry_of l.cycle
