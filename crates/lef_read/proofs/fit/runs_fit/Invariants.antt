use Rattle.std.proofs.Common.{◌↔◌, length}
use Rattle.std.specs.List.{All}
use Rattle.lef_read.specs.Lookups.{Fits, HasBlock}
use Rattle.lef_read.proofs.fit.runs_fit.Given as goal

abbrev pub invariant-runs : goal.invariant-runs
invariant-runs l = (All (Fits l.map) l.rest ↔ All (Fits l.map) l.claims) × All HasBlock l.rest

abbrev pub decreases-runs : goal.decreases-runs
decreases-runs l = length l.rest
