use Rattle.std.proofs.Common.{◌≡◌, ◌≤◌, length, ◌-◌}
use Rattle.gds_read.specs.Grammar.{pass_from, first_pass_of}
use Rattle.gds_read.proofs.pass.first_pass.Given as goal

abbrev pub invariant-records : goal.invariant-records
invariant-records l = (l.at ≤ length l.bytes) × (pass_from l.bytes l.place l.at ≡ first_pass_of l.bytes)

abbrev pub decreases-records : goal.decreases-records
decreases-records l = length l.bytes - l.at
