use Rattle.std.proofs.Common.{◌≡◌, ◌++◌, length}
use Rattle.std.specs.List.{All}
use Rattle.scmos_rules.specs.Apart.{hits_of}
use Rattle.scmos_rules.specs.Near.{IsNumberedBlock, near_over}
use Rattle.scmos_rules.proofs.apart.all_hits.Given as goal

abbrev pub invariant-loop-rest : goal.invariant-loop-rest
invariant-loop-rest l = (l.out.items ++ near_over l.by (hits_of l.by l.labels) l.rest ≡ near_over l.by (hits_of l.by l.labels) l.parts) × All (IsNumberedBlock (length l.labels)) l.rest

abbrev pub decreases-loop-rest : goal.decreases-loop-rest
decreases-loop-rest l = length l.rest
