use Rattle.std.proofs.Common.{◌≡◌, false, get_or}
use Rattle.row_trails.specs.Trails.{size}
use Rattle.row_trails.proofs.set.count_nets.Given as goal

abbrev pub invariant-loop-net : goal.invariant-loop-net
invariant-loop-net l = l.count ≡ size l.net (λ u. get_or l.set u false)
