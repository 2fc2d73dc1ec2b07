use Rattle.std.proofs.Common.{◌≡◌, take}
use Rattle.pool_certificate.specs.Accepted.{lemmas_along}
use Rattle.pool_certificate.proofs.ends.lemmas_along.Given as goal

abbrev pub invariant-loop-line : goal.invariant-loop-line
invariant-loop-line l = l.lemmas.items ≡ lemmas_along l.along.steps.pools l.along.levels (take l.line-index l.lines)
