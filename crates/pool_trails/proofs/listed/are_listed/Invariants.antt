use Rattle.std.proofs.Common.{◌≡◌, map, take}
use Rattle.pool_certificate.specs.Accepted.{lemma_listed}
use Rattle.pool_trails.proofs.listed.are_listed.Given as goal

abbrev pub invariant-lines : goal.invariant-lines
invariant-lines l =
    map (lemma_listed l.along.steps.pools l.along.levels) (take l.at l.lines) ≡ take l.at l.lemmas
