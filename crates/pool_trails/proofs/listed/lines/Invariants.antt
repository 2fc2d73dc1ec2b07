use Rattle.std.proofs.Common.{◌≡◌, map, take}
use Rattle.pool_trails.specs.Found.{line_at}
use Rattle.pool_trails.proofs.listed.lines.Given as goal

abbrev pub invariant-loop-lemma : goal.invariant-loop-lemma
invariant-loop-lemma l = l.all ≡ map (line_at l.pools) (take l.lemma-index l.lemmas)
