use Rattle.std.specs.Prelude.{All, take}
use Rattle.pool_lines.specs.Texts.{IsTextOfState}
use Rattle.pool_certificate.proofs.texts.first_other.Given as goal

abbrev pub invariant-lines : goal.invariant-lines
invariant-lines l = All (IsTextOfState l.along.steps.pools l.along.levels) (take l.at l.lines)
