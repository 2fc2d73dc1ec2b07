use Rattle.std.proofs.Common.{All, take}
use Rattle.row_cycles.specs.Certificate.{Covers}
use Rattle.row_cycles.specs.Noted.{IsPassedBy}
use Rattle.row_cycles.proofs.known.NotedCycles.covers.Given as goal

abbrev pub invariant-loop-place : goal.invariant-loop-place
invariant-loop-place l = All (IsPassedBy (Covers l.at.state l.gaps l.above) l.self.lemmas.now) (take l.place-index l.place-items)
