use Rattle.std.proofs.Common.{All, take}
use Rattle.track_check.specs.Noted.{IsPassed}
use Rattle.track_check.proofs.known.NotedLemmas.covers.Given as goal

abbrev pub invariant-loop-place : goal.invariant-loop-place
invariant-loop-place l = All (IsPassed l.self.lemmas.now l.at.state l.gaps l.way) (take l.place-index l.place-items)
