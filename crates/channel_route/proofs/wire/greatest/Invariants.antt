use Rattle.std.proofs.Common.{◌≤◌, All, Contains, take}
use Rattle.channel_route.proofs.wire.greatest.Given as goal

abbrev pub invariant-loop-line : goal.invariant-loop-line
invariant-loop-line l = Contains l.lines l.greatest × All (λ line. line ≤ l.greatest) (take l.line-index l.lines)
