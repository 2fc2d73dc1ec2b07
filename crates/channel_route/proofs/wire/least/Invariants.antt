use Rattle.std.proofs.Common.{◌≤◌, All, Contains, take}
use Rattle.channel_route.proofs.wire.least.Given as goal

abbrev pub invariant-loop-line : goal.invariant-loop-line
invariant-loop-line l = Contains l.lines l.least × All (λ line. l.least ≤ line) (take l.line-index l.lines)
