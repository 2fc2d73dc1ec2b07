use Rattle.std.proofs.Common.{ℕ, ◌+◌, ◌≤◌, ◌<◌, List, All, Contains, take, take_all, get_or, subst, sym, arith, rules}
use Rattle.std.proofs.lemmas.List.Elements.{Contains-get_or}
use Rattle.channel_route.proofs.NetWires.{low_more}
use Rattle.channel_route.proofs.wire.least.Goals as goal
use Rattle.channel_route.proofs.wire.least.Goals.{then-line-least, else-line-least}

pub loop-line-preserved : goal.loop-line-preserved
loop-line-preserved c =
    let entry : ℕ = get_or c.args.lines.now c.loop-line.line-index 0 in
    elim c.if-line-least.branch [
      | then-line-least w ↦
          let past : entry < c.loop-line.least = search rules in
          subst (λ n. Contains c.args.lines.now n × All (λ line. n ≤ line) (take (c.loop-line.line-index + 1) c.args.lines.now)) (sym w.least-is) (
            Contains-get_or c.args.lines.now c.loop-line.line-index 0 c.loop-line-test.true,
            low_more c.args.lines.now c.loop-line.line-index c.loop-line.least entry c.loop-line-test.true (omega (arith, past)) (omega arith) c.loop-line.invariant.1,
          )
      | else-line-least w ↦
          let within : c.loop-line.least ≤ entry = search rules in
          subst (λ n. Contains c.args.lines.now n × All (λ line. n ≤ line) (take (c.loop-line.line-index + 1) c.args.lines.now)) (sym w.least-is) (
            c.loop-line.invariant.0,
            low_more c.args.lines.now c.loop-line.line-index c.loop-line.least c.loop-line.least c.loop-line-test.true (omega arith) within c.loop-line.invariant.1,
          )
    ]

pub returns-clause-least : goal.returns-clause-least
returns-clause-least c = subst (λ (lines : List ℕ). All (λ line. c.loop-line.least ≤ line) lines) (take_all c.loop-line.line-index c.args.lines.now (search rules)) c.loop-line.invariant.1
