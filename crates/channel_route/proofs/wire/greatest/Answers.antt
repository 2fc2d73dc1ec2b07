use Rattle.std.proofs.Common.{ℕ, ◌+◌, ◌≤◌, ◌<◌, List, All, Contains, take, take_all, get_or, subst, sym, arith, rules}
use Rattle.std.proofs.lemmas.List.Elements.{Contains-get_or}
use Rattle.channel_route.proofs.NetWires.{high_more}
use Rattle.channel_route.proofs.wire.greatest.Goals as goal
use Rattle.channel_route.proofs.wire.greatest.Goals.{then-line-greatest, else-line-greatest}

pub loop-line-preserved : goal.loop-line-preserved
loop-line-preserved c =
    let entry : ℕ = get_or c.args.lines.now c.loop-line.line-index 0 in
    elim c.if-line-greatest.branch [
      | then-line-greatest w ↦
          let past : c.loop-line.greatest < entry = search rules in
          subst (λ n. Contains c.args.lines.now n × All (λ line. line ≤ n) (take (c.loop-line.line-index + 1) c.args.lines.now)) (sym w.greatest-is) (
            Contains-get_or c.args.lines.now c.loop-line.line-index 0 c.loop-line-test.true,
            high_more c.args.lines.now c.loop-line.line-index c.loop-line.greatest entry c.loop-line-test.true (omega (arith, past)) (omega arith) c.loop-line.invariant.1,
          )
      | else-line-greatest w ↦
          let within : entry ≤ c.loop-line.greatest = search rules in
          subst (λ n. Contains c.args.lines.now n × All (λ line. line ≤ n) (take (c.loop-line.line-index + 1) c.args.lines.now)) (sym w.greatest-is) (
            c.loop-line.invariant.0,
            high_more c.args.lines.now c.loop-line.line-index c.loop-line.greatest c.loop-line.greatest c.loop-line-test.true (omega arith) within c.loop-line.invariant.1,
          )
    ]

pub returns-clause-greatest : goal.returns-clause-greatest
returns-clause-greatest c = subst (λ (lines : List ℕ). All (λ line. line ≤ c.loop-line.greatest) lines) (take_all c.loop-line.line-index c.args.lines.now (search rules)) c.loop-line.invariant.1
