use Rattle.std.proofs.Common.{rules, ◌≡◌, ◌<◌, ◌≤◌, ◌^◌, sym, arith}
use Rattle.std.proofs.Math.IntN.{nat_abs}
use Rattle.spice_net.proofs.Counts.{too_large}
use Rattle.spice_net.proofs.numbers.whole.Goals as goal

pub returns-in_err-tens : goal.returns-in_err-tens
returns-in_err-tens c =
    let few : c.args.number.now.digits < 18446744073709551616 = search rules in
    let power : c.from.result ≡ nat_abs c.args.number.now.ten = search rules in
    let large : 18446744073709551616 ≤ 10 ^ nat_abs c.args.number.now.ten = rw (← power) (omega (arith, c.in_err-tens.ensures)) in
    rw c.from_residual.ensures (sym (too_large c.args.number.now few large))
