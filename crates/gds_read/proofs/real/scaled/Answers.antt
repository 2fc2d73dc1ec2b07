use Rattle.std.proofs.Common.{◌≤◌, ◌*◌, ◌^◌, arith}
use Rattle.std.proofs.Math.Nat.{mul-le-mul}
use Rattle.gds_read.proofs.real.scaled.Goals as goal

pub overflow_mul-value-then-exponent-lt83 : goal.overflow_mul-value-then-exponent-lt83
overflow_mul-value-then-exponent-lt83 c =
    let power : c.sixteen_to.result ≤ 65536 = c.sixteen_to.ensures.small (omega arith) in
    let value : c.from-value.result * 1000000000000 ≤ 2 ^ 96 = omega (arith, c.requires.fraction, c.from-value.ensures) in
    let product : c.from-value.result * 1000000000000 * c.sixteen_to.result ≤ 2 ^ 96 * 65536 = mul-le-mul value power in
    omega (arith, product)
