use Rattle.std.proofs.Common.{◌≡◌, ◌+◌, ◌*◌, ◌<◌, ap, arith, subst, sym}
use Rattle.row_state.specs.Code.{count_lists, end_code}
use Rattle.row_state.specs.Decoded.{counts_below, end_below}
use Rattle.row_state.proofs.Codes.{row_fits}
use Rattle.row_state.proofs.coding.row_digits.Goals as goal

pub overflow_mul-result : goal.overflow_mul-result
overflow_mul-result c =
    let within : c.counts_number.result < count_lists c.args.kinds.now = subst (λ n. n < count_lists c.args.kinds.now) (sym c.counts_number.ensures) (counts_below c.args.kinds.now c.args.left.now c.requires.same c.requires.within) in
    let fits = row_fits c.args.nets (count_lists c.args.kinds.now) c.counts_number.result 0 c.requires.nets c.requires.few within (omega arith) in
    let same : c.counts_number.result * (c.from.result + 1) ≡ c.counts_number.result * (c.args.nets + 1) = ap (λ n. c.counts_number.result * (n + 1)) c.from.ensures in
    omega (arith, fits, same)

pub overflow_add-result-2 : goal.overflow_add-result-2
overflow_add-result-2 c =
    let within : c.counts_number.result < count_lists c.args.kinds.now = subst (λ n. n < count_lists c.args.kinds.now) (sym c.counts_number.ensures) (counts_below c.args.kinds.now c.args.left.now c.requires.same c.requires.within) in
    let below : end_code c.args.end.now < c.args.nets + 1 = end_below c.args.nets c.args.end.now c.requires.end in
    let fits = row_fits c.args.nets (count_lists c.args.kinds.now) c.counts_number.result (end_code c.args.end.now) c.requires.nets c.requires.few within below in
    let same : c.counts_number.result * (c.from.result + 1) ≡ c.counts_number.result * (c.args.nets + 1) = ap (λ n. c.counts_number.result * (n + 1)) c.from.ensures in
    omega (arith, fits, same, c.end_number.ensures)
