-- The net of a node is small enough for the number of its pool.
use Rattle.std.proofs.Common.{ℕ, ◌+◌, ◌≡◌, ◌<◌, ◌≤◌, arith}
use Rattle.cell_num.specs.declared.finger.Row.{Row}
use Rattle.cell_num.specs.declared.finger.Row.TheVariants.{P, N}
use Rattle.open_gates.specs.Merged.{net_in}

pub net_small : (r : Row) (v n net : ℕ) → net ≡ net_in r v → v < 4294967296 → n ≤ 65536 → n + net < 4294967296
net_small P v n net is small few = omega (arith, is, small, few)
net_small N v n net is small few = omega (arith, is, small, few)
