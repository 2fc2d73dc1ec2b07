use Rattle.std.specs.Prelude.{◌≤◌, List, length}
use Rattle.std.proofs.Common.{subst, sym}
use Rattle.cell_num.specs.declared.net.NetNo.{NetNo}
use Rattle.pool_trails.proofs.Searched.{few_gates}
use Rattle.pool_trails.proofs.lemmas.lemmas_along.Goals as goal

pub search_pools-requires-clause-few : goal.search_pools-requires-clause-few
search_pools-requires-clause-few c =
    subst (λ (gs : List NetNo). length gs ≤ 256) (sym c.as_slice-order.ensures)
    (few_gates c.args.fingers.now c.args.gates.now c.requires.gates c.requires.fingers)
