-- The gates that are left open and those that are filled, as the code finds them.
use Rattle.std.specs.Prelude.{◌≡◌, not, List}
use Rattle.std.specs.List.{filter}
use Rattle.std.proofs.Common.{ap, ◌∙◌}
use Rattle.cell_num.specs.declared.finger.Fingers.{Fingers}
use Rattle.cell_num.specs.declared.net.NetNo.{NetNo}
use Rattle.trail_search.specs.Filling.{is_one_of, uneven_gates}
use Rattle.pool_trails.specs.declared.opening.Opening.{Opening}
use Rattle.pool_trails.specs.Opening.{fill_by, opened_by}

-- the gates that are filled, by those that are left open
pub filled_are : (opening : Opening) (f : Fingers) (order left_open fill : List NetNo)
    → left_open ≡ opened_by opening f order
    → fill ≡ filter (λ gate. not (is_one_of left_open gate)) (uneven_gates f) → fill ≡ fill_by opening f order
filled_are opening f order left_open fill same others =
    others ∙ ap (λ (gs : List NetNo). filter (λ (g : NetNo). not (is_one_of gs g)) (uneven_gates f)) same
