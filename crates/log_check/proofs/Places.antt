-- The test of the listed columns decides whether gates and kinds are in order.
use Rattle.std.proofs.Common.{◌≡◌, ◌↔◌, List, Option, Some, None, All, IsTrue, slice_get, option_map, refl, ap}
use Rattle.std.specs.Bool.{Decides}
use Rattle.std.specs.List.{list_all}
use Rattle.std.proofs.lemmas.Bool.Decides.{Decides-and, Decides-by_and, Decides-like}
use Rattle.row_model.proofs.Decide.{net_decides}
use Rattle.cell_num.specs.declared.net.NetNo.{NetNo}
use Rattle.row_state.specs.declared.kind.Kind.{Kind}
use Rattle.row_state.specs.declared.kind.Kinds.{Kinds}
use Rattle.row_state.specs.declared.step.Side.{Side}
use Rattle.bound_log.specs.declared.log.LogStep.{LogStep}
use Rattle.log_check.specs.Accepted.{HasGate, IsListed}
use Rattle.log_check.specs.Tests.{kind_test, place_test, listed_test}

kind_decides : (gate : NetNo) (kind : Option Kind) → Decides (kind_test gate kind) (option_map (λ (k : Kind). k.gate) kind ≡ Some gate)
kind_decides gate None = (λ e. cc, λ e. cc)
kind_decides gate (Some kind) =
    Decides-like _ (λ e. ap (λ (n : NetNo). Some n) e) (λ e. cc) (net_decides kind.gate gate)

place_decides : (kinds : List Kind) (gate : NetNo) (side : Option Side) → Decides (place_test kinds gate side) (HasGate kinds gate side)
place_decides kinds gate None = (λ _. tt, λ _. refl)
place_decides kinds gate (Some side) = kind_decides gate (slice_get kinds side.kind)

step_decides : (k : Kinds) (listed : LogStep) → Decides (listed_test k listed) (IsListed k listed)
step_decides k listed =
    Decides-like _ (λ both. record { p = both.0; n = both.1 }) (λ is. (is.p, is.n)) (Decides-and _ _ (place_decides k.p listed.gate listed.step.p) (place_decides k.n listed.gate listed.step.n))

pub listed_decide : (k : Kinds) (steps : List LogStep) → IsTrue (list_all (listed_test k) steps) ↔ All (IsListed k) steps
listed_decide k steps = Decides-by_and (listed_test k) (IsListed k) (list_all (listed_test k)) (step_decides k) refl (λ _ _. refl) steps
