-- Where no gate has too many ways, none is left open. So the levels are those where each gate is filled.
use Rattle.std.specs.Prelude.{◌≡◌, ◌==◌, List, [], None, if◌then◌else◌, length}
use Rattle.std.specs.List.{filter}
use Rattle.std.proofs.Common.{sym, ap, subst, ◌∙◌}
use Rattle.cell_num.specs.declared.net.NetNo.{NetNo}
use Rattle.cell_num.specs.declared.finger.Fingers.{Fingers}
use Rattle.cell_num.specs.Fingers.{AreFingers}
use Rattle.trail_state.specs.declared.level.Level.{Level}
use Rattle.trail_state.specs.Levels.{IsOrder}
use Rattle.open_gates.specs.Leveled.{levels_in, levels_of, merged_levels}
use Rattle.open_gates.specs.Open.{closed_in, is_uneven, is_unfilled, open_in}
use Rattle.trail_check.specs.Gates.{first_with_many, has_many_ways}
use Rattle.trail_search.specs.Filling.{filled_gates, longer_gates, opened_gates}
use Rattle.trail_search.proofs.Finds.{all_left, none_both}
use Rattle.trail_search.proofs.Opening.{none_unfilled}

pub opened_none : (f : Fingers) (order : List NetNo) → first_with_many f order ≡ None → [] ≡ opened_gates f order
opened_none f order few =
    sym (ap (longer_gates f) (none_both (λ (g : NetNo). is_uneven f g.0) (has_many_ways f) order few))

module _ (f : Fingers) (ok : AreFingers f) (order : List NetNo) (is : IsOrder f order)
    (few : first_with_many f order ≡ None) (fill : List NetNo) (filled : fill ≡ filled_gates f order) where
  all_filled : filter (is_unfilled f fill) order ≡ []
  all_filled = subst (λ (gs : List NetNo). filter (is_unfilled f gs) order ≡ []) (sym filled) (none_unfilled f ok order is (sym (opened_none f order few)))

  pub levels_filled : (levels : List Level) → levels ≡ levels_of f order → levels ≡ levels_in f (open_in f fill order) order
  levels_filled levels same =
      same ∙ sym (ap (λ (gs : List NetNo). if length gs == 0 then levels_of f order else merged_levels f (open_in f fill order) order) all_filled)

  pub closed_few : first_with_many f (closed_in f fill order) ≡ None
  closed_few = ap (first_with_many f) (all_left (is_unfilled f fill) order all_filled) ∙ few
