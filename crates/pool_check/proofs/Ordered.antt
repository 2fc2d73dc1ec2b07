-- The test of an order decides whether it has each gate of a finger once.
use Rattle.std.specs.Prelude.{◌≡◌, ◌==◌, ◌↔◌, not, true, false, IsTrue, List, [], ◌∷◌, None, Contains, All}
use Rattle.std.specs.List.{filter, list_any}
use Rattle.std.proofs.Common.{refl, sym, ap, subst}
use Rattle.std.proofs.lemmas.Bool.{and_from, and_parts, and_right, eq-eqb}
use Rattle.std.proofs.lemmas.List.Elements.{All-head, All-nil, All-tail}
use Rattle.cell_num.specs.declared.net.NetNo.{NetNo}
use Rattle.cell_num.specs.declared.finger.Fingers.{Fingers}
use Rattle.cell_num.specs.Fingers.{on_gate}
use Rattle.cell_num.proofs.Lists.{all_from_contains}
use Rattle.cell_num.proofs.Pairs.{test_there}
use Rattle.trail_log.specs.declared.trails.TrailCertificate.{TrailCertificate}
use Rattle.trail_state.specs.Levels.{IsOrder}
use Rattle.open_gates.specs.Open.{AreOpenGates, HasMore, have_more, is_unfilled, of_gates, row_of}
use Rattle.trail_check.specs.Gates.{AreGates}
use Rattle.trail_check.specs.Tests.{is_order}
use Rattle.trail_check.proofs.Decided.{gates_decide}

module _ (f : Fingers) (order : List NetNo) where
  -- a certificate that fills each gate of the order
  abbrev filled : TrailCertificate
  filled = record { fill = order; order = order; lemmas = []; best = None }

  is_filled : (g : NetNo) → Contains order g → is_unfilled f order g ≡ false
  is_filled g there =
      and_right (not (on_gate g.0 f.p == on_gate g.0 f.n)) (not (list_any (λ (h : NetNo). h.0 == g.0) order))
      (ap not (test_there (λ (h : NetNo). h.0 == g.0) order g there (eq-eqb g.0 g.0 refl)))

  none_unfilled : (xs : List NetNo) → All (λ (g : NetNo). Contains order g) xs
      → filter (is_unfilled f order) xs ≡ []
  none_unfilled [] all = refl
  none_unfilled (g ∷ gs) all =
      rw (is_filled g (All-head (λ (h : NetNo). Contains order h) g gs all))
      (none_unfilled gs (All-tail (λ (h : NetNo). Contains order h) g gs all))

  -- so it leaves none open
  none_open : filter (is_unfilled f order) order ≡ []
  none_open = none_unfilled order (all_from_contains (λ (g : NetNo). Contains order g) order (λ g there. there))

  more : have_more f (of_gates f (filter (is_unfilled f order) order)) ≡ true
  more = subst (λ (gs : List NetNo). have_more f (of_gates f gs) ≡ true) (sym none_open) refl

  opened : AreOpenGates f (of_gates f (filter (is_unfilled f order) order))
  opened =
      subst (λ (gs : List NetNo). AreOpenGates f (of_gates f gs)) (sym none_open)
      (All-nil (HasMore (row_of f []) f))

  pub order_decides : IsTrue (is_order f order) ↔ IsOrder f order
  order_decides = (to, from)
    where
      to : IsTrue (is_order f order) → IsOrder f order
      to on =
          let are : AreGates f filled =
          (gates_decide f filled).0
          (and_from (is_order f order) (have_more f (of_gates f (filter (is_unfilled f order) order))) on more) in
          are.order

      from : IsOrder f order → IsTrue (is_order f order)
      from is =
          let parts : (is_order f order ≡ true)
          × (have_more f (of_gates f (filter (is_unfilled f order) order)) ≡ true) =
          and_parts (is_order f order) (have_more f (of_gates f (filter (is_unfilled f order) order)))
          ((gates_decide f filled).1 (record { order = is; opened = opened })) in
          parts.0
