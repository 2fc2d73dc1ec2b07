-- Each gate that is filled has half columns. Those that are left open have more fingers in one row.
use Rattle.std.specs.Prelude.{◌≡◌, true, not, List, All, Contains}
use Rattle.std.specs.List.{filter, range_with_len}
use Rattle.std.proofs.Common.{sym, subst}
use Rattle.std.proofs.lemmas.List.Elements.{All-filter}
use Rattle.cell_num.proofs.Lists.{all_from_contains}
use Rattle.cell_num.specs.declared.finger.Fingers.{Fingers}
use Rattle.cell_num.specs.declared.finger.Row.{Row}
use Rattle.cell_num.specs.declared.net.NetNo.{NetNo}
use Rattle.cell_num.specs.Fingers.{AreFingers}
use Rattle.trail_state.specs.Levels.{IsOrder}
use Rattle.trail_state.proofs.Members.{mapped, passes_from}
use Rattle.open_gates.specs.Open.{AreOpenGates, HasMore, is_uneven, open_in, row_of}
use Rattle.trail_search.specs.Filling.{crowded_gates, is_one_of, uneven_gates}
use Rattle.trail_search.proofs.Opening.{having_more, opened_with}
use Rattle.order_log.specs.declared.certificate.OrderCertificate.{OrderCertificate}
use Rattle.pool_log.specs.declared.lemma.PoolLine.{PoolLine}
use Rattle.pool_certificate.specs.Accepted.{IsFill}
use Rattle.pool_trails.specs.declared.opening.Opening.{Opening}
use Rattle.pool_trails.specs.declared.opening.Opening.TheVariants.{Crowded, Longer, Without}
use Rattle.pool_trails.specs.Opening.{counted_row, fill_by, opened_by, other_row}

abbrev HasHalf : Fingers → NetNo → Type 0
HasHalf f gate = is_uneven f gate.0 ≡ true

half_are : (f : Fingers) → All (HasHalf f) (uneven_gates f)
half_are f =
    all_from_contains (HasHalf f) (uneven_gates f)
    (mapped (HasHalf f) (λ n. record { 0 = n }) (filter (is_uneven f) (range_with_len 0 f.nets))
    (λ n there. (passes_from (is_uneven f) (range_with_len 0 f.nets) n there).passes))

-- the row in which each gate that is left open has more fingers
abbrev longer_by : Opening → Fingers → List NetNo → Row
longer_by Longer f order = counted_row f order
longer_by Crowded f order = row_of f (crowded_gates f order)
longer_by (Without row) f order = other_row row

opened_more : (opening : Opening) (f : Fingers) (order : List NetNo) (gate : NetNo)
    → Contains (opened_by opening f order) gate → HasMore (longer_by opening f order) f gate
opened_more Longer f order gate there = having_more (counted_row f order) f order gate there
opened_more Crowded f order gate there =
    having_more (row_of f (crowded_gates f order)) f (crowded_gates f order) gate there
opened_more (Without row) f order gate there = having_more (other_row row) f order gate there

module _ (opening : Opening) (f : Fingers) (ok : AreFingers f) where
  half_filled : (order : List NetNo) → All (HasHalf f) (fill_by opening f order)
  half_filled order =
      All-filter (λ (gate : NetNo). not (is_one_of (opened_by opening f order) gate)) (HasHalf f) (uneven_gates f)
      (half_are f)

  opened_are : (order : List NetNo) → IsOrder f order → AreOpenGates f (open_in f (fill_by opening f order) order)
  opened_are order is =
      opened_with f ok order is (opened_by opening f order) (longer_by opening f order) (opened_more opening f order)

  pub is_fill : (pools : OrderCertificate PoolLine) → IsOrder f pools.order → pools.fill ≡ fill_by opening f pools.order
      → IsFill f pools
  is_fill pools is filled = record {
    half = subst (All (HasHalf f)) (sym filled) (half_filled pools.order);
    opened = subst (λ (fill : List NetNo). AreOpenGates f (open_in f fill pools.order)) (sym filled)
        (opened_are pools.order is);
  }
