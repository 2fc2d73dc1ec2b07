-- Where a search ends without a row: the best of what it and the searches with pools before it proved.
use Rattle.std.specs.Prelude.{ℕ, ◌≡◌, ◌≤◌, Bool, true, false, ltb, List, Option, Some, None, IfSome, IsNone}
use Rattle.std.specs.Prelude.{if◌then◌else◌}
use Rattle.std.proofs.Common.{refl, sym, subst, arith, inl, inr}
use Rattle.std.proofs.lemmas.Bool.{ltb-false, ltb-true}
use Rattle.cell_num.specs.declared.finger.Fingers.{Fingers}
use Rattle.cell_num.specs.declared.finger.Row.{Row}
use Rattle.cell_num.specs.declared.finger.Row.TheVariants.{P, N}
use Rattle.cell_num.specs.declared.net.NetNo.{NetNo}
use Rattle.row_model.specs.declared.column.Column.{Column}
use Rattle.log_check.specs.Accepted.{WithKinds}
use Rattle.trail_check.specs.Accepted.{IsLow}
use Rattle.trail_search.specs.Ended.{IsCrowded, IsTrailFound, IsTrailSpent}
use Rattle.trail_log.specs.declared.trails.TrailCertificate.{TrailCertificate}
use Rattle.fewer_log.specs.declared.certificate.FewerCertificate.{FewerCertificate}
use Rattle.pool_trails.specs.declared.opening.Opening.{Opening}
use Rattle.pool_trails.specs.declared.opening.Opening.TheVariants.{Crowded, Without}
use Rattle.pool_trails.specs.Ended.{IsPoolFound, IsPoolInVain, IsPoolSpent}
use Rattle.pool_trails.specs.Opening.{first_out, other_row}
use Rattle.trail_either.specs.declared.evidence.TrailEvidence.{TrailEvidence}
use Rattle.trail_either.specs.declared.evidence.TrailEvidence.TheVariants.{Filled, Pools}
use Rattle.trail_either.specs.declared.found.EitherStop.{EitherStop}
use Rattle.trail_either.specs.declared.found.EitherStop.TheVariants as stopped
use Rattle.trail_either.specs.declared.in_vain.InVain.{InVain}
use Rattle.trail_either.specs.Ended.{IsEitherFound, IsEitherOpen, IsSpentWithin, IsVain, Stops}
use Rattle.trail_either.specs.Either.{EitherFits, best_in}
use Rattle.trail_either.specs.Ends.{EndsBy, GateBy, IsBest, LongerBy, NextBy, better, spent_with, told, without_row}
use Rattle.trail_either.proofs.Best.{Least, chosen, greatest, least_greatest, up_better}
use Rattle.trail_either.proofs.Ended.{filled_found, pools_found}
use Rattle.trail_either.proofs.Most.{ends_up, gate_below, longer_below, next_below, next_up}
use Rattle.trail_either.proofs.Without.{both_ended}

module _ (f : Fingers) (budget : ℕ) where
  -- ---- a row

  module _ (row : List Column) (best : Option InVain) where
    pub found_filled : (trails : TrailCertificate) → LongerBy f budget best → IsTrailFound f budget row trails
        → IsEitherFound f budget row (Filled trails)
    found_filled trails longer is =
        filled_found f budget row (greatest best) trails
        (longer_below f budget best (greatest best) (least_greatest best) longer) is

    pub found_pools : (c : FewerCertificate) (opening : Opening) → NextBy f budget best opening
        → IsPoolFound opening f budget row c → IsEitherFound f budget row (Pools c)
    found_pools c opening next is =
        pools_found f budget row (greatest best) c opening
        (next_below f budget best (greatest best) opening (least_greatest best) next) is

  -- ---- no row, and units left

  -- so a search ended in vain
  vain_is : (best : Option InVain) (vain : InVain) (opening : Opening) → Least best vain.proved
      → NextBy f budget best opening → IsPoolInVain opening f budget vain.certificate vain.proved
      → IsVain f budget (Pools vain.certificate) vain.proved
  vain_is best vain opening least next h = (opening, next_below f budget best vain.proved opening least next, h)

  abbrev IsIt : InVain → Type 0
  IsIt vain = IsVain f budget (Pools vain.certificate) vain.proved

  -- the best of before stays, unless it proved less
  best_chosen : (one vain : InVain) (opening : Opening) (b : Bool) → ltb one.proved vain.proved ≡ b → IsIt one
      → NextBy f budget (Some one) opening → IsPoolInVain opening f budget vain.certificate vain.proved
      → IfSome (chosen b one vain) IsIt
  best_chosen one vain opening true e h next is =
      vain_is (Some one) vain opening (omega (arith, ltb-true one.proved vain.proved e)) next is
  best_chosen one vain opening false e h next is = h

  pub best_after : (best : Option InVain) (vain : InVain) (opening : Opening) → IsBest f budget best
      → NextBy f budget best opening → IsPoolInVain opening f budget vain.certificate vain.proved
      → IsBest f budget (better best (Some vain))
  best_after None vain opening h next is = vain_is None vain opening tt next is
  best_after (Some one) vain opening h next is =
      best_chosen one vain opening (ltb one.proved vain.proved) refl h next is

  vain_ends : (vain : InVain) (opening : Opening) → IsPoolInVain opening f budget vain.certificate vain.proved
      → EndsBy f budget (Some vain) opening
  vain_ends vain opening is = inr (vain.certificate, vain.proved, omega arith, is)

  module _ (best : Option InVain) (vain : InVain) (opening : Opening) (next : NextBy f budget best opening)
      (is : IsPoolInVain opening f budget vain.certificate vain.proved) where
    pub next_after : NextBy f budget (better best (Some vain)) opening
    next_after = next_up f budget best (better best (Some vain)) opening (up_better best (Some vain)).0 next

    pub ends_after : EndsBy f budget (better best (Some vain)) opening
    ends_after = ends_up f budget (Some vain) (better best (Some vain)) opening (up_better best (Some vain)).1
        (vain_ends vain opening is)

  -- ---- a spent budget

  module _ (evidence : TrailEvidence) (proved : ℕ) (none : IsNone (best_in evidence)) (low : IsLow f proved)
      (fits : WithKinds f (λ k. EitherFits k evidence)) where
    own : IsSpentWithin f budget proved evidence proved → IsEitherOpen f budget evidence proved
    own within = record { lists_none = none; low = low; fits = fits; within = inl within }

    spent_some : (vain : InVain) (b : Bool) → ltb proved vain.proved ≡ b → IsIt vain
        → ((most : ℕ) → vain.proved ≤ most → IsSpentWithin f budget most evidence proved)
        → Stops f budget (if b then told vain else stopped.Unfinished evidence proved)
    spent_some vain true e (opening, next, is) within = record {
      lists_none = is.lemmas.lists_none;
      low = is.lemmas.low;
      fits = is.lemmas.fits;
      within = inr (
        (opening, next, is),
        inl (
          evidence,
          proved,
          omega (arith, ltb-true proved vain.proved e),
          within vain.proved (omega arith),
        ),
      );
    }
    spent_some vain false e it within = own (within proved (ltb-false proved vain.proved e))

    stops_spent : (best : Option InVain) → IsBest f budget best
        → ((most : ℕ) → Least best most → IsSpentWithin f budget most evidence proved)
        → Stops f budget (spent_with best evidence proved)
    stops_spent None it within = own (within proved tt)
    stops_spent (Some vain) it within = spent_some vain (ltb proved vain.proved) refl it within

  module _ (best : Option InVain) (proved : ℕ) (stop : EitherStop) where
    pub spent_filled : (trails : TrailCertificate) → LongerBy f budget best → IsBest f budget best
        → IsTrailSpent f budget trails proved → stop ≡ spent_with best (Filled trails) proved → Stops f budget stop
    spent_filled trails longer it is told_so =
        subst (Stops f budget) (sym told_so)
        (stops_spent (Filled trails) proved is.lists_none is.low is.fits best it
        (λ most least. (longer_below f budget best most least longer, is)))

    pub spent_pools : (c : FewerCertificate) (opening : Opening) → NextBy f budget best opening → IsBest f budget best
        → IsPoolSpent opening f budget c proved → stop ≡ spent_with best (Pools c) proved → Stops f budget stop
    spent_pools c opening next it is told_so =
        subst (Stops f budget) (sym told_so)
        (stops_spent (Pools c) proved is.lemmas.lists_none is.lemmas.low is.lemmas.fits best it
        (λ most least. (opening, next_below f budget best most opening least next, is)))

  -- ---- all searches ended

  module _ (gate : NetNo) (filled : IsCrowded f gate) where
    all_at : (best : Option InVain) → IsBest f budget best → GateBy f budget best → EndsBy f budget best Crowded
        → EndsBy f budget best (Without P) × EndsBy f budget best (Without N) → Stops f budget (without_row gate best)
    all_at None it (longer, there) crowded (without_p, without_n) = record {
      longer = longer;
      filled = filled;
      crowded = crowded;
      without_n = without_n;
      without_p = without_p;
    }
    all_at (Some vain) (opening, before, is) at_gate crowded without = record {
      lists_none = is.lemmas.lists_none;
      low = is.lemmas.low;
      fits = is.lemmas.fits;
      within = inr (
        (opening, before, is),
        inr (gate_below f budget (Some vain) vain.proved (omega arith) at_gate, crowded, without.0, without.1),
      );
    }

    pub all_ended : (best : Option InVain) (row : Row) (stop : EitherStop) → IsBest f budget best
        → NextBy f budget best (Without row) → EndsBy f budget best (Without row) → row ≡ other_row (first_out f)
        → stop ≡ without_row gate best → Stops f budget stop
    all_ended best row stop it next ended last told_so =
        subst (Stops f budget) (sym told_so)
        (all_at best it next.0 next.1 (both_ended f budget best row last next ended))
