-- The row that an accepted certificate lists passes, and so may another.
use Rattle.std.specs.Prelude.{ℕ, ◌≡◌, Some}
use Rattle.std.proofs.Common.{refl}
use Rattle.cell_num.specs.declared.finger.Fingers.{Fingers}
use Rattle.row_state.specs.declared.kind.Kinds.{Kinds}
use Rattle.row_state.specs.Start.{AreKinds, AreSomeKinds}
use Rattle.bound_log.specs.declared.log.Best.{Best}
use Rattle.bound_log.specs.Fits.{BestFits}
use Rattle.log_check.specs.Accepted.{BestPasses, RowPasses, WithKinds}
use Rattle.log_check.proofs.SameKinds.{for_kinds}
use Rattle.trail_check.specs.Accepted.{least_gaps}
use Rattle.fewer_log.specs.declared.certificate.FewerCertificate.{FewerCertificate}
use Rattle.fewer_log.specs.Listing.{listing}
use Rattle.pool_certificate.specs.Accepted.{ProvesOfAll}
use Rattle.trail_either.specs.declared.evidence.TrailEvidence.{TrailEvidence}
use Rattle.trail_either.specs.declared.evidence.TrailEvidence.TheVariants.{Filled, Pools}
use Rattle.trail_either.specs.Accepted.{HasFewEitherWays, IsEitherAccepted}
use Rattle.trail_either.specs.Either.{EitherFits, best_in, either_listing}

-- it has no more gaps than so many
pub record Passes (f : Fingers) (k : Kinds) (evidence : TrailEvidence) (gaps : ℕ) : Type 0 where
  pub proved : ℕ
  pub best : BestPasses k f proved (best_in evidence) gaps

pub passes : (f : Fingers) (k : Kinds) (evidence : TrailEvidence) (gaps : ℕ) → AreKinds f k → AreSomeKinds k
    → IsEitherAccepted f evidence gaps → Passes f k evidence gaps
passes f k (Filled trails) gaps of_k some_k accepted =
    let (j, of_j, some_j, best) = accepted.passes in
    record {
      proved = least_gaps f trails;
      best = for_kinds f j (λ kinds. BestPasses kinds f (least_gaps f trails) trails.best gaps) of_j some_j best k of_k
          some_k;
    }
passes f k (Pools c) gaps of_k some_k accepted =
    let (j, of_j, some_j, best) = accepted.passes in
    record {
      proved = accepted.proved;
      best = for_kinds f j (λ kinds. BestPasses kinds f accepted.proved c.pools.best gaps) of_j some_j best k of_k
          some_k;
    }

proves_with : (f : Fingers) (c : FewerCertificate) (best : Best) (proved : ℕ) → ProvesOfAll f c proved
    → ProvesOfAll f (listing c best) proved
proves_with f c best proved is = record {
  fill = record { half = is.fill.half; opened = is.fill.opened };
  texts = is.texts;
  ends = is.ends;
  lemmas = is.lemmas;
  proved_is = is.proved_is;
}

-- another row that passes where its own does may stand in its place
pub accepted_with : (f : Fingers) (k : Kinds) (evidence : TrailEvidence) (gaps : ℕ) (best : Best) → AreKinds f k
    → AreSomeKinds k → IsEitherAccepted f evidence gaps
    → ((proved : ℕ) → BestPasses k f proved (best_in evidence) gaps → RowPasses k f proved best gaps)
    → IsEitherAccepted f (either_listing evidence best) gaps
accepted_with f k (Filled trails) gaps best of_k some_k accepted each = record {
  gates = record { order = accepted.gates.order; opened = accepted.gates.opened };
  justified = accepted.justified;
  passes = passed accepted.passes;
}
  where
    passed : WithKinds f (λ (j : Kinds). BestPasses j f (least_gaps f trails) trails.best gaps)
        → WithKinds f (λ (j : Kinds). BestPasses j f (least_gaps f trails) (Some best) gaps)
    passed (j, of_j, some_j, there) =
        let mine : BestPasses k f (least_gaps f trails) trails.best gaps =
        for_kinds f j (λ kinds. BestPasses kinds f (least_gaps f trails) trails.best gaps) of_j some_j there k of_k
        some_k in
        (k, of_k, some_k, each (least_gaps f trails) mine)
accepted_with f k (Pools c) gaps best of_k some_k accepted each = record {
  proved = accepted.proved;
  lemmas = proves_with f c best accepted.proved accepted.lemmas;
  passes = passed accepted.passes;
}
  where
    passed : WithKinds f (λ (j : Kinds). BestPasses j f accepted.proved c.pools.best gaps)
        → WithKinds f (λ (j : Kinds). BestPasses j f accepted.proved (Some best) gaps)
    passed (j, of_j, some_j, there) =
        let mine : BestPasses k f accepted.proved c.pools.best gaps =
        for_kinds f j (λ kinds. BestPasses kinds f accepted.proved c.pools.best gaps) of_j some_j there k of_k
        some_k in
        (k, of_k, some_k, each accepted.proved mine)

pub few_with : (f : Fingers) (evidence : TrailEvidence) (best : Best) → HasFewEitherWays f evidence
    → HasFewEitherWays f (either_listing evidence best)
few_with f (Filled trails) best few = few
few_with f (Pools c) best few = few

pub best_with : (evidence : TrailEvidence) (best : Best) → best_in (either_listing evidence best) ≡ Some best
best_with (Filled trails) best = refl
best_with (Pools c) best = refl

pub fits_with : (k : Kinds) (evidence : TrailEvidence) (best : Best) → EitherFits k evidence → BestFits k best
    → EitherFits k (either_listing evidence best)
fits_with k (Filled trails) best fits row = record {
  fill = fits.fill;
  increase = fits.increase;
  order = fits.order;
  lemmas = fits.lemmas;
  best = row;
}
fits_with k (Pools c) best fits row = record {
  out = fits.out;
  pools = record {
    fill = fits.pools.fill;
    increase = fits.pools.increase;
    order = fits.pools.order;
    lemmas = fits.pools.lemmas;
    best = row;
  };
}
