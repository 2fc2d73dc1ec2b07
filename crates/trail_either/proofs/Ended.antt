-- What the search of a version found or proved, as what a search of both does.
use Rattle.std.specs.Prelude.{ℕ, ◌≡◌, ◌||◌, Bool, true, false, cond, List, [], ◌∷◌, map}
use Rattle.std.specs.List.{filter, list_any, range_with_len}
use Rattle.std.proofs.Common.{refl, ap}
use Rattle.cell_num.specs.declared.finger.Fingers.{Fingers}
use Rattle.cell_num.specs.declared.net.NetNo.{NetNo}
use Rattle.row_model.specs.declared.column.Column.{Column}
use Rattle.log_check.specs.Accepted.{WithKinds}
use Rattle.trail_log.specs.declared.trails.TrailCertificate.{TrailCertificate}
use Rattle.fewer_log.specs.declared.certificate.FewerCertificate.{FewerCertificate}
use Rattle.trail_search.specs.Ended.{IsCertified, IsTrailFound}
use Rattle.open_gates.specs.Open.{is_uneven}
use Rattle.trail_search.specs.Filling.{uneven_gates}
use Rattle.pool_trails.specs.declared.opening.Opening.{Opening}
use Rattle.pool_trails.specs.Ended.{IsPoolCertified, IsPoolFound}
use Rattle.trail_either.specs.declared.evidence.TrailEvidence.TheVariants.{Filled, Pools}
use Rattle.trail_either.specs.Ended.{EndsLonger, HasHalfColumns, IsEitherCertified, IsEitherFound, IsNext}

filled_certified : (f : Fingers) (row : List Column) (trails : TrailCertificate) →
    WithKinds f (λ k. IsCertified k f row trails) → WithKinds f (λ k. IsEitherCertified k f row (Filled trails))
filled_certified f row trails (k, of_k, some_k, is) =
    (k, of_k, some_k, record { accepted = is.accepted; few_ways = is.few_ways; lists = is.lists; fits = is.fits })

pools_certified : (f : Fingers) (row : List Column) (c : FewerCertificate) →
    WithKinds f (λ k. IsPoolCertified k f row c) → WithKinds f (λ k. IsEitherCertified k f row (Pools c))
pools_certified f row c (k, of_k, some_k, is) =
    (k, of_k, some_k, record { accepted = is.accepted; few_ways = is.few_ways; lists = is.lists; fits = is.fits })

module _ (f : Fingers) (budget : ℕ) (row : List Column) (most : ℕ) where
  pub filled_found : (trails : TrailCertificate) → EndsLonger f budget most → IsTrailFound f budget row trails
      → IsEitherFound f budget row (Filled trails)
  filled_found trails ends is =
      record { first = is.first; certified = filled_certified f row trails is.certified; within = (most, ends, is) }

  pub pools_found : (c : FewerCertificate) (opening : Opening) → IsNext f budget most opening
      → IsPoolFound opening f budget row c → IsEitherFound f budget row (Pools c)
  pools_found c opening next is = record {
    first = is.first;
    certified = pools_certified f row c is.certified;
    within = (most, opening, next, is);
  }

abbrev net_of : ℕ → NetNo
net_of g = record { 0 = g }

module _ {X : Type 0} (p : X → Bool) where
  none_at : (b : Bool) (x : X) (xs : List X) → (b || list_any p xs) ≡ false
      → (list_any p xs ≡ false → filter p xs ≡ []) → cond b (x ∷ filter p xs) (filter p xs) ≡ []
  none_at true x xs none rest = absurd cc
  none_at false x xs none rest = rest none

  none_filtered : (xs : List X) → list_any p xs ≡ false → filter p xs ≡ []
  none_filtered [] none = refl
  none_filtered (x ∷ xs) none = none_at (p x) x xs none (none_filtered xs)

  some_at : (b : Bool) (x : X) (xs : List X) → (b || list_any p xs) ≡ true
      → cond b (x ∷ filter p xs) (filter p xs) ≡ [] → (list_any p xs ≡ true → filter p xs ≡ [] → ⊥) → ⊥
  some_at true x xs some none rest = cc
  some_at false x xs some none rest = rest some none

  some_filtered : (xs : List X) → list_any p xs ≡ true → filter p xs ≡ [] → ⊥
  some_filtered [] some none = cc
  some_filtered (x ∷ xs) some none = some_at (p x) x xs some none (some_filtered xs)

gates_none : (gates : List ℕ) → map (λ (g : ℕ). net_of g) gates ≡ [] → gates ≡ []
gates_none [] none = refl
gates_none (g ∷ gates) none = absurd cc

-- some gate has half columns
pub some_uneven : (f : Fingers) → list_any (is_uneven f) (range_with_len 0 f.nets) ≡ true → HasHalfColumns f
some_uneven f some none =
    some_filtered (is_uneven f) (range_with_len 0 f.nets) some
    (gates_none (filter (is_uneven f) (range_with_len 0 f.nets)) none)

-- no gate has half columns
pub none_uneven : (f : Fingers) → list_any (is_uneven f) (range_with_len 0 f.nets) ≡ false → uneven_gates f ≡ []
none_uneven f none =
    ap (map (λ (g : ℕ). record { 0 = g })) (none_filtered (is_uneven f) (range_with_len 0 f.nets) none)
