-- Keys on tracks: where each stands on the least track that the keys below it and the earlier ones
-- in its way leave free, the tracks are known.
use Rattle.std.proofs.Common.{ℕ, zero, suc, ◌≡◌, ◌<◌, inl, inr, refl, sym, arith}
use Rattle.std.proofs.lemmas.Bool.{cases_order}

-- on this track a key would be above each that it has to be, and out of the way of the earlier ones
pub record IsFreeFor {X : Type 0} (Over Early : X → X → Type 0) (f : X → ℕ) (x : X) (track : ℕ) : Type 0 where
  pub above : (y : X) → Over x y → f y < track
  pub clear : (y : X) → f y ≡ track → Early y x → ⊥

abbrev pub IsTightFor : {X : Type 0} → (X → X → Type 0) → (X → X → Type 0) → (X → ℕ) → Type 0
IsTightFor {X} Over Early f = (x : X) → IsFreeFor Over Early f x (f x) × ((track : ℕ) → track < f x → IsFreeFor Over Early f x track → ⊥)

-- the two put the same keys on a track
abbrev Agree : {X : Type 0} → (X → ℕ) → (X → ℕ) → ℕ → X → Type 0
Agree f g track x = (f x ≡ track → g x ≡ track) × (g x ≡ track → f x ≡ track)

one_way : {X : Type 0} (Over Early : X → X → Type 0) (f g : X → ℕ) → IsTightFor Over Early f → IsTightFor Over Early g → (track : ℕ) → ((i : ℕ) → i < track → (x : X) → Agree f g i x) → (x : X) → ((y : X) → Early y x → g y ≡ track → f y ≡ track) → f x ≡ track → g x ≡ track
one_way Over Early f g tf tg track low x early is =
    elim (cases_order (g x) track) [
      | inl same ↦ same
      | inr other ↦ elim other [
        | inl less ↦ absurd (let same : f x ≡ g x = (low (g x) less x).1 refl in omega (arith, is, same, less))
        | inr more ↦ absurd ((tg x).1 track more (record {
          above = λ y over. let below : f y < f x = (tf x).0.above y over in let same : g y ≡ f y = (low (f y) (omega (arith, below, is)) y).0 refl in omega (arith, same, below, is);
          clear = λ y same way. (tf x).0.clear y (let mine : f y ≡ track = early y way same in omega (arith, mine, is)) way;
        }))
      ]
    ]

-- track by track, and on each from the earliest key on
pub one_track : {X : Type 0} (Over Early : X → X → Type 0) (f g : X → ℕ) → ((P : X → Type 0) → ((x : X) → ((y : X) → Early y x → P y) → P x) → (x : X) → P x) → IsTightFor Over Early f → IsTightFor Over Early g → (x : X) → f x ≡ g x
one_track {X} Over Early f g induct tf tg x = sym ((agree (suc (f x)) (f x) (omega arith) x).0 refl)
  where
    agree : (n track : ℕ) → track < n → (x : X) → Agree f g track x
    agree zero track h x = absurd (omega (arith, h))
    agree (suc n) track h x = induct (λ z. Agree f g track z) (λ z early. (
      one_way Over Early f g tf tg track (λ i less w. agree n i (omega (arith, h, less)) w) z (λ y way. (early y way).1),
      one_way Over Early g f tg tf track (λ i less w. let both : Agree f g i w = agree n i (omega (arith, h, less)) w in (both.1, both.0)) z (λ y way. (early y way).0),
    )) x
