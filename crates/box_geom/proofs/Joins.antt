-- What ranges in order join to: the same numbers, with room between the ranges.
use Rattle.std.proofs.Common.{◌≡◌, ◌↔◌, ℤ, pos, ◌≤ℤ◌, ◌<ℤ◌, ◌-ℤ◌, List, [], ◌∷◌, Bool, true, false, if◌then◌else◌, arith, inl, inr, ◌⊎◌, refl}
use Rattle.std.proofs.lemmas.Int.{ints, clamps, by_lt_z}
use Rattle.box_geom.specs.declared.ranges.XRange.{XRange}
use Rattle.box_geom.specs.Ranges.{meets, wider, join, all_joined, IsInRange, Hit, Rising, Apart, Spread}

apart_lower : (low lower : ℤ) (ss : List XRange) → lower ≤ℤ low → Apart low ss → Apart lower ss
apart_lower low lower [] h a = tt
apart_lower low lower (s ∷ ss) h a = let l = a.0 in (omega (arith, ints), a.1)

rising_lower : (low lower : ℤ) (ss : List XRange) → lower ≤ℤ low → Rising low ss → Rising lower ss
rising_lower low lower [] h r = tt
rising_lower low lower (s ∷ ss) h r = let l = r.0 in (omega (arith, ints), r.1)

-- where c begins no later than the spans, what joins has room between
pub join_apart : (c : XRange) (ss : List XRange) (low : ℤ) → low <ℤ c.x1 → c.x1 <ℤ c.x2 → Rising c.x1 ss → Apart low (join c ss)
join_apart c [] low l w r = (l, (w, tt))
join_apart c (s ∷ ss) low l w r = by (meets c s) refl (join_apart (wider c s) ss low l (omega (arith, ints, clamps)) (rising_lower s.x1 c.x1 ss r.0 r.1.1)) (λ h. join_apart s ss c.x2 h r.1.0 r.1.1)
  where
    by : (b : Bool) → meets c s ≡ b → Apart low (join (wider c s) ss) → (c.x2 <ℤ s.x1 → Apart c.x2 (join s ss)) → Apart low (if b then join (wider c s) ss else c ∷ join s ss)
    by true e over past = over
    by false e over past = (l, (w, past (omega (arith, ints))))

pub all_apart : (ss : List XRange) (low : ℤ) → Rising low ss → Apart (low -ℤ pos 1) (all_joined ss)
all_apart [] low r = tt
all_apart (s ∷ ss) low r = let h = r.0 in join_apart s ss (low -ℤ pos 1) (omega (arith, ints)) r.1.0 r.1.1

-- two spans that meet hold together what the wider one holds
either_holds : (c s : XRange) (x : ℤ) → c.x1 ≤ℤ s.x1 → s.x1 ≤ℤ c.x2 → IsInRange (wider c s) x → IsInRange c x ⊎ IsInRange s x
either_holds c s x low meet h = by_lt_z x c.x2 (λ less. inl (omega (arith, ints, clamps))) (λ most. inr (omega (arith, ints, clamps)))

left_holds : (c s : XRange) (x : ℤ) → IsInRange c x → IsInRange (wider c s) x
left_holds c s x h = omega (arith, ints, clamps)

right_holds : (c s : XRange) (x : ℤ) → c.x1 ≤ℤ s.x1 → IsInRange s x → IsInRange (wider c s) x
right_holds c s x low h = omega (arith, ints, clamps)

hit_wider : (c s : XRange) (ss : List XRange) (x : ℤ) → c.x1 ≤ℤ s.x1 → s.x1 ≤ℤ c.x2 → Hit (wider c s ∷ ss) x → Hit (c ∷ s ∷ ss) x
hit_wider c s ss x low meet (inl h) = elim (either_holds c s x low meet h) [ inl a ↦ inl a | inr b ↦ inr (inl b) ]
hit_wider c s ss x low meet (inr h) = inr (inr h)

wider_hit : (c s : XRange) (ss : List XRange) (x : ℤ) → c.x1 ≤ℤ s.x1 → Hit (c ∷ s ∷ ss) x → Hit (wider c s ∷ ss) x
wider_hit c s ss x low (inl h) = inl (left_holds c s x h)
wider_hit c s ss x low (inr (inl h)) = inl (right_holds c s x low h)
wider_hit c s ss x low (inr (inr h)) = inr h

pub join_same : (c : XRange) (ss : List XRange) (x : ℤ) → Rising c.x1 ss → Hit (join c ss) x ↔ Hit (c ∷ ss) x
join_same c [] x r = (λ h. h, λ h. h)
join_same c (s ∷ ss) x r = by (meets c s) refl (join_same (wider c s) ss x (rising_lower s.x1 c.x1 ss r.0 r.1.1)) (join_same s ss x r.1.1)
  where
    by : (b : Bool) → meets c s ≡ b → (Hit (join (wider c s) ss) x ↔ Hit (wider c s ∷ ss) x) → (Hit (join s ss) x ↔ Hit (s ∷ ss) x) → Hit (if b then join (wider c s) ss else c ∷ join s ss) x ↔ Hit (c ∷ s ∷ ss) x
    by true e over past = (λ h. hit_wider c s ss x r.0 (omega (arith, ints)) (over.0 h), λ h. over.1 (wider_hit c s ss x r.0 h))
    by false e over past = (λ h. elim h [ inl a ↦ inl a | inr b ↦ inr (past.0 b) ], λ h. elim h [ inl a ↦ inl a | inr b ↦ inr (past.1 b) ])

-- below the ranges nothing is held
pub none_low : (low : ℤ) (ss : List XRange) (x : ℤ) → Apart low ss → x ≤ℤ low → Hit ss x → ⊥
none_low low (s ∷ ss) x a h (inl k) = let l = a.0 in omega (arith, ints)
none_low low (s ∷ ss) x a h (inr k) = let l = a.0 in let w = a.1.0 in none_low s.x2 ss x a.1.1 (omega (arith, ints)) k
none_low low [] x a h k = k

-- the ranges of a list of ranges in order: the same numbers, with room between them
pub record IsJoined (rs made : List XRange) : Type 0 where
  pub spread : Spread made
  pub same : (x : ℤ) → Hit made x ↔ Hit rs x

spread_of : (low : ℤ) (ss : List XRange) → Apart low ss → Spread ss
spread_of low [] a = tt
spread_of low (s ∷ ss) a = a.1

pub all_joined_is : (low : ℤ) (ss : List XRange) → Rising low ss → IsJoined ss (all_joined ss)
all_joined_is low [] r = record { spread = tt; same = λ x. (λ h. h, λ h. h) }
all_joined_is low (s ∷ ss) r = let h = r.0 in record { spread = spread_of (low -ℤ pos 1) (join s ss) (join_apart s ss (low -ℤ pos 1) (omega (arith, ints)) r.1.0 r.1.1); same = λ x. join_same s ss x r.1.1 }
