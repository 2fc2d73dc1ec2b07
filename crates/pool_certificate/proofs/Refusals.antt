-- What the refusals of lemmas and of a row come to, and that no certificate is accepted and refused for a fault.
use Rattle.std.specs.Prelude.{ℕ, ◌≡◌, ◌≢◌, ◌≤◌, ◌<◌, ◌-◌, List, Option, Some, None, All, length}
use Rattle.std.specs.Prelude.{Result, Ok, Err, IfErr}
use Rattle.std.proofs.Common.{arith, ap, refl, sym, subst, ◌∙◌, inl, inr}
use Rattle.std.proofs.lemmas.List.Elements.{All-get_or}
use Rattle.std.proofs.lemmas.Option.{get_or_from_slice_get, slice_get_within}
use Rattle.cell_num.specs.declared.finger.Fingers.{Fingers}
use Rattle.cell_num.proofs.Pairs.{Some', some_from_any}
use Rattle.row_state.specs.declared.kind.Kinds.{Kinds}
use Rattle.row_state.proofs.SameKinds.{same_kinds}
use Rattle.bound_log.specs.declared.log.Best.{Best}
use Rattle.log_check.specs.Accepted.{BestPasses, WithKinds}
use Rattle.trail_check.specs.declared.refusal.TrailRefusal.{TrailRefusal}
use Rattle.trail_check.specs.declared.refusal.TrailRefusal.TheVariants as refusal
use Rattle.trail_check.specs.Justified.{gaps_proved}
use Rattle.trail_check.specs.Refusal.{IsFault, RowRefused}
use Rattle.trail_pools.specs.declared.level.PoolLevel.{PoolLevel}
use Rattle.trail_pools.specs.declared.pools.Pools.{Pools}
use Rattle.trail_pools.specs.Leveled.{levels_of, pools_of}
use Rattle.trail_pools.specs.State.{start}
use Rattle.end_lemmas.specs.declared.lemma.EndLemma.{EndLemma}
use Rattle.end_lemmas.specs.Justified.{AreEndsProved, IsAtStart}
use Rattle.fewer_fingers.specs.Fewer.{columns_lost, staying}
use Rattle.fewer_log.specs.declared.certificate.FewerCertificate.{FewerCertificate}
use Rattle.pool_log.specs.declared.lemma.PoolLine.{PoolLine}
use Rattle.pool_lines.specs.Texts.{IsTextOfState}
use Rattle.pool_check.specs.declared.refusal.PoolRefusal.{PoolRefusal}
use Rattle.pool_check.specs.declared.refusal.PoolRefusal.TheVariants as cause
use Rattle.pool_check.specs.Refusal.{IsFault as IsFaultOfLemmas, Refuses as RefusesLemmas}
use Rattle.pool_check.proofs.Refusals.{faults_never as lemmas_never}
use Rattle.pool_certificate.specs.Accepted.{HasFewWaysOf, IsAccepted, IsFill, IsNeverAccepted, ProvesOfAll}
use Rattle.pool_certificate.specs.Accepted.{lemmas_of, open_of}
use Rattle.pool_certificate.specs.Refusal.{AreEndsRefused, AreLemmasRefused, AreTextsBefore, EndsRefused}
use Rattle.pool_certificate.specs.Refusal.{IsFirstOther, IsForLine, IsRowRefused, LemmasRefused, Refuses, lemma_line}
use Rattle.pool_certificate.specs.Refusal.{refusal_of}

module _ (f : Fingers) (c : FewerCertificate) where
  unproved_cause : IsFill (staying c.out f) c.pools → (because : PoolRefusal)
      → AreTextsBefore (staying c.out f) c.pools because
      → RefusesLemmas (staying c.out f) (open_of (staying c.out f) c.pools) c.pools.order
      (lemmas_of (staying c.out f) c.pools) because
      → Refuses f c (refusal_of (lemma_line c.out) because)
  unproved_cause fill cause.Order texts h =
      inr (fill, record { because = cause.Order; why_is = refl; texts = texts; refused = h })
  unproved_cause fill (cause.Choices gate) texts h =
      inr (fill, record { because = cause.Choices gate; why_is = refl; texts = texts; refused = h })
  unproved_cause fill (cause.Unproved at) texts h =
      inr (fill, record { because = cause.Unproved at; why_is = refl; texts = texts; refused = h })
  unproved_cause fill cause.NoMemory texts h = tt

  lemmas_cause : IsFill (staying c.out f) c.pools → (why : TrailRefusal)
      → AreLemmasRefused (staying c.out f) c.pools (lemma_line c.out) why → Refuses f c why
  lemmas_cause fill why h =
      subst (Refuses f c) (sym h.why_is) (unproved_cause fill h.because h.texts h.refused)

  line_cause : IsFill (staying c.out f) c.pools → (why : TrailRefusal)
      → IsForLine (staying c.out f) c.pools (lemma_line c.out) why → Refuses f c why
  line_cause fill why (line, is, h) = subst (Refuses f c) (sym is) (fill, h)

  pub ends_refuse : (why : TrailRefusal) → EndsRefused f c why → Refuses f c why
  ends_refuse why h = elim h [
    | inl left ↦ subst (Refuses f c) (sym left.1) (inl (left.0, refl))
    | inr others ↦ elim others.1 [
      | inl lemmas ↦ lemmas_cause others.0 why lemmas
      | inr line ↦ line_cause others.0 why line
    ]
  ]

  -- what refuses the fingers that stay refuses the certificate
  pub ends_refused : (others : Fingers) (first : ℕ) (why : TrailRefusal) → others ≡ staying c.out f
      → first ≡ lemma_line c.out → (why ≢ refusal.NoMemory → AreEndsRefused others c.pools first why)
      → why ≢ refusal.NoMemory → EndsRefused f c why
  ends_refused others first why are is refused other =
      subst (λ (o : Fingers). AreEndsRefused o c.pools (lemma_line c.out) why) are
      (subst (λ (n : ℕ). AreEndsRefused others c.pools n why) is (refused other))

  -- ---- the row

  pub row_refuses : (proved : ℕ) (why : TrailRefusal) → ProvesOfAll f c proved → HasFewWaysOf (staying c.out f) c.pools
      → WithKinds f (λ (k : Kinds). RowRefused k f proved c.pools.best why) → Refuses f c why
  row_refuses proved refusal.Gates lemmas few (k, of_k, some_k, h) = absurd h
  row_refuses proved (refusal.Choices gate) lemmas few (k, of_k, some_k, h) = absurd h
  row_refuses proved (refusal.Line line) lemmas few (k, of_k, some_k, h) = absurd h
  row_refuses proved (refusal.Unproved line) lemmas few (k, of_k, some_k, h) = absurd h
  row_refuses proved (refusal.NoRow best) lemmas few h =
      record { proved = proved; lemmas = lemmas; few_ways = few; row = h }
  row_refuses proved refusal.NotArrangement lemmas few h =
      record { proved = proved; lemmas = lemmas; few_ways = few; row = h }
  row_refuses proved (refusal.Gaps said counted) lemmas few h =
      record { proved = proved; lemmas = lemmas; few_ways = few; row = h }
  row_refuses proved (refusal.NotLeast best said) lemmas few h =
      record { proved = proved; lemmas = lemmas; few_ways = few; row = h }
  row_refuses proved refusal.NoMemory lemmas few h = tt

  pub row_err : (proved : ℕ) → ProvesOfAll f c proved → HasFewWaysOf (staying c.out f) c.pools
      → (r : Result ℕ TrailRefusal)
      → IfErr r (λ why.
      why ≢ refusal.NoMemory → WithKinds f (λ (k : Kinds). RowRefused k f proved c.pools.best why))
      → IfErr r (λ why. why ≢ refusal.NoMemory → Refuses f c why)
  row_err proved lemmas few (Ok gaps) h = tt
  row_err proved lemmas few (Err why) h = λ other. row_refuses proved why lemmas few (h other)

-- ---- not both

row_not_both : (k : Kinds) (f : Fingers) (least : ℕ) (row : Option Best) (gaps : ℕ) (why : TrailRefusal)
    → BestPasses k f least row gaps → RowRefused k f least row why → why ≢ refusal.NoMemory → ⊥
row_not_both k f least None gaps why passes h other = passes
row_not_both k f least (Some row) gaps refusal.Gates passes h other = h
row_not_both k f least (Some row) gaps (refusal.Choices gate) passes h other = h
row_not_both k f least (Some row) gaps (refusal.Line line) passes h other = h
row_not_both k f least (Some row) gaps (refusal.Unproved line) passes h other = h
row_not_both k f least (Some row) gaps (refusal.NoRow best) passes h other = h
row_not_both k f least (Some row) gaps refusal.NotArrangement passes h other = h passes.arranges
row_not_both k f least (Some row) gaps (refusal.Gaps said counted) passes (arranges, is, counts, differ) other =
    differ (is ∙ passes.counted ∙ sym counts)
row_not_both k f least (Some row) gaps (refusal.NotLeast best said) passes (arranges, counted, proved, is, more) other =
    omega (arith, passes.least, proved, is, more)
row_not_both k f least (Some row) gaps refusal.NoMemory passes h other = other refl

rows_not_both : (f : Fingers) (least : ℕ) (row : Option Best) (gaps : ℕ) (why : TrailRefusal)
    → WithKinds f (λ (k : Kinds). BestPasses k f least row gaps)
    → WithKinds f (λ (k : Kinds). RowRefused k f least row why) → why ≢ refusal.NoMemory → ⊥
rows_not_both f least row gaps why (j, of_j, some_j, passes) (k, of_k, some_k, h) other =
    row_not_both k f least row gaps why
    (subst (λ (i : Kinds). BestPasses i f least row gaps) (same_kinds f j k of_j some_j of_k some_k) passes) h other

-- lemmas prove one number of ends
at_most : {S : Type 0} (first : S) (lemmas : List (EndLemma S)) (a b : ℕ) → AreEndsProved first lemmas a
    → AreEndsProved first lemmas b → a ≤ b
at_most first lemmas a b one other = elim one.one [
  | inl none ↦ omega (arith, none)
  | inr any ↦
      let found : Some' (λ lemma. IsAtStart first lemma × (lemma.bound ≡ a)) lemmas =
      some_from_any (λ lemma. IsAtStart first lemma × (lemma.bound ≡ a)) lemmas any in
      omega (arith, found.holds.1, other.most found.it found.there found.holds.0)
]

pub one_number : {S : Type 0} (first : S) (lemmas : List (EndLemma S)) (a b : ℕ) → AreEndsProved first lemmas a
    → AreEndsProved first lemmas b → a ≡ b
one_number first lemmas a b one other =
    omega (arith, at_most first lemmas a b one other, at_most first lemmas b a other one)

fault_of_lemmas : (first : ℕ) (because : PoolRefusal) → IsFault (refusal_of first because) → IsFaultOfLemmas because
fault_of_lemmas first cause.Order fault = tt
fault_of_lemmas first (cause.Choices gate) fault = fault
fault_of_lemmas first (cause.Unproved at) fault = tt
fault_of_lemmas first cause.NoMemory fault = fault

-- a fault is not memory
no_memory : (why : TrailRefusal) → IsFault why → why ≢ refusal.NoMemory
no_memory refusal.Gates fault = λ e. cc
no_memory (refusal.Choices gate) fault = absurd fault
no_memory (refusal.Line line) fault = λ e. cc
no_memory (refusal.Unproved line) fault = λ e. cc
no_memory (refusal.NoRow best) fault = λ e. cc
no_memory refusal.NotArrangement fault = λ e. cc
no_memory (refusal.Gaps said counted) fault = λ e. cc
no_memory (refusal.NotLeast best said) fault = λ e. cc
no_memory refusal.NoMemory fault = absurd fault

-- one of the lines is not as all are
texts_not : (pools : Pools) (levels : List PoolLevel) (lines : List PoolLine) (at : ℕ)
    → IsFirstOther pools levels lines at → All (IsTextOfState pools levels) lines → ⊥
texts_not pools levels lines at h texts =
    let within : at < length lines = slice_get_within lines at h.line h.there in
    h.other
    (subst (IsTextOfState pools levels) (get_or_from_slice_get lines at h.line h.line h.there)
    (All-get_or (IsTextOfState pools levels) lines at h.line within texts))

module _ (f : Fingers) (c : FewerCertificate) (gaps : ℕ) (is : IsAccepted f c gaps) where
  line_not : (line : ℕ) → Refuses f c (refusal.Line line) → ⊥
  line_not line (fill, h) =
      texts_not (pools_of (staying c.out f) (open_of (staying c.out f) c.pools))
      (levels_of (staying c.out f) (open_of (staying c.out f) c.pools) c.pools.order) c.pools.lemmas h.at h.line
      is.lemmas.texts

  unproved_not : (why : TrailRefusal) → AreLemmasRefused (staying c.out f) c.pools (lemma_line c.out) why
      → IsFault why → ⊥
  unproved_not why h fault =
      lemmas_never (staying c.out f) (open_of (staying c.out f) c.pools) c.pools.order
      (lemmas_of (staying c.out f) c.pools) h.because (λ other. h.refused)
      (fault_of_lemmas (lemma_line c.out) h.because (subst IsFault h.why_is fault)) is.lemmas.ends is.lemmas.lemmas

  lemmas_not : (why : TrailRefusal) → LemmasRefused f c why → IsFault why → ⊥
  lemmas_not why h fault = elim h [
    | inl left ↦ left.0 is.lemmas.fill
    | inr others ↦ unproved_not why others.1 fault
  ]

  -- the certificate proves one number of gaps
  same_proved : (proved : ℕ) → ProvesOfAll f c proved → proved ≡ is.proved
  same_proved proved h =
      let same : h.ends ≡ is.lemmas.ends =
      one_number start (lemmas_of (staying c.out f) c.pools) h.ends is.lemmas.ends h.lemmas.proved
      is.lemmas.lemmas.proved in
      h.proved_is
      ∙ ap (λ (n : ℕ). gaps_proved n - columns_lost f (staying c.out f)) same
      ∙ sym is.lemmas.proved_is

  row_not : (why : TrailRefusal) → IsRowRefused f c why → why ≢ refusal.NoMemory → ⊥
  row_not why h other =
      rows_not_both f is.proved c.pools.best gaps why is.passes
      (subst (λ (n : ℕ). WithKinds f (λ (k : Kinds). RowRefused k f n c.pools.best why)) (same_proved h.proved h.lemmas)
      h.row) other

  -- no certificate is accepted that is refused for a fault
  pub not_both : (why : TrailRefusal) → Refuses f c why → IsFault why → ⊥
  not_both refusal.Gates h fault = lemmas_not refusal.Gates h fault
  not_both (refusal.Choices gate) h fault = fault
  not_both (refusal.Line line) h fault = line_not line h
  not_both (refusal.Unproved line) h fault = lemmas_not (refusal.Unproved line) h fault
  not_both (refusal.NoRow best) h fault = row_not (refusal.NoRow best) h (λ e. cc)
  not_both refusal.NotArrangement h fault = row_not refusal.NotArrangement h (λ e. cc)
  not_both (refusal.Gaps said counted) h fault = row_not (refusal.Gaps said counted) h (λ e. cc)
  not_both (refusal.NotLeast best said) h fault = row_not (refusal.NotLeast best said) h (λ e. cc)
  not_both refusal.NoMemory h fault = fault

pub faults_never : (f : Fingers) (c : FewerCertificate) (r : Result ℕ TrailRefusal)
    → IfErr r (λ why. why ≢ refusal.NoMemory → Refuses f c why)
    → IfErr r (λ why. IsFault why → IsNeverAccepted f c)
faults_never f c (Ok gaps) h = tt
faults_never f c (Err why) h = λ fault gaps is. not_both f c gaps is why (h (no_memory why fault)) fault
