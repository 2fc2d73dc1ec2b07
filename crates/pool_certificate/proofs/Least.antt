-- What an accepted certificate, and a refusal of a row, say of the gaps of each arrangement.
use Rattle.std.specs.Prelude.{ℕ, ◌≡◌, ◌≢◌, ◌≤◌, ◌-◌, Option, Some, None, Result, Ok, Err, IfErr, IfOk}
use Rattle.std.proofs.Common.{arith, ap, subst, sym, ◌∙◌, inl, inr}
use Rattle.cell_num.specs.declared.finger.Fingers.{Fingers}
use Rattle.cell_num.specs.Fingers.{AreFingers}
use Rattle.row_state.specs.declared.kind.Kinds.{Kinds}
use Rattle.bound_log.specs.declared.log.Best.{Best}
use Rattle.log_check.specs.Accepted.{BestPasses, WithKinds}
use Rattle.trail_check.specs.declared.refusal.TrailRefusal.{TrailRefusal}
use Rattle.trail_check.specs.declared.refusal.TrailRefusal.TheVariants as refusal
use Rattle.trail_check.specs.Accepted.{IsLow}
use Rattle.trail_check.specs.Justified.{gaps_proved}
use Rattle.trail_check.specs.Refusal.{Proves}
use Rattle.fewer_fingers.specs.Fewer.{columns_lost, staying}
use Rattle.fewer_fingers.proofs.Counts.{staying_fingers}
use Rattle.fewer_fingers.proofs.Law.{fewer_law}
use Rattle.fewer_log.specs.declared.certificate.FewerCertificate.{FewerCertificate}
use Rattle.pool_check.specs.declared.refusal.PoolRefusal.{PoolRefusal}
use Rattle.pool_check.specs.declared.refusal.PoolRefusal.TheVariants as cause
use Rattle.pool_check.proofs.Low.{accepted_low as lemmas_low, accepted_true as lemmas_true}
use Rattle.pool_certificate.specs.Accepted.{AreProved, AreTexts, AreTrueLemmas, IsAccepted, IsFill, ProvesOfAll}
use Rattle.pool_certificate.specs.Accepted.{lemmas_of, open_of}
use Rattle.pool_certificate.specs.Refusal.{EndsRefused, lemma_line, refusal_of}

accepted_few : (k : Kinds) (f : Fingers) (best gaps : ℕ) (row : Option Best) → BestPasses k f best row gaps
    → gaps ≤ best
accepted_few k f best gaps None passes = absurd passes
accepted_few k f best gaps (Some row) passes = omega (arith, passes.said, passes.least)

less : (f : Fingers) (gaps best : ℕ) → gaps ≤ best → IsLow f best → IsLow f gaps
less f gaps best few low row arranges = omega (arith, few, low row arranges)

module _ (f : Fingers) (c : FewerCertificate) where
  -- no arrangement of all fingers has fewer gaps than are proved
  pub proves_low : AreFingers f → (proved : ℕ) → ProvesOfAll f c proved → IsLow f proved
  proves_low ok proved h =
      subst (IsLow f) (sym h.proved_is)
      (fewer_law f ok c.out (gaps_proved h.ends)
      (lemmas_low (staying c.out f) (open_of (staying c.out f) c.pools) c.pools.order
      (lemmas_of (staying c.out f) c.pools) (staying_fingers f ok c.out) h.ends h.lemmas))

  -- nor than an accepted row has
  pub accepted_low : AreFingers f → (gaps : ℕ) → IsAccepted f c gaps → IsLow f gaps
  accepted_low ok gaps h =
      let (k, of_f, kinds, passes) = h.passes in
      less f gaps h.proved (accepted_few k f h.proved gaps c.pools.best passes) (proves_low ok h.proved h.lemmas)

  pub least_low : AreFingers f → (r : Result ℕ TrailRefusal) → IfOk r (IsAccepted f c) → IfOk r (IsLow f)
  least_low ok (Ok gaps) h = accepted_low ok gaps h
  least_low ok (Err why) h = tt

  -- what is found of the fingers that stay comes to this of all
  pub proves_all : (others : Fingers) (ends proved : ℕ) → others ≡ staying c.out f → IsFill others c.pools
      → AreTexts others c.pools → AreProved others c.pools ends → proved ≡ gaps_proved ends - columns_lost f others
      → ProvesOfAll f c proved
  proves_all others ends proved are fill texts lemmas is = record {
    fill = subst (λ (o : Fingers). IsFill o c.pools) are fill;
    texts = subst (λ (o : Fingers). AreTexts o c.pools) are texts;
    ends = ends;
    lemmas = subst (λ (o : Fingers). AreProved o c.pools ends) are lemmas;
    proved_is = is ∙ ap (λ (o : Fingers). gaps_proved ends - columns_lost f o) are;
  }

  pub row_accepted : (proved : ℕ) → ProvesOfAll f c proved → (r : Result ℕ TrailRefusal)
      → IfOk r (λ gaps. WithKinds f (λ (k : Kinds). BestPasses k f proved c.pools.best gaps))
      → IfOk r (IsAccepted f c)
  row_accepted proved lemmas (Ok gaps) passes = record { proved = proved; lemmas = lemmas; passes = passes }
  row_accepted proved lemmas (Err why) passes = tt

  -- all its lemmas are true
  pub accepted_true : (r : Result ℕ TrailRefusal) → IfOk r (IsAccepted f c)
      → IfOk r (λ _. AreTrueLemmas (staying c.out f) c.pools)
  accepted_true (Ok gaps) h =
      lemmas_true (staying c.out f) (open_of (staying c.out f) c.pools) c.pools.order
      (lemmas_of (staying c.out f) c.pools) (Ok h.lemmas.ends) h.lemmas.lemmas
  accepted_true (Err why) h = tt

  -- a refusal of a row tells the gaps that are proved
  refusal_low : AreFingers f → (proved : ℕ) → ProvesOfAll f c proved → (why : TrailRefusal)
      → Proves (λ (told : ℕ). told ≡ proved) why → Proves (IsLow f) why
  refusal_low ok proved lemmas refusal.Gates h = tt
  refusal_low ok proved lemmas (refusal.Choices gate) h = tt
  refusal_low ok proved lemmas (refusal.Line line) h = tt
  refusal_low ok proved lemmas (refusal.Unproved line) h = tt
  refusal_low ok proved lemmas (refusal.NoRow best) h = subst (IsLow f) (sym h) (proves_low ok proved lemmas)
  refusal_low ok proved lemmas refusal.NotArrangement h = tt
  refusal_low ok proved lemmas (refusal.Gaps said counted) h = tt
  refusal_low ok proved lemmas (refusal.NotLeast best said) h =
      subst (IsLow f) (sym h) (proves_low ok proved lemmas)
  refusal_low ok proved lemmas refusal.NoMemory h = tt

  pub row_tells : AreFingers f → (proved : ℕ) → ProvesOfAll f c proved → (r : Result ℕ TrailRefusal)
      → IfErr r (Proves (λ (told : ℕ). told ≡ proved)) → IfErr r (Proves (IsLow f))
  row_tells ok proved lemmas (Ok gaps) h = tt
  row_tells ok proved lemmas (Err why) h = refusal_low ok proved lemmas why h

  told_none : (Says : ℕ → Type 0) (first : ℕ) (because : PoolRefusal) → Proves Says (refusal_of first because)
  told_none Says first cause.Order = tt
  told_none Says first (cause.Choices gate) = tt
  told_none Says first (cause.Unproved at) = tt
  told_none Says first cause.NoMemory = tt

  told : (Says : ℕ → Type 0) (why : TrailRefusal) → EndsRefused f c why → Proves Says why
  told Says why h = elim h [
    | inl left ↦ subst (Proves Says) (sym left.1) tt
    | inr others ↦ elim others.1 [
      | inl lemmas ↦ subst (Proves Says) (sym lemmas.why_is) (told_none Says (lemma_line c.out) lemmas.because)
      | inr line ↦ subst (Proves Says) (sym line.1) tt
    ]
  ]

  -- a refusal before the row tells none
  pub ends_tell_none : (Says : ℕ → Type 0) (why : TrailRefusal) → (why ≢ refusal.NoMemory → EndsRefused f c why)
      → Proves Says why
  ends_tell_none Says refusal.Gates h = tt
  ends_tell_none Says (refusal.Choices gate) h = tt
  ends_tell_none Says (refusal.Line line) h = tt
  ends_tell_none Says (refusal.Unproved line) h = tt
  ends_tell_none Says (refusal.NoRow best) h = told Says (refusal.NoRow best) (h (λ e. cc))
  ends_tell_none Says refusal.NotArrangement h = tt
  ends_tell_none Says (refusal.Gaps said counted) h = tt
  ends_tell_none Says (refusal.NotLeast best said) h = told Says (refusal.NotLeast best said) (h (λ e. cc))
  ends_tell_none Says refusal.NoMemory h = tt
