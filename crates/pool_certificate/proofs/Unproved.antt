-- What the lemmas of a certificate come to, for the fingers that they are about.
use Rattle.std.specs.Prelude.{ℕ, ◌≡◌, ◌≢◌, ◌<◌, ◌↔◌, Bool, false, IsTrue, List, [], length}
use Rattle.std.proofs.Common.{arith, ap, refl, subst, ◌∙◌, inl, inr}
use Rattle.std.proofs.lemmas.Bool.Decides.{not_from_Decides}
use Rattle.std.proofs.lemmas.Option.{slice_get_within}
use Rattle.cell_num.specs.declared.finger.Fingers.{Fingers}
use Rattle.cell_num.specs.declared.net.NetNo.{NetNo}
use Rattle.open_gates.specs.declared.gates.OpenGates.{OpenGates}
use Rattle.trail_check.specs.declared.refusal.TrailRefusal.{TrailRefusal}
use Rattle.trail_check.specs.declared.refusal.TrailRefusal.TheVariants as refusal
use Rattle.trail_pools.specs.declared.state.PoolState.{PoolState}
use Rattle.end_lemmas.specs.declared.lemma.EndLemma.{EndLemma}
use Rattle.order_log.specs.declared.certificate.OrderCertificate.{OrderCertificate}
use Rattle.pool_log.specs.declared.lemma.PoolLine.{PoolLine}
use Rattle.pool_check.specs.declared.refusal.PoolRefusal.{PoolRefusal}
use Rattle.pool_check.specs.declared.refusal.PoolRefusal.TheVariants as cause
use Rattle.pool_check.specs.Refusal.{Refuses as RefusesLemmas}
use Rattle.pool_certificate.specs.Accepted.{AreTexts, IsFill, lemmas_of, open_of}
use Rattle.pool_certificate.specs.Refusal.{AreEndsRefused, AreLemmasRefused, AreTextsBefore, IsForLine, refusal_of}

-- a lemma that is not justified stands in the list
pub stands : (f : Fingers) (opened : OpenGates) (order : List NetNo) (lemmas : List (EndLemma PoolState)) (at : ℕ)
    → RefusesLemmas f opened order lemmas (cause.Unproved at) → at < length lemmas
stands f opened order lemmas at (is_order, few, unproved) = slice_get_within lemmas at unproved.lemma unproved.there

-- an order is not refused for a lemma
pub none_unproved : (f : Fingers) (opened : OpenGates) (order : List NetNo) (why : PoolRefusal)
    → (why ≢ cause.NoMemory → (lemmas : List (EndLemma PoolState)) → RefusesLemmas f opened order lemmas why) → (at : ℕ)
    → why ≡ cause.Unproved at → ⊥
none_unproved f opened order cause.Order refused at is = cc
none_unproved f opened order (cause.Choices gate) refused at is = cc
none_unproved f opened order (cause.Unproved k) refused at is =
    let within : k < 0 = stands f opened order [] k (refused (λ e. cc) []) in omega (arith, within)
none_unproved f opened order cause.NoMemory refused at is = cc

module _ (f : Fingers) (pools : OrderCertificate PoolLine) (first : ℕ) where
  texts_before : (why : PoolRefusal) → AreTexts f pools → AreTextsBefore f pools why
  texts_before cause.Order texts = tt
  texts_before (cause.Choices gate) texts = tt
  texts_before (cause.Unproved at) texts = texts
  texts_before cause.NoMemory texts = tt

  -- no lemma is refused
  none_before : (why : PoolRefusal) → ((at : ℕ) → why ≡ cause.Unproved at → ⊥) → AreTextsBefore f pools why
  none_before cause.Order none = tt
  none_before (cause.Choices gate) none = tt
  none_before (cause.Unproved at) none = absurd (none at refl)
  none_before cause.NoMemory none = tt

  told_refused : (why : PoolRefusal) (told : TrailRefusal) → AreTextsBefore f pools why
      → (why ≢ cause.NoMemory → RefusesLemmas f (open_of f pools) pools.order (lemmas_of f pools) why)
      → told ≡ refusal_of first why → told ≢ refusal.NoMemory → AreLemmasRefused f pools first told
  told_refused why told texts refused is other = record {
    because = why;
    why_is = is;
    texts = texts;
    refused = refused (λ e. other (is ∙ ap (refusal_of first) e));
  }

  pub refused_along : (opened : OpenGates) (order : List NetNo) (why : PoolRefusal) (told : TrailRefusal)
      → opened ≡ open_of f pools → order ≡ pools.order
      → (why ≢ cause.NoMemory → (lemmas : List (EndLemma PoolState)) → RefusesLemmas f opened order lemmas why)
      → told ≡ refusal_of first why → told ≢ refusal.NoMemory → AreLemmasRefused f pools first told
  refused_along opened order why told are order_is refused is other =
      told_refused why told (none_before why (none_unproved f opened order why refused))
      (λ some. subst (λ (o : OpenGates). RefusesLemmas f o pools.order (lemmas_of f pools) why) are
      (subst (λ (gs : List NetNo). RefusesLemmas f opened gs (lemmas_of f pools) why) order_is
      (refused some (lemmas_of f pools)))) is other

  -- what is filled is refused
  pub fill_refused : (b : Bool) → (IsTrue b ↔ IsFill f pools) → b ≡ false → AreEndsRefused f pools first refusal.Gates
  fill_refused b decides off = inl (not_from_Decides b decides off, refl)

  -- where the lemmas are refused, all lines are texts
  pub lemmas_refused : (why : PoolRefusal) (told : TrailRefusal) → IsFill f pools → AreTexts f pools
      → (why ≢ cause.NoMemory → RefusesLemmas f (open_of f pools) pools.order (lemmas_of f pools) why)
      → told ≡ refusal_of first why → told ≢ refusal.NoMemory → AreEndsRefused f pools first told
  lemmas_refused why told fill texts refused is other =
      inr (fill, inl (told_refused why told (texts_before why texts) refused is other))

  pub order_refused : (told : TrailRefusal) → IsFill f pools
      → (told ≢ refusal.NoMemory → AreLemmasRefused f pools first told)
      → told ≢ refusal.NoMemory → AreEndsRefused f pools first told
  order_refused told fill refused other = inr (fill, inl (refused other))

  pub line_refused : (told : TrailRefusal) → IsFill f pools → (told ≢ refusal.NoMemory → IsForLine f pools first told)
      → told ≢ refusal.NoMemory → AreEndsRefused f pools first told
  line_refused told fill refused other = inr (fill, inr (refused other))
