-- What the lemmas and the row of a certificate come to, and that none is accepted and refused for a fault.
use Rattle.std.specs.Prelude.{ℕ, ◌≡◌, ◌≢◌, List, [], Option, Some, None, Result, Ok, Err, IfErr}
use Rattle.std.proofs.Common.{refl, sym, ap, subst, arith, ◌∙◌}
use Rattle.std.proofs.lemmas.Option.{none-some}
use Rattle.cell_num.specs.declared.finger.Fingers.{Fingers}
use Rattle.row_state.specs.declared.kind.Kinds.{Kinds}
use Rattle.row_state.proofs.SameKinds.{same_kinds}
use Rattle.bound_log.specs.declared.log.Best.{Best}
use Rattle.log_check.specs.Accepted.{BestPasses, WithKinds}
use Rattle.trail_state.specs.declared.level.Level.{Level}
use Rattle.trail_log.specs.declared.trails.TrailCertificate.{TrailCertificate}
use Rattle.trail_check.specs.declared.refusal.TrailRefusal.{TrailRefusal}
use Rattle.trail_check.specs.declared.refusal.TrailRefusal.TheVariants as refusal
use Rattle.trail_check.specs.Accepted.{IsAccepted, IsNeverAccepted, first_unproved, least_gaps}
use Rattle.trail_check.specs.Gates.{AreGates, HasFewWays}
use Rattle.trail_check.specs.Justified.{ends_proved, gaps_proved, unproved}
use Rattle.trail_check.specs.Leveled.{levels_for}
use Rattle.trail_check.specs.Listed.{lemmas_listed}
use Rattle.trail_check.specs.Refusal.{IsFault, LemmasRefused, Refuses, RowRefused}

-- ---- by the levels of the order

by_levels : (P : List Level → Type 0) (levels all : List Level) → levels ≡ all → P levels → P all
by_levels P levels all is h = subst P is h

pub all_justified : (f : Fingers) (trails : TrailCertificate) (levels : List Level) → levels ≡ levels_for f trails → unproved levels [] 5 (lemmas_listed levels trails.lemmas) ≡ None → first_unproved f trails ≡ None
all_justified f trails levels are h =
    by_levels (λ (ls : List Level). unproved ls [] 5 (lemmas_listed ls trails.lemmas) ≡ None) levels (levels_for f trails) are h

gaps_are : (f : Fingers) (trails : TrailCertificate) (levels : List Level) (ends : ℕ) → levels ≡ levels_for f trails → ends ≡ ends_proved (lemmas_listed levels trails.lemmas) → gaps_proved ends ≡ least_gaps f trails
gaps_are f trails levels ends are is =
    ap gaps_proved (is ∙ ap (λ (ls : List Level). ends_proved (lemmas_listed ls trails.lemmas)) are)

pub accepts : (f : Fingers) (trails : TrailCertificate) (levels : List Level) (ends gaps : ℕ) → AreGates f trails → levels ≡ levels_for f trails → unproved levels [] 5 (lemmas_listed levels trails.lemmas) ≡ None → ends ≡ ends_proved (lemmas_listed levels trails.lemmas) → WithKinds f (λ (k : Kinds). BestPasses k f (gaps_proved ends) trails.best gaps) → IsAccepted f trails gaps
accepts f trails levels ends gaps gates are justified is passes = record {
  gates = gates;
  justified = all_justified f trails levels are justified;
  passes = subst (λ (least : ℕ). WithKinds f (λ (k : Kinds). BestPasses k f least trails.best gaps)) (gaps_are f trails levels ends are is) passes;
}

-- ---- refusals

first_refused : (f : Fingers) (trails : TrailCertificate) (levels : List Level) → levels ≡ levels_for f trails → (cause : TrailRefusal) → LemmasRefused (unproved levels [] 5 (lemmas_listed levels trails.lemmas)) cause → LemmasRefused (first_unproved f trails) cause
first_refused f trails levels are cause h =
    by_levels (λ (ls : List Level). LemmasRefused (unproved ls [] 5 (lemmas_listed ls trails.lemmas)) cause) levels (levels_for f trails) are h

lemmas_cause : (f : Fingers) (trails : TrailCertificate) (cause : TrailRefusal) → AreGates f trails → HasFewWays f trails → LemmasRefused (first_unproved f trails) cause → Refuses f trails cause
lemmas_cause f trails refusal.Gates gates few h = absurd h
lemmas_cause f trails (refusal.Choices gate) gates few h = absurd h
lemmas_cause f trails (refusal.Line line) gates few h = absurd h
lemmas_cause f trails (refusal.Unproved line) gates few h = (gates, few, h)
lemmas_cause f trails (refusal.NoRow best) gates few h = absurd h
lemmas_cause f trails refusal.NotArrangement gates few h = absurd h
lemmas_cause f trails (refusal.Gaps said counted) gates few h = absurd h
lemmas_cause f trails (refusal.NotLeast best said) gates few h = absurd h
lemmas_cause f trails refusal.NoMemory gates few h = tt

pub lemmas_refuse : (f : Fingers) (trails : TrailCertificate) (levels : List Level) (cause : TrailRefusal) → AreGates f trails → HasFewWays f trails → levels ≡ levels_for f trails → LemmasRefused (unproved levels [] 5 (lemmas_listed levels trails.lemmas)) cause → Refuses f trails cause
lemmas_refuse f trails levels cause gates few are h = lemmas_cause f trails cause gates few (first_refused f trails levels are cause h)

row_cause : (f : Fingers) (trails : TrailCertificate) (cause : TrailRefusal) → AreGates f trails → HasFewWays f trails → first_unproved f trails ≡ None → WithKinds f (λ (k : Kinds). RowRefused k f (least_gaps f trails) trails.best cause) → Refuses f trails cause
row_cause f trails refusal.Gates gates few justified (k, of_k, some_k, h) = absurd h
row_cause f trails (refusal.Choices gate) gates few justified (k, of_k, some_k, h) = absurd h
row_cause f trails (refusal.Line line) gates few justified (k, of_k, some_k, h) = absurd h
row_cause f trails (refusal.Unproved line) gates few justified (k, of_k, some_k, h) = absurd h
row_cause f trails (refusal.NoRow best) gates few justified h = (gates, few, justified, h)
row_cause f trails refusal.NotArrangement gates few justified h = (gates, few, justified, h)
row_cause f trails (refusal.Gaps said counted) gates few justified h = (gates, few, justified, h)
row_cause f trails (refusal.NotLeast best said) gates few justified h = (gates, few, justified, h)
row_cause f trails refusal.NoMemory gates few justified h = tt

pub row_refuses : (f : Fingers) (trails : TrailCertificate) (levels : List Level) (ends : ℕ) (cause : TrailRefusal) → AreGates f trails → HasFewWays f trails → levels ≡ levels_for f trails → unproved levels [] 5 (lemmas_listed levels trails.lemmas) ≡ None → ends ≡ ends_proved (lemmas_listed levels trails.lemmas) → WithKinds f (λ (k : Kinds). RowRefused k f (gaps_proved ends) trails.best cause) → Refuses f trails cause
row_refuses f trails levels ends cause gates few are justified is h =
    row_cause f trails cause gates few (all_justified f trails levels are justified)
    (subst (λ (least : ℕ). WithKinds f (λ (k : Kinds). RowRefused k f least trails.best cause)) (gaps_are f trails levels ends are is) h)

-- ---- not both

row_not_both : (k : Kinds) (f : Fingers) (least : ℕ) (row : Option Best) (gaps : ℕ) (cause : TrailRefusal) → BestPasses k f least row gaps → RowRefused k f least row cause → cause ≢ refusal.NoMemory → ⊥
row_not_both k f least None gaps cause passes h other = passes
row_not_both k f least (Some row) gaps refusal.Gates passes h other = h
row_not_both k f least (Some row) gaps (refusal.Choices gate) passes h other = h
row_not_both k f least (Some row) gaps (refusal.Line line) passes h other = h
row_not_both k f least (Some row) gaps (refusal.Unproved line) passes h other = h
row_not_both k f least (Some row) gaps (refusal.NoRow best) passes h other = h
row_not_both k f least (Some row) gaps refusal.NotArrangement passes h other = h passes.arranges
row_not_both k f least (Some row) gaps (refusal.Gaps said counted) passes (arranges, is, counts, differ) other = differ (is ∙ passes.counted ∙ sym counts)
row_not_both k f least (Some row) gaps (refusal.NotLeast best said) passes (arranges, counted, proved, is, more) other = omega (arith, passes.least, proved, is, more)
row_not_both k f least (Some row) gaps refusal.NoMemory passes h other = other refl

rows_not_both : (f : Fingers) (least : ℕ) (row : Option Best) (gaps : ℕ) (cause : TrailRefusal) → WithKinds f (λ (k : Kinds). BestPasses k f least row gaps) → WithKinds f (λ (k : Kinds). RowRefused k f least row cause) → cause ≢ refusal.NoMemory → ⊥
rows_not_both f least row gaps cause (j, of_j, some_j, passes) (k, of_k, some_k, h) other =
    row_not_both k f least row gaps cause (subst (λ (i : Kinds). BestPasses i f least row gaps) (same_kinds f j k of_j some_j of_k some_k) passes) h other

-- a fault is not memory
no_memory : (cause : TrailRefusal) → IsFault cause → cause ≢ refusal.NoMemory
no_memory refusal.Gates fault = λ e. cc
no_memory (refusal.Choices gate) fault = absurd fault
no_memory (refusal.Line line) fault = λ e. cc
no_memory (refusal.Unproved line) fault = λ e. cc
no_memory (refusal.NoRow best) fault = λ e. cc
no_memory refusal.NotArrangement fault = λ e. cc
no_memory (refusal.Gaps said counted) fault = λ e. cc
no_memory (refusal.NotLeast best said) fault = λ e. cc
no_memory refusal.NoMemory fault = absurd fault

-- no certificate is accepted that is refused for a fault
not_both : (f : Fingers) (trails : TrailCertificate) (gaps : ℕ) (cause : TrailRefusal) → IsAccepted f trails gaps → Refuses f trails cause → IsFault cause → ⊥
not_both f trails gaps refusal.Gates is h fault = h is.gates
not_both f trails gaps (refusal.Choices gate) is h fault = fault
not_both f trails gaps (refusal.Line line) is (gates, few, justified, h) fault =
    rows_not_both f (least_gaps f trails) trails.best gaps (refusal.Line line) is.passes h (λ e. cc)
not_both f trails gaps (refusal.Unproved line) is (gates, few, first) fault = none-some line (sym is.justified ∙ first)
not_both f trails gaps (refusal.NoRow best) is (gates, few, justified, h) fault =
    rows_not_both f (least_gaps f trails) trails.best gaps (refusal.NoRow best) is.passes h (λ e. cc)
not_both f trails gaps refusal.NotArrangement is (gates, few, justified, h) fault =
    rows_not_both f (least_gaps f trails) trails.best gaps refusal.NotArrangement is.passes h (λ e. cc)
not_both f trails gaps (refusal.Gaps said counted) is (gates, few, justified, h) fault =
    rows_not_both f (least_gaps f trails) trails.best gaps (refusal.Gaps said counted) is.passes h (λ e. cc)
not_both f trails gaps (refusal.NotLeast best said) is (gates, few, justified, h) fault =
    rows_not_both f (least_gaps f trails) trails.best gaps (refusal.NotLeast best said) is.passes h (λ e. cc)
not_both f trails gaps refusal.NoMemory is h fault = fault

pub faults_never : (f : Fingers) (trails : TrailCertificate) (r : Result ℕ TrailRefusal) → IfErr r (λ cause. cause ≢ refusal.NoMemory → Refuses f trails cause) → IfErr r (λ cause. IsFault cause → IsNeverAccepted f trails)
faults_never f trails (Ok gaps) h = tt
faults_never f trails (Err cause) h = λ fault gaps is. not_both f trails gaps cause is (h (no_memory cause fault)) fault

pub gates_never : (f : Fingers) (trails : TrailCertificate) → (AreGates f trails → ⊥) → IsNeverAccepted f trails
gates_never f trails none gaps is = none is.gates
