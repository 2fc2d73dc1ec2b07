-- What the ends of trails say of the gaps of each arrangement.
use Rattle.std.specs.Prelude.{ℕ, ◌≡◌, ◌≢◌, ◌+◌, ◌*◌, ◌≤◌, List, [], Option, Some, None, Result, Ok, Err, IfOk}
use Rattle.std.proofs.Common.{arith, refl, subst, sym}
use Rattle.cell_num.specs.declared.finger.Fingers.{Fingers}
use Rattle.cell_num.specs.Fingers.{AreFingers}
use Rattle.row_model.specs.Gaps.{gaps_of}
use Rattle.trail_state.specs.declared.level.Level.{Level}
use Rattle.trail_state.specs.Levels.{Ends}
use Rattle.open_gates.proofs.Law.{open_law}
use Rattle.row_state.specs.declared.kind.Kinds.{Kinds}
use Rattle.bound_log.specs.declared.log.Best.{Best}
use Rattle.log_check.specs.Accepted.{BestPasses}
use Rattle.trail_log.specs.declared.trails.TrailCertificate.{TrailCertificate}
use Rattle.trail_check.specs.declared.refusal.TrailRefusal.{TrailRefusal}
use Rattle.trail_check.specs.declared.refusal.TrailRefusal.TheVariants as refusal
use Rattle.trail_check.specs.Accepted.{AreTrueOf, IsAccepted, IsLow, least_gaps, lemmas_of}
use Rattle.trail_check.specs.Gates.{AreGates}
use Rattle.trail_check.specs.Justified.{ends_proved, gaps_proved}
use Rattle.trail_check.specs.Leveled.{levels_for, open_of}
use Rattle.trail_check.specs.Refusal.{LemmasRefused, Proves}
use Rattle.trail_check.proofs.Sound.{all_true, ends_true}

half : (ends gaps : ℕ) → ends ≤ 2 * (gaps + 1) → gaps_proved ends ≤ gaps
half ends gaps h = omega (arith, h)

pub ends_low : (f : Fingers) (trails : TrailCertificate) (levels : List Level) (ends : ℕ) → AreFingers f → AreGates f trails → levels ≡ levels_for f trails → Ends levels [] ends → IsLow f (gaps_proved ends)
ends_low f trails levels ends ok gates are holds row arranges =
    half ends (gaps_of row) (open_law f ok trails.order gates.order (open_of f trails) gates.opened ends (subst (λ (ls : List Level). Ends ls [] ends) are holds) row arranges)

pub row_low : (f : Fingers) (trails : TrailCertificate) (levels : List Level) (ends gaps : ℕ) → AreFingers f → AreGates f trails → levels ≡ levels_for f trails → Ends levels [] ends → gaps ≤ gaps_proved ends → IsLow f gaps
row_low f trails levels ends gaps ok gates are holds few row arranges =
    let least : gaps_proved ends ≤ gaps_of row = ends_low f trails levels ends ok gates are holds row arranges in
    few_then gaps (gaps_proved ends) (gaps_of row) few least
  where
    few_then : (a b c : ℕ) → a ≤ b → b ≤ c → a ≤ c
    few_then a b c h k = omega (arith, h, k)

-- ---- an accepted certificate

accepted_few : (k : Kinds) (f : Fingers) (best gaps : ℕ) (row : Option Best) → BestPasses k f best row gaps → gaps ≤ best
accepted_few k f best gaps None passes = absurd passes
accepted_few k f best gaps (Some row) passes = omega (arith, passes.said, passes.least)

-- no arrangement has fewer gaps
pub accepted_low : (f : Fingers) (trails : TrailCertificate) → AreFingers f → (gaps : ℕ) → IsAccepted f trails gaps → IsLow f gaps
accepted_low f trails ok gaps h =
    let (k, of_f, kinds, passes) = h.passes in
    row_low f trails (levels_for f trails) (ends_proved (lemmas_of f trails)) gaps ok h.gates refl
    (ends_true (levels_for f trails) (lemmas_of f trails) 5 h.justified)
    (accepted_few k f (least_gaps f trails) gaps trails.best passes)

-- all its lemmas are true
pub accepted_true : (f : Fingers) (trails : TrailCertificate) (r : Result ℕ TrailRefusal) → IfOk r (IsAccepted f trails) → IfOk r (λ _. AreTrueOf f trails)
accepted_true f trails (Ok gaps) h = all_true (levels_for f trails) (lemmas_of f trails) 5 h.justified
accepted_true f trails (Err cause) h = tt

-- ---- refusals

-- a refusal of a row tells the gaps that are proved
pub refusal_low : (f : Fingers) (trails : TrailCertificate) (levels : List Level) (ends : ℕ) (cause : TrailRefusal) → AreFingers f → AreGates f trails → levels ≡ levels_for f trails → Ends levels [] ends → Proves (λ (told : ℕ). told ≡ gaps_proved ends) cause → Proves (IsLow f) cause
refusal_low f trails levels ends refusal.Gates ok gates are holds h = tt
refusal_low f trails levels ends (refusal.Choices gate) ok gates are holds h = tt
refusal_low f trails levels ends (refusal.Line line) ok gates are holds h = tt
refusal_low f trails levels ends (refusal.Unproved line) ok gates are holds h = tt
refusal_low f trails levels ends (refusal.NoRow best) ok gates are holds h = subst (IsLow f) (sym h) (ends_low f trails levels ends ok gates are holds)
refusal_low f trails levels ends refusal.NotArrangement ok gates are holds h = tt
refusal_low f trails levels ends (refusal.Gaps said counted) ok gates are holds h = tt
refusal_low f trails levels ends (refusal.NotLeast best said) ok gates are holds h = subst (IsLow f) (sym h) (ends_low f trails levels ends ok gates are holds)
refusal_low f trails levels ends refusal.NoMemory ok gates are holds h = tt

-- a refusal of a lemma tells none
pub lemmas_low : (Says : ℕ → Type 0) (first : Option ℕ) (cause : TrailRefusal) → (cause ≢ refusal.NoMemory → LemmasRefused first cause) → Proves Says cause
lemmas_low Says first refusal.Gates h = tt
lemmas_low Says first (refusal.Choices gate) h = tt
lemmas_low Says first (refusal.Line line) h = tt
lemmas_low Says first (refusal.Unproved line) h = tt
lemmas_low Says first (refusal.NoRow best) h = absurd (h (λ e. cc))
lemmas_low Says first refusal.NotArrangement h = tt
lemmas_low Says first (refusal.Gaps said counted) h = tt
lemmas_low Says first (refusal.NotLeast best said) h = absurd (h (λ e. cc))
lemmas_low Says first refusal.NoMemory h = tt
