-- Which certificates are accepted.
use Rattle.std.specs.Prelude.{ℕ, ◌≡◌, ◌≤◌, List, [], Option, None, All}
use Rattle.cell_num.specs.declared.finger.Fingers.{Fingers}
use Rattle.row_model.specs.declared.column.Column.{Column}
use Rattle.row_model.specs.Arrangement.{IsArrangement}
use Rattle.row_model.specs.Gaps.{gaps_of}
use Rattle.row_state.specs.declared.kind.Kinds.{Kinds}
use Rattle.log_check.specs.Accepted.{BestPasses, WithKinds}
use Rattle.trail_log.specs.declared.trails.TrailCertificate.{TrailCertificate}
use Rattle.trail_check.specs.declared.lemma.TrailLemma.{TrailLemma}
use Rattle.trail_check.specs.Gates.{AreGates}
use Rattle.trail_check.specs.Justified.{IsTrueOf, ends_proved, gaps_proved, unproved}
use Rattle.trail_check.specs.Leveled.{levels_for}
use Rattle.trail_check.specs.Listed.{lemmas_listed}

abbrev pub lemmas_of : Fingers → TrailCertificate → List TrailLemma
lemmas_of f trails = lemmas_listed (levels_for f trails) trails.lemmas

-- the line of the first lemma that is not justified; the first lemma stands at line 5
abbrev pub first_unproved : Fingers → TrailCertificate → Option ℕ
first_unproved f trails = unproved (levels_for f trails) [] 5 (lemmas_of f trails)

-- each lemma of the certificate is true
abbrev pub AreTrueOf : Fingers → TrailCertificate → Type 0
AreTrueOf f trails = All (IsTrueOf (levels_for f trails)) (lemmas_of f trails)

-- the gaps that the lemmas prove of every row
abbrev pub least_gaps : Fingers → TrailCertificate → ℕ
least_gaps f trails = gaps_proved (ends_proved (lemmas_of f trails))

-- The row has no more gaps than the lemmas, each justified, prove of every row. How many ways a gate has is not asked.
pub record IsAccepted (f : Fingers) (trails : TrailCertificate) (gaps : ℕ) : Type 0 where
  pub gates : AreGates f trails
  pub justified : first_unproved f trails ≡ None
  pub passes : WithKinds f (λ (k : Kinds). BestPasses k f (least_gaps f trails) trails.best gaps)

-- accepted with no number of gaps
abbrev pub IsNeverAccepted : Fingers → TrailCertificate → Type 0
IsNeverAccepted f trails = (gaps : ℕ) → IsAccepted f trails gaps → ⊥

-- no arrangement of the fingers has fewer gaps
abbrev pub IsLow : Fingers → ℕ → Type 0
IsLow f gaps = (row : List Column) → IsArrangement row f → gaps ≤ gaps_of row
