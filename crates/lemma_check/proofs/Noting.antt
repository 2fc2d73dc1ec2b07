-- Which trails are noted, behind one row more.
use Rattle.std.proofs.Common.{ℕ, ◌≡◌, ◌≢◌, List, Option, Some, inl, inr, sym, ap, ◌∙◌}
use Rattle.std.proofs.lemmas.Bool.{cases_eq}
use Rattle.cell_num.specs.declared.finger.Row.{Row}
use Rattle.cell_num.specs.declared.net.NetNo.{NetNo}
use Rattle.row_state.specs.declared.kind.Kinds.{Kinds}
use Rattle.row_state.specs.declared.state.State.{State}
use Rattle.row_state.specs.Code.{row_code}
use Rattle.row_state.specs.Start.{IsState}
use Rattle.row_state.specs.Tests.{left_of}
use Rattle.row_state.specs.Trails.{end_of}
use Rattle.row_state.proofs.Codes.{row_same}
use Rattle.lemma_check.specs.Noted.{AreNotedOf}

some_is : (a b : ℕ) → Some a ≡ Some b → a ≡ b
some_is a b e = cc e

pub noted_more : (f : Row → Option NetNo → List ℕ → Kinds → ℕ) (row : Row) (k : Kinds) (old new : ℕ → Option ℕ) (number trails : ℕ) (s : State) → AreNotedOf f row k old → IsState k s → number ≡ row_code row k s → trails ≡ f row (end_of row s) (left_of row s) k → new number ≡ Some trails → ((q : ℕ) → q ≢ number → new q ≡ old q) → AreNotedOf f row k new
noted_more f row k old new number trails s before state is counted here others q told t e other same =
    elim (cases_eq q number) [
      | inl one ↦
          let both : (left_of row t ≡ left_of row s) × (end_of row t ≡ end_of row s) = row_same row k t s other state (same ∙ (one ∙ is)) in
          some_is told trails (sym e ∙ (ap new one ∙ here))
          ∙ counted
          ∙ ap (λ x. f row x (left_of row s) k) (sym both.1)
          ∙ ap (λ x. f row (end_of row t) x k) (sym both.0)
      | inr not ↦ before q told t (sym (others q not) ∙ e) other same
    ]

-- nothing more is noted
pub noted_still : (f : Row → Option NetNo → List ℕ → Kinds → ℕ) (row : Row) (k : Kinds) (old new : ℕ → Option ℕ) → AreNotedOf f row k old → ((q : ℕ) → new q ≡ old q) → AreNotedOf f row k new
noted_still f row k old new before same number trails s told valid is = before number trails s (sym (same number) ∙ told) valid is
