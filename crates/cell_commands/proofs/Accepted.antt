-- A log is accepted or refused, and not both. The row that an accepted one lists.
use Rattle.std.proofs.Common.{ℕ, ◌≡◌, ◌≢◌, List, [], Option, Some, None, refl, sym, ap, subst, ◌∙◌, arith}
use Rattle.std.specs.Prelude.{MatchOption}
use Rattle.cell_num.specs.declared.finger.Row.{Row}
use Rattle.cell_num.specs.declared.finger.Fingers.{Fingers}
use Rattle.row_model.specs.declared.column.Column.{Column}
use Rattle.row_model.specs.Arrangement.{IsArrangement}
use Rattle.row_model.specs.Gaps.{gaps_of}
use Rattle.row_state.specs.declared.kind.Kinds.{Kinds}
use Rattle.row_state.specs.declared.state.State.{State}
use Rattle.row_state.specs.Start.{start_of}
use Rattle.bound_log.specs.declared.log.Rule.TheVariants as by
use Rattle.bound_log.specs.declared.log.Lemma.{Lemma}
use Rattle.bound_log.specs.declared.log.Best.{Best}
use Rattle.bound_log.specs.declared.log.Log.{Log}
use Rattle.lemma_check.specs.Reaches.{best_of}
use Rattle.log_check.specs.declared.refused.Refused.{Refused}
use Rattle.log_check.specs.declared.refused.Refused.TheVariants as because
use Rattle.log_check.specs.Accepted.{BestPasses, IsAccepted, Lists, columns_listed}
use Rattle.log_check.specs.Refusal.{BestRefuses, Refuses}

best_not_both : (k : Kinds) (f : Fingers) (best : ℕ) (row : Option Best) (gaps : ℕ) (cause : Refused) → BestPasses k f best row gaps → BestRefuses k f best row cause → cause ≢ because.NoMemory → ⊥
best_not_both k f best None gaps cause passes refuses other = passes
best_not_both k f best (Some row) gaps (because.Unproved line) passes refuses other = refuses
best_not_both k f best (Some row) gaps (because.NoRow proved) passes refuses other = refuses
best_not_both k f best (Some row) gaps because.NotArrangement passes refuses other = refuses passes.arranges
best_not_both k f best (Some row) gaps (because.Gaps said counted) passes (arranges, is_said, is_counted, differ) other = differ (is_said ∙ passes.counted ∙ sym is_counted)
best_not_both k f best (Some row) gaps (because.NotLeast proved said) passes (arranges, counted, is_proved, is_said, more) other = absurd (omega (arith, passes.least, is_proved, is_said, more))
best_not_both k f best (Some row) gaps because.NoMemory passes refuses other = other refl

-- the columns of the row that is listed arrange the fingers, with the gaps that are said
pub listed_so : (k : Kinds) (f : Fingers) (best gaps : ℕ) (row : List Column) (listed : Option Best) → BestPasses k f best listed gaps → MatchOption listed (row ≡ []) (λ b. row ≡ columns_listed k b.steps) → Lists k listed (λ columns. columns ≡ row) × IsArrangement row f × (gaps ≡ gaps_of row)
listed_so k f best gaps row None passes is = absurd passes
listed_so k f best gaps row (Some b) passes is =
    (sym is, subst (λ (columns : List Column). IsArrangement columns f) (sym is) passes.arranges.arranges, passes.said ∙ passes.counted ∙ ap gaps_of (sym is))

some_lemma : Kinds → Lemma
some_lemma k = record { state = start_of k; bound = 0; rule = by.P }

pub not_both : (value : Row → State → Kinds → ℕ) (k : Kinds) (f : Fingers) (log : Log) (gaps : ℕ) (cause : Refused) → IsAccepted value k f log gaps → Refuses value k f log cause → cause ≢ because.NoMemory → ⊥
not_both value k f log gaps (because.Unproved line) accepted (at, first, is_line) other = first.unproved (some_lemma k) (accepted.justified at (some_lemma k) first.within)
not_both value k f log gaps (because.NoRow proved) accepted (justified, refuses) other = best_not_both k f (best_of (start_of k) log.lemmas) log.best gaps (because.NoRow proved) accepted.passes refuses other
not_both value k f log gaps because.NotArrangement accepted (justified, refuses) other = best_not_both k f (best_of (start_of k) log.lemmas) log.best gaps because.NotArrangement accepted.passes refuses other
not_both value k f log gaps (because.Gaps said counted) accepted (justified, refuses) other = best_not_both k f (best_of (start_of k) log.lemmas) log.best gaps (because.Gaps said counted) accepted.passes refuses other
not_both value k f log gaps (because.NotLeast proved said) accepted (justified, refuses) other = best_not_both k f (best_of (start_of k) log.lemmas) log.best gaps (because.NotLeast proved said) accepted.passes refuses other
not_both value k f log gaps because.NoMemory accepted refuses other = other refl
