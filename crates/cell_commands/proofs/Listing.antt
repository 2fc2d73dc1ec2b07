-- Logs and certificates of one row that list another.
use Rattle.std.proofs.Common.{ℕ, ◌≡◌, ◌≤◌, List, Option, Some, None, sym, ap, subst, ◌∙◌}
use Rattle.cell_num.specs.declared.finger.Fingers.{Fingers}
use Rattle.cell_num.specs.declared.finger.Row.{Row}
use Rattle.row_model.specs.declared.column.Column.{Column}
use Rattle.row_model.specs.Arrangement.{IsArrangement}
use Rattle.row_model.specs.Gaps.{gaps_of}
use Rattle.row_state.specs.declared.kind.Kinds.{Kinds}
use Rattle.row_state.specs.declared.state.State.{State}
use Rattle.row_state.specs.Start.{AreKinds, AreSomeKinds, start_of}
use Rattle.row_state.proofs.SameKinds.{same_kinds}
use Rattle.bound_log.specs.declared.log.Best.{Best}
use Rattle.bound_log.specs.declared.log.Log.{Log}
use Rattle.bound_log.specs.Fits.{Fits}
use Rattle.lemma_check.specs.Reaches.{best_of}
use Rattle.log_check.specs.Accepted.{BestPasses, IsAccepted, Lists, RowPasses, WithKinds}
use Rattle.row_search.specs.Ended.{IsSolved}
use Rattle.trail_either.specs.declared.evidence.TrailEvidence.{TrailEvidence}
use Rattle.trail_either.specs.Accepted.{IsEitherAccepted}
use Rattle.trail_either.specs.Either.{EitherFits, best_in, either_listing}
use Rattle.trail_either.specs.Ended.{IsEitherCertified}
use Rattle.trail_either.proofs.Passes.{accepted_with, best_with, few_with, fits_with}
use Rattle.cell_commands.specs.Listed.{IsBestOf}
use Rattle.cell_commands.specs.Other.{log_listing}

-- the gaps that pass are at most those that the lemmas prove
passed_least : (k : Kinds) (f : Fingers) (proved : ℕ) (row : Option Best) (gaps : ℕ) → BestPasses k f proved row gaps → gaps ≤ proved
passed_least k f proved None gaps passes = absurd passes
passed_least k f proved (Some row) gaps passes = subst (λ n. n ≤ proved) (sym passes.said) passes.least

-- another row passes with as many
passes_too : (k : Kinds) (f : Fingers) (proved : ℕ) (row : Option Best) (gaps : ℕ) (other : List Column) (best : Best) → BestPasses k f proved row gaps → IsArrangement other f → gaps_of other ≡ gaps → IsBestOf k other best → RowPasses k f proved best gaps
passes_too k f proved row gaps other best passes arranges same is = record {
  arranges = record { listed = is.listed; arranges = subst (λ cs. IsArrangement cs f) (sym is.columns) arranges };
  said = sym (is.counted ∙ same);
  counted = is.counted ∙ ap gaps_of (sym is.columns);
  least = subst (λ n. n ≤ proved) (sym (is.counted ∙ same)) (passed_least k f proved row gaps passes);
}

pub accepted_too : (value : Row → State → Kinds → ℕ) (k : Kinds) (f : Fingers) (log : Log) (gaps : ℕ) (other : List Column) (best : Best) → IsAccepted value k f log gaps → IsArrangement other f → gaps_of other ≡ gaps → IsBestOf k other best → IsAccepted value k f (log_listing log best) gaps
accepted_too value k f log gaps other best accepted arranges same is = record {
  justified = accepted.justified;
  passes = passes_too k f (best_of (start_of k) log.lemmas) log.best gaps other best accepted.passes arranges same is;
}

pub lists_too : (k : Kinds) (log : Log) (other : List Column) (best : Best) → IsBestOf k other best → Lists k (log_listing log best).best (λ row. row ≡ other)
lists_too k log other best is = is.columns

pub fits_too : (k : Kinds) (log : Log) (other : List Column) (best : Best) → Fits k log → IsBestOf k other best → Fits k (log_listing log best)
fits_too k log other best fits is = record { version = fits.version; lemmas = fits.lemmas; best = is.fits }

-- for the kinds that the row is listed by
pub solved_by : (value : Row → State → Kinds → ℕ) (k : Kinds) (f : Fingers) (budget : ℕ) (log : Log) (row other : List Column) (best : Best) → IsSolved value k f budget row log → IsArrangement other f → gaps_of other ≡ gaps_of row → IsBestOf k other best → IsSolved value k f budget other (log_listing log best)
solved_by value k f budget log row other best solved arranges same is = record {
  accepted = subst (λ gaps. IsAccepted value k f (log_listing log best) gaps) (sym same) (accepted_too value k f log (gaps_of row) other best solved.accepted arranges same is);
  lists = is.columns;
  kept = solved.kept;
  searched = record {
    justified = solved.searched.justified;
    distinct = solved.searched.distinct;
    range = solved.searched.range;
    reached = solved.searched.reached;
    lean = solved.searched.lean;
    fits = fits_too k log other best solved.searched.fits is;
  };
}

pub solved_too : (value : Row → State → Kinds → ℕ) (k : Kinds) (f : Fingers) (budget : ℕ) (log : Log) (row other : List Column) (best : Best) → AreKinds f k → AreSomeKinds k → WithKinds f (λ j. IsSolved value j f budget row log) → IsArrangement other f → gaps_of other ≡ gaps_of row → IsBestOf k other best → WithKinds f (λ j. IsSolved value j f budget other (log_listing log best))
solved_too value k f budget log row other best kinds some (j, of_j, some_j, solved) arranges same is =
    let here : IsSolved value k f budget row log = subst (λ (m : Kinds). IsSolved value m f budget row log) (same_kinds f j k of_j some_j kinds some) solved in
    (k, kinds, some, solved_by value k f budget log row other best here arranges same is)

pub trails_accepted_too : (k : Kinds) (f : Fingers) (trails : TrailEvidence) (gaps : ℕ) (other : List Column) (best : Best) → AreKinds f k → AreSomeKinds k → IsEitherAccepted f trails gaps → IsArrangement other f → gaps_of other ≡ gaps → IsBestOf k other best → IsEitherAccepted f (either_listing trails best) gaps
trails_accepted_too k f trails gaps other best kinds some accepted arranges same is =
    accepted_with f k trails gaps best kinds some accepted (λ proved passes. passes_too k f proved (best_in trails) gaps other best passes arranges same is)

pub trails_list_too : (k : Kinds) (trails : TrailEvidence) (other : List Column) (best : Best) → IsBestOf k other best → Lists k (best_in (either_listing trails best)) (λ row. row ≡ other)
trails_list_too k trails other best is = subst (λ (listed : Option Best). Lists k listed (λ row. row ≡ other)) (sym (best_with trails best)) is.columns

pub trails_fit_too : (k : Kinds) (trails : TrailEvidence) (other : List Column) (best : Best) → EitherFits k trails → IsBestOf k other best → EitherFits k (either_listing trails best)
trails_fit_too k trails other best fits is = fits_with k trails best fits is.fits

pub certified_by : (k : Kinds) (f : Fingers) (trails : TrailEvidence) (row other : List Column) (best : Best) → AreKinds f k → AreSomeKinds k → IsEitherCertified k f row trails → IsArrangement other f → gaps_of other ≡ gaps_of row → IsBestOf k other best → IsEitherCertified k f other (either_listing trails best)
certified_by k f trails row other best kinds some certified arranges same is = record {
  accepted = subst (IsEitherAccepted f (either_listing trails best)) (sym same) (trails_accepted_too k f trails (gaps_of row) other best kinds some certified.accepted arranges same is);
  few_ways = few_with f trails best certified.few_ways;
  lists = trails_list_too k trails other best is;
  fits = trails_fit_too k trails other best certified.fits is;
}

pub certified_too : (k : Kinds) (f : Fingers) (trails : TrailEvidence) (row other : List Column) (best : Best) → AreKinds f k → AreSomeKinds k → WithKinds f (λ j. IsEitherCertified j f row trails) → IsArrangement other f → gaps_of other ≡ gaps_of row → IsBestOf k other best → WithKinds f (λ j. IsEitherCertified j f other (either_listing trails best))
certified_too k f trails row other best kinds some (j, of_j, some_j, certified) arranges same is =
    let here : IsEitherCertified k f row trails = subst (λ (m : Kinds). IsEitherCertified m f row trails) (same_kinds f j k of_j some_j kinds some) certified in
    (k, kinds, some, certified_by k f trails row other best kinds some here arranges same is)
