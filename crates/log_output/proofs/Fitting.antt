-- What the lines of a log ask for, one by one.
use Rattle.std.proofs.Common.{ℕ, ◌≡◌, ◌≤◌, List, Some, All, IfSome, slice_get}
use Rattle.cell_num.proofs.Lists.{all_at}
use Rattle.row_state.specs.Versions.{IsVersion}
use Rattle.bound_log.specs.declared.log.Best.{Best}
use Rattle.bound_log.specs.declared.log.Lemma.{Lemma}
use Rattle.bound_log.specs.declared.log.Log.{Log}
use Rattle.bound_log.specs.declared.log.LogStep.{LogStep}
use Rattle.bound_log.specs.Fits.{BestFits, Fits, ForSome, LemmaFits, StepFits}

pub lemma_fits : (kept : List Lemma) (at : ℕ) (lemma : Lemma) → ForSome (λ k. All (LemmaFits k) kept) → slice_get kept at ≡ Some lemma → ForSome (λ k. LemmaFits k lemma)
lemma_fits kept at lemma (k, kinds, fits) is = (k, kinds, all_at (LemmaFits k) kept at lemma fits is)

pub step_fits : (steps : List LogStep) (at : ℕ) (step : LogStep) → ForSome (λ k. All (StepFits k) steps) → slice_get steps at ≡ Some step → ForSome (λ k. StepFits k step)
step_fits steps at step (k, kinds, fits) is = (k, kinds, all_at (StepFits k) steps at step fits is)

pub few_gaps : (best : Best) → ForSome (λ k. BestFits k best) → best.gaps ≤ 63
few_gaps best (k, kinds, fits) = fits.few

pub steps_fit : (best : Best) → ForSome (λ k. BestFits k best) → ForSome (λ k. All (StepFits k) best.steps)
steps_fit best (k, kinds, fits) = (k, kinds, fits.steps)

pub version_fits : (log : Log) → ForSome (λ k. Fits k log) → IsVersion log.version
version_fits log (k, kinds, fits) = fits.version

pub lemmas_fit : (log : Log) → ForSome (λ k. Fits k log) → ForSome (λ k. All (LemmaFits k) log.lemmas)
lemmas_fit log (k, kinds, fits) = (k, kinds, fits.lemmas)

pub best_fits : (log : Log) → ForSome (λ k. Fits k log) → ForSome (λ k. IfSome log.best (BestFits k))
best_fits log (k, kinds, fits) = (k, kinds, fits.best)
