-- The bound that a checker uses is that of the version of each log that it has seen.
use Rattle.std.proofs.Common.{ℕ, ◌≡◌, sym, subst, ◌∙◌}
use Rattle.cell_num.specs.declared.finger.Row.{Row}
use Rattle.row_state.specs.declared.kind.Kinds.{Kinds}
use Rattle.row_state.specs.declared.log_bound.LogBound.{LogBound}
use Rattle.row_state.specs.declared.state.State.{State}
use Rattle.row_state.specs.LogBounds.{log_version}
use Rattle.row_state.specs.Versions.{IsVersion, value_of}
use Rattle.row_state.specs.Start.{IsState}
use Rattle.bound_log.specs.declared.item.LogItem.{LogItem}
use Rattle.bound_log.specs.declared.item.LogItem.TheVariants as item
use Rattle.bound_log.specs.declared.log.Lemma.{Lemma}
use Rattle.bound_log.specs.declared.log.Log.{Log}
use Rattle.bound_log.specs.Fits.{LemmaFits}
use Rattle.bound_log.specs.Pieces.{ItemFits}
use Rattle.cell_num.specs.declared.finger.Fingers.{Fingers}
use Rattle.log_check.specs.Accepted.{WithKinds}
use Rattle.log_check.specs.Items.{Checked, ForSeen, HasSeen}
use Rattle.cell_commands.specs.LogRead.{ForSeenLog, HasSeenLog}

-- so is what it says of them
pub by_version : (c : Checked) (bound : LogBound) (Says : (Row → State → Kinds → ℕ) → Log → Type 0) → c.version ≡ log_version bound → ForSeen (value_of (log_version bound)) c (Says (value_of (log_version bound))) → ForSeenLog c (λ log. Says (value_of log.version) log)
by_version c bound Says same says log seen =
    let version : log_version bound ≡ log.version = sym same ∙ seen.version in
    subst (λ (n : ℕ). Says (value_of n) log) version (says log (subst (λ (n : ℕ). HasSeen (value_of n) c log) (sym version) seen))

-- and what it has seen after one item more
pub seen_by_version : (c d : Checked) (bound : LogBound) (more : Log → Log) → c.version ≡ log_version bound → ((log : Log) → (more log).version ≡ log.version) → ForSeen (value_of (log_version bound)) c (λ log. HasSeen (value_of (log_version bound)) d (more log)) → (log : Log) → HasSeenLog c log → HasSeenLog d (more log)
seen_by_version c d bound more same keeps seen log has =
    let version : log_version bound ≡ log.version = sym same ∙ has.version in
    subst (λ (n : ℕ). HasSeen (value_of n) d (more log)) (version ∙ sym (keeps log)) (seen log (subst (λ (n : ℕ). HasSeen (value_of n) c log) (sym version) has))

-- a head that fits has a known version
pub head_known : (f : Fingers) (i : LogItem) (version : ℕ) → i ≡ item.Head version → WithKinds f (λ k. ItemFits k i) → IsVersion version
head_known f i version is (k, of_k, some_k, fits) = subst (ItemFits k) is fits

-- a lemma that fits is on a valid state
pub lemma_valid : (f : Fingers) (i : LogItem) (lemma : Lemma) → i ≡ item.Lemma lemma → WithKinds f (λ k. ItemFits k i) → WithKinds f (λ k. IsState k lemma.state)
lemma_valid f i lemma is (k, of_k, some_k, fits) =
    let here : LemmaFits k lemma = subst (ItemFits k) is fits in
    (k, of_k, some_k, here.state)
