-- What a check of some bytes comes to, from what the reader and the checker of logs answered.
use Rattle.std.proofs.Common.{ℕ, ◌≡◌, ◌≢◌, ◌≤◌, List, [], Some, Result, Ok, Err, length, refl, sym, subst, arith, IfOk}
use Rattle.std.specs.Prelude.{MatchOption}
use Rattle.row_model.specs.declared.column.Column.{Column}
use Rattle.row_model.specs.Arrangement.{IsArrangement}
use Rattle.row_model.specs.Gaps.{gaps_of}
use Rattle.row_state.specs.declared.kind.Kinds.{Kinds}
use Rattle.row_state.specs.Versions.{value_of}
use Rattle.row_state.specs.Start.{AreKinds, AreSomeKinds, start_of}
use Rattle.bound_log.specs.declared.log.Log.{Log}
use Rattle.bound_log.specs.declared.fault.LogFault.{LogFault}
use Rattle.bound_log.specs.declared.fault.LogFault.TheVariants as misread_by
use Rattle.bound_log.specs.Fits.{Fits}
use Rattle.bound_log.specs.Reading.{log_of}
use Rattle.bound_log.specs.Text.{log_text}
use Rattle.lemma_check.specs.Reaches.{best_of}
use Rattle.log_check.specs.declared.refused.Refused.{Refused}
use Rattle.log_check.specs.declared.refused.Refused.TheVariants as because
use Rattle.log_check.specs.Accepted.{IsAccepted, WithKinds, columns_listed}
use Rattle.log_check.specs.Refusal.{Refuses}
use Rattle.log_check.proofs.SameKinds.{for_kinds}
use Rattle.cell_num.specs.declared.list.NoMemory.{NoMemory}
use Rattle.cell_commands.specs.declared.verdict.CheckAnswer.{CheckAnswer}
use Rattle.cell_commands.specs.declared.verdict.CheckAnswer.TheVariants.{Accepted, Misread, Rejected}
use Rattle.call_end.specs.declared.end.End.{End}
use Rattle.call_end.specs.declared.status.Status.TheVariants as status
use Rattle.cell_commands.specs.Check.{Checks, ChecksTo, IsListed, IsTextOfAccepted, misread_answer, rejected_answer}
use Rattle.cell_inputs.specs.Inputs.{Inputs}
use Rattle.cell_commands.proofs.Accepted.{listed_so, not_both}

-- the row that the log lists, by kinds of the fingers
listed : (inputs : Inputs) (bytes : List ℕ) (k : Kinds) (log : Log) (row : List Column) (gaps : ℕ) → AreKinds inputs.fingers k → AreSomeKinds k → Fits k log → bytes ≡ log_text inputs.cell.name log → IsAccepted (value_of log.version) k inputs.fingers log gaps → ((other : List Column) → IsArrangement other inputs.fingers → gaps ≤ gaps_of other) → MatchOption log.best (row ≡ []) (λ best. row ≡ columns_listed k best.steps) → IsListed inputs bytes row log
listed inputs bytes k log row gaps of_k some_k fits text accepts least is =
    let (lists, arranges, same) = listed_so k inputs.fingers (best_of (start_of k) log.lemmas) gaps row log.best accepts.passes is in
    record {
      arranges = arranges;
      least = λ other arranged. omega (arith, least other arranged, same);
      listed = (k, of_k, some_k, record { fits = fits; text = text; accepted = subst (IsAccepted (value_of log.version) k inputs.fingers log) same accepts; lists = lists });
    }

pub accepted : (inputs : Inputs) (bytes : List ℕ) (k : Kinds) (log : Log) (row : List Column) (gaps lemmas : ℕ) → AreKinds inputs.fingers k → AreSomeKinds k → Fits k log → bytes ≡ log_text inputs.cell.name log → WithKinds inputs.fingers (λ j. IsAccepted (value_of log.version) j inputs.fingers log gaps) → ((other : List Column) → IsArrangement other inputs.fingers → gaps ≤ gaps_of other) → lemmas ≡ length log.lemmas → MatchOption log.best (row ≡ []) (λ best. row ≡ columns_listed k best.steps) → Checks inputs bytes (Accepted row gaps lemmas)
accepted inputs bytes k log row gaps lemmas of_k some_k fits text (j, of_j, some_j, holds) least many is =
    let accepts : IsAccepted (value_of log.version) k inputs.fingers log gaps = for_kinds inputs.fingers j (λ kinds. IsAccepted (value_of log.version) kinds inputs.fingers log gaps) of_j some_j holds k of_k some_k in
    (least, (k, of_k, some_k, (log, fits, text, accepts, many)), (log, listed inputs bytes k log row gaps of_k some_k fits text accepts least is, many))

misread : (inputs : Inputs) (bytes : List ℕ) (k : Kinds) (f : LogFault) → AreKinds inputs.fingers k → AreSomeKinds k → f ≢ misread_by.NoMemory → log_of bytes inputs.cell.name k ≡ Err f → ((log : Log) → Fits k log → log_text inputs.cell.name log ≢ bytes) → Checks inputs bytes (Misread f)
misread inputs bytes k f of_k some_k other wrong none =
    (other, (k, of_k, some_k, wrong), λ gaps lemmas (j, of_j, some_j, (log, fits, text, accepts, many)). none log (for_kinds inputs.fingers j (λ kinds. Fits kinds log) of_j some_j fits k of_k some_k) (sym text))

rejected : (inputs : Inputs) (bytes : List ℕ) (k : Kinds) (log : Log) (f : Refused) → AreKinds inputs.fingers k → AreSomeKinds k → f ≢ because.NoMemory → log_of bytes inputs.cell.name k ≡ Ok log → ((other : Log) → log_text inputs.cell.name other ≡ bytes → other ≡ log) → WithKinds inputs.fingers (λ j. Refuses (value_of log.version) j inputs.fingers log f) → Checks inputs bytes (Rejected f)
rejected inputs bytes k log f of_k some_k other is_log one (j, of_j, some_j, refuses) =
    let refused : Refuses (value_of log.version) k inputs.fingers log f = for_kinds inputs.fingers j (λ kinds. Refuses (value_of log.version) kinds inputs.fingers log f) of_j some_j refuses k of_k some_k in (
      other,
      (k, of_k, some_k, (log, is_log, refused)),
      λ gaps lemmas (i, of_i, some_i, (found, fits, text, accepts, many)).
          let same : found ≡ log = one found (sym text) in
          let passed : IsAccepted (value_of found.version) k inputs.fingers found gaps = for_kinds inputs.fingers i (λ kinds. IsAccepted (value_of found.version) kinds inputs.fingers found gaps) of_i some_i accepts k of_k some_k in
          not_both (value_of log.version) k inputs.fingers log gaps f (subst (λ (x : Log). IsAccepted (value_of x.version) k inputs.fingers x gaps) same passed) refused other,
    )

misread_so : (inputs : Inputs) (bytes : List ℕ) (f : LogFault) (answer : CheckAnswer) → (f ≢ misread_by.NoMemory → Checks inputs bytes (Misread f)) → Some answer ≡ misread_answer f → Checks inputs bytes answer
misread_so inputs bytes misread_by.NoMemory answer checks is = cc
misread_so inputs bytes misread_by.Version answer checks is =
    let same : Misread misread_by.Version ≡ answer = cc in
    subst (Checks inputs bytes) same (checks (λ e. cc))
misread_so inputs bytes misread_by.Cell answer checks is =
    let same : Misread misread_by.Cell ≡ answer = cc in
    subst (Checks inputs bytes) same (checks (λ e. cc))
misread_so inputs bytes (misread_by.Line line) answer checks is =
    let same : Misread (misread_by.Line line) ≡ answer = cc in
    subst (Checks inputs bytes) same (checks (λ e. cc))
misread_so inputs bytes misread_by.Cut answer checks is =
    let same : Misread misread_by.Cut ≡ answer = cc in
    subst (Checks inputs bytes) same (checks (λ e. cc))

rejected_so : (inputs : Inputs) (bytes : List ℕ) (f : Refused) (answer : CheckAnswer) → (f ≢ because.NoMemory → Checks inputs bytes (Rejected f)) → Some answer ≡ rejected_answer f → Checks inputs bytes answer
rejected_so inputs bytes because.NoMemory answer checks is = cc
rejected_so inputs bytes (because.Unproved line) answer checks is =
    let same : Rejected (because.Unproved line) ≡ answer = cc in
    subst (Checks inputs bytes) same (checks (λ e. cc))
rejected_so inputs bytes (because.NoRow best) answer checks is =
    let same : Rejected (because.NoRow best) ≡ answer = cc in
    subst (Checks inputs bytes) same (checks (λ e. cc))
rejected_so inputs bytes because.NotArrangement answer checks is =
    let same : Rejected because.NotArrangement ≡ answer = cc in
    subst (Checks inputs bytes) same (checks (λ e. cc))
rejected_so inputs bytes (because.Gaps said counted) answer checks is =
    let same : Rejected (because.Gaps said counted) ≡ answer = cc in
    subst (Checks inputs bytes) same (checks (λ e. cc))
rejected_so inputs bytes (because.NotLeast best said) answer checks is =
    let same : Rejected (because.NotLeast best said) ≡ answer = cc in
    subst (Checks inputs bytes) same (checks (λ e. cc))

pub misread_checks : (inputs : Inputs) (bytes : List ℕ) (k : Kinds) (f : LogFault) (r : Result CheckAnswer NoMemory) → AreKinds inputs.fingers k → AreSomeKinds k → (f ≢ misread_by.NoMemory → log_of bytes inputs.cell.name k ≡ Err f) → (f ≢ misread_by.NoMemory → (log : Log) → Fits k log → log_text inputs.cell.name log ≢ bytes) → IfOk r (λ answer. Some answer ≡ misread_answer f) → IfOk r (Checks inputs bytes)
misread_checks inputs bytes k f (Ok answer) of_k some_k wrong none is = misread_so inputs bytes f answer (λ other. misread inputs bytes k f of_k some_k other (wrong other) (none other)) is
misread_checks inputs bytes k f (Err e) of_k some_k wrong none is = tt

pub rejected_checks : (inputs : Inputs) (bytes : List ℕ) (k : Kinds) (log : Log) (f : Refused) (r : Result CheckAnswer NoMemory) → AreKinds inputs.fingers k → AreSomeKinds k → log_of bytes inputs.cell.name k ≡ Ok log → ((other : Log) → log_text inputs.cell.name other ≡ bytes → other ≡ log) → (f ≢ because.NoMemory → WithKinds inputs.fingers (λ j. Refuses (value_of log.version) j inputs.fingers log f)) → IfOk r (λ answer. Some answer ≡ rejected_answer f) → IfOk r (Checks inputs bytes)
rejected_checks inputs bytes k log f (Ok answer) of_k some_k is_log one refuses is = rejected_so inputs bytes f answer (λ other. rejected inputs bytes k log f of_k some_k other is_log one (refuses other)) is
rejected_checks inputs bytes k log f (Err e) of_k some_k is_log one refuses is = tt

-- ---- the status

pub done_holds : (inputs : Inputs) (bytes : List ℕ) (end : End) → ChecksTo inputs bytes end → end.status ≡ status.Done → (gaps : ℕ) × (lemmas : ℕ) × IsTextOfAccepted inputs bytes gaps lemmas
done_holds inputs bytes end (Accepted row gaps lemmas, (least, text, lists), is) done = (gaps, lemmas, text)
done_holds inputs bytes end (Misread f, h, is) done = cc
done_holds inputs bytes end (Rejected f, h, is) done = cc

pub holds_done : (inputs : Inputs) (bytes : List ℕ) (end : End) (gaps lemmas : ℕ) → IsTextOfAccepted inputs bytes gaps lemmas → ChecksTo inputs bytes end → end.status ≡ status.Done
holds_done inputs bytes end gaps lemmas text (Accepted row g n, h, is) = rw is refl
holds_done inputs bytes end gaps lemmas text (Misread f, (other, wrong, none), is) = absurd (none gaps lemmas text)
holds_done inputs bytes end gaps lemmas text (Rejected f, (other, wrong, none), is) = absurd (none gaps lemmas text)
