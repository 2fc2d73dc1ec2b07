-- What reading and checking a log part by part comes to, from what its reader and its checker answered.
use Rattle.std.specs.Prelude.{MatchOption}
use Rattle.std.proofs.Common.{ℕ, ◌≡◌, ◌≤◌, List, [], Option, Some, None, Result, Ok, Err, IfOk, refl, sym, ap, subst, arith, ◌∙◌}
use Rattle.cell_num.specs.declared.finger.Fingers.{Fingers}
use Rattle.cell_num.specs.declared.list.NoMemory.{NoMemory}
use Rattle.row_model.specs.declared.column.Column.{Column}
use Rattle.row_model.specs.Arrangement.{IsArrangement}
use Rattle.row_model.specs.Gaps.{gaps_of}
use Rattle.row_state.specs.declared.kind.Kinds.{Kinds}
use Rattle.row_state.specs.Versions.{value_of}
use Rattle.row_state.specs.Start.{AreKinds, AreSomeKinds}
use Rattle.bound_log.specs.declared.fault.LogFault.{LogFault}
use Rattle.bound_log.specs.declared.fault.LogFault.TheVariants as fault
use Rattle.bound_log.specs.declared.item.LogPlace.{LogPlace}
use Rattle.bound_log.specs.declared.item.LogPlace.TheVariants as place
use Rattle.bound_log.specs.declared.log.Best.{Best}
use Rattle.bound_log.specs.declared.log.Log.{Log}
use Rattle.bound_log.specs.Pieces.{Reader, begun, ended, log_told, tale_of}
use Rattle.bound_log.specs.Fits.{Fits}
use Rattle.bound_log.specs.Reading.{log_of}
use Rattle.bound_log.proofs.Injective.{read_one}
use Rattle.bound_log.proofs.Only as only
use Rattle.bound_log.proofs.Pieces as pieces
use Rattle.bound_log.proofs.Whole as whole
use Rattle.log_check.specs.declared.refused.Refused.{Refused}
use Rattle.log_check.specs.declared.refused.Refused.TheVariants as because
use Rattle.log_check.specs.Accepted.{IsAccepted, WithKinds, columns_listed}
use Rattle.log_check.proofs.SameKinds.{for_kinds}
use Rattle.log_check.specs.Items.{Checked}
use Rattle.log_check.specs.Refusal.{Refuses}
use Rattle.cell_commands.specs.declared.verdict.CheckAnswer.{CheckAnswer}
use Rattle.cell_commands.specs.declared.verdict.CheckAnswer.TheVariants.{Accepted}
use Rattle.call_end.specs.declared.end.End.{End}
use Rattle.cell_commands.specs.Check.{Checks, ChecksTo, check_end, misread_answer, rejected_answer}
use Rattle.cell_inputs.specs.Inputs.{AreInputs, Inputs}
use Rattle.cell_inputs.proofs.Names.{log_name}
use Rattle.cell_commands.specs.LogRead.{AreBegun, AreBehind, AreBehindAll, ForSeenLog, HasSeenLog, HaveRoom, IsBehindAll, no_log, with_items}
use Rattle.cell_commands.proofs.Checked.{accepted, misread_checks, rejected_checks}
use Rattle.cell_commands.proofs.LogItems.{log_again}

-- ---- all lines

pub room_begun : (inputs : Inputs) (r : Reader) (c : Checked) → AreBegun inputs r c → (count : ℕ) → count ≤ 536870912 → HaveRoom r c count
room_begun inputs r c start count few = by_kinds start.log
  where
    by_kinds : WithKinds inputs.fingers (λ k. (r ≡ begun inputs.cell.name k) × HasSeenLog c no_log) → HaveRoom r c count
    by_kinds (k, of_k, some_k, (is, seen)) =
        let same : r.kinds ≡ k = ap (λ (q : Reader). q.kinds) is in
        record {
          kinds = subst (λ (f : Fingers). AreKinds f r.kinds) (sym start.fingers) (subst (AreKinds inputs.fingers) (sym same) of_k);
          some = subst AreSomeKinds (sym same) some_k;
          lines = omega (arith, ap (λ (q : Reader). q.number) is, few);
          lemmas = omega (arith, start.lemmas, few);
        }

pub behind_all : (inputs : Inputs) (bytes : List ℕ) (r s : Reader) (c d : Checked) → AreBegun inputs r c → AreBehind r c bytes s d → AreBehindAll inputs bytes s d
behind_all inputs bytes r s c d start behind = record { log = by_kinds start.log; fingers = behind.fingers ∙ start.fingers }
  where
    by_kinds : WithKinds inputs.fingers (λ k. (r ≡ begun inputs.cell.name k) × HasSeenLog c no_log) → WithKinds inputs.fingers (IsBehindAll inputs bytes s d)
    by_kinds (k, of_k, some_k, (is, seen)) = (
      k,
      of_k,
      some_k,
      (
        behind.reader ∙ ap (λ (q : Reader). (tale_of q bytes).reader) is,
        λ sound. subst (λ (q : Reader). HasSeenLog d (with_items no_log (tale_of q bytes).items)) is (behind.seen sound no_log seen),
      ),
    )

pub begun_for : (inputs : Inputs) (k : Kinds) (r : Reader) (c : Checked) → AreKinds inputs.fingers k → AreSomeKinds k → r ≡ begun inputs.cell.name k → HasSeenLog c no_log → c.fingers ≡ inputs.fingers → c.lemmas ≡ 0 → AreBegun inputs r c
begun_for inputs k r c of_k some_k is seen fingers lemmas = record { log = (k, of_k, some_k, (is, seen)); fingers = fingers; lemmas = lemmas }

-- ---- the end of the text

ended_err : {A B : Type 0} (o : Option LogFault) (p : LogPlace) (a : A) (b : B) (f : LogFault) → ended o p a ≡ Err f → ended o p b ≡ Err f
ended_err {A} {B} (Some g) p a b f e =
    let same : g ≡ f = cc in
    ap (λ (x : LogFault). Err x) same
ended_err None place.Behind a b f e = absurd cc
ended_err None place.Version a b f e =
    let same : fault.Cut ≡ f = cc in
    ap (λ (x : LogFault). Err x) same
ended_err None (place.Cell version) a b f e =
    let same : fault.Cut ≡ f = cc in
    ap (λ (x : LogFault). Err x) same
ended_err None place.Lemmas a b f e =
    let same : fault.Cut ≡ f = cc in
    ap (λ (x : LogFault). Err x) same
ended_err None place.Columns a b f e =
    let same : fault.Cut ≡ f = cc in
    ap (λ (x : LogFault). Err x) same
ended_err None place.End a b f e =
    let same : fault.Cut ≡ f = cc in
    ap (λ (x : LogFault). Err x) same

ended_ok : {A B : Type 0} (o : Option LogFault) (p : LogPlace) (a : A) (b : B) → ended o p a ≡ Ok a → (o ≡ None) × (ended o p b ≡ Ok b)
ended_ok (Some g) p a b e = absurd cc
ended_ok None place.Behind a b e = (refl, refl)
ended_ok None place.Version a b e = absurd cc
ended_ok None (place.Cell version) a b e = absurd cc
ended_ok None place.Lemmas a b e = absurd cc
ended_ok None place.Columns a b e = absurd cc
ended_ok None place.End a b e = absurd cc

abbrev pub unit : Unit {0}
unit = tt

-- the log of the bytes is what the reader's items tell, or its fault
text_is : (inputs : Inputs) (bytes : List ℕ) (k : Kinds) (r : Reader) → AreInputs inputs → AreSomeKinds k → r ≡ (tale_of (begun inputs.cell.name k) bytes).reader → log_of bytes inputs.cell.name k ≡ ended r.fault r.place (log_told (tale_of (begun inputs.cell.name k) bytes).items)
text_is inputs bytes k r are some_k is =
    pieces.read_whole inputs.cell.name k bytes (log_name inputs.cell.name are.cell) some_k
    ∙ ap (λ (q : Reader). ended q.fault q.place (log_told (tale_of (begun inputs.cell.name k) bytes).items)) (sym is)

-- so it is of all bytes that may have come
abbrev pub OfAll : Inputs → Reader → Checked → (List ℕ → Type 0) → Type 0
OfAll inputs r c Says = (bytes : List ℕ) → AreBehindAll inputs bytes r c → Says bytes

misread_one : (inputs : Inputs) (r : Reader) (c : Checked) (f : LogFault) (result : Result CheckAnswer NoMemory) (bytes : List ℕ) → AreInputs inputs → ended r.fault r.place unit ≡ Err f → IfOk result (λ answer. Some answer ≡ misread_answer f) → AreBehindAll inputs bytes r c → IfOk result (Checks inputs bytes)
misread_one inputs r c f result bytes are told is behind = by_kinds behind.log
  where
    by_kinds : WithKinds inputs.fingers (IsBehindAll inputs bytes r c) → IfOk result (Checks inputs bytes)
    by_kinds (k, of_k, some_k, (at, seen)) =
        let wrong : log_of bytes inputs.cell.name k ≡ Err f = text_is inputs bytes k r are some_k at ∙ ended_err r.fault r.place unit (log_told (tale_of (begun inputs.cell.name k) bytes).items) f told in
        misread_checks inputs bytes k f result of_k some_k (λ other. wrong) (λ other log fits. whole.refused bytes inputs.cell.name k f log (log_name inputs.cell.name are.cell) some_k wrong fits) is

each_answer : (result : Result CheckAnswer NoMemory) (Says : List ℕ → CheckAnswer → Type 0) (May : List ℕ → Type 0) → ((bytes : List ℕ) → May bytes → IfOk result (Says bytes)) → IfOk result (λ answer. (bytes : List ℕ) → May bytes → Says bytes answer)
each_answer (Ok answer) Says May each = each
each_answer (Err e) Says May each = tt

pub misread_all : (inputs : Inputs) (r : Reader) (c : Checked) (f : LogFault) (result : Result CheckAnswer NoMemory) → AreInputs inputs → ended r.fault r.place unit ≡ Err f → IfOk result (λ answer. Some answer ≡ misread_answer f) → IfOk result (λ answer. OfAll inputs r c (λ bytes. Checks inputs bytes answer))
misread_all inputs r c f result are told is = each_answer result (Checks inputs) (λ bytes. AreBehindAll inputs bytes r c) (λ bytes behind. misread_one inputs r c f result bytes are told is behind)

-- where the text has no fault, the checker has seen its log
abbrev pub IsLogSeen : Inputs → List ℕ → Kinds → Checked → Log → Type 0
IsLogSeen inputs bytes k c log = (log_of bytes inputs.cell.name k ≡ Ok log) × HasSeenLog c log

log_seen : (inputs : Inputs) (bytes : List ℕ) (r : Reader) (c : Checked) → AreInputs inputs → ended r.fault r.place unit ≡ Ok unit → AreBehindAll inputs bytes r c → WithKinds inputs.fingers (λ k. (log : Log) × IsLogSeen inputs bytes k c log)
log_seen inputs bytes r c are is_told behind = by_kinds behind.log
  where
    by_kinds : WithKinds inputs.fingers (IsBehindAll inputs bytes r c) → WithKinds inputs.fingers (λ k. (log : Log) × IsLogSeen inputs bytes k c log)
    by_kinds (k, of_k, some_k, (at, seen)) =
        let log = log_told (tale_of (begun inputs.cell.name k) bytes).items in
        let sound : (r.fault ≡ None) × (ended r.fault r.place log ≡ Ok log) = ended_ok r.fault r.place unit log is_told in
        let is_log : log_of bytes inputs.cell.name k ≡ Ok log = text_is inputs bytes k r are some_k at ∙ sound.1 in
        let fits : Fits k log = (only.read_only bytes inputs.cell.name k log some_k is_log).0 in (
          k,
          of_k,
          some_k,
          (log, (is_log, subst (λ (l : Log). HasSeenLog c l) (log_again (begun inputs.cell.name k) bytes fits.version) (seen sound.0))),
        )

pub accepted_all : (inputs : Inputs) (r : Reader) (c : Checked) (j : Kinds) (row : List Column) (gaps lemmas : ℕ) → AreInputs inputs → ended r.fault r.place unit ≡ Ok unit → AreKinds inputs.fingers j → AreSomeKinds j → MatchOption c.row (row ≡ []) (λ best. row ≡ columns_listed j best.steps) → ForSeenLog c (λ log. WithKinds c.fingers (λ i. IsAccepted (value_of log.version) i c.fingers log gaps)) → ForSeenLog c (λ log. (other : List Column) → IsArrangement other c.fingers → gaps ≤ gaps_of other) → lemmas ≡ c.lemmas → OfAll inputs r c (λ bytes. Checks inputs bytes (Accepted row gaps lemmas))
accepted_all inputs r c j row gaps lemmas are told of_j some_j lists accepts least count bytes behind = by_kinds (log_seen inputs bytes r c are told behind)
  where
    by_kinds : WithKinds inputs.fingers (λ k. (log : Log) × IsLogSeen inputs bytes k c log) → Checks inputs bytes (Accepted row gaps lemmas)
    by_kinds (k, of_k, some_k, (log, (is_log, seen))) =
        let read = only.read_only bytes inputs.cell.name k log some_k is_log in
        let fits : Fits j log = for_kinds inputs.fingers k (λ kinds. Fits kinds log) of_k some_k read.0 j of_j some_j in
        accepted inputs bytes j log row gaps lemmas of_j some_j fits read.1
        (subst (λ (f : Fingers). WithKinds f (λ j. IsAccepted (value_of log.version) j f log gaps)) behind.fingers (accepts log seen))
        (subst (λ (f : Fingers). (other : List Column) → IsArrangement other f → gaps ≤ gaps_of other) behind.fingers (least log seen))
        (count ∙ seen.counted)
        (subst (λ (listed : Option Best). MatchOption listed (row ≡ []) (λ best. row ≡ columns_listed j best.steps)) seen.row lists)

rejected_one : (inputs : Inputs) (r : Reader) (c : Checked) (f : Refused) (result : Result CheckAnswer NoMemory) (bytes : List ℕ) → AreInputs inputs → ended r.fault r.place unit ≡ Ok unit → ((f ≡ because.NoMemory → ⊥) → ForSeenLog c (λ log. WithKinds c.fingers (λ j. Refuses (value_of log.version) j c.fingers log f))) → IfOk result (λ answer. Some answer ≡ rejected_answer f) → AreBehindAll inputs bytes r c → IfOk result (Checks inputs bytes)
rejected_one inputs r c f result bytes are told refuses is behind = by_kinds (log_seen inputs bytes r c are told behind)
  where
    by_kinds : WithKinds inputs.fingers (λ k. (log : Log) × IsLogSeen inputs bytes k c log) → IfOk result (Checks inputs bytes)
    by_kinds (k, of_k, some_k, (log, (is_log, seen))) =
        rejected_checks inputs bytes k log f result of_k some_k is_log
        (λ other same. read_one bytes inputs.cell.name k log other some_k is_log same)
        (λ other. subst (λ (g : Fingers). WithKinds g (λ j. Refuses (value_of log.version) j g log f)) behind.fingers (refuses other log seen))
        is

pub rejected_all : (inputs : Inputs) (r : Reader) (c : Checked) (f : Refused) (result : Result CheckAnswer NoMemory) → AreInputs inputs → ended r.fault r.place unit ≡ Ok unit → ((f ≡ because.NoMemory → ⊥) → ForSeenLog c (λ log. WithKinds c.fingers (λ j. Refuses (value_of log.version) j c.fingers log f))) → IfOk result (λ answer. Some answer ≡ rejected_answer f) → IfOk result (λ answer. OfAll inputs r c (λ bytes. Checks inputs bytes answer))
rejected_all inputs r c f result are told refuses is = each_answer result (Checks inputs) (λ bytes. AreBehindAll inputs bytes r c) (λ bytes behind. rejected_one inputs r c f result bytes are told refuses is behind)

pub ends_all : (inputs : Inputs) (r : Reader) (c : Checked) (answer : CheckAnswer) (result : Result End NoMemory) → OfAll inputs r c (λ bytes. Checks inputs bytes answer) → IfOk result (λ end. end ≡ check_end inputs answer) → IfOk result (λ end. OfAll inputs r c (λ bytes. ChecksTo inputs bytes end))
ends_all inputs r c answer (Err e) checks is = tt
ends_all inputs r c answer (Ok end) checks is = λ bytes behind. (answer, checks bytes behind, is)
