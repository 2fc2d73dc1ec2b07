-- What a file of evidence gives to draw, from what its check answered, and the end of its drawing.
use Rattle.std.proofs.Common.{ℕ, ◌≡◌, List, Result, Ok, Err, IfOk, ap, codes, inl, inr, subst, sym, ◌∙◌}
use Rattle.cell_num.specs.Lines.{count_line}
use Rattle.cell_num.specs.declared.list.NoMemory.{NoMemory}
use Rattle.row_model.specs.declared.column.Column.{Column}
use Rattle.row_model.specs.Arrangement.{IsArrangement}
use Rattle.bound_log.specs.Pieces.{Reader}
use Rattle.log_check.specs.Items.{Checked}
use Rattle.call_end.specs.declared.end.End.{End}
use Rattle.call_end.specs.declared.status.Status.TheVariants as status
use Rattle.call_words.specs.declared.evidence.Evidence.{Evidence}
use Rattle.call_words.specs.declared.evidence.Evidence.TheVariants.{Log, Trails}
use Rattle.cell_inputs.specs.declared.style.Style.{Style}
use Rattle.cell_inputs.specs.Inputs.{Inputs}
use Rattle.cell_commands.specs.declared.verdict.CheckAnswer.{CheckAnswer}
use Rattle.cell_commands.specs.declared.verdict.CheckAnswer.TheVariants.{Accepted}
use Rattle.cell_commands.specs.Check.{Checks, check_end}
use Rattle.cell_commands.proofs.LogReads.{OfAll}
use Rattle.cell_commands.specs.declared.trail_checking.TrailAnswer.{TrailAnswer}
use Rattle.cell_commands.specs.declared.trail_checking.TrailAnswer.TheVariants as trail
use Rattle.cell_commands.specs.TrailCheck as trails
use Rattle.trail_either.specs.Either.{lemma_count}
use Rattle.cell_commands.specs.Counts.{counts_text}
use Rattle.cell_commands.specs.declared.certificate.Certificate.{Certificate}
use Rattle.cell_commands.specs.declared.certificate.Certificate.TheVariants as held
use Rattle.cell_commands.specs.declared.given.Given.{Given}
use Rattle.cell_commands.specs.declared.given.Given.TheVariants.{Row, Refused}
use Rattle.cell_commands.specs.Given.{Arranges, IsGiven, IsGivenEnd, IsListedBy, IsRefusedBy, MakesFromTo}
use Rattle.cell_commands.specs.Make.{IsDrawnTo}
use Rattle.cell_commands.specs.RowEnd.{no_file}

-- ---- a log

pub logged_given : (inputs : Inputs) (reader : Reader) (checker : Checked) (answer : CheckAnswer) (row : List Column) (gaps lemmas : ℕ) (r : Result Given NoMemory) → answer ≡ Accepted row gaps lemmas → OfAll inputs reader checker (λ bytes. Checks inputs bytes answer) → IfOk r (λ given. IsArrangement row inputs.fingers → given ≡ Row row (count_line (codes "lemmas ") lemmas)) → IfOk r (λ given. OfAll inputs reader checker (λ bytes. IsGiven Log inputs bytes given))
logged_given inputs reader checker answer row gaps lemmas (Err e) is checks gives = tt
logged_given inputs reader checker answer row gaps lemmas (Ok given) is checks gives = λ bytes behind.
    let checked : Checks inputs bytes (Accepted row gaps lemmas) = subst (Checks inputs bytes) is (checks bytes behind) in
    let (log, listed, many) = checked.2 in
    subst (IsGiven Log inputs bytes) (sym (gives listed.arranges)) (held.Log log, listed, ap (λ n. count_line (codes "lemmas ") n) many)

pub log_refused : (inputs : Inputs) (reader : Reader) (checker : Checked) (answer told : CheckAnswer) (end : End) → answer ≡ told → OfAll inputs reader checker (λ bytes. Checks inputs bytes answer) → (check_end inputs told).status ≡ status.Rejected → end ≡ check_end inputs told → OfAll inputs reader checker (λ bytes. IsGiven Log inputs bytes (Refused end))
log_refused inputs reader checker answer told end same checks rejected is = λ bytes behind.
    ((told, subst (Checks inputs bytes) same (checks bytes behind), is), ap (λ (e : End). e.status) is ∙ rejected)

-- ---- a certificate by trails

pub certified_given : (inputs : Inputs) (bytes : List ℕ) (answer : TrailAnswer) (row : List Column) (gaps lemmas filled : ℕ) (counts : List ℕ) → answer ≡ trail.Accepted row gaps lemmas filled → trails.Checks inputs bytes answer → counts ≡ counts_text lemmas filled → IsGiven Trails inputs bytes (Row row counts)
certified_given inputs bytes answer row gaps lemmas filled counts is checks counted =
    let checked : trails.Checks inputs bytes (trail.Accepted row gaps lemmas filled) = subst (trails.Checks inputs bytes) is checks in
    let (found, listed, many, full) = checked.2 in
    (held.Trails found, listed, counted ∙ ap (λ n. counts_text n filled) many ∙ ap (λ n. counts_text (lemma_count found) n) full)

pub trails_refused : (inputs : Inputs) (bytes : List ℕ) (answer told : TrailAnswer) (end : End) → answer ≡ told → trails.Checks inputs bytes answer → (trails.check_end inputs told).status ≡ status.Rejected → end ≡ trails.check_end inputs told → IsGiven Trails inputs bytes (Refused end)
trails_refused inputs bytes answer told end same checks rejected is =
    ((told, subst (trails.Checks inputs bytes) same checks, is), ap (λ (e : End). e.status) is ∙ rejected)

-- ---- the end

listed_arranges : (evidence : Evidence) (inputs : Inputs) (bytes : List ℕ) (row : List Column) (certificate : Certificate) → IsListedBy evidence inputs bytes row certificate → IsArrangement row inputs.fingers
listed_arranges Log inputs bytes row (held.Log log) is = is.arranges
listed_arranges Trails inputs bytes row (held.Trails found) is = is.arranges
listed_arranges Log inputs bytes row (held.Trails found) is = absurd is
listed_arranges Trails inputs bytes row (held.Log log) is = absurd is

pub given_arranges : (evidence : Evidence) (inputs : Inputs) (bytes : List ℕ) (given : Given) → IsGiven evidence inputs bytes given → Arranges inputs given
given_arranges evidence inputs bytes (Row row counts) (certificate, listed, counted) = listed_arranges evidence inputs bytes row certificate listed
given_arranges evidence inputs bytes (Refused end) is = tt

given_made : (evidence : Evidence) (style : Style) (inputs : Inputs) (bytes out : List ℕ) (given : Given) (end : End) → IsGiven evidence inputs bytes given → IsGivenEnd style inputs out given end → MakesFromTo evidence style inputs bytes out end
given_made evidence style inputs bytes out (Row row counts) end (certificate, listed, counted) drawn =
    inl (row, certificate, listed, subst (λ (told : List ℕ). IsDrawnTo style inputs out row (no_file told) end) counted drawn)
given_made evidence style inputs bytes out (Refused refused) end is same = inr (subst (IsRefusedBy evidence inputs bytes) (sym same) is)

pub makes_from : (evidence : Evidence) (style : Style) (inputs : Inputs) (bytes out : List ℕ) (given : Given) (r : Result End NoMemory) → IsGiven evidence inputs bytes given → IfOk r (IsGivenEnd style inputs out given) → IfOk r (MakesFromTo evidence style inputs bytes out)
makes_from evidence style inputs bytes out given (Err e) is ends = tt
makes_from evidence style inputs bytes out given (Ok end) is ends = given_made evidence style inputs bytes out given end is ends

-- so it is of all bytes that a log may be after
pub all_make_from : (style : Style) (inputs : Inputs) (reader : Reader) (checker : Checked) (out : List ℕ) (given : Given) (r : Result End NoMemory) → OfAll inputs reader checker (λ bytes. IsGiven Log inputs bytes given) → IfOk r (IsGivenEnd style inputs out given) → IfOk r (λ end. OfAll inputs reader checker (λ bytes. MakesFromTo Log style inputs bytes out end))
all_make_from style inputs reader checker out given (Err e) is ends = tt
all_make_from style inputs reader checker out given (Ok end) is ends = λ bytes behind. given_made Log style inputs bytes out given end (is bytes behind) ends
