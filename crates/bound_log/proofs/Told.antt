-- The lines of a log, told one by one, are the log.
use Rattle.std.specs.Prelude.{ℕ, ◌≡◌, ◌≢◌, ◌+◌, ◌<◌, ◌≤◌, leb, false, List, [], ◌∷◌, ◌++◌, Option, Some, None, Result, Ok, Err, length, codes, decimal}
use Rattle.std.proofs.Common.{refl, sym, ap, arith, ◌∙◌, inl, inr}
use Rattle.std.specs.List.{join_with_byte}
use Rattle.std.proofs.lemmas.Bool.{cases_Bool, leb-false}
use Rattle.std.proofs.lemmas.Fmt.{length-decimal-le}
use Rattle.std.proofs.lemmas.List.{length-append}
use Rattle.cell_num.specs.Steps.{◌>>=◌}
use Rattle.row_state.specs.declared.kind.Kinds.{Kinds}
use Rattle.row_state.specs.Start.{AreSomeKinds}
use Rattle.row_state.specs.Versions.{IsVersion}
use Rattle.log_lines.specs.Words.{is_word, words_in}
use Rattle.log_lines.specs.Fronts.{longer}
use Rattle.log_lines.proofs.Numbers.{is_other}
use Rattle.log_lines.proofs.Splits.{Lacks, fed}
use Rattle.bound_log.specs.declared.fault.LogFault.{LogFault}
use Rattle.bound_log.specs.declared.fault.LogFault.TheVariants as fault
use Rattle.bound_log.specs.declared.item.LogItem.{LogItem}
use Rattle.bound_log.specs.declared.item.LogPlace.{LogPlace}
use Rattle.bound_log.specs.declared.item.LogPlace.TheVariants as place
use Rattle.bound_log.specs.declared.log.LogStep.{LogStep}
use Rattle.bound_log.specs.declared.log.Entry.{Entry}
use Rattle.bound_log.specs.declared.log.Ending.TheVariants as ending
use Rattle.bound_log.specs.declared.log.Entry.TheVariants as entry
use Rattle.bound_log.specs.Fits.{IsLogName}
use Rattle.bound_log.specs.Line.{column_in, entry_in}
use Rattle.bound_log.specs.Pieces.{Reader, Tale, ended, line_says, line_tale, refused, tale_of, then_tale, whole_says, wrong_at}
use Rattle.bound_log.specs.Text.{gaps_line, version_line}
use Rattle.bound_log.proofs.Lengths.{column_short, gaps_short, lemma_short}
use Rattle.bound_log.proofs.Only.{EntrySpelled, column_spelled, entry_spelled, line_of_words}
use Rattle.bound_log.proofs.Spelled.{column_joined, lemma_joined}
use Rattle.bound_log.proofs.Tales.{feeds, quiet, stays, tale_append}
use Rattle.bound_log.proofs.Versions.{version_missing, version_small}

-- ---- lines that are too long

line_length : (line text : List ℕ) → fed line ≡ text → length text ≤ 301 → length line ≤ 300
line_length line text is few = omega (arith, ap length is, few, length-append line (10 ∷ []))

spelled_length : (k : Kinds) (line : List ℕ) (words : List (List ℕ)) (e : Entry) → AreSomeKinds k → words_in line ≡ words → EntrySpelled k words e → length line ≤ 300
unfolding EntrySpelled
spelled_length k line words (entry.Lemma lemma) some is h =
    line_length line _ (line_of_words line words is ∙ (ap (λ (ws : List (List ℕ)). fed (join_with_byte 32 ws)) h.0 ∙ lemma_joined lemma)) (lemma_short lemma (k, some, h.1))
spelled_length k line words (entry.Ending (ending.Gaps gaps)) some is h =
    line_length line (gaps_line gaps) (line_of_words line words is ∙ ap (λ (ws : List (List ℕ)). fed (join_with_byte 32 ws)) h.0) (gaps_short gaps (omega (arith, h.1)))
spelled_length k line words (entry.Ending ending.Open) some is h =
    line_length line (codes "open\n") (line_of_words line words is ∙ ap (λ (ws : List (List ℕ)). fed (join_with_byte 32 ws)) h) (omega arith)

long_entry : (k : Kinds) (line : List ℕ) → AreSomeKinds k → 300 < length line → entry_in k (words_in line) ≡ None
long_entry k line some many = by_entry (entry_in k (words_in line)) refl
  where
    by_entry : (o : Option Entry) → entry_in k (words_in line) ≡ o → entry_in k (words_in line) ≡ None
    by_entry None is = is
    by_entry (Some e) is = let few : length line ≤ 300 = spelled_length k line (words_in line) e some refl (entry_spelled k (words_in line) e some is) in absurd (omega (arith, few, many))

long_column : (k : Kinds) (line : List ℕ) → AreSomeKinds k → 300 < length line → column_in k (words_in line) ≡ None
long_column k line some many = by_column (column_in k (words_in line)) refl
  where
    by_column : (o : Option LogStep) → column_in k (words_in line) ≡ o → column_in k (words_in line) ≡ None
    by_column None is = is
    by_column (Some listed) is =
        let spelled = column_spelled k (words_in line) listed is in
        let few : length line ≤ 300 = line_length line _ (line_of_words line (words_in line) refl ∙ (ap (λ (ws : List (List ℕ)). fed (join_with_byte 32 ws)) spelled.0 ∙ column_joined listed)) (column_short listed (k, some, spelled.1)) in
        absurd (omega (arith, few, many))

long_word : (line word : List ℕ) → length word ≤ 300 → 300 < length line → is_word line word ≡ false
long_word line word few many = is_other line word (λ e. omega (arith, few, many, ap length e))

long_version : (line : List ℕ) (v : ℕ) → IsVersion v → 300 < length line → line ≢ version_line v
long_version line v known many same =
    omega (arith, many, ap length same, length-append (codes "cellgen-log ") (decimal v), length-decimal-le 2 v (omega arith) (omega (arith, version_small v known)) (omega (arith, version_small v known)))

name_few : (name : List ℕ) → IsLogName name → length (codes "cell " ++ name) ≤ 300
name_few name is = omega (arith, is.few, length-append (codes "cell ") name)

long_says : (name : List ℕ) (k : Kinds) (p : LogPlace) (n : ℕ) (line : List ℕ) → IsLogName name → AreSomeKinds k → 300 < length line → line_says name k p n line ≡ Err (wrong_at p n)
long_says name k place.Version n line is some many = rw (version_missing line (λ v known. long_version line v known many)) refl
long_says name k (place.Cell v) n line is some many = rw (long_word line (codes "cell " ++ name) (name_few name is) many) refl
long_says name k place.Lemmas n line is some many = rw (long_entry k line some many) refl
long_says name k place.Columns n line is some many = rw (long_word line (codes "end") (omega arith) many, long_column k line some many) refl
long_says name k place.End n line is some many = rw (long_word line (codes "end") (omega arith) many) refl
long_says name k place.Behind n line is some many = refl

-- ---- one line

-- where a line begins
abbrev pub at_line : List ℕ → Kinds → LogPlace → ℕ → Reader
at_line name k p n = record { name = name; kinds = k; place = p; number = n; line = Some []; fault = None }

says_line : (name : List ℕ) (k : Kinds) (p : LogPlace) (n : ℕ) (line : List ℕ) → IsLogName name → AreSomeKinds k → whole_says (at_line name k p n) (longer (Some []) line) ≡ line_says name k p n line
says_line name k p n line is some = elim (cases_Bool (leb (length {A = ℕ} [] + length line) 300)) [
  | inl few ↦ rw few refl
  | inr many ↦ rw many (sym (long_says name k p n line is some (omega (arith, leb-false (length {A = ℕ} [] + length line) 300 many))))
]

pub ahead : (name : List ℕ) (k : Kinds) (p : LogPlace) (n : ℕ) (line text : List ℕ) → IsLogName name → AreSomeKinds k → p ≢ place.Behind → Lacks 10 line → tale_of (at_line name k p n) (fed line ++ text) ≡ then_tale (line_tale (at_line name k p n) (line_says name k p n line)) (λ s. tale_of s text)
ahead name k p n line text is some more lack =
    let r = at_line name k p n in
    tale_append r (fed line) text
    ∙ ap (λ (t : Tale). then_tale t (λ s. tale_of s text)) (feeds r line refl more (omega arith) lack ∙ ap (line_tale r) (says_line name k p n line is some))

-- what is told of the end, and of the items so far
abbrev pub read_as : {A : Type 0} → (List LogItem → A) → Tale → Result A LogFault
read_as f tale = ended tale.reader.fault tale.reader.place (f tale.items)

cut_at : {A : Type 0} (p : LogPlace) (a : A) → p ≢ place.Behind → ended None p a ≡ Err fault.Cut
cut_at place.Version a h = refl
cut_at (place.Cell v) a h = refl
cut_at place.Lemmas a h = refl
cut_at place.Columns a h = refl
cut_at place.End a h = refl
cut_at place.Behind a h = absurd (h refl)

pub cut : {A : Type 0} (f : List LogItem → A) (name : List ℕ) (k : Kinds) (p : LogPlace) (n : ℕ) (rest : List ℕ) → p ≢ place.Behind → Lacks 10 rest → read_as f (tale_of (at_line name k p n) rest) ≡ Err fault.Cut
cut f name k p n rest more lack = ap (read_as f) (quiet (at_line name k p n) rest refl more (omega arith) lack) ∙ cut_at p (f []) more

pub wrong : {A : Type 0} (f : List LogItem → A) (r : Reader) (e : LogFault) (text : List ℕ) → read_as f (then_tale (line_tale r (Err e)) (λ s. tale_of s text)) ≡ Err e
wrong f r e text = ap (read_as f) (stays (refused r e) e text refl)

-- one item more in front
pub ended_more : {A B : Type 0} (o : Option LogFault) (p : LogPlace) (g : A → B) (a : A) → ended o p (g a) ≡ (ended o p a >>= λ x. Ok (g x))
ended_more (Some f) p g a = refl
ended_more None place.Version g a = refl
ended_more None (place.Cell v) g a = refl
ended_more None place.Lemmas g a = refl
ended_more None place.Columns g a = refl
ended_more None place.End g a = refl
ended_more None place.Behind g a = refl
