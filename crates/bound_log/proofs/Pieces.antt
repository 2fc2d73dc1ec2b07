-- A log read in pieces is the log read whole.
use Rattle.std.specs.Prelude.{ℕ, ◌≡◌, ◌+◌, ◌<◌, ◌==◌, ◌&&◌, Bool, true, false, List, [], ◌∷◌, ◌++◌, Option, Some, None, Result, Ok, Err, All, length, codes}
use Rattle.std.proofs.Common.{refl, sym, ap, arith, ◌∙◌, inl, inr}
use Rattle.std.proofs.lemmas.Bool.{cases_Bool, ne_eqb}
use Rattle.std.proofs.lemmas.List.{length-append}
use Rattle.std.proofs.lemmas.List.Elements.{All-head, All-tail}
use Rattle.cell_num.specs.Steps.{◌>>=◌, require, or_fault}
use Rattle.row_state.specs.declared.kind.Kinds.{Kinds}
use Rattle.row_state.specs.Start.{AreSomeKinds}
use Rattle.log_lines.specs.Words.{is_word, words_in}
use Rattle.log_lines.specs.Lines.{behind, lines_in}
use Rattle.log_lines.proofs.Splits.{Lacks, behind_lacks, bytes_again, fed, lines_lack, lines_text}
use Rattle.bound_log.specs.declared.fault.LogFault.{LogFault}
use Rattle.bound_log.specs.declared.fault.LogFault.TheVariants as fault
use Rattle.bound_log.specs.declared.item.LogItem.{LogItem}
use Rattle.bound_log.specs.declared.item.LogItem.TheVariants as item
use Rattle.bound_log.specs.declared.item.LogPlace.TheVariants as place
use Rattle.bound_log.specs.declared.log.LogStep.{LogStep}
use Rattle.bound_log.specs.declared.log.Log.{Log}
use Rattle.bound_log.specs.declared.log.Entry.{Entry}
use Rattle.bound_log.specs.declared.log.Ending.TheVariants as ending
use Rattle.bound_log.specs.declared.log.Entry.TheVariants as entry
use Rattle.bound_log.specs.Fits.{IsLogName}
use Rattle.bound_log.specs.Line.{column_in, entry_in, version_in}
use Rattle.bound_log.specs.Pieces.{begun, column_says, columns_told, entry_says, line_tale, log_read, log_told, said_if, tale_of, then_tale, version_says, with_version}
use Rattle.bound_log.specs.Reading.{begun_by, columns_at, end_at, log_at, log_of, named_at, text_at}
use Rattle.bound_log.proofs.Only.{text_cons}
use Rattle.bound_log.proofs.Tales.{is_behind}
use Rattle.bound_log.proofs.Told.{ahead, at_line, cut, ended_more, read_as, wrong}

no_line : (rest : List ℕ) → lines_text [] rest ≡ rest
unfolding lines_text
no_line rest = refl

some_text : (line : List ℕ) (lines : List (List ℕ)) (rest : List ℕ) → 0 < length (lines_text (line ∷ lines) rest)
some_text line lines rest = omega (arith, ap length (text_cons line lines rest), length-append (fed line) (lines_text lines rest), length-append line (10 ∷ []))

-- ---- behind `end`

behind_more : {A : Type 0} (f : List LogItem → A) (name : List ℕ) (k : Kinds) (n : ℕ) (text : List ℕ) → 0 < length text → read_as f (tale_of (at_line name k place.Behind n) text) ≡ Err (fault.Line n)
behind_more f name k n text some = ap (read_as f) (is_behind (at_line name k place.Behind n) text refl refl some)

behind_none : {A : Type 0} (f : List LogItem → A) (name : List ℕ) (k : Kinds) (n : ℕ) → read_as f (tale_of (at_line name k place.Behind n) []) ≡ Ok (f [])
unfolding tale_of
behind_none f name k n = refl

at_behind : {A : Type 0} (f : List LogItem → A) (name : List ℕ) (k : Kinds) (n : ℕ) (lines : List (List ℕ)) (rest : List ℕ) → read_as f (tale_of (at_line name k place.Behind n) (lines_text lines rest)) ≡ (require (length lines == 0 && length rest == 0) (fault.Line n) >>= λ _. Ok (f []))
at_behind f name k n [] [] = ap (λ (t : List ℕ). read_as f (tale_of (at_line name k place.Behind n) t)) (no_line []) ∙ behind_none f name k n
at_behind f name k n [] (b ∷ bs) =
    let some : (length (b ∷ bs) == 0) ≡ false = ne_eqb (length (b ∷ bs)) 0 (λ e. omega (arith, e)) in
    ap (λ (t : List ℕ). read_as f (tale_of (at_line name k place.Behind n) t)) (no_line (b ∷ bs)) ∙ (behind_more f name k n (b ∷ bs) (omega arith) ∙ rw some refl)
at_behind f name k n (line ∷ lines) rest =
    let some : (length (line ∷ lines) == 0) ≡ false = ne_eqb (length (line ∷ lines)) 0 (λ e. omega (arith, e)) in
    behind_more f name k n (lines_text (line ∷ lines) rest) (some_text line lines rest) ∙ rw some refl

-- ---- `end` alone

unit_of : List LogItem → Unit {0}
unit_of items = tt

at_end : {A : Type 0} (f : List LogItem → A) (name : List ℕ) (k : Kinds) (n : ℕ) (lines : List (List ℕ)) (rest : List ℕ) → IsLogName name → AreSomeKinds k → All (Lacks 10) lines → Lacks 10 rest → read_as f (tale_of (at_line name k place.End n) (lines_text lines rest)) ≡ (end_at n lines rest >>= λ _. Ok (f (item.End ∷ [])))
at_end f name k n [] rest is some lack last = ap (λ (t : List ℕ). read_as f (tale_of (at_line name k place.End n) t)) (no_line rest) ∙ cut f name k place.End n rest (λ e. cc) last
at_end f name k n (line ∷ lines) rest is some lack last =
    let text = lines_text lines rest in
    let r = at_line name k place.End n in
    ap (λ (t : List ℕ). read_as f (tale_of r t)) (text_cons line lines rest)
    ∙ (ap (read_as f) (ahead name k place.End n line text is some (λ e. cc) (All-head (Lacks 10) line lines lack))
    ∙ by_word (is_word line (codes "end")))
  where
    by_word : (end : Bool) → read_as f (then_tale (line_tale (at_line name k place.End n) (said_if end item.End place.Behind (fault.Line n))) (λ s. tale_of s (lines_text lines rest))) ≡ ((require end (fault.Line n) >>= λ _. require (length lines == 0 && length rest == 0) (fault.Line (n + 1))) >>= λ _. Ok (f (item.End ∷ [])))
    by_word true = at_behind (λ items. f (item.End ∷ items)) name k (n + 1) lines rest
    by_word false = wrong f (at_line name k place.End n) (fault.Line n) (lines_text lines rest)

-- ---- columns

end_first : (k : Kinds) (n : ℕ) (line : List ℕ) (lines : List (List ℕ)) (rest : List ℕ) → is_word line (codes "end") ≡ true → columns_at k n (line ∷ lines) rest ≡ (require (length lines == 0 && length rest == 0) (fault.Line (n + 1)) >>= λ _. Ok [])
unfolding columns_at
end_first k n line lines rest end = rw end refl

column_first : (k : Kinds) (n : ℕ) (line : List ℕ) (lines : List (List ℕ)) (rest : List ℕ) → is_word line (codes "end") ≡ false → columns_at k n (line ∷ lines) rest ≡ (or_fault (column_in k (words_in line)) (fault.Line n) >>= λ column. columns_at k (n + 1) lines rest >>= λ columns. Ok (column ∷ columns))
unfolding columns_at
column_first k n line lines rest other = rw other refl

no_columns : (k : Kinds) (n : ℕ) (rest : List ℕ) → columns_at k n [] rest ≡ Err fault.Cut
unfolding columns_at
no_columns k n rest = refl

at_columns : (name : List ℕ) (k : Kinds) (n : ℕ) (lines : List (List ℕ)) (rest : List ℕ) → IsLogName name → AreSomeKinds k → All (Lacks 10) lines → Lacks 10 rest → read_as columns_told (tale_of (at_line name k place.Columns n) (lines_text lines rest)) ≡ columns_at k n lines rest
at_columns name k n [] rest is some lack last =
    ap (λ (t : List ℕ). read_as columns_told (tale_of (at_line name k place.Columns n) t)) (no_line rest) ∙ (cut columns_told name k place.Columns n rest (λ e. cc) last ∙ sym (no_columns k n rest))
at_columns name k n (line ∷ lines) rest is some lack last =
    ap (λ (t : List ℕ). read_as columns_told (tale_of (at_line name k place.Columns n) t)) (text_cons line lines rest)
    ∙ (ap (read_as columns_told) (ahead name k place.Columns n line (lines_text lines rest) is some (λ e. cc) (All-head (Lacks 10) line lines lack))
    ∙ elim (cases_Bool (is_word line (codes "end"))) [
      | inl end ↦ rw end (at_behind (λ items. columns_told (item.End ∷ items)) name k (n + 1) lines rest ∙ sym (end_first k n line lines rest end))
      | inr other ↦ rw other (by_column (column_in k (words_in line)) (at_columns name k (n + 1) lines rest is some (All-tail (Lacks 10) line lines lack) last) ∙ sym (column_first k n line lines rest other))
    ])
  where
    by_column : (o : Option LogStep) → read_as columns_told (tale_of (at_line name k place.Columns (n + 1)) (lines_text lines rest)) ≡ columns_at k (n + 1) lines rest → read_as columns_told (then_tale (line_tale (at_line name k place.Columns n) (column_says o (fault.Line n))) (λ s. tale_of s (lines_text lines rest))) ≡ (or_fault o (fault.Line n) >>= λ column. columns_at k (n + 1) lines rest >>= λ columns. Ok (column ∷ columns))
    by_column None later = wrong columns_told (at_line name k place.Columns n) (fault.Line n) (lines_text lines rest)
    by_column (Some column) later =
        let tale = tale_of (at_line name k place.Columns (n + 1)) (lines_text lines rest) in
        ended_more tale.reader.fault tale.reader.place (λ (columns : List LogStep). column ∷ columns) (columns_told tale.items)
        ∙ ap (λ (r : Result (List LogStep) LogFault). r >>= λ columns. Ok (column ∷ columns)) later

-- ---- lemmas

no_lemmas : (version : ℕ) (k : Kinds) (n : ℕ) (rest : List ℕ) → log_at version k n [] rest ≡ Err fault.Cut
unfolding log_at
no_lemmas version k n rest = refl

entry_first : (version : ℕ) (k : Kinds) (n : ℕ) (line : List ℕ) (lines : List (List ℕ)) (rest : List ℕ) → log_at version k n (line ∷ lines) rest ≡ (or_fault (entry_in k (words_in line)) (fault.Line n) >>= λ first. begun_by version first (log_at version k (n + 1) lines rest) (columns_at k (n + 1) lines rest) (end_at (n + 1) lines rest))
unfolding log_at
entry_first version k n line lines rest = refl

-- the log told behind a head of that version
abbrev of_version : ℕ → List LogItem → Log
of_version version items = with_version version (log_told items)

at_lemmas : (version : ℕ) (name : List ℕ) (k : Kinds) (n : ℕ) (lines : List (List ℕ)) (rest : List ℕ) → IsLogName name → AreSomeKinds k → All (Lacks 10) lines → Lacks 10 rest → read_as (of_version version) (tale_of (at_line name k place.Lemmas n) (lines_text lines rest)) ≡ log_at version k n lines rest
at_lemmas version name k n [] rest is some lack last =
    ap (λ (t : List ℕ). read_as (of_version version) (tale_of (at_line name k place.Lemmas n) t)) (no_line rest) ∙ (cut (of_version version) name k place.Lemmas n rest (λ e. cc) last ∙ sym (no_lemmas version k n rest))
at_lemmas version name k n (line ∷ lines) rest is some lack last =
    ap (λ (t : List ℕ). read_as (of_version version) (tale_of (at_line name k place.Lemmas n) t)) (text_cons line lines rest)
    ∙ (ap (read_as (of_version version)) (ahead name k place.Lemmas n line (lines_text lines rest) is some (λ e. cc) (All-head (Lacks 10) line lines lack))
    ∙ (by_entry (entry_in k (words_in line)) (at_lemmas version name k (n + 1) lines rest is some (All-tail (Lacks 10) line lines lack) last) ∙ sym (entry_first version k n line lines rest)))
  where
    by_entry : (o : Option Entry) → read_as (of_version version) (tale_of (at_line name k place.Lemmas (n + 1)) (lines_text lines rest)) ≡ log_at version k (n + 1) lines rest → read_as (of_version version) (then_tale (line_tale (at_line name k place.Lemmas n) (entry_says o (fault.Line n))) (λ s. tale_of s (lines_text lines rest))) ≡ (or_fault o (fault.Line n) >>= λ first. begun_by version first (log_at version k (n + 1) lines rest) (columns_at k (n + 1) lines rest) (end_at (n + 1) lines rest))
    by_entry None later = wrong (of_version version) (at_line name k place.Lemmas n) (fault.Line n) (lines_text lines rest)
    by_entry (Some (entry.Lemma lemma)) later =
        let tale = tale_of (at_line name k place.Lemmas (n + 1)) (lines_text lines rest) in
        ended_more tale.reader.fault tale.reader.place (λ (log : Log). record { version = log.version; lemmas = lemma ∷ log.lemmas; best = log.best }) (of_version version tale.items)
        ∙ ap (λ (r : Result Log LogFault). r >>= λ log. Ok (record { version = log.version; lemmas = lemma ∷ log.lemmas; best = log.best })) later
    by_entry (Some (entry.Ending (ending.Gaps gaps))) later =
        let tale = tale_of (at_line name k place.Columns (n + 1)) (lines_text lines rest) in
        ended_more tale.reader.fault tale.reader.place (λ (steps : List LogStep). record { version = version; lemmas = []; best = Some (record { gaps = gaps; steps = steps }) }) (columns_told tale.items)
        ∙ ap (λ (r : Result (List LogStep) LogFault). r >>= λ steps. Ok (record { version = version; lemmas = []; best = Some (record { gaps = gaps; steps = steps }) })) (at_columns name k (n + 1) lines rest is some (All-tail (Lacks 10) line lines lack) last)
    by_entry (Some (entry.Ending ending.Open)) later = at_end (λ items. of_version version (item.Open ∷ items)) name k (n + 1) lines rest is some (All-tail (Lacks 10) line lines lack) last

-- ---- the first two lines

at_cell : (version : ℕ) (name : List ℕ) (k : Kinds) (lines : List (List ℕ)) (rest : List ℕ) → IsLogName name → AreSomeKinds k → All (Lacks 10) lines → Lacks 10 rest → read_as log_told (tale_of (at_line name k (place.Cell version) 2) (lines_text lines rest)) ≡ named_at name k version lines rest
at_cell version name k [] rest is some lack last = ap (λ (t : List ℕ). read_as log_told (tale_of (at_line name k (place.Cell version) 2) t)) (no_line rest) ∙ cut log_told name k (place.Cell version) 2 rest (λ e. cc) last
at_cell version name k (line ∷ lines) rest is some lack last =
    ap (λ (t : List ℕ). read_as log_told (tale_of (at_line name k (place.Cell version) 2) t)) (text_cons line lines rest)
    ∙ (ap (read_as log_told) (ahead name k (place.Cell version) 2 line (lines_text lines rest) is some (λ e. cc) (All-head (Lacks 10) line lines lack))
    ∙ by_word (is_word line (codes "cell " ++ name)))
  where
    by_word : (same : Bool) → read_as log_told (then_tale (line_tale (at_line name k (place.Cell version) 2) (said_if same (item.Head version) place.Lemmas fault.Cell)) (λ s. tale_of s (lines_text lines rest))) ≡ (require same fault.Cell >>= λ _. log_at version k 3 lines rest)
    by_word true = at_lemmas version name k 3 lines rest is some (All-tail (Lacks 10) line lines lack) last
    by_word false = wrong log_told (at_line name k (place.Cell version) 2) fault.Cell (lines_text lines rest)

at_version : (name : List ℕ) (k : Kinds) (lines : List (List ℕ)) (rest : List ℕ) → IsLogName name → AreSomeKinds k → All (Lacks 10) lines → Lacks 10 rest → read_as log_told (tale_of (begun name k) (lines_text lines rest)) ≡ text_at name k lines rest
at_version name k [] rest is some lack last = ap (λ (t : List ℕ). read_as log_told (tale_of (begun name k) t)) (no_line rest) ∙ cut log_told name k place.Version 1 rest (λ e. cc) last
at_version name k (line ∷ lines) rest is some lack last =
    ap (λ (t : List ℕ). read_as log_told (tale_of (begun name k) t)) (text_cons line lines rest)
    ∙ (ap (read_as log_told) (ahead name k place.Version 1 line (lines_text lines rest) is some (λ e. cc) (All-head (Lacks 10) line lines lack))
    ∙ by_version (version_in line))
  where
    by_version : (o : Option ℕ) → read_as log_told (then_tale (line_tale (begun name k) (version_says o)) (λ s. tale_of s (lines_text lines rest))) ≡ (or_fault o fault.Version >>= λ version. named_at name k version lines rest)
    by_version (Some version) = at_cell version name k lines rest is some (All-tail (Lacks 10) line lines lack) last
    by_version None = wrong log_told (begun name k) fault.Version (lines_text lines rest)

-- whatever the pieces are
pub read_whole : (name : List ℕ) (k : Kinds) (bytes : List ℕ) → IsLogName name → AreSomeKinds k → log_of bytes name k ≡ log_read (tale_of (begun name k) bytes)
unfolding log_of
read_whole name k bytes is some =
    sym (at_version name k (lines_in bytes) (behind bytes) is some (lines_lack bytes) (behind_lacks bytes))
    ∙ ap (λ (t : List ℕ). log_read (tale_of (begun name k) t)) (sym (bytes_again bytes))
