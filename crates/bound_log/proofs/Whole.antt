-- The whole text of a log that fits is read again.
use Rattle.std.specs.Prelude.{ℕ, ◌≡◌, ◌≢◌, ◌+◌, ◌<◌, ◌≤◌, ◌==◌, false, List, [], ◌∷◌, ◌++◌, Option, Some, None, Ok, Err, All, IfSome, length, codes, decimal}
use Rattle.std.proofs.Common.{refl, sym, ap, arith, ◌∙◌}
use Rattle.std.specs.List.{flat_map, join_with_byte}
use Rattle.std.proofs.lemmas.Bool.{ne_eqb}
use Rattle.std.proofs.lemmas.List.{append_assoc, length-append}
use Rattle.std.proofs.lemmas.List.Elements.{All-append, All-cons, All-head, All-nil, All-tail}
use Rattle.row_state.specs.declared.kind.Kinds.{Kinds}
use Rattle.row_state.specs.Start.{AreSomeKinds}
use Rattle.row_state.specs.Versions.{IsVersion}
use Rattle.log_lines.specs.Words.{is_word, words_in}
use Rattle.log_lines.specs.Lines.{behind, lines_in}
use Rattle.log_lines.proofs.Decimals.{above_decimal}
use Rattle.log_lines.proofs.Numbers.{is_below, is_same}
use Rattle.log_lines.proofs.Splits.{IsAbove, Lacks, above_lacks, above_more, fed, line_behind, line_first}
use Rattle.bound_log.specs.declared.fault.LogFault.{LogFault}
use Rattle.bound_log.specs.declared.log.Lemma.{Lemma}
use Rattle.bound_log.specs.declared.log.LogStep.{LogStep}
use Rattle.bound_log.specs.declared.log.Best.{Best}
use Rattle.bound_log.specs.declared.log.Log.{Log}
use Rattle.bound_log.specs.declared.log.Entry.{Entry}
use Rattle.bound_log.specs.declared.log.Ending.TheVariants as ending
use Rattle.bound_log.specs.declared.log.Entry.TheVariants as entry
use Rattle.bound_log.specs.Fits.{BestFits, Fits, IsLogName, LemmaFits, StepFits}
use Rattle.bound_log.specs.Line.{entry_in, column_in}
use Rattle.bound_log.specs.Reading.{begun_by, columns_at, end_at, log_at, log_of, named_at, text_at}
use Rattle.bound_log.specs.Text.{best_text, column_line, head_lines, lemma_line, log_text, version_line}
use Rattle.bound_log.proofs.Again.{by_test, column_above, column_again, lemma_above, lemma_again, words_again, words_lack}
use Rattle.bound_log.proofs.Only.{err-ok}
use Rattle.bound_log.proofs.Spelled.{column_joined, column_words, lemma_joined, lemma_words}
use Rattle.bound_log.proofs.Versions.{version_found, version_lacks}

column_step : (k : Kinds) (n : ℕ) (line : List ℕ) (lines : List (List ℕ)) (rest : List ℕ) (step : LogStep) (steps : List LogStep) → is_word line (codes "end") ≡ false → column_in k (words_in line) ≡ Some step → columns_at k (n + 1) lines rest ≡ Ok steps → columns_at k n (line ∷ lines) rest ≡ Ok (step ∷ steps)
unfolding columns_at
column_step k n line lines rest step steps other some later = rw (other, some, later) refl

-- a line in front of a text, whatever follows it
pub fed_first : (line text : List ℕ) → Lacks 10 line → lines_in (fed line ++ text) ≡ line ∷ lines_in text
fed_first line text lack = ap lines_in (append_assoc line (10 ∷ []) text) ∙ line_first line text lack

fed_behind : (line text : List ℕ) → Lacks 10 line → behind (fed line ++ text) ≡ behind text
fed_behind line text lack = ap behind (append_assoc line (10 ∷ []) text) ∙ line_behind line text lack

columns_end_again : (k : Kinds) (n : ℕ) → columns_at k n (lines_in (codes "end\n")) (behind (codes "end\n")) ≡ Ok []
unfolding columns_at lines_in behind
columns_end_again k n = refl

not_end : (listed : LogStep) → is_word (join_with_byte 32 (codes "column" ∷ column_words listed)) (codes "end") ≡ false
unfolding column_words
not_end listed = refl

pub columns_front : (step : LogStep) (steps : List LogStep) (rest : List ℕ) → flat_map column_line (step ∷ steps) ++ rest ≡ fed (join_with_byte 32 (codes "column" ∷ column_words step)) ++ (flat_map column_line steps ++ rest)
columns_front step steps rest = append_assoc (column_line step) (flat_map column_line steps) rest ∙ ap (λ (bs : List ℕ). bs ++ (flat_map column_line steps ++ rest)) (sym (column_joined step))

columns_again : (k : Kinds) (n : ℕ) (steps : List LogStep) → AreSomeKinds k → All (StepFits k) steps → columns_at k n (lines_in (flat_map column_line steps ++ codes "end\n")) (behind (flat_map column_line steps ++ codes "end\n")) ≡ Ok steps
columns_again k n [] some h = columns_end_again k n
columns_again k n (step ∷ steps) some h =
    let line = join_with_byte 32 (codes "column" ∷ column_words step) in
    let text = flat_map column_line steps ++ codes "end\n" in
    let fits : StepFits k step = All-head (StepFits k) step steps h in
    let above : All (IsAbove 32) (codes "column" ∷ column_words step) = column_above step in
    let lack : Lacks 10 line = words_lack (codes "column" ∷ column_words step) above in
    let whole : flat_map column_line (step ∷ steps) ++ codes "end\n" ≡ fed line ++ text = columns_front step steps (codes "end\n") in
    let words : column_in k (words_in line) ≡ Some step = ap (column_in k) (words_again (codes "column") (column_words step) above) ∙ column_again k step some fits in
    ap (λ (t : List ℕ). columns_at k n (lines_in t) (behind t)) whole
    ∙ (rw (fed_first line text lack, fed_behind line text lack) (column_step k n line (lines_in text) (behind text) step steps (not_end step) words (columns_again k (n + 1) steps some (All-tail (StepFits k) step steps h))))

log_step : (version : ℕ) (k : Kinds) (n : ℕ) (line : List ℕ) (lines : List (List ℕ)) (rest : List ℕ) (e : Entry) → entry_in k (words_in line) ≡ Some e → log_at version k n (line ∷ lines) rest ≡ begun_by version e (log_at version k (n + 1) lines rest) (columns_at k (n + 1) lines rest) (end_at (n + 1) lines rest)
unfolding log_at
log_step version k n line lines rest e some = rw some refl

-- the line behind the lemmas, and all that follows
open_again : (version : ℕ) (k : Kinds) (n : ℕ) → log_at version k n (lines_in (codes "open\n" ++ codes "end\n")) (behind (codes "open\n" ++ codes "end\n")) ≡ Ok (record { version = version; lemmas = []; best = None })
unfolding log_at lines_in behind
open_again version k n = refl

pub gaps_above : (gaps : ℕ) → All (IsAbove 32) (codes "gaps" ∷ decimal gaps ∷ [])
gaps_above gaps =
    All-cons (IsAbove 32) (codes "gaps") (decimal gaps ∷ []) (by_test 32 (codes "gaps") refl)
    (All-cons (IsAbove 32) (decimal gaps) [] (above_more 47 32 (decimal gaps) (omega arith) (above_decimal gaps)) (All-nil (IsAbove 32)))

gaps_again : (k : Kinds) (gaps : ℕ) → gaps ≤ 63 → entry_in k (codes "gaps" ∷ decimal gaps ∷ []) ≡ Some (entry.Ending (ending.Gaps gaps))
gaps_again k gaps few = rw (is_below 64 (decimal gaps) gaps refl (omega (arith, few)) (omega arith)) refl

pub gaps_front : (best : Best) (rest : List ℕ) → best_text (Some best) ++ rest ≡ fed (join_with_byte 32 (codes "gaps" ∷ decimal best.gaps ∷ [])) ++ (flat_map column_line best.steps ++ rest)
gaps_front best rest = apart (decimal best.gaps) (flat_map column_line best.steps)
  where
    apart : (g cs : List ℕ) → (codes "gaps " ++ g ++ codes "\n" ++ cs) ++ rest ≡ fed (codes "gaps " ++ g) ++ (cs ++ rest)
    apart g cs = simp append_assoc

best_again : (version : ℕ) (k : Kinds) (n : ℕ) (best : Option Best) → AreSomeKinds k → IfSome best (BestFits k) → log_at version k n (lines_in (best_text best ++ codes "end\n")) (behind (best_text best ++ codes "end\n")) ≡ Ok (record { version = version; lemmas = []; best = best })
best_again version k n None some h = open_again version k n
best_again version k n (Some best) some h =
    let line = codes "gaps " ++ decimal best.gaps in
    let text = flat_map column_line best.steps ++ codes "end\n" in
    let above : All (IsAbove 32) (codes "gaps" ∷ decimal best.gaps ∷ []) = gaps_above best.gaps in
    let lack : Lacks 10 line = words_lack (codes "gaps" ∷ decimal best.gaps ∷ []) above in
    let whole : best_text (Some best) ++ codes "end\n" ≡ fed line ++ text = gaps_front best (codes "end\n") in
    let words : entry_in k (words_in line) ≡ Some (entry.Ending (ending.Gaps best.gaps)) = ap (entry_in k) (words_again (codes "gaps") (decimal best.gaps ∷ []) above) ∙ gaps_again k best.gaps h.few in
    ap (λ (t : List ℕ). log_at version k n (lines_in t) (behind t)) whole
    ∙ (rw (fed_first line text lack, fed_behind line text lack) (log_step version k n line (lines_in text) (behind text) (entry.Ending (ending.Gaps best.gaps)) words ∙ rw (columns_again k (n + 1) best.steps some h.steps) refl))

pub lemmas_front : (lemma : Lemma) (lemmas : List Lemma) (rest : List ℕ) → flat_map lemma_line (lemma ∷ lemmas) ++ rest ≡ fed (join_with_byte 32 (codes "lemma" ∷ lemma_words lemma)) ++ (flat_map lemma_line lemmas ++ rest)
lemmas_front lemma lemmas rest = append_assoc (lemma_line lemma) (flat_map lemma_line lemmas) rest ∙ ap (λ (bs : List ℕ). bs ++ (flat_map lemma_line lemmas ++ rest)) (sym (lemma_joined lemma))

log_again : (version : ℕ) (k : Kinds) (n : ℕ) (lemmas : List Lemma) (best : Option Best) → AreSomeKinds k → All (LemmaFits k) lemmas → IfSome best (BestFits k) → log_at version k n (lines_in (flat_map lemma_line lemmas ++ (best_text best ++ codes "end\n"))) (behind (flat_map lemma_line lemmas ++ (best_text best ++ codes "end\n"))) ≡ Ok (record { version = version; lemmas = lemmas; best = best })
log_again version k n [] best some h b = best_again version k n best some b
log_again version k n (lemma ∷ lemmas) best some h b =
    let line = join_with_byte 32 (codes "lemma" ∷ lemma_words lemma) in
    let text = flat_map lemma_line lemmas ++ (best_text best ++ codes "end\n") in
    let fits : LemmaFits k lemma = All-head (LemmaFits k) lemma lemmas h in
    let above : All (IsAbove 32) (codes "lemma" ∷ lemma_words lemma) = lemma_above lemma in
    let lack : Lacks 10 line = words_lack (codes "lemma" ∷ lemma_words lemma) above in
    let whole : flat_map lemma_line (lemma ∷ lemmas) ++ (best_text best ++ codes "end\n") ≡ fed line ++ text = lemmas_front lemma lemmas (best_text best ++ codes "end\n") in
    let words : entry_in k (words_in line) ≡ Some (entry.Lemma lemma) = ap (entry_in k) (words_again (codes "lemma") (lemma_words lemma) above) ∙ lemma_again k lemma some fits in
    ap (λ (t : List ℕ). log_at version k n (lines_in t) (behind t)) whole
    ∙ (rw (fed_first line text lack, fed_behind line text lack) (log_step version k n line (lines_in text) (behind text) (entry.Lemma lemma) words ∙ rw (log_again version k (n + 1) lemmas best some (All-tail (LemmaFits k) lemma lemmas h) b) refl))

other_lack : (text : List ℕ) → All (λ byte. byte ≢ 10) text → Lacks 10 text
other_lack [] h = All-nil (λ b. (b == 10) ≡ false)
other_lack (b ∷ bs) h = All-cons (λ b. (b == 10) ≡ false) b bs (ne_eqb b 10 (All-head (λ byte. byte ≢ 10) b bs h)) (other_lack bs (All-tail (λ byte. byte ≢ 10) b bs h))

named_step : (name : List ℕ) (k : Kinds) (version : ℕ) (line : List ℕ) (lines : List (List ℕ)) (rest : List ℕ) → line ≡ codes "cell " ++ name → named_at name k version (line ∷ lines) rest ≡ log_at version k 3 lines rest
named_step name k version line lines rest is = rw (is_same line (codes "cell " ++ name) is) refl

text_step : (name : List ℕ) (k : Kinds) (version : ℕ) (lines : List (List ℕ)) (rest : List ℕ) → IsVersion version → text_at name k (version_line version ∷ lines) rest ≡ named_at name k version lines rest
text_step name k version lines rest known = rw (version_found (version_line version) version known refl) refl

-- what fits is read again
pub read_again : (name : List ℕ) (k : Kinds) (log : Log) → IsLogName name → AreSomeKinds k → Fits k log → log_of (log_text name log) name k ≡ Ok log
unfolding log_of
read_again name k log is_name some fits =
    let first = version_line log.version in
    let later = flat_map lemma_line log.lemmas ++ (best_text log.best ++ codes "end\n") in
    let version : Lacks 10 first = version_lacks log.version in
    let front : Lacks 10 (codes "cell ") = above_lacks 31 10 (codes "cell ") (omega arith) (by_test 31 (codes "cell ") refl) in
    let named : Lacks 10 (codes "cell " ++ name) = All-append (λ b. (b == 10) ≡ false) (codes "cell ") name front (other_lack name is_name.line) in
    let whole : log_text name log ≡ fed first ++ (fed (codes "cell " ++ name) ++ later) = apart first name (flat_map lemma_line log.lemmas) (best_text log.best) in
    ap (λ (t : List ℕ). text_at name k (lines_in t) (behind t)) whole
    ∙ (rw (fed_first first (fed (codes "cell " ++ name) ++ later) version, fed_behind first (fed (codes "cell " ++ name) ++ later) version, fed_first (codes "cell " ++ name) later named, fed_behind (codes "cell " ++ name) later named)
    (text_step name k log.version ((codes "cell " ++ name) ∷ lines_in later) (behind later) fits.version ∙ (named_step name k log.version (codes "cell " ++ name) (lines_in later) (behind later) refl ∙ log_again log.version k 3 log.lemmas log.best some fits.lemmas fits.best)))
  where
    apart : (first name ls best : List ℕ) → first ++ codes "\n" ++ codes "cell " ++ name ++ codes "\n" ++ ls ++ best ++ codes "end\n" ≡ fed first ++ (fed (codes "cell " ++ name) ++ (ls ++ (best ++ codes "end\n")))
    apart first name ls best = simp append_assoc

-- no log that fits has a text that is refused
pub refused : (bytes name : List ℕ) (k : Kinds) (f : LogFault) (log : Log) → IsLogName name → AreSomeKinds k → log_of bytes name k ≡ Err f → Fits k log → log_text name log ≢ bytes
refused bytes name k f log is_name some h fits same = err-ok f log (sym h ∙ (ap (λ (t : List ℕ). log_of t name k) (sym same) ∙ read_again name k log is_name some fits))

some_line : (lemma : Lemma) → 0 < length (lemma_line lemma)
some_line lemma = omega arith

lines_most : (lemmas : List Lemma) → length lemmas ≤ length (flat_map lemma_line lemmas)
lines_most [] = omega arith
lines_most (lemma ∷ lemmas) = omega (arith, some_line lemma, lines_most lemmas, length-append (lemma_line lemma) (flat_map lemma_line lemmas))

lemmas_within : (name : List ℕ) (log : Log) → length log.lemmas ≤ length (log_text name log)
lemmas_within name log =
    let front = head_lines log.version name in
    let lines = flat_map lemma_line log.lemmas in
    omega (arith, lines_most log.lemmas, length-append ((front ++ lines) ++ best_text log.best) (codes "end\n"), length-append (front ++ lines) (best_text log.best), length-append front lines)

-- each lemma takes a byte at least
pub few_lemmas : (bytes name : List ℕ) (log : Log) → bytes ≡ log_text name log → length log.lemmas ≤ length bytes
few_lemmas bytes name log is = rw is (lemmas_within name log)
