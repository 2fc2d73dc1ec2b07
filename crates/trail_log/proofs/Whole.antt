-- The whole text of a certificate that fits is read again.
use Rattle.std.specs.Prelude.{ℕ, ◌≡◌, ◌≢◌, ◌+◌, ◌<◌, ◌≤◌, ◌==◌, false, List, [], ◌∷◌, ◌++◌, Option, Some, None, Ok, Err, All, IfSome, length, codes, decimal}
use Rattle.std.proofs.Common.{refl, sym, ap, arith, ◌∙◌}
use Rattle.std.specs.List.{flat_map, join_with_byte}
use Rattle.std.proofs.lemmas.Bool.{ne_eqb}
use Rattle.std.proofs.lemmas.List.{append_assoc, length-append}
use Rattle.std.proofs.lemmas.List.Elements.{All-append, All-cons, All-head, All-nil, All-tail}
use Rattle.cell_num.specs.declared.net.NetNo.{NetNo}
use Rattle.row_state.specs.declared.kind.Kinds.{Kinds}
use Rattle.row_state.specs.Start.{AreSomeKinds}
use Rattle.log_lines.specs.Words.{is_word, words_in}
use Rattle.log_lines.specs.Lines.{behind, lines_in}
use Rattle.log_lines.proofs.Numbers.{is_same}
use Rattle.log_lines.proofs.Splits.{IsAbove, Lacks, above_lacks, fed, line_behind}
use Rattle.bound_log.specs.declared.fault.LogFault.{LogFault}
use Rattle.bound_log.specs.declared.log.Best.{Best}
use Rattle.bound_log.specs.declared.log.LogStep.{LogStep}
use Rattle.bound_log.specs.Fits.{BestFits, IsLogName, StepFits}
use Rattle.bound_log.specs.Line.{column_in}
use Rattle.bound_log.specs.Reading.{columns_at, end_at}
use Rattle.bound_log.specs.Text.{best_text, column_line}
use Rattle.bound_log.proofs.Again.{by_test, column_above, column_again, words_again, words_lack}
use Rattle.bound_log.proofs.Only.{err-ok}
use Rattle.bound_log.proofs.Spelled.{column_words}
use Rattle.bound_log.proofs.Whole.{columns_front, fed_first, gaps_above, gaps_front}
use Rattle.bound_log.specs.declared.log.Ending.TheVariants as ending
use Rattle.trail_log.specs.Spelling.{nets_text}
use Rattle.trail_log.specs.declared.trails.LemmaLine.{LemmaLine}
use Rattle.trail_log.specs.declared.trails.TrailEntry.{TrailEntry}
use Rattle.trail_log.specs.declared.trails.TrailEntry.TheVariants as entry
use Rattle.trail_log.specs.declared.trails.TrailCertificate.{TrailCertificate}
use Rattle.trail_log.specs.Fits.{LemmaFits, TrailsFit}
use Rattle.trail_log.specs.Line.{entry_in, fill_in, order_in}
use Rattle.trail_log.specs.Reading.{begun_by, fill_at, lemmas_at, named_at, order_at, text_at, trails_of}
use Rattle.trail_log.specs.Text.{fill_line, head_lines, lemma_line, order_line, trails_text, version_line}
use Rattle.trail_log.proofs.Words.{fill_above, fill_again, fill_joined, gaps_again, lemma_above, lemma_again, lemma_joined, lemma_words, order_above, order_again, order_joined}

fed_behind : (line text : List ℕ) → Lacks 10 line → behind (fed line ++ text) ≡ behind text
fed_behind line text lack = ap behind (append_assoc line (10 ∷ []) text) ∙ line_behind line text lack

-- ---- columns

column_step : (k : Kinds) (n : ℕ) (line : List ℕ) (lines : List (List ℕ)) (rest : List ℕ) (step : LogStep) (steps : List LogStep) → is_word line (codes "end") ≡ false → column_in k (words_in line) ≡ Some step → columns_at k (n + 1) lines rest ≡ Ok steps → columns_at k n (line ∷ lines) rest ≡ Ok (step ∷ steps)
unfolding columns_at
column_step k n line lines rest step steps other some later = rw (other, some, later) refl

columns_end_again : (k : Kinds) (n : ℕ) → columns_at k n (lines_in (codes "end\n")) (behind (codes "end\n")) ≡ Ok []
unfolding columns_at lines_in behind
columns_end_again k n = refl

not_end : (listed : LogStep) → is_word (join_with_byte 32 (codes "column" ∷ column_words listed)) (codes "end") ≡ false
unfolding column_words
not_end listed = refl

columns_again : (k : Kinds) (n : ℕ) (steps : List LogStep) → AreSomeKinds k → All (StepFits k) steps → columns_at k n (lines_in (flat_map column_line steps ++ codes "end\n")) (behind (flat_map column_line steps ++ codes "end\n")) ≡ Ok steps
columns_again k n [] some h = columns_end_again k n
columns_again k n (step ∷ steps) some h =
    let line = join_with_byte 32 (codes "column" ∷ column_words step) in
    let text = flat_map column_line steps ++ codes "end\n" in
    let fits : StepFits k step = All-head (StepFits k) step steps h in
    let above : All (IsAbove 32) (codes "column" ∷ column_words step) = column_above step in
    let lack : Lacks 10 line = words_lack (codes "column" ∷ column_words step) above in
    let whole : flat_map column_line (step ∷ steps) ++ codes "end\n" ≡ fed line ++ text = columns_front step steps (codes "end\n") in
    let words : column_in k (words_in line) ≡ Some step = ap (column_in k) (words_again (codes "column") (column_words step) above) ∙ column_again k step some fits in
    ap (λ (t : List ℕ). columns_at k n (lines_in t) (behind t)) whole
    ∙ (rw (fed_first line text lack, fed_behind line text lack) (column_step k n line (lines_in text) (behind text) step steps (not_end step) words (columns_again k (n + 1) steps some (All-tail (StepFits k) step steps h))))

-- ---- lemmas

entry_step : (fill order : List NetNo) (k : Kinds) (n : ℕ) (line : List ℕ) (lines : List (List ℕ)) (rest : List ℕ) (e : TrailEntry) → entry_in k.nets (words_in line) ≡ Some e → lemmas_at fill order k n (line ∷ lines) rest ≡ begun_by fill order e (lemmas_at fill order k (n + 1) lines rest) (columns_at k (n + 1) lines rest) (end_at (n + 1) lines rest)
unfolding lemmas_at
entry_step fill order k n line lines rest e some = rw some refl

open_again : (fill order : List NetNo) (k : Kinds) (n : ℕ) → lemmas_at fill order k n (lines_in (codes "open\n" ++ codes "end\n")) (behind (codes "open\n" ++ codes "end\n")) ≡ Ok (record { fill = fill; order = order; lemmas = []; best = None })
unfolding lemmas_at lines_in behind
open_again fill order k n = refl

best_again : (fill order : List NetNo) (k : Kinds) (n : ℕ) (best : Option Best) → AreSomeKinds k → IfSome best (BestFits k) → lemmas_at fill order k n (lines_in (best_text best ++ codes "end\n")) (behind (best_text best ++ codes "end\n")) ≡ Ok (record { fill = fill; order = order; lemmas = []; best = best })
best_again fill order k n None some h = open_again fill order k n
best_again fill order k n (Some best) some h =
    let line = codes "gaps " ++ decimal best.gaps in
    let text = flat_map column_line best.steps ++ codes "end\n" in
    let above : All (IsAbove 32) (codes "gaps" ∷ decimal best.gaps ∷ []) = gaps_above best.gaps in
    let lack : Lacks 10 line = words_lack (codes "gaps" ∷ decimal best.gaps ∷ []) above in
    let whole : best_text (Some best) ++ codes "end\n" ≡ fed line ++ text = gaps_front best (codes "end\n") in
    let words : entry_in k.nets (words_in line) ≡ Some (entry.Ending (ending.Gaps best.gaps)) = ap (entry_in k.nets) (words_again (codes "gaps") (decimal best.gaps ∷ []) above) ∙ gaps_again k.nets best.gaps h.few in
    ap (λ (t : List ℕ). lemmas_at fill order k n (lines_in t) (behind t)) whole
    ∙ (rw (fed_first line text lack, fed_behind line text lack) (entry_step fill order k n line (lines_in text) (behind text) (entry.Ending (ending.Gaps best.gaps)) words ∙ rw (columns_again k (n + 1) best.steps some h.steps) refl))

pub lemmas_front : (lemma : LemmaLine) (lemmas : List LemmaLine) (rest : List ℕ) → flat_map lemma_line (lemma ∷ lemmas) ++ rest ≡ fed (join_with_byte 32 (codes "lemma" ∷ lemma_words lemma)) ++ (flat_map lemma_line lemmas ++ rest)
lemmas_front lemma lemmas rest = append_assoc (lemma_line lemma) (flat_map lemma_line lemmas) rest ∙ ap (λ (bs : List ℕ). bs ++ (flat_map lemma_line lemmas ++ rest)) (sym (lemma_joined lemma))

lemmas_again : (fill order : List NetNo) (k : Kinds) (n : ℕ) (lemmas : List LemmaLine) (best : Option Best) → AreSomeKinds k → All (LemmaFits k.nets) lemmas → IfSome best (BestFits k) → lemmas_at fill order k n (lines_in (flat_map lemma_line lemmas ++ (best_text best ++ codes "end\n"))) (behind (flat_map lemma_line lemmas ++ (best_text best ++ codes "end\n"))) ≡ Ok (record { fill = fill; order = order; lemmas = lemmas; best = best })
lemmas_again fill order k n [] best some h b = best_again fill order k n best some b
lemmas_again fill order k n (lemma ∷ lemmas) best some h b =
    let line = join_with_byte 32 (codes "lemma" ∷ lemma_words lemma) in
    let text = flat_map lemma_line lemmas ++ (best_text best ++ codes "end\n") in
    let fits : LemmaFits k.nets lemma = All-head (LemmaFits k.nets) lemma lemmas h in
    let above : All (IsAbove 32) (codes "lemma" ∷ lemma_words lemma) = lemma_above lemma in
    let lack : Lacks 10 line = words_lack (codes "lemma" ∷ lemma_words lemma) above in
    let whole : flat_map lemma_line (lemma ∷ lemmas) ++ (best_text best ++ codes "end\n") ≡ fed line ++ text = lemmas_front lemma lemmas (best_text best ++ codes "end\n") in
    let words : entry_in k.nets (words_in line) ≡ Some (entry.Lemma lemma) = ap (entry_in k.nets) (words_again (codes "lemma") (lemma_words lemma) above) ∙ lemma_again k.nets lemma some.few_nets fits in
    ap (λ (t : List ℕ). lemmas_at fill order k n (lines_in t) (behind t)) whole
    ∙ (rw (fed_first line text lack, fed_behind line text lack) (entry_step fill order k n line (lines_in text) (behind text) (entry.Lemma lemma) words ∙ rw (lemmas_again fill order k (n + 1) lemmas best some (All-tail (LemmaFits k.nets) lemma lemmas h) b) refl))

-- ---- the lines in front

other_lack : (text : List ℕ) → All (λ byte. byte ≢ 10) text → Lacks 10 text
other_lack [] h = All-nil (λ b. (b == 10) ≡ false)
other_lack (b ∷ bs) h = All-cons (λ b. (b == 10) ≡ false) b bs (ne_eqb b 10 (All-head (λ byte. byte ≢ 10) b bs h)) (other_lack bs (All-tail (λ byte. byte ≢ 10) b bs h))

order_step : (fill order : List NetNo) (k : Kinds) (line : List ℕ) (lines : List (List ℕ)) (rest : List ℕ) → order_in k.nets (words_in line) ≡ Some order → order_at fill k (line ∷ lines) rest ≡ lemmas_at fill order k 5 lines rest
order_step fill order k line lines rest some = rw some refl

fill_step : (fill : List NetNo) (k : Kinds) (line : List ℕ) (lines : List (List ℕ)) (rest : List ℕ) → fill_in k.nets (words_in line) ≡ Some fill → fill_at k (line ∷ lines) rest ≡ order_at fill k lines rest
fill_step fill k line lines rest some = rw some refl

named_step : (name : List ℕ) (k : Kinds) (line : List ℕ) (lines : List (List ℕ)) (rest : List ℕ) → line ≡ codes "cell " ++ name → named_at name k (line ∷ lines) rest ≡ fill_at k lines rest
named_step name k line lines rest is = rw (is_same line (codes "cell " ++ name) is) refl

ordered_again : (k : Kinds) (trails : TrailCertificate) → AreSomeKinds k → TrailsFit k trails → order_at trails.fill k (lines_in (order_line trails.order ++ (flat_map lemma_line trails.lemmas ++ (best_text trails.best ++ codes "end\n")))) (behind (order_line trails.order ++ (flat_map lemma_line trails.lemmas ++ (best_text trails.best ++ codes "end\n")))) ≡ Ok trails
ordered_again k trails some fits =
    let line = join_with_byte 32 (codes "order" ∷ nets_text trails.order ∷ []) in
    let text = flat_map lemma_line trails.lemmas ++ (best_text trails.best ++ codes "end\n") in
    let above : All (IsAbove 32) (codes "order" ∷ nets_text trails.order ∷ []) = order_above trails.order in
    let lack : Lacks 10 line = words_lack (codes "order" ∷ nets_text trails.order ∷ []) above in
    let words : order_in k.nets (words_in line) ≡ Some trails.order = ap (order_in k.nets) (words_again (codes "order") (nets_text trails.order ∷ []) above) ∙ order_again k.nets trails.order some.few_nets fits.order in
    ap (λ (l : List ℕ). order_at trails.fill k (lines_in (l ++ text)) (behind (l ++ text))) (sym (order_joined trails.order))
    ∙ (rw (fed_first line text lack, fed_behind line text lack) (order_step trails.fill trails.order k line (lines_in text) (behind text) words ∙ lemmas_again trails.fill trails.order k 5 trails.lemmas trails.best some fits.lemmas fits.best))

filled_again : (k : Kinds) (trails : TrailCertificate) → AreSomeKinds k → TrailsFit k trails → fill_at k (lines_in (fill_line trails.fill ++ (order_line trails.order ++ (flat_map lemma_line trails.lemmas ++ (best_text trails.best ++ codes "end\n"))))) (behind (fill_line trails.fill ++ (order_line trails.order ++ (flat_map lemma_line trails.lemmas ++ (best_text trails.best ++ codes "end\n"))))) ≡ Ok trails
filled_again k trails some fits =
    let line = join_with_byte 32 (codes "fill" ∷ nets_text trails.fill ∷ []) in
    let text = order_line trails.order ++ (flat_map lemma_line trails.lemmas ++ (best_text trails.best ++ codes "end\n")) in
    let above : All (IsAbove 32) (codes "fill" ∷ nets_text trails.fill ∷ []) = fill_above trails.fill in
    let lack : Lacks 10 line = words_lack (codes "fill" ∷ nets_text trails.fill ∷ []) above in
    let words : fill_in k.nets (words_in line) ≡ Some trails.fill = ap (fill_in k.nets) (words_again (codes "fill") (nets_text trails.fill ∷ []) above) ∙ fill_again k.nets trails.fill some.few_nets fits.fill fits.increase in
    ap (λ (l : List ℕ). fill_at k (lines_in (l ++ text)) (behind (l ++ text))) (sym (fill_joined trails.fill))
    ∙ (rw (fed_first line text lack, fed_behind line text lack) (fill_step trails.fill k line (lines_in text) (behind text) words ∙ ordered_again k trails some fits))

-- the lines of a certificate, one behind the other
pub text_apart : (name : List ℕ) (trails : TrailCertificate) → trails_text name trails ≡ fed version_line ++ (fed (codes "cell " ++ name) ++ (fill_line trails.fill ++ (order_line trails.order ++ (flat_map lemma_line trails.lemmas ++ (best_text trails.best ++ codes "end\n")))))
text_apart name trails = apart name (fill_line trails.fill) (order_line trails.order) (flat_map lemma_line trails.lemmas) (best_text trails.best)
  where
    apart : (cell fill order ls best : List ℕ) → (codes "cellgen-trails 1\ncell " ++ cell ++ codes "\n") ++ fill ++ order ++ ls ++ best ++ codes "end\n" ≡ fed version_line ++ (fed (codes "cell " ++ cell) ++ (fill ++ (order ++ (ls ++ (best ++ codes "end\n")))))
    apart cell fill order ls best = simp append_assoc

-- what fits is read again
pub read_again : (name : List ℕ) (k : Kinds) (trails : TrailCertificate) → IsLogName name → AreSomeKinds k → TrailsFit k trails → trails_of (trails_text name trails) name k ≡ Ok trails
unfolding trails_of
read_again name k trails is_name some fits =
    let cell = codes "cell " ++ name in
    let later = fill_line trails.fill ++ (order_line trails.order ++ (flat_map lemma_line trails.lemmas ++ (best_text trails.best ++ codes "end\n"))) in
    let version : Lacks 10 version_line = above_lacks 31 10 version_line (omega arith) (by_test 31 version_line refl) in
    let front : Lacks 10 (codes "cell ") = above_lacks 31 10 (codes "cell ") (omega arith) (by_test 31 (codes "cell ") refl) in
    let named : Lacks 10 cell = All-append (λ b. (b == 10) ≡ false) (codes "cell ") name front (other_lack name is_name.line) in
    ap (λ (t : List ℕ). text_at name k (lines_in t) (behind t)) (text_apart name trails)
    ∙ (rw (fed_first version_line (fed cell ++ later) version, fed_behind version_line (fed cell ++ later) version, fed_first cell later named, fed_behind cell later named)
    (named_step name k cell (lines_in later) (behind later) refl ∙ filled_again k trails some fits))

-- no certificate that fits has a text that is refused
pub refused : (bytes name : List ℕ) (k : Kinds) (f : LogFault) (trails : TrailCertificate) → IsLogName name → AreSomeKinds k → trails_of bytes name k ≡ Err f → TrailsFit k trails → trails_text name trails ≢ bytes
refused bytes name k f trails is_name some h fits same = err-ok f trails (sym h ∙ (ap (λ (t : List ℕ). trails_of t name k) (sym same) ∙ read_again name k trails is_name some fits))

some_line : (lemma : LemmaLine) → 0 < length (lemma_line lemma)
some_line lemma = omega arith

lines_most : (lemmas : List LemmaLine) → length lemmas ≤ length (flat_map lemma_line lemmas)
lines_most [] = omega arith
lines_most (lemma ∷ lemmas) = omega (arith, some_line lemma, lines_most lemmas, length-append (lemma_line lemma) (flat_map lemma_line lemmas))

lemmas_within : (name : List ℕ) (trails : TrailCertificate) → length trails.lemmas ≤ length (trails_text name trails)
lemmas_within name trails =
    let front = head_lines name ++ fill_line trails.fill ++ order_line trails.order in
    let lines = flat_map lemma_line trails.lemmas in
    omega (arith, lines_most trails.lemmas, length-append ((front ++ lines) ++ best_text trails.best) (codes "end\n"), length-append (front ++ lines) (best_text trails.best), length-append front lines)

-- each lemma takes a byte at least
pub few_lemmas : (bytes name : List ℕ) (trails : TrailCertificate) → bytes ≡ trails_text name trails → length trails.lemmas ≤ length bytes
few_lemmas bytes name trails is = rw is (lemmas_within name trails)
