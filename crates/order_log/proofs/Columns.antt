-- The columns of a row are read again.
use Rattle.std.specs.Prelude.{ℕ, ◌≡◌, ◌+◌, false, List, [], ◌∷◌, ◌++◌, Some, Ok, All, codes}
use Rattle.std.proofs.Common.{refl, ap, ◌∙◌}
use Rattle.std.specs.List.{flat_map, join_with_byte}
use Rattle.std.proofs.lemmas.List.{append_assoc}
use Rattle.std.proofs.lemmas.List.Elements.{All-head, All-tail}
use Rattle.row_state.specs.declared.kind.Kinds.{Kinds}
use Rattle.row_state.specs.Start.{AreSomeKinds}
use Rattle.log_lines.specs.Words.{is_word, words_in}
use Rattle.log_lines.specs.Lines.{behind, lines_in}
use Rattle.log_lines.proofs.Splits.{IsAbove, Lacks, fed, line_behind}
use Rattle.bound_log.specs.declared.log.LogStep.{LogStep}
use Rattle.bound_log.specs.Fits.{StepFits}
use Rattle.bound_log.specs.Line.{column_in}
use Rattle.bound_log.specs.Reading.{columns_at}
use Rattle.bound_log.specs.Text.{column_line}
use Rattle.bound_log.proofs.Again.{column_above, column_again, words_again, words_lack}
use Rattle.bound_log.proofs.Spelled.{column_words}
use Rattle.bound_log.proofs.Whole.{columns_front, fed_first}

-- a line in front of a text changes nothing behind its lines
pub fed_behind : (line text : List ℕ) → Lacks 10 line → behind (fed line ++ text) ≡ behind text
fed_behind line text lack = ap behind (append_assoc line (10 ∷ []) text) ∙ line_behind line text lack

column_step : (k : Kinds) (n : ℕ) (line : List ℕ) (lines : List (List ℕ)) (rest : List ℕ) (step : LogStep) (steps : List LogStep) → is_word line (codes "end") ≡ false → column_in k (words_in line) ≡ Some step → columns_at k (n + 1) lines rest ≡ Ok steps → columns_at k n (line ∷ lines) rest ≡ Ok (step ∷ steps)
unfolding columns_at
column_step k n line lines rest step steps other some later = rw (other, some, later) refl

columns_end_again : (k : Kinds) (n : ℕ) → columns_at k n (lines_in (codes "end\n")) (behind (codes "end\n")) ≡ Ok []
unfolding columns_at lines_in behind
columns_end_again k n = refl

not_end : (listed : LogStep) → is_word (join_with_byte 32 (codes "column" ∷ column_words listed)) (codes "end") ≡ false
unfolding column_words
not_end listed = refl

pub columns_again : (k : Kinds) (n : ℕ) (steps : List LogStep) → AreSomeKinds k → All (StepFits k) steps → columns_at k n (lines_in (flat_map column_line steps ++ codes "end\n")) (behind (flat_map column_line steps ++ codes "end\n")) ≡ Ok steps
columns_again k n [] some h = columns_end_again k n
columns_again k n (step ∷ steps) some h =
    let line = join_with_byte 32 (codes "column" ∷ column_words step) in
    let text = flat_map column_line steps ++ codes "end\n" in
    let fits : StepFits k step = All-head (StepFits k) step steps h in
    let above : All (IsAbove 32) (codes "column" ∷ column_words step) = column_above step in
    let lack : Lacks 10 line = words_lack (codes "column" ∷ column_words step) above in
    let whole : flat_map column_line (step ∷ steps) ++ codes "end\n" ≡ fed line ++ text = columns_front step steps (codes "end\n") in
    let words : column_in k (words_in line) ≡ Some step = ap (column_in k) (words_again (codes "column") (column_words step) above) ∙ column_again k step some fits in
    ap (λ (t : List ℕ). columns_at k n (lines_in t) (behind t)) whole
    ∙ (rw (fed_first line text lack, fed_behind line text lack) (column_step k n line (lines_in text) (behind text) step steps (not_end step) words (columns_again k (n + 1) steps some (All-tail (StepFits k) step steps h))))
