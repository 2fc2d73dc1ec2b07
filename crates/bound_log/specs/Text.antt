-- The text of a log: ASCII lines, each ended by LF; numbers are decimal, and one space parts the fields.
use Rattle.std.specs.Prelude.{ℕ, Bool, true, false, List, [], ◌∷◌, ◌++◌, Option, Some, None, map, flat_map, codes}
use Rattle.std.specs.Prelude.{decimal}
use Rattle.std.specs.List.{join_with_byte}
use Rattle.cell_num.specs.declared.net.NetNo.{NetNo}
use Rattle.row_state.specs.declared.state.State.{State}
use Rattle.row_state.specs.declared.step.Side.{Side}
use Rattle.bound_log.specs.declared.log.Rule.{Rule}
use Rattle.bound_log.specs.declared.log.Rule.TheVariants as by
use Rattle.bound_log.specs.declared.log.Lemma.{Lemma}
use Rattle.bound_log.specs.declared.log.LogStep.{LogStep}
use Rattle.bound_log.specs.declared.log.Best.{Best}
use Rattle.bound_log.specs.declared.log.Log.{Log}

abbrev pub rule_text : Rule → List ℕ
rule_text by.P = codes "P"
rule_text by.N = codes "N"
rule_text by.Branch = codes "B"

-- the counts left by kind, joined by commas (byte 44); `-` for a row without kinds
abbrev pub counts_text : List ℕ → List ℕ
counts_text [] = codes "-"
counts_text (c ∷ cs) = join_with_byte 44 (map decimal (c ∷ cs))

-- further counts, each behind its comma
abbrev pub more_counts_text : List ℕ → List ℕ
more_counts_text counts = flat_map (λ count. 44 ∷ decimal count) counts

abbrev pub end_text : Option NetNo → List ℕ
end_text None = codes "-"
end_text (Some net) = decimal net.0

-- the counts left of each row, and the open end of each
abbrev pub state_text : State → List ℕ
state_text state =
    counts_text state.p_left ++ codes " " ++ counts_text state.n_left ++ codes " " ++ end_text state.p_end
    ++ codes " " ++ end_text state.n_end

abbrev pub lemma_line : Lemma → List ℕ
lemma_line lemma =
    codes "lemma "
    ++ decimal lemma.bound
    ++ codes " "
    ++ rule_text lemma.rule
    ++ codes " "
    ++ state_text lemma.state
    ++ codes "\n"

abbrev pub flip_text : Bool → List ℕ
flip_text true = codes "1"
flip_text false = codes "0"

-- a kind and its flip; an empty place has the flip 0
abbrev pub side_text : Option Side → List ℕ
side_text None = codes "- 0"
side_text (Some side) = decimal side.kind ++ codes " " ++ flip_text side.flipped

abbrev pub column_line : LogStep → List ℕ
column_line listed = codes "column " ++ decimal listed.gate.0 ++ codes " " ++ side_text listed.step.p ++ codes " "
    ++ side_text listed.step.n ++ codes "\n"

-- the first line, without its line feed
abbrev pub version_line : ℕ → List ℕ
version_line version = codes "cellgen-log " ++ decimal version

-- the first two lines, of the version and the name
abbrev pub head_lines : ℕ → List ℕ → List ℕ
head_lines version name = version_line version ++ codes "\n" ++ codes "cell " ++ name ++ codes "\n"

abbrev pub gaps_line : ℕ → List ℕ
gaps_line gaps = codes "gaps " ++ decimal gaps ++ codes "\n"

-- in place of gaps and columns
abbrev pub open_line : List ℕ
open_line = codes "open\n"

abbrev pub last_line : List ℕ
last_line = codes "end\n"

-- the gaps and the columns of the row, or `open`
abbrev pub best_text : Option Best → List ℕ
best_text None = open_line
best_text (Some best) = gaps_line best.gaps ++ flat_map column_line best.steps

abbrev pub log_text : List ℕ → Log → List ℕ
log_text name log = head_lines log.version name ++ flat_map lemma_line log.lemmas ++ best_text log.best ++ last_line
