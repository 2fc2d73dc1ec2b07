-- What is computed of each chain of stages.
use Rattle.std.specs.Prelude.{ℕ, zero, suc, ◌≡◌, ◌≤◌, ◌+◌, ◌-◌, ◌&&◌, not, nat_le, Bool, true, false, List, [], ◌∷◌, ◌++◌, length, map, codes, decimal, Result, Ok, Err}
use Rattle.std.specs.Fmt.{digits}
use Rattle.std.specs.List.{enumerate_from, flat_map, list_all}
use Rattle.std.proofs.Common.{refl, arith}
use Rattle.cell_num.specs.Steps.{◌>>=◌}
use Rattle.cell_num.specs.declared.finger.Fingers.{Fingers}
use Rattle.cell_num.specs.declared.finger.Row.{Row}
use Rattle.cell_num.specs.declared.finger.Row.TheVariants.{P, N}
use Rattle.cell_num.specs.Fingers.{columns_of}
use Rattle.spice_text.specs.declared.logical.Line.{Line}
use Rattle.spice_text.specs.Words.{words_of}
use Rattle.tech_file.specs.Technology.{plain}
use Rattle.spice_net.specs.declared.fault.SpiceFault.{SpiceFault}
use Rattle.spice_net.specs.declared.subckt.Subckt.{Subckt}
use Rattle.spice_net.specs.Chosen.{first_is}
use Rattle.spice_net.specs.Subcircuit.{pins_of as pins_in, subckt_of, with_rails}
use Rattle.spice_net.specs.Transistors.{transistors_of as transistors_in}
use Rattle.finger_fold.specs.declared.folding.FoldFault.{FoldFault}
use Rattle.finger_fold.specs.Folding.{folded}
use Rattle.bench_command.specs.declared.net.Net.TheVariants.{Output, Vdd, Gnd}
use Rattle.bench_command.specs.declared.stage.Stage.{Stage}
use Rattle.bench_command.specs.declared.transistor.Transistor.{Transistor}
use Rattle.bench_command.specs.Cells.{second_inputs, transistors_of}
use Rattle.bench_command.specs.Text.{word_text}
use Rattle.bench_command.specs.Read.{most_cell_columns}
use Rattle.bench_command.proofs.Chains.{all_chains, one_chain}
use Rattle.bench_command.proofs.Head.{ends_dark, no_equals, parts_of}
use Rattle.bench_command.proofs.Pairs.{are_pairs}
use Rattle.bench_command.proofs.Lines.{is_kept, is_text_line, placed}

-- what stands behind the space behind a cell's name
abbrev pub pins_text : List Stage → List ℕ
pins_text stages = codes "i0" ++ flat_map word_text (flat_map second_inputs (enumerate_from 0 stages) ++ Output (length stages - 1) ∷ Vdd ∷ Gnd ∷ [])

abbrev pub model_line : Row → List ℕ
model_line P = codes " vdd p W=3u L=0.6u"
model_line N = codes " gnd n W=1.5u L=0.6u"

abbrev pub transistor_line : ℕ × Transistor → List ℕ
transistor_line numbered =
    codes "M"
    ++ decimal numbered.0
    ++ word_text numbered.1.drain
    ++ word_text numbered.1.gate
    ++ word_text numbered.1.source
    ++ model_line numbered.1.row

-- the lines inside a chain's subcircuit
abbrev pub inside_lines : List Stage → List (List ℕ)
inside_lines stages = map transistor_line (enumerate_from 0 (transistors_of stages))

-- ---- reading

-- the words of the line that begins it
abbrev pub begin_line : List ℕ → List Stage → List (List ℕ)
begin_line name stages = codes ".subckt" ∷ name ∷ parts_of (pins_text stages)

abbrev pub inside_of : ℕ → List Stage → List Line
inside_of m stages = placed (m + 1) (map words_of (inside_lines stages))

-- the subcircuit of a chain that begins at line m
abbrev pub read_chain : ℕ → List ℕ → List Line → List Stage → Result Subckt SpiceFault
read_chain m name lines stages = do
  pins ← pins_in (record { number = m; info = false; words = begin_line name stages })
  transistors ← transistors_in plain (inside_of m stages)
  subckt_of name plain (inside_of m stages) (with_rails plain lines pins) transistors

abbrev pub few_columns : Result Fingers FoldFault → Bool
few_columns (Ok f) = nat_le (columns_of f) most_cell_columns && are_pairs f
few_columns (Err e) = false

abbrev pub folds : Result Subckt SpiceFault → Bool
folds (Ok s) = few_columns (folded plain s)
folds (Err e) = false

-- ---- the tests

-- every line inside begins a logical line, which begins and ends no subcircuit
abbrev pub no_border : List ℕ → Bool
no_border line = not (first_is (codes ".subckt") (words_of line)) && not (first_is (codes ".ends") (words_of line))

abbrev pub lines_pass : List Stage → Bool
lines_pass stages = list_all is_text_line (inside_lines stages) && list_all no_border (inside_lines stages)

abbrev pub pins_pass : List Stage → Bool
pins_pass stages = list_all is_kept (pins_text stages) && list_all no_equals (pins_text stages) && ends_dark (pins_text stages)

-- how many stages a generated cell has
abbrev pub IsCellLength : ℕ → Type 0
IsCellLength n = (2 ≤ n) × (n ≤ 5)

two_lines : all_chains 2 lines_pass ≡ true
unfolding digits word_text
two_lines = refl

three_lines : all_chains 3 lines_pass ≡ true
unfolding digits word_text
three_lines = refl

four_lines : all_chains 4 lines_pass ≡ true
unfolding digits word_text
four_lines = refl

five_lines : all_chains 5 lines_pass ≡ true
unfolding digits word_text
five_lines = refl

two_pins : all_chains 2 pins_pass ≡ true
unfolding digits word_text
two_pins = refl

three_pins : all_chains 3 pins_pass ≡ true
unfolding digits word_text
three_pins = refl

four_pins : all_chains 4 pins_pass ≡ true
unfolding digits word_text
four_pins = refl

five_pins : all_chains 5 pins_pass ≡ true
unfolding digits word_text
five_pins = refl

-- a chain is read and folded, whatever its name, its place and the other lines are
abbrev pub chain_folds : ℕ → List ℕ → List Line → List Stage → Bool
chain_folds m name lines stages = folds (read_chain m name lines stages)

two_fold : (m : ℕ) (name : List ℕ) (lines : List Line) → all_chains 2 (chain_folds m name lines) ≡ true
unfolding digits word_text
two_fold m name lines = refl

three_fold : (m : ℕ) (name : List ℕ) (lines : List Line) → all_chains 3 (chain_folds m name lines) ≡ true
unfolding digits word_text
three_fold m name lines = refl

four_fold : (m : ℕ) (name : List ℕ) (lines : List Line) → all_chains 4 (chain_folds m name lines) ≡ true
unfolding digits word_text
four_fold m name lines = refl

five_fold : (m : ℕ) (name : List ℕ) (lines : List Line) → all_chains 5 (chain_folds m name lines) ≡ true
unfolding digits word_text
five_fold m name lines = refl

-- a test that all chains of two to five stages pass
by_length : (test : List Stage → Bool) → all_chains 2 test ≡ true → all_chains 3 test ≡ true → all_chains 4 test ≡ true → all_chains 5 test ≡ true → (n : ℕ) → IsCellLength n → all_chains n test ≡ true
by_length test two three four five zero h = absurd (omega arith)
by_length test two three four five (suc zero) h = absurd (omega arith)
by_length test two three four five (suc (suc zero)) h = two
by_length test two three four five (suc (suc (suc zero))) h = three
by_length test two three four five (suc (suc (suc (suc zero)))) h = four
by_length test two three four five (suc (suc (suc (suc (suc zero))))) h = five
by_length test two three four five (suc (suc (suc (suc (suc (suc n)))))) h = absurd (omega arith)

pub lines_passed : (stages : List Stage) → IsCellLength (length stages) → lines_pass stages ≡ true
lines_passed stages h = one_chain stages lines_pass (by_length lines_pass two_lines three_lines four_lines five_lines (length stages) h)

pub pins_passed : (stages : List Stage) → IsCellLength (length stages) → pins_pass stages ≡ true
pins_passed stages h = one_chain stages pins_pass (by_length pins_pass two_pins three_pins four_pins five_pins (length stages) h)

pub chain_folded : (m : ℕ) (name : List ℕ) (lines : List Line) (stages : List Stage) → IsCellLength (length stages) → chain_folds m name lines stages ≡ true
chain_folded m name lines stages h =
    let test = chain_folds m name lines in
    one_chain stages test (by_length test (two_fold m name lines) (three_fold m name lines) (four_fold m name lines) (five_fold m name lines) (length stages) h)
