-- Each generated cell is read from the text of all of them.
use Rattle.std.specs.Prelude.{ℕ, zero, suc, ◌≡◌, ◌+◌, ◌-◌, ◌<◌, ◌≤◌, ◌^◌, not, Bool, true, false, List, [], ◌∷◌, ◌++◌, nat_le, Result, Ok, Err}
use Rattle.std.specs.List.{flat_map, list_all, range_with_len}
use Rattle.std.proofs.Common.{refl, ap, arith, ◌∙◌}
use Rattle.std.proofs.lemmas.Bool.{and_from, and_parts, leb-true}
use Rattle.std.proofs.lemmas.List.{append_assoc}
use Rattle.std.proofs.lemmas.List.Concat.{flat_map-append}
use Rattle.std.proofs.lemmas.List.Folds.{list_all-append}
use Rattle.cell_num.specs.declared.finger.Fingers.{Fingers}
use Rattle.cell_num.specs.Fingers.{columns_of}
use Rattle.spice_text.specs.declared.logical.Line.{Line}
use Rattle.spice_text.specs.Logical.{split_of}
use Rattle.tech_file.specs.Technology.{plain}
use Rattle.spice_net.specs.declared.fault.SpiceFault.{SpiceFault}
use Rattle.spice_net.specs.declared.subckt.Subckt.{Subckt}
use Rattle.spice_net.specs.Chosen.{chosen_in, lines_in, of_text}
use Rattle.spice_net.specs.Subcircuit.{subcircuit}
use Rattle.finger_fold.specs.declared.folding.FoldFault.{FoldFault}
use Rattle.finger_fold.specs.Folding.{folded}
use Rattle.bench_command.specs.Cells.{stages_of}
use Rattle.bench_command.specs.Text.{bench_text, cell_name}
use Rattle.bench_command.specs.Read.{IsRead, most_cell_columns}
use Rattle.bench_command.proofs.CellLines.{cell_length, cell_words, ended, inside_words, lines_begin, none_ends, other_begins, words_of_cells}
use Rattle.bench_command.proofs.Choice.{begin_words, chosen_lines, no_comments}
use Rattle.bench_command.proofs.Lines.{is_text_line, lines_read, placed}
use Rattle.bench_command.proofs.Names.{name_same}
use Rattle.bench_command.proofs.Pairs.{are_pairs, paired_gates, single_gates}
use Rattle.bench_command.proofs.Tests.{begin_line, chain_folded, few_columns, folds, read_chain}
use Rattle.bench_command.proofs.Texts.{bench_fed, cell_lines}

-- ---- the cells numbered below

abbrev cells_below : ℕ → List ℕ
cells_below number = range_with_len 0 number

range_apart : (a k n : ℕ) → range_with_len a (k + n) ≡ range_with_len a k ++ range_with_len (a + k) n
range_apart a zero n =
    let none : zero + n ≡ n = omega arith in
    let same : a + zero ≡ a = omega arith in
    rw (none, same) refl
range_apart a (suc k) n =
    let one : suc k + n ≡ suc (k + n) = omega arith in
    let next : a + 1 + k ≡ a + suc k = omega arith in
    rw (one, range_apart (a + 1) k n, next) refl

pub cells_apart : (cell number : ℕ) → cell < number → cells_below number ≡ cells_below cell ++ (cell ∷ range_with_len (cell + 1) (number - cell - 1))
cells_apart cell number below =
    let behind = number - cell - 1 in
    let whole : number ≡ cell + suc behind = omega (arith, below) in
    let same : 0 + cell ≡ cell = omega arith in
    ap cells_below whole ∙ (range_apart 0 cell (suc behind) ∙ ap (λ (c : ℕ). cells_below cell ++ range_with_len c (suc behind)) same)

passed_below : {X : Type 0} (p : X → Bool) (f : ℕ → List X) (top a n : ℕ) → a + n ≤ top → ((c : ℕ) → c < top → list_all p (f c) ≡ true) → list_all p (flat_map f (range_with_len a n)) ≡ true
passed_below p f top a zero few h = refl
passed_below p f top a (suc n) few h =
    let later : list_all p (flat_map f (range_with_len (a + 1) n)) ≡ true = passed_below p f top (a + 1) n (omega (arith, few)) h in
    list_all-append p (f a) (flat_map f (range_with_len (a + 1) n)) ∙ and_from (list_all p (f a)) (list_all p (flat_map f (range_with_len (a + 1) n))) (h a (omega (arith, few))) later

-- ---- the lines of the text

pub bench_split : (number : ℕ) → split_of (bench_text number) ≡ Ok (placed 1 (flat_map cell_words (cells_below number)))
bench_split number =
    let lines = flat_map cell_lines (cells_below number) in
    let each : list_all is_text_line lines ≡ true = passed_below is_text_line cell_lines number 0 number (omega arith) (λ c below. lines_begin c) in
    ap split_of (bench_fed number) ∙ (lines_read lines each ∙ ap (λ (words : List (List (List ℕ))). Ok (placed 1 words)) (words_of_cells (cells_below number)))

-- the words of the lines behind a cell
abbrev later_words : ℕ → ℕ → List (List (List ℕ))
later_words cell number = flat_map cell_words (range_with_len (cell + 1) (number - cell - 1))

words_apart : (cell number : ℕ) → cell < number → flat_map cell_words (cells_below number) ≡ flat_map cell_words (cells_below cell) ++ (begin_line (cell_name cell) (stages_of cell) ∷ (inside_words cell ++ ended ∷ later_words cell number))
words_apart cell number below =
    let before = flat_map cell_words (cells_below cell) in
    let head = begin_line (cell_name cell) (stages_of cell) in
    let own : cell_words cell ++ later_words cell number ≡ head ∷ (inside_words cell ++ ended ∷ later_words cell number) = ap (λ (words : List (List (List ℕ))). head ∷ words) (append_assoc (inside_words cell) (ended ∷ []) (later_words cell number)) in
    ap (flat_map cell_words) (cells_apart cell number below)
    ∙ (flat_map-append cell_words (cells_below cell) (cell ∷ range_with_len (cell + 1) (number - cell - 1))
    ∙ ap (λ (words : List (List (List ℕ))). before ++ words) own)

none_before : (cell : ℕ) → cell < 2 ^ 64 → list_all (λ words. not (begin_words (cell_name cell) words)) (flat_map cell_words (cells_below cell)) ≡ true
none_before cell small = passed_below (λ words. not (begin_words (cell_name cell) words)) cell_words cell 0 cell (omega arith) (λ c below. other_begins c cell (omega (arith, below, small)) small (λ e. omega (arith, e, below)))

-- ---- what is read

-- the subcircuit that is read is that of the cell's own lines
own_read : (cell number : ℕ) → cell < number → number ≤ 2 ^ 64 → (m : ℕ) × (lines : List Line) × (subcircuit (bench_text number) (cell_name cell) plain ≡ read_chain m (cell_name cell) lines (stages_of cell))
own_read cell number below small =
    let name = cell_name cell in
    let head = begin_line name (stages_of cell) in
    let all = flat_map cell_words (cells_below number) in
    let before = flat_map cell_words (cells_below cell) in
    let chosen = chosen_lines name 1 before head (inside_words cell) ended (later_words cell number) (none_before cell (omega (arith, below, small))) (name_same cell) (none_ends cell) refl in
    let m = chosen.0 in
    let found : chosen_in name (placed 1 all) ≡ Ok (record { head = record { number = m; info = false; words = head }; inside = placed (m + 1) (inside_words cell) }) = ap (λ (words : List (List (List ℕ))). chosen_in name (placed 1 words)) (words_apart cell number below) ∙ chosen.1 in
    let read : lines_in (bench_text number) ≡ Ok (placed 1 all) = ap of_text (bench_split number) in
    (m, placed 1 all, rw read (rw found (rw (no_comments (m + 1) (inside_words cell)) refl)))

-- what is read folds into few columns of paired fingers
record Folds (read : Result Subckt SpiceFault) : Type 0 where
  pub subckt : Subckt
  pub fingers : Fingers
  pub is : read ≡ Ok subckt
  pub fold : folded plain subckt ≡ Ok fingers
  pub few : columns_of fingers ≤ most_cell_columns
  pub pairs : are_pairs fingers ≡ true

read_folds : (read : Result Subckt SpiceFault) → folds read ≡ true → Folds read
read_folds (Err e) h = absurd cc
read_folds (Ok s) h = by_fold (folded plain s) refl h
  where
    by_fold : (r : Result Fingers FoldFault) → folded plain s ≡ r → few_columns r ≡ true → Folds (Ok s)
    by_fold (Err e) is few = absurd cc
    by_fold (Ok f) is few =
        let parts = and_parts (nat_le (columns_of f) most_cell_columns) (are_pairs f) few in
        record { subckt = s; fingers = f; is = refl; fold = is; few = leb-true (columns_of f) most_cell_columns parts.0; pairs = parts.1 }

pub cell_is_read : (number cell : ℕ) → number ≤ 2 ^ 64 → cell < number → IsRead number cell
cell_is_read number cell small below =
    let own = own_read cell number below small in
    let f = read_folds (read_chain own.0 (cell_name cell) own.1 (stages_of cell)) (chain_folded own.0 (cell_name cell) own.1 (stages_of cell) (cell_length cell)) in
    record {
      subckt = f.subckt;
      fingers = f.fingers;
      read = own.2 ∙ f.is;
      fold = f.fold;
      few = f.few;
      single = single_gates f.fingers f.pairs;
      paired = paired_gates f.fingers f.pairs;
    }
