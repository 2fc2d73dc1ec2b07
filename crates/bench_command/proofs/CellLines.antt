-- The lines of a generated cell, and their words.
use Rattle.std.specs.Prelude.{ℕ, ◌≡◌, ◌≢◌, ◌<◌, ◌^◌, ◌&&◌, not, true, List, [], ◌∷◌, ◌++◌, bytes_eq, codes, length, map}
use Rattle.std.specs.List.{flat_map, list_all}
use Rattle.std.proofs.Common.{refl, ap, arith, ◌∙◌}
use Rattle.std.proofs.lemmas.Bool.{and_from, and_left, and_parts, not-true, not_from_false}
use Rattle.std.proofs.lemmas.List.{map-append}
use Rattle.std.proofs.lemmas.List.Folds.{list_all-append}
use Rattle.std.proofs.lemmas.List.FromFn.{length-map-range_with_len}
use Rattle.spice_text.specs.Words.{words_of}
use Rattle.spice_net.specs.Chosen.{first_is, second_is}
use Rattle.bench_command.specs.declared.stage.Stage.{Stage}
use Rattle.bench_command.specs.Cells.{stage_at, stage_count, stages_of}
use Rattle.bench_command.specs.Text.{cell_name}
use Rattle.bench_command.proofs.Choice.{begin_words, end_words}
use Rattle.bench_command.proofs.Head.{ends_dark, head_words, no_equals}
use Rattle.bench_command.proofs.Lines.{is_kept, is_text_line}
use Rattle.bench_command.proofs.Names.{name_dark, name_free, name_kept, name_low, names_differ}
use Rattle.bench_command.proofs.Tests.{IsCellLength, begin_line, inside_lines, lines_passed, no_border, pins_passed, pins_text}
use Rattle.bench_command.proofs.Texts.{cell_lines, end_line, head_line}

pub cell_length : (cell : ℕ) → IsCellLength (length (stages_of cell))
cell_length cell =
    let many = length-map-range_with_len (stage_at cell) 0 (stage_count cell) in
    (omega (arith, many), omega (arith, many))

-- ---- what its pins and the lines inside pass

pub record PinsPass (stages : List Stage) : Type 0 where
  pub kept : list_all is_kept (pins_text stages) ≡ true
  pub free : list_all no_equals (pins_text stages) ≡ true
  pub dark : ends_dark (pins_text stages) ≡ true

pins_of : (cell : ℕ) → PinsPass (stages_of cell)
pins_of cell =
    let text = pins_text (stages_of cell) in
    let last = and_parts (list_all is_kept text && list_all no_equals text) (ends_dark text) (pins_passed (stages_of cell) (cell_length cell)) in
    let both = and_parts (list_all is_kept text) (list_all no_equals text) last.0 in
    record { kept = both.0; free = both.1; dark = last.1 }

pub record LinesPass (lines : List (List ℕ)) : Type 0 where
  pub begin : list_all is_text_line lines ≡ true
  pub inner : list_all no_border lines ≡ true

pub lines_of : (cell : ℕ) → LinesPass (inside_lines (stages_of cell))
lines_of cell =
    let lines = inside_lines (stages_of cell) in
    let both = and_parts (list_all is_text_line lines) (list_all no_border lines) (lines_passed (stages_of cell) (cell_length cell)) in
    record { begin = both.0; inner = both.1 }

-- ---- each of its lines begins a logical line

head_begins : (cell : ℕ) → is_text_line (head_line cell (stages_of cell)) ≡ true
head_begins cell =
    let pins = pins_text (stages_of cell) in
    list_all-append is_kept (cell_name cell) (32 ∷ pins) ∙ and_from (list_all is_kept (cell_name cell)) (list_all is_kept pins) (name_kept cell) (pins_of cell).kept

pub lines_begin : (cell : ℕ) → list_all is_text_line (cell_lines cell) ≡ true
lines_begin cell =
    let lines = inside_lines (stages_of cell) in
    let behind : list_all is_text_line (lines ++ end_line ∷ []) ≡ true = list_all-append is_text_line lines (end_line ∷ []) ∙ and_from (list_all is_text_line lines) true (lines_of cell).begin refl in
    and_from (is_text_line (head_line cell (stages_of cell))) (list_all is_text_line (lines ++ end_line ∷ [])) (head_begins cell) behind

-- ---- their words

abbrev pub ended : List (List ℕ)
ended = codes ".ends" ∷ []

abbrev pub inside_words : ℕ → List (List (List ℕ))
inside_words cell = map words_of (inside_lines (stages_of cell))

abbrev pub cell_words : ℕ → List (List (List ℕ))
cell_words cell = begin_line (cell_name cell) (stages_of cell) ∷ (inside_words cell ++ ended ∷ [])

begins_with : (cell : ℕ) → words_of (head_line cell (stages_of cell)) ≡ begin_line (cell_name cell) (stages_of cell)
begins_with cell =
    let pins = pins_of cell in
    head_words (cell_name cell) (pins_text (stages_of cell)) (omega arith) (name_dark cell) (name_free cell) (name_low cell) pins.free pins.dark

words_are : (cell : ℕ) → map words_of (cell_lines cell) ≡ cell_words cell
words_are cell = rw (begins_with cell, map-append words_of (inside_lines (stages_of cell)) (end_line ∷ [])) refl

pub words_of_cells : (cells : List ℕ) → map words_of (flat_map cell_lines cells) ≡ flat_map cell_words cells
words_of_cells [] = refl
words_of_cells (cell ∷ more) =
    map-append words_of (cell_lines cell) (flat_map cell_lines more)
    ∙ (ap (λ (words : List (List (List ℕ))). words ++ map words_of (flat_map cell_lines more)) (words_are cell)
    ∙ ap (λ (words : List (List (List ℕ))). cell_words cell ++ words) (words_of_cells more))

-- ---- where subcircuits begin and end

not_begun : (name : List ℕ) (lines : List (List ℕ)) → list_all no_border lines ≡ true → list_all (λ words. not (begin_words name words)) (map words_of lines) ≡ true
not_begun name [] h = refl
not_begun name (line ∷ lines) h =
    let parts = and_parts (no_border line) (list_all no_border lines) h in
    let begins = first_is (codes ".subckt") (words_of line) in
    let here = and_parts (not begins) (not (end_words (words_of line))) parts.0 in
    and_from (not (begin_words name (words_of line))) _ (not_from_false (begin_words name (words_of line)) (and_left begins (second_is name (words_of line)) (not-true begins here.0))) (not_begun name lines parts.1)

not_ended : (lines : List (List ℕ)) → list_all no_border lines ≡ true → list_all (λ words. not (end_words words)) (map words_of lines) ≡ true
not_ended [] h = refl
not_ended (line ∷ lines) h =
    let parts = and_parts (no_border line) (list_all no_border lines) h in
    let here = and_parts (not (first_is (codes ".subckt") (words_of line))) (not (end_words (words_of line))) parts.0 in
    and_from (not (end_words (words_of line))) _ here.1 (not_ended lines parts.1)

pub none_ends : (cell : ℕ) → list_all (λ words. not (end_words words)) (inside_words cell) ≡ true
none_ends cell = not_ended (inside_lines (stages_of cell)) (lines_of cell).inner

-- no line of a cell begins another one
pub other_begins : (one other : ℕ) → one < 2 ^ 64 → other < 2 ^ 64 → one ≢ other → list_all (λ words. not (begin_words (cell_name other) words)) (cell_words one) ≡ true
other_begins one other first second differ =
    let test = λ (words : List (List ℕ)). not (begin_words (cell_name other) words) in
    let inside = not_begun (cell_name other) (inside_lines (stages_of one)) (lines_of one).inner in
    let behind : list_all test (inside_words one ++ ended ∷ []) ≡ true = list_all-append test (inside_words one) (ended ∷ []) ∙ and_from (list_all test (inside_words one)) true inside refl in
    and_from (test (begin_line (cell_name one) (stages_of one))) (list_all test (inside_words one ++ ended ∷ [])) (not_from_false (bytes_eq (cell_name one) (cell_name other)) (names_differ one other first second differ)) behind
