-- The words of a call of the program.
use Rattle.std.specs.Prelude.{ℕ, ◌&&◌, nat_le, Bool, List, [], ◌∷◌, ◌++◌, Option, Some, None, length, find}
use Rattle.std.specs.Prelude.{option_map, option_and_then, codes, bytes_eq, decimal, String, if◌then◌else◌}
use Rattle.std.specs.List.{range_with_len}
use Rattle.std.specs.declared.alloc.Global.{Global}
use Rattle.cell_num.specs.Names.{is_cell}
use Rattle.call_words.specs.declared.evidence.Evidence.{Evidence}
use Rattle.call_words.specs.declared.form.Form.{Form as Read}
use Rattle.call_words.specs.declared.form.Form.TheVariants as read
use Rattle.call_words.specs.Asked.{CellAsked, RowAsked, are_row_cells, is_top, texts}
use Rattle.call_words.specs.Options.{choice_of, evidence_of, style_of, taps_of, trails_of, wiring_of}
use Rattle.cell_inputs.specs.declared.style.LeastRow.{LeastRow}
use Rattle.cell_inputs.specs.declared.style.Style.{Style}
use Rattle.scmos_rules.specs.declared.rules.Deck.{Deck}
use Rattle.scmos_rules.specs.declared.rules.Deck.TheVariants as deck

-- What a call asks for.
--   plan TECH SPICE CELL, which may end with `--trails` for another kind of evidence
--   make TECH SPICE CELL OUT, which may end with `--dogleg`, `--taps` and `--trails`, and after them with `--from FILE`
--     for the row that a file lists
--   make TECH SPICE CELL OUT [--dogleg] [--taps] --low [--trails]: the lowest of the least rows
--   check TECH SPICE CELL LOG, or with `--trails` or `--low` after the file's name: a log, a certificate by trails, a
--     certificate of tracks
--   extract TECH GDS CELL, which may end with `--taps` for the deck of cells with taps; no technology is the plain one
--   bench NUMBER
--   row TECH SPICE OUT TOP CELL CELL .., which may end with `--low` for the lowest of the least rows of each cell
--   agree TECH GDS LEF CELL
pub data Form : Type 0 where
  Plan : (cell : CellAsked) (evidence : Evidence) → Form
  Make : (cell : CellAsked) (out : List ℕ) (style : Style) (evidence : Evidence) → Form
  MakeFrom : (cell : CellAsked) (out : List ℕ) (style : Style) (file : List ℕ) (evidence : Evidence) → Form
  MakeLow : (cell : CellAsked) (out : List ℕ) (style : Style) (evidence : Evidence) → Form
  Check : (cell : CellAsked) (file : List ℕ) (evidence : Evidence) → Form
  CheckLow : (cell : CellAsked) (file : List ℕ) → Form
  Extract : (tech : Option (List ℕ)) (gds cell : List ℕ) (rules : Deck) → Form
  Bench : (number : ℕ) → Form
  Row : (row : RowAsked) (out : List ℕ) → Form
  Agree : (tech : Option (List ℕ)) (gds lef cell : List ℕ) → Form

-- the program's form of a call, by its texts
abbrev pub shown : Read → Form
shown (read.Plan cell evidence) = Plan cell evidence
shown (read.Make cell out style evidence) = Make cell out.now style evidence
shown (read.MakeFrom cell out style file evidence) = MakeFrom cell out.now style file.now evidence
shown (read.MakeLow cell out style evidence) = MakeLow cell out.now style evidence
shown (read.Check cell file evidence) = Check cell file.now evidence
shown (read.CheckLow cell file) = CheckLow cell file.now
shown (read.Extract tech gds cell rules) = Extract (option_map (λ name. name.now) tech) gds.now cell.now rules
shown (read.Bench number) = Bench number
shown (read.Row row out) = Row row out.now
shown (read.Agree tech gds lef cell) = Agree (option_map (λ name. name.now) tech) gds.now lef.now cell.now

-- a line for each form, as they are listed for who gave other words
abbrev pub usage_text : List ℕ
usage_text =
    codes "plan TECH SPICE CELL\n"
    ++ codes "make TECH SPICE CELL OUT\n"
    ++ codes "check TECH SPICE CELL LOG\n"
    ++ codes "extract TECH GDS CELL\n"
    ++ codes "bench NUMBER\n"
    ++ codes "make TECH SPICE CELL OUT --dogleg\n"
    ++ codes "make TECH SPICE CELL OUT --taps\n"
    ++ codes "make TECH SPICE CELL OUT --dogleg --taps\n"
    ++ codes "extract TECH GDS CELL --taps\n"
    ++ codes "row TECH SPICE OUT TOP CELL CELL ..\n"
    ++ codes "agree TECH GDS LEF CELL\n"
    ++ codes "plan TECH SPICE CELL --trails\n"
    ++ codes "check TECH SPICE CELL FILE --trails\n"
    ++ codes "make TECH SPICE CELL OUT [--dogleg] [--taps] --trails\n"
    ++ codes "make TECH SPICE CELL OUT [--dogleg] [--taps] [--trails] --from FILE\n"
    ++ codes "make TECH SPICE CELL OUT [--dogleg] [--taps] --low [--trails]\n"
    ++ codes "check TECH SPICE CELL FILE --low\n"
    ++ codes "row TECH SPICE OUT TOP CELL CELL .. --low\n"

-- the name of a file: not empty
abbrev pub is_file : List ℕ → Bool
is_file name = nat_le 1 (length name)

-- the technology's file, none for `-`
abbrev pub tech_of : List ℕ → Option (List ℕ)
tech_of word = if bytes_eq word (codes "-") then None else Some word

-- the cell of the words TECH SPICE CELL
abbrev pub cell_of : List ℕ → List ℕ → List ℕ → Option CellAsked
cell_of tech spice cell =
    if is_file tech && is_file spice && is_cell cell
    then Some (record { tech = tech_of tech; spice = spice; cell = cell })
    else None

-- the form of the words after a command
abbrev pub plan_of : List (List ℕ) → Option Form
plan_of (tech ∷ spice ∷ cell ∷ more) =
    option_and_then (λ evidence. option_map (λ asked. Plan asked evidence) (cell_of tech spice cell)) (evidence_of more)
plan_of _ = None

-- a drawing in a style, with its evidence, in files whose names begin so
abbrev pub making_of : Style → Evidence → List ℕ → List ℕ → List ℕ → List ℕ → Option Form
making_of style evidence tech spice cell out =
    if is_file out then option_map (λ asked. Make asked out style evidence) (cell_of tech spice cell) else None

-- a drawing of the row that a file of such evidence lists
abbrev pub making_from_of : Style → Evidence → List ℕ → List ℕ → List ℕ → List ℕ → List ℕ → Option Form
making_from_of style evidence file tech spice cell out =
    if is_file out && is_file file
    then option_map (λ asked. MakeFrom asked out style file evidence) (cell_of tech spice cell)
    else None

-- the drawing of a file's row, where the words are `--from` and the name of the file
abbrev pub given_of : Style → Evidence → List ℕ → List (List ℕ) → List ℕ → List ℕ → List ℕ → List ℕ → Option Form
given_of style evidence word (file ∷ []) tech spice cell out =
    if bytes_eq word (codes "--from") then making_from_of style evidence file tech spice cell out else None
given_of style evidence word _ tech spice cell out = None

-- the drawing of a row that is searched for, or with more words of a file's row
abbrev pub drawing_of : Style → Evidence → List (List ℕ) → List ℕ → List ℕ → List ℕ → List ℕ → Option Form
drawing_of style evidence [] tech spice cell out = making_of style evidence tech spice cell out
drawing_of style evidence (word ∷ rest) tech spice cell out =
    given_of style evidence word rest tech spice cell out

-- the drawing of a row that is searched for or of a file's row, by the words after the style
abbrev pub evident_of : Style → List (List ℕ) → List ℕ → List ℕ → List ℕ → List ℕ → Option Form
evident_of style more tech spice cell out =
    drawing_of style (trails_of more).0 (trails_of more).1 tech spice cell out

-- the drawing of the lowest of the least rows in a style, with its evidence, in files whose names begin so
abbrev pub making_low_of : Style → Evidence → List ℕ → List ℕ → List ℕ → List ℕ → Option Form
making_low_of style evidence tech spice cell out =
    if is_file out then option_map (λ asked. MakeLow asked out style evidence) (cell_of tech spice cell) else None

-- the same by the words after `--low`: the evidence of its gaps
abbrev pub low_of : Style → List (List ℕ) → List ℕ → List ℕ → List ℕ → List ℕ → Option Form
low_of style more tech spice cell out =
    option_and_then (λ evidence. making_low_of style evidence tech spice cell out) (evidence_of more)

-- a drawing in a style, by the words after it
abbrev pub styled_of : Style → List (List ℕ) → List ℕ → List ℕ → List ℕ → List ℕ → Option Form
styled_of style [] tech spice cell out = evident_of style [] tech spice cell out
styled_of style (word ∷ more) tech spice cell out =
    if bytes_eq word (codes "--low")
    then low_of style more tech spice cell out
    else evident_of style (word ∷ more) tech spice cell out

-- the words after OUT: `--dogleg`, `--taps`, `--trails` and `--from FILE` in this order, or some of them; or
-- `--dogleg`, `--taps`, `--low` and `--trails`, of which `--low` has to be there
abbrev pub make_of : List (List ℕ) → Option Form
make_of (tech ∷ spice ∷ cell ∷ out ∷ more) =
    styled_of (style_of more) (taps_of (wiring_of more).1).1 tech spice cell out
make_of _ = None

-- a file of evidence that is checked
abbrev pub checking_of : Evidence → List ℕ → List ℕ → List ℕ → List ℕ → Option Form
checking_of evidence tech spice cell file =
    if is_file file then option_map (λ asked. Check asked file evidence) (cell_of tech spice cell) else None

-- a certificate of tracks that is checked
abbrev pub checking_low_of : List ℕ → List ℕ → List ℕ → List ℕ → Option Form
checking_low_of tech spice cell file =
    if is_file file then option_map (λ asked. CheckLow asked file) (cell_of tech spice cell) else None

-- a file of evidence that is checked, by the words after its name
abbrev pub checking_by : List (List ℕ) → List ℕ → List ℕ → List ℕ → List ℕ → Option Form
checking_by more tech spice cell file =
    option_and_then (λ evidence. checking_of evidence tech spice cell file) (evidence_of more)

-- a file that is checked, by the words after its name
abbrev pub checked_of : List (List ℕ) → List ℕ → List ℕ → List ℕ → List ℕ → Option Form
checked_of (word ∷ []) tech spice cell file =
    if bytes_eq word (codes "--low")
    then checking_low_of tech spice cell file
    else checking_by (word ∷ []) tech spice cell file
checked_of more tech spice cell file = checking_by more tech spice cell file

abbrev pub check_of : List (List ℕ) → Option Form
check_of (tech ∷ spice ∷ cell ∷ file ∷ more) = checked_of more tech spice cell file
check_of _ = None

-- a layout that is checked by these rules
abbrev pub extracting_of : Deck → List ℕ → List ℕ → List ℕ → Option Form
extracting_of rules tech gds cell =
    if is_file tech && is_file gds && is_cell cell then Some (Extract (tech_of tech) gds cell rules) else None

abbrev pub extract_of : List (List ℕ) → Option Form
extract_of (tech ∷ gds ∷ cell ∷ []) = extracting_of deck.Plain tech gds cell
extract_of (tech ∷ gds ∷ cell ∷ word ∷ []) =
    if bytes_eq word (codes "--taps") then extracting_of deck.Taps tech gds cell else None
extract_of _ = None

-- a number of generated cells, 1 to 200, in decimal digits
unfoldable pub bench_number : List ℕ → Option ℕ
bench_number word = find (λ n. bytes_eq (decimal n) word) (range_with_len 1 200)

abbrev pub bench_of : List (List ℕ) → Option Form
bench_of (word ∷ []) = option_map (λ number. Bench number) (bench_number word)
bench_of _ = None

-- the row of the words TECH SPICE TOP CELL CELL .., with this choice of each cell's row
abbrev pub asked_row : LeastRow → List ℕ → List ℕ → List ℕ → List (List ℕ) → Option RowAsked
asked_row choice tech spice top cells =
    if is_file tech && is_file spice && is_top top cells && are_row_cells cells
    then Some (record { tech = tech_of tech; spice = spice; top = top; cells = cells; choice = choice })
    else None

abbrev pub row_of : List (List ℕ) → Option Form
row_of (tech ∷ spice ∷ out ∷ top ∷ more) =
    if is_file out
    then option_map (λ row. Row row out) (asked_row (choice_of more).0 tech spice top (choice_of more).1)
    else None
row_of _ = None

abbrev pub agree_of : List (List ℕ) → Option Form
agree_of (tech ∷ gds ∷ lef ∷ cell ∷ []) =
    if is_file tech && is_file gds && is_file lef && is_cell cell
    then Some (Agree (tech_of tech) gds lef cell)
    else None
agree_of _ = None

-- the form of some words, by the command first; None where they have none
abbrev pub form_of : List (List ℕ) → Option Form
form_of [] = None
form_of (command ∷ rest) =
    if bytes_eq command (codes "plan") then plan_of rest
    else if bytes_eq command (codes "make") then make_of rest
    else if bytes_eq command (codes "check") then check_of rest
    else if bytes_eq command (codes "extract") then extract_of rest
    else if bytes_eq command (codes "bench") then bench_of rest
    else if bytes_eq command (codes "row") then row_of rest
    else if bytes_eq command (codes "agree") then agree_of rest
    else None

abbrev pub asked : List (String Global) → Option Form
asked words = form_of (texts words)
