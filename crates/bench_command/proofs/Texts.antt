-- The text of generated cells, line by line.
use Rattle.std.specs.Prelude.{ℕ, ◌≡◌, List, [], ◌∷◌, ◌++◌, map, codes, decimal}
use Rattle.std.specs.List.{enumerate_from, flat_map, range_with_len}
use Rattle.std.proofs.Common.{refl, sym, ap, ◌∙◌}
use Rattle.std.proofs.lemmas.List.{append_assoc}
use Rattle.std.proofs.lemmas.List.Concat.{flat_map-append}
use Rattle.cell_num.specs.declared.finger.Row.{Row}
use Rattle.cell_num.specs.declared.finger.Row.TheVariants.{P, N}
use Rattle.bench_command.specs.declared.stage.Stage.{Stage}
use Rattle.bench_command.specs.declared.transistor.Transistor.{Transistor}
use Rattle.bench_command.specs.Cells.{stages_of, transistors_of}
use Rattle.bench_command.specs.Text.{bench_text, cell_name, cell_text, chain_text, head_text, model_text, transistor_text, word_text}
use Rattle.bench_command.proofs.Lines.{fed}
use Rattle.bench_command.proofs.Tests.{inside_lines, model_line, pins_text, transistor_line}

abbrev pub head_line : ℕ → List Stage → List ℕ
head_line cell stages = codes ".SUBCKT " ++ cell_name cell ++ 32 ∷ pins_text stages

abbrev pub end_line : List ℕ
end_line = codes ".ENDS"

-- the lines of a cell
abbrev pub chain_lines : ℕ → List Stage → List (List ℕ)
chain_lines cell stages = head_line cell stages ∷ (inside_lines stages ++ end_line ∷ [])

abbrev pub cell_lines : ℕ → List (List ℕ)
cell_lines cell = chain_lines cell (stages_of cell)

head_fed : (cell : ℕ) (stages : List Stage) → head_text cell stages ≡ fed (head_line cell stages)
unfolding head_text word_text
head_fed cell stages = refl

model_fed : (row : Row) → model_text row ≡ fed (model_line row)
unfolding model_text
model_fed P = refl
model_fed N = refl

transistor_fed : (numbered : ℕ × Transistor) → transistor_text numbered ≡ fed (transistor_line numbered)
unfolding transistor_text
transistor_fed numbered =
    let front = codes "M" ++ decimal numbered.0 ++ word_text numbered.1.drain ++ word_text numbered.1.gate ++ word_text numbered.1.source in
    rw (model_fed numbered.1.row) (sym (append_assoc front (model_line numbered.1.row) (10 ∷ [])))

transistors_fed : (each : List (ℕ × Transistor)) → flat_map transistor_text each ≡ flat_map fed (map transistor_line each)
transistors_fed [] = refl
transistors_fed (one ∷ more) = rw (transistor_fed one, transistors_fed more) refl

chain_fed : (cell : ℕ) (stages : List Stage) → chain_text cell stages ≡ flat_map fed (chain_lines cell stages)
unfolding chain_text
chain_fed cell stages =
    let inside : flat_map fed (inside_lines stages ++ end_line ∷ []) ≡ flat_map fed (inside_lines stages) ++ codes ".ENDS\n" = flat_map-append fed (inside_lines stages) (end_line ∷ []) in
    let head = fed (head_line cell stages) in
    rw (head_fed cell stages, transistors_fed (enumerate_from 0 (transistors_of stages)))
    (append_assoc head (flat_map fed (inside_lines stages)) (codes ".ENDS\n") ∙ ap (λ (t : List ℕ). head ++ t) (sym inside))

cells_fed : (cells : List ℕ) → flat_map cell_text cells ≡ flat_map fed (flat_map cell_lines cells)
cells_fed [] = refl
cells_fed (cell ∷ more) = rw (chain_fed cell (stages_of cell), cells_fed more) (sym (flat_map-append fed (cell_lines cell) (flat_map cell_lines more)))

pub bench_fed : (number : ℕ) → bench_text number ≡ flat_map fed (flat_map cell_lines (range_with_len 0 number))
bench_fed number = cells_fed (range_with_len 0 number)
