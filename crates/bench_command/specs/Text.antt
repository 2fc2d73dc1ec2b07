-- The generated cells as the text of a SPICE file.
use Rattle.std.specs.Prelude.{ℕ, List, ◌++◌, codes, decimal}
use Rattle.std.specs.List.{enumerate_from, flat_map, range_with_len}
use Rattle.cell_num.specs.declared.finger.Row.{Row}
use Rattle.cell_num.specs.declared.finger.Row.TheVariants.{P, N}
use Rattle.bench_command.specs.declared.net.Net.{Net}
use Rattle.bench_command.specs.declared.net.Net.TheVariants.{Input, Second, Output, Inner, Vdd, Gnd}
use Rattle.bench_command.specs.declared.stage.Stage.{Stage}
use Rattle.bench_command.specs.declared.transistor.Transistor.{Transistor}
use Rattle.bench_command.specs.Cells.{pins_of, stages_of, transistors_of}

abbrev pub cell_name : ℕ → List ℕ
cell_name cell = codes "c" ++ decimal cell

abbrev pub net_text : Net → List ℕ
net_text Input = codes "i0"
net_text (Second stage) = codes "s" ++ decimal stage
net_text (Output stage) = codes "o" ++ decimal stage
net_text (Inner stage) = codes "t" ++ decimal stage
net_text Vdd = codes "vdd"
net_text Gnd = codes "gnd"

-- a net after a space
unfoldable pub word_text : Net → List ℕ
word_text net = codes " " ++ net_text net

unfoldable pub head_text : ℕ → List Stage → List ℕ
head_text cell stages = codes ".SUBCKT " ++ cell_name cell ++ flat_map word_text (pins_of stages) ++ codes "\n"

-- the bulk, the model and the size of a transistor
unfoldable pub model_text : Row → List ℕ
model_text P = codes " vdd p W=3u L=0.6u\n"
model_text N = codes " gnd n W=1.5u L=0.6u\n"

unfoldable pub transistor_text : ℕ × Transistor → List ℕ
transistor_text numbered =
    codes "M"
    ++ decimal numbered.0
    ++ word_text numbered.1.drain
    ++ word_text numbered.1.gate
    ++ word_text numbered.1.source
    ++ model_text numbered.1.row

-- the subcircuit of a chain of stages
unfoldable pub chain_text : ℕ → List Stage → List ℕ
chain_text cell stages =
    head_text cell stages
    ++ flat_map transistor_text (enumerate_from 0 (transistors_of stages))
    ++ codes ".ENDS\n"

abbrev pub cell_text : ℕ → List ℕ
cell_text cell = chain_text cell (stages_of cell)

-- the cells with the numbers below `cells`
abbrev pub bench_text : ℕ → List ℕ
bench_text cells = flat_map cell_text (range_with_len 0 cells)
