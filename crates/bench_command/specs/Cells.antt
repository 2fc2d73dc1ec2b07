-- A generated cell is a chain of stages: the first input of each is the output of the one before it. Its other nets
-- are numbered by stage.
use Rattle.std.specs.Prelude.{ℕ, ◌+◌, ◌-◌, ◌%◌, ◌==◌, List, [], ◌∷◌, ◌++◌, length, map, if◌then◌else◌}
use Rattle.std.specs.List.{enumerate_from, flat_map, range_with_len}
use Rattle.cell_num.specs.declared.finger.Row.TheVariants.{P, N}
use Rattle.bench_command.specs.declared.net.Net.{Net}
use Rattle.bench_command.specs.declared.net.Net.TheVariants.{Input, Second, Output, Inner, Vdd, Gnd}
use Rattle.bench_command.specs.declared.stage.Stage.{Stage}
use Rattle.bench_command.specs.declared.stage.Stage.TheVariants.{Inverter, Nand2, Nor2}
use Rattle.bench_command.specs.declared.transistor.Transistor.{Transistor}
use Rattle.bench_command.specs.Draws.{draw}

-- ---- stages

abbrev pub stage_of : ℕ → Stage
stage_of drawn = if drawn % 3 == 0 then Inverter else if drawn % 3 == 1 then Nand2 else Nor2

-- The draws of a cell have its number as the seed. The first one gives the number of stages, 2 to 5,
abbrev pub stage_count : ℕ → ℕ
stage_count cell = 2 + draw cell 0 % 4

-- and each further one gives a stage.
abbrev pub stage_at : ℕ → ℕ → Stage
stage_at cell place = stage_of (draw cell (place + 1))

abbrev pub stages_of : ℕ → List Stage
stages_of cell = map (stage_at cell) (range_with_len 0 (stage_count cell))

-- ---- pins

-- the second input of a stage at a place, where it has one
abbrev pub second_inputs : ℕ × Stage → List Net
second_inputs (stage, Inverter) = []
second_inputs (stage, Nand2) = Second stage ∷ []
second_inputs (stage, Nor2) = Second stage ∷ []

-- the first input, the second ones in order, the last output and the rails
abbrev pub pins_of : List Stage → List Net
pins_of stages = Input ∷ flat_map second_inputs (enumerate_from 0 stages) ++ Output (length stages - 1) ∷ Vdd ∷ Gnd ∷ []

-- ---- transistors, stage by stage

abbrev pub first_input : ℕ → Net
first_input stage = if stage == 0 then Input else Output (stage - 1)

-- by drain, gate and source
abbrev pub p_transistor : Net → Net → Net → Transistor
p_transistor drain gate source = record { row = P; drain = drain; gate = gate; source = source }

abbrev pub n_transistor : Net → Net → Net → Transistor
n_transistor drain gate source = record { row = N; drain = drain; gate = gate; source = source }

abbrev pub stage_transistors : ℕ × Stage → List Transistor
stage_transistors (stage, Inverter) =
    p_transistor (Output stage) (first_input stage) Vdd ∷ n_transistor (Output stage) (first_input stage) Gnd ∷ []
stage_transistors (stage, Nand2) =
    p_transistor (Output stage) (first_input stage) Vdd
    ∷ p_transistor (Output stage) (Second stage) Vdd
    ∷ n_transistor (Output stage) (first_input stage) (Inner stage)
    ∷ n_transistor (Inner stage) (Second stage) Gnd
    ∷ []
stage_transistors (stage, Nor2) =
    p_transistor (Inner stage) (first_input stage) Vdd
    ∷ p_transistor (Output stage) (Second stage) (Inner stage)
    ∷ n_transistor (Output stage) (first_input stage) Gnd
    ∷ n_transistor (Output stage) (Second stage) Gnd
    ∷ []

abbrev pub transistors_of : List Stage → List Transistor
transistors_of stages = flat_map stage_transistors (enumerate_from 0 stages)
