-- How long the texts are.
use Rattle.std.proofs.Common.{ℕ, zero, suc, ◌≡◌, ◌+◌, ◌-◌, ◌*◌, ◌%◌, ◌^◌, ◌<◌, ◌≤◌, ◌==◌, Bool, true, false, if◌then◌else◌, List, [], ◌∷◌, ◌++◌, length, codes, ap, add-one, arith, refl, length-append}
use Rattle.std.specs.Prelude.{decimal}
use Rattle.std.specs.List.{enumerate_from, flat_map}
use Rattle.std.proofs.Math.Nat.{mod-lt}
use Rattle.std.proofs.lemmas.Fmt.{length-decimal-le}
use Rattle.std.proofs.lemmas.List.FromFn.{length-map-range_with_len}
use Rattle.cell_num.specs.declared.finger.Row.{Row}
use Rattle.cell_num.specs.declared.finger.Row.TheVariants.{P, N}
use Rattle.bench_command.specs.declared.net.Net.{Net}
use Rattle.bench_command.specs.declared.net.Net.TheVariants.{Input, Second, Output, Inner, Vdd, Gnd}
use Rattle.bench_command.specs.declared.stage.Stage.{Stage}
use Rattle.bench_command.specs.declared.stage.Stage.TheVariants.{Inverter, Nand2, Nor2}
use Rattle.bench_command.specs.declared.transistor.Transistor.{Transistor}
use Rattle.bench_command.specs.Draws.{draw}
use Rattle.bench_command.specs.Cells.{first_input, pins_of, second_inputs, stage_at, stage_count, stage_transistors, stages_of, transistors_of}
use Rattle.bench_command.specs.Text.{bench_text, cell_name, cell_text, chain_text, head_text, model_text, transistor_text, word_text}
use Rattle.bench_command.proofs.Drawn.{text_more}

both : (a b : List ℕ) (m n : ℕ) → length a ≤ m → length b ≤ n → length (a ++ b) ≤ m + n
both a b m n h g = omega (arith, length-append a b, h, g)

two_digits : (n : ℕ) → n < 100 → length (decimal n) ≤ 2
two_digits n h = length-decimal-le 2 n (omega arith) (omega (arith, h)) (omega (arith, h))

-- ---- nets

-- a net of a stage below 100
abbrev IsNear : Net → Type 0
IsNear Input = Unit {0}
IsNear (Second stage) = stage < 100
IsNear (Output stage) = stage < 100
IsNear (Inner stage) = stage < 100
IsNear Vdd = Unit {0}
IsNear Gnd = Unit {0}

abbrev AreNear : List Net → Type 0
AreNear [] = Unit {0}
AreNear (net ∷ nets) = IsNear net × AreNear nets

near_append : (a b : List Net) → AreNear a → AreNear b → AreNear (a ++ b)
near_append [] b h g = g
near_append (net ∷ a) b h g = (h.0, near_append a b h.1 g)

numbered_short : (letter : List ℕ) (stage : ℕ) → length letter ≤ 1 → stage < 100 → length (codes " " ++ (letter ++ decimal stage)) ≤ 4
numbered_short letter stage one h =
    let behind : length (letter ++ decimal stage) ≤ 3 = both letter (decimal stage) 1 2 one (two_digits stage h) in
    both (codes " ") (letter ++ decimal stage) 1 3 (omega arith) behind

word_short : (net : Net) → IsNear net → length (word_text net) ≤ 4
unfolding word_text
word_short Input h = omega arith
word_short (Second stage) h = numbered_short (codes "s") stage (omega arith) h
word_short (Output stage) h = numbered_short (codes "o") stage (omega arith) h
word_short (Inner stage) h = numbered_short (codes "t") stage (omega arith) h
word_short Vdd h = omega arith
word_short Gnd h = omega arith

words_short : (nets : List Net) → AreNear nets → length (flat_map word_text nets) ≤ 4 * length nets
words_short [] h = omega arith
words_short (net ∷ nets) h =
    let first : length (word_text net) ≤ 4 = word_short net h.0 in
    let rest : length (flat_map word_text nets) ≤ 4 * length nets = words_short nets h.1 in
    omega (arith, first, rest, length-append (word_text net) (flat_map word_text nets))

-- ---- pins

second_near : (stage : Stage) (place : ℕ) → place < 100 → AreNear (second_inputs (place, stage))
second_near Inverter place h = tt
second_near Nand2 place h = (h, tt)
second_near Nor2 place h = (h, tt)

second_few : (stage : Stage) (place : ℕ) → length (second_inputs (place, stage)) ≤ 1
second_few Inverter place = omega arith
second_few Nand2 place = omega arith
second_few Nor2 place = omega arith

seconds_near : (place : ℕ) (stages : List Stage) → place + length stages ≤ 100 → AreNear (flat_map second_inputs (enumerate_from place stages))
seconds_near place [] h = tt
seconds_near place (stage ∷ stages) h =
    near_append (second_inputs (place, stage)) (flat_map second_inputs (enumerate_from (place + 1) stages)) (second_near stage place (omega (arith, h))) (seconds_near (place + 1) stages (omega (arith, h)))

seconds_few : (place : ℕ) (stages : List Stage) → length (flat_map second_inputs (enumerate_from place stages)) ≤ length stages
seconds_few place [] = omega arith
seconds_few place (stage ∷ stages) =
    let first : length (second_inputs (place, stage)) ≤ 1 = second_few stage place in
    let rest : length (flat_map second_inputs (enumerate_from (place + 1) stages)) ≤ length stages = seconds_few (place + 1) stages in
    omega (arith, first, rest, length-append (second_inputs (place, stage)) (flat_map second_inputs (enumerate_from (place + 1) stages)))

abbrev last_pins : List Stage → List Net
last_pins stages = Output (length stages - 1) ∷ Vdd ∷ Gnd ∷ []

last_near : (stages : List Stage) → length stages ≤ 5 → AreNear (last_pins stages)
last_near stages few = let low : length stages - 1 < 100 = omega (arith, few) in (low, (tt, (tt, tt)))

pins_near : (stages : List Stage) → length stages ≤ 5 → AreNear (pins_of stages)
pins_near stages few = (tt, near_append (flat_map second_inputs (enumerate_from 0 stages)) (last_pins stages) (seconds_near 0 stages (omega (arith, few))) (last_near stages few))

pins_few : (stages : List Stage) → length (pins_of stages) ≤ length stages + 4
pins_few stages =
    let seconds : length (flat_map second_inputs (enumerate_from 0 stages)) ≤ length stages = seconds_few 0 stages in
    omega (arith, seconds, length-append (flat_map second_inputs (enumerate_from 0 stages)) (last_pins stages))

-- ---- transistors

abbrev IsNearAll : Transistor → Type 0
IsNearAll t = IsNear t.drain × IsNear t.gate × IsNear t.source

abbrev AreNearAll : List Transistor → Type 0
AreNearAll [] = Unit {0}
AreNearAll (t ∷ ts) = IsNearAll t × AreNearAll ts

all_append : (a b : List Transistor) → AreNearAll a → AreNearAll b → AreNearAll (a ++ b)
all_append [] b h g = g
all_append (t ∷ a) b h g = (h.0, all_append a b h.1 g)

first_near : (place : ℕ) → place < 100 → IsNear (first_input place)
first_near place h = by (place == 0)
  where
    by : (front : Bool) → IsNear (if front then Input else Output (place - 1))
    by true = tt
    by false = omega (arith, h)

stage_near : (stage : Stage) (place : ℕ) → place < 100 → AreNearAll (stage_transistors (place, stage))
stage_near Inverter place h = let a = first_near place h in ((h, a, tt), ((h, a, tt), tt))
stage_near Nand2 place h = let a = first_near place h in ((h, a, tt), ((h, h, tt), ((h, a, h), ((h, h, tt), tt))))
stage_near Nor2 place h = let a = first_near place h in ((h, a, tt), ((h, h, h), ((h, a, tt), ((h, h, tt), tt))))

stage_few : (stage : Stage) (place : ℕ) → length (stage_transistors (place, stage)) ≤ 4
stage_few Inverter place = omega arith
stage_few Nand2 place = omega arith
stage_few Nor2 place = omega arith

stages_near : (place : ℕ) (stages : List Stage) → place + length stages ≤ 100 → AreNearAll (flat_map stage_transistors (enumerate_from place stages))
stages_near place [] h = tt
stages_near place (stage ∷ stages) h =
    all_append (stage_transistors (place, stage)) (flat_map stage_transistors (enumerate_from (place + 1) stages)) (stage_near stage place (omega (arith, h))) (stages_near (place + 1) stages (omega (arith, h)))

stages_few : (place : ℕ) (stages : List Stage) → length (flat_map stage_transistors (enumerate_from place stages)) ≤ 4 * length stages
stages_few place [] = omega arith
stages_few place (stage ∷ stages) =
    let first : length (stage_transistors (place, stage)) ≤ 4 = stage_few stage place in
    let rest : length (flat_map stage_transistors (enumerate_from (place + 1) stages)) ≤ 4 * length stages = stages_few (place + 1) stages in
    omega (arith, first, rest, length-append (stage_transistors (place, stage)) (flat_map stage_transistors (enumerate_from (place + 1) stages)))

model_short : (row : Row) → length (model_text row) ≤ 21
unfolding model_text
model_short P = omega arith
model_short N = omega arith

line_short : (number : ℕ) (t : Transistor) → number < 100 → IsNearAll t → length (transistor_text (number, t)) ≤ 36
unfolding transistor_text
line_short number t h near =
    let one : length (codes "M" ++ decimal number) ≤ 3 = both (codes "M") (decimal number) 1 2 (omega arith) (two_digits number h) in
    let two : length (codes "M" ++ decimal number ++ word_text t.drain) ≤ 7 = both (codes "M" ++ decimal number) (word_text t.drain) 3 4 one (word_short t.drain near.0) in
    let three : length (codes "M" ++ decimal number ++ word_text t.drain ++ word_text t.gate) ≤ 11 = both (codes "M" ++ decimal number ++ word_text t.drain) (word_text t.gate) 7 4 two (word_short t.gate near.1) in
    let four : length (codes "M" ++ decimal number ++ word_text t.drain ++ word_text t.gate ++ word_text t.source) ≤ 15 = both (codes "M" ++ decimal number ++ word_text t.drain ++ word_text t.gate) (word_text t.source) 11 4 three (word_short t.source near.2) in
    both (codes "M" ++ decimal number ++ word_text t.drain ++ word_text t.gate ++ word_text t.source) (model_text t.row) 15 21 four (model_short t.row)

lines_short : (number : ℕ) (ts : List Transistor) → number + length ts ≤ 100 → AreNearAll ts → length (flat_map transistor_text (enumerate_from number ts)) ≤ 36 * length ts
lines_short number [] h near = omega arith
lines_short number (t ∷ ts) h near =
    let first : length (transistor_text (number, t)) ≤ 36 = line_short number t (omega (arith, h)) near.0 in
    let rest : length (flat_map transistor_text (enumerate_from (number + 1) ts)) ≤ 36 * length ts = lines_short (number + 1) ts (omega (arith, h)) near.1 in
    omega (arith, first, rest, length-append (transistor_text (number, t)) (flat_map transistor_text (enumerate_from (number + 1) ts)))

-- ---- cells

name_short : (cell : ℕ) → cell < 2 ^ 32 → length (cell_name cell) ≤ 11
name_short cell h = both (codes "c") (decimal cell) 1 10 (omega arith) (length-decimal-le 10 cell (omega arith) (omega (arith, h)) (omega (arith, h)))

head_short : (cell : ℕ) (stages : List Stage) → cell < 2 ^ 32 → length stages ≤ 5 → length (head_text cell stages) ≤ 56
unfolding head_text
head_short cell stages h few =
    let words : length (flat_map word_text (pins_of stages)) ≤ 36 = omega (arith, words_short (pins_of stages) (pins_near stages few), pins_few stages, few) in
    let one : length (codes ".SUBCKT " ++ cell_name cell) ≤ 19 = both (codes ".SUBCKT ") (cell_name cell) 8 11 (omega arith) (name_short cell h) in
    let two : length (codes ".SUBCKT " ++ cell_name cell ++ flat_map word_text (pins_of stages)) ≤ 55 = both (codes ".SUBCKT " ++ cell_name cell) (flat_map word_text (pins_of stages)) 19 36 one words in
    both (codes ".SUBCKT " ++ cell_name cell ++ flat_map word_text (pins_of stages)) (codes "\n") 55 1 two (omega arith)

chain_short : (cell : ℕ) (stages : List Stage) → cell < 2 ^ 32 → length stages ≤ 5 → length (chain_text cell stages) ≤ 800
unfolding chain_text
chain_short cell stages h few =
    let count : length (transistors_of stages) ≤ 4 * length stages = stages_few 0 stages in
    let each : length (flat_map transistor_text (enumerate_from 0 (transistors_of stages))) ≤ 36 * length (transistors_of stages) = lines_short 0 (transistors_of stages) (omega (arith, count, few)) (stages_near 0 stages (omega (arith, few))) in
    let lines : length (flat_map transistor_text (enumerate_from 0 (transistors_of stages))) ≤ 720 = omega (arith, count, few, each) in
    let front : length (head_text cell stages ++ flat_map transistor_text (enumerate_from 0 (transistors_of stages))) ≤ 776 = both (head_text cell stages) (flat_map transistor_text (enumerate_from 0 (transistors_of stages))) 56 720 (head_short cell stages h few) lines in
    let whole : length (head_text cell stages ++ flat_map transistor_text (enumerate_from 0 (transistors_of stages)) ++ codes ".ENDS\n") ≤ 782 = both (head_text cell stages ++ flat_map transistor_text (enumerate_from 0 (transistors_of stages))) (codes ".ENDS\n") 776 6 front (omega arith) in
    omega (arith, whole)

few_stages : (cell : ℕ) → length (stages_of cell) ≤ 5
few_stages cell =
    let count : length (stages_of cell) ≡ stage_count cell = length-map-range_with_len (stage_at cell) 0 (stage_count cell) in
    let some : 0 < 4 = omega arith in
    let low : draw cell 0 % 4 < 4 = mod-lt (draw cell 0) some in
    omega (arith, count, low)

cell_short : (cell : ℕ) → cell < 2 ^ 32 → length (cell_text cell) ≤ 800
cell_short cell h = chain_short cell (stages_of cell) h (few_stages cell)

pub bench_short : (cells : ℕ) → cells ≤ 2 ^ 32 → length (bench_text cells) ≤ 800 * cells
bench_short zero h = omega arith
bench_short (suc cells) h =
    let rest : length (bench_text cells) ≤ 800 * cells = bench_short cells (omega (arith, h)) in
    let last : length (cell_text cells) ≤ 800 = cell_short cells (omega (arith, h)) in
    let whole : bench_text cells ++ cell_text cells ≡ bench_text (cells + 1) = text_more cell_text cells (bench_text cells) (bench_text cells ++ cell_text cells) refl refl in
    let same : length (bench_text (cells + 1)) ≡ length (bench_text (suc cells)) = ap (λ n. length (bench_text n)) (add-one cells) in
    omega (arith, rest, last, same, ap length whole, length-append (bench_text cells) (cell_text cells))
