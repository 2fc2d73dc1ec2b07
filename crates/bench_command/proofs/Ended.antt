-- Each generated cell is made or has a cycle.
use Rattle.std.proofs.Common.{ℕ, ◌≤◌, List, refl, ap, subst, arith}
use Rattle.tech_file.specs.Technology.{Technology}
use Rattle.row_state.specs.Component.{component_value}
use Rattle.row_state.specs.ComponentLaw.{component_holds}
use Rattle.bench_command.specs.Paired.{ArePaired}
use Rattle.bench_command.proofs.Searched.{never_spent}
use Rattle.cell_inputs.specs.Inputs.{Inputs}
use Rattle.cell_inputs.specs.Style.{plain_style}
use Rattle.cell_make.specs.Making.{MakeAnswer, Made, Cyclic, Tall, Unfinished, Makes}
use Rattle.bench_command.specs.Bench.{AreInputsOf, HoldsCell, counted_as}
use Rattle.bench_command.specs.Tally.{AreAllEnded}
use Rattle.bench_command.proofs.Held.{is_read, own_fingers}

-- the fingers of a generated cell are paired
paired_cell : (text : List ℕ) (cell : ℕ) (inputs : Inputs) → HoldsCell text cell → AreInputsOf text cell inputs → ArePaired inputs.fingers
paired_cell text cell inputs held are =
    let own = is_read text cell held in
    subst ArePaired (own_fingers text cell inputs held are) (record { single = own.single; paired = own.paired; few = own.few })

pub cell_ends : (text : List ℕ) (cell : ℕ) (inputs : Inputs) (answer : MakeAnswer) → HoldsCell text cell → AreInputsOf text cell inputs → Makes plain_style inputs answer → AreAllEnded 1 (counted_as inputs answer)
cell_ends text cell inputs (Made row log routing xs) held are makes = record { none_unfinished = refl; sum = refl }
cell_ends text cell inputs (Cyclic row log ring) held are makes = record { none_unfinished = refl; sum = refl }
cell_ends text cell inputs (Tall row log routing) held are makes = absurd (makes.2.0 (ap (λ (t : Technology). t.height) are.tech))
cell_ends text cell inputs (Unfinished proved log) held are (version, (k, kinds, some, spent)) =
    let budget : 184341 ≤ inputs.tech.budget = omega (arith, ap (λ (t : Technology). t.budget) are.tech) in
    absurd (never_spent component_value inputs.fingers k inputs.tech.budget proved log (λ row s valid. component_holds k s row some) (paired_cell text cell inputs held are) kinds some budget spent)
