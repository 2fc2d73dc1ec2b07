-- The columns of few fingers are few.
use Rattle.std.proofs.Common.{ℕ, ◌≡◌, ◌≤◌, ◌==◌, max, length, arith}
use Rattle.std.proofs.lemmas.List.Sums.{count_by-le-length}
use Rattle.cell_num.specs.declared.finger.Row.TheVariants.{P, N}
use Rattle.cell_num.specs.declared.finger.Finger.{Finger}
use Rattle.cell_num.specs.declared.finger.Fingers.{Fingers}
use Rattle.cell_num.specs.Fingers.{on_gate, columns_of}
use Rattle.cell_num.proofs.Sums.{sum_below_most}
use Rattle.tech_file.specs.Technology.{Technology}
use Rattle.spice_net.specs.declared.subckt.Subckt.{Subckt}
use Rattle.spice_net.specs.Subckts.{IsSubckt}
use Rattle.finger_fold.specs.Folding.{fingers_in, all_fingers}

on_gate_few : (f : Fingers) (gate : ℕ) → length f.p ≤ 64 → length f.n ≤ 64 → max (on_gate gate f.p) (on_gate gate f.n) ≤ 64
on_gate_few f gate few_p few_n =
    omega (arith, few_p, few_n, count_by-le-length (λ (x : Finger). x.gate.0 == gate) f.p, count_by-le-length (λ (x : Finger). x.gate.0 == gate) f.n)

few_of : (f : Fingers) → f.nets ≤ 256 → length f.p ≤ 64 → length f.n ≤ 64 → columns_of f ≤ 1000000
few_of f few_nets few_p few_n =
    omega (arith, few_nets, sum_below_most (λ gate. max (on_gate gate f.p) (on_gate gate f.n)) 64 f.nets (λ gate. on_gate_few f gate few_p few_n))

pub few_columns : (tech : Technology) (cell : Subckt) (f : Fingers) → IsSubckt cell → f ≡ all_fingers tech cell → length (fingers_in P tech cell.devices) ≤ 64 → length (fingers_in N tech cell.devices) ≤ 64 → columns_of f ≤ 1000000
few_columns tech cell f h e few_p few_n = rw e (few_of (all_fingers tech cell) h.few_nets few_p few_n)
