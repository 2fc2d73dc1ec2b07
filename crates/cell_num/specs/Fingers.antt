-- Which lists of fingers the calls of the workspace take, how many columns they need,
-- and which fingers are sound for the names and the pins of a cell.
use Rattle.std.specs.Prelude.{ℕ, zero, suc, ◌≡◌, ◌≢◌, ◌+◌, ◌<◌, ◌≤◌, ◌==◌, ◌⊎◌, List, length, count_by, max, All}
use Rattle.std.specs.Prelude.{AllPairs, Any}
use Rattle.cell_num.specs.declared.net.NetNo.{NetNo}
use Rattle.cell_num.specs.declared.net.Pins.{Pins}
use Rattle.cell_num.specs.Pins.{IsRail}
use Rattle.cell_num.specs.declared.finger.Row.{Row}
use Rattle.cell_num.specs.declared.finger.Row.TheVariants.{P, N}
use Rattle.cell_num.specs.declared.finger.Finger.{Finger}
use Rattle.cell_num.specs.declared.finger.Fingers.{Fingers}

-- how many fingers of a list are on a gate
abbrev pub on_gate : ℕ → List Finger → ℕ
on_gate gate fingers = count_by (λ f. f.gate.0 == gate) fingers

-- f 0 + .. + f (n - 1)
abbrev pub sum_below : (ℕ → ℕ) → ℕ → ℕ
sum_below f zero = 0
sum_below f (suc n) = sum_below f n + f n

-- The fewest columns that hold the fingers, a P and an N finger of one gate in one column:
-- the sum over the gates of the larger of its two counts.
abbrev pub columns_of : Fingers → ℕ
columns_of f = sum_below (λ gate. max (on_gate gate f.p) (on_gate gate f.n)) f.nets

-- a finger of this row, its ends in order, its nets numbered below `nets`
pub record IsFinger (at : Row) (nets : ℕ) (f : Finger) : Type 0 where
  pub row : f.row ≡ at
  pub order : f.lo.0 ≤ f.hi.0
  pub gate : f.gate.0 < nets
  pub ends : f.hi.0 < nets

-- what every call that takes fingers asks
pub record AreFingers (f : Fingers) : Type 0 where
  pub p : All (IsFinger P f.nets) f.p
  pub n : All (IsFinger N f.nets) f.n
  pub few_nets : f.nets ≤ 256
  pub few_columns : columns_of f ≤ 32

-- the finger has the net at its gate or at an end
abbrev pub Meets : NetNo → Finger → Type 0
Meets net f = (f.gate ≡ net) ⊎ (f.lo ≡ net) ⊎ (f.hi ≡ net)

-- no end of the finger is this net
abbrev pub HasNoEnd : NetNo → Finger → Type 0
HasNoEnd net f = (f.lo ≢ net) × (f.hi ≢ net)

-- What holds of the fingers of every accepted subcircuit: the nets are the named ones, no gate is a
-- rail, no N end is vdd and no P end is gnd, each finger is 6 to 400 units wide, and each net other
-- than the rails is met by a finger.
pub record AreSound (names : List (List ℕ)) (pins : Pins) (f : Fingers) : Type 0 where
  pub named : f.nets ≡ length names
  pub names_differ : AllPairs (λ a b. a ≢ b) names
  pub p : All (IsFinger P f.nets) f.p
  pub n : All (IsFinger N f.nets) f.n
  pub p_gates : All (λ x. IsRail pins x.gate → ⊥) f.p
  pub n_gates : All (λ x. IsRail pins x.gate → ⊥) f.n
  pub p_ends : All (HasNoEnd pins.gnd) f.p
  pub n_ends : All (HasNoEnd pins.vdd) f.n
  pub p_widths : All (λ x. (6 ≤ x.width) × (x.width ≤ 400)) f.p
  pub n_widths : All (λ x. (6 ≤ x.width) × (x.width ≤ 400)) f.n
  pub met : (net : NetNo) → net.0 < f.nets → (IsRail pins net → ⊥) → (Any (Meets net) f.p) ⊎ (Any (Meets net) f.n)
