-- Merged nodes have no higher numbers, and an edge with merged ends is the edge between these.
use Rattle.std.proofs.Common.{ℕ, ◌≡◌, ◌≤◌, Bool, true, false, if◌then◌else◌, leb, refl, sym, ap, arith, ◌∙◌, inl, inr}
use Rattle.std.proofs.lemmas.Bool.{cases_order, le-leb, lt-leb}
use Rattle.cell_num.specs.declared.finger.Row.{Row}
use Rattle.cell_num.specs.declared.finger.Row.TheVariants.{P, N}
use Rattle.trail_state.specs.Edges.{edge_between}
use Rattle.trail_state.proofs.Walks.{ordered}
use Rattle.open_gates.specs.Merged.{merged, merged_edge, net_in, node_of}

pub merged_low : (row : Row) (nets : ℕ → Bool) (v : ℕ) → merged row nets v ≤ v
merged_low row nets v = at row (nets (net_in row v))
  where
    at : (r : Row) (b : Bool) → (if b then node_of r (net_in r v) else v) ≤ v
    at P true = omega arith
    at N true = omega arith
    at P false = omega arith
    at N false = omega arith

-- the edge between two nodes is one, whichever of them is named first
pub edge_turned : (l r : ℕ) → edge_between l r ≡ edge_between r l
edge_turned l r = elim (cases_order l r) [
  | inl same ↦ ap (λ v. edge_between v r) same ∙ ap (λ v. edge_between r v) (sym same)
  | inr differ ↦ elim differ [
    | inl less ↦ ap (λ b. ordered b l r) (le-leb l r (omega (arith, less))) ∙ sym (ap (λ b. ordered b r l) (lt-leb r l less))
    | inr more ↦ ap (λ b. ordered b l r) (lt-leb l r more) ∙ sym (ap (λ b. ordered b r l) (le-leb r l (omega (arith, more))))
  ]
]

pub merged_between : (row : Row) (nets : ℕ → Bool) (l r : ℕ) → merged_edge row nets (edge_between l r) ≡ edge_between (merged row nets l) (merged row nets r)
merged_between row nets l r = at (leb l r)
  where
    at : (b : Bool) → merged_edge row nets (ordered b l r) ≡ edge_between (merged row nets l) (merged row nets r)
    at true = refl
    at false = edge_turned (merged row nets r) (merged row nets l)
