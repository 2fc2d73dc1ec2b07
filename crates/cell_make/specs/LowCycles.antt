-- Lemmas on cycles of a cell. They rest on the exact need of each state: the fewest further gaps of its completions.
-- Where the states of the cell have too many different leftovers, they rest on the component bound.
use Rattle.std.specs.Prelude.{ℕ, ◌≤◌, List, length}
use Rattle.row_state.specs.declared.kind.Kinds.{Kinds}
use Rattle.row_needs.specs.declared.need_bound.NeedBound.{NeedBound}
use Rattle.row_needs.specs.declared.need_bound.TheConstants.{MOST_LEFTOVERS}
use Rattle.row_needs.specs.Bound.{IsBoundOf, value_by}
use Rattle.row_cycles.specs.declared.lemma.CycleLemma.{CycleLemma}
use Rattle.row_cycles.specs.Certificate.{Certifies}
use Rattle.cycle_search.specs.Search.{AreKept, IsSpent}
use Rattle.cell_inputs.specs.Inputs.{Inputs}

-- They certify that no row with at most that many gaps can be wired. None follows from an earlier one, and they are no
-- more than the budget.
pub record CertifyUnwired (inputs : Inputs) (k : Kinds) (gaps : ℕ) (cycles : List CycleLemma) : Type 0 where
  pub bound : NeedBound
  pub is : IsBoundOf MOST_LEFTOVERS k bound
  pub certified : Certifies (value_by bound) inputs.cell.pins k gaps cycles
  pub kept : AreKept (value_by bound) inputs.cell.pins k gaps cycles
  pub within : length cycles ≤ inputs.tech.budget

-- the search for a row without a cycle, with at most that many gaps, keeps more lemmas than the budget
pub record IsPassSpent (inputs : Inputs) (k : Kinds) (gaps : ℕ) : Type 0 where
  pub bound : NeedBound
  pub is : IsBoundOf MOST_LEFTOVERS k bound
  pub spent : IsSpent (value_by bound) inputs.cell.pins k gaps inputs.tech.budget
