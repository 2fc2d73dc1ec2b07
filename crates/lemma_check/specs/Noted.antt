-- Which trails of rows are noted.
use Rattle.std.specs.Prelude.{ℕ, ◌≡◌, List, Option, Some, nat_eq}
use Rattle.std.specs.HashMap.{get}
use Rattle.cell_num.specs.declared.finger.Row.{Row}
use Rattle.cell_num.specs.declared.finger.Row.TheVariants.{P, N}
use Rattle.cell_num.specs.declared.net.NetNo.{NetNo}
use Rattle.row_state.specs.declared.kind.Kinds.{Kinds}
use Rattle.row_state.specs.declared.state.State.{State}
use Rattle.row_state.specs.Code.{row_code}
use Rattle.row_state.specs.Start.{IsState}
use Rattle.row_state.specs.Tests.{left_of}
use Rattle.row_state.specs.Trails.{end_of}
use Rattle.lemma_check.specs.declared.trails.RowTrails.{RowTrails}

-- what is noted by the number of what a row has left is what f says of it
abbrev pub AreNotedOf : (Row → Option NetNo → List ℕ → Kinds → ℕ) → Row → Kinds → (ℕ → Option ℕ) → Type 0
AreNotedOf f row k noted = (number trails : ℕ) (s : State) → noted number ≡ Some trails → IsState k s
    → row_code row k s ≡ number → trails ≡ f row (end_of row s) (left_of row s) k

pub record AreNoted (f : Row → Option NetNo → List ℕ → Kinds → ℕ) (k : Kinds) (noted : RowTrails) : Type 0 where
  pub p : AreNotedOf f P k (get nat_eq noted.p)
  pub n : AreNotedOf f N k (get nat_eq noted.n)
