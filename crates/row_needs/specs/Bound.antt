-- The bound of a cell by the needs of its states.
use Rattle.std.specs.Prelude.{ℕ, ◌≡◌, ◌==◌, ◌&&◌, Bool, if◌then◌else◌, Option, Some, None, nat_eq}
use Rattle.std.specs.HashMap.{get}
use Rattle.std.specs.Option.{option_map, unwrap_or}
use Rattle.std.specs.Cmp.Lexicographic.{pointwise}
use Rattle.cell_num.specs.declared.finger.Row.{Row}
use Rattle.row_state.specs.declared.kind.Kind.{Kind}
use Rattle.row_state.specs.declared.kind.Kinds.{Kinds}
use Rattle.row_state.specs.declared.state.State.{State}
use Rattle.row_state.specs.Component.{component_value}
use Rattle.row_state.specs.Decoded.{rows_code}
pub use Rattle.row_needs.specs.declared.need_bound.NeedBound.{NeedBound}
use Rattle.row_needs.specs.declared.needs.Needs.{Needs}
use Rattle.row_needs.specs.Rest.{need_at}
use Rattle.row_needs.specs.Table.{HasTable}

-- ---- the same kinds

abbrev pub is_same_kind : Kind → Kind → Bool
is_same_kind a b = a.gate.0 == b.gate.0
    && (a.lo.0 == b.lo.0 && (a.hi.0 == b.hi.0 && (a.width == b.width && a.count == b.count)))

abbrev pub are_same_kinds : Kinds → Kinds → Bool
are_same_kinds a b = a.nets == b.nets && (pointwise is_same_kind a.p b.p && pointwise is_same_kind a.n b.n)

-- ---- what the bound says

-- the need of a state, where the table has the rows of what it has left
abbrev pub need_in : Option Needs → State → Kinds → Option ℕ
need_in None s k = None
need_in (Some needs) s k = option_map (need_at s) (get nat_eq needs.rests (rows_code k s))

-- and where the bound is of these kinds
abbrev pub need_by : NeedBound → State → Kinds → Option ℕ
need_by b s k = if are_same_kinds k b.kinds then need_in b.needs s k else None

-- of both rows the need of the state; where the bound does not know it, the component bound of the row
unfoldable pub value_by : NeedBound → Row → State → Kinds → ℕ
value_by b row s k = unwrap_or (need_by b s k) (component_value row s k)

-- ---- the bound of a cell

-- It has the table of these kinds, unless next columns lead to states with more different leftovers than the limit:
-- then it has none. So by the bound of a cell a state needs as many gaps as its completion with the fewest, or, where
-- the cell's states have too many different leftovers, as the component bound says.
pub record IsBoundOf (limit : ℕ) (k : Kinds) (b : NeedBound) : Type 0 where
  pub kinds : b.kinds ≡ k
  pub table : HasTable limit k b.needs
