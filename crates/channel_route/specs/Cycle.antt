-- Cycles of nets that stand above each other.
use Rattle.std.specs.Prelude.{ℕ, ◌≡◌, List, Contains}
use Rattle.std.specs.Bool.{⊤}
use Rattle.cell_num.specs.declared.net.NetNo.{NetNo}
use Rattle.cell_num.specs.declared.net.Pins.{Pins}
use Rattle.cell_num.specs.declared.finger.Row.TheVariants.{P, N}
use Rattle.row_place.specs.declared.placement.Placement.{Placement}
use Rattle.row_place.specs.Trunks.{HasTrunk, IsAbove}
use Rattle.channel_route.specs.declared.routing.Above.{Above}
use Rattle.channel_route.specs.declared.routing.RouteStop.{RouteStop}
use Rattle.channel_route.specs.declared.routing.RouteStop.TheVariants.{Cycle, NoMemory}
use Rattle.channel_route.specs.Walk.{Entries, IsKeyCycle, IsKeyCycleBelow}

-- a net of a walk is told by its number
abbrev pub nets : Entries Above
nets = record { key = λ a. a.net.0; line = λ a. a.line }

-- a relation between nets as one between their numbers
abbrev pub by_number : (NetNo → NetNo → ℕ → Type 0) → ℕ → ℕ → ℕ → Type 0
by_number Over upper lower line = Over (record { 0 = upper }) (record { 0 = lower }) line

-- At least two nets, pairwise different, each above the next and the last above the first, which has
-- the least number.
abbrev pub IsCycleOf : (NetNo → NetNo → ℕ → Type 0) → List Above → Type 0
IsCycleOf Over cycle = IsKeyCycle nets (by_number Over) cycle

-- a cycle that a walk from a net comes to
abbrev pub IsCycleBelow : (NetNo → NetNo → ℕ → Type 0) → NetNo → List Above → Type 0
IsCycleBelow Over start cycle = IsKeyCycleBelow nets (by_number Over) start.0 cycle

abbrev pub IsCycle : Placement → Pins → List Above → Type 0
IsCycle placement pins cycle = IsCycleOf (IsAbove placement pins) cycle

-- no list is a cycle
abbrev pub HasNoCycle : Placement → Pins → Type 0
HasNoCycle placement pins = (cycle : List Above) → IsCycle placement pins cycle → ⊥

-- a net with a trunk, and node places in both rows
pub record IsInBothRows (placement : Placement) (pins : Pins) (net : NetNo) : Type 0 where
  pub trunk : HasTrunk placement pins net
  pub p_line : ℕ
  pub p : Contains placement.nodes (record { row = P; line = p_line; net = net })
  pub n_line : ℕ
  pub n : Contains placement.nodes (record { row = N; line = n_line; net = net })

-- there is one such net at most
abbrev pub HasOneInBothRows : Placement → Pins → Type 0
HasOneInBothRows placement pins = (a b : NetNo) → IsInBothRows placement pins a → IsInBothRows placement pins b → a ≡ b

-- what stops the router
abbrev pub IsCause : Placement → Pins → RouteStop → Type 0
IsCause placement pins (Cycle cycle) = IsCycle placement pins cycle
IsCause placement pins NoMemory = ⊤
