-- Which cycle is told where there are several: that to which a walk comes from the first net that can
-- not be placed. Each step goes down at the first line at which the net stands above one that can not
-- be placed.
use Rattle.std.specs.Prelude.{ℕ, ◌≡◌, ◌<◌, ◌≤◌, ◌⊎◌, Bool, true, List}
use Rattle.std.specs.Bool.{⊤}
use Rattle.cell_num.specs.declared.net.NetNo.{NetNo}
use Rattle.cell_num.specs.declared.net.Pins.{Pins}
use Rattle.row_place.specs.declared.placement.Placement.{Placement}
use Rattle.row_place.specs.Trunks.{IsSpan, IsAbove}
use Rattle.channel_route.specs.declared.routing.Above.{Above}
use Rattle.channel_route.specs.declared.routing.RouteStop.{RouteStop}
use Rattle.channel_route.specs.declared.routing.RouteStop.TheVariants.{Cycle, NoMemory}
use Rattle.channel_route.specs.Cycle.{IsCycleBelow}

-- The net can not be placed: it is in a set of nets of which each stands above another one of the set.
pub record IsStuck (placement : Placement) (pins : Pins) (net : NetNo) : Type 0 where
  pub set : NetNo → Bool
  pub there : set net ≡ true
  pub each : (n : NetNo) → set n ≡ true →
      (lower : NetNo) × (line : ℕ) × IsAbove placement pins n lower line × (set lower ≡ true)

-- the first of the nets that can not be placed, by first line, then number
pub record IsFirstStuck (placement : Placement) (pins : Pins) (net : NetNo) : Type 0 where
  pub stuck : IsStuck placement pins net
  pub first : ℕ
  pub last : ℕ
  pub span : IsSpan placement net first last
  pub none_before : (other : NetNo) (begin end : ℕ) → IsStuck placement pins other → IsSpan placement other begin end →
      (first < begin) ⊎ ((first ≡ begin) × (net.0 ≤ other.0))

-- one step down
pub record IsStep (placement : Placement) (pins : Pins) (upper lower : NetNo) (line : ℕ) : Type 0 where
  pub over : IsAbove placement pins upper lower line
  pub stuck : IsStuck placement pins lower
  pub first : (other : NetNo) (earlier : ℕ) → IsAbove placement pins upper other earlier →
      IsStuck placement pins other → line ≤ earlier

pub record IsTold (placement : Placement) (pins : Pins) (cycle : List Above) : Type 0 where
  pub start : NetNo
  pub first : IsFirstStuck placement pins start
  pub below : IsCycleBelow (IsStep placement pins) start cycle

abbrev pub TellsCycle : Placement → Pins → RouteStop → Type 0
TellsCycle placement pins (Cycle cycle) = IsTold placement pins cycle
TellsCycle placement pins NoMemory = ⊤
