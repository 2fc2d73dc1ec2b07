-- Pieces of nets: the parts of their spans between neighbouring lines at which they may be cut.
use Rattle.std.specs.Prelude.{ℕ, ◌≡◌, ◌<◌, ◌≤◌, ◌⊎◌, All, Contains}
use Rattle.cell_num.specs.declared.net.NetNo.{NetNo}
use Rattle.cell_num.specs.declared.net.Pins.{Pins}
use Rattle.row_place.specs.declared.placement.NodePlace.{NodePlace}
use Rattle.row_place.specs.declared.placement.Placement.{Placement}
use Rattle.row_place.specs.Trunks.{lines_of, HasTrunk, IsSpan}

-- the net has a node place at the line
pub record HasNode (placement : Placement) (net : NetNo) (line : ℕ) : Type 0 where
  pub node : NodePlace
  pub there : Contains placement.nodes node
  pub of : node.net ≡ net
  pub at : node.line ≡ line

-- the first line of the places of a net, and the last
pub record IsFirst (placement : Placement) (net : NetNo) (line : ℕ) : Type 0 where
  pub place : Contains (lines_of placement net) line
  pub none_before : All (λ other. line ≤ other) (lines_of placement net)

pub record IsLast (placement : Placement) (net : NetNo) (line : ℕ) : Type 0 where
  pub place : Contains (lines_of placement net) line
  pub none_behind : All (λ other. other ≤ line) (lines_of placement net)

-- where a piece of the net may begin or end: at its first line, at its last one, and at its node places
abbrev pub IsMark : Placement → NetNo → ℕ → Type 0
IsMark placement net line = IsFirst placement net line ⊎ (IsLast placement net line ⊎ HasNode placement net line)

-- from one line to a later one, or the only line of a net
abbrev pub IsRange : Placement → NetNo → ℕ → ℕ → Type 0
IsRange placement net left right = (left < right) ⊎ ((left ≡ right) × IsSpan placement net left right)

-- a part of the span of a net that needs a trunk, between two marks with none between them
pub record IsPiece (placement : Placement) (pins : Pins) (net : NetNo) (left right : ℕ) : Type 0 where
  pub trunk : HasTrunk placement pins net
  pub begins : IsMark placement net left
  pub ends : IsMark placement net right
  pub range : IsRange placement net left right
  pub none_between : (line : ℕ) → IsMark placement net line → left < line → line < right → ⊥
