-- The row and the routing that a drawing shows.
use Rattle.std.specs.Prelude.{◌≡◌, ℤ, pos, ◌-ℤ◌, ◌≤ℤ◌, ◌<ℤ◌, ℕ, ◌+◌, ◌*◌, ◌<◌, ◌↔◌}
use Rattle.std.specs.Prelude.{false, List, length, Option, Some, None, slice_get}
use Rattle.std.specs.List.{All, AllPairs, AllZip, Any, Contains}
use Rattle.cell_num.specs.declared.net.NetNo.{NetNo}
use Rattle.cell_num.specs.declared.net.Pins.{Pins}
use Rattle.cell_num.specs.Pins.{ArePins}
use Rattle.cell_num.specs.declared.finger.Row.{Row}
use Rattle.cell_num.specs.declared.finger.Row.TheVariants.{P, N}
use Rattle.row_model.specs.declared.column.Placed.{Placed}
use Rattle.row_model.specs.declared.column.Column.{Column}
use Rattle.row_model.specs.Gaps.{left_net, right_net, is_gap}
use Rattle.row_place.specs.declared.placement.Placement.{Placement}
use Rattle.row_place.specs.Trunks.{HasTrunk, IsSpan}
use Rattle.channel_route.specs.declared.routing.Trunk.{Trunk}
use Rattle.channel_route.specs.declared.routing.Routing.{Routing}
use Rattle.box_geom.specs.Rectangle.{Rectangle}
use Rattle.box_geom.specs.declared.shape.Shape.{Shape}
use Rattle.box_geom.specs.declared.shape.Label.{Label}
use Rattle.box_geom.specs.declared.shape.Shapes.{Shapes}
use Rattle.box_geom.specs.declared.layer.Layer.TheVariants.{Active, Metal1}
use Rattle.scmos_rules.specs.Layout.{On}
use Rattle.scmos_rules.specs.declared.rules.Deck.{Deck}
use Rattle.net_extract.specs.Nets.{Site}
use Rattle.net_extract.specs.Devices.{IsDevice, IsSomeDevice}
use Rattle.net_extract.specs.Labels.{IsNamed}
use Rattle.cell_draw.specs.Measures.{GATE_LENGTH, EDGE_SPACE, TRACK_PITCH}
use Rattle.cell_draw.specs.Frame.{channel_edge}
use Rattle.cell_draw.specs.Named.{name_of}
use Rattle.net_extract.specs.declared.side.Current.TheVariants.{Rightward}

-- the places of the gates of a column
pub record Span : Type 0 where
  pub left : ℤ
  pub right : ℤ

-- the box is in the column
pub record IsIn (span : Span) (box : Rectangle) : Type 0 where
  pub left : box.x1 ≡ span.left
  pub right : box.x2 ≡ span.right

-- a device of the row is in the column
pub record IsInRow (deck : Deck) (s : List Shape) (side : Row) (span : Span) (box : Rectangle) : Type 0 where
  pub inside : IsIn span box
  pub device : IsSomeDevice deck s box
  pub of_side : device.row ≡ side

-- the device, with its nets from left to right
pub record IsPlacedAt (deck : Deck) (names : List (List ℕ)) (shapes : Shapes) (side : Row) (box : Rectangle)
    (x : Placed) : Type 0 where
  pub gate : Site
  pub left : Site
  pub right : Site
  pub is : IsDevice deck shapes.rects box side gate left right x.finger.width GATE_LENGTH
  pub current : is.current ≡ Rightward
  pub gate_net : IsNamed deck shapes (name_of names x.finger.gate) gate
  pub left_end : IsNamed deck shapes (name_of names (left_net x)) left
  pub right_end : IsNamed deck shapes (name_of names (right_net x)) right

-- exactly one device of the row is in the column: the finger
pub record IsOneIn (deck : Deck) (names : List (List ℕ)) (shapes : Shapes) (side : Row) (span : Span) (x : Placed)
    : Type 0 where
  pub box : Rectangle
  pub inside : IsIn span box
  pub placed : IsPlacedAt deck names shapes side box x
  pub only : (other : Rectangle) → IsInRow deck shapes.rects side span other → other ≡ box

-- in a row of a column, a filled place has its finger, and an empty one nothing
abbrev pub IsPlace : Deck → List (List ℕ) → Shapes → Row → Span → Option Placed → Type 0
IsPlace deck names shapes side span None = (box : Rectangle) → IsInRow deck shapes.rects side span box → ⊥
IsPlace deck names shapes side span (Some x) = IsOneIn deck names shapes side span x

pub record IsShownColumn (deck : Deck) (names : List (List ℕ)) (shapes : Shapes) (span : Span) (column : Column)
    : Type 0 where
  pub p : IsPlace deck names shapes P span column.p
  pub n : IsPlace deck names shapes N span column.n

-- the cells between two gates of a row are active, along the row's edge to the channel
abbrev pub IsJoined : List Shape → Row → Rectangle → Rectangle → Type 0
IsJoined s N a b = (a.y2 ≡ b.y2) × ((x : ℤ) → a.x2 ≤ℤ x → x <ℤ b.x1 → On Active s x (a.y2 -ℤ pos 1))
IsJoined s P a b = (a.y1 ≡ b.y1) × ((x : ℤ) → a.x2 ≤ℤ x → x <ℤ b.x1 → On Active s x a.y1)

-- two neighbouring columns of the row, and their places
pub record AreNeighbours (row : List Column) (spans : List Span) (a b : Column) (one other : Span) : Type 0 where
  pub at : ℕ
  pub before : slice_get row at ≡ Some a
  pub behind : slice_get row (at + 1) ≡ Some b
  pub left : slice_get spans at ≡ Some one
  pub right : slice_get spans (at + 1) ≡ Some other

-- The columns are in order, and each device is in one of them. Neighbours without a gap abut in each row that
-- both fill.
pub record ShowsRow (deck : Deck) (names : List (List ℕ)) (row : List Column) (shapes : Shapes) : Type 0 where
  pub spans : List Span
  pub ascending : AllPairs (λ (a b : Span). a.right ≤ℤ b.left) spans
  pub columns : AllZip (IsShownColumn deck names shapes) spans row
  pub all : (box : Rectangle) → IsSomeDevice deck shapes.rects box → Any (λ (span : Span). IsIn span box) spans
  pub abut : (a b : Column) (one other : Span) → AreNeighbours row spans a b one other → is_gap (a, b) ≡ false →
      (side : Row) (left right : Rectangle) → IsInRow deck shapes.rects side one left →
      IsInRow deck shapes.rects side other right → IsJoined shapes.rects side left right

-- The drawing shows the row; the rails are two of the pins.
pub record ShowsColumns (deck : Deck) (names : List (List ℕ)) (pins : Pins) (row : List Column) (shapes : Shapes)
    : Type 0 where
  pub shown : ArePins (length names) pins → ShowsRow deck names row shapes

-- the net's label is on the track, where the channel begins at this height
pub record ShowsTrack (names : List (List ℕ)) (n_edge : ℕ) (shapes : Shapes) (t : Trunk) : Type 0 where
  pub label : Label
  pub listed : Contains shapes.labels label
  pub reads : label.name ≡ name_of names t.net
  pub layer : label.layer ≡ Metal1
  pub height : label.y ≡ pos (n_edge + EDGE_SPACE + TRACK_PITCH * t.track)

-- The routing that a drawing shows: for each net that needs one a trunk from its first to its last line,
-- on the track of its label; and one track more than the highest of them, if there is one.
pub record ShowsRouting (names : List (List ℕ)) (pins : Pins) (placement : Placement) (shapes : Shapes) (r : Routing)
    : Type 0 where
  pub nets : (net : NetNo) → HasTrunk placement pins net ↔ Any (λ (t : Trunk). t.net ≡ net) r.trunks
  pub order : AllPairs (λ (a b : Trunk). a.net.0 < b.net.0) r.trunks
  pub spans : All (λ (t : Trunk). IsSpan placement t.net t.left t.right) r.trunks
  pub shown : All (ShowsTrack names (channel_edge placement.row) shapes) r.trunks
  pub below : All (λ (t : Trunk). t.track < r.tracks) r.trunks
  pub full : (tracks : ℕ) → r.tracks ≡ tracks + 1 → Any (λ (t : Trunk). t.track ≡ tracks) r.trunks
