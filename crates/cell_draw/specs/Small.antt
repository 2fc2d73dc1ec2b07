-- What keeps the coordinates of a layout in order and within their type.
use Rattle.std.specs.Prelude.{ℕ, ◌+◌, ◌≤◌, ◌<◌, Option, Some, None}
use Rattle.std.specs.List.{All}
use Rattle.row_model.specs.declared.column.Placed.{Placed}
use Rattle.row_model.specs.declared.column.Column.{Column}
use Rattle.row_compact.specs.Measures.{SIDE_SPACE}
use Rattle.cell_draw.specs.declared.frame.TheConstants.{MOST_X, MOST_Y}
use Rattle.cell_draw.specs.Measures.{EDGE_SPACE}
use Rattle.cell_draw.specs.declared.layout.Frame.{Frame}
use Rattle.cell_draw.specs.declared.layout.Strip.{Strip}
use Rattle.cell_draw.specs.declared.layout.Contact.{Contact}
use Rattle.cell_draw.specs.declared.layout.Gate.{Gate}
use Rattle.cell_draw.specs.declared.layout.Bar.{Bar}
use Rattle.cell_draw.specs.declared.layout.Layout.{Layout}
use Rattle.cell_draw.specs.declared.layout.Tag.{Tag}
use Rattle.cell_draw.specs.Laid.{HasRows, row_height, IsWidth, HasFinger}

-- where a place is filled its finger is 6 to 400 wide
abbrev pub IsFingerWidth : Option Placed → Type 0
IsFingerWidth None = Unit {0}
IsFingerWidth (Some x) = (6 ≤ x.finger.width) × (x.finger.width ≤ 400)

-- the fingers of a column are 6 to 400 wide
pub record HasWidths (c : Column) : Type 0 where
  pub n : IsFingerWidth c.n
  pub p : IsFingerWidth c.p

pub record IsSmallFrame (f : Frame) : Type 0 where
  pub rows : HasRows f
  pub top : f.p_edge + f.p_height ≤ 100000
  pub right : f.width ≤ MOST_X + SIDE_SPACE

-- the height lies where tracks may
abbrev pub IsHeight : Frame → ℕ → Type 0
IsHeight f y = (f.n_edge + EDGE_SPACE ≤ y) × (y + EDGE_SPACE ≤ f.p_edge)

abbrev pub IsReach : Frame → Option ℕ → Type 0
IsReach f None = Unit {0}
IsReach f (Some y) = IsHeight f y

pub record IsSmallStrip (f : Frame) (s : Strip) : Type 0 where
  pub ascends : s.left < s.right
  pub right : s.right ≤ MOST_X
  pub least : 6 ≤ s.width
  pub most : s.width ≤ row_height f s.row

pub record IsSmallContact (f : Frame) (c : Contact) : Type 0 where
  pub right : c.x ≤ MOST_X
  pub reach : IsReach f c.reach

pub record IsSmallGate (f : Frame) (g : Gate) : Type 0 where
  pub right : g.x ≤ MOST_X
  pub n : IsWidth f.n_height g.n
  pub p : IsWidth f.p_height g.p
  pub finger : HasFinger g.n g.p
  pub track : IsReach f g.track

pub record IsSmallBar (f : Frame) (b : Bar) : Type 0 where
  pub ascends : b.left ≤ b.right
  pub right : b.right ≤ MOST_X
  pub height : IsHeight f b.y
  pub vias : All (λ x. x ≤ MOST_X) b.vias

pub record IsSmallTag (t : Tag) : Type 0 where
  pub right : t.x ≤ MOST_X
  pub top : t.y ≤ MOST_Y

pub record IsSmall (l : Layout) : Type 0 where
  pub frame : IsSmallFrame l.frame
  pub strips : All (IsSmallStrip l.frame) l.strips
  pub contacts : All (IsSmallContact l.frame) l.contacts
  pub gates : All (IsSmallGate l.frame) l.gates
  pub bars : All (IsSmallBar l.frame) l.bars
  pub tags : All IsSmallTag l.tags
