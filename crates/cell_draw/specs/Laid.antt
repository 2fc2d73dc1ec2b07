-- What a layout must meet so that its shapes obey the rules: facts on numbers alone.
use Rattle.std.specs.Prelude.{ℕ, ◌≡◌, ◌+◌, ◌*◌, ◌≤◌, ◌<◌, ◌⊎◌, Option, Some, None}
use Rattle.std.specs.List.{All, Contains}
use Rattle.cell_num.specs.declared.net.NetNo.{NetNo}
use Rattle.cell_num.specs.declared.finger.Row.{Row}
use Rattle.cell_num.specs.declared.finger.Row.TheVariants.{P, N}
use Rattle.row_compact.specs.Measures.{SIDE_SPACE, LINE_SPACE, CONTACT_SPACE, STRETCH_SPACE}
use Rattle.cell_draw.specs.Measures.{ROW_EDGE, LEAST_ROW, EDGE_SPACE, LEAST_CHANNEL, TRACK_PITCH}
use Rattle.cell_draw.specs.declared.layout.Frame.{Frame}
use Rattle.cell_draw.specs.declared.layout.Strip.{Strip}
use Rattle.cell_draw.specs.declared.layout.Contact.{Contact}
use Rattle.cell_draw.specs.declared.layout.Gate.{Gate}
use Rattle.cell_draw.specs.declared.layout.Bar.{Bar}
use Rattle.cell_draw.specs.declared.layout.Layout.{Layout}

-- Upward: the N row beside its rail, the channel, with room for a track at least, and the P row. No row is lower than a
-- pad, and the cell is as wide as its two sides.
pub record HasRows (f : Frame) : Type 0 where
  pub low : f.n_edge ≡ ROW_EDGE + f.n_height
  pub channel : f.n_edge + LEAST_CHANNEL ≤ f.p_edge
  pub n_least : LEAST_ROW ≤ f.n_height
  pub p_least : LEAST_ROW ≤ f.p_height
  pub wide : 2 * SIDE_SPACE ≤ f.width

-- The channel has room for the tracks. It may be higher than that.
pub record IsFrame (f : Frame) (tracks : ℕ) : Type 0 where
  pub rows : HasRows f
  pub room : f.n_edge + LEAST_CHANNEL + TRACK_PITCH * tracks ≤ f.p_edge + TRACK_PITCH

-- a height at which a track lies
pub record IsTrack (f : Frame) (tracks y : ℕ) : Type 0 where
  pub number : ℕ
  pub below : number < tracks
  pub is : y ≡ f.n_edge + EDGE_SPACE + TRACK_PITCH * number

-- a line at which something is drawn is well inside the cell
pub record IsInside (f : Frame) (x : ℕ) : Type 0 where
  pub left : SIDE_SPACE ≤ x
  pub right : x + SIDE_SPACE ≤ f.width

abbrev pub row_height : Frame → Row → ℕ
row_height f N = f.n_height
row_height f P = f.p_height

abbrev pub width_in : Row → Gate → Option ℕ
width_in N g = g.n
width_in P g = g.p

abbrev pub rail_in : Row → Layout → NetNo
rail_in N l = l.gnd
rail_in P l = l.vdd

-- one is this far or further to the left of the other
abbrev pub AreFar : ℕ → ℕ → ℕ → Type 0
AreFar by x z = (x + by ≤ z) ⊎ (z + by ≤ x)

pub record IsStrip (f : Frame) (s : Strip) : Type 0 where
  pub left : SIDE_SPACE ≤ s.left
  pub wide : s.left + 2 * LINE_SPACE ≤ s.right
  pub right : s.right + SIDE_SPACE ≤ f.width
  pub least : 6 ≤ s.width
  pub most : s.width ≤ row_height f s.row

-- the next strip shares an end, or a gap is between
abbrev pub Follows : Strip → Strip → Type 0
Follows a b = (a.right ≡ b.left) ⊎ (a.right + 2 * LINE_SPACE ≤ b.left)

-- a contact is at an end of a strip of its row, or far from it
abbrev pub MeetsEnd : Contact → Strip → Type 0
MeetsEnd c s = (c.x ≡ s.left) ⊎ ((c.x ≡ s.right) ⊎ ((c.x + 2 * LINE_SPACE ≤ s.left) ⊎ (s.right + 2 * LINE_SPACE ≤ c.x)))

-- At a line a signal of the N row and one of the P row are one net and overlap, or keep a track apart.
abbrev pub KeepClear : Contact → Contact → ℕ → ℕ → Type 0
KeepClear a b n p = ((p ≤ n) × (a.net ≡ b.net)) ⊎ (n + TRACK_PITCH ≤ p)

-- where a row has a finger its width is one of a finger
abbrev pub IsWidth : ℕ → Option ℕ → Type 0
IsWidth height None = Unit {0}
IsWidth height (Some width) = (6 ≤ width) × (width ≤ height)

-- a gate is over a finger of the N or of the P row
abbrev pub HasFinger : Option ℕ → Option ℕ → Type 0
HasFinger None None = ⊥
HasFinger _ _ = Unit {0}

pub record IsGate (f : Frame) (g : Gate) : Type 0 where
  pub inside : IsInside f g.x
  pub n : IsWidth f.n_height g.n
  pub p : IsWidth f.p_height g.p
  pub finger : HasFinger g.n g.p

-- a gate is over the strip, as wide as it knows, or clear of it
abbrev pub Crosses : Gate → Strip → Type 0
Crosses g s =
    ((s.left + LINE_SPACE ≤ g.x) × (g.x + LINE_SPACE ≤ s.right) × (width_in s.row g ≡ Some s.width))
    ⊎ ((g.x + LINE_SPACE ≤ s.left) ⊎ (s.right + LINE_SPACE ≤ g.x))

-- two bars lie on two tracks, or apart on one, or overlap there and are of one net
abbrev pub AreBars : Bar → Bar → Type 0
AreBars a b =
    AreFar TRACK_PITCH a.y b.y
    ⊎ ((a.y ≡ b.y) × (((a.right + STRETCH_SPACE ≤ b.left) ⊎ (b.right + STRETCH_SPACE ≤ a.left))
    ⊎ ((a.left ≤ b.right) × (b.left ≤ a.right) × (a.net ≡ b.net))))

-- a place on a track lies on a bar of the net
pub record IsOnBar (l : Layout) (net : NetNo) (x y : ℕ) : Type 0 where
  pub bar : Bar
  pub listed : Contains l.bars bar
  pub left : bar.left ≤ x
  pub right : x ≤ bar.right
  pub track : bar.y ≡ y
  pub of : bar.net ≡ net

-- seen from its row, a place's metal2 goes at least to the height y
abbrev pub GoesTo : Row → ℕ → ℕ → Type 0
GoesTo N reach y = y ≤ reach
GoesTo P reach y = reach ≤ y

-- a contact of the net at the line whose metal2 goes to the bar
pub record IsMet (l : Layout) (b : Bar) (x : ℕ) : Type 0 where
  pub contact : Contact
  pub reach : ℕ
  pub listed : Contains l.contacts contact
  pub at : contact.x ≡ x
  pub net : contact.net ≡ b.net
  pub signal : contact.reach ≡ Some reach
  pub goes : GoesTo contact.row reach b.y
  pub left : b.left ≤ x
  pub right : x ≤ b.right

pub record IsLaid (l : Layout) : Type 0 where
  pub tracks : ℕ
  pub frame : IsFrame l.frame tracks
  -- fingers: of one row, each to the left of the next
  pub strips : All (IsStrip l.frame) l.strips
  pub ordered : (a b : Strip) → Contains l.strips a → Contains l.strips b → a.row ≡ b.row →
      (a ≡ b) ⊎ (Follows a b ⊎ Follows b a)
  -- contacts: inside, at one line or two lines apart, one of a row at a line
  pub inside : All (λ (c : Contact). IsInside l.frame c.x) l.contacts
  pub spread : (a b : Contact) → Contains l.contacts a → Contains l.contacts b →
      (a.x ≡ b.x) ⊎ AreFar (2 * LINE_SPACE) a.x b.x
  pub single : (a b : Contact) → Contains l.contacts a → Contains l.contacts b → a.row ≡ b.row → a.x ≡ b.x → a ≡ b
  pub rails : (c : Contact) → Contains l.contacts c → c.reach ≡ None → c.net ≡ rail_in c.row l
  pub reaches : (c : Contact) (y : ℕ) → Contains l.contacts c → c.reach ≡ Some y → IsTrack l.frame tracks y
  pub clear : (a b : Contact) (n p : ℕ) → Contains l.contacts a → Contains l.contacts b → a.row ≡ N → b.row ≡ P →
      a.x ≡ b.x → a.reach ≡ Some n → b.reach ≡ Some p → KeepClear a b n p
  pub ends : (c : Contact) (s : Strip) → Contains l.contacts c → Contains l.strips s → c.row ≡ s.row → MeetsEnd c s
  -- gates: two lines apart, clear of contacts, over the fingers of their columns
  pub gates : All (IsGate l.frame) l.gates
  pub gate_spread : (a b : Gate) → Contains l.gates a → Contains l.gates b → (a ≡ b) ⊎ AreFar (2 * LINE_SPACE) a.x b.x
  pub beside : (c : Contact) (g : Gate) → Contains l.contacts c → Contains l.gates g → AreFar CONTACT_SPACE c.x g.x
  pub over : (g : Gate) (s : Strip) → Contains l.gates g → Contains l.strips s → Crosses g s
  pub pads : (g : Gate) (y : ℕ) → Contains l.gates g → g.track ≡ Some y → IsOnBar l g.net g.x y
  -- bars: on tracks, clear of each other, each via under a contact's metal2
  pub bars : (b : Bar) → Contains l.bars b → (b.left ≤ b.right) × IsTrack l.frame tracks b.y
  pub bar_spread : (a b : Bar) → Contains l.bars a → Contains l.bars b → AreBars a b
  pub vias : (b : Bar) (x : ℕ) → Contains l.bars b → Contains b.vias x → IsMet l b x
