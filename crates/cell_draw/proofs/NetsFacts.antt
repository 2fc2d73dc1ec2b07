-- What a layout must meet so that each net of its drawing is one of its nets: facts on numbers alone.
use Rattle.std.proofs.Common.{◌≡◌, ◌≢◌, ℕ, ◌+◌, ◌≤◌, Some, None, ◌⊎◌}
use Rattle.std.specs.List.{Contains}
use Rattle.cell_num.specs.declared.net.NetNo.{NetNo}
use Rattle.cell_num.specs.declared.finger.Row.{Row}
use Rattle.box_geom.specs.Chains.{Chain}
use Rattle.cell_draw.specs.declared.layout.Strip.{Strip}
use Rattle.cell_draw.specs.declared.layout.Contact.{Contact}
use Rattle.cell_draw.specs.declared.layout.Gate.{Gate}
use Rattle.cell_draw.specs.declared.layout.Bar.{Bar}
use Rattle.cell_draw.specs.declared.layout.Layout.{Layout}
use Rattle.cell_draw.specs.Laid.{width_in, GoesTo}

-- an end of a finger
pub data End : Type 0 where
  left_end : End
  right_end : End

abbrev pub end_x : End → Strip → ℕ
end_x left_end s = s.left
end_x right_end s = s.right

-- the gate stands over the strip
pub record IsOver (s : Strip) (g : Gate) : Type 0 where
  pub left : s.left + 8 ≤ g.x
  pub right : g.x + 8 ≤ s.right

-- the signal's metal2 goes to a bar of its net and meets it in a via
pub record Reaches (l : Layout) (c : Contact) (y : ℕ) : Type 0 where
  pub bar : Bar
  pub listed : Contains l.bars bar
  pub net : bar.net ≡ c.net
  pub via : Contains bar.vias c.x
  pub goes : GoesTo c.row y bar.y

-- Two bars of one net overlap on one track, or a contact's metal2 goes to both and meets each in a via.
pub data AreNeighbours (l : Layout) (a b : Bar) : Type 0 where
  overlap : Contains l.bars a → Contains l.bars b → a.net ≡ b.net → a.y ≡ b.y → a.left ≤ b.right → b.left ≤ a.right → AreNeighbours l a b
  crossed : (c : Contact) (y : ℕ) → Contains l.contacts c → c.reach ≡ Some y → (to : Reaches l c y) → to.bar ≡ a → (also : Reaches l c y) → also.bar ≡ b → AreNeighbours l a b

-- a contact at the line in the row
pub record HasContact (l : Layout) (row : Row) (x : ℕ) : Type 0 where
  pub contact : Contact
  pub listed : Contains l.contacts contact
  pub in_row : contact.row ≡ row
  pub at_x : contact.x ≡ x

-- a net that stands at one line of one row alone, without a contact
pub record IsLone (l : Layout) (nets : Row → ℕ → NetNo) (row : Row) (x : ℕ) : Type 0 where
  pub no_gnd : nets row x ≢ l.gnd
  pub no_vdd : nets row x ≢ l.vdd
  pub no_bar : (b : Bar) → Contains l.bars b → b.net ≢ nets row x
  pub no_gate : (g : Gate) → Contains l.gates g → g.net ≢ nets row x
  pub here : (s : Strip) (e : End) → Contains l.strips s → nets s.row (end_x e s) ≡ nets row x → (s.row ≡ row) × (end_x e s ≡ x)

-- a net that stands at one gate alone
pub record IsLoneGate (l : Layout) (nets : Row → ℕ → NetNo) (g : Gate) : Type 0 where
  pub no_bar : (b : Bar) → Contains l.bars b → b.net ≢ g.net
  pub here : (h : Gate) → Contains l.gates h → h.net ≡ g.net → h ≡ g
  pub no_end : (s : Strip) (e : End) → Contains l.strips s → nets s.row (end_x e s) ≢ g.net

-- a strip under the gate
pub record HasStrip (l : Layout) (g : Gate) (row : Row) (width : ℕ) : Type 0 where
  pub strip : Strip
  pub listed : Contains l.strips strip
  pub in_row : strip.row ≡ row
  pub as_wide : strip.width ≡ width
  pub over : IsOver strip g

pub record IsNetted (l : Layout) : Type 0 where
  -- the net at a line of a row, and the gate over a strip
  pub nets : Row → ℕ → NetNo
  pub over : Strip → Gate
  pub rails : l.gnd ≢ l.vdd
  -- each strip has one gate, and a gate stands over the strips that it knows
  pub gated : (s : Strip) → Contains l.strips s → Contains l.gates (over s) × IsOver s (over s)
  pub one_gate : (s : Strip) (g : Gate) → Contains l.strips s → Contains l.gates g → IsOver s g → g ≡ over s
  pub fingered : (g : Gate) (row : Row) (width : ℕ) → Contains l.gates g → width_in row g ≡ Some width → HasStrip l g row width
  -- contacts are of the net at their line; signals meet a bar of their net
  pub contacts : (c : Contact) → Contains l.contacts c → c.net ≡ nets c.row c.x
  pub signals : (c : Contact) (y : ℕ) → Contains l.contacts c → c.reach ≡ Some y → Reaches l c y
  -- the rails have neither bars nor gates; the bars of a net hang together
  pub bars : (b : Bar) → Contains l.bars b → (b.net ≢ l.gnd) × (b.net ≢ l.vdd)
  pub gates : (g : Gate) → Contains l.gates g → (g.net ≢ l.gnd) × (g.net ≢ l.vdd)
  pub joined : (a b : Bar) → Contains l.bars a → Contains l.bars b → a.net ≡ b.net → Chain (AreNeighbours l) a b
  -- what meets no bar and no rail stands alone
  pub ends : (s : Strip) (e : End) → Contains l.strips s → HasContact l s.row (end_x e s) ⊎ IsLone l nets s.row (end_x e s)
  pub lone : (g : Gate) → Contains l.gates g → g.track ≡ None → IsLoneGate l nets g
