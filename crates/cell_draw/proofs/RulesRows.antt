-- Where the cells of a layer lie: in which row, at which line.
use Rattle.std.proofs.Common.{◌≡◌, ℕ, ◌+◌, ◌≤◌, ℤ, pos, ◌≤ℤ◌, ◌<ℤ◌, ◌+ℤ◌, ◌-ℤ◌, arith, inl, inr, ◌⊎◌}
use Rattle.std.specs.List.{Contains}
use Rattle.std.proofs.lemmas.Int.{ints}
use Rattle.std.proofs.lemmas.List.Elements.{All-contains}
use Rattle.cell_num.specs.declared.finger.Row.{Row}
use Rattle.cell_num.specs.declared.finger.Row.TheVariants.{P, N}
use Rattle.box_geom.specs.Rectangle.{Holds}
use Rattle.box_geom.specs.declared.layer.Layer.TheVariants.{Active, Poly, Via}
use Rattle.scmos_rules.specs.Layout.{On}
use Rattle.cell_draw.specs.declared.layout.Frame.{Frame}
use Rattle.cell_draw.specs.declared.layout.Strip.{Strip}
use Rattle.cell_draw.specs.declared.layout.Contact.{Contact}
use Rattle.cell_draw.specs.declared.layout.Gate.{Gate}
use Rattle.cell_draw.specs.declared.layout.Layout.{Layout}
use Rattle.cell_draw.specs.Shapes.{shapes_of}
use Rattle.cell_draw.specs.Laid.{IsFrame, IsInside, IsStrip, row_height, IsLaid}
use Rattle.cell_draw.proofs.RulesActive.{Area, finger_of, finger_in, pad_in, IsArea, area_rect, strip_is}
use Rattle.cell_draw.proofs.RulesActive as area
use Rattle.cell_draw.proofs.RulesPoly.{Piece, strip_of, IsPiece, piece_rect}
use Rattle.cell_draw.proofs.RulesPoly as poly
use Rattle.cell_draw.proofs.RulesVias.{ViaPlace, landing_of, landing_in, meeting_of, IsViaPlace, via_rect, bar_in}
use Rattle.cell_draw.proofs.RulesCovers.{area_held, poly_held, via_held}

-- a cell of the N row and one of the P row, each at least 3 inside the cell's sides
pub record InN (f : Frame) (x y : ℤ) : Type 0 where
  pub left : pos 3 ≤ℤ x
  pub right : (x +ℤ pos 3) <ℤ pos f.width
  pub low : (pos f.n_edge -ℤ pos f.n_height) ≤ℤ y
  pub high : y <ℤ pos f.n_edge

pub record InP (f : Frame) (x y : ℤ) : Type 0 where
  pub left : pos 3 ≤ℤ x
  pub right : (x +ℤ pos 3) <ℤ pos f.width
  pub low : pos f.p_edge ≤ℤ y
  pub high : y <ℤ pos (f.p_edge + f.p_height)

finger_row : (f : Frame) (k : ℕ) → IsFrame f k → (row : Row) (s : Strip) → IsStrip f s → s.width ≤ row_height f row → (x y : ℤ) → Holds (finger_in f row s).rect x y → InN f x y ⊎ InP f x y
finger_row f k fr N s is most x y h = inl (omega (arith, ints))
finger_row f k fr P s is most x y h = inr (omega (arith, ints))

pad_row : (f : Frame) (k : ℕ) → IsFrame f k → (row : Row) (z : ℕ) → IsInside f z → (x y : ℤ) → Holds (pad_in f row z).rect x y → InN f x y ⊎ InP f x y
pad_row f k fr N z is x y h = inl (omega (arith, ints))
pad_row f k fr P z is x y h = inr (omega (arith, ints))

pub inside_of : (l : Layout) (w : IsLaid l) (c : Contact) → Contains l.contacts c → IsInside l.frame c.x
inside_of l w c h = All-contains (λ (c : Contact). IsInside l.frame c.x) l.contacts c w.inside h

area_row : (l : Layout) (w : IsLaid l) (a : Area) → IsArea l a → (x y : ℤ) → Holds (area_rect l a) x y → InN l.frame x y ⊎ InP l.frame x y
area_row l w (finger_of s) h x y k = let is = strip_is l w s h in finger_row l.frame w.tracks w.frame s.row s is is.most x y k
area_row l w (area.pad_of c) h x y k = pad_row l.frame w.tracks w.frame c.row c.x (inside_of l w c h) x y k

-- an active cell is of one of the rows
pub active_row : (l : Layout) (w : IsLaid l) (x y : ℤ) → On Active (shapes_of l) x y → InN l.frame x y ⊎ InP l.frame x y
active_row l w x y c = let a = area_held l x y c in area_row l w a.piece a.listed x y a.holds

-- a cell whose x is within 5 of a gate
pub record AtGate (l : Layout) (x : ℤ) : Type 0 where
  pub gate : Gate
  pub listed : Contains l.gates gate
  pub left : (pos gate.x -ℤ pos 5) ≤ℤ x
  pub right : x <ℤ (pos gate.x +ℤ pos 5)

poly_line : (l : Layout) (p : Piece) → IsPiece l p → (x y : ℤ) → Holds (piece_rect l p) x y → AtGate l x
poly_line l (strip_of g) h x y k = record { gate = g; listed = h; left = omega (arith, ints); right = omega (arith, ints) }
poly_line l (poly.pad_of g t) h x y k = record { gate = g; listed = h.listed; left = omega (arith, ints); right = omega (arith, ints) }

pub poly_at_gate : (l : Layout) (x y : ℤ) → On Poly (shapes_of l) x y → AtGate l x
poly_at_gate l x y c = let p = poly_held l x y c in poly_line l p.piece p.listed x y p.holds

-- a cell whose x is within 2 of a contact
pub record AtContact (l : Layout) (x : ℤ) : Type 0 where
  pub contact : Contact
  pub listed : Contains l.contacts contact
  pub left : (pos contact.x -ℤ pos 2) ≤ℤ x
  pub right : x <ℤ (pos contact.x +ℤ pos 2)

-- the heights of vias
pub record InMiddle (f : Frame) (y : ℤ) : Type 0 where
  pub low : pos (f.n_edge + 4) ≤ℤ y
  pub high : (y +ℤ pos 4) <ℤ pos f.p_edge

landing_height : (f : Frame) (k : ℕ) → IsFrame f k → (row : Row) (z : ℕ) (x y : ℤ) → Holds (landing_in f row z).rect x y → InMiddle f y
landing_height f k fr N z x y h = omega (arith, ints)
landing_height f k fr P z x y h = omega (arith, ints)

via_middle : (l : Layout) (w : IsLaid l) (a : ViaPlace) → IsViaPlace l a → (x y : ℤ) → Holds (via_rect l a) x y → InMiddle l.frame y
via_middle l w (landing_of s) h x y k = landing_height l.frame w.tracks w.frame s.contact.row s.contact.x x y k
via_middle l w (meeting_of b z) h x y k = let c = bar_in l w b h.listed in omega (arith, ints)

pub via_height : (l : Layout) (w : IsLaid l) (x y : ℤ) → On Via (shapes_of l) x y → InMiddle l.frame y
via_height l w x y c = let v = via_held l x y c in via_middle l w v.piece v.listed x y v.holds

via_line : (l : Layout) (w : IsLaid l) (a : ViaPlace) → IsViaPlace l a → (x y : ℤ) → Holds (via_rect l a) x y → AtContact l x
via_line l w (landing_of s) h x y k = record { contact = s.contact; listed = h.listed; left = omega (arith, ints); right = omega (arith, ints) }
via_line l w (meeting_of b z) h x y k =
    let m = w.vias b z h.listed h.line in
    let at : m.contact.x ≡ z = m.at in
    record { contact = m.contact; listed = m.listed; left = omega (arith, ints); right = omega (arith, ints) }

pub via_at_contact : (l : Layout) (w : IsLaid l) (x y : ℤ) → On Via (shapes_of l) x y → AtContact l x
via_at_contact l w x y c = let v = via_held l x y c in via_line l w v.piece v.listed x y v.holds

-- what is within 4 of a contact's line is at no gate's
pub no_gate_near : (l : Layout) (w : IsLaid l) (x s : ℤ) → AtContact l x → AtGate l s → x ≤ℤ (s +ℤ pos 4) → s ≤ℤ (x +ℤ pos 4) → ⊥
no_gate_near l w x s c g less more =
    elim (w.beside c.contact g.gate c.listed g.listed) [ inl far ↦ omega (arith, ints) | inr far ↦ omega (arith, ints) ]
