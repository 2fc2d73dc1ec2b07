-- Labels belong to pieces of their nets.
use Rattle.std.proofs.Common.{ℕ, ◌≡◌, ◌+◌, ◌-◌, ◌≤◌, ◌==◌, ◌&&◌, Bool, ℤ, pos, ◌-ℤ◌, List, inl, inr, refl, sym, ap, subst, ◌∙◌, arith, Contains, if◌then◌else◌}
use Rattle.std.proofs.lemmas.Int.{ints}
use Rattle.cell_num.specs.declared.net.NetNo.{NetNo}
use Rattle.cell_num.specs.declared.finger.Row.{Row}
use Rattle.cell_num.specs.declared.finger.Row.TheVariants.{P, N}
use Rattle.cell_num.specs.Tests.{same_row}
use Rattle.box_geom.specs.Rectangle.{Holds}
use Rattle.box_geom.specs.Touching.{Cell}
use Rattle.box_geom.specs.declared.layer.Layer.{Layer}
use Rattle.box_geom.specs.declared.layer.Layer.TheVariants.{Active, Poly as PolyLayer, Metal1 as Metal1Layer}
use Rattle.box_geom.specs.declared.shape.Label.{Label}
use Rattle.scmos_rules.specs.Layout.{On}
use Rattle.net_extract.specs.Nets.{layer_of, Site, site_at, Conducts}
use Rattle.net_extract.specs.declared.piece.Conductor.{Conductor}
use Rattle.net_extract.specs.declared.piece.Conductor.TheVariants.{PDiffusion, NDiffusion, Poly, Metal1, Metal2}
use Rattle.net_extract.specs.Devices.{diffusion_of}
use Rattle.net_extract.specs.Labels.{IsConductorAt, Belongs}
use Rattle.net_extract.specs.Bonds.{IsIn}
use Rattle.cell_draw.specs.declared.layout.Frame.{Frame}
use Rattle.cell_draw.specs.declared.layout.Strip.{Strip}
use Rattle.cell_draw.specs.declared.layout.Contact.{Contact}
use Rattle.cell_draw.specs.declared.layout.Layout.{Layout}
use Rattle.cell_draw.specs.Laid.{IsFrame, IsLaid}
use Rattle.cell_draw.specs.Layouts.{is_p}
use Rattle.cell_draw.specs.Shapes.{shapes_of}
use Rattle.cell_draw.proofs.NetsApart.{wire_piece}
use Rattle.cell_draw.proofs.NetsDrawn.{conducts}
use Rattle.cell_draw.proofs.NetsFacts.{left_end, right_end, IsNetted}
use Rattle.cell_draw.proofs.NetsWires.{Wire, kind_of, rect_of, net_of, half_in, IsWire}
use Rattle.cell_draw.proofs.RulesActive.{Area, finger_of, IsArea, area_rect, finger_in, pad_in, strip_is}
use Rattle.cell_draw.proofs.RulesActive as area
use Rattle.cell_draw.proofs.RulesCovers.{area_held}

-- a label with the layer and the place, whatever its name
abbrev label_at : Layer → ℕ → ℕ → List ℕ → Label
label_at layer x y name = record { layer = layer; x = pos x; y = pos y; name = name }

-- the piece to which a label belongs
pub record LabelOn (l : Layout) (n : IsNetted l) (label : Label) (net : NetNo) : Type 0 where
  pub wire : Wire
  pub listed : IsWire l wire
  pub of : net_of l n wire ≡ net
  pub site : Site
  pub belongs : Belongs (shapes_of l) label site
  pub holds : IsIn (wire_piece l n wire) site

-- the label's point is the corner of a cell of the piece
pub direct : (l : Layout) (w : IsLaid l) (n : IsNetted l) (a : Wire) (layer : Layer) (x y : ℕ) (name : List ℕ) (net : NetNo) → IsWire l a → net_of l n a ≡ net → layer_of (kind_of a) ≡ layer → Holds (rect_of l n a) (pos x) (pos y) → LabelOn l n (label_at layer x y name) net
direct l w n a layer x y name net h e on holds = record {
  wire = a;
  listed = h;
  of = e;
  site = site_at (kind_of a) (pos x) (pos y);
  belongs = inl (record { cell = refl; on_layer = on; conducts = conducts l w n a h (pos x) (pos y) holds });
  holds = record { kind = refl; holds = holds };
}

-- the upper right cell is none, and the upper left one is a cell of the piece
pub beside : (l : Layout) (w : IsLaid l) (n : IsNetted l) (a : Wire) (layer : Layer) (x y : ℕ) (name : List ℕ) (net : NetNo) → IsWire l a → net_of l n a ≡ net → layer_of (kind_of a) ≡ layer → Holds (rect_of l n a) (pos x -ℤ pos 1) (pos y) → ((b : Site) → IsConductorAt (shapes_of l) layer (record { x = pos x; y = pos y }) b → ⊥) → LabelOn l n (label_at layer x y name) net
beside l w n a layer x y name net h e on holds bare = record {
  wire = a;
  listed = h;
  of = e;
  site = site_at (kind_of a) (pos x -ℤ pos 1) (pos y);
  belongs = inr (bare, inl (record { cell = refl; on_layer = on; conducts = conducts l w n a h (pos x -ℤ pos 1) (pos y) holds }));
  holds = record { kind = refl; holds = holds };
}

pub on_diffusion : (row : Row) → layer_of (diffusion_of row) ≡ Active
on_diffusion N = refl
on_diffusion P = refl

-- ---- a label at the end of a finger
abbrev pub node_y : Frame → Row → ℕ
node_y f row = if is_p row then f.p_edge + 4 else f.n_edge - 4

pub left_corner : (f : Frame) (k : ℕ) → IsFrame f k → (row : Row) (s : Strip) (z x : ℕ) → s.left + 8 ≤ z → 6 ≤ s.width → s.left ≡ x → Holds (half_in f row s z left_end) (pos x) (pos (node_y f row))
left_corner f k fr N s z x a wide e = omega (arith, ints)
left_corner f k fr P s z x a wide e = omega (arith, ints)

pub right_corner : (f : Frame) (k : ℕ) → IsFrame f k → (row : Row) (s : Strip) (z x : ℕ) → z + 8 ≤ s.right → 6 ≤ s.width → s.right ≡ x → Holds (half_in f row s z right_end) (pos x -ℤ pos 1) (pos (node_y f row))
right_corner f k fr N s z x a wide e = omega (arith, ints)
right_corner f k fr P s z x a wide e = omega (arith, ints)

-- an active cell is a conductor's
pub active_at : (l : Layout) (x y : ℤ) (b : Site) → IsConductorAt (shapes_of l) Active (record { x = x; y = y }) b → On Active (shapes_of l) x y
active_at l x y b c = by b.kind refl c.conducts
  where
    at : On Active (shapes_of l) b.cell.x b.cell.y → On Active (shapes_of l) x y
    at on = subst (λ (z : Cell). On Active (shapes_of l) z.x z.y) c.cell on

    by : (k : Conductor) → b.kind ≡ k → Conducts (shapes_of l) b → On Active (shapes_of l) x y
    by PDiffusion e h = at (let d : Conducts (shapes_of l) (site_at PDiffusion b.cell.x b.cell.y) = subst (λ z. Conducts (shapes_of l) (site_at z b.cell.x b.cell.y)) e h in d.0.0)
    by NDiffusion e h = at (let d : Conducts (shapes_of l) (site_at NDiffusion b.cell.x b.cell.y) = subst (λ z. Conducts (shapes_of l) (site_at z b.cell.x b.cell.y)) e h in d.0.0)
    by Poly e h = absurd (let wrong : ◌≡◌ {A = Layer} PolyLayer Active = ap (λ z. layer_of z) (sym e) ∙ c.on_layer in cc)
    by Metal1 e h = absurd (let wrong : ◌≡◌ {A = Layer} Metal1Layer Active = ap (λ z. layer_of z) (sym e) ∙ c.on_layer in cc)
    by Metal2 e h = absurd (let wrong = ap (λ z. layer_of z) (sym e) ∙ c.on_layer in cc)

-- no strip of the row begins at the line
abbrev pub NoneBegins : Layout → Row → ℕ → Type 0
NoneBegins l row x = (t : Strip) → Contains l.strips t → t.row ≡ row → t.left ≡ x → ⊥

in_rows : (f : Frame) (k : ℕ) → IsFrame f k → (row side : Row) (t : Strip) (x : ℤ) → Holds (finger_in f side t).rect x (pos (node_y f row)) → side ≡ row
in_rows f k fr N N t x h = refl
in_rows f k fr P P t x h = refl
in_rows f k fr N P t x h = absurd (omega (arith, ints))
in_rows f k fr P N t x h = absurd (omega (arith, ints))

pad_rows : (f : Frame) (k : ℕ) → IsFrame f k → (row side : Row) (z : ℕ) (x : ℤ) → Holds (pad_in f side z).rect x (pos (node_y f row)) → side ≡ row
pad_rows f k fr N N z x h = refl
pad_rows f k fr P P z x h = refl
pad_rows f k fr N P z x h = absurd (omega (arith, ints))
pad_rows f k fr P N z x h = absurd (omega (arith, ints))

-- past the end of a strip without a contact and a neighbour there is no active
pub end_bare : (l : Layout) (w : IsLaid l) (s : Strip) (x : ℕ) → Contains l.strips s → s.right ≡ x → NoneBegins l s.row x → ((c : Contact) → Contains l.contacts c → c.row ≡ s.row → c.x ≡ x → ⊥) → On Active (shapes_of l) (pos x) (pos (node_y l.frame s.row)) → ⊥
end_bare l w s x hs e none free on = let a = area_held l (pos x) (pos (node_y l.frame s.row)) on in by a.piece a.listed a.holds
  where
    by : (a : Area) → IsArea l a → Holds (area_rect l a) (pos x) (pos (node_y l.frame s.row)) → ⊥
    by (finger_of t) there h =
        let rows : t.row ≡ s.row = in_rows l.frame w.tracks w.frame s.row t.row t (pos x) h in
        elim (w.ordered t s there hs rows) [
          | inl same ↦ let r : t.right ≡ x = ap (λ (z : Strip). z.right) same ∙ e in omega (arith, ints)
          | inr (inl (inl z)) ↦ let wide = (strip_is l w s hs).wide in omega (arith, ints)
          | inr (inl (inr z)) ↦ let wide = (strip_is l w s hs).wide in omega (arith, ints)
          | inr (inr (inl z)) ↦ none t there rows (sym z ∙ e)
          | inr (inr (inr z)) ↦ omega (arith, ints)
        ]
    by (area.pad_of c) there h =
        let rows : c.row ≡ s.row = pad_rows l.frame w.tracks w.frame s.row c.row c.x (pos x) h in
        let wide = (strip_is l w s hs).wide in
        elim (w.ends c s there hs rows) [
          | inl z ↦ omega (arith, ints)
          | inr (inl z) ↦ free c there rows (z ∙ e)
          | inr (inr (inl z)) ↦ omega (arith, ints)
          | inr (inr (inr z)) ↦ omega (arith, ints)
        ]

abbrev pub begins : Row → ℕ → Strip → Bool
begins row x t = same_row t.row row && (t.left == x)
