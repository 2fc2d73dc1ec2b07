-- The labels of a row: each is one of a cell, in its place, and belongs to the same conductor there.
use Rattle.std.proofs.Common.{◌≡◌, not, ℕ, ℤ, Bool, true, false, List, [], ◌∷◌, inl, inr, ◌⊎◌, refl, sym, subst, ap, arith, ◌∙◌}
use Rattle.std.specs.Prelude.{bytes_eq}
use Rattle.std.specs.List.{Contains, filter, flat_map}
use Rattle.std.proofs.lemmas.Bool.{false≢true}
use Rattle.std.proofs.lemmas.Int.{ints}
use Rattle.std.proofs.lemmas.List.Elements.{All-contains, Contains-append_cases, Contains-append_left, Contains-append_right}
use Rattle.std.proofs.lemmas.Slice.Eq.{bytes_eq-Decides}
use Rattle.cell_num.proofs.In.{in_map, contains_map, in_flat, contains_flat}
use Rattle.cell_num.proofs.Lists.{contains_none}
use Rattle.box_geom.proofs.Filters.{contains_filter, in_filter}
use Rattle.box_geom.specs.Touching.{Cell}
use Rattle.box_geom.specs.declared.layer.Layer.{Layer}
use Rattle.box_geom.specs.declared.shape.Label.{Label}
use Rattle.scmos_rules.proofs.Rails.{IsColumn}
use Rattle.net_extract.specs.Labels.{IsConductorAt, IsFirstConductor, cells_round, Belongs}
use Rattle.net_extract.specs.Nets.{Site, Conducts}
use Rattle.cell_draw.specs.Framed.{IsLabelInFrame}
use Rattle.row_abut.specs.Row.{Standing, standing, is_rail, label_at, labels_at, labels_named, rail_labels, row_labels, vdd_name, gnd_name}
use Rattle.row_abut.specs.Circuit.{name_in_row}
use Rattle.row_abut.specs.declared.cell.RowCell.{RowCell}
use Rattle.row_abut.proofs.Beside.{Side, low, high}
use Rattle.row_abut.proofs.MovedNets.{moved_site, IsMovedLabel, belongs}
use Rattle.row_abut.proofs.Nets.{of_cell, of_whole, lies}
use Rattle.row_abut.proofs.Places.{Place, at, place_of, at_listed}
use Rattle.row_abut.proofs.RowTexts.{rail_name, rail_is, rail_kept, signal_numbered}
use Rattle.row_abut.proofs.Rows.{Row, Spot, standing_at, from, to, drawn, framed, plain, own, whole, moved, apart}

abbrev pub labels : (g : Row) → Spot g → List Label
labels g i = (standing_at g i).cell.drawing.shapes.labels

-- ---- what a label of the row comes from
-- a signal's label of any cell, or a rail's of the first one
abbrev pub IsShown : Standing → Label → Type 0
IsShown s l = (is_rail s.cell l.name ≡ false) ⊎ ((s.x ≡ 0) × (is_rail s.cell l.name ≡ true))

pub record Origin (g : Row) (m : Label) : Type 0 where
  pub spot : Spot g
  pub label : Label
  pub listed : Contains (labels g spot) label
  pub moved : IsMovedLabel (from g spot) label m
  pub name : m.name ≡ name_in_row (standing_at g spot) label.name
  pub shown : IsShown (standing_at g spot) label

not_false : (b : Bool) → not b ≡ true → b ≡ false
not_false true e = absurd (false≢true e)
not_false false e = refl

-- a label of the spot's cell, as labels_at has it
signal_origin : (g : Row) (i : Spot g) (m : Label) → Contains (labels_at (standing_at g i)) m → Origin g m
signal_origin g i m c =
    let s = standing_at g i in
    let a = in_map (label_at s.number s.x) (filter (λ (l : Label). not (is_rail s.cell l.name)) (labels g i)) m c in
    let k = in_filter (λ (l : Label). not (is_rail s.cell l.name)) (labels g i) a.of a.listed in
    let f = not_false (is_rail s.cell a.of.name) k.passes in
    record {
      spot = i;
      label = a.of;
      listed = k.listed;
      moved = record { layer = ap (λ (l : Label). l.layer) (sym a.is); x = ap (λ (l : Label). l.x) (sym a.is); y = ap (λ (l : Label). l.y) (sym a.is) };
      name = ap (λ (l : Label). l.name) (sym a.is) ∙ sym (signal_numbered s a.of.name f);
      shown = inl f;
    }

-- the spot whose cell begins the row
rail_origin : (g : Row) (i : Spot g) (m : Label) → (standing_at g i).x ≡ 0 → Contains (labels g i) m → is_rail (standing_at g i).cell m.name ≡ true → Origin g m
rail_origin g i m first c e = record {
  spot = i;
  label = m;
  listed = c;
  moved = record { layer = refl; x = omega (arith, ints, first); y = refl };
  name = sym (rail_kept (standing_at g i) m.name e);
  shown = inr (first, e);
}

named_of : (name : List ℕ) (c : RowCell) (m : Label) → Contains (labels_named name c) m → Contains c.drawing.shapes.labels m × (m.name ≡ name)
named_of name c m k = let f = in_filter (λ (l : Label). bytes_eq l.name name) c.drawing.shapes.labels m k in (f.listed, (bytes_eq-Decides m.name name).0 f.passes)

-- a label of the rails is one of the first cell
record FirstRail (cells : List RowCell) (m : Label) : Type 0 where
  spot : Place (standing cells)
  first : (at (standing cells) spot).x ≡ 0
  listed : Contains (at (standing cells) spot).cell.drawing.shapes.labels m
  side : Side
  name : m.name ≡ rail_name (at (standing cells) spot).cell side

first_rail : (cells : List RowCell) (m : Label) → Contains (rail_labels cells) m → FirstRail cells m
first_rail [] m c = absurd (contains_none m c)
first_rail (d ∷ ds) m c = elim (Contains-append_cases (labels_named (vdd_name d) d) (labels_named (gnd_name d) d) m c) [
  | inl v ↦ (let k = named_of (vdd_name d) d m v in record { spot = inl tt; first = refl; listed = k.0; side = high; name = k.1 })
  | inr w ↦ (let k = named_of (gnd_name d) d m w in record { spot = inl tt; first = refl; listed = k.0; side = low; name = k.1 })
]

pub origin : (g : Row) (m : Label) → Contains (row_labels g.cells) m → Origin g m
origin g m c = elim (Contains-append_cases (flat_map labels_at (standing g.cells)) (rail_labels g.cells) m c) [
  | inl s ↦ (let k = in_flat labels_at (standing g.cells) m s in
      let p = place_of (standing g.cells) k.of k.listed in
      signal_origin g p.place m (subst (λ z. Contains (labels_at z) m) (sym p.is) k.inside))
  | inr r ↦ (let k = first_rail g.cells m r in
      rail_origin g k.spot m k.first k.listed (subst (λ z. is_rail (standing_at g k.spot).cell z ≡ true) (sym k.name) (rail_is (standing_at g k.spot).cell k.side)))
]

-- ---- what labels the row has
pub signal_there : (g : Row) (i : Spot g) (l : Label) → Contains (labels g i) l → is_rail (standing_at g i).cell l.name ≡ false → Contains (row_labels g.cells) (label_at (standing_at g i).number (standing_at g i).x l)
signal_there g i l c e =
    let s = standing_at g i in
    let kept : Contains (filter (λ (z : Label). not (is_rail s.cell z.name)) (labels g i)) l = contains_filter (λ (z : Label). not (is_rail s.cell z.name)) (labels g i) l c (rw e refl) in
    Contains-append_left (flat_map labels_at (standing g.cells)) (rail_labels g.cells) (label_at s.number s.x l)
    (contains_flat labels_at (standing g.cells) s (label_at s.number s.x l) (at_listed (standing g.cells) i) (contains_map (label_at s.number s.x) (filter (λ (z : Label). not (is_rail s.cell z.name)) (labels g i)) l kept))

-- the first cell of a row that has some
pub record FirstCell (cells : List RowCell) : Type 0 where
  pub spot : Place (standing cells)
  pub first : (at (standing cells) spot).x ≡ 0
  pub rails : (side : Side) (l : Label) → Contains (at (standing cells) spot).cell.drawing.shapes.labels l → l.name ≡ rail_name (at (standing cells) spot).cell side → Contains (rail_labels cells) l

named_there : (name : List ℕ) (c : RowCell) (l : Label) → Contains c.drawing.shapes.labels l → l.name ≡ name → Contains (labels_named name c) l
named_there name c l k e = contains_filter (λ (z : Label). bytes_eq z.name name) c.drawing.shapes.labels l k ((bytes_eq-Decides l.name name).1 e)

pub first_cell : (cells : List RowCell) → Place (standing cells) → FirstCell cells
first_cell [] i = absurd i
first_cell (d ∷ ds) i = record { spot = inl tt; first = refl; rails = there }
  where
    there : (side : Side) (l : Label) → Contains d.drawing.shapes.labels l → l.name ≡ rail_name d side → Contains (rail_labels (d ∷ ds)) l
    there high l c e = Contains-append_left (labels_named (vdd_name d) d) (labels_named (gnd_name d) d) l (named_there (vdd_name d) d l c e)
    there low l c e = Contains-append_right (labels_named (vdd_name d) d) (labels_named (gnd_name d) d) l (named_there (gnd_name d) d l c e)

pub rail_label_there : (g : Row) (f : FirstCell g.cells) (side : Side) (l : Label) → Contains (labels g f.spot) l → l.name ≡ rail_name (standing_at g f.spot).cell side → Contains (row_labels g.cells) l
rail_label_there g f side l c e = Contains-append_right (flat_map labels_at (standing g.cells)) (rail_labels g.cells) l (f.rails side l c e)

-- ---- where a label of a cell belongs
one_column : (g : Row) (i j : Spot g) (x : ℤ) → IsColumn (from g i) (to g i) x → IsColumn (from g j) (to g j) x → i ≡ j
one_column g i j x p q = elim (apart g i j) [ inl e ↦ e | inr r ↦ absurd (elim r [ inl l ↦ omega (arith, ints, l) | inr l ↦ omega (arith, ints, l) ]) ]

conductor_down : (g : Row) (i : Spot g) (layer : Layer) (c : Cell) (b : Site) → IsColumn (from g i) (to g i) c.x → IsConductorAt (whole g) layer c b → IsConductorAt (own g i) layer c b
conductor_down g i layer c b column k =
    let p = of_cell g b.kind b.cell.x b.cell.y k.conducts in
    let here : IsColumn (from g i) (to g i) b.cell.x = subst (λ (z : Cell). IsColumn (from g i) (to g i) z.x) (sym k.cell) column in
    let e = one_column g p.0 i b.cell.x (lies g p.0 b.kind b.cell.x b.cell.y p.1) here in
    record { cell = k.cell; on_layer = k.on_layer; conducts = subst (λ j. Conducts (own g j) b) e p.1 }

abbrev AllIn : ℤ → ℤ → List Cell → Type 0
AllIn a b [] = Unit {0}
AllIn a b (c ∷ cs) = IsColumn a b c.x × AllIn a b cs

first_up : (g : Row) (i : Spot g) (layer : Layer) (cs : List Cell) (b : Site) → AllIn (from g i) (to g i) cs → IsFirstConductor (own g i) layer cs b → IsFirstConductor (whole g) layer cs b
first_up g i layer [] b k f = absurd f
first_up g i layer (c ∷ cs) b k (inl h) = inl (record { cell = h.cell; on_layer = h.on_layer; conducts = of_whole g i b.kind b.cell.x b.cell.y h.conducts })
first_up g i layer (c ∷ cs) b k (inr (none, rest)) = inr (λ d h. none d (conductor_down g i layer c d k.0 h), first_up g i layer cs b k.1 rest)

-- labels stand between the first and the last line
round_in : (g : Row) (i : Spot g) (l m : Label) → Contains (labels g i) l → IsMovedLabel (from g i) l m → AllIn (from g i) (to g i) (cells_round m.x m.y)
round_in g i l m c moved =
    let k = All-contains (IsLabelInFrame (drawn g i).frame) (labels g i) l (framed g i).labels c in
    let left = k.left in
    let right = k.right in
    let x = moved.x in
    let w = (framed g i).width in (
      record { left = omega (arith, ints, left, x); right = omega (arith, ints, right, x, w) },
      (
        record { left = omega (arith, ints, left, x); right = omega (arith, ints, right, x, w) },
        (
          record { left = omega (arith, ints, left, x); right = omega (arith, ints, right, x, w) },
          (record { left = omega (arith, ints, left, x); right = omega (arith, ints, right, x, w) }, tt),
        ),
      ),
    )

pub belongs_there : (g : Row) (i : Spot g) (l m : Label) (a : Site) → Contains (labels g i) l → IsMovedLabel (from g i) l m → Belongs (plain g i) l a → Belongs (whole g) m (moved_site (from g i) a)
belongs_there g i l m a c k b = first_up g i m.layer (cells_round m.x m.y) (moved_site (from g i) a) (round_in g i l m c k) (belongs (from g i) (plain g i) (own g i) (moved g i) l m a k b)
