-- A drawing is the same circuit with taps as without, and shows the same row.
use Rattle.std.proofs.Common.{ℕ, ℤ, pos, ◌-ℤ◌, List, [], ◌∷◌, Option, Some, None, inl, inr, ◌∙◌}
use Rattle.std.specs.List.{AllZip}
use Rattle.box_geom.specs.Rectangle.{Rectangle}
use Rattle.box_geom.specs.declared.shape.Label.{Label}
use Rattle.box_geom.specs.declared.shape.Shape.{Shape}
use Rattle.cell_num.specs.declared.finger.Finger.{Finger}
use Rattle.cell_num.specs.declared.finger.Fingers.{Fingers}
use Rattle.cell_num.specs.declared.finger.Row.{Row}
use Rattle.cell_num.specs.declared.finger.Row.TheVariants.{P, N}
use Rattle.row_model.specs.declared.column.Column.{Column}
use Rattle.row_model.specs.declared.column.Placed.{Placed}
use Rattle.row_model.specs.Gaps.{left_net, right_net}
use Rattle.scmos_rules.specs.declared.rules.Deck.{Deck}
use Rattle.scmos_rules.specs.declared.rules.Deck.TheVariants.{Plain}
use Rattle.cell_draw.specs.Extracted.{IsFingerAt, ExtractsTo}
use Rattle.cell_draw.specs.Named.{name_of}
use Rattle.cell_draw.specs.Shown.{Span, IsInRow, IsPlacedAt, IsPlace, IsShownColumn, IsJoined, ShowsRow}
use Rattle.well_tap.proofs.TapCells.{AreTapped}
use Rattle.well_tap.proofs.TapDevices.{gate_down, device_up, device_down}
use Rattle.well_tap.proofs.TapLabels.{with_labels, named_up, names_up}

zip_map : {X Y : Type 0} (R Q : X → Y → Type 0) (xs : List X) (ys : List Y) → ((x : X) (y : Y) → R x y → Q x y) → AllZip R xs ys → AllZip Q xs ys
zip_map R Q [] [] f z = z
zip_map R Q [] (y ∷ ys) f z = z
zip_map R Q (x ∷ xs) [] f z = z
zip_map R Q (x ∷ xs) (y ∷ ys) f z = (f x y z.0, zip_map R Q xs ys f z.1)

-- ---- fingers
finger_up : (deck : Deck) (s t : List Shape) (h : ℤ) → AreTapped s t h → (labels : List Label) (names : List (List ℕ)) (box : Rectangle) (f : Finger) → IsFingerAt Plain names (with_labels s labels) box f → IsFingerAt deck names (with_labels t labels) box f
finger_up deck s t h a labels names box f i = record {
  gate = i.gate;
  left = i.left;
  right = i.right;
  is = (device_up deck s t h a box f.row i.gate i.left i.right f.width 4 i.is).0;
  gate_net = named_up deck s t h a labels (name_of names f.gate) i.gate i.gate_net;
  ends = elim i.ends [
    | inl e ↦ inl (named_up deck s t h a labels (name_of names f.lo) i.left e.0, named_up deck s t h a labels (name_of names f.hi) i.right e.1)
    | inr e ↦ inr (named_up deck s t h a labels (name_of names f.hi) i.left e.0, named_up deck s t h a labels (name_of names f.lo) i.right e.1)
  ];
}

pub extracts_up : (deck : Deck) (s t : List Shape) (h : ℤ) → AreTapped s t h → (labels : List Label) (names : List (List ℕ)) (fingers : Fingers) → ExtractsTo Plain names fingers (with_labels s labels) → ExtractsTo deck names fingers (with_labels t labels)
extracts_up deck s t h a labels names fingers e = record {
  nets = names_up deck s t h a labels names e.nets;
  boxes = e.boxes;
  gates = record { differ = e.gates.differ; all = λ x y g. e.gates.all x y (gate_down s t h a x y g) };
  drawn = e.drawn;
  devices = zip_map (IsFingerAt Plain names (with_labels s labels)) (IsFingerAt deck names (with_labels t labels)) e.boxes e.drawn (finger_up deck s t h a labels names) e.devices;
  permuted = e.permuted;
}

-- ---- columns
in_row_down : (deck : Deck) (s t : List Shape) (h : ℤ) → AreTapped s t h → (side : Row) (span : Span) (box : Rectangle) → IsInRow deck t side span box → IsInRow Plain s side span box
in_row_down deck s t h a side span box i = let d = device_down deck s t h a box i.device in record { inside = i.inside; device = d.0; of_side = d.1 ∙ i.of_side }

placed_up : (deck : Deck) (s t : List Shape) (h : ℤ) → AreTapped s t h → (labels : List Label) (names : List (List ℕ)) (side : Row) (box : Rectangle) (x : Placed) → IsPlacedAt Plain names (with_labels s labels) side box x → IsPlacedAt deck names (with_labels t labels) side box x
placed_up deck s t h a labels names side box x i =
    let d = device_up deck s t h a box side i.gate i.left i.right x.finger.width 4 i.is in
    record {
      gate = i.gate;
      left = i.left;
      right = i.right;
      is = d.0;
      current = d.1 ∙ i.current;
      gate_net = named_up deck s t h a labels (name_of names x.finger.gate) i.gate i.gate_net;
      left_end = named_up deck s t h a labels (name_of names (left_net x)) i.left i.left_end;
      right_end = named_up deck s t h a labels (name_of names (right_net x)) i.right i.right_end;
    }

place_up : (deck : Deck) (s t : List Shape) (h : ℤ) → AreTapped s t h → (labels : List Label) (names : List (List ℕ)) (side : Row) (span : Span) (o : Option Placed) → IsPlace Plain names (with_labels s labels) side span o → IsPlace deck names (with_labels t labels) side span o
place_up deck s t h a labels names side span None none = λ box i. none box (in_row_down deck s t h a side span box i)
place_up deck s t h a labels names side span (Some x) i = record {
  box = i.box;
  inside = i.inside;
  placed = placed_up deck s t h a labels names side i.box x i.placed;
  only = λ other there. i.only other (in_row_down deck s t h a side span other there);
}

column_up : (deck : Deck) (s t : List Shape) (h : ℤ) → AreTapped s t h → (labels : List Label) (names : List (List ℕ)) (span : Span) (column : Column) → IsShownColumn Plain names (with_labels s labels) span column → IsShownColumn deck names (with_labels t labels) span column
column_up deck s t h a labels names span column i = record { p = place_up deck s t h a labels names P span column.p i.p; n = place_up deck s t h a labels names N span column.n i.n }

joined_up : (s t : List Shape) (h : ℤ) → AreTapped s t h → (side : Row) (left right : Rectangle) → IsJoined s side left right → IsJoined t side left right
joined_up s t h a N left right j = (j.0, λ x from to. a.active_up x (left.y2 -ℤ pos 1) (j.1 x from to))
joined_up s t h a P left right j = (j.0, λ x from to. a.active_up x left.y1 (j.1 x from to))

pub row_up : (deck : Deck) (s t : List Shape) (h : ℤ) → AreTapped s t h → (labels : List Label) (names : List (List ℕ)) (row : List Column) → ShowsRow Plain names row (with_labels s labels) → ShowsRow deck names row (with_labels t labels)
row_up deck s t h a labels names row r = record {
  spans = r.spans;
  ascending = r.ascending;
  columns = zip_map (IsShownColumn Plain names (with_labels s labels)) (IsShownColumn deck names (with_labels t labels)) r.spans row (column_up deck s t h a labels names) r.columns;
  all = λ box d. r.all box (device_down deck s t h a box d).0;
  abut = λ x y one other near no_gap side left right l q. joined_up s t h a side left right (r.abut x y one other near no_gap side left right (in_row_down deck s t h a side one left l) (in_row_down deck s t h a side other right q));
}
