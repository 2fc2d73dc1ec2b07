-- The elements of what is written draw their shapes again, wherever they stand.
use Rattle.std.proofs.Common.{ℕ, ◌≡◌, ◌+◌, ◌<◌, ◌≤◌, List, [], ◌∷◌, ◌++◌, drop, length, map, false, Option, Some, None, option_map, Result, Ok, refl, sym, ap, ◌∙◌, arith}
use Rattle.std.specs.List.{All, flat_map}
use Rattle.std.proofs.lemmas.List.Elements.{All-head, All-tail}
use Rattle.box_geom.specs.Rectangle.{Rectangle, IsProper, IsRectangle}
use Rattle.box_geom.specs.declared.layer.Layer.{Layer}
use Rattle.box_geom.specs.declared.shape.Shape.{Shape}
use Rattle.box_geom.specs.declared.shape.Label.{Label}
use Rattle.gds_record.specs.Records.{Raw, raw, Item, placed, ends}
use Rattle.gds_record.specs.declared.types.RecordType.TheVariants as record_type
use Rattle.gds_area.specs.declared.units.Grid.{Grid}
use Rattle.gds_area.specs.declared.fault.GdsFault.{GdsFault}
use Rattle.gds_area.specs.declared.point.Point.{Point}
use Rattle.gds_area.specs.declared.area.Area.{Area}
use Rattle.gds_area.specs.declared.area.DrawContext.{DrawContext}
use Rattle.gds_read.specs.declared.label.Spot.{Spot}
use Rattle.cell_num.specs.Steps.{◌>>=◌}
use Rattle.gds_read.specs.Structure.{trimmed}
use Rattle.gds_area.specs.Points.{points_of, has_slant, closed}
use Rattle.gds_area.specs.EvenOdd.{boundary_rectangles}
use Rattle.gds_area.specs.Areas.{area_of, shape_on, rectangle_of}
use Rattle.gds_read.specs.Elements.{Element, elements_of, until, text_on, spot_on, spot_of, with_label, xy_place, draw_context_of, boundary_areas, drawn_on}
use Rattle.gds_area.specs.declared.placement.Move.{Move}
use Rattle.gds_area.specs.declared.progress.Progress.{Progress}
use Rattle.gds_area.specs.declared.progress.Origin.{Origin}
use Rattle.gds_area.specs.Moves.{moved_area}
use Rattle.gds_area.specs.Progress.{plain, no_progress, rectangles, both, amount, within_limit, in_order, origin_of}
use Rattle.gds_read.specs.Flat.{File, Below, drawn_from, element_by, one_level}
use Rattle.gds_write.specs.Written.{padded, point, corners, rectangle_records, label_records, IsWritableShape, IsLabelUpTo}
use Rattle.gds_read.specs.RoundTrip.{HasNoZeroEnd}
use Rattle.gds_read.proofs.RoundTripPadded.{padded_back}
use Rattle.gds_area.proofs.Counting.{within}
use Rattle.gds_read.proofs.Rectangles.{round_is}
use Rattle.gds_read.proofs.RoundTripExact.{less_scaled}
use Rattle.gds_read.proofs.RoundTripMoved.{Takes}
use Rattle.gds_read.proofs.RoundTripWords.{grid, layer_back, points_back, scaled_up, rectangle_back, spot_back}

-- a file with that grid
abbrev pub file : ℕ → List Item → File
file unit records = record { grid = grid unit; records = records }

pub order_more : {A : Type 0} (step : ℕ → A → Result Progress GdsFault) (count : ℕ) (x : A) (xs : List A) (one rest : Progress) → step count x ≡ Ok one → in_order step (count + amount one) xs ≡ Ok rest → in_order step count (x ∷ xs) ≡ Ok (both one rest)
unfolding in_order
order_more step count x xs one rest first more = rw (first, more) refl

pub taken_more : (below : Below) (f : File) (origin : Option Origin) (count : ℕ) (e : Element) (es : List Element) (one rest : Progress) → element_by below f origin count e e.kind ≡ Ok one → one_level below f origin (count + amount one) es ≡ Ok rest → one_level below f origin count (e ∷ es) ≡ Ok (both one rest)
taken_more below f origin count e es one rest first more = order_more (λ n x. element_by below f origin n x x.kind) count e es one rest first more

pub nothing_more : (t : Progress) → both no_progress t ≡ t
nothing_more t = ap (λ (n : ℕ). record { shapes = t.shapes; refs = n }) (let e : 0 + t.refs ≡ t.refs = omega arith in e)

-- ---- rectangles

-- a boundary round one rectangle, as it stands
record IsRound (g : Grid) (stands : Move) (points : List Point) (r rect : Rectangle) : Type 0 where
  upright : has_slant (closed points) ≡ false
  inside : boundary_rectangles points ≡ r ∷ []
  sided : rectangle_of g (moved_area stands (area_of r)) ≡ Some rect

areas_by : (at : ℕ) (g : Grid) (stands : Move) (points : List Point) (r rect : Rectangle) → IsRound g stands points r rect → boundary_areas at points ≡ Ok (area_of r ∷ [])
unfolding boundary_areas
areas_by at g stands points r rect is = rw (is.upright, is.inside) refl

drawn_area : (at count : ℕ) (draw_context : DrawContext) (a : Area) (rect : Rectangle) → rectangle_of draw_context.grid (moved_area draw_context.stands a) ≡ Some rect → count + 1 ≤ 1000000 → drawn_on at count (Some draw_context) (Ok (a ∷ [])) ≡ Ok (rectangles (record { layer = draw_context.layer; rect = rect } ∷ []))
drawn_area at count draw_context a rect sided few =
    ap (λ (x : Option Rectangle). (shape_on draw_context x >>= λ s. Ok (s ∷ [])) >>= λ rects. within_limit at count (rectangles rects)) sided
    ∙ within at count (rectangles (record { layer = draw_context.layer; rect = rect } ∷ [])) few

boundary_by : (g : Grid) (stands : Move) (at count xy_at : ℕ) (inside : List Item) (points : List Point) (on : Layer) (number : Option Layer) (r rect : Rectangle) → number ≡ Some on → IsRound g stands points r rect → count + 1 ≤ 1000000 → drawn_on at count (option_map (draw_context_of g stands inside) number) (boundary_areas xy_at points) ≡ Ok (rectangles (record { layer = on; rect = rect } ∷ []))
boundary_by g stands at count xy_at inside points on number r rect layered is few =
    ap (λ (n : Option Layer). drawn_on at count (option_map (draw_context_of g stands inside) n) (boundary_areas xy_at points)) layered
    ∙ (ap (λ (x : Result (List Area) GdsFault). drawn_on at count (Some (draw_context_of g stands inside on)) x) (areas_by xy_at g stands points r rect is) ∙ drawn_area at count (draw_context_of g stands inside on) (area_of r) rect is.sided few)

is_round : (unit : ℕ) (stands : Move) (f : Rectangle → Rectangle) (s : Shape) → 0 < unit → Takes unit stands f → IsWritableShape unit s → IsProper s.rect → IsRectangle (f s.rect) → IsRound (grid unit) stands (points_of (corners unit s.rect)) (scaled_up unit s.rect) (f s.rect)
is_round unit stands f s some takes fits here is =
    let proper : IsProper (scaled_up unit s.rect) = record { wide = less_scaled s.rect.x1 s.rect.x2 unit some here.wide; high = less_scaled s.rect.y1 s.rect.y2 unit some here.high } in
    record {
      upright = ap (λ (t : List Point). has_slant (closed t)) (points_back unit s fits) ∙ (round_is (scaled_up unit s.rect) proper).upright;
      inside = ap boundary_rectangles (points_back unit s fits) ∙ (round_is (scaled_up unit s.rect) proper).one;
      sided = ap (rectangle_of (grid unit)) (takes.moves s.rect) ∙ rectangle_back unit (f s.rect) some is;
    }

-- the element of a rectangle
abbrev boundary : ℕ → ℕ → Shape → List Item → Element
boundary unit at s rest = record { kind = record_type.Boundary; at = at; inside = until record_type.EndEl (drop 1 (placed at (rectangle_records unit s)) ++ rest) }

abbrev pub shape_by : (Rectangle → Rectangle) → Shape → Shape
shape_by f s = record { layer = s.layer; rect = f s.rect }

rectangle_taken : (unit at count : ℕ) (origin : Origin) (f : Rectangle → Rectangle) (s : Shape) (rest : List Item) → 10 ≤ unit → count + 1 ≤ 1000000 → Takes unit origin.stands f → IsWritableShape unit s → IsProper s.rect → IsRectangle (f s.rect) → drawn_from (grid unit) origin count (boundary unit at s rest).inside record_type.Boundary ≡ Ok (rectangles (shape_by f s ∷ []))
rectangle_taken unit at count origin f s rest enough few takes fits here is =
    let some : 0 < unit = omega (arith, enough) in
    boundary_by (grid unit) origin.stands origin.outer count (xy_place (boundary unit at s rest).inside) ((boundary unit at s rest).inside) (points_of (corners unit s.rect)) s.layer _ (scaled_up unit s.rect) (f s.rect) (layer_back s.layer) (is_round unit origin.stands f s some takes fits here is) few

-- rectangles that may be written, and stay within the limits where they stand
pub record AreDrawn (unit : ℕ) (f : Rectangle → Rectangle) (rects : List Shape) : Type 0 where
  pub fit : All (IsWritableShape unit) rects
  pub proper : All (λ (s : Shape). IsProper s.rect) rects
  pub limits : All (λ (s : Shape). IsRectangle (f s.rect)) rects

tail_drawn : (unit : ℕ) (f : Rectangle → Rectangle) (s : Shape) (ss : List Shape) → AreDrawn unit f (s ∷ ss) → AreDrawn unit f ss
tail_drawn unit f s ss are = record {
  fit = All-tail (IsWritableShape unit) s ss are.fit;
  proper = All-tail (λ (s : Shape). IsProper s.rect) s ss are.proper;
  limits = All-tail (λ (s : Shape). IsRectangle (f s.rect)) s ss are.limits;
}

-- what elements behind take, whatever place they stand at
abbrev pub TakesBehind : Below → File → Option Origin → ℕ → List Raw → Progress → Type 0
TakesBehind below f origin count rest t = (at n : ℕ) → n ≡ count → one_level below f origin n (elements_of (placed at rest)) ≡ Ok t

pub rectangles_taken : (below : Below) (recs : List Item) (origin : Option Origin) (unit count : ℕ) (f : Rectangle → Rectangle) (rects : List Shape) (rest : List Raw) (t : Progress) → 10 ≤ unit → count + length rects ≤ 1000000 → ((at : ℕ) → Takes unit (origin_of origin at).stands f) → AreDrawn unit f rects → TakesBehind below (file unit recs) origin (count + length rects) rest t → TakesBehind below (file unit recs) origin count (flat_map (rectangle_records unit) rects ++ rest) (both (rectangles (map (shape_by f) rects)) t)
rectangles_taken below recs origin unit count f [] rest t enough few takes are more at n same = more at n (omega (arith, same)) ∙ ap (λ (t : Progress). Ok t) (sym (nothing_more t))
rectangles_taken below recs origin unit count f (s ∷ ss) rest t enough few takes are more at n same =
    let fit : IsWritableShape unit s = All-head (IsWritableShape unit) s ss are.fit in
    let here : IsProper s.rect = All-head (λ (s : Shape). IsProper s.rect) s ss are.proper in
    let is : IsRectangle (f s.rect) = All-head (λ (s : Shape). IsRectangle (f s.rect)) s ss are.limits in
    let next : ℕ = ends at (rectangle_records unit s) in
    let behind : List Item = placed next (flat_map (rectangle_records unit) ss ++ rest) in
    let later : TakesBehind below (file unit recs) origin (count + 1) (flat_map (rectangle_records unit) ss ++ rest) (both (rectangles (map (shape_by f) ss)) t) =
    rectangles_taken below recs origin unit (count + 1) f ss rest t enough (omega (arith, few)) takes (tail_drawn unit f s ss are) (λ at n e. more at n (omega (arith, e))) in
    taken_more below (file unit recs) origin n (boundary unit at s behind) (elements_of behind) (rectangles (shape_by f s ∷ [])) (both (rectangles (map (shape_by f) ss)) t) (rectangle_taken unit at n (origin_of origin at) f s behind enough (omega (arith, few, same)) (takes at) fit here is) (later next (n + 1) (omega (arith, same)))
    ∙ ap (λ (n : ℕ). Ok (record { shapes = record { rects = shape_by f s ∷ (map (shape_by f) ss ++ t.shapes.rects); labels = t.shapes.labels }; refs = n })) (let e : 0 + (0 + t.refs) ≡ 0 + t.refs = omega arith in e)

-- ---- labels

text_by : (g : Grid) (at : ℕ) (xy name : List ℕ) (on : Layer) (number : Option Layer) (spot : Spot) → number ≡ Some on → spot_of g on xy ≡ Some spot → (text_on g at xy number >>= λ one. Ok (plain (with_label name one))) ≡ Ok (plain (with_label name (Some spot)))
text_by g at xy name on number spot layered placed =
    ap (λ (n : Option Layer). text_on g at xy n >>= λ one. Ok (plain (with_label name one))) layered ∙ ap (λ (s : Option Spot). spot_on at s >>= λ one. Ok (plain (with_label name one))) placed

-- the element of a label
abbrev text : ℕ → ℕ → Label → List Item → Element
text unit at l rest = record { kind = record_type.Text; at = at; inside = until record_type.EndEl (drop 1 (placed at (label_records unit l)) ++ rest) }

label_taken : (below : Below) (recs : List Item) (unit at count : ℕ) (l : Label) (rest : List Item) → 10 ≤ unit → IsLabelUpTo 68 unit l → HasNoZeroEnd l.name → element_by below (file unit recs) None count (text unit at l rest) record_type.Text ≡ Ok (plain (record { rects = []; labels = l ∷ [] }))
label_taken below recs unit at count l rest enough fits whole =
    text_by (grid unit) _ (point unit l.x l.y) (trimmed (padded l.name)) l.layer _ (record { layer = l.layer; x = l.x; y = l.y }) (layer_back l.layer) (spot_back unit l.layer l.x l.y enough fits.x fits.y)
    ∙ ap (λ (n : List ℕ). Ok (plain (record { rects = []; labels = record { layer = l.layer; x = l.x; y = l.y; name = n } ∷ [] }))) (padded_back l.name whole)

pub labels_taken : (below : Below) (recs : List Item) (unit count : ℕ) (labels : List Label) (rest : List Raw) → 10 ≤ unit → All (IsLabelUpTo 68 unit) labels → All (λ (l : Label). HasNoZeroEnd l.name) labels → TakesBehind below (file unit recs) None count (flat_map (label_records unit) labels ++ raw record_type.EndStr [] ∷ rest) (plain (record { rects = []; labels = labels }))
unfolding in_order
labels_taken below recs unit count [] rest enough fits whole at n same = refl
labels_taken below recs unit count (l ∷ ls) rest enough fits whole at n same =
    let fit : IsLabelUpTo 68 unit l = All-head (IsLabelUpTo 68 unit) l ls fits in
    let end : HasNoZeroEnd l.name = All-head (λ (l : Label). HasNoZeroEnd l.name) l ls whole in
    let next : ℕ = ends at (label_records unit l) in
    let behind : List Item = placed next (flat_map (label_records unit) ls ++ raw record_type.EndStr [] ∷ rest) in
    let later : TakesBehind below (file unit recs) None count (flat_map (label_records unit) ls ++ raw record_type.EndStr [] ∷ rest) (plain (record { rects = []; labels = ls })) =
    labels_taken below recs unit count ls rest enough (All-tail (IsLabelUpTo 68 unit) l ls fits) (All-tail (λ (l : Label). HasNoZeroEnd l.name) l ls whole) in
    taken_more below (file unit recs) None n (text unit at l behind) (elements_of behind) (plain (record { rects = []; labels = l ∷ [] })) (plain (record { rects = []; labels = ls })) (label_taken below recs unit at n l behind enough fit end) (later next (n + 0) (omega (arith, same)))

-- the labels of a structure that is referred to are passed over
pub labels_passed : (below : Below) (recs : List Item) (origin : Origin) (unit count : ℕ) (labels : List Label) (rest : List Raw) → TakesBehind below (file unit recs) (Some origin) count (flat_map (label_records unit) labels ++ raw record_type.EndStr [] ∷ rest) no_progress
unfolding in_order
labels_passed below recs origin unit count [] rest at n same = refl
labels_passed below recs origin unit count (l ∷ ls) rest at n same =
    let next : ℕ = ends at (label_records unit l) in
    let behind : List Item = placed next (flat_map (label_records unit) ls ++ raw record_type.EndStr [] ∷ rest) in
    taken_more below (file unit recs) (Some origin) n (text unit at l behind) (elements_of behind) no_progress no_progress refl (labels_passed below recs origin unit count ls rest next (n + 0) (omega (arith, same)))
