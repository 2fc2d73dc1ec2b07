-- The runs of a boundary are drawn row by row, and the segments of a path one after the other.
use Rattle.std.proofs.Common.{ℕ, suc, ◌≡◌, ◌+◌, ◌<◌, ◌≤◌, Bool, if◌then◌else◌, ℤ, List, [], ◌∷◌, ◌++◌, length, map, drop, get_or, Result, Ok, Err, refl, sym, ap, ◌∙◌, arith}
use Rattle.std.proofs.Math.ListN.{drop_of_length-le}
use Rattle.std.proofs.Math.Seq.{drop-cons}
use Rattle.box_geom.specs.Rectangle.{Rectangle}
use Rattle.box_geom.specs.declared.shape.Shape.{Shape}
use Rattle.gds_area.specs.declared.fault.GdsFault.{GdsFault}
use Rattle.gds_area.specs.declared.area.Area.{Area}
use Rattle.gds_area.specs.declared.area.DrawContext.{DrawContext}
use Rattle.gds_area.specs.declared.point.Point.{Point}
use Rattle.gds_area.specs.declared.even_odd.SideEnd.{SideEnd}
use Rattle.gds_area.specs.Areas.{area_of, put, Puts}
use Rattle.gds_area.specs.EvenOdd.{odd_ones, runs}
use Rattle.gds_area.specs.Paths.{segments}
use Rattle.gds_area.specs.Sweep.{row_areas, swept}
use Rattle.gds_area.proofs.Ascending.{same_is, other_is}
use Rattle.gds_area.proofs.Putting.{goes_on, stops}

map_append : (rs ss : List Rectangle) → map area_of (rs ++ ss) ≡ map area_of rs ++ map area_of ss
map_append [] ss = refl
map_append (r ∷ rs) ss = ap (λ (t : List Area). area_of r ∷ t) (map_append rs ss)

same_row : (draw_context : DrawContext) (rects : List Shape) (row e : SideEnd) (xs : List ℤ) (es : List SideEnd) (all : Result (List Shape) GdsFault) → e.y ≡ row.y → put draw_context rects (map area_of (swept row xs (e ∷ es))) ≡ all → put draw_context rects (map area_of (swept row (xs ++ e.x ∷ []) es)) ≡ all
same_row draw_context rects row e xs es all same so =
    sym (ap (λ (b : Bool). put draw_context rects (map area_of (if b then swept row (xs ++ e.x ∷ []) es else runs row.y e.y (odd_ones xs) ++ swept e (odd_ones xs ++ e.x ∷ []) es))) (same_is e.y row.y same)) ∙ so

another : (draw_context : DrawContext) (rects : List Shape) (row e : SideEnd) (xs : List ℤ) (es : List SideEnd) → (e.y ≡ row.y → ⊥) → put draw_context rects (map area_of (swept row xs (e ∷ es))) ≡ put draw_context rects (map area_of (runs row.y e.y (odd_ones xs)) ++ map area_of (swept e (odd_ones xs ++ e.x ∷ []) es))
another draw_context rects row e xs es other =
    ap (λ (b : Bool). put draw_context rects (map area_of (if b then swept row (xs ++ e.x ∷ []) es else runs row.y e.y (odd_ones xs) ++ swept e (odd_ones xs ++ e.x ∷ []) es))) (other_is e.y row.y other)
    ∙ ap (put draw_context rects) (map_append (runs row.y e.y (odd_ones xs)) (swept e (odd_ones xs ++ e.x ∷ []) es))

next_row : (draw_context : DrawContext) (rects new : List Shape) (row e : SideEnd) (xs zs : List ℤ) (es : List SideEnd) (all : Result (List Shape) GdsFault) → (e.y ≡ row.y → ⊥) → put draw_context rects (row_areas row e xs) ≡ Ok new → zs ≡ odd_ones xs ++ e.x ∷ [] → put draw_context rects (map area_of (swept row xs (e ∷ es))) ≡ all → put draw_context new (map area_of (swept e zs es)) ≡ all
next_row draw_context rects new row e xs zs es all other drawn progress so =
    ap (λ (t : List ℤ). put draw_context new (map area_of (swept e t es))) progress ∙ (sym (another draw_context rects row e xs es other ∙ goes_on draw_context rects new (map area_of (runs row.y e.y (odd_ones xs))) (map area_of (swept e (odd_ones xs ++ e.x ∷ []) es)) drawn) ∙ so)

row_stops : (draw_context : DrawContext) (rects new last : List Shape) (row e : SideEnd) (xs : List ℤ) (es : List SideEnd) (f : GdsFault) (all : Result (List Shape) GdsFault) → (e.y ≡ row.y → ⊥) → Puts {A = Unit {0}} (Err f) new (put draw_context rects (row_areas row e xs)) → put draw_context rects (map area_of (swept row xs (e ∷ es))) ≡ all → Puts {A = Unit {0}} (Err f) last all
row_stops draw_context rects new last row e xs es f all other puts so =
    stops draw_context rects new last (map area_of (runs row.y e.y (odd_ones xs))) (map area_of (swept e (odd_ones xs ++ e.x ∷ []) es)) f all puts (sym (another draw_context rects row e xs es other) ∙ so)

-- ---- the same with the place of an end among all

at_place : (ends : List SideEnd) (i : ℕ) (d : SideEnd) → i < length ends → drop i ends ≡ get_or ends i d ∷ drop (i + 1) ends
at_place ends i d less = drop-cons ends i d less ∙ ap (λ (n : ℕ). get_or ends i d ∷ drop n ends) (let e : suc i ≡ i + 1 = omega arith in e)

pub same_row_at : (draw_context : DrawContext) (rects : List Shape) (row : SideEnd) (xs zs : List ℤ) (ends : List SideEnd) (i : ℕ) (d : SideEnd) (all : Result (List Shape) GdsFault) → i < length ends → (get_or ends i d).y ≡ row.y → zs ≡ xs ++ (get_or ends i d).x ∷ [] → put draw_context rects (map area_of (swept row xs (drop i ends))) ≡ all → put draw_context rects (map area_of (swept row zs (drop (i + 1) ends))) ≡ all
same_row_at draw_context rects row xs zs ends i d all less same progress so =
    ap (λ (t : List ℤ). put draw_context rects (map area_of (swept row t (drop (i + 1) ends)))) progress
    ∙ same_row draw_context rects row (get_or ends i d) xs (drop (i + 1) ends) all same (ap (λ (t : List SideEnd). put draw_context rects (map area_of (swept row xs t))) (sym (at_place ends i d less)) ∙ so)

pub next_row_at : (draw_context : DrawContext) (rects new : List Shape) (row : SideEnd) (xs zs : List ℤ) (ends : List SideEnd) (i : ℕ) (d : SideEnd) (all : Result (List Shape) GdsFault) → i < length ends → ((get_or ends i d).y ≡ row.y → ⊥) → put draw_context rects (row_areas row (get_or ends i d) xs) ≡ Ok new → zs ≡ odd_ones xs ++ (get_or ends i d).x ∷ [] → put draw_context rects (map area_of (swept row xs (drop i ends))) ≡ all → put draw_context new (map area_of (swept (get_or ends i d) zs (drop (i + 1) ends))) ≡ all
next_row_at draw_context rects new row xs zs ends i d all less other drawn progress so =
    next_row draw_context rects new row (get_or ends i d) xs zs (drop (i + 1) ends) all other drawn progress (ap (λ (t : List SideEnd). put draw_context rects (map area_of (swept row xs t))) (sym (at_place ends i d less)) ∙ so)

pub row_stops_at : (draw_context : DrawContext) (rects new last : List Shape) (row : SideEnd) (xs : List ℤ) (ends : List SideEnd) (i : ℕ) (d : SideEnd) (f : GdsFault) (all : Result (List Shape) GdsFault) → i < length ends → ((get_or ends i d).y ≡ row.y → ⊥) → Puts {A = Unit {0}} (Err f) new (put draw_context rects (row_areas row (get_or ends i d) xs)) → put draw_context rects (map area_of (swept row xs (drop i ends))) ≡ all → Puts {A = Unit {0}} (Err f) last all
row_stops_at draw_context rects new last row xs ends i d f all less other puts so =
    row_stops draw_context rects new last row (get_or ends i d) xs (drop (i + 1) ends) f all other puts (ap (λ (t : List SideEnd). put draw_context rects (map area_of (swept row xs t))) (sym (at_place ends i d less)) ∙ so)

pub rows_done : (draw_context : DrawContext) (rects : List Shape) (row : SideEnd) (xs : List ℤ) (ends : List SideEnd) (i : ℕ) (all : Result (List Shape) GdsFault) → length ends ≤ i → put draw_context rects (map area_of (swept row xs (drop i ends))) ≡ all → all ≡ Ok rects
rows_done draw_context rects row xs ends i all past so = sym so ∙ ap (λ (t : List SideEnd). put draw_context rects (map area_of (swept row xs t))) (drop_of_length-le ends past)

pub no_segment : (draw_context : DrawContext) (rects : List Shape) (half ends past : ℕ) (ps : List Point) (all : Result (List Shape) GdsFault) → length ps < 2 → put draw_context rects (segments half ends past ps) ≡ all → all ≡ Ok rects
no_segment draw_context rects half ends past [] all short so = sym so
no_segment draw_context rects half ends past (p ∷ []) all short so = sym so
no_segment draw_context rects half ends past (p ∷ q ∷ ps) all short so = absurd (omega (arith, short))
