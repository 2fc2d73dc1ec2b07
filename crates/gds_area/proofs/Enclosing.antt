-- Whether a boundary or a path covers anything.
use Rattle.std.proofs.Common.{ℕ, suc, ◌≡◌, ◌+◌, ◌<◌, ◌≤◌, Bool, true, false, if◌then◌else◌, ℤ, List, [], ◌∷◌, ◌++◌, length, drop, get_or, refl, sym, ap, ◌∙◌, arith}
use Rattle.std.proofs.Math.ListN.{drop_of_length-le}
use Rattle.std.proofs.Math.Seq.{drop-cons}
use Rattle.box_geom.specs.Rectangle.{Rectangle}
use Rattle.gds_area.specs.declared.point.Point.{Point}
use Rattle.gds_area.specs.declared.even_odd.SideEnd.{SideEnd}
use Rattle.gds_area.specs.Areas.{has_some}
use Rattle.gds_area.specs.EvenOdd.{odd_ones, runs}
use Rattle.gds_area.specs.Paths.{all_segments}
use Rattle.gds_area.specs.Sweep.{swept, swept_all}
use Rattle.gds_area.proofs.Ascending.{same_is, other_is}

-- ---- a boundary

pub no_run : (low high : ℤ) (xs : List ℤ) → length xs < 2 → has_some (runs low high xs) ≡ false
no_run low high [] few = refl
no_run low high (a ∷ []) few = refl
no_run low high (a ∷ b ∷ more) few = absurd (omega (arith, few))

before_some : (rs ss : List Rectangle) → has_some rs ≡ true → has_some (rs ++ ss) ≡ true
before_some [] ss e = absurd cc
before_some (r ∷ rs) ss e = refl

before_none : (rs ss : List Rectangle) → has_some rs ≡ false → has_some (rs ++ ss) ≡ has_some ss
before_none [] ss e = refl
before_none (r ∷ rs) ss e = absurd cc

abbrev pub crossed_behind : SideEnd → List ℤ → List SideEnd → Bool
crossed_behind row xs es = has_some (swept row xs es)

pub no_end : (ends : List SideEnd) → ends ≡ [] → false ≡ has_some (swept_all ends)
no_end ends e = rw e refl

same_row : (row e : SideEnd) (xs : List ℤ) (es : List SideEnd) → e.y ≡ row.y → swept row xs (e ∷ es) ≡ swept row (xs ++ e.x ∷ []) es
same_row row e xs es same = ap (λ (b : Bool). if b then swept row (xs ++ e.x ∷ []) es else runs row.y e.y (odd_ones xs) ++ swept e (odd_ones xs ++ e.x ∷ []) es) (same_is e.y row.y same)

another : (row e : SideEnd) (xs : List ℤ) (es : List SideEnd) → (e.y ≡ row.y → ⊥) → swept row xs (e ∷ es) ≡ runs row.y e.y (odd_ones xs) ++ swept e (odd_ones xs ++ e.x ∷ []) es
another row e xs es other = ap (λ (b : Bool). if b then swept row (xs ++ e.x ∷ []) es else runs row.y e.y (odd_ones xs) ++ swept e (odd_ones xs ++ e.x ∷ []) es) (other_is e.y row.y other)

at_place : (ends : List SideEnd) (i : ℕ) (d : SideEnd) → i < length ends → drop i ends ≡ get_or ends i d ∷ drop (i + 1) ends
at_place ends i d less = drop-cons ends i d less ∙ ap (λ (n : ℕ). get_or ends i d ∷ drop n ends) (let e : suc i ≡ i + 1 = omega arith in e)

pub same_row_at : (row : SideEnd) (xs zs : List ℤ) (ends : List SideEnd) (i : ℕ) (d : SideEnd) (all : Bool) → i < length ends → (get_or ends i d).y ≡ row.y → zs ≡ xs ++ (get_or ends i d).x ∷ [] → crossed_behind row xs (drop i ends) ≡ all → crossed_behind row zs (drop (i + 1) ends) ≡ all
same_row_at row xs zs ends i d all less same progress so =
    ap (λ (t : List ℤ). crossed_behind row t (drop (i + 1) ends)) progress
    ∙ (ap has_some (sym (same_row row (get_or ends i d) xs (drop (i + 1) ends) same))
    ∙ (ap (crossed_behind row xs) (sym (at_place ends i d less)) ∙ so))

pub row_crossed : (row : SideEnd) (xs odd : List ℤ) (ends : List SideEnd) (i : ℕ) (d : SideEnd) (all : Bool) → i < length ends → ((get_or ends i d).y ≡ row.y → ⊥) → odd ≡ odd_ones xs → has_some (runs row.y (get_or ends i d).y odd) ≡ true → crossed_behind row xs (drop i ends) ≡ all → true ≡ all
row_crossed row xs odd ends i d all less other is some so =
    let here : has_some (runs row.y (get_or ends i d).y (odd_ones xs)) ≡ true = ap (λ (t : List ℤ). has_some (runs row.y (get_or ends i d).y t)) (sym is) ∙ some in
    sym (before_some (runs row.y (get_or ends i d).y (odd_ones xs)) (swept (get_or ends i d) (odd_ones xs ++ (get_or ends i d).x ∷ []) (drop (i + 1) ends)) here)
    ∙ (ap has_some (sym (another row (get_or ends i d) xs (drop (i + 1) ends) other))
    ∙ (ap (crossed_behind row xs) (sym (at_place ends i d less)) ∙ so))

pub next_row_at : (row : SideEnd) (xs odd zs : List ℤ) (ends : List SideEnd) (i : ℕ) (d : SideEnd) (all : Bool) → i < length ends → ((get_or ends i d).y ≡ row.y → ⊥) → odd ≡ odd_ones xs → has_some (runs row.y (get_or ends i d).y odd) ≡ false → zs ≡ odd ++ (get_or ends i d).x ∷ [] → crossed_behind row xs (drop i ends) ≡ all → crossed_behind (get_or ends i d) zs (drop (i + 1) ends) ≡ all
next_row_at row xs odd zs ends i d all less other is none progress so =
    let here : has_some (runs row.y (get_or ends i d).y (odd_ones xs)) ≡ false = ap (λ (t : List ℤ). has_some (runs row.y (get_or ends i d).y t)) (sym is) ∙ none in
    ap (λ (t : List ℤ). crossed_behind (get_or ends i d) t (drop (i + 1) ends)) (progress ∙ ap (λ (t : List ℤ). t ++ (get_or ends i d).x ∷ []) is)
    ∙ (sym (before_none (runs row.y (get_or ends i d).y (odd_ones xs)) (swept (get_or ends i d) (odd_ones xs ++ (get_or ends i d).x ∷ []) (drop (i + 1) ends)) here)
    ∙ (ap has_some (sym (another row (get_or ends i d) xs (drop (i + 1) ends) other))
    ∙ (ap (crossed_behind row xs) (sym (at_place ends i d less)) ∙ so)))

pub rows_done : (row : SideEnd) (xs : List ℤ) (ends : List SideEnd) (i : ℕ) (all : Bool) → length ends ≤ i → crossed_behind row xs (drop i ends) ≡ all → false ≡ all
rows_done row xs ends i all past so = ap (crossed_behind row xs) (sym (drop_of_length-le ends past)) ∙ so

pub ruleset crossed_rules = (no_end, same_row_at, row_crossed, next_row_at, rows_done)

-- ---- a path

pub some_segment : (half ends : ℕ) (ps : List Point) → 2 ≤ length ps → has_some (all_segments half ends ps) ≡ true
some_segment half ends [] some = absurd (omega (arith, some))
some_segment half ends (p ∷ []) some = absurd (omega (arith, some))
some_segment half ends (p ∷ q ∷ ps) some = refl

pub few_points : (half ends : ℕ) (ps : List Point) → length ps < 2 → has_some (all_segments half ends ps) ≡ false
few_points half ends [] few = refl
few_points half ends (p ∷ []) few = refl
few_points half ends (p ∷ q ∷ ps) few = absurd (omega (arith, few))
