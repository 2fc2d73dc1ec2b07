-- A walk round a rectangle is that rectangle. A walk over its corners is told by two flags a corner.
use Rattle.std.proofs.Common.{◌≡◌, Bool, true, false, cond, not, ◌&&◌, ◌||◌, ℤ, ◌<ℤ◌, int_le, int_lt, List, [], ◌∷◌, ◌++◌, map, refl, ap, ◌∙◌, arith}
use Rattle.std.specs.List.{filter, list_any}
use Rattle.std.specs.Ordering.{int_eq}
use Rattle.std.proofs.lemmas.Int.{ints}
use Rattle.box_geom.specs.Rectangle.{Rectangle, IsProper}
use Rattle.gds_area.specs.declared.point.Point.{Point}
use Rattle.gds_area.specs.Points.{Step, steps_from, is_slanted, closed}
use Rattle.gds_area.specs.EvenOdd.{crosses, toggled, odd_ones, crossings, with_height, heights, runs, bands, inside_walk}
use Rattle.gds_read.specs.Drawn.{corner, round, IsRectangleOf, AreWalksOf}
use Rattle.gds_area.proofs.Ascending.{less_is, more_is, below_is, above_is, same_is}

record Corner : Type 0 where
  right : Bool
  upper : Bool

abbrev either : Bool → Bool → Bool
either true b = not b
either false b = b

abbrev point : Rectangle → Corner → Point
point r c = record { x = cond c.right r.x2 r.x1; y = cond c.upper r.y2 r.y1 }

-- of two numbers those that are there
abbrev those : ℤ → ℤ → Bool → Bool → List ℤ
those a b false false = []
those a b true false = a ∷ []
those a b false true = b ∷ []
those a b true true = a ∷ b ∷ []

-- how two numbers compare, one below the other
record Compared (a b : ℤ) : Type 0 where
  ab : int_lt a b ≡ true
  ba : int_lt b a ≡ false
  aa : int_lt a a ≡ false
  bb : int_lt b b ≡ false

compared : (a b : ℤ) → a <ℤ b → Compared a b
compared a b less =
    record {
      ab = less_is a b less;
      ba = more_is b a (omega (arith, ints));
      aa = more_is a a (omega (arith, ints));
      bb = more_is b b (omega (arith, ints));
    }

-- ---- heights

put : (a b : ℤ) (u p q : Bool) → Compared a b → with_height (cond u b a) (those a b p q) ≡ those a b (p || not u) (q || u)
put a b true false false c = refl
put a b false false false c = refl
put a b true true false c = rw (c.ba, c.ab) refl
put a b false true false c = rw (c.aa) refl
put a b true false true c = rw (c.bb) refl
put a b false false true c = rw (c.ab) refl
put a b true true true c = rw (c.ba, c.ab, c.bb) refl
put a b false true true c = rw (c.aa) refl

abbrev low : List Corner → Bool
low [] = false
low (c ∷ cs) = low cs || not c.upper

abbrev high : List Corner → Bool
high [] = false
high (c ∷ cs) = high cs || c.upper

heights_are : (r : Rectangle) (cs : List Corner) → r.y1 <ℤ r.y2 → heights (map (point r) cs) ≡ those r.y1 r.y2 (low cs) (high cs)
heights_are r [] tall = refl
heights_are r (c ∷ cs) tall = ap (λ (t : List ℤ). with_height (cond c.upper r.y2 r.y1) t) (heights_are r cs tall) ∙ put r.y1 r.y2 c.upper (low cs) (high cs) (compared r.y1 r.y2 tall)

-- ---- crossings of the lower row

toggle : (a b : ℤ) (u p q : Bool) → Compared a b → toggled (cond u b a) (those a b p q) ≡ those a b (either p (not u)) (either q u)
toggle a b true false false c = refl
toggle a b false false false c = refl
toggle a b true true false c = rw (c.ba, c.ab) refl
toggle a b false true false c = rw (c.aa) refl
toggle a b true false true c = rw (c.bb) refl
toggle a b false false true c = rw (c.ab) refl
toggle a b true true true c = rw (c.ba, c.ab, c.bb) refl
toggle a b false true true c = rw (c.aa) refl

crosses_low : (r : Rectangle) (a b : Corner) → r.y1 <ℤ r.y2 → crosses r.y1 (record { from = point r a; to = point r b }) ≡ either a.upper b.upper
crosses_low r a b tall = by a.upper b.upper
  where
    by : (u v : Bool) → (int_le (cond u r.y2 r.y1) r.y1 && int_lt r.y1 (cond v r.y2 r.y1)) || (int_le (cond v r.y2 r.y1) r.y1 && int_lt r.y1 (cond u r.y2 r.y1)) ≡ either u v
    by true true = rw (above_is r.y2 r.y1 tall) refl
    by true false = rw (above_is r.y2 r.y1 tall, below_is r.y1 r.y1 (omega (arith, ints)), less_is r.y1 r.y2 tall) refl
    by false true = rw (below_is r.y1 r.y1 (omega (arith, ints)), less_is r.y1 r.y2 tall) refl
    by false false = rw (below_is r.y1 r.y1 (omega (arith, ints)), more_is r.y1 r.y1 (omega (arith, ints))) refl

-- whether the left side and the right side are crossed an odd number of times
abbrev left : Corner → List Corner → Bool
left a [] = false
left a (b ∷ bs) = cond (either a.upper b.upper) (either (left b bs) (not a.right)) (left b bs)

abbrev right_side : Corner → List Corner → Bool
right_side a [] = false
right_side a (b ∷ bs) = cond (either a.upper b.upper) (either (right_side b bs) a.right) (right_side b bs)

crossings_are : (r : Rectangle) (a : Corner) (bs : List Corner) → IsProper r → crossings r.y1 (steps_from (point r a) (map (point r) bs)) ≡ those r.x1 r.x2 (left a bs) (right_side a bs)
unfolding odd_ones
crossings_are r a [] p = refl
crossings_are r a (b ∷ bs) p =
    ap (λ (t : Bool). odd_ones (map (λ (s : Step). s.from.x) (cond t (record { from = point r a; to = point r b } ∷ filter (crosses r.y1) (steps_from (point r b) (map (point r) bs))) (filter (crosses r.y1) (steps_from (point r b) (map (point r) bs)))))) (crosses_low r a b p.high)
    ∙ by (either a.upper b.upper) (crossings_are r b bs p)
  where
    by : (t : Bool) → crossings r.y1 (steps_from (point r b) (map (point r) bs)) ≡ those r.x1 r.x2 (left b bs) (right_side b bs) → odd_ones (map (λ (s : Step). s.from.x) (cond t (record { from = point r a; to = point r b } ∷ filter (crosses r.y1) (steps_from (point r b) (map (point r) bs))) (filter (crosses r.y1) (steps_from (point r b) (map (point r) bs))))) ≡ those r.x1 r.x2 (cond t (either (left b bs) (not a.right)) (left b bs)) (cond t (either (right_side b bs) a.right) (right_side b bs))
    by true e = ap (λ (t : List ℤ). toggled (cond a.right r.x2 r.x1) t) e ∙ toggle r.x1 r.x2 a.right (left b bs) (right_side b bs) (compared r.x1 r.x2 p.wide)
    by false e = e

-- ---- no slants

abbrev alike : Bool → Bool → Bool
alike true b = b
alike false b = not b

abbrev upright : Corner → List Corner → Bool
upright a [] = true
upright a (b ∷ bs) = (alike a.right b.right || alike a.upper b.upper) && upright b bs

same_side : (a b : ℤ) (u v : Bool) → alike u v ≡ true → int_eq (cond u b a) (cond v b a) ≡ true
same_side a b true true e = same_is b b refl
same_side a b true false e = absurd cc
same_side a b false true e = absurd cc
same_side a b false false e = same_is a a refl

both_true : (a b : Bool) → (a && b) ≡ true → (a ≡ true) × (b ≡ true)
both_true true true e = (refl, refl)
both_true true false e = absurd cc
both_true false b e = absurd cc

no_slant : (r : Rectangle) (a b : Corner) → (alike a.right b.right || alike a.upper b.upper) ≡ true → is_slanted (record { from = point r a; to = point r b }) ≡ false
no_slant r a b e = by (alike a.right b.right) refl e
  where
    second : (t : Bool) → (t && false) ≡ false
    second true = refl
    second false = refl

    by : (t : Bool) → alike a.right b.right ≡ t → (t || alike a.upper b.upper) ≡ true → not (int_eq (point r a).x (point r b).x) && not (int_eq (point r a).y (point r b).y) ≡ false
    by true q k = rw (same_side r.x1 r.x2 a.right b.right q) refl
    by false q k = rw (same_side r.y1 r.y2 a.upper b.upper k) (second (not (int_eq (point r a).x (point r b).x)))

no_slants : (r : Rectangle) (a : Corner) (bs : List Corner) → upright a bs ≡ true → list_any is_slanted (steps_from (point r a) (map (point r) bs)) ≡ false
no_slants r a [] e = refl
no_slants r a (b ∷ bs) e =
    let parts = both_true (alike a.right b.right || alike a.upper b.upper) (upright b bs) e in
    rw (no_slant r a b parts.0) (no_slants r b bs parts.1)

-- ---- a walk over the corners

record GoesRound (a : Corner) (bs : List Corner) : Type 0 where
  low_seen : low (a ∷ bs) ≡ true
  high_seen : high (a ∷ bs) ≡ true
  left_odd : left a bs ≡ true
  right_odd : right_side a bs ≡ true
  straight : upright a bs ≡ true

inside_is : (r : Rectangle) (a : Corner) (bs : List Corner) → IsProper r → GoesRound a bs → inside_walk (map (point r) (a ∷ bs)) ≡ r ∷ []
inside_is r a bs p g =
    ap (bands (λ y. crossings y (steps_from (point r a) (map (point r) bs)))) (heights_are r (a ∷ bs) p.high ∙ both g.low_seen g.high_seen)
    ∙ ap (λ (t : List ℤ). runs r.y1 r.y2 t ++ []) (crossings_are r a bs p ∙ sides g.left_odd g.right_odd)
  where
    both : low (a ∷ bs) ≡ true → high (a ∷ bs) ≡ true → those r.y1 r.y2 (low (a ∷ bs)) (high (a ∷ bs)) ≡ r.y1 ∷ r.y2 ∷ []
    both e f = rw (e, f) refl

    sides : left a bs ≡ true → right_side a bs ≡ true → those r.x1 r.x2 (left a bs) (right_side a bs) ≡ r.x1 ∷ r.x2 ∷ []
    sides e f = rw (e, f) refl

abbrev at : Bool → Bool → Corner
at right upper = record { right = right; upper = upper }

-- four corners in a row, and the first again
walk_is : (r : Rectangle) (a b c d : Corner) → IsProper r → GoesRound a (b ∷ c ∷ d ∷ a ∷ []) → IsRectangleOf r (round (point r a) (point r b) (point r c) (point r d))
walk_is r a b c d p g = record { upright = no_slants r a (b ∷ c ∷ d ∷ a ∷ []) g.straight; one = inside_is r a (b ∷ c ∷ d ∷ a ∷ []) p g }

closed_is : (r : Rectangle) (a b c d : Corner) → IsProper r → GoesRound a (b ∷ c ∷ d ∷ a ∷ a ∷ []) → IsRectangleOf r (closed (round (point r a) (point r b) (point r c) (point r d)))
closed_is r a b c d p g = record { upright = no_slants r a (b ∷ c ∷ d ∷ a ∷ a ∷ []) g.straight; one = inside_is r a (b ∷ c ∷ d ∷ a ∷ a ∷ []) p g }

abbrev goes : {a : Corner} {bs : List Corner} → low (a ∷ bs) ≡ true → high (a ∷ bs) ≡ true → left a bs ≡ true → right_side a bs ≡ true → upright a bs ≡ true → GoesRound a bs
goes e f g h i = record { low_seen = e; high_seen = f; left_odd = g; right_odd = h; straight = i }

-- the walk that is written: upward from the lower left corner, and round to it again
abbrev pub written_round : Rectangle → List Point
written_round r = closed (round (corner r.x1 r.y1) (corner r.x1 r.y2) (corner r.x2 r.y2) (corner r.x2 r.y1))

pub round_is : (r : Rectangle) → IsProper r → IsRectangleOf r (written_round r)
round_is r p = closed_is r (at false false) (at false true) (at true true) (at true false) p (goes refl refl refl refl refl)

abbrev open_at : (r : Rectangle) → IsProper r → (a b c d : Corner) → GoesRound a (b ∷ c ∷ d ∷ a ∷ []) → IsRectangleOf r (round (point r a) (point r b) (point r c) (point r d))
open_at r p a b c d g = walk_is r a b c d p g

abbrev closed_at : (r : Rectangle) → IsProper r → (a b c d : Corner) → GoesRound a (b ∷ c ∷ d ∷ a ∷ a ∷ []) → IsRectangleOf r (closed (round (point r a) (point r b) (point r c) (point r d)))
closed_at r p a b c d g = closed_is r a b c d p g

pub walks_are : (r : Rectangle) → IsProper r → AreWalksOf r
walks_are r p =
    record {
      left_open = (
        open_at r p (at false false) (at false true) (at true true) (at true false) (goes refl refl refl refl refl),
        (
          open_at r p (at false true) (at true true) (at true false) (at false false) (goes refl refl refl refl refl),
          (
            open_at r p (at true true) (at true false) (at false false) (at false true) (goes refl refl refl refl refl),
            (
              open_at r p (at true false) (at false false) (at false true) (at true true) (goes refl refl refl refl refl),
              (
                open_at r p (at false false) (at true false) (at true true) (at false true) (goes refl refl refl refl refl),
                (
                  open_at r p (at true false) (at true true) (at false true) (at false false) (goes refl refl refl refl refl),
                  (
                    open_at r p (at true true) (at false true) (at false false) (at true false) (goes refl refl refl refl refl),
                    (
                      open_at r p (at false true) (at false false) (at true false) (at true true) (goes refl refl refl refl refl),
                      tt,
                    ),
                  ),
                ),
              ),
            ),
          ),
        ),
      );
      taken_round = (
        closed_at r p (at false false) (at false true) (at true true) (at true false) (goes refl refl refl refl refl),
        (
          closed_at r p (at false true) (at true true) (at true false) (at false false) (goes refl refl refl refl refl),
          (
            closed_at r p (at true true) (at true false) (at false false) (at false true) (goes refl refl refl refl refl),
            (
              closed_at r p (at true false) (at false false) (at false true) (at true true) (goes refl refl refl refl refl),
              (
                closed_at r p (at false false) (at true false) (at true true) (at false true) (goes refl refl refl refl refl),
                (
                  closed_at r p (at true false) (at true true) (at false true) (at false false) (goes refl refl refl refl refl),
                  (
                    closed_at r p (at true true) (at false true) (at false false) (at true false) (goes refl refl refl refl refl),
                    (
                      closed_at r p (at false true) (at false false) (at true false) (at true true) (goes refl refl refl refl refl),
                      tt,
                    ),
                  ),
                ),
              ),
            ),
          ),
        ),
      );
    }
