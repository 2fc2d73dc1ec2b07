-- Each rectangle of a boundary is a run of its cells, and they stand in order.
use Rattle.std.proofs.Common.{ℕ, ◌≡◌, ◌%◌, ℤ, pos, ◌-ℤ◌, ◌≤ℤ◌, ◌<ℤ◌, int_lt, true, if◌then◌else◌, List, [], ◌∷◌, ◌++◌, map, All, refl, sym, subst, ap, ◌∙◌, arith, inl, inr, ◌⊎◌}
use Rattle.std.specs.List.{filter, Contains, AllPairs}
use Rattle.std.proofs.lemmas.Int.{ints, by_lt_z}
use Rattle.std.proofs.lemmas.List.Kept.{AllPairs-cons}
use Rattle.cell_num.proofs.In.{In, contains_in, in_contains, in_append}
use Rattle.cell_num.proofs.Lists.{contains_none, all_from_contains}
use Rattle.cell_num.proofs.Pairs.{pairs_none, pairs_append}
use Rattle.box_geom.specs.Rectangle.{Rectangle}
use Rattle.box_geom.specs.Runs.{IsRun}
use Rattle.gds_area.specs.declared.point.Point.{Point}
use Rattle.gds_area.specs.Points.{Step, steps_from}
use Rattle.gds_area.specs.EvenOdd.{crosses, is_crossed, IsInside, crossings, with_height, heights, runs, bands, boundary_rectangles}
use Rattle.gds_read.specs.Drawn.{HasHeight, IsRunOf, IsBefore}
use Rattle.gds_area.proofs.Ascending.{less_is, more_is, tally, tally_is, Above, Up, above_up, odd_up}
use Rattle.gds_read.proofs.Covered.{upto, none_upto, by_pair, not_below, crossings_upto, in_heights, heights_up}

-- ---- the runs of a row

record IsPair (low high : ℤ) (zs : List ℤ) (r : Rectangle) : Type 0 where
  at_low : r.y1 ≡ low
  at_high : r.y2 ≡ high
  wide : r.x1 <ℤ r.x2
  all : (x : ℤ) → r.x1 ≤ℤ x → x <ℤ r.x2 → upto x zs % 2 ≡ 1
  before : upto (r.x1 -ℤ pos 1) zs % 2 ≡ 0
  behind : upto r.x2 zs % 2 ≡ 0

run_above : (low high b : ℤ) (zs : List ℤ) (r : Rectangle) → Above b zs → In (runs low high zs) r → b <ℤ r.x1
run_above low high b [] r up i = absurd i
run_above low high b (c ∷ []) r up i = absurd i
run_above low high b (c ∷ d ∷ zs) r up (inl e) = subst (λ (q : Rectangle). b <ℤ q.x1) e up.0
run_above low high b (c ∷ d ∷ zs) r up (inr i) = let l : b <ℤ c = up.0 in let m : c <ℤ d = up.1.0 in let n : d <ℤ r.x1 = run_above low high d zs r up.1.1 i in omega (arith, ints)

first_pair : (low high a b : ℤ) (zs : List ℤ) → Up (a ∷ b ∷ zs) → IsPair low high (a ∷ b ∷ zs) (record { x1 = a; y1 = low; x2 = b; y2 = high })
first_pair low high a b zs up =
    record {
      at_low = refl;
      at_high = refl;
      wide = up.0;
      all = λ x from to. by_pair a b x zs up.0 up.1 (λ l e n. absurd (omega (arith, ints))) (λ l m e n. omega (arith, e)) (λ m e. absurd (omega (arith, ints)));
      before = by_pair a b (a -ℤ pos 1) zs up.0 up.1 (λ l e n. omega (arith, e)) (λ l m e n. absurd (omega (arith, ints))) (λ m e. absurd (let w : a <ℤ b = up.0 in omega (arith, ints)));
      behind = let none : upto b zs ≡ 0 = none_upto b b zs up.1 (omega (arith, ints)) in by_pair a b b zs up.0 up.1 (λ l e n. absurd (let w : a <ℤ b = up.0 in omega (arith, ints))) (λ l m e n. absurd (omega (arith, ints))) (λ m e. omega (arith, e, none));
    }

later_pair : (low high a b : ℤ) (zs : List ℤ) (r : Rectangle) → Up (a ∷ b ∷ zs) → b <ℤ r.x1 → IsPair low high zs r → IsPair low high (a ∷ b ∷ zs) r
later_pair low high a b zs r up above p =
    record {
      at_low = p.at_low;
      at_high = p.at_high;
      wide = p.wide;
      all = λ x from to. by_pair a b x zs up.0 up.1 (λ l e n. absurd (let w : a <ℤ b = up.0 in omega (arith, ints))) (λ l m e n. absurd (omega (arith, ints))) (λ m e. let odd = p.all x from to in omega (arith, e, odd));
      before = by_pair a b (r.x1 -ℤ pos 1) zs up.0 up.1 (λ l e n. absurd (let w : a <ℤ b = up.0 in omega (arith, ints))) (λ l m e n. absurd (omega (arith, ints))) (λ m e. let even = p.before in omega (arith, e, even));
      behind = let w = p.wide in by_pair a b r.x2 zs up.0 up.1 (λ l e n. absurd (let w : a <ℤ b = up.0 in omega (arith, ints))) (λ l m e n. absurd (omega (arith, ints))) (λ m e. let even = p.behind in omega (arith, e, even));
    }

pair_of : (low high : ℤ) (zs : List ℤ) (r : Rectangle) → Up zs → In (runs low high zs) r → IsPair low high zs r
pair_of low high [] r up i = absurd i
pair_of low high (a ∷ []) r up i = absurd i
pair_of low high (a ∷ b ∷ zs) r up (inl e) = subst (IsPair low high (a ∷ b ∷ zs)) e (first_pair low high a b zs up)
pair_of low high (a ∷ b ∷ zs) r up (inr i) = later_pair low high a b zs r up (run_above low high b zs r up.1 i) (pair_of low high zs r (above_up b zs up.1) i)

-- ---- the bands

record InBands (f : ℤ → List ℤ) (ys : List ℤ) (r : Rectangle) : Type 0 where
  low : ℤ
  high : ℤ
  low_listed : In ys low
  high_listed : In ys high
  less : low <ℤ high
  none : (v : ℤ) → In ys v → low <ℤ v → v <ℤ high → ⊥
  run : In (runs low high (f low)) r

first_band : (f : ℤ → List ℤ) (a b : ℤ) (ys : List ℤ) (r : Rectangle) → Up (a ∷ b ∷ ys) → In (runs a b (f a)) r → InBands f (a ∷ b ∷ ys) r
first_band f a b ys r up i = record { low = a; high = b; low_listed = inl refl; high_listed = inr (inl refl); less = up.0; none = none; run = i }
  where
    none : (v : ℤ) → In (a ∷ b ∷ ys) v → a <ℤ v → v <ℤ b → ⊥
    none v (inl e) l m = omega (arith, ints, e)
    none v (inr (inl e)) l m = omega (arith, ints, e)
    none v (inr (inr j)) l m = let n : b <ℤ v = not_below b v ys up.1 j in omega (arith, ints)

later_band : (f : ℤ → List ℤ) (a : ℤ) (ys : List ℤ) (r : Rectangle) → Above a ys → InBands f ys r → InBands f (a ∷ ys) r
later_band f a ys r up b = record { low = b.low; high = b.high; low_listed = inr b.low_listed; high_listed = inr b.high_listed; less = b.less; none = none; run = b.run }
  where
    none : (v : ℤ) → In (a ∷ ys) v → b.low <ℤ v → v <ℤ b.high → ⊥
    none v (inl e) l m = let n : a <ℤ b.low = not_below a b.low ys up b.low_listed in omega (arith, ints, e)
    none v (inr j) l m = b.none v j l m

in_bands : (f : ℤ → List ℤ) (ys : List ℤ) (r : Rectangle) → Up ys → In (bands f ys) r → InBands f ys r
in_bands f [] r up i = absurd i
in_bands f (a ∷ []) r up i = absurd i
in_bands f (a ∷ b ∷ ys) r up i = elim (in_append (runs a b (f a)) (bands f (b ∷ ys)) r i) [
  | inl here ↦ first_band f a b ys r up here
  | inr there ↦ later_band f a (b ∷ ys) r up (in_bands f (b ∷ ys) r up.1 there)
]

-- ---- the heights

from_height : (h v : ℤ) (zs : List ℤ) → In (with_height h zs) v → (h ≡ v) ⊎ In zs v
from_height h v [] (inl e) = inl e
from_height h v [] (inr i) = absurd i
from_height h v (z ∷ zs) i =
    by_lt_z h z
    (λ less. first (less_is h z less) i)
    (λ most. by_lt_z z h
    (λ more. second (λ k. from_height h v zs k) most more i)
    (λ even. third most even i))
  where
    first : int_lt h z ≡ true → In (with_height h (z ∷ zs)) v → (h ≡ v) ⊎ In (z ∷ zs) v
    first e j = head (subst (λ b. In (if b then h ∷ z ∷ zs else if int_lt z h then z ∷ with_height h zs else z ∷ zs) v) e j)
      where
        head : In (h ∷ z ∷ zs) v → (h ≡ v) ⊎ In (z ∷ zs) v
        head (inl q) = inl q
        head (inr k) = inr k

    rest : (h ≡ v) ⊎ In zs v → (h ≡ v) ⊎ In (z ∷ zs) v
    rest (inl q) = inl q
    rest (inr k) = inr (inr k)

    inner : (In (with_height h zs) v → (h ≡ v) ⊎ In zs v) → In (z ∷ with_height h zs) v → (h ≡ v) ⊎ In (z ∷ zs) v
    inner later (inl q) = inr (inl q)
    inner later (inr k) = rest (later k)

    second : (In (with_height h zs) v → (h ≡ v) ⊎ In zs v) → z ≤ℤ h → z <ℤ h → In (with_height h (z ∷ zs)) v → (h ≡ v) ⊎ In (z ∷ zs) v
    second later most more j = inner later (subst (λ b. In (if b then z ∷ with_height h zs else z ∷ zs) v) (less_is z h more) (subst (λ b. In (if b then h ∷ z ∷ zs else if int_lt z h then z ∷ with_height h zs else z ∷ zs) v) (more_is h z most) j))

    third : z ≤ℤ h → h ≤ℤ z → In (with_height h (z ∷ zs)) v → (h ≡ v) ⊎ In (z ∷ zs) v
    third most even j = inr (subst (λ b. In (if b then z ∷ with_height h zs else z ∷ zs) v) (more_is z h even) (subst (λ b. In (if b then h ∷ z ∷ zs else if int_lt z h then z ∷ with_height h zs else z ∷ zs) v) (more_is h z most) j))

record At (points : List Point) (y : ℤ) : Type 0 where
  point : Point
  listed : In points point
  is : point.y ≡ y

from_heights : (ps : List Point) (y : ℤ) → In (heights ps) y → At ps y
from_heights [] y i = absurd i
from_heights (p ∷ ps) y i = elim (from_height p.y y (heights ps) i) [
  | inl e ↦ record { point = p; listed = inl refl; is = e }
  | inr j ↦ let a = from_heights ps y j in record { point = a.point; listed = inr a.listed; is = a.is }
]

on_walk : (a : Point) (bs : List Point) (p : Point) → In (a ∷ (bs ++ a ∷ [])) p → In (a ∷ bs) p
on_walk a bs p (inl e) = inl e
on_walk a bs p (inr i) = elim (in_append bs (a ∷ []) p i) [ inl b ↦ inr b | inr last ↦ one last ]
  where
    one : In (a ∷ []) p → In (a ∷ bs) p
    one (inl e) = inl e
    one (inr j) = absurd j

walked : (a : Point) (bs : List Point) (p : Point) → In (a ∷ bs) p → In (a ∷ (bs ++ a ∷ [])) p
walked a bs p (inl e) = inl e
walked a bs p (inr i) = inr (left bs i)
  where
    left : (cs : List Point) → In cs p → In (cs ++ a ∷ []) p
    left [] j = absurd j
    left (c ∷ cs) (inl e) = inl e
    left (c ∷ cs) (inr j) = inr (left cs j)

has_height : (a : Point) (bs : List Point) (y : ℤ) → In (heights (a ∷ (bs ++ a ∷ []))) y → HasHeight (a ∷ bs) y
has_height a bs y i =
    let at = from_heights (a ∷ (bs ++ a ∷ [])) y i in
    record { point = at.point; listed = in_contains (a ∷ bs) at.point (on_walk a bs at.point at.listed); is = at.is }

-- ---- a rectangle is a run

inside_is : (a : Point) (bs : List Point) (x y : ℤ) (n : ℕ) → upto x (crossings y (steps_from a (bs ++ a ∷ []))) % 2 ≡ n → tally (is_crossed x y) (steps_from a (bs ++ a ∷ [])) % 2 ≡ n
inside_is a bs x y n e = sym (crossings_upto x y (steps_from a (bs ++ a ∷ []))) ∙ e

inside : (a : Point) (bs : List Point) (x y : ℤ) → upto x (crossings y (steps_from a (bs ++ a ∷ []))) % 2 ≡ 1 → IsInside (a ∷ bs) x y
inside a bs x y e = ap (λ (n : ℕ). n % 2) (sym (tally_is (is_crossed x y) (steps_from a (bs ++ a ∷ [])))) ∙ inside_is a bs x y 1 e

outside : (a : Point) (bs : List Point) (x y : ℤ) → upto x (crossings y (steps_from a (bs ++ a ∷ []))) % 2 ≡ 0 → IsInside (a ∷ bs) x y → ⊥
outside a bs x y e i = let f : tally (is_crossed x y) (steps_from a (bs ++ a ∷ [])) % 2 ≡ 0 = inside_is a bs x y 0 e in let g : tally (is_crossed x y) (steps_from a (bs ++ a ∷ [])) % 2 ≡ 1 = ap (λ (n : ℕ). n % 2) (tally_is (is_crossed x y) (steps_from a (bs ++ a ∷ []))) ∙ i in omega (arith, f, g)

run_of : (a : Point) (bs : List Point) (r : Rectangle) → In (boundary_rectangles (a ∷ bs)) r → IsRunOf (a ∷ bs) r
run_of a bs r i =
    let ss : List Step = steps_from a (bs ++ a ∷ []) in
    let ys : List ℤ = heights (a ∷ (bs ++ a ∷ [])) in
    let b = in_bands (λ y. crossings y ss) ys r (heights_up (a ∷ (bs ++ a ∷ []))) i in
    let p = pair_of b.low b.high (crossings b.low ss) r (odd_up (map (λ (s : Step). s.from.x) (filter (crosses b.low) ss))) b.run in
    let low : b.low ≡ r.y1 = sym p.at_low in
    let high : b.high ≡ r.y2 = sym p.at_high in
    record {
      low = subst (HasHeight (a ∷ bs)) low (has_height a bs b.low b.low_listed);
      high = subst (HasHeight (a ∷ bs)) high (has_height a bs b.high b.high_listed);
      order = let l = b.less in omega (arith, ints, low, high);
      neighbours = λ q listed l m. b.none q.y (in_heights (a ∷ (bs ++ a ∷ [])) q (walked a bs q (contains_in (a ∷ bs) q listed))) (omega (arith, ints, low)) (omega (arith, ints, high));
      run = subst (λ y. IsRun (λ x. IsInside (a ∷ bs) x y) r.x1 r.x2 r.x1) low (record {
        from = omega (arith, ints);
        to = p.wide;
        all = λ x l m. inside a bs x b.low (p.all x l m);
        before = outside a bs (r.x1 -ℤ pos 1) b.low p.before;
        behind = outside a bs r.x2 b.low p.behind;
      });
    }

pub runs_are : (points : List Point) (r : Rectangle) → Contains (boundary_rectangles points) r → IsRunOf points r
runs_are [] r c = absurd (contains_none r c)
runs_are (a ∷ bs) r c = run_of a bs r (contains_in (boundary_rectangles (a ∷ bs)) r c)

-- ---- their order

runs_in_order : (low high : ℤ) (zs : List ℤ) → Up zs → AllPairs IsBefore (runs low high zs)
runs_in_order low high [] up = pairs_none IsBefore
runs_in_order low high (a ∷ []) up = pairs_none IsBefore
runs_in_order low high (a ∷ b ∷ zs) up =
    AllPairs-cons IsBefore (record { x1 = a; y1 = low; x2 = b; y2 = high }) (runs low high zs)
    (all_from_contains (IsBefore (record { x1 = a; y1 = low; x2 = b; y2 = high })) (runs low high zs) (λ r c. inr (sym (pair_of low high zs r (above_up b zs up.1) (contains_in (runs low high zs) r c)).at_low, run_above low high b zs r up.1 (contains_in (runs low high zs) r c))))
    (runs_in_order low high zs (above_up b zs up.1))

bands_in_order : (f : ℤ → List ℤ) (ys : List ℤ) → ((y : ℤ) → Up (f y)) → Up ys → AllPairs IsBefore (bands f ys)
bands_in_order f [] ups up = pairs_none IsBefore
bands_in_order f (y ∷ []) ups up = pairs_none IsBefore
bands_in_order f (y ∷ z ∷ more) ups up =
    pairs_append IsBefore (runs y z (f y)) (bands f (z ∷ more)) (runs_in_order y z (f y) (ups y)) (bands_in_order f (z ∷ more) ups up.1)
    (all_from_contains (λ r. All (IsBefore r) (bands f (z ∷ more))) (runs y z (f y)) (λ r c. all_from_contains (IsBefore r) (bands f (z ∷ more)) (λ s d. inl (below r s (contains_in (runs y z (f y)) r c) (contains_in (bands f (z ∷ more)) s d)))))
  where
    at_least : (v : ℤ) → In (z ∷ more) v → z ≤ℤ v
    at_least v (inl e) = omega (arith, ints, e)
    at_least v (inr i) = let l : z <ℤ v = not_below z v more up.1 i in omega (arith, ints)

    below : (r s : Rectangle) → In (runs y z (f y)) r → In (bands f (z ∷ more)) s → r.y2 ≤ℤ s.y1
    below r s i j =
        let p = pair_of y z (f y) r (ups y) i in
        let b = in_bands f (z ∷ more) s up.1 j in
        let q = pair_of b.low b.high (f b.low) s (ups b.low) b.run in
        let l = at_least b.low b.low_listed in
        let e = p.at_high in
        let g = q.at_low in
        omega (arith, ints, e, g)

pub in_order : (points : List Point) → AllPairs IsBefore (boundary_rectangles points)
in_order [] = pairs_none IsBefore
in_order (a ∷ bs) =
    bands_in_order (λ y. crossings y (steps_from a (bs ++ a ∷ []))) (heights (a ∷ (bs ++ a ∷ []))) (λ y. odd_up (map (λ (s : Step). s.from.x) (filter (crosses y) (steps_from a (bs ++ a ∷ []))))) (heights_up (a ∷ (bs ++ a ∷ [])))
