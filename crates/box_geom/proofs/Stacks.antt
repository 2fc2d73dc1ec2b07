-- Bands, put together from cut to cut: what is done below a cut, and what one more band adds.
use Rattle.std.proofs.Common.{◌≡◌, ◌↔◌, ℕ, zero, suc, ◌+◌, ◌<◌, ℤ, pos, neg_ℤ, ◌≤ℤ◌, ◌<ℤ◌, ◌-ℤ◌, List, [], ◌∷◌, ◌++◌, map, length, get_or, arith, inl, inr, ◌⊎◌, refl, sym, subst, drop}
use Rattle.std.specs.List.{All, AllPairs, Contains, flat_map}
use Rattle.std.proofs.lemmas.Int.{ints, by_lt_z}
use Rattle.std.proofs.lemmas.List.Elements.{All-contains, All-append, Contains-append_cases, Contains-append_left, Contains-append_right}
use Rattle.std.proofs.lemmas.List.Kept.{AllPairs-cons}
use Rattle.cell_num.proofs.In.{In, contains_in, in_contains, in_pieces, in_map, contains_map, contains_flat}
use Rattle.cell_num.proofs.Lists.{contains_none, contains_cons, contains_here, contains_there, all_from_contains}
use Rattle.cell_num.proofs.Pairs.{pairs_none, pairs_tail, pairs_head, pairs_append}
use Rattle.box_geom.specs.Rectangle.{Rectangle, Holds, Covers}
use Rattle.box_geom.specs.Cutting.{AreCuts}
use Rattle.box_geom.specs.Ranges.{IsInRange, Hit, Apart, Spread}
use Rattle.box_geom.specs.Regions.{IsBlock, Follows, AreBanded}
use Rattle.box_geom.specs.Sweeping.{Meant}
use Rattle.box_geom.specs.Banding.{in_band, sides_up, all_sides_up, AreRowOf, AreMadeOf}
use Rattle.box_geom.specs.declared.ranges.XRange.{XRange}
use Rattle.box_geom.specs.declared.sweep.Operation.{Operation}
use Rattle.box_geom.specs.declared.sweep.Operation.TheVariants.{Both, Either, Minus}
use Rattle.box_geom.proofs.Sweeps.{meant_none, meant_like}

drop_next : (xs : List ℤ) (i : ℕ) → i < length xs → drop i xs ≡ get_or xs i (pos 0) ∷ drop (i + 1) xs
drop_next [] i lt = absurd (omega arith)
drop_next (x ∷ xs) zero lt = refl
drop_next (x ∷ xs) (suc i) lt = let e : suc i + 1 ≡ suc (i + 1) = omega arith in subst (λ j. drop (suc i) (x ∷ xs) ≡ get_or (x ∷ xs) (suc i) (pos 0) ∷ drop j (x ∷ xs)) (sym e) (drop_next xs i (omega arith))

-- numbers that ascend, all above low
abbrev pub Climb : ℤ → List ℤ → Type 0
Climb low [] = Unit {0}
Climb low (h ∷ hs) = (low <ℤ h) × Climb h hs

-- the bands below low are made; the rest are the cuts above low
pub record AreDone (op : Operation) (a b out : List Rectangle) (low : ℤ) (rest : List ℤ) : Type 0 where
  pub banded : AreBanded out
  pub below : (r : Rectangle) → Contains out r → r.y2 ≤ℤ low
  pub same : (x y : ℤ) → y <ℤ low → Covers out x y ↔ Meant op (Covers a x y) (Covers b x y)
  pub climb : Climb low rest
  pub known : (z : ℤ) → Contains (all_sides_up a b) z → (z ≤ℤ low) ⊎ In rest z
  pub lowest : neg_ℤ (pos 2000000000) ≤ℤ low
  pub highest : (z : ℤ) → In rest z → z ≤ℤ pos 2000000000

-- the sides of a rectangle of the lists
abbrev IsOne : List Rectangle → List Rectangle → Rectangle → Type 0
IsOne a b r = Contains a r ⊎ Contains b r

low_side : (a b : List Rectangle) (r : Rectangle) → IsOne a b r → Contains (all_sides_up a b) r.y1
low_side a b r (inl c) = Contains-append_left (flat_map sides_up a) (flat_map sides_up b) r.y1 (contains_flat sides_up a r r.y1 c (in_contains (sides_up r) r.y1 (inl refl)))
low_side a b r (inr c) = Contains-append_right (flat_map sides_up a) (flat_map sides_up b) r.y1 (contains_flat sides_up b r r.y1 c (in_contains (sides_up r) r.y1 (inl refl)))

high_side : (a b : List Rectangle) (r : Rectangle) → IsOne a b r → Contains (all_sides_up a b) r.y2
high_side a b r (inl c) = Contains-append_left (flat_map sides_up a) (flat_map sides_up b) r.y2 (contains_flat sides_up a r r.y2 c (in_contains (sides_up r) r.y2 (inr (inl refl))))
high_side a b r (inr c) = Contains-append_right (flat_map sides_up a) (flat_map sides_up b) r.y2 (contains_flat sides_up b r r.y2 c (in_contains (sides_up r) r.y2 (inr (inl refl))))

climb_above : (low : ℤ) (hs : List ℤ) (z : ℤ) → Climb low hs → In hs z → low <ℤ z
climb_above low [] z c i = absurd i
climb_above low (h ∷ hs) z c (inl e) = subst (λ w. low <ℤ w) e c.0
climb_above low (h ∷ hs) z c (inr i) = let l = c.0 in let m = climb_above h hs z c.1 i in omega (arith, ints)

-- a side is no cut strictly between low and the next cut
side_of_slot : (low h : ℤ) (hs : List ℤ) (z : ℤ) → Climb low (h ∷ hs) → (z ≤ℤ low) ⊎ In (h ∷ hs) z → (z ≤ℤ low) ⊎ (h ≤ℤ z)
side_of_slot low h hs z c (inl l) = inl l
side_of_slot low h hs z c (inr (inl e)) = inr (subst (λ w. h ≤ℤ w) e (omega (arith, ints)))
side_of_slot low h hs z c (inr (inr i)) = inr (let m = climb_above h hs z c.1 i in omega (arith, ints))

-- between neighbouring cuts the rows are alike
same_slot : (a b : List Rectangle) (low h : ℤ) (hs : List ℤ) → Climb low (h ∷ hs) → ((z : ℤ) → Contains (all_sides_up a b) z → (z ≤ℤ low) ⊎ In (h ∷ hs) z) → (rs : List Rectangle) → ((r : Rectangle) → Contains rs r → IsOne a b r) → (x y : ℤ) → low ≤ℤ y → y <ℤ h → Covers rs x low ↔ Covers rs x y
same_slot a b low h hs climb known rs one x y from to = (up, down)
  where
    slot : (z : ℤ) → Contains (all_sides_up a b) z → (z ≤ℤ low) ⊎ (h ≤ℤ z)
    slot z c = side_of_slot low h hs z climb (known z c)

    up : Covers rs x low → Covers rs x y
    up c =
        let k = c.holds in
        elim (slot c.rect.y2 (high_side a b c.rect (one c.rect c.listed))) [
          | inl l ↦ absurd (omega (arith, ints))
          | inr m ↦ record { rect = c.rect; listed = c.listed; holds = omega (arith, ints) }
        ]

    down : Covers rs x y → Covers rs x low
    down c =
        let k = c.holds in
        elim (slot c.rect.y1 (low_side a b c.rect (one c.rect c.listed))) [
          | inl l ↦ record { rect = c.rect; listed = c.listed; holds = omega (arith, ints) }
          | inr m ↦ absurd (omega (arith, ints))
        ]

-- the two sets hold together what the operation holds
from_one : (op : Operation) (a b : List Rectangle) (x y : ℤ) → Meant op (Covers a x y) (Covers b x y) → (r : Rectangle) × IsOne a b r × Holds r x y
from_one Both a b x y m = (m.0.rect, inl m.0.listed, m.0.holds)
from_one Either a b x y (inl c) = (c.rect, inl c.listed, c.holds)
from_one Either a b x y (inr c) = (c.rect, inr c.listed, c.holds)
from_one Minus a b x y m = (m.0.rect, inl m.0.listed, m.0.holds)

block_one : (a b : List Rectangle) (r : Rectangle) → All IsBlock a → All IsBlock b → IsOne a b r → IsBlock r
block_one a b r p q (inl c) = All-contains IsBlock a r p c
block_one a b r p q (inr c) = All-contains IsBlock b r q c

hit_of : (rs : List XRange) (r : XRange) (x : ℤ) → In rs r → IsInRange r x → Hit rs x
hit_of [] r x i h = absurd i
hit_of (s ∷ ss) r x (inl e) h = inl (subst (λ (z : XRange). IsInRange z x) (sym e) h)
hit_of (s ∷ ss) r x (inr i) h = inr (hit_of ss r x i h)

pub record Found (rs : List XRange) (x : ℤ) : Type 0 where
  pub range : XRange
  pub listed : In rs range
  pub holds : IsInRange range x

found : (rs : List XRange) (x : ℤ) → Hit rs x → Found rs x
found [] x h = absurd h
found (r ∷ rs) x (inl h) = record { range = r; listed = inl refl; holds = h }
found (r ∷ rs) x (inr h) = let f = found rs x h in record { range = f.range; listed = inr f.listed; holds = f.holds }

wide_apart : (low : ℤ) (rs : List XRange) (r : XRange) → Apart low rs → In rs r → (low <ℤ r.x1) × (r.x1 <ℤ r.x2)
wide_apart low [] r a i = absurd i
wide_apart low (s ∷ ss) r a (inl e) = subst (λ (z : XRange). (low <ℤ z.x1) × (z.x1 <ℤ z.x2)) e (a.0, a.1.0)
wide_apart low (s ∷ ss) r a (inr i) = let m = wide_apart s.x2 ss r a.1.1 i in let l = m.0 in let k = a.0 in let w = a.1.0 in (omega (arith, ints), m.1)

wide_spread : (rs : List XRange) (r : XRange) → Spread rs → In rs r → r.x1 <ℤ r.x2
wide_spread [] r s i = absurd i
wide_spread (t ∷ ts) r s (inl e) = subst (λ (z : XRange). z.x1 <ℤ z.x2) e s.0
wide_spread (t ∷ ts) r s (inr i) = (wide_apart t.x2 ts r s.1 i).1

band_apart : (low h at : ℤ) (rs : List XRange) → Apart at rs → AllPairs Follows (map (in_band low h) rs)
band_apart low h at [] a = pairs_none Follows
band_apart low h at (r ∷ rs) a = AllPairs-cons Follows (in_band low h r) (map (in_band low h) rs) (all_from_contains (Follows (in_band low h r)) (map (in_band low h) rs) (λ t c. behind t c)) (band_apart low h r.x2 rs a.1.1)
  where
    behind : (t : Rectangle) → Contains (map (in_band low h) rs) t → Follows (in_band low h r) t
    behind t c = let i = in_map (in_band low h) rs t c in let w = wide_apart r.x2 rs i.of a.1.1 (contains_in rs i.of i.listed) in subst (Follows (in_band low h r)) i.is (inr (refl, refl, w.0))

band_spread : (low h : ℤ) (rs : List XRange) → Spread rs → AllPairs Follows (map (in_band low h) rs)
band_spread low h [] s = pairs_none Follows
band_spread low h (r ∷ rs) s = band_apart low h (r.x1 -ℤ pos 1) (r ∷ rs) (omega (arith, ints), s)

pub band_covers : (low h : ℤ) (rs : List XRange) (x y : ℤ) → low ≤ℤ y → y <ℤ h → Covers (map (in_band low h) rs) x y ↔ Hit rs x
band_covers low h rs x y from to = (there, back)
  where
    there : Covers (map (in_band low h) rs) x y → Hit rs x
    there c = let i = in_map (in_band low h) rs c.rect c.listed in let k = subst (λ (z : Rectangle). Holds z x y) (sym i.is) c.holds in hit_of rs i.of x (contains_in rs i.of i.listed) (record { from = k.left; to = k.right })

    back : Hit rs x → Covers (map (in_band low h) rs) x y
    back t = let f = found rs x t in let k = f.holds in record { rect = in_band low h f.range; listed = contains_map (in_band low h) rs f.range (in_contains rs f.range f.listed); holds = omega (arith, ints) }

pub one_more_band : (op : Operation) (a b out : List Rectangle) (low h : ℤ) (hs : List ℤ) (rs : List XRange) → All IsBlock a → All IsBlock b → AreDone op a b out low (h ∷ hs) → AreRowOf op a b low rs → AreDone op a b (out ++ map (in_band low h) rs) h hs
one_more_band op a b out low h hs rs real_a real_b done row = record {
  banded = record {
    blocks = All-append IsBlock out band done.banded.blocks (all_from_contains IsBlock band block);
    order = pairs_append Follows out band done.banded.order (band_spread low h rs row.spread) (all_from_contains (λ r. All (Follows r) band) out (λ r c. all_from_contains (Follows r) band (λ t d. inl (above r t c d))));
  };
  below = λ r c. elim (Contains-append_cases out band r c) [ inl d ↦ (let l = done.below r d in omega (arith, ints)) | inr d ↦ (let q = (within r d).1 in omega (arith, ints)) ];
  same = λ x y less. by_lt_z y low (λ l. early x y l) (λ m. late x y m less);
  climb = done.climb.1;
  known = λ z c. later z (done.known z c);
  lowest = let l = done.lowest in omega (arith, ints);
  highest = λ z i. done.highest z (inr i);
}
  where
    climbs : low <ℤ h
    climbs = done.climb.0

    band : List Rectangle
    band = map (in_band low h) rs

    within : (r : Rectangle) → Contains band r → (r.y1 ≡ low) × (r.y2 ≡ h)
    within r c = let i = in_map (in_band low h) rs r c in subst (λ (z : Rectangle). (z.y1 ≡ low) × (z.y2 ≡ h)) i.is (refl, refl)

    above : (r t : Rectangle) → Contains out r → Contains band t → r.y2 ≤ℤ t.y1
    above r t c d = let l = done.below r c in let q = (within t d).0 in omega (arith, ints)

    later : (z : ℤ) → (z ≤ℤ low) ⊎ In (h ∷ hs) z → (z ≤ℤ h) ⊎ In hs z
    later z (inl l) = inl (omega (arith, ints))
    later z (inr (inl e)) = inl (subst (λ w. w ≤ℤ h) e (omega (arith, ints)))
    later z (inr (inr i)) = inr i

    range_block : (r : XRange) → In rs r → IsBlock (in_band low h r)
    range_block r i =
        let w = wide_spread rs r row.spread i in
        let p = from_one op a b r.x1 low ((row.same r.x1).0 (hit_of rs r r.x1 i (record { from = omega (arith, ints); to = w }))) in
        let q = from_one op a b (r.x2 -ℤ pos 1) low ((row.same (r.x2 -ℤ pos 1)).0 (hit_of rs r (r.x2 -ℤ pos 1) i (record { from = omega (arith, ints); to = omega (arith, ints) }))) in
        let pb = block_one a b p.0 real_a real_b p.1 in
        let qb = block_one a b q.0 real_a real_b q.1 in
        let ph = p.2 in
        let qh = q.2 in
        let l = done.lowest in
        let t = done.highest h (inl refl) in
        record { proper = record { wide = w; high = climbs }; left = omega (arith, ints); right = omega (arith, ints); low = l; top = t }

    block : (r : Rectangle) → Contains band r → IsBlock r
    block r c = let i = in_map (in_band low h) rs r c in subst IsBlock i.is (range_block i.of (contains_in rs i.of i.listed))

    early : (x y : ℤ) → y <ℤ low → Covers (out ++ band) x y ↔ Meant op (Covers a x y) (Covers b x y)
    early x y l = (λ c. (done.same x y l).0 (old c), λ m. new ((done.same x y l).1 m))
      where
        old : Covers (out ++ band) x y → Covers out x y
        old c = elim (Contains-append_cases out band c.rect c.listed) [ inl d ↦ record { rect = c.rect; listed = d; holds = c.holds } | inr d ↦ (let q = (within c.rect d).0 in let k = c.holds in absurd (omega (arith, ints))) ]

        new : Covers out x y → Covers (out ++ band) x y
        new c = record { rect = c.rect; listed = Contains-append_left out band c.rect c.listed; holds = c.holds }

    late : (x y : ℤ) → low ≤ℤ y → y <ℤ h → Covers (out ++ band) x y ↔ Meant op (Covers a x y) (Covers b x y)
    late x y m less = (λ c. meant_like op _ _ _ _ first second ((row.same x).0 (here.0 (new c))), λ n. old (here.1 ((row.same x).1 (meant_like op _ _ _ _ (first.1, first.0) (second.1, second.0) n))))
      where
        first : Covers a x low ↔ Covers a x y
        first = same_slot a b low h hs done.climb done.known a (λ r c. inl c) x y m less

        second : Covers b x low ↔ Covers b x y
        second = same_slot a b low h hs done.climb done.known b (λ r c. inr c) x y m less

        here : Covers (map (in_band low h) rs) x y ↔ Hit rs x
        here = band_covers low h rs x y m less

        new : Covers (out ++ band) x y → Covers band x y
        new c = elim (Contains-append_cases out band c.rect c.listed) [ inl d ↦ (let l = done.below c.rect d in let k = c.holds in absurd (omega (arith, ints))) | inr d ↦ record { rect = c.rect; listed = d; holds = c.holds } ]

        old : Covers band x y → Covers (out ++ band) x y
        old c = record { rect = c.rect; listed = Contains-append_right out band c.rect c.listed; holds = c.holds }

-- above the last cut there is nothing
pub all_done : (op : Operation) (a b out : List Rectangle) (low : ℤ) → AreDone op a b out low [] → AreMadeOf op a b out
all_done op a b out low done = record { banded = done.banded; same = λ x y. by_lt_z y low (λ l. done.same x y l) (λ m. none x y m) }
  where
    top : (rs : List Rectangle) → ((r : Rectangle) → Contains rs r → IsOne a b r) → (x y : ℤ) → low ≤ℤ y → Covers rs x y → ⊥
    top rs one x y m c = let k = c.holds in elim (done.known c.rect.y2 (high_side a b c.rect (one c.rect c.listed))) [ inl l ↦ omega (arith, ints) | inr i ↦ i ]

    none : (x y : ℤ) → low ≤ℤ y → Covers out x y ↔ Meant op (Covers a x y) (Covers b x y)
    none x y m = (λ c. absurd (let l = done.below c.rect c.listed in let k = c.holds in omega (arith, ints)), λ n. absurd (meant_none op _ _ (top a (λ r c. inl c) x y m) (top b (λ r c. inr c) x y m) n))

-- without cuts there are no rectangles
pub none_done : (op : Operation) (a b : List Rectangle) → AreCuts (all_sides_up a b) [] → AreMadeOf op a b []
none_done op a b cuts = record {
  banded = record { blocks = all_from_contains IsBlock [] (λ r c. absurd (contains_none r c)); order = pairs_none Follows };
  same = λ x y. (λ c. absurd (contains_none c.rect c.listed), λ m. absurd (empty x y m));
}
  where
    empty : (x y : ℤ) → Meant op (Covers a x y) (Covers b x y) → ⊥
    empty x y m = let f = from_one op a b x y m in contains_none f.0.y1 ((cuts.same f.0.y1).1 (low_side a b f.0 f.1))

climb_of : (low : ℤ) (hs : List ℤ) → AllPairs (λ p q. p <ℤ q) (low ∷ hs) → Climb low hs
climb_of low [] p = tt
climb_of low (h ∷ hs) p = (All-contains (λ q. low <ℤ q) (h ∷ hs) h (pairs_head (λ p q. p <ℤ q) low (h ∷ hs) p) (contains_here h hs), climb_of h hs (pairs_tail (λ p q. p <ℤ q) low (h ∷ hs) p))

-- below the lowest cut there is nothing
pub begun : (op : Operation) (a b : List Rectangle) (low : ℤ) (rest : List ℤ) → All IsBlock a → All IsBlock b → AreCuts (all_sides_up a b) (low ∷ rest) → AreDone op a b [] low rest
begun op a b low rest real_a real_b cuts = record {
  banded = record { blocks = all_from_contains IsBlock [] (λ r c. absurd (contains_none r c)); order = pairs_none Follows };
  below = λ r c. absurd (contains_none r c);
  same = λ x y l. (λ c. absurd (contains_none c.rect c.listed), λ m. absurd (empty x y l m));
  climb = climb;
  known = λ z c. known z (contains_cons low rest z ((cuts.same z).1 c));
  lowest = (bound low ((cuts.same low).0 (contains_here low rest))).0;
  highest = λ z i. (bound z ((cuts.same z).0 (contains_there low rest z (in_contains rest z i)))).1;
}
  where
    climb : Climb low rest
    climb = climb_of low rest cuts.ascending

    known : (z : ℤ) → (low ≡ z) ⊎ Contains rest z → (z ≤ℤ low) ⊎ In rest z
    known z (inl e) = inl (subst (λ w. w ≤ℤ low) e (omega (arith, ints)))
    known z (inr c) = inr (contains_in rest z c)

    empty : (x y : ℤ) → y <ℤ low → Meant op (Covers a x y) (Covers b x y) → ⊥
    empty x y l m = let f = from_one op a b x y m in let k = f.2 in by (contains_cons low rest f.0.y1 ((cuts.same f.0.y1).1 (low_side a b f.0 f.1)))
      where
        by : (low ≡ (from_one op a b x y m).0.y1) ⊎ Contains rest (from_one op a b x y m).0.y1 → ⊥
        by (inl e) = let k = (from_one op a b x y m).2 in omega (arith, ints)
        by (inr c) = let k = (from_one op a b x y m).2 in let u = climb_above low rest (from_one op a b x y m).0.y1 climb (contains_in rest (from_one op a b x y m).0.y1 c) in omega (arith, ints)

    in_sides : (rs : List Rectangle) → All IsBlock rs → (z : ℤ) → Contains (flat_map sides_up rs) z → (neg_ℤ (pos 2000000000) ≤ℤ z) × (z ≤ℤ pos 2000000000)
    in_sides rs real z c = let p = in_pieces sides_up rs z (contains_in (flat_map sides_up rs) z c) in let k = All-contains IsBlock rs p.of real (in_contains rs p.of p.listed) in of p.of k p.inside
      where
        of : (r : Rectangle) → IsBlock r → In (sides_up r) z → (neg_ℤ (pos 2000000000) ≤ℤ z) × (z ≤ℤ pos 2000000000)
        of r k (inl e) = subst (λ w. (neg_ℤ (pos 2000000000) ≤ℤ w) × (w ≤ℤ pos 2000000000)) e (let h = k.proper.high in (k.low, omega (arith, ints)))
        of r k (inr (inl e)) = subst (λ w. (neg_ℤ (pos 2000000000) ≤ℤ w) × (w ≤ℤ pos 2000000000)) e (let h = k.proper.high in (omega (arith, ints), k.top))
        of r k (inr (inr n)) = absurd n

    bound : (z : ℤ) → Contains (all_sides_up a b) z → (neg_ℤ (pos 2000000000) ≤ℤ z) × (z ≤ℤ pos 2000000000)
    bound z c = elim (Contains-append_cases (flat_map sides_up a) (flat_map sides_up b) z c) [ inl d ↦ in_sides a real_a z d | inr d ↦ in_sides b real_b z d ]

-- one more band at a place in the list of cuts
pub one_more_at : (op : Operation) (a b out new : List Rectangle) (low h : ℤ) (cuts : List ℤ) (i : ℕ) (rs : List XRange) → All IsBlock a → All IsBlock b → i < length cuts → h ≡ get_or cuts i (pos 0) → AreDone op a b out low (drop i cuts) → AreRowOf op a b low rs → new ≡ out ++ map (in_band low (get_or cuts i (pos 0))) rs → AreDone op a b new h (drop (i + 1) cuts)
one_more_at op a b out new low h cuts i rs real_a real_b lt is done row e =
    subst (λ z. AreDone op a b new z (drop (i + 1) cuts)) (sym is)
    (subst (λ z. AreDone op a b z (get_or cuts i (pos 0)) (drop (i + 1) cuts)) (sym e)
    (one_more_band op a b out low (get_or cuts i (pos 0)) (drop (i + 1) cuts) rs real_a real_b (subst (AreDone op a b out low) (drop_next cuts i lt) done) row))

-- the next cut is within the limits
pub next_within : (op : Operation) (a b out : List Rectangle) (low : ℤ) (cuts : List ℤ) (i : ℕ) → i < length cuts → AreDone op a b out low (drop i cuts) → (neg_ℤ (pos 2000000000) ≤ℤ get_or cuts i (pos 0)) × (get_or cuts i (pos 0) ≤ℤ pos 2000000000)
next_within op a b out low cuts i lt done =
    let d = subst (AreDone op a b out low) (drop_next cuts i lt) done in
    let l = d.lowest in
    let c = d.climb.0 in
    (omega (arith, ints), d.highest (get_or cuts i (pos 0)) (inl refl))

-- the next cut lies above
pub next_above : (op : Operation) (a b out : List Rectangle) (low : ℤ) (cuts : List ℤ) (i : ℕ) → i < length cuts → AreDone op a b out low (drop i cuts) → low <ℤ get_or cuts i (pos 0)
next_above op a b out low cuts i lt done = (subst (AreDone op a b out low) (drop_next cuts i lt) done).climb.0

pub none_cut : (op : Operation) (a b : List Rectangle) (cuts : List ℤ) → length cuts ≡ 0 → AreCuts (all_sides_up a b) cuts → AreMadeOf op a b []
none_cut op a b [] e cuts = none_done op a b cuts
none_cut op a b (z ∷ zs) e cuts = absurd (omega arith)
