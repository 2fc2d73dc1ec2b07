-- The rectangles of a boundary hold the cells that the even-odd rule gives it.
use Rattle.std.proofs.Common.{ℕ, ◌≡◌, ◌↔◌, ◌+◌, ◌%◌, ◌<◌, Bool, true, false, cond, not, ◌&&◌, ◌||◌, ℤ, ◌≤ℤ◌, ◌<ℤ◌, int_le, int_lt, List, [], ◌∷◌, ◌++◌, map, refl, sym, subst, ap, ◌∙◌, arith, inl, inr, ◌⊎◌}
use Rattle.std.specs.List.{filter}
use Rattle.std.proofs.lemmas.Int.{ints, by_lt_z}
use Rattle.cell_num.proofs.In.{In}
use Rattle.cell_num.proofs.Lists.{contains_none, contains_cons, contains_here, contains_there}
use Rattle.box_geom.specs.Rectangle.{Rectangle, Holds, Covers}
use Rattle.gds_area.specs.declared.point.Point.{Point}
use Rattle.gds_area.specs.Points.{Step, steps_from}
use Rattle.gds_area.specs.EvenOdd.{crosses, is_crossed, IsInside, crossings, with_height, heights, runs, bands, boundary_rectangles}
use Rattle.gds_area.proofs.Ascending.{less_is, more_is, below_is, above_is, not_both, tally, tally_is, tally_mapped, Above, Up, above_up, odd_up, odd_parity, height_up}

-- ---- some rectangle of a list holds a cell

abbrev Hit : List Rectangle → ℤ → ℤ → Type 0
Hit [] x y = ⊥
Hit (r ∷ rs) x y = Holds r x y ⊎ Hit rs x y

hit_covers : (rs : List Rectangle) (x y : ℤ) → Hit rs x y → Covers rs x y
hit_covers [] x y h = absurd h
hit_covers (r ∷ rs) x y (inl h) = record { rect = r; listed = contains_here r rs; holds = h }
hit_covers (r ∷ rs) x y (inr h) = let c = hit_covers rs x y h in record { rect = c.rect; listed = contains_there r rs c.rect c.listed; holds = c.holds }

covers_hit : (rs : List Rectangle) (x y : ℤ) → Covers rs x y → Hit rs x y
covers_hit [] x y c = contains_none c.rect c.listed
covers_hit (r ∷ rs) x y c = elim (contains_cons r rs c.rect c.listed) [
  | inl same ↦ inl (subst (λ (q : Rectangle). Holds q x y) (sym same) c.holds)
  | inr rest ↦ inr (covers_hit rs x y (record { rect = c.rect; listed = rest; holds = c.holds }))
]

hit_append : (rs ss : List Rectangle) (x y : ℤ) → Hit (rs ++ ss) x y → Hit rs x y ⊎ Hit ss x y
hit_append [] ss x y h = inr h
hit_append (r ∷ rs) ss x y (inl h) = inl (inl h)
hit_append (r ∷ rs) ss x y (inr h) = elim (hit_append rs ss x y h) [ inl a ↦ inl (inr a) | inr b ↦ inr b ]

hit_left : (rs ss : List Rectangle) (x y : ℤ) → Hit rs x y → Hit (rs ++ ss) x y
hit_left [] ss x y h = absurd h
hit_left (r ∷ rs) ss x y (inl h) = inl h
hit_left (r ∷ rs) ss x y (inr h) = inr (hit_left rs ss x y h)

hit_right : (rs ss : List Rectangle) (x y : ℤ) → Hit ss x y → Hit (rs ++ ss) x y
hit_right [] ss x y h = h
hit_right (r ∷ rs) ss x y h = inr (hit_right rs ss x y h)

-- ---- the runs of a row

-- how many of the numbers are not above x
abbrev pub upto : ℤ → List ℤ → ℕ
upto x zs = tally (λ z. int_le z x) zs

pub none_upto : (low x : ℤ) (zs : List ℤ) → Above low zs → x ≤ℤ low → upto x zs ≡ 0
none_upto low x [] h below = refl
none_upto low x (z ∷ zs) h below = let first : low <ℤ z = h.0 in let rest = none_upto z x zs h.1 (omega (arith, ints)) in rw (above_is z x (omega (arith, ints))) (omega (arith, rest))

abbrev size : List ℤ → ℕ
size zs = tally (λ z. true) zs

-- where a cell of the row lies between the numbers of a list that ascends
pub by_pair : {P : Type 0} (a b x : ℤ) (zs : List ℤ) → a <ℤ b → Above b zs → (x <ℤ a → upto x (a ∷ b ∷ zs) ≡ 0 → upto x zs ≡ 0 → P) → (a ≤ℤ x → x <ℤ b → upto x (a ∷ b ∷ zs) ≡ 1 → upto x zs ≡ 0 → P) → (b ≤ℤ x → upto x (a ∷ b ∷ zs) ≡ 2 + upto x zs → P) → P
by_pair a b x zs less h before inside behind =
    by_lt_z x a
    (λ low. let none : upto x zs ≡ 0 = none_upto b x zs h (omega (arith, ints)) in before low (rw (above_is a x low, above_is b x (omega (arith, ints))) (omega (arith, none))) none)
    (λ from. by_lt_z x b
    (λ high. let none : upto x zs ≡ 0 = none_upto b x zs h (omega (arith, ints)) in inside from high (rw (below_is a x from, above_is b x high) (omega (arith, none))) none)
    (λ most. behind most (rw (below_is a x from, below_is b x most) (omega arith))))

record InBand (low high y : ℤ) : Type 0 where
  from : low ≤ℤ y
  to : y <ℤ high

record IsHit (low high x y : ℤ) (zs : List ℤ) : Type 0 where
  band : InBand low high y
  odd : upto x zs % 2 ≡ 1

runs_hit : (low high x y : ℤ) (zs : List ℤ) → Up zs → Hit (runs low high zs) x y → IsHit low high x y zs
runs_hit low high x y [] up h = absurd h
runs_hit low high x y (a ∷ []) up h = absurd h
runs_hit low high x y (a ∷ b ∷ zs) up (inl h) =
    by_pair a b x zs up.0 up.1
    (λ before all rest. absurd (omega (arith, ints)))
    (λ from to all rest. record { band = omega (arith, ints); odd = omega (arith, all) })
    (λ most all. absurd (omega (arith, ints)))
runs_hit low high x y (a ∷ b ∷ zs) up (inr h) =
    let more = runs_hit low high x y zs (above_up b zs up.1) h in
    by_pair a b x zs up.0 up.1
    (λ before all rest. absurd (omega (arith, rest, more.odd)))
    (λ from to all rest. absurd (omega (arith, rest, more.odd)))
    (λ most all. record { band = more.band; odd = omega (arith, all, more.odd) })

hit_runs : (low high x y : ℤ) (zs : List ℤ) → Up zs → size zs % 2 ≡ 0 → InBand low high y → upto x zs % 2 ≡ 1 → Hit (runs low high zs) x y
hit_runs low high x y [] up even band odd = absurd (omega (arith, odd))
hit_runs low high x y (a ∷ []) up even band odd = absurd (omega (arith, even))
hit_runs low high x y (a ∷ b ∷ zs) up even band odd =
    by_pair a b x zs up.0 up.1
    (λ before all rest. absurd (omega (arith, all, odd)))
    (λ from to all rest. inl (omega (arith, ints)))
    (λ most all. inr (hit_runs low high x y zs (above_up b zs up.1) (omega (arith, even)) band (omega (arith, all, odd))))

-- ---- the bands

-- c is the greatest height not above y, and some height is above it
record IsBand (ys : List ℤ) (c y : ℤ) : Type 0 where
  listed : In ys c
  slot : (v : ℤ) → In ys v → int_le v y ≡ int_le v c

pub not_below : (low v : ℤ) (ys : List ℤ) → Above low ys → In ys v → low <ℤ v
not_below low v [] h i = absurd i
not_below low v (z ∷ zs) h (inl e) = subst (λ w. low <ℤ w) e h.0
not_below low v (z ∷ zs) h (inr i) = let first : low <ℤ z = h.0 in let rest : z <ℤ v = not_below z v zs h.1 i in omega (arith, ints)

first_band : (a b y : ℤ) (ys : List ℤ) → Up (a ∷ b ∷ ys) → InBand a b y → IsBand (a ∷ b ∷ ys) a y
first_band a b y ys up band = record { listed = inl refl; slot = slot }
  where
    slot : (v : ℤ) → In (a ∷ b ∷ ys) v → int_le v y ≡ int_le v a
    slot v (inl e) = subst (λ w. int_le w y ≡ int_le w a) e (below_is a y band.from ∙ sym (below_is a a (omega (arith, ints))))
    slot v (inr (inl e)) = let l : a <ℤ b = up.0 in subst (λ w. int_le w y ≡ int_le w a) e (above_is b y band.to ∙ sym (above_is b a l))
    slot v (inr (inr i)) = let l : a <ℤ b = up.0 in let m : b <ℤ v = not_below b v ys up.1 i in let to = band.to in above_is v y (omega (arith, ints)) ∙ sym (above_is v a (omega (arith, ints)))

is_below : (a b : ℤ) → int_le a b ≡ true → a ≤ℤ b
is_below a b e = by_lt_z b a (λ less. absurd (not_both (int_le a b) e (above_is a b less))) (λ most. most)

later_band : (a c y : ℤ) (ys : List ℤ) → Above a ys → IsBand ys c y → IsBand (a ∷ ys) c y
later_band a c y ys up b = record { listed = inr b.listed; slot = slot }
  where
    slot : (v : ℤ) → In (a ∷ ys) v → int_le v y ≡ int_le v c
    slot v (inl e) =
        let l : a <ℤ c = not_below a c ys up b.listed in
        let m : c ≤ℤ y = is_below c y (b.slot c b.listed ∙ below_is c c (omega (arith, ints))) in
        subst (λ w. int_le w y ≡ int_le w c) e (below_is a y (omega (arith, ints)) ∙ sym (below_is a c (omega (arith, ints))))
    slot v (inr i) = b.slot v i

record InRow (f : ℤ → List ℤ) (ys : List ℤ) (x y : ℤ) : Type 0 where
  at : ℤ
  band : IsBand ys at y
  odd : upto x (f at) % 2 ≡ 1

bands_hit : (f : ℤ → List ℤ) (ys : List ℤ) (x y : ℤ) → ((c : ℤ) → Up (f c)) → Up ys → Hit (bands f ys) x y → InRow f ys x y
bands_hit f [] x y ups up h = absurd h
bands_hit f (a ∷ []) x y ups up h = absurd h
bands_hit f (a ∷ b ∷ ys) x y ups up h = elim (hit_append (runs a b (f a)) (bands f (b ∷ ys)) x y h) [
  | inl here ↦ let i = runs_hit a b x y (f a) (ups a) here in record { at = a; band = first_band a b y ys up i.band; odd = i.odd }
  | inr there ↦ let r = bands_hit f (b ∷ ys) x y ups up.1 there in record { at = r.at; band = later_band a r.at y (b ∷ ys) up r.band; odd = r.odd }
]

abbrev First : ℤ → List ℤ → Type 0
First y [] = Unit {0}
First y (a ∷ ys) = a ≤ℤ y

hit_bands : (f : ℤ → List ℤ) (ys : List ℤ) (x y v : ℤ) → ((c : ℤ) → Up (f c)) → ((c : ℤ) → size (f c) % 2 ≡ 0) → Up ys → First y ys → In ys v → y <ℤ v → ((c : ℤ) → IsBand ys c y → upto x (f c) % 2 ≡ 1) → Hit (bands f ys) x y
hit_bands f [] x y v ups evens up first i high odd = absurd i
hit_bands f (a ∷ []) x y v ups evens up first (inl e) high odd = absurd (let l : a ≤ℤ y = first in omega (arith, ints, e))
hit_bands f (a ∷ []) x y v ups evens up first (inr i) high odd = absurd i
hit_bands f (a ∷ b ∷ ys) x y v ups evens up first i high odd =
    by_lt_z y b
    (λ less. let band : InBand a b y = record { from = first; to = less } in hit_left (runs a b (f a)) (bands f (b ∷ ys)) x y (hit_runs a b x y (f a) (ups a) (evens a) band (odd a (first_band a b y ys up band))))
    (λ most. hit_right (runs a b (f a)) (bands f (b ∷ ys)) x y (hit_bands f (b ∷ ys) x y v ups evens up.1 most (later i) high (λ c band. odd c (later_band a c y (b ∷ ys) up band))))
  where
    later : In (a ∷ b ∷ ys) v → In (b ∷ ys) v
    later (inl e) = absurd (let l : a ≤ℤ y = first in omega (arith, ints, e))
    later (inr j) = j

-- ---- the steps of a walk

less_not : (y v : ℤ) → int_lt y v ≡ not (int_le v y)
less_not y v = by_lt_z y v (λ less. rw (less_is y v less, above_is v y less) refl) (λ most. rw (more_is y v most, below_is v y most) refl)

abbrev crossing : Bool → Bool → Bool
crossing f t = (f && not t) || (t && not f)

crosses_is : (y : ℤ) (s : Step) → crosses y s ≡ crossing (int_le s.from.y y) (int_le s.to.y y)
crosses_is y s = rw (less_not y s.to.y, less_not y s.from.y) refl

-- both ends of each step are heights
record HasEnds (ys : List ℤ) (s : Step) : Type 0 where
  from : In ys s.from.y
  to : In ys s.to.y

abbrev AllEnds : List ℤ → List Step → Type 0
AllEnds ys [] = Unit {0}
AllEnds ys (s ∷ ss) = HasEnds ys s × AllEnds ys ss

crosses_same : (ys : List ℤ) (c y : ℤ) (s : Step) → IsBand ys c y → HasEnds ys s → crosses y s ≡ crosses c s
crosses_same ys c y s band ends = crosses_is y s ∙ (both (band.slot s.from.y ends.from) (band.slot s.to.y ends.to) ∙ sym (crosses_is c s))
  where
    both : int_le s.from.y y ≡ int_le s.from.y c → int_le s.to.y y ≡ int_le s.to.y c → crossing (int_le s.from.y y) (int_le s.to.y y) ≡ crossing (int_le s.from.y c) (int_le s.to.y c)
    both p q = rw (p, q) refl

crossed_same : (ys : List ℤ) (c x y : ℤ) (ss : List Step) → IsBand ys c y → AllEnds ys ss → tally (is_crossed x y) ss ≡ tally (is_crossed x c) ss
crossed_same ys c x y [] band ends = refl
crossed_same ys c x y (s ∷ ss) band ends = both (crosses_same ys c y s band ends.0) (crossed_same ys c x y ss band ends.1)
  where
    both : crosses y s ≡ crosses c s → tally (is_crossed x y) ss ≡ tally (is_crossed x c) ss → cond (crosses y s && int_le s.from.x x) 1 0 + tally (is_crossed x y) ss ≡ cond (crosses c s && int_le s.from.x x) 1 0 + tally (is_crossed x c) ss
    both p q = rw (p, q) refl

pub crossings_upto : (x c : ℤ) (ss : List Step) → upto x (crossings c ss) % 2 ≡ tally (is_crossed x c) ss % 2
crossings_upto x c ss =
    odd_parity (λ z. int_le z x) (map (λ (s : Step). s.from.x) (filter (crosses c) ss))
    ∙ ap (λ (n : ℕ). n % 2) (tally_mapped (λ (s : Step). s.from.x) (crosses c) (λ z. int_le z x) ss)

-- a closed walk crosses each row an even number of times
crossing_parity : (f t : Bool) → cond (crossing f t && true) 1 0 % 2 ≡ (cond f 1 0 + cond t 1 0) % 2
crossing_parity true true = refl
crossing_parity true false = refl
crossing_parity false true = refl
crossing_parity false false = refl

step_parity : (c : ℤ) (s : Step) → cond (crosses c s && true) 1 0 % 2 ≡ (cond (int_le s.from.y c) 1 0 + cond (int_le s.to.y c) 1 0) % 2
step_parity c s = ap (λ (b : Bool). cond (b && true) 1 0 % 2) (crosses_is c s) ∙ crossing_parity (int_le s.from.y c) (int_le s.to.y c)

walk_parity : (c : ℤ) (a p : Point) (bs : List Point) → tally (λ (s : Step). crosses c s && true) (steps_from a (bs ++ p ∷ [])) % 2 ≡ (cond (int_le a.y c) 1 0 + cond (int_le p.y c) 1 0) % 2
walk_parity c a p [] = let one = step_parity c (record { from = a; to = p }) in omega (arith, one)
walk_parity c a p (b ∷ bs) = let one = step_parity c (record { from = a; to = b }) in let rest = walk_parity c b p bs in omega (arith, one, rest)

even_crossings : (c : ℤ) (a : Point) (bs : List Point) → size (crossings c (steps_from a (bs ++ a ∷ []))) % 2 ≡ 0
even_crossings c a bs =
    let ss : List Step = steps_from a (bs ++ a ∷ []) in
    omega (arith, odd_parity (λ z. true) (map (λ (s : Step). s.from.x) (filter (crosses c) ss)), tally_mapped (λ (s : Step). s.from.x) (crosses c) (λ z. true) ss, walk_parity c a a bs)

-- ---- the heights of a walk

in_toggled : (h v : ℤ) (zs : List ℤ) → In zs v → In (with_height h zs) v
in_toggled h v [] i = absurd i
in_toggled h v (z ∷ zs) i =
    by_lt_z h z
    (λ less. rw (less_is h z less) (inr i))
    (λ most. by_lt_z z h
    (λ more. rw (more_is h z most, less_is z h more) (rest (λ j. in_toggled h v zs j) i))
    (λ even. rw (more_is h z most, more_is z h even) i))
  where
    rest : (In zs v → In (with_height h zs) v) → In (z ∷ zs) v → In (z ∷ with_height h zs) v
    rest later (inl e) = inl e
    rest later (inr j) = inr (later j)

in_new : (h : ℤ) (zs : List ℤ) → In (with_height h zs) h
in_new h [] = inl refl
in_new h (z ∷ zs) =
    by_lt_z h z
    (λ less. rw (less_is h z less) (inl refl))
    (λ most. by_lt_z z h
    (λ more. rw (more_is h z most, less_is z h more) (inr (in_new h zs)))
    (λ even. rw (more_is h z most, more_is z h even) (inl (let e : z ≡ h = omega (arith, ints) in e))))

pub in_heights : (ps : List Point) (p : Point) → In ps p → In (heights ps) p.y
in_heights [] p i = absurd i
in_heights (q ∷ ps) p (inl e) = subst (λ (r : Point). In (heights (q ∷ ps)) r.y) e (in_new q.y (heights ps))
in_heights (q ∷ ps) p (inr i) = in_toggled q.y p.y (heights ps) (in_heights ps p i)

all_ends : (ys : List ℤ) (a : Point) (bs : List Point) → ((p : Point) → In (a ∷ bs) p → In ys p.y) → AllEnds ys (steps_from a bs)
all_ends ys a [] h = tt
all_ends ys a (b ∷ bs) h = (record { from = h a (inl refl); to = h b (inr (inl refl)) }, all_ends ys b bs (λ p i. h p (inr i)))

pub heights_up : (ps : List Point) → Up (heights ps)
heights_up [] = tt
heights_up (p ∷ ps) = height_up p.y (heights ps) (heights_up ps)

-- ---- where a row is crossed, a height lies at it or below, and one above

record IsCrossedAt (ys : List ℤ) (y : ℤ) : Type 0 where
  low : ℤ
  high : ℤ
  low_listed : In ys low
  high_listed : In ys high
  below : low ≤ℤ y
  above : y <ℤ high

step_crosses : (ys : List ℤ) (y : ℤ) (s : Step) → HasEnds ys s → crosses y s ≡ true → IsCrossedAt ys y
step_crosses ys y s ends e =
    by_lt_z y s.from.y
    (λ high. by_lt_z y s.to.y
    (λ up. absurd (not_both (crosses y s) e (rw_none (above_is s.from.y y high) (above_is s.to.y y up))))
    (λ down. record { low = s.to.y; high = s.from.y; low_listed = ends.to; high_listed = ends.from; below = down; above = high }))
    (λ low. by_lt_z y s.to.y
    (λ up. record { low = s.from.y; high = s.to.y; low_listed = ends.from; high_listed = ends.to; below = low; above = up })
    (λ down. absurd (not_both (crosses y s) e (rw_both (below_is s.from.y y low) (below_is s.to.y y down)))))
  where
    rw_none : int_le s.from.y y ≡ false → int_le s.to.y y ≡ false → crosses y s ≡ false
    rw_none p q = crosses_is y s ∙ rw (p, q) refl

    rw_both : int_le s.from.y y ≡ true → int_le s.to.y y ≡ true → crosses y s ≡ false
    rw_both p q = crosses_is y s ∙ rw (p, q) refl

some_crosses : (ys : List ℤ) (x y : ℤ) (ss : List Step) → AllEnds ys ss → 0 < tally (is_crossed x y) ss → IsCrossedAt ys y
some_crosses ys x y [] ends h = absurd (omega (arith, h))
some_crosses ys x y (s ∷ ss) ends h = by (crosses y s) refl h (some_crosses ys x y ss ends.1)
  where
    by : (b : Bool) → crosses y s ≡ b → 0 < cond (b && int_le s.from.x x) 1 0 + tally (is_crossed x y) ss → (0 < tally (is_crossed x y) ss → IsCrossedAt ys y) → IsCrossedAt ys y
    by true e k rest = step_crosses ys y s ends.0 e
    by false e k rest = rest (omega (arith, k))

first_below : (ys : List ℤ) (low y : ℤ) → Up ys → In ys low → low ≤ℤ y → First y ys
first_below [] low y up i h = tt
first_below (a ∷ ys) low y up (inl e) h = omega (arith, ints, e)
first_below (a ∷ ys) low y up (inr i) h = let l : a <ℤ low = not_below a low ys up i in omega (arith, ints)

-- ---- all together

abbrev row_of : Point → List Point → ℤ → List ℤ
row_of a bs y = crossings y (steps_from a (bs ++ a ∷ []))

ends_of : (a : Point) (bs : List Point) → AllEnds (heights (a ∷ (bs ++ a ∷ []))) (steps_from a (bs ++ a ∷ []))
ends_of a bs = all_ends (heights (a ∷ (bs ++ a ∷ []))) a (bs ++ a ∷ []) (in_heights (a ∷ (bs ++ a ∷ [])))

covered_inside : (a : Point) (bs : List Point) (x y : ℤ) → Hit (boundary_rectangles (a ∷ bs)) x y → IsInside (a ∷ bs) x y
covered_inside a bs x y h =
    let ss : List Step = steps_from a (bs ++ a ∷ []) in
    let ys : List ℤ = heights (a ∷ (bs ++ a ∷ [])) in
    let r = bands_hit (row_of a bs) ys x y (λ c. odd_up (map (λ (s : Step). s.from.x) (filter (crosses c) ss))) (heights_up (a ∷ (bs ++ a ∷ []))) h in
    ap (λ (n : ℕ). n % 2) (sym (tally_is (is_crossed x y) ss) ∙ crossed_same ys r.at x y ss r.band (ends_of a bs)) ∙ (sym (crossings_upto x r.at ss) ∙ r.odd)

inside_covered : (a : Point) (bs : List Point) (x y : ℤ) → IsInside (a ∷ bs) x y → Hit (boundary_rectangles (a ∷ bs)) x y
inside_covered a bs x y inside =
    let ss : List Step = steps_from a (bs ++ a ∷ []) in
    let ys : List ℤ = heights (a ∷ (bs ++ a ∷ [])) in
    let odd : tally (is_crossed x y) ss % 2 ≡ 1 = ap (λ (n : ℕ). n % 2) (tally_is (is_crossed x y) ss) ∙ inside in
    let at = some_crosses ys x y ss (ends_of a bs) (omega (arith, odd)) in
    let up : Up ys = heights_up (a ∷ (bs ++ a ∷ [])) in
    hit_bands (row_of a bs) ys x y at.high (λ c. odd_up (map (λ (s : Step). s.from.x) (filter (crosses c) ss))) (λ c. even_crossings c a bs) up (first_below ys at.low y up at.low_listed at.below) at.high_listed at.above
    (λ c band. crossings_upto x c ss ∙ (ap (λ (n : ℕ). n % 2) (sym (crossed_same ys c x y ss band (ends_of a bs))) ∙ odd))

pub cells_are : (points : List Point) (x y : ℤ) → Covers (boundary_rectangles points) x y ↔ IsInside points x y
cells_are [] x y = (λ c. absurd (contains_none c.rect c.listed), λ i. absurd (omega (arith, i)))
cells_are (a ∷ bs) x y =
    (λ c. covered_inside a bs x y (covers_hit (boundary_rectangles (a ∷ bs)) x y c), λ i. hit_covers (boundary_rectangles (a ∷ bs)) x y (inside_covered a bs x y i))
