-- What lies between the sorted ends of the sides of a walk is what lies inside it.
use Rattle.std.proofs.Common.{ℕ, suc, ◌≡◌, ◌+◌, ◌*◌, ◌%◌, ◌<◌, ◌≤◌, Bool, true, false, cond, ◌&&◌, if◌then◌else◌, ℤ, ◌≤ℤ◌, ◌<ℤ◌, int_le, List, [], ◌∷◌, ◌++◌, map, get_or, IsPermutation, refl, sym, subst, ap, ◌∙◌, arith, inl, inr, append_assoc, append-nil}
use Rattle.std.specs.List.{filter}
use Rattle.std.specs.List.Sorted.{IsSorted}
use Rattle.std.specs.Ordering.{int_cmp, ordering_then, int_eq, is_lt}
use Rattle.std.specs.declared.cmp.Ordering.{Ordering}
use Rattle.std.proofs.lemmas.Int.{ints, by_lt_z}
use Rattle.std.proofs.lemmas.Bool.{cases_eq}
use Rattle.std.proofs.lemmas.List.Sorted.{length_permutation}
use Rattle.gds_area.specs.declared.point.Point.{Point}
use Rattle.gds_area.specs.declared.even_odd.SideEnd.{SideEnd}
use Rattle.gds_area.specs.Points.{Step, steps_from}
use Rattle.gds_area.specs.EvenOdd.{crosses, odd_ones, crossings, with_height, heights, runs, bands, inside_walk}
use Rattle.gds_area.specs.Sweep.{ends_of, swept, swept_all}
use Rattle.gds_area.proofs.Ascending.{less_is, more_is, below_is, above_is, same_is, is_same, is_other, not_both, tally, tally_moved, times, tally_mapped, like, Above, Up, Level, once, same_lists, odd_same, odd_again, height_up, height_has, Has}

abbrev pub end_cmp : SideEnd → SideEnd → Ordering
end_cmp a b = ordering_then (int_cmp a.y b.y) (int_cmp a.x b.x)

-- ---- the ends in order of their heights

abbrev Climbs : ℤ → List SideEnd → Type 0
Climbs low [] = Unit {0}
Climbs low (e ∷ es) = (low ≤ℤ e.y) × Climbs e.y es

in_order : (a b : SideEnd) → is_lt (end_cmp b a) ≡ false → a.y ≤ℤ b.y
in_order a b e = by_lt_z b.y a.y (λ less. absurd (not_both (is_lt (end_cmp b a)) (first less) e)) (λ most. most)
  where
    first : b.y <ℤ a.y → is_lt (end_cmp b a) ≡ true
    first less = rw (less_is b.y a.y less) refl

tail_sorted : (x : SideEnd) (xs : List SideEnd) → IsSorted end_cmp (x ∷ xs) → IsSorted end_cmp xs
tail_sorted x xs up k d low lt = let e : suc k + 1 ≡ suc (k + 1) = omega arith in subst (λ j. is_lt (end_cmp (get_or (x ∷ xs) j d) (get_or xs k d)) ≡ false) e (up (suc k) d (omega arith) (omega arith))

climbs : (x : SideEnd) (xs : List SideEnd) → IsSorted end_cmp (x ∷ xs) → Climbs x.y xs
climbs x [] up = tt
climbs x (y ∷ ys) up = (in_order x y (up 0 x (omega arith) (omega arith)), climbs y ys (tail_sorted x (y ∷ ys) up))

climbs_lower : (low lower : ℤ) (es : List SideEnd) → lower ≤ℤ low → Climbs low es → Climbs lower es
climbs_lower low lower [] h c = tt
climbs_lower low lower (e ∷ es) h c = let l = c.0 in (omega (arith, ints), c.1)

-- ---- the heights of the ends above one

abbrev above : ℤ → List SideEnd → List ℤ
above row [] = []
above row (e ∷ es) = if int_eq e.y row then above row es else e.y ∷ above e.y es

higher : (row : ℤ) (e : SideEnd) → row ≤ℤ e.y → int_eq e.y row ≡ false → row <ℤ e.y
higher row e most other = let o = is_other e.y row other in by_lt_z row e.y (λ less. less) (λ even. absurd (o (omega (arith, ints))))

above_ascends : (row : ℤ) (es : List SideEnd) → Climbs row es → Above row (above row es)
above_ascends row [] c = tt
above_ascends row (e ∷ es) c = by (int_eq e.y row) refl (above_ascends row es (climbs_lower e.y row es c.0 c.1)) (above_ascends e.y es c.1)
  where
    by : (b : Bool) → int_eq e.y row ≡ b → Above row (above row es) → Above e.y (above e.y es) → Above row (if b then above row es else e.y ∷ above e.y es)
    by true q same next = same
    by false q same next = (higher row e c.0 q, next)

above_levels : (low : ℤ) (zs : List ℤ) → Above low zs → Level low zs
above_levels low [] h = tt
above_levels low (z ∷ zs) h = let l : low <ℤ z = h.0 in (omega (arith, ints), above_levels z zs h.1)

-- ---- the crossings of a row, from the ends up to it

abbrev upto : ℤ → List SideEnd → List ℤ
upto y es = map (λ (e : SideEnd). e.x) (filter (λ (e : SideEnd). int_le e.y y) es)

none_upto : (low y : ℤ) (es : List SideEnd) → Climbs low es → y <ℤ low → upto y es ≡ []
none_upto low y [] c h = refl
none_upto low y (e ∷ es) c h = let l : low ≤ℤ e.y = c.0 in rw (above_is e.y y (omega (arith, ints))) (none_upto e.y y es c.1 (omega (arith, ints)))

progress : (y : ℤ) (e : SideEnd) (es : List SideEnd) → e.y ≤ℤ y → upto y (e ∷ es) ≡ e.x ∷ upto y es
progress y e es h = rw (below_is e.y y h) refl

bands_same : (f g : ℤ → List ℤ) (low : ℤ) (ys : List ℤ) → ((y : ℤ) → low ≤ℤ y → f y ≡ g y) → Level low ys → bands f ys ≡ bands g ys
bands_same f g low [] e l = refl
bands_same f g low (y ∷ []) e l = refl
bands_same f g low (y ∷ z ∷ more) e l =
    let up : low ≤ℤ y = l.0 in
    both (e y l.0) (bands_same f g y (z ∷ more) (λ x h. e x (omega (arith, ints))) l.1)
  where
    both : f y ≡ g y → bands f (z ∷ more) ≡ bands g (z ∷ more) → runs y z (f y) ++ bands f (z ∷ more) ≡ runs y z (g y) ++ bands g (z ∷ more)
    both p q = rw (p, q) refl

abbrev row_of : List ℤ → List SideEnd → ℤ → List ℤ
row_of xs es y = odd_ones (xs ++ upto y es)

swept_is : (row : SideEnd) (xs : List ℤ) (es : List SideEnd) → Climbs row.y es → swept row xs es ≡ bands (row_of xs es) (row.y ∷ above row.y es)
swept_is row xs [] c = refl
swept_is row xs (e ∷ es) c =
    by (int_eq e.y row.y) refl (swept_is row (xs ++ e.x ∷ []) es (climbs_lower e.y row.y es c.0 c.1)) (swept_is e (odd_ones xs ++ e.x ∷ []) es c.1)
  where
    grown : (y : ℤ) → e.y ≤ℤ y → row_of (xs ++ e.x ∷ []) es y ≡ row_of xs (e ∷ es) y
    grown y h = ap odd_ones (append_assoc xs (e.x ∷ []) (upto y es) ∙ ap (λ (t : List ℤ). xs ++ t) (sym (progress y e es h)))

    again : (y : ℤ) → e.y ≤ℤ y → row_of (odd_ones xs ++ e.x ∷ []) es y ≡ row_of xs (e ∷ es) y
    again y h =
        ap odd_ones (append_assoc (odd_ones xs) (e.x ∷ []) (upto y es))
        ∙ (odd_again xs (e.x ∷ upto y es) ∙ ap (λ (t : List ℤ). odd_ones (xs ++ t)) (sym (progress y e es h)))

    so_far : row.y <ℤ e.y → odd_ones xs ≡ row_of xs (e ∷ es) row.y
    so_far less = ap odd_ones (sym (append-nil xs) ∙ ap (λ (t : List ℤ). xs ++ t) (sym (none_upto e.y row.y (e ∷ es) (omega (arith, ints), c.1) less)))

    next : row.y <ℤ e.y → odd_ones xs ≡ row_of xs (e ∷ es) row.y → swept e (odd_ones xs ++ e.x ∷ []) es ≡ bands (row_of xs (e ∷ es)) (e.y ∷ above e.y es) → runs row.y e.y (odd_ones xs) ++ swept e (odd_ones xs ++ e.x ∷ []) es ≡ bands (row_of xs (e ∷ es)) (row.y ∷ e.y ∷ above e.y es)
    next less p q = rw (sym p, q) refl

    by : (b : Bool) → int_eq e.y row.y ≡ b → swept row (xs ++ e.x ∷ []) es ≡ bands (row_of (xs ++ e.x ∷ []) es) (row.y ∷ above row.y es) → swept e (odd_ones xs ++ e.x ∷ []) es ≡ bands (row_of (odd_ones xs ++ e.x ∷ []) es) (e.y ∷ above e.y es) → (if b then swept row (xs ++ e.x ∷ []) es else runs row.y e.y (odd_ones xs) ++ swept e (odd_ones xs ++ e.x ∷ []) es) ≡ bands (row_of xs (e ∷ es)) (row.y ∷ (if b then above row.y es else e.y ∷ above e.y es))
    by true q same other =
        let even : e.y ≡ row.y = is_same e.y row.y q in
        same ∙ bands_same (row_of (xs ++ e.x ∷ []) es) (row_of xs (e ∷ es)) row.y (row.y ∷ above row.y es) (λ y h. grown y (omega (arith, ints))) (omega (arith, ints), above_levels row.y (above row.y es) (above_ascends row.y es (climbs_lower e.y row.y es c.0 c.1)))
    by false q same other =
        let less : row.y <ℤ e.y = higher row.y e c.0 q in
        next less (so_far less) (other ∙ bands_same (row_of (odd_ones xs ++ e.x ∷ []) es) (row_of xs (e ∷ es)) e.y (e.y ∷ above e.y es) again (omega (arith, ints), above_levels e.y (above e.y es) (above_ascends e.y es c.1)))

-- ---- the ends of the steps of a walk

-- one end of two counts where the step crosses the row, else none or both
flips : (y : ℤ) (s : Step) (b : Bool) → (cond (int_le s.from.y y && b) 1 0 + cond (int_le s.to.y y && b) 1 0) % 2 ≡ cond (crosses y s && b) 1 0 % 2
flips y s b =
    by_lt_z y s.from.y
    (λ high. by_lt_z y s.to.y
    (λ up. rw (above_is s.from.y y high, above_is s.to.y y up) refl)
    (λ down. rw (above_is s.from.y y high, below_is s.to.y y down, less_is y s.from.y high) (downward b)))
    (λ low. by_lt_z y s.to.y
    (λ up. rw (below_is s.from.y y low, above_is s.to.y y up, less_is y s.to.y up) (upward b))
    (λ down. rw (below_is s.from.y y low, below_is s.to.y y down, more_is y s.to.y down, more_is y s.from.y low) (both b)))
  where
    downward : (b : Bool) → (0 + cond b 1 0) % 2 ≡ cond b 1 0 % 2
    downward true = refl
    downward false = refl

    upward : (b : Bool) → (cond b 1 0 + 0) % 2 ≡ cond b 1 0 % 2
    upward true = refl
    upward false = refl

    both : (b : Bool) → (cond b 1 0 + cond b 1 0) % 2 ≡ 0
    both true = refl
    both false = refl

ends_parity : (x y : ℤ) (ss : List Step) → tally (λ (e : SideEnd). int_le e.y y && int_eq x e.x) (ends_of ss) % 2 ≡ tally (λ (s : Step). crosses y s && int_eq x s.from.x) ss % 2
ends_parity x y [] = refl
ends_parity x y (s ∷ ss) = let here = flips y s (int_eq x s.from.x) in let rest = ends_parity x y ss in omega (arith, here, rest)

-- where an odd number of steps crosses a row, an odd number of ends stands up to it
crossings_are : (ss : List Step) (sorted : List SideEnd) → IsPermutation (ends_of ss) sorted → (y : ℤ) → row_of [] sorted y ≡ crossings y ss
crossings_are ss sorted moved y =
    odd_same (upto y sorted) (map (λ (s : Step). s.from.x) (filter (crosses y) ss)) (λ x. omega (
      arith,
      tally_mapped (λ (e : SideEnd). e.x) (λ (e : SideEnd). int_le e.y y) (int_eq x) sorted,
      tally_mapped (λ (s : Step). s.from.x) (crosses y) (int_eq x) ss,
      tally_moved (λ (e : SideEnd). int_le e.y y && int_eq x e.x) (ends_of ss) sorted moved,
      ends_parity x y ss,
    ))

-- ---- their heights are those of the points

abbrev at_height : ℤ → SideEnd → Bool
at_height y e = int_eq y e.y

abbrev point_at_height : ℤ → Point → Bool
point_at_height y p = int_eq y p.y

record Counted (y : ℤ) (a b : Point) (bs : List Point) : Type 0 where
  all : tally (point_at_height y) (a ∷ b ∷ bs) ≤ tally (at_height y) (ends_of (steps_from a (b ∷ bs)))
  twice : tally (at_height y) (ends_of (steps_from a (b ∷ bs))) + cond (int_eq y a.y) 1 0 ≤ 2 * tally (point_at_height y) (a ∷ b ∷ bs)

counted : (y : ℤ) (a b : Point) (bs : List Point) → Counted y a b bs
counted y a b [] = record { all = omega arith; twice = omega arith }
counted y a b (c ∷ cs) = let rest = counted y b c cs in record { all = omega (arith, rest.all); twice = omega (arith, rest.twice) }

-- a list of numbers has those that a test counts
record Shows (n m : ℕ) : Type 0 where
  few : n ≤ m
  some : 0 < m → 0 < n

above_shows : (y row : ℤ) (es : List SideEnd) → Shows (times y (row ∷ above row es)) (cond (int_eq y row) 1 0 + tally (at_height y) es)
above_shows y row [] = record { few = omega arith; some = λ h. omega (arith, h) }
above_shows y row (e ∷ es) = by (int_eq e.y row) refl (above_shows y row es) (above_shows y e.y es)
  where
    by : (b : Bool) → int_eq e.y row ≡ b → Shows (times y (row ∷ above row es)) (cond (int_eq y row) 1 0 + tally (at_height y) es) → Shows (times y (e.y ∷ above e.y es)) (cond (int_eq y e.y) 1 0 + tally (at_height y) es) → Shows (times y (row ∷ (if b then above row es else e.y ∷ above e.y es))) (cond (int_eq y row) 1 0 + (cond (int_eq y e.y) 1 0 + tally (at_height y) es))
    by true q same next =
        let l = like (int_eq y) e.y row (is_same e.y row q) in
        record { few = omega (arith, same.few); some = λ h. same.some (omega (arith, h, l)) }
    by false q same next = record { few = omega (arith, next.few); some = λ h. some h }
      where
        some : 0 < cond (int_eq y row) 1 0 + (cond (int_eq y e.y) 1 0 + tally (at_height y) es) → 0 < cond (int_eq y row) 1 0 + (cond (int_eq y e.y) 1 0 + times y (above e.y es))
        some h = elim (cases_eq (cond (int_eq y row) 1 0) 0) [
          | inl none ↦ let more = next.some (omega (arith, h, none)) in omega (arith, more)
          | inr here ↦ omega (arith, here)
        ]

heights_up : (ps : List Point) → Up (heights ps)
heights_up [] = tt
heights_up (p ∷ ps) = height_up p.y (heights ps) (heights_up ps)

heights_show : (y : ℤ) (ps : List Point) → Shows (times y (heights ps)) (tally (point_at_height y) ps)
heights_show y [] = record { few = omega arith; some = λ h. omega (arith, h) }
heights_show y (p ∷ ps) =
    let rest = heights_show y ps in
    let has = height_has y p.y (heights ps) in
    record { few = omega (arith, has.no_more, rest.few); some = λ h. some rest has h }
  where
    some : Shows (times y (heights ps)) (tally (point_at_height y) ps) → Has y p.y (heights ps) → 0 < cond (int_eq y p.y) 1 0 + tally (point_at_height y) ps → 0 < times y (with_height p.y (heights ps))
    some rest has h = elim (cases_eq (cond (int_eq y p.y) 1 0) 0) [
      | inl none ↦ let more = rest.some (omega (arith, h, none)) in omega (arith, more, has.old)
      | inr here ↦ omega (arith, here, has.new)
    ]

-- lists that show the same are the same
shown : (xs ys : List ℤ) (m n : ℤ → ℕ) → Up xs → Up ys → ((y : ℤ) → Shows (times y xs) (m y)) → ((y : ℤ) → Shows (times y ys) (n y)) → ((y : ℤ) → 0 < m y → 0 < n y) → ((y : ℤ) → 0 < n y → 0 < m y) → xs ≡ ys
shown xs ys m n hx hy sx sy there back = same_lists xs ys hx hy one
  where
    one : (y : ℤ) → times y xs ≡ times y ys
    one y = elim (cases_eq (m y) 0) [
      | inl none ↦ elim (cases_eq (n y) 0) [
        | inl nothing ↦ let a = sx y in let b = sy y in omega (arith, a.few, b.few, none, nothing)
        | inr some ↦ let h = back y (omega (arith, some)) in absurd (omega (arith, h, none))
      ]
      | inr some ↦
          let h : 0 < m y = omega (arith, some) in
          let a = (sx y).some h in
          let b = (sy y).some (there y h) in
          omega (arith, a, b, once xs y hx, once ys y hy)
    ]

heights_are : (a b : Point) (bs : List Point) (e : SideEnd) (es : List SideEnd) → IsPermutation (ends_of (steps_from a (b ∷ bs))) (e ∷ es) → Climbs e.y es → e.y ∷ above e.y es ≡ heights (a ∷ b ∷ bs)
heights_are a b bs e es moved c =
    shown (e.y ∷ above e.y es) (heights (a ∷ b ∷ bs)) (λ y. tally (at_height y) (e ∷ es)) (λ y. tally (point_at_height y) (a ∷ b ∷ bs))
    (above_ascends e.y es c) (heights_up (a ∷ b ∷ bs)) (λ y. above_shows y e.y es) (λ y. heights_show y (a ∷ b ∷ bs))
    (λ y h. let n = counted y a b bs in omega (arith, h, n.twice, tally_moved (at_height y) (ends_of (steps_from a (b ∷ bs))) (e ∷ es) moved))
    (λ y h. let n = counted y a b bs in omega (arith, h, n.all, tally_moved (at_height y) (ends_of (steps_from a (b ∷ bs))) (e ∷ es) moved))

-- ---- a walk

bands_all : (f g : ℤ → List ℤ) (ys : List ℤ) → ((y : ℤ) → f y ≡ g y) → bands f ys ≡ bands g ys
bands_all f g [] e = refl
bands_all f g (y ∷ []) e = refl
bands_all f g (y ∷ z ∷ more) e = both (e y) (bands_all f g (z ∷ more) e)
  where
    both : f y ≡ g y → bands f (z ∷ more) ≡ bands g (z ∷ more) → runs y z (f y) ++ bands f (z ∷ more) ≡ runs y z (g y) ++ bands g (z ∷ more)
    both p q = rw (p, q) refl

first_above : (e : SideEnd) (es : List SideEnd) → above e.y (e ∷ es) ≡ above e.y es
first_above e es = rw (same_is e.y e.y refl) refl

pub walk_swept : (a : Point) (bs : List Point) (sorted : List SideEnd) → IsPermutation (ends_of (steps_from a bs)) sorted → IsSorted end_cmp sorted → swept_all sorted ≡ inside_walk (a ∷ bs)
walk_swept a [] [] moved up = refl
walk_swept a [] (e ∷ es) moved up = absurd (omega (arith, length_permutation [] (e ∷ es) moved))
walk_swept a (b ∷ bs) [] moved up = absurd (omega (arith, length_permutation (ends_of (steps_from a (b ∷ bs))) [] moved))
walk_swept a (b ∷ bs) (e ∷ es) moved up =
    let c : Climbs e.y es = climbs e es up in
    let ss : List Step = steps_from a (b ∷ bs) in
    swept_is e [] (e ∷ es) (omega (arith, ints), c)
    ∙ (ap (λ (t : List ℤ). bands (row_of [] (e ∷ es)) (e.y ∷ t)) (first_above e es)
    ∙ (bands_all (row_of [] (e ∷ es)) (λ y. crossings y ss) (e.y ∷ above e.y es) (crossings_are ss (e ∷ es) moved)
    ∙ ap (bands (λ y. crossings y ss)) (heights_are a b bs e es moved c)))
