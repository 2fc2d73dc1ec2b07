-- The rows of a stretch of columns, from those of its halves.
use Rattle.std.proofs.Common.{◌≡◌, ◌↔◌, ℤ, pos, ◌≤ℤ◌, ◌<ℤ◌, ◌+ℤ◌, int_le, int_lt, Bool, true, false, not, ◌==◌, length, map, ◌<◌, ◌-ℤ◌, unsigned_abs, IfOk, Result, Ok, Err, List, [], ◌∷◌, inl, inr, ◌⊎◌, arith, refl, sym, subst, ap, ◌∙◌}
use Rattle.std.specs.Bool.{Decides}
use Rattle.std.specs.List.{All, Contains, filter}
use Rattle.std.proofs.lemmas.List.Elements.{All-contains, All-filter}
use Rattle.std.proofs.lemmas.Bool.Decides.{Decides-and}
use Rattle.std.proofs.lemmas.Int.{ints, by_lt_z}
use Rattle.std.proofs.lemmas.Bool.{and_parts, cases_Bool, eqb-true}
use Rattle.cell_num.proofs.In.{in_map, contains_map}
use Rattle.cell_num.proofs.Lists.{all_map, contains_here}
use Rattle.cell_num.specs.declared.list.NoMemory.{NoMemory}
use Rattle.box_geom.proofs.Filters.{contains_filter, in_filter}
use Rattle.box_geom.specs.Rectangle.{Rectangle, Holds, Covers}
use Rattle.box_geom.specs.Regions.{Bare, CoversNone, IsBlock, SameCells}
use Rattle.bare_cells.specs.Rows.{HasRow, is_wide, does_meet, is_part, StandsIn, AreRowsOf, as_rows, IsClosed, IsShut, AreRows, AreHalves, AreAlike, AreJoined}
use Rattle.box_geom.specs.declared.ranges.XRange.{XRange}
use Rattle.bare_cells.specs.declared.rows.Rows.{Rows}
use Rattle.bare_cells.proofs.Cells.{cover_none, covers_or_not}

abbrev range : ℤ → ℤ → XRange
range low high = record { x1 = low; x2 = high }

-- ---- tests
pub lt_decides : (a b : ℤ) → Decides (int_lt a b) (a <ℤ b)
lt_decides a b = (λ e. omega (arith, ints), λ h. grind (arith, ints))

pub le_decides : (a b : ℤ) → Decides (int_le a b) (a ≤ℤ b)
le_decides a b = (λ e. omega (arith, ints), λ h. grind (arith, ints))

wide_decides : (low high : ℤ) (r : Rectangle) → Decides (is_wide (range low high) r) ((r.x1 ≤ℤ low) × (high ≤ℤ r.x2))
wide_decides low high r = Decides-and (int_le r.x1 low) (int_le high r.x2) (le_decides r.x1 low) (le_decides high r.x2)

meet_decides : (low high : ℤ) (r : Rectangle) → Decides (does_meet (range low high) r) ((r.x1 <ℤ high) × (low <ℤ r.x2))
meet_decides low high r = Decides-and (int_lt r.x1 high) (int_lt low r.x2) (lt_decides r.x1 high) (lt_decides low r.x2)

-- ---- sets of which one is empty
pub empty_either : (one other : List Rectangle) → CoversNone one → (x y : ℤ) → Covers other x y ↔ (Covers one x y ⊎ Covers other x y)
empty_either one other none x y = (λ c. inr c, λ c. elim c [ inl d ↦ absurd (none x y d) | inr d ↦ d ])

pub either_empty : (one other : List Rectangle) → CoversNone other → (x y : ℤ) → Covers one x y ↔ (Covers one x y ⊎ Covers other x y)
either_empty one other none x y = (λ c. inl c, λ c. elim c [ inl d ↦ d | inr d ↦ absurd (none x y d) ])

pub empty_both : (one other : List Rectangle) → CoversNone one → (x y : ℤ) → Covers one x y ↔ (Covers one x y × Covers other x y)
empty_both one other none x y = (λ c. absurd (none x y c), λ c. c.0)

pub both_empty : (one other : List Rectangle) → CoversNone other → (x y : ℤ) → Covers other x y ↔ (Covers one x y × Covers other x y)
both_empty one other none x y = (λ c. absurd (none x y c), λ c. c.1)

pub empty_minus : (one other : List Rectangle) → CoversNone one → (x y : ℤ) → Covers one x y ↔ (Covers one x y × (Covers other x y → ⊥))
empty_minus one other none x y = (λ c. absurd (none x y c), λ c. c.0)

pub minus_empty : (one other : List Rectangle) → CoversNone other → (x y : ℤ) → Covers one x y ↔ (Covers one x y × (Covers other x y → ⊥))
minus_empty one other none x y = (λ c. (c, none x y), λ c. c.0)

-- where there are no rectangles
empty_list : (ps : List Rectangle) → (length ps == 0) ≡ true → ps ≡ []
empty_list [] e = refl
empty_list (p ∷ ps) e = absurd (omega (arith, eqb-true (length (p ∷ ps)) 0 e))

pub none_same : (blocks none : List Rectangle) → (length blocks == 0) ≡ true → CoversNone none → SameCells none blocks
none_same [] none e empty x y = (λ c. absurd (empty x y c), λ c. absurd (cover_none x y c))
none_same (b ∷ bs) none e empty x y = absurd (omega (arith, eqb-true (length (b ∷ bs)) 0 e))

-- ---- rows as cells of row 0
pub kept_blocks : (p : Rectangle → Bool) (bs : List Rectangle) → All IsBlock bs → All IsBlock (filter p bs)
kept_blocks p bs all = All-filter p IsBlock bs all

pub block_rows : (r : Rectangle) → IsBlock r → IsBlock (as_rows r)
block_rows r b =
    let high = b.proper.high in
    let low = b.low in
    let top = b.top in
    record { proper = record { wide = high; high = omega (arith, ints) }; left = low; right = top; low = omega (arith, ints); top = omega (arith, ints) }

standing : (rs : List Rectangle) (y : ℤ) → HasRow (map as_rows rs) y ↔ StandsIn rs y
standing rs y = (
  λ c.
      let i = in_map as_rows rs c.rect c.listed in
      let h : Holds (as_rows i.of) y (pos 0) = subst (λ r. Holds r y (pos 0)) (sym i.is) c.holds in
      record { rect = i.of; listed = i.listed; low = h.left; high = h.right },
  λ s. record { rect = as_rows s.rect; listed = contains_map as_rows rs s.rect s.listed; holds = record { left = s.low; right = s.high; low = omega (arith, ints); high = omega (arith, ints) } },
)

flat_rows : (rs : List Rectangle) (x y : ℤ) → Covers (map as_rows rs) x y → y ≡ pos 0
flat_rows rs x y c =
    let i = in_map as_rows rs c.rect c.listed in
    let h : Holds (as_rows i.of) x y = subst (λ r. Holds r x y) (sym i.is) c.holds in
    let low = h.low in
    let high = h.high in
    omega (arith, ints)

pub rows_are : (rs made rows : List Rectangle) → made ≡ map as_rows rs → SameCells rows made → AreRowsOf rs rows
rows_are rs made rows e cells = record {
  are = λ y. (λ c. (standing rs y).0 ((same y (pos 0)).0 c), λ s. (same y (pos 0)).1 ((standing rs y).1 s));
  flat = λ x y c. flat_rows rs x y ((same x y).0 c);
}
  where
    same : SameCells rows (map as_rows rs)
    same = subst (SameCells rows) e cells

pub rows_blocks : (bs made : List Rectangle) → made ≡ map as_rows bs → All IsBlock bs → All IsBlock made
rows_blocks bs made e all = subst (All IsBlock) (sym e) (all_map IsBlock IsBlock as_rows bs block_rows all)

pub part_blocks : (columns : XRange) (bs made : List Rectangle) → made ≡ filter (is_part columns) bs → All IsBlock bs → All IsBlock made
part_blocks columns bs made e all = subst (All IsBlock) (sym e) (kept_blocks (is_part columns) bs all)

-- ---- what covers a cell is wide, or a part

wide_covers : (low high : ℤ) (rs : List Rectangle) (x y : ℤ) → low ≤ℤ x → x <ℤ high → StandsIn (filter (is_wide (range low high)) rs) y → Covers rs x y
wide_covers low high rs x y a b s =
    let k = in_filter (is_wide (range low high)) rs s.rect s.listed in
    let (p, q) = (wide_decides low high s.rect).0 k.passes in
    record { rect = s.rect; listed = k.listed; holds = record { left = omega (arith, ints); right = omega (arith, ints); low = s.low; high = s.high } }

part_covers : (low high : ℤ) (rs : List Rectangle) (x y : ℤ) → Covers (filter (is_part (range low high)) rs) x y → Covers rs x y
part_covers low high rs x y c = record { rect = c.rect; listed = (in_filter (is_part (range low high)) rs c.rect c.listed).listed; holds = c.holds }

not_wide : (low high : ℤ) (r : Rectangle) (x y : ℤ) → low ≤ℤ x → x <ℤ high → Holds r x y → is_wide (range low high) r ≡ false → is_part (range low high) r ≡ true
not_wide low high r x y a b h e =
    let left = h.left in
    let right = h.right in
    let meets : does_meet (range low high) r ≡ true = (meet_decides low high r).1 (omega (arith, ints), omega (arith, ints)) in
    rw (meets, e) refl

covered_by : (low high : ℤ) (rs : List Rectangle) (x y : ℤ) → low ≤ℤ x → x <ℤ high → Covers rs x y → StandsIn (filter (is_wide (range low high)) rs) y ⊎ Covers (filter (is_part (range low high)) rs) x y
covered_by low high rs x y a b c = elim (cases_Bool (is_wide (range low high) c.rect)) [
  | inl wide ↦ inl (record { rect = c.rect; listed = contains_filter (is_wide (range low high)) rs c.rect c.listed wide; low = c.holds.low; high = c.holds.high })
  | inr other ↦ inr (record { rect = c.rect; listed = contains_filter (is_part (range low high)) rs c.rect c.listed (not_wide low high c.rect x y a b c.holds other); holds = c.holds })
]

-- ---- a stretch in which the second list has no parts

pub alike_rows : (low high : ℤ) (first second filled partly closed : List Rectangle) (rows : Rows) → low <ℤ high → All IsBlock first → filter (is_part (range low high)) second ≡ [] → AreRowsOf (filter (is_wide (range low high)) first) filled → AreRowsOf (filter (is_part (range low high)) first) partly → AreRowsOf (filter (is_wide (range low high)) second) closed → AreAlike filled partly closed rows → AreRows (range low high) first second rows
alike_rows low high first second filled partly closed rows wide blocks alone fill part close are = record {
  bare = λ y. (λ there shut. bare_not_closed y ((are.bare y (pos 0)).0 there) shut, bare_there y);
  shut = λ y. (λ there. shut_all y (subst (λ rs. HasRow rs y) are.shut there), λ all. subst (λ rs. HasRow rs y) (sym are.shut) (all_shut y all));
  flat = λ x y c. elim ((are.bare x y).0 c).0 [ inl d ↦ fill.flat x y d | inr d ↦ part.flat x y d ];
}
  where
    least : low ≤ℤ low
    least = omega (arith, ints)

    by_wide : (x y : ℤ) → low ≤ℤ x → x <ℤ high → Covers second x y → StandsIn (filter (is_wide (range low high)) second) y
    by_wide x y a b c = elim (covered_by low high second x y a b c) [
      | inl s ↦ s
      | inr p ↦ absurd (cover_none x y (subst (λ ps. Covers ps x y) alone p))
    ]

    shut_all : (y : ℤ) → HasRow closed y → IsShut (range low high) second y
    shut_all y there x a b = wide_covers low high second x y a b ((close.are y).0 there)

    all_shut : (y : ℤ) → IsShut (range low high) second y → HasRow closed y
    all_shut y all = (close.are y).1 (by_wide low y least wide (all low least wide))

    -- a cell of the columns that the first list covers is bare where the row is not closed
    bare_at : (y : ℤ) → (HasRow closed y → ⊥) → (x : ℤ) → low ≤ℤ x → x <ℤ high → Covers first x y → Bare first second x y
    bare_at y gap x a b c = (c, λ d. gap ((close.are y).1 (by_wide x y a b d)))

    -- a rectangle that has cells in some of the columns
    in_part : (y : ℤ) → (HasRow closed y → ⊥) → IsClosed (range low high) first second y → StandsIn (filter (is_part (range low high)) first) y → ⊥
    in_part y gap shut s =
        let k = in_filter (is_part (range low high)) first s.rect s.listed in
        let (meets, other) = and_parts (does_meet (range low high) s.rect) (not (is_wide (range low high) s.rect)) k.passes in
        let (left, right) = (meet_decides low high s.rect).0 meets in
        let proper = (All-contains IsBlock first s.rect blocks k.listed).proper.wide in
        by_lt_z low s.rect.x1
        (λ less. let here : low ≤ℤ s.rect.x1 = omega (arith, ints) in
        let same : s.rect.x1 ≤ℤ s.rect.x1 = omega (arith, ints) in
        shut s.rect.x1 here left (bare_at y gap s.rect.x1 here left (record { rect = s.rect; listed = k.listed; holds = record { left = same; right = proper; low = s.low; high = s.high } })))
        (λ most. shut low least wide (bare_at y gap low least wide (record { rect = s.rect; listed = k.listed; holds = record { left = most; right = right; low = s.low; high = s.high } })))

    bare_not_closed : (y : ℤ) → (HasRow filled y ⊎ HasRow partly y) × (HasRow closed y → ⊥) → IsClosed (range low high) first second y → ⊥
    bare_not_closed y (inl there, gap) shut = shut low least wide (bare_at y gap low least wide (wide_covers low high first low y least wide ((fill.are y).0 there)))
    bare_not_closed y (inr there, gap) shut = in_part y gap shut ((part.are y).0 there)

    held : (x y : ℤ) → low ≤ℤ x → x <ℤ high → Covers first x y → HasRow filled y ⊎ HasRow partly y
    held x y a b c = elim (covered_by low high first x y a b c) [
      | inl s ↦ inl ((fill.are y).1 s)
      | inr p ↦ inr ((part.are y).1 (record { rect = p.rect; listed = p.listed; low = p.holds.low; high = p.holds.high }))
    ]

    bare_there : (y : ℤ) → (IsClosed (range low high) first second y → ⊥) → HasRow rows.bare y
    bare_there y gap = elim (covers_or_not rows.bare y (pos 0)) [
      | inr there ↦ there
      | inl not_there ↦ absurd (gap (λ x a b bare. not_there ((are.bare y (pos 0)).1 (held x y a b bare.0, λ c. bare.1 (shut_all y c x a b)))))
    ]

-- ---- a stretch of two parts

pub joined_rows : (low middle high : ℤ) (first second filled closed : List Rectangle) (left right rows : Rows) → low <ℤ middle → middle <ℤ high → AreRowsOf (filter (is_wide (range low high)) first) filled → AreRowsOf (filter (is_wide (range low high)) second) closed → AreRows (range low middle) (filter (is_part (range low high)) first) (filter (is_part (range low high)) second) left → AreRows (range middle high) (filter (is_part (range low high)) first) (filter (is_part (range low high)) second) right → AreJoined filled closed left right rows → AreRows (range low high) first second rows
joined_rows low middle high first second filled closed left right rows lm mh fill close l r are = record {
  bare = λ y. (λ there shut. bare_not_closed y ((are.bare y).0 there) shut, bare_there y);
  shut = λ y. (λ there. shut_all y ((are.shut y).0 there), λ all. (are.shut y).1 (all_shut y all));
  flat = λ x y c. elim (are.flat x y c) [ inl a ↦ l.flat x y a | inr b ↦ elim b [ inl c ↦ r.flat x y c | inr d ↦ fill.flat x y d ] ];
}
  where
    ps : List Rectangle
    ps = filter (is_part (range low high)) first

    qs : List Rectangle
    qs = filter (is_part (range low high)) second

    -- a column of the stretch is one of its left or of its right part
    halves : {P : ℤ → Type 0} → ((x : ℤ) → low ≤ℤ x → x <ℤ middle → P x) → ((x : ℤ) → middle ≤ℤ x → x <ℤ high → P x) → (x : ℤ) → low ≤ℤ x → x <ℤ high → P x
    halves f g x a b = by_lt_z x middle (λ less. f x a less) (λ most. g x most b)

    shut_all : (y : ℤ) → (HasRow left.shut y × HasRow right.shut y) ⊎ HasRow closed y → IsShut (range low high) second y
    shut_all y (inl both) x a b = halves {P = λ z. Covers second z y} (λ z c d. part_covers low high second z y ((l.shut y).0 both.0 z c d)) (λ z c d. part_covers low high second z y ((r.shut y).0 both.1 z c d)) x a b
    shut_all y (inr there) x a b = wide_covers low high second x y a b ((close.are y).0 there)

    -- cells of a row that no wide rectangle of the second list stands in
    by_part : (y : ℤ) → (HasRow closed y → ⊥) → (x : ℤ) → low ≤ℤ x → x <ℤ high → Covers second x y → Covers (filter (is_part (range low high)) second) x y
    by_part y gap x a b c = elim (covered_by low high second x y a b c) [ inl s ↦ absurd (gap ((close.are y).1 s)) | inr p ↦ p ]

    both_shut : (y : ℤ) → (HasRow closed y → ⊥) → IsShut (range low high) second y → HasRow left.shut y × HasRow right.shut y
    both_shut y gap all = (
      (l.shut y).1 (λ x a b. by_part y gap x a (omega (arith, ints)) (all x a (omega (arith, ints)))),
      (r.shut y).1 (λ x a b. by_part y gap x (omega (arith, ints)) b (all x (omega (arith, ints)) b)),
    )

    all_shut : (y : ℤ) → IsShut (range low high) second y → (HasRow left.shut y × HasRow right.shut y) ⊎ HasRow closed y
    all_shut y all = elim (covers_or_not closed y (pos 0)) [ inr there ↦ inr there | inl gap ↦ inl (both_shut y gap all) ]

    -- a bare cell of the parts is bare
    part_bare : (y : ℤ) → (HasRow closed y → ⊥) → (x : ℤ) → low ≤ℤ x → x <ℤ high → Bare (filter (is_part (range low high)) first) (filter (is_part (range low high)) second) x y → Bare first second x y
    part_bare y gap x a b bare = (part_covers low high first x y bare.0, λ c. bare.1 (by_part y gap x a b c))

    bare_not_closed : (y : ℤ) → ((HasRow left.bare y ⊎ HasRow right.bare y) ⊎ (HasRow filled y × (HasRow left.shut y × HasRow right.shut y → ⊥))) × (HasRow closed y → ⊥) → IsClosed (range low high) first second y → ⊥
    bare_not_closed y (inl (inl there), gap) shut = (l.bare y).0 there (λ x a b bare. shut x a (omega (arith, ints)) (part_bare y gap x a (omega (arith, ints)) bare))
    bare_not_closed y (inl (inr there), gap) shut = (r.bare y).0 there (λ x a b bare. shut x (omega (arith, ints)) b (part_bare y gap x (omega (arith, ints)) b bare))
    bare_not_closed y (inr (full, some), gap) shut = some (both_shut y gap (λ x a b. elim (covers_or_not second x y) [
      | inr c ↦ c
      | inl none ↦ absurd (shut x a b (wide_covers low high first x y a b ((fill.are y).0 full), none))
    ]))

    bare_there : (y : ℤ) → (IsClosed (range low high) first second y → ⊥) → HasRow rows.bare y
    bare_there y gap = elim (covers_or_not rows.bare y (pos 0)) [
      | inr there ↦ there
      | inl none ↦ absurd (gap (λ x a b bare. none ((are.bare y).1 (somewhere x a b bare, λ c. bare.1 (shut_all y (inr c) x a b)))))
    ]
      where
        somewhere : (x : ℤ) → low ≤ℤ x → x <ℤ high → Bare first second x y → (HasRow left.bare y ⊎ HasRow right.bare y) ⊎ (HasRow filled y × (HasRow left.shut y × HasRow right.shut y → ⊥))
        somewhere x a b bare = elim (covered_by low high first x y a b bare.0) [
          | inl s ↦ inr ((fill.are y).1 s, λ both. bare.1 (shut_all y (inl both) x a b))
          | inr p ↦ by_lt_z x middle
              (λ less. inl (inl ((l.bare y).1 (λ shut. shut x a less (p, λ q. bare.1 (part_covers low high second x y q))))))
              (λ most. inl (inr ((r.bare y).1 (λ shut. shut x most b (p, λ q. bare.1 (part_covers low high second x y q))))))
        ]

-- the steps that put the two parts together
pub joined_is : (filled closed shut unshut bare more : List Rectangle) (left right rows : Rows) → ((x y : ℤ) → Covers shut x y ↔ (Covers left.shut x y × Covers right.shut x y)) → ((x y : ℤ) → Covers unshut x y ↔ (Covers filled x y × (Covers shut x y → ⊥))) → ((x y : ℤ) → Covers bare x y ↔ (Covers left.bare x y ⊎ Covers right.bare x y)) → ((x y : ℤ) → Covers more x y ↔ (Covers bare x y ⊎ Covers unshut x y)) → ((x y : ℤ) → Covers rows.bare x y ↔ (Covers more x y × (Covers closed x y → ⊥))) → ((x y : ℤ) → Covers rows.shut x y ↔ (Covers shut x y ⊎ Covers closed x y)) → AreJoined filled closed left right rows
joined_is filled closed shut unshut bare more left right rows s u b m rb rs = record {
  bare = λ y. (λ c. let d = (rb y (pos 0)).0 c in (there y d.0, d.1), λ d. (rb y (pos 0)).1 (back y d.0, d.1));
  shut = λ y. (
    λ c. elim ((rs y (pos 0)).0 c) [ inl d ↦ inl ((s y (pos 0)).0 d) | inr d ↦ inr d ],
    λ d. elim d [ inl e ↦ (rs y (pos 0)).1 (inl ((s y (pos 0)).1 e)) | inr e ↦ (rs y (pos 0)).1 (inr e) ],
  );
  flat = λ x y c. elim ((m x y).0 ((rb x y).0 c).0) [
    | inl d ↦ elim ((b x y).0 d) [ inl e ↦ inl e | inr e ↦ inr (inl e) ]
    | inr d ↦ inr (inr ((u x y).0 d).0)
  ];
}
  where
    there : (y : ℤ) → HasRow more y → (HasRow left.bare y ⊎ HasRow right.bare y) ⊎ (HasRow filled y × (HasRow left.shut y × HasRow right.shut y → ⊥))
    there y c = elim ((m y (pos 0)).0 c) [
      | inl d ↦ inl ((b y (pos 0)).0 d)
      | inr d ↦ let e = (u y (pos 0)).0 d in inr (e.0, λ both. e.1 ((s y (pos 0)).1 both))
    ]

    back : (y : ℤ) → (HasRow left.bare y ⊎ HasRow right.bare y) ⊎ (HasRow filled y × (HasRow left.shut y × HasRow right.shut y → ⊥)) → HasRow more y
    back y (inl d) = (m y (pos 0)).1 (inl ((b y (pos 0)).1 d))
    back y (inr (f, some)) = (m y (pos 0)).1 (inr ((u y (pos 0)).1 (f, λ c. some ((s y (pos 0)).0 c))))

-- ---- room to divide a stretch
part_room : (low high : ℤ) (rs : List Rectangle) (r : Rectangle) → Contains (filter (is_part (range low high)) rs) r → (low +ℤ pos 1) <ℤ high
part_room low high rs r c =
    let k = in_filter (is_part (range low high)) rs r c in
    let (meets, other) = and_parts (does_meet (range low high) r) (not (is_wide (range low high) r)) k.passes in
    let (a, b) = (meet_decides low high r).0 meets in
    by_lt_z low r.x1 (λ less. omega (arith, ints)) (λ most. by_lt_z r.x2 high (λ less. omega (arith, ints)) (λ more. absurd (wrong ((wide_decides low high r).1 (most, more)) other)))
  where
    wrong : is_wide (range low high) r ≡ true → not (is_wide (range low high) r) ≡ true → ⊥
    wrong e f = let g : not (is_wide (range low high) r) ≡ false = ap not e in absurd (cc (sym f ∙ g))

pub room : (columns : XRange) (rs ps : List Rectangle) → ps ≡ filter (is_part columns) rs → (length ps == 0) ≡ false → (columns.x1 +ℤ pos 1) <ℤ columns.x2
room columns rs [] e some = absurd (cc some)
room columns rs (p ∷ ps) e some = part_room columns.x1 columns.x2 rs p (subst (λ qs. Contains qs p) e (contains_here p ps))

-- ---- the calls of `bare_rows`
pub alike_answer : (columns : XRange) (first second qs filled partly closed : List Rectangle) → columns.x1 <ℤ columns.x2 → All IsBlock first → qs ≡ filter (is_part columns) second → (length qs == 0) ≡ true → AreRowsOf (filter (is_wide columns) first) filled → AreRowsOf (filter (is_part columns) first) partly → AreRowsOf (filter (is_wide columns) second) closed → (r : Result Rows NoMemory) → IfOk r (AreAlike filled partly closed) → IfOk r (AreRows columns first second)
alike_answer columns first second qs filled partly closed wide blocks e none fill part close (Err fault) are = tt
alike_answer columns first second qs filled partly closed wide blocks e none fill part close (Ok rows) are = alike_rows columns.x1 columns.x2 first second filled partly closed rows wide blocks (sym e ∙ empty_list qs none) fill part close are

pub alike_is : (filled partly closed held : List Rectangle) (rows : Rows) → ((x y : ℤ) → Covers held x y ↔ (Covers filled x y ⊎ Covers partly x y)) → ((x y : ℤ) → Covers rows.bare x y ↔ (Covers held x y × (Covers closed x y → ⊥))) → rows.shut ≡ closed → AreAlike filled partly closed rows
alike_is filled partly closed held rows some minus shut = record {
  bare = λ x y. (λ c. let d = (minus x y).0 c in ((some x y).0 d.0, d.1), λ d. (minus x y).1 ((some x y).1 d.0, d.1));
  shut = shut;
}

left_is : (columns left right : XRange) → AreHalves columns left right → left ≡ range columns.x1 left.x2
left_is columns left right h = ap (λ z. range z left.x2) h.first

right_is : (columns left right : XRange) → AreHalves columns left right → right ≡ range left.x2 columns.x2
right_is columns left right h = ap (λ z. range z right.x2) h.middle ∙ ap (λ z. range left.x2 z) h.last

pub joined_answer : (columns first_half second_half : XRange) (first second ps qs filled closed : List Rectangle) (left right : Rows) → AreHalves columns first_half second_half → ps ≡ filter (is_part columns) first → qs ≡ filter (is_part columns) second → AreRowsOf (filter (is_wide columns) first) filled → AreRowsOf (filter (is_wide columns) second) closed → AreRows first_half ps qs left → AreRows second_half ps qs right → (r : Result Rows NoMemory) → IfOk r (AreJoined filled closed left right) → IfOk r (AreRows columns first second)
joined_answer columns one two first second ps qs filled closed left right h e f fill close l r (Err fault) are = tt
joined_answer columns one two first second ps qs filled closed left right h e f fill close l r (Ok rows) are =
    joined_rows columns.x1 one.x2 columns.x2 first second filled closed left right rows h.before h.behind fill close
    (subst (λ rs. AreRows (range columns.x1 one.x2) rs (filter (is_part columns) second) left) e (subst (λ rs. AreRows (range columns.x1 one.x2) ps rs left) f (subst (λ z. AreRows z ps qs left) (left_is columns one two h) l)))
    (subst (λ rs. AreRows (range one.x2 columns.x2) rs (filter (is_part columns) second) right) e (subst (λ rs. AreRows (range one.x2 columns.x2) ps rs right) f (subst (λ z. AreRows z ps qs right) (right_is columns one two h) r)))
    are

pub narrower_left : (columns left right : XRange) → AreHalves columns left right → unsigned_abs (left.x2 -ℤ left.x1) < unsigned_abs (columns.x2 -ℤ columns.x1)
narrower_left columns left right h =
    let first = h.first in
    let before = h.before in
    let behind = h.behind in
    omega (arith, ints, first, before, behind)

pub narrower_right : (columns left right : XRange) → AreHalves columns left right → unsigned_abs (right.x2 -ℤ right.x1) < unsigned_abs (columns.x2 -ℤ columns.x1)
narrower_right columns left right h =
    let middle = h.middle in
    let last = h.last in
    let before = h.before in
    let behind = h.behind in
    omega (arith, ints, middle, last, before, behind)

pub wide_left : (columns left right : XRange) → AreHalves columns left right → left.x1 <ℤ left.x2
wide_left columns left right h =
    let first = h.first in
    let before = h.before in
    omega (arith, ints, first, before)

pub wide_right : (columns left right : XRange) → AreHalves columns left right → right.x1 <ℤ right.x2
wide_right columns left right h =
    let middle = h.middle in
    let last = h.last in
    let behind = h.behind in
    omega (arith, ints, middle, last, behind)
