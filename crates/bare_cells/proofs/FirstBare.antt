-- The first bare cell is the first one of the first row that has some.
use Rattle.std.proofs.Common.{◌≡◌, ◌↔◌, ℤ, pos, ◌≤ℤ◌, ◌<ℤ◌, int_le, int_lt, map, List, [], ◌∷◌, inl, inr, IfOk, IfSome, IsNone, Option, Some, None, Result, Ok, Err, arith, refl, sym, subst}
use Rattle.std.specs.Prelude.{fold}
use Rattle.std.specs.Bool.{Decides}
use Rattle.std.specs.List.{All, Contains, filter}
use Rattle.std.proofs.lemmas.Bool.Decides.{Decides-and}
use Rattle.std.proofs.lemmas.Int.{ints, clamps}
use Rattle.cell_num.proofs.In.{in_map, contains_map}
use Rattle.cell_num.proofs.Lists.{all_map, contains_cons, contains_none}
use Rattle.cell_num.specs.declared.list.NoMemory.{NoMemory}
use Rattle.box_geom.proofs.Filters.{contains_filter, in_filter}
use Rattle.box_geom.specs.Rectangle.{Rectangle, Holds, Covers}
use Rattle.box_geom.specs.Regions.{Bare, CoversNone, IsBlock, IsEmpty, IsFirst, NotAfter, SameCells}
use Rattle.box_geom.specs.declared.ranges.XRange.{XRange}
use Rattle.box_geom.specs.declared.region.Place.{Place}
use Rattle.bare_cells.specs.Rows.{HasRow, reached, reaching, stands_in, in_row, AreRows, IsRowOf, IsBareIn, IsClearIn}
use Rattle.bare_cells.specs.declared.rows.Rows.{Rows}
use Rattle.bare_cells.proofs.Stretches.{lt_decides, le_decides, kept_blocks}

stands_decides : (y : ℤ) (r : Rectangle) → Decides (stands_in y r) ((r.y1 ≤ℤ y) × (y <ℤ r.y2))
stands_decides y r = Decides-and (int_le r.y1 y) (int_lt y r.y2) (le_decides r.y1 y) (lt_decides y r.y2)

pub block_in_row : (r : Rectangle) → IsBlock r → IsBlock (in_row r)
block_in_row r b =
    let wide = b.proper.wide in
    record { proper = record { wide = wide; high = omega (arith, ints) }; left = b.left; right = b.right; low = omega (arith, ints); top = omega (arith, ints) }

pub row_blocks : (rs made : List Rectangle) (y : ℤ) → made ≡ map in_row (filter (stands_in y) rs) → All IsBlock rs → All IsBlock made
row_blocks rs made y e all = subst (All IsBlock) (sym e) (all_map IsBlock IsBlock in_row (filter (stands_in y) rs) block_in_row (kept_blocks (stands_in y) rs all))

pub row_is : (rs made row : List Rectangle) (y : ℤ) → made ≡ map in_row (filter (stands_in y) rs) → SameCells row made → IsRowOf rs y row
row_is rs made row y e cells = record {
  cells = λ x. (λ c. there x ((same x (pos 0)).0 c), λ c. (same x (pos 0)).1 (back x c));
  flat = λ s t c.
      let d = (same s t).0 c in
      let i = in_map in_row (filter (stands_in y) rs) d.rect d.listed in
      let h : Holds (in_row i.of) s t = subst (λ r. Holds r s t) (sym i.is) d.holds in
      let low = h.low in
      let high = h.high in
      omega (arith, ints);
}
  where
    same : SameCells row (map in_row (filter (stands_in y) rs))
    same = subst (SameCells row) e cells

    there : (x : ℤ) → Covers (map in_row (filter (stands_in y) rs)) x (pos 0) → Covers rs x y
    there x c =
        let i = in_map in_row (filter (stands_in y) rs) c.rect c.listed in
        let k = in_filter (stands_in y) rs i.of i.listed in
        let (low, high) = (stands_decides y i.of).0 k.passes in
        let h : Holds (in_row i.of) x (pos 0) = subst (λ r. Holds r x (pos 0)) (sym i.is) c.holds in
        record { rect = i.of; listed = k.listed; holds = record { left = h.left; right = h.right; low = low; high = high } }

    back : (x : ℤ) → Covers rs x y → Covers (map in_row (filter (stands_in y) rs)) x (pos 0)
    back x c = record {
      rect = in_row c.rect;
      listed = contains_map in_row (filter (stands_in y) rs) c.rect (contains_filter (stands_in y) rs c.rect c.listed ((stands_decides y c.rect).1 (c.holds.low, c.holds.high)));
      holds = record { left = c.holds.left; right = c.holds.right; low = omega (arith, ints); high = omega (arith, ints) };
    }

-- ---- the first of a row
pub in_row_first : (first second held shut bare : List Rectangle) (y : ℤ) → IsRowOf first y held → IsRowOf second y shut → ((s t : ℤ) → Covers bare s t ↔ (Covers held s t × (Covers shut s t → ⊥))) → (p : Place) → IsFirst (Covers bare) p.x p.y → IsBareIn first second y (record { x = p.x; y = y })
in_row_first first second held shut bare y h s are p at =
    let there = (are p.x p.y).0 at.covered in
    let flat : p.y ≡ pos 0 = h.flat p.x p.y there.0 in
    record {
      row = refl;
      bare = ((h.cells p.x).0 (subst (λ t. Covers held p.x t) flat there.0), λ c. there.1 (subst (λ t. Covers shut p.x t) (sym flat) ((s.cells p.x).1 c)));
      least = λ x b.
          let after : NotAfter p.x p.y x (pos 0) = at.first x (pos 0) ((are x (pos 0)).1 ((h.cells x).1 b.0, λ c. b.1 ((s.cells x).0 c))) in
          after.column (omega (arith, ints, flat));
    }

pub in_row_none : (first second held shut bare : List Rectangle) (y : ℤ) → IsRowOf first y held → IsRowOf second y shut → ((s t : ℤ) → Covers bare s t ↔ (Covers held s t × (Covers shut s t → ⊥))) → CoversNone bare → IsClearIn first second y
in_row_none first second held shut bare y h s are none x b = none x (pos 0) ((are x (pos 0)).1 ((h.cells x).1 b.0, λ c. b.1 ((s.cells x).0 c)))

-- ---- the first of all
record IsAcross (columns : XRange) (r : Rectangle) : Type 0 where
  left : columns.x1 ≤ℤ r.x1
  right : r.x2 ≤ℤ columns.x2

-- reaching further takes nothing away
record IsWider (outer inner : XRange) : Type 0 where
  left : outer.x1 ≤ℤ inner.x1
  right : inner.x2 ≤ℤ outer.x2

wider : (rs : List Rectangle) (c : XRange) → IsWider (fold reaching c rs) c
wider [] c = record { left = omega (arith, ints); right = omega (arith, ints) }
wider (r ∷ rs) c =
    let w = wider rs (reaching c r) in
    let left = w.left in
    let right = w.right in
    record { left = omega (arith, ints, clamps); right = omega (arith, ints, clamps) }

across : (rs : List Rectangle) (c : XRange) (r : Rectangle) → Contains rs r → IsAcross (fold reaching c rs) r
across [] c r there = absurd (contains_none r there)
across (s ∷ rs) c r there = elim (contains_cons s rs r there) [
  | inl e ↦
      let w = wider rs (reaching c s) in
      let left = w.left in
      let right = w.right in
      let here : IsAcross (fold reaching (reaching c s) rs) s = record { left = omega (arith, ints, clamps); right = omega (arith, ints, clamps) } in
      subst (λ z. IsAcross (fold reaching (reaching c s) rs) z) e here
  | inr l ↦ across rs (reaching c s) r l
]

pub reached_wide : (rs : List Rectangle) → (reached rs).x1 <ℤ (reached rs).x2
reached_wide rs =
    let w = wider rs (record { x1 = pos 0; x2 = pos 1 }) in
    let left = w.left in
    let right = w.right in
    omega (arith, ints)

-- a bare cell makes its row one that is not closed
row_of_bare : (first second : List Rectangle) (rows : Rows) → AreRows (reached first) first second rows → (x y : ℤ) → Bare first second x y → HasRow rows.bare y
row_of_bare first second rows are x y b = (are.bare y).1 (λ closed. closed x low high b)
  where
    reach : IsAcross (reached first) b.0.rect
    reach = across first (record { x1 = pos 0; x2 = pos 1 }) b.0.rect b.0.listed

    low : (reached first).x1 ≤ℤ x
    low = let l = reach.left in let h = b.0.holds.left in omega (arith, ints)

    high : x <ℤ (reached first).x2
    high = let r = reach.right in let h = b.0.holds.right in omega (arith, ints)

pub first_of_all : (first second : List Rectangle) (rows : Rows) → AreRows (reached first) first second rows → (q : Place) → IsFirst (Covers rows.bare) q.x q.y → (o : Option Place) → IfSome o (IsBareIn first second q.x) → IfSome o (λ p. IsFirst (Bare first second) p.x p.y)
first_of_all first second rows are q at None is = tt
first_of_all first second rows are q at (Some p) is = record {
  covered = subst (λ y. Bare first second p.x y) (sym is.row) is.bare;
  first = λ s t b. record { row = row t (after s t b); column = λ le. is.least s (subst (λ y. Bare first second s y) (same t (after s t b) le) b) };
}
  where
    flat : q.y ≡ pos 0
    flat = are.flat q.x q.y at.covered

    after : (s t : ℤ) → Bare first second s t → q.x ≤ℤ t
    after s t b =
        let n : NotAfter q.x q.y t (pos 0) = at.first t (pos 0) (row_of_bare first second rows are s t b) in
        n.column (omega (arith, ints, flat))

    row : (t : ℤ) → q.x ≤ℤ t → p.y ≤ℤ t
    row t le = let e = is.row in omega (arith, ints, e, le)

    same : (t : ℤ) → q.x ≤ℤ t → t ≤ℤ p.y → t ≡ q.x
    same t le most = let e = is.row in omega (arith, ints, e, le, most)

pub first_is : (first second : List Rectangle) (rows : Rows) → AreRows (reached first) first second rows → (q : Place) → IsFirst (Covers rows.bare) q.x q.y → (r : Result (Option Place) NoMemory) → IfOk r (λ o. IfSome o (IsBareIn first second q.x)) → IfOk r (λ o. IfSome o (λ p. IsFirst (Bare first second) p.x p.y))
first_is first second rows are q at (Ok o) is = first_of_all first second rows are q at o is
first_is first second rows are q at (Err e) is = tt

-- the first row that is not closed has a bare cell
pub some_in_row : (first second : List Rectangle) (rows : Rows) → AreRows (reached first) first second rows → (q : Place) → IsFirst (Covers rows.bare) q.x q.y → IsClearIn first second q.x → IsEmpty (Bare first second)
some_in_row first second rows are q at clear x y b =
    let flat : q.y ≡ pos 0 = are.flat q.x q.y at.covered in
    (are.bare q.x).0 (subst (λ t. Covers rows.bare q.x t) flat at.covered) (λ s low high bare. clear s bare)

pub none_at_all : (first second : List Rectangle) (rows : Rows) → AreRows (reached first) first second rows → CoversNone rows.bare → IsEmpty (Bare first second)
none_at_all first second rows are none x y b = none y (pos 0) (row_of_bare first second rows are x y b)

pub none_is : (first second : List Rectangle) (rows : Rows) → AreRows (reached first) first second rows → (q : Place) → IsFirst (Covers rows.bare) q.x q.y → (r : Result (Option Place) NoMemory) → IfOk r (λ o. IsNone o → IsClearIn first second q.x) → IfOk r (λ o. IsNone o → IsEmpty (Bare first second))
none_is first second rows are q at (Ok o) is = λ none. some_in_row first second rows are q at (is none)
none_is first second rows are q at (Err e) is = tt
