-- What regions cover whose rectangles were moved, grown or turned.
use Rattle.std.proofs.Common.{◌≡◌, ◌↔◌, ℕ, ℤ, pos, neg_ℤ, ◌≤ℤ◌, ◌<ℤ◌, ◌+ℤ◌, ◌-ℤ◌, List, [], ◌∷◌, map, true, int_lt, IsTrue, arith, inl, inr, ◌⊎◌, refl, sym, subst, ◌∙◌, suc, length, ◌==◌, slice_get, Some, None}
use Rattle.std.specs.List.{All, Contains, filter}
use Rattle.std.proofs.lemmas.Int.{ints, clamps, by_lt_z}
use Rattle.std.proofs.lemmas.List.Elements.{All-contains}
use Rattle.std.proofs.lemmas.Bool.Decides.{Decides-and, Decides-eqb}
use Rattle.cell_num.proofs.In.{in_map, contains_map}
use Rattle.cell_num.proofs.Lists.{some_same, contains_none, contains_cons, contains_here, all_from_contains}
use Rattle.cell_num.proofs.Pairs.{pairs_head}
use Rattle.box_geom.specs.Rectangle.{Rectangle, IsRectangle, Holds, Covers}
use Rattle.box_geom.specs.Regions.{IsBlock, Follows, AreBanded, SameCells, OnPlane, IsNear, NotAfter, IsFirst, CoversNone}
use Rattle.box_geom.specs.Moving.{whole, moved_by, is_proper, turned_by}
use Rattle.box_geom.specs.Banding.{IsMade}
use Rattle.box_geom.specs.declared.moving.Moves.{Moves}
use Rattle.box_geom.specs.declared.sweep.Operation.{Operation}
use Rattle.box_geom.specs.declared.sweep.Operation.TheVariants.{Either}
use Rattle.box_geom.proofs.Filters.{contains_filter, in_filter}
use Rattle.box_geom.proofs.Spans.{int_lt_decides}

pub no_blocks : All IsBlock []
no_blocks = all_from_contains IsBlock [] (λ r c. absurd (contains_none r c))

pub limits_blocks : (rs : List Rectangle) → All IsRectangle rs → All IsBlock rs
limits_blocks rs all = all_from_contains IsBlock rs (λ r c. block r (All-contains IsRectangle rs r all c))
  where
    block : (r : Rectangle) → IsRectangle r → IsBlock r
    block r k = let a = k.left in let b = k.right in let c = k.low in let d = k.top in record { proper = k.proper; left = omega (arith, ints); right = omega (arith, ints); low = omega (arith, ints); top = omega (arith, ints) }

pub either_alone : (a made : List Rectangle) → IsMade Either a [] made → SameCells made a
either_alone a made m x y = (λ c. elim ((m x y).0 c) [ inl d ↦ d | inr d ↦ absurd (contains_none d.rect d.listed) ], λ c. (m x y).1 (inl c))

pub proper_decides : (r : Rectangle) → IsTrue (is_proper r) ↔ ((r.x1 <ℤ r.x2) × (r.y1 <ℤ r.y2))
proper_decides r = Decides-and (int_lt r.x1 r.x2) (int_lt r.y1 r.y2) (int_lt_decides r.x1 r.x2) (int_lt_decides r.y1 r.y2)

abbrev all_moved : Moves → List Rectangle → List Rectangle
all_moved by rs = filter is_proper (map (moved_by by) rs)

pub moved_blocks : (by : Moves) (rs : List Rectangle) → All IsBlock (filter is_proper (map (moved_by by) rs))
moved_blocks by rs = all_from_contains IsBlock (all_moved by rs) block
  where
    block : (r : Rectangle) → Contains (all_moved by rs) r → IsBlock r
    block r c =
        let k = in_filter is_proper (map (moved_by by) rs) r c in
        let i = in_map (moved_by by) rs r k.listed in
        let p = (proper_decides r).0 k.passes in
        subst IsBlock i.is (of i.of (subst (λ (z : Rectangle). (z.x1 <ℤ z.x2) × (z.y1 <ℤ z.y2)) (sym i.is) p))
      where
        of : (q : Rectangle) → ((moved_by by q).x1 <ℤ (moved_by by q).x2) × ((moved_by by q).y1 <ℤ (moved_by by q).y2) → IsBlock (moved_by by q)
        of q (w, h) = record { proper = record { wide = w; high = h }; left = omega (arith, ints, clamps); right = omega (arith, ints, clamps); low = omega (arith, ints, clamps); top = omega (arith, ints, clamps) }

-- a rectangle of the list holds the cell when its sides are moved
record Moved (by : Moves) (rs : List Rectangle) (x y : ℤ) : Type 0 where
  plane : OnPlane x y
  rect : Rectangle
  listed : Contains rs rect
  left : (rect.x1 +ℤ by.x1) ≤ℤ x
  right : x <ℤ (rect.x2 +ℤ by.x2)
  low : (rect.y1 +ℤ by.y1) ≤ℤ y
  high : y <ℤ (rect.y2 +ℤ by.y2)

moved_covers : (by : Moves) (rs : List Rectangle) (x y : ℤ) → Covers (filter is_proper (map (moved_by by) rs)) x y ↔ Moved by rs x y
moved_covers by rs x y = (there, back)
  where
    of : (q : Rectangle) → Contains rs q → Holds (moved_by by q) x y → Moved by rs x y
    of q c h = let a = h.left in let b = h.right in let d = h.low in let e = h.high in record { plane = record { left = omega (arith, ints, clamps); right = omega (arith, ints, clamps); low = omega (arith, ints, clamps); high = omega (arith, ints, clamps) }; rect = q; listed = c; left = omega (arith, ints, clamps); right = omega (arith, ints, clamps); low = omega (arith, ints, clamps); high = omega (arith, ints, clamps) }

    there : Covers (filter is_proper (map (moved_by by) rs)) x y → Moved by rs x y
    there c =
        let k = in_filter is_proper (map (moved_by by) rs) c.rect c.listed in
        let i = in_map (moved_by by) rs c.rect k.listed in
        of i.of i.listed (subst (λ (z : Rectangle). Holds z x y) (sym i.is) c.holds)

    holding : (m : Moved by rs x y) → Holds (moved_by by m.rect) x y
    holding m = let p = m.plane in let a = p.left in let b = p.right in let c = p.low in let d = p.high in let e = m.left in let f = m.right in let g = m.low in let h = m.high in record { left = omega (arith, ints, clamps); right = omega (arith, ints, clamps); low = omega (arith, ints, clamps); high = omega (arith, ints, clamps) }

    back : Moved by rs x y → Covers (filter is_proper (map (moved_by by) rs)) x y
    back m =
        let h = holding m in
        let a = h.left in let b = h.right in let c = h.low in let d = h.high in
        record { rect = moved_by by m.rect; listed = contains_filter is_proper (map (moved_by by) rs) (moved_by by m.rect) (contains_map (moved_by by) rs m.rect m.listed) ((proper_decides (moved_by by m.rect)).1 (omega (arith, ints), omega (arith, ints))); holds = h }

pub shifted_covers : (by : Moves) (rs moved made : List Rectangle) (dx dy : ℤ) → by.x1 ≡ dx → by.x2 ≡ dx → by.y1 ≡ dy → by.y2 ≡ dy → moved ≡ filter is_proper (map (moved_by by) rs) → SameCells made moved → (x y : ℤ) → Covers made x y ↔ (OnPlane x y × Covers rs (x -ℤ dx) (y -ℤ dy))
shifted_covers by rs moved made dx dy e f g h is same x y = (there, back)
  where
    there : Covers made x y → OnPlane x y × Covers rs (x -ℤ dx) (y -ℤ dy)
    there c =
        let m = (moved_covers by rs x y).0 (subst (λ z. Covers z x y) is ((same x y).0 c)) in
        let i = m.left in let j = m.right in let k = m.low in let l = m.high in
        (m.plane, record { rect = m.rect; listed = m.listed; holds = omega (arith, ints) })

    back : OnPlane x y × Covers rs (x -ℤ dx) (y -ℤ dy) → Covers made x y
    back (p, c) =
        let k = c.holds in
        (same x y).1 (subst (λ z. Covers z x y) (sym is) ((moved_covers by rs x y).1 (record { plane = p; rect = c.rect; listed = c.listed; left = omega (arith, ints); right = omega (arith, ints); low = omega (arith, ints); high = omega (arith, ints) })))

-- the place of a span that lies nearest
pub record Within (a b z : ℤ) (d : ℕ) : Type 0 where
  pub at : ℤ
  pub from : a ≤ℤ at
  pub to : at <ℤ b
  pub left : z ≤ℤ (at +ℤ pos d)
  pub right : at ≤ℤ (z +ℤ pos d)

pub nearest : (a b z : ℤ) (d : ℕ) → a <ℤ b → (a -ℤ pos d) ≤ℤ z → z <ℤ (b +ℤ pos d) → Within a b z d
nearest a b z d some low high =
    by_lt_z z a
    (λ less. record { at = a; from = omega (arith, ints); to = some; left = omega (arith, ints); right = omega (arith, ints) })
    (λ most. by_lt_z z b (λ in'. record { at = z; from = most; to = in'; left = omega (arith, ints); right = omega (arith, ints) }) (λ past. record { at = b -ℤ pos 1; from = omega (arith, ints); to = omega (arith, ints); left = omega (arith, ints); right = omega (arith, ints) }))

pub grown_covers : (by : Moves) (rs moved made : List Rectangle) (d : ℕ) → All IsBlock rs → by.x1 ≡ neg_ℤ (pos d) → by.y1 ≡ neg_ℤ (pos d) → by.x2 ≡ pos d → by.y2 ≡ pos d → moved ≡ filter is_proper (map (moved_by by) rs) → SameCells made moved → (x y : ℤ) → Covers made x y ↔ (OnPlane x y × IsNear rs d x y)
grown_covers by rs moved made d real e f g h is same x y = (there, back)
  where
    there : Covers made x y → OnPlane x y × IsNear rs d x y
    there c =
        let m = (moved_covers by rs x y).0 (subst (λ z. Covers z x y) is ((same x y).0 c)) in
        let i = m.left in let j = m.right in let k = m.low in let l = m.high in
        let p = (All-contains IsBlock rs m.rect real m.listed).proper in
        let u = nearest m.rect.x1 m.rect.x2 x d p.wide (omega (arith, ints)) (omega (arith, ints)) in
        let v = nearest m.rect.y1 m.rect.y2 y d p.high (omega (arith, ints)) (omega (arith, ints)) in
        (m.plane, record { s = u.at; t = v.at; near = record { left = u.left; right = u.right; low = v.left; high = v.right }; covered = record { rect = m.rect; listed = m.listed; holds = record { left = u.from; right = u.to; low = v.from; high = v.to } } })

    back : OnPlane x y × IsNear rs d x y → Covers made x y
    back (p, n) =
        let c = n.covered in let k = c.holds in let q = n.near in
        (same x y).1 (subst (λ z. Covers z x y) (sym is) ((moved_covers by rs x y).1 (record { plane = p; rect = c.rect; listed = c.listed; left = omega (arith, ints); right = omega (arith, ints); low = omega (arith, ints); high = omega (arith, ints) })))

pub turned_blocks : (rs : List Rectangle) → All IsBlock rs → All IsBlock (map turned_by rs)
turned_blocks rs real = all_from_contains IsBlock (map turned_by rs) block
  where
    block : (r : Rectangle) → Contains (map turned_by rs) r → IsBlock r
    block r c = let i = in_map turned_by rs r c in let k = All-contains IsBlock rs i.of real i.listed in subst IsBlock i.is (record { proper = record { wide = k.proper.high; high = k.proper.wide }; left = k.low; right = k.top; low = k.left; top = k.right })

pub turned_covers : (rs turned made : List Rectangle) → turned ≡ map turned_by rs → SameCells made turned → (x y : ℤ) → Covers made x y ↔ Covers rs y x
turned_covers rs turned made is same x y = (there, back)
  where
    there : Covers made x y → Covers rs y x
    there c =
        let d = subst (λ z. Covers z x y) is ((same x y).0 c) in
        let i = in_map turned_by rs d.rect d.listed in
        let k = subst (λ (z : Rectangle). Holds z x y) (sym i.is) d.holds in
        record { rect = i.of; listed = i.listed; holds = record { left = k.low; right = k.high; low = k.left; high = k.right } }

    back : Covers rs y x → Covers made x y
    back c =
        let k = c.holds in
        (same x y).1 (subst (λ z. Covers z x y) (sym is) (record { rect = turned_by c.rect; listed = contains_map turned_by rs c.rect c.listed; holds = record { left = k.low; right = k.high; low = k.left; high = k.right } }))

-- the corner of the first rectangle of bands is the first cell
pub first_corner : (r : Rectangle) (rs : List Rectangle) → AreBanded (r ∷ rs) → IsFirst (Covers (r ∷ rs)) r.x1 r.y1
first_corner r rs b = record { covered = record { rect = r; listed = contains_here r rs; holds = here }; first = λ s t c. at s t c.rect c.holds (contains_cons r rs c.rect c.listed) }
  where
    block : IsBlock r
    block = All-contains IsBlock (r ∷ rs) r b.blocks (contains_here r rs)

    here : Holds r r.x1 r.y1
    here = let p = block.proper in let w = p.wide in let h = p.high in record { left = omega (arith, ints); right = w; low = omega (arith, ints); high = h }

    order : (q : Rectangle) → Contains rs q → Follows r q
    order q c = All-contains (Follows r) rs q (pairs_head Follows r rs b.order) c

    behind : (s t : ℤ) (q : Rectangle) → Holds q s t → Follows r q → NotAfter r.x1 r.y1 s t
    behind s t q h (inl above) = let p = block.proper in let w = p.high in let l = h.low in record { row = omega (arith, ints); column = λ k. absurd (omega (arith, ints)) }
    behind s t q h (inr (e, f, g)) = let p = block.proper in let w = p.wide in let l = h.low in let m = h.left in record { row = omega (arith, ints); column = λ k. omega (arith, ints) }

    at : (s t : ℤ) (q : Rectangle) → Holds q s t → (r ≡ q) ⊎ Contains rs q → NotAfter r.x1 r.y1 s t
    at s t q h (inl e) = let k = subst (λ (z : Rectangle). Holds z s t) (sym e) h in let l = k.low in let m = k.left in record { row = l; column = λ n. m }
    at s t q h (inr c) = behind s t q h (order q c)

pub covers_none : CoversNone []
covers_none x y c = contains_none c.rect c.listed

pub covers_some : (r : Rectangle) (rs : List Rectangle) → AreBanded (r ∷ rs) → CoversNone (r ∷ rs) → ⊥
covers_some r rs b none = none r.x1 r.y1 (first_corner r rs b).covered

pub whole_blocks : (r : Rectangle) → r ≡ whole → All IsBlock (r ∷ [])
whole_blocks r e = all_from_contains IsBlock (r ∷ []) (λ q c. elim (contains_cons r [] q c) [ inl f ↦ subst IsBlock (sym e ∙ f) (record { proper = record { wide = omega (arith, ints); high = omega (arith, ints) }; left = omega (arith, ints); right = omega (arith, ints); low = omega (arith, ints); top = omega (arith, ints) }) | inr d ↦ absurd (contains_none q d) ])

pub plane_covers : (r : Rectangle) (made : List Rectangle) → r ≡ whole → SameCells made (r ∷ []) → (x y : ℤ) → Covers made x y ↔ OnPlane x y
plane_covers r made e same x y = (λ c. there ((same x y).0 c), λ p. (same x y).1 (record { rect = r; listed = contains_here r []; holds = subst (λ (z : Rectangle). Holds z x y) (sym e) (record { left = p.left; right = p.right; low = p.low; high = p.high }) }))
  where
    there : Covers (r ∷ []) x y → OnPlane x y
    there c = elim (contains_cons r [] c.rect c.listed) [ inl f ↦ (let h = subst (λ (z : Rectangle). Holds z x y) (sym f ∙ e) c.holds in record { left = h.left; right = h.right; low = h.low; high = h.high }) | inr d ↦ absurd (contains_none c.rect d) ]

-- rectangles with the same sides are the same
pub record SameSides (a b : Rectangle) : Type 0 where
  pub x1 : a.x1 ≡ b.x1
  pub y1 : a.y1 ≡ b.y1
  pub x2 : a.x2 ≡ b.x2
  pub y2 : a.y2 ≡ b.y2

make : ℤ → ℤ → ℤ → ℤ → Rectangle
make a b c d = record { x1 = a; y1 = b; x2 = c; y2 = d }

made : (a b c d p q r s : ℤ) → a ≡ p → b ≡ q → c ≡ r → d ≡ s → make a b c d ≡ make p q r s
made a b c d p q r s e f g h = cc

pub same_rect : (a b : Rectangle) → SameSides a b → a ≡ b
unfolding make
same_rect a b s = made a.x1 a.y1 a.x2 a.y2 b.x1 b.y1 b.x2 b.y2 s.x1 s.y1 s.x2 s.y2

-- the first rectangle, where there is one
pub first_of_blocks : (bs : List Rectangle) (b : Rectangle) → AreBanded bs → slice_get bs 0 ≡ Some b → IsFirst (Covers bs) b.x1 b.y1
first_of_blocks [] b banded is = absurd (cc is)
first_of_blocks (r ∷ rs) b banded is = let e : r ≡ b = some_same r b is in subst (λ (z : Rectangle). IsFirst (Covers (r ∷ rs)) z.x1 z.y1) e (first_corner r rs banded)

pub not_none : (bs : List Rectangle) (b : Rectangle) → AreBanded bs → slice_get bs 0 ≡ Some b → CoversNone bs → ⊥
not_none bs b banded is none = none b.x1 b.y1 (first_of_blocks bs b banded is).covered

pub none_of_blocks : (bs : List Rectangle) → slice_get bs 0 ≡ None → CoversNone bs
none_of_blocks [] is = covers_none
none_of_blocks (r ∷ rs) is = absurd (cc is)

pub empty_decides : (bs : List Rectangle) → AreBanded bs → IsTrue (length bs == 0) ↔ CoversNone bs
empty_decides [] banded = (λ e. covers_none, λ n. refl)
empty_decides (r ∷ rs) banded = (λ e. absurd (let k : (suc (length rs) == 0) ≡ true = e in let l : suc (length rs) ≡ 0 = (Decides-eqb (suc (length rs)) 0).0 k in omega arith), λ n. absurd (covers_some r rs banded n))

pub made_of : (op : Operation) (a b p q made : List Rectangle) → p ≡ a → q ≡ b → IsMade op p q made → IsMade op a b made
made_of op a b p q made e f m = subst (λ z. IsMade op a z made) f (subst (λ z. IsMade op z q made) e m)
