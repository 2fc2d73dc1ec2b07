-- Classes of cells by the rectangles that touch, and the cells near another class.
use Rattle.std.proofs.Common.{◌≡◌, ◌↔◌, ℕ, zero, suc, ◌==◌, ℤ, pos, ◌-ℤ◌, List, [], ◌∷◌, ◌++◌, length, Bool, true, false, if◌then◌else◌, Some, slice_get, slice_index, arith, inl, inr, ◌⊎◌, refl, sym, subst, ap, ◌∙◌}
use Rattle.std.specs.List.{All, Contains}
use Rattle.std.proofs.lemmas.Int.{ints, clamps}
use Rattle.std.proofs.lemmas.Bool.Decides.{Decides-eqb}
use Rattle.std.proofs.lemmas.List.Elements.{All-contains}
use Rattle.std.proofs.lemmas.Option.{slice_get_within}
use Rattle.cell_num.proofs.In.{In, contains_in, in_contains, in_append}
use Rattle.cell_num.proofs.Lists.{some_same, contains_get, all_from_contains}
use Rattle.box_geom.specs.Rectangle.{Rectangle, IsProper, Holds, Covers}
use Rattle.box_geom.specs.Touching.{Cell, Touch}
use Rattle.box_geom.specs.Chains.{Steps, Chain, Linked}
use Rattle.box_geom.specs.Comparisons.{touching}
use Rattle.box_geom.specs.Moving.{is_proper, near_part}
use Rattle.box_geom.specs.Near.{Near}
use Rattle.box_geom.specs.Regions.{IsBlock, AreBanded, SameCells}
use Rattle.box_geom.proofs.Meeting.{Beside, Stacked, touch_sides, touch_decides}
use Rattle.box_geom.proofs.Moved.{proper_decides, nearest}
use Rattle.scmos_rules.specs.Apart.{link_of, some_part, hits_of}
use Rattle.scmos_rules.specs.Near.{numbered, near_over}
use Rattle.scmos_rules.specs.declared.parts.NumberedBlock.{NumberedBlock}
use Rattle.number_trees.specs.Links.{IsLink, Tied, Separates}
use Rattle.scmos_rules.specs.Lengths.{FailsOpen}
use Rattle.scmos_rules.specs.Failing.{FailsApart, FailsSpacing, SameClass}
use Rattle.scmos_rules.specs.Cells.{AreCells}
use Rattle.number_trees.specs.declared.linking.Link.{Link}
use Rattle.number_trees.proofs.Chains.{none, one, joined}
use Rattle.scmos_rules.proofs.Chains.{inside, meet, flip_edge}
use Rattle.scmos_rules.proofs.RunLengths.{swap}
use Rattle.scmos_rules.proofs.Nearing.{AreClose, IsPair, pair_of, pair_found, IsAt, number_at, numbered_there, part_at, parts_up, put_left, put_right}

-- where an element stands
record Seat (rs : List Rectangle) (r : Rectangle) : Type 0 where
  at : ℕ
  is : slice_get rs at ≡ Some r

seat : (rs : List Rectangle) (r : Rectangle) → In rs r → Seat rs r
seat [] r i = absurd i
seat (q ∷ qs) r (inl e) = record { at = 0; is = ap Some e }
seat (q ∷ qs) r (inr i) = let s = seat qs r i in record { at = suc s.at; is = s.is }

same_seat : (rs : List Rectangle) (i : ℕ) (a b : Rectangle) → slice_get rs i ≡ Some a → slice_get rs i ≡ Some b → a ≡ b
same_seat rs i a b p q = some_same a b (sym p ∙ q)

-- ---- the links of a list
abbrev link_at : ℕ → ℕ → Link
link_at i j = record { one = i; other = j }

link_inside : (a b : NumberedBlock) (l : Link) → In (link_of a b) l → (touching a.block b.block ≡ true) × (link_at a.number b.number ≡ l)
link_inside a b l i = by (touching a.block b.block) refl i
  where
    by : (t : Bool) → touching a.block b.block ≡ t → In (if t then link_at a.number b.number ∷ [] else []) l → (touching a.block b.block ≡ true) × (link_at a.number b.number ≡ l)
    by true e (inl same) = (e, same)
    by true e (inr none) = absurd none
    by false e none = absurd none

link_there : (a b : NumberedBlock) → touching a.block b.block ≡ true → In (link_of a b) (link_at a.number b.number)
link_there a b e = by (touching a.block b.block) refl
  where
    by : (t : Bool) → touching a.block b.block ≡ t → In (if t then link_at a.number b.number ∷ [] else []) (link_at a.number b.number)
    by true f = inl refl
    by false f = absurd (cc (e, f))

there_at : (rs : List Rectangle) (i : ℕ) (r : Rectangle) → slice_get rs i ≡ Some r → In (numbered 0 rs) (part_at i r)
there_at rs i r is = numbered_there 0 rs i r i is (omega arith)

close_touch : (a b : Rectangle) → Touch a b → AreClose 1 a b
close_touch a b t = by (touch_sides a b t)
  where
    by : Beside a b ⊎ Stacked a b → AreClose 1 a b
    by (inl h) = omega (arith, ints)
    by (inr h) = omega (arith, ints)

-- the links join the places of rectangles that touch, and no others
record AreLinks (rs : List Rectangle) (links : List Link) : Type 0 where
  sound : (l : Link) → In links l → (a : Rectangle) × (b : Rectangle) × (slice_get rs l.one ≡ Some a) × (slice_get rs l.other ≡ Some b) × Touch a b
  tied : (i j : ℕ) (a b : Rectangle) → slice_get rs i ≡ Some a → slice_get rs j ≡ Some b → Touch a b → Chain (Tied links) i j

proper_at : (rs : List Rectangle) → All IsBlock rs → (i : ℕ) (a : Rectangle) → slice_get rs i ≡ Some a → IsProper a
proper_at rs real i a is = (All-contains IsBlock rs a real (contains_get rs i a is)).proper

flip_touch : (a b : Rectangle) → Touch a b → Touch b a
flip_touch a b t = record { one = t.other; other = t.one; in_a = t.in_b; in_b = t.in_a; meet = elim t.meet [ inl e ↦ inl (sym e) | inr e ↦ inr (flip_edge t.one t.other e) ] }

links_are : (rs : List Rectangle) (links : List Link) → AreBanded rs → links ≡ near_over 1 link_of (numbered 0 rs) → AreLinks rs links
links_are rs links banded e = record {
  sound = λ l i. sound l (pair_of 1 link_of (numbered 0 rs) l (subst (λ z. In z l) e i));
  tied = tied;
}
  where
    real : All IsBlock rs
    real = banded.blocks

    sound : (l : Link) → IsPair link_of (numbered 0 rs) l → (a : Rectangle) × (b : Rectangle) × (slice_get rs l.one ≡ Some a) × (slice_get rs l.other ≡ Some b) × Touch a b
    sound l o =
        let s = number_at 0 rs o.one o.one_in in
        let t = number_at 0 rs o.other o.other_in in
        let k = link_inside o.one o.other l o.inside in
        let f : l.one ≡ o.one.number = sym (ap (λ (z : Link). z.one) k.1) in
        let g : l.other ≡ o.other.number = sym (ap (λ (z : Link). z.other) k.1) in
        let m : s.at ≡ l.one = (let n = s.number in omega arith) in
        let h : t.at ≡ l.other = (let n = t.number in omega arith) in
        let p : slice_get rs l.one ≡ Some o.one.block = subst (λ n. slice_get rs n ≡ Some o.one.block) m s.is in
        let q : slice_get rs l.other ≡ Some o.other.block = subst (λ n. slice_get rs n ≡ Some o.other.block) h t.is in
        (o.one.block, o.other.block, p, q, (touch_decides o.one.block o.other.block (proper_at rs real l.one o.one.block p) (proper_at rs real l.other o.other.block q)).0 k.0)

    listed : (n : Link) → In (near_over 1 link_of (numbered 0 rs)) n → Contains links n
    listed n i = in_contains links n (subst (λ z. In z n) (sym e) i)

    tied : (i j : ℕ) (a b : Rectangle) → slice_get rs i ≡ Some a → slice_get rs j ≡ Some b → Touch a b → Chain (Tied links) i j
    tied i j a b p q t =
        elim (pair_found 1 link_of (numbered 0 rs) (part_at i a) (part_at j b) (parts_up rs banded) (there_at rs i a p) (there_at rs j b q) (close_touch a b t)) [
          | inl same ↦ none (Tied links) i j (ap (λ (z : NumberedBlock). z.number) same)
          | inr (inl w) ↦ one (Tied links) i j (record { link = link_at i j; listed = listed (link_at i j) (w (link_at i j) (link_there (part_at i a) (part_at j b) ((touch_decides a b pa pb).1 t))); ends = inl (refl, refl) })
          | inr (inr w) ↦ one (Tied links) i j (record { link = link_at j i; listed = listed (link_at j i) (w (link_at j i) (link_there (part_at j b) (part_at i a) ((touch_decides b a pb pa).1 (flip_touch a b t)))); ends = inr (refl, refl) })
        ]
      where
        pa : IsProper a
        pa = proper_at rs real i a p

        pb : IsProper b
        pb = proper_at rs real j b q

pub links_inside : (rs : List Rectangle) (links : List Link) (n : ℕ) → AreBanded rs → links ≡ near_over 1 link_of (numbered 0 rs) → n ≡ length rs → All (IsLink n) links
links_inside rs links n banded e is = all_from_contains (IsLink n) links (λ l c. inside' l ((links_are rs links banded e).sound l (contains_in links l c)))
  where
    inside' : (l : Link) → (a : Rectangle) × (b : Rectangle) × (slice_get rs l.one ≡ Some a) × (slice_get rs l.other ≡ Some b) × Touch a b → IsLink n l
    inside' l (a, b, p, q, t) = let u = slice_get_within rs l.one a p in let v = slice_get_within rs l.other b q in record { one = omega arith; other = omega arith }

-- ---- chains of cells and chains of places
places_of_steps : (rs : List Rectangle) (links : List Link) → AreLinks rs links → (n : ℕ) (c d : Cell) (i j : ℕ) (a b : Rectangle) → slice_get rs i ≡ Some a → slice_get rs j ≡ Some b → Holds a c.x c.y → Holds b d.x d.y → Steps (Linked (Covers rs)) n c d → Chain (Tied links) i j
places_of_steps rs links are zero c d i j a b p q h k e = are.tied i j a b p q (record { one = c; other = d; in_a = h; in_b = k; meet = inl e })
places_of_steps rs links are (suc n) c d i j a b p q h k (m, l, rest) =
    let to = l.to in
    let s = seat rs to.rect (contains_in rs to.rect to.listed) in
    joined (Tied links) i s.at j
    (are.tied i s.at a to.rect p s.is (record { one = c; other = m; in_a = h; in_b = to.holds; meet = inr l.edge }))
    (places_of_steps rs links are n m d s.at j to.rect b s.is q to.holds k rest)

-- a step between places leads from each cell of one rectangle to some cell of the other
record Over (rs : List Rectangle) (c : Cell) (j : ℕ) : Type 0 where
  rect : Rectangle
  is : slice_get rs j ≡ Some rect
  to : Cell
  holds : Holds rect to.x to.y
  chain : Chain (Linked (Covers rs)) c to

over_touch : (rs : List Rectangle) (c : Cell) (i j : ℕ) (a p q : Rectangle) → slice_get rs i ≡ Some a → slice_get rs i ≡ Some p → slice_get rs j ≡ Some q → Touch p q → Holds a c.x c.y → Over rs c j
over_touch rs c i j a p q e f g t h =
    let held : Holds p c.x c.y = subst (λ (z : Rectangle). Holds z c.x c.y) (same_seat rs i a p e f) h in
    let lp = contains_get rs i p f in
    let lq = contains_get rs j q g in
    let there : Chain (Linked (Covers rs)) c t.one = inside rs p lp c.x c.y t.one.x t.one.y held t.in_a in
    record { rect = q; is = g; to = t.other; holds = t.in_b; chain = joined (Linked (Covers rs)) c t.one t.other there (meet rs p q (record { from = lp; to = lq; touch = t })) }

over_tie : (rs : List Rectangle) (links : List Link) → AreLinks rs links → (c : Cell) (i j : ℕ) (a : Rectangle) → slice_get rs i ≡ Some a → Holds a c.x c.y → Tied links i j → Over rs c j
over_tie rs links are c i j a e h t = by t.ends (are.sound t.link (contains_in links t.link t.listed))
  where
    by : ((t.link.one ≡ i) × (t.link.other ≡ j)) ⊎ ((t.link.one ≡ j) × (t.link.other ≡ i)) → (p : Rectangle) × (q : Rectangle) × (slice_get rs t.link.one ≡ Some p) × (slice_get rs t.link.other ≡ Some q) × Touch p q → Over rs c j
    by (inl (f, g)) (p, q, u, v, w) = over_touch rs c i j a p q e (subst (λ n. slice_get rs n ≡ Some p) f u) (subst (λ n. slice_get rs n ≡ Some q) g v) w h
    by (inr (f, g)) (p, q, u, v, w) = over_touch rs c i j a q p e (subst (λ n. slice_get rs n ≡ Some q) g v) (subst (λ n. slice_get rs n ≡ Some p) f u) (flip_touch p q w) h

cells_of_places : (rs : List Rectangle) (links : List Link) → AreLinks rs links → (n : ℕ) (c d : Cell) (i j : ℕ) (a b : Rectangle) → slice_get rs i ≡ Some a → slice_get rs j ≡ Some b → Holds a c.x c.y → Holds b d.x d.y → Steps (Tied links) n i j → Chain (Linked (Covers rs)) c d
cells_of_places rs links are zero c d i j a b p q h k e =
    let same : a ≡ b = same_seat rs j a b (subst (λ n. slice_get rs n ≡ Some a) e p) q in
    inside rs a (contains_get rs i a p) c.x c.y d.x d.y h (subst (λ (z : Rectangle). Holds z d.x d.y) (sym same) k)
cells_of_places rs links are (suc n) c d i j a b p q h k (m, t, rest) =
    let o = over_tie rs links are c i m a p h t in
    joined (Linked (Covers rs)) c o.to d o.chain (cells_of_places rs links are n o.to d m j o.rect b o.is q o.holds k rest)

-- ---- the parts near others
record IsSomeHit (d : ℕ) (labels : List ℕ) (rs : List Rectangle) (q : Rectangle) : Type 0 where
  at : ℕ
  first : Rectangle
  is : slice_get rs at ≡ Some first
  second : ℕ
  other : Rectangle
  there : slice_get rs second ≡ Some other
  differ : (slice_index labels second == slice_index labels at) ≡ false
  part : In (some_part d first other) q

-- labels differ in both orders
turned_test : (m n : ℕ) → (m == n) ≡ false → (n == m) ≡ false
turned_test m n e = by (n == m) refl
  where
    by : (t : Bool) → (n == m) ≡ t → t ≡ false
    by true f = let same : n ≡ m = (Decides-eqb n m).0 f in let g : (m == n) ≡ true = (Decides-eqb m n).1 (sym same) in absurd (cc (g, e))
    by false f = refl

hit_of : (d : ℕ) (labels : List ℕ) (rs : List Rectangle) (q : Rectangle) → IsPair (hits_of d labels) (numbered 0 rs) q → IsSomeHit d labels rs q
hit_of d labels rs q o = by (slice_index labels o.one.number == slice_index labels o.other.number) refl o.inside
  where
    s : IsAt 0 rs o.one
    s = number_at 0 rs o.one o.one_in

    t : IsAt 0 rs o.other
    t = number_at 0 rs o.other o.other_in

    is : slice_get rs o.one.number ≡ Some o.one.block
    is = let e : s.at ≡ o.one.number = (let n = s.number in omega arith) in subst (λ n. slice_get rs n ≡ Some o.one.block) e s.is

    there : slice_get rs o.other.number ≡ Some o.other.block
    there = let e : t.at ≡ o.other.number = (let n = t.number in omega arith) in subst (λ n. slice_get rs n ≡ Some o.other.block) e t.is

    by : (b : Bool) → (slice_index labels o.one.number == slice_index labels o.other.number) ≡ b → In (if b then [] else some_part d o.one.block o.other.block ++ some_part d o.other.block o.one.block) q → IsSomeHit d labels rs q
    by true e none = absurd none
    by false e i =
        elim (in_append (some_part d o.one.block o.other.block) (some_part d o.other.block o.one.block) q i) [
          | inl p ↦ record { at = o.one.number; first = o.one.block; is = is; second = o.other.number; other = o.other.block; there = there; differ = turned_test (slice_index labels o.one.number) (slice_index labels o.other.number) e; part = p }
          | inr p ↦ record { at = o.other.number; first = o.other.block; is = there; second = o.one.number; other = o.one.block; there = is; differ = e; part = p }
        ]

hits_there : (d : ℕ) (labels : List ℕ) (a b : NumberedBlock) (q : Rectangle) → (slice_index labels a.number == slice_index labels b.number) ≡ false → In (some_part d a.block b.block) q ⊎ In (some_part d b.block a.block) q → In (hits_of d labels a b) q
hits_there d labels a b q e i = by (slice_index labels a.number == slice_index labels b.number) refl i
  where
    by : (t : Bool) → (slice_index labels a.number == slice_index labels b.number) ≡ t → In (some_part d a.block b.block) q ⊎ In (some_part d b.block a.block) q → In (if t then [] else some_part d a.block b.block ++ some_part d b.block a.block) q
    by true f j = absurd (cc (f, e))
    by false f (inl j) = put_left (some_part d a.block b.block) (some_part d b.block a.block) q j
    by false f (inr j) = put_right (some_part d a.block b.block) (some_part d b.block a.block) q j

hit_found : (d : ℕ) (labels : List ℕ) (rs : List Rectangle) → AreBanded rs → (i j : ℕ) (a b q : Rectangle) → slice_get rs i ≡ Some a → slice_get rs j ≡ Some b → (slice_index labels j == slice_index labels i) ≡ false → AreClose d a b → In (some_part d a b) q → In (near_over d (hits_of d labels) (numbered 0 rs)) q
hit_found d labels rs banded i j a b q p r e close part =
    elim (pair_found d (hits_of d labels) (numbered 0 rs) (part_at i a) (part_at j b) (parts_up rs banded) (there_at rs i a p) (there_at rs j b r) close) [
      | inl same ↦ absurd (let f : j ≡ i = sym (ap (λ (z : NumberedBlock). z.number) same) in let g : (slice_index labels j == slice_index labels i) ≡ true = (Decides-eqb (slice_index labels j) (slice_index labels i)).1 (ap (λ n. slice_index labels n) f) in cc (g, e))
      | inr (inl w) ↦ w q (hits_there d labels (part_at i a) (part_at j b) q (turned_test (slice_index labels j) (slice_index labels i) e) (inl part))
      | inr (inr w) ↦ w q (hits_there d labels (part_at j b) (part_at i a) q e (inr part))
    ]

near_close : (d : ℕ) (a b : Rectangle) (x y s t : ℤ) → Holds a x y → Near d x y s t → Holds b s t → AreClose d a b
near_close d a b x y s t h n k = let e = n.left in let f = n.right in let g = n.low in let m = n.high in let i = h.left in let j = h.right in let u = h.low in let v = h.high in let o = k.left in let p = k.right in let q = k.low in let r = k.high in record { left = omega (arith, ints); right = omega (arith, ints); low = omega (arith, ints); high = omega (arith, ints) }

-- the part of a within d of b
part_is : (d : ℕ) (a b q : Rectangle) → In (some_part d a b) q → (near_part d a b ≡ q) × IsProper q
part_is d a b q i = by (is_proper (near_part d a b)) refl i
  where
    by : (t : Bool) → is_proper (near_part d a b) ≡ t → In (if t then near_part d a b ∷ [] else []) q → (near_part d a b ≡ q) × IsProper q
    by true e (inl same) = let p = (proper_decides (near_part d a b)).0 e in (same, subst IsProper same (record { wide = p.0; high = p.1 }))
    by true e (inr n) = absurd n
    by false e n = absurd n

part_there : (d : ℕ) (a b : Rectangle) → IsProper (near_part d a b) → In (some_part d a b) (near_part d a b)
part_there d a b p = by (is_proper (near_part d a b)) refl
  where
    by : (t : Bool) → is_proper (near_part d a b) ≡ t → In (if t then near_part d a b ∷ [] else []) (near_part d a b)
    by true e = inl refl
    by false e = absurd (let k : is_proper (near_part d a b) ≡ true = (proper_decides (near_part d a b)).1 (p.wide, p.high) in cc (k, e))

-- the cell of b that is near a cell of the part
record NearCell (d : ℕ) (b : Rectangle) (x y : ℤ) : Type 0 where
  s : ℤ
  t : ℤ
  near : Near d x y s t
  holds : Holds b s t

held_part : (d : ℕ) (a b : Rectangle) (x y : ℤ) → Holds (near_part d a b) x y → Holds a x y
held_part d a b x y h = let i = h.left in let j = h.right in let k = h.low in let l = h.high in record { left = omega (arith, ints, clamps); right = omega (arith, ints, clamps); low = omega (arith, ints, clamps); high = omega (arith, ints, clamps) }

near_of_part : (d : ℕ) (a b : Rectangle) (x y : ℤ) → IsProper b → Holds (near_part d a b) x y → NearCell d b x y
near_of_part d a b x y p h =
    let i = h.left in let j = h.right in let k = h.low in let l = h.high in
    let u = nearest b.x1 b.x2 x d p.wide (omega (arith, ints, clamps)) (omega (arith, ints, clamps)) in
    let v = nearest b.y1 b.y2 y d p.high (omega (arith, ints, clamps)) (omega (arith, ints, clamps)) in
    record { s = u.at; t = v.at; near = record { left = u.left; right = u.right; low = v.left; high = v.right }; holds = record { left = u.from; right = u.to; low = v.from; high = v.to } }

in_part : (d : ℕ) (a b : Rectangle) (x y s t : ℤ) → Holds a x y → Near d x y s t → Holds b s t → Holds (near_part d a b) x y
in_part d a b x y s t h n k = let e = n.left in let f = n.right in let g = n.low in let m = n.high in let i = h.left in let j = h.right in let u = h.low in let v = h.high in let o = k.left in let p = k.right in let q = k.low in let r = k.high in record { left = omega (arith, ints, clamps); right = omega (arith, ints, clamps); low = omega (arith, ints, clamps); high = omega (arith, ints, clamps) }

-- ---- the cells near another class
pub apart_is : (rs : List Rectangle) (links : List Link) (n : ℕ) (labels : List ℕ) (hits r : List Rectangle) (d : ℕ) → AreBanded rs → links ≡ near_over 1 link_of (numbered 0 rs) → n ≡ length rs → Separates n links labels → hits ≡ near_over d (hits_of d labels) (numbered 0 rs) → SameCells r hits → AreCells (FailsApart (Covers rs) d) r
apart_is rs links n labels hits r d banded le count sep he same = record { same = λ x y. (λ c. there x y (subst (λ z. Covers z x y) he ((same x y).0 c)), λ f. (same x y).1 (subst (λ z. Covers z x y) (sym he) (back x y f))) }
  where
    are : AreLinks rs links
    are = links_are rs links banded le

    real : All IsBlock rs
    real = banded.blocks

    all : List Rectangle
    all = near_over d (hits_of d labels) (numbered 0 rs)

    apart : (x y s t : ℤ) (i j : ℕ) (a b : Rectangle) → slice_get rs i ≡ Some a → slice_get rs j ≡ Some b → Holds a x y → Holds b s t → (slice_index labels j == slice_index labels i) ≡ false → SameClass (Covers rs) x y s t → ⊥
    apart x y s t i j a b p q h k e chain =
        let u = slice_get_within rs i a p in
        let v = slice_get_within rs j b q in
        let places = places_of_steps rs links are chain.count (record { x = x; y = y }) (record { x = s; y = t }) i j a b p q h k chain.steps in
        let equal : slice_index labels i ≡ slice_index labels j = (sep.same i j (omega arith) (omega arith)).1 places in
        let yes : (slice_index labels j == slice_index labels i) ≡ true = (Decides-eqb (slice_index labels j) (slice_index labels i)).1 (sym equal) in
        cc (yes, e)

    there : (x y : ℤ) → Covers all x y → FailsApart (Covers rs) d x y
    there x y c =
        let i = hit_of d labels rs c.rect (pair_of d (hits_of d labels) (numbered 0 rs) c.rect (contains_in all c.rect c.listed)) in
        let p = part_is d i.first i.other c.rect i.part in
        let h : Holds (near_part d i.first i.other) x y = subst (λ (z : Rectangle). Holds z x y) (sym p.0) c.holds in
        let held = held_part d i.first i.other x y h in
        let n' = near_of_part d i.first i.other x y (proper_at rs real i.second i.other i.there) h in
        record {
          covered = record { rect = i.first; listed = contains_get rs i.at i.first i.is; holds = held };
          s = n'.s;
          t = n'.t;
          other = record { rect = i.other; listed = contains_get rs i.second i.other i.there; holds = n'.holds };
          near = n'.near;
          apart = apart x y n'.s n'.t i.at i.second i.first i.other i.is i.there held n'.holds i.differ;
        }

    back : (x y : ℤ) → FailsApart (Covers rs) d x y → Covers all x y
    back x y f =
        let p = seat rs f.covered.rect (contains_in rs f.covered.rect f.covered.listed) in
        let q = seat rs f.other.rect (contains_in rs f.other.rect f.other.listed) in
        by p q (slice_index labels q.at == slice_index labels p.at) refl
      where
        by : (p : Seat rs f.covered.rect) (q : Seat rs f.other.rect) (t : Bool) → (slice_index labels q.at == slice_index labels p.at) ≡ t → Covers all x y
        by p q true e =
            let u = slice_get_within rs p.at f.covered.rect p.is in
            let v = slice_get_within rs q.at f.other.rect q.is in
            let equal : slice_index labels q.at ≡ slice_index labels p.at = (Decides-eqb (slice_index labels q.at) (slice_index labels p.at)).0 e in
            let chain = (sep.same p.at q.at (omega arith) (omega arith)).0 (sym equal) in
            absurd (f.apart (cells_of_places rs links are chain.count (record { x = x; y = y }) (record { x = f.s; y = f.t }) p.at q.at f.covered.rect f.other.rect p.is q.is f.covered.holds f.other.holds chain.steps))
        by p q false e =
            let h = in_part d f.covered.rect f.other.rect x y f.s f.t f.covered.holds f.near f.other.holds in
            let a = h.left in let b = h.right in let c = h.low in let g = h.high in
            let real' : IsProper (near_part d f.covered.rect f.other.rect) = record { wide = omega (arith, ints); high = omega (arith, ints) } in
            let i = hit_found d labels rs banded p.at q.at f.covered.rect f.other.rect (near_part d f.covered.rect f.other.rect) p.is q.is e (near_close d f.covered.rect f.other.rect x y f.s f.t f.covered.holds f.near f.other.holds) (part_there d f.covered.rect f.other.rect real') in
            record { rect = near_part d f.covered.rect f.other.rect; listed = in_contains all (near_part d f.covered.rect f.other.rect) i; holds = h }

pub hits_blocks : (rs hits : List Rectangle) (d : ℕ) (labels : List ℕ) → All IsBlock rs → hits ≡ near_over d (hits_of d labels) (numbered 0 rs) → All IsBlock hits
hits_blocks rs hits d labels real e = subst (All IsBlock) (sym e) (all_from_contains IsBlock (near_over d (hits_of d labels) (numbered 0 rs)) (λ q c. block q (hit_of d labels rs q (pair_of d (hits_of d labels) (numbered 0 rs) q (contains_in (near_over d (hits_of d labels) (numbered 0 rs)) q c)))))
  where
    block : (q : Rectangle) → IsSomeHit d labels rs q → IsBlock q
    block q i = let p = part_is d i.first i.other q i.part in let k = All-contains IsBlock rs i.first real (contains_get rs i.at i.first i.is) in subst IsBlock p.0 (of i.first i.other k (subst IsProper (sym p.0) p.1))
      where
        of : (a b : Rectangle) → IsBlock a → IsProper (near_part d a b) → IsBlock (near_part d a b)
        of a b k p = let l = k.left in let m = k.right in let n = k.low in let o = k.top in record { proper = p; left = omega (arith, ints, clamps); right = omega (arith, ints, clamps); low = omega (arith, ints, clamps); top = omega (arith, ints, clamps) }

-- ---- both halves of spacing
open_like : (P Q : ℤ → ℤ → Type 0) (v : ℕ) (x y : ℤ) → ((s t : ℤ) → P s t ↔ Q s t) → FailsOpen P v x y → FailsOpen Q v x y
open_like P Q v x y e f = record {
  bare = λ q. f.bare ((e x y).1 q);
  notch = elim f.notch [
    | inl n ↦ inl (record { a = n.a; b = n.b; from = n.from; to = n.to; all = λ z l u q. n.all z l u ((e z y).1 q); before = (e (n.a -ℤ pos 1) y).0 n.before; behind = (e n.b y).0 n.behind; short = n.short })
    | inr n ↦ inr (record { a = n.a; b = n.b; from = n.from; to = n.to; all = λ z l u q. n.all z l u ((e x z).1 q); before = (e x (n.a -ℤ pos 1)).0 n.before; behind = (e x n.b).0 n.behind; short = n.short })
  ];
}

linked_like : (P Q : ℤ → ℤ → Type 0) → ((s t : ℤ) → P s t → Q s t) → (n : ℕ) (c d : Cell) → Steps (Linked P) n c d → Steps (Linked Q) n c d
linked_like P Q e zero c d s = s
linked_like P Q e (suc n) c d (m, l, rest) = (m, record { from = e c.x c.y l.from; to = e m.x m.y l.to; edge = l.edge }, linked_like P Q e n m d rest)

apart_like : (P Q : ℤ → ℤ → Type 0) (v : ℕ) (x y : ℤ) → ((s t : ℤ) → P s t ↔ Q s t) → FailsApart P v x y → FailsApart Q v x y
apart_like P Q v x y e f = record { covered = (e x y).0 f.covered; s = f.s; t = f.t; other = (e f.s f.t).0 f.other; near = f.near; apart = λ c. f.apart (record { count = c.count; steps = linked_like Q P (λ s t. (e s t).1) c.count _ _ c.steps }) }

pub spacing_is : (P : ℤ → ℤ → Type 0) (v : ℕ) (set gaps near r : List Rectangle) → AreCells P set → AreCells (FailsOpen (Covers set) v) gaps → AreCells (FailsApart (Covers set) v) near → ((x y : ℤ) → Covers r x y ↔ (Covers gaps x y ⊎ Covers near x y)) → AreCells (FailsSpacing P v) r
spacing_is P v set gaps near r p g n m = record {
  same = λ x y. (
    λ c. elim ((m x y).0 c) [ inl d ↦ inl (open_like (Covers set) P v x y p.same ((g.same x y).0 d)) | inr d ↦ inr (apart_like (Covers set) P v x y p.same ((n.same x y).0 d)) ],
    λ f. (m x y).1 (elim f [ inl o ↦ inl ((g.same x y).1 (open_like P (Covers set) v x y (λ s t. swap (p.same s t)) o)) | inr a ↦ inr ((n.same x y).1 (apart_like P (Covers set) v x y (λ s t. swap (p.same s t)) a)) ]),
  );
}
