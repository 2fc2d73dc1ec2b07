-- Walks over an area, row by row and in a row from rectangle to rectangle.
use Rattle.std.proofs.Common.{◌≡◌, ◌↔◌, IsTrue, not, ℤ, ◌-ℤ◌, unsigned_abs, ◌<◌, ◌≤ℤ◌, ◌<ℤ◌, Bool, true, false, ◌&&◌, Option, Some, None, List, arith, refl, sym, subst, ◌∙◌}
use Rattle.std.specs.List.{All, Contains, find}
use Rattle.std.specs.Option.{option_map}
use Rattle.std.specs.Bool.{Decides}
use Rattle.std.specs.Int.{int_max, int_min}
use Rattle.std.proofs.lemmas.Int.{ints, clamps, by_lt_z}
use Rattle.std.proofs.lemmas.Bool.Decides.{Decides-and, Decides-like}
use Rattle.std.proofs.lemmas.List.Elements.{All-contains}
use Rattle.cell_num.proofs.Lists.{some_same}
use Rattle.box_geom.specs.Rectangle.{Rectangle, IsProper, Holds, Covers}
use Rattle.box_geom.specs.Layers.{rects_on, same_layer}
use Rattle.box_geom.specs.Comparisons.{within, holding}
use Rattle.box_geom.specs.declared.shape.Shape.{Shape}
use Rattle.box_geom.specs.declared.layer.Layer.{Layer}
use Rattle.box_geom.proofs.Spans.{within_decides, overlap_decides}
use Rattle.scmos_rules.specs.Layout.{On}
use Rattle.net_extract.specs.Areas.{holder, meeting_across, meeting_upward, meeting, meeting_any, IsFull, IsFree, AreRows}
use Rattle.net_extract.proofs.Finding.{found, found_none, any_of, of_any, shows, shown}

-- in the row y and up to before top, the cells before `at` are covered
pub record IsCovered (s : List Shape) (layer : Layer) (area : Rectangle) (y at top : ℤ) : Type 0 where
  pub least : area.x1 ≤ℤ at
  pub end : at ≤ℤ area.x2
  pub some : y <ℤ top
  pub most : top ≤ℤ area.y2
  pub cells : (x t : ℤ) → area.x1 ≤ℤ x → x <ℤ at → y ≤ℤ t → t <ℤ top → On layer s x t

-- the rows before y are covered
pub record IsBuilt (s : List Shape) (layer : Layer) (area : Rectangle) (y : ℤ) : Type 0 where
  pub least : area.y1 ≤ℤ y
  pub most : y ≤ℤ area.y2
  pub cells : (x t : ℤ) → area.x1 ≤ℤ x → x <ℤ area.x2 → area.y1 ≤ℤ t → t <ℤ y → On layer s x t

pub holds_decides : (r : Rectangle) (x y : ℤ) → Decides (holding r x y) (Holds r x y)
holds_decides r x y = Decides-like (holding r x y) (λ h. record { left = h.0.0; right = h.0.1; low = h.1.0; high = h.1.1 }) (λ h. ((h.left, h.right), (h.low, h.high))) (Decides-and (within r.x1 r.x2 x) (within r.y1 r.y2 y) (within_decides r.x1 r.x2 x) (within_decides r.y1 r.y2 y))

pub and_parts : (a b : Bool) → (a && b) ≡ true → (a ≡ true) × (b ≡ true)
and_parts true b e = (refl, e)
and_parts false b e = absurd (cc e)

pub and_true : (a b : Bool) → a ≡ true → b ≡ true → (a && b) ≡ true
and_true a b e f = rw e f

abbrev holding_on : Layer → ℤ → ℤ → Shape → Bool
holding_on layer x y z = same_layer z.layer layer && holding z.rect x y

-- what is found
record Finds (s : List Shape) (layer : Layer) (x y : ℤ) (r : Rectangle) : Type 0 where
  pub holds : Holds r x y
  pub covers : (u v : ℤ) → Holds r u v → On layer s u v

finds : (s : List Shape) (layer : Layer) (x y : ℤ) (r : Rectangle) → holder s layer x y ≡ Some r → Finds s layer x y r
finds s layer x y r e = by (find (holding_on layer x y) s) refl e
  where
    by : (o : Option Shape) → find (holding_on layer x y) s ≡ o → option_map (λ (q : Shape). q.rect) o ≡ Some r → Finds s layer x y r
    by None f g = absurd (cc g)
    by (Some z) f g =
        let p = found (holding_on layer x y) s z f in
        let t = and_parts (same_layer z.layer layer) (holding z.rect x y) p.passes in
        let same : z.rect ≡ r = some_same z.rect r g in
        record { holds = subst (λ q. Holds q x y) same ((holds_decides z.rect x y).0 t.1); covers = λ u v h. shown s layer z u v p.listed t.0 (subst (λ q. Holds q u v) (sym same) h) }

finds_none : (s : List Shape) (layer : Layer) (x y : ℤ) → holder s layer x y ≡ None → On layer s x y → ⊥
finds_none s layer x y e c = by (find (holding_on layer x y) s) refl e
  where
    by : (o : Option Shape) → find (holding_on layer x y) s ≡ o → option_map (λ (q : Shape). q.rect) o ≡ None → ⊥
    by (Some z) f g = absurd (cc g)
    by None f g = let w = shows s layer x y c in found_none (holding_on layer x y) s f w.shape w.listed (and_true (same_layer w.shape.layer layer) (holding w.shape.rect x y) w.on ((holds_decides w.shape.rect x y).1 w.holds))

-- ---- rows
pub first_covered : (s : List Shape) (layer : Layer) (area : Rectangle) (y : ℤ) → IsProper area → y <ℤ area.y2 → IsCovered s layer area y area.x1 area.y2
first_covered s layer area y p l = let w = p.wide in record { least = omega (arith, ints); end = omega (arith, ints); some = l; most = omega (arith, ints); cells = λ x t a b c d. absurd (omega (arith, ints)) }

pub more_covered : {y at top : ℤ} (s : List Shape) (layer : Layer) (area : Rectangle) (at' top' : ℤ) (r : Rectangle) → IsCovered s layer area y at top → holder s layer at y ≡ Some r → at' ≡ int_min r.x2 area.x2 → top' ≡ int_min r.y2 top → IsCovered s layer area y at' top'
more_covered {y} {at} {top} s layer area at' top' r was e ea et =
    let f = finds s layer at y r e in
    let h = f.holds in
    record {
      least = (let a = was.least in omega (arith, ints, clamps));
      end = omega (arith, ints, clamps);
      some = (let a = was.some in omega (arith, ints, clamps));
      most = (let a = was.most in omega (arith, ints, clamps));
      cells = λ x t a b c d. by_lt_z x at
          (λ less. was.cells x t a less c (omega (arith, ints, clamps)))
          (λ most. f.covers x t (let l = was.least in omega (arith, ints, clamps)));
    }

pub not_covered : {y at top : ℤ} (s : List Shape) (layer : Layer) (area : Rectangle) → IsCovered s layer area y at top → at <ℤ area.x2 → area.y1 ≤ℤ y → y <ℤ area.y2 → holder s layer at y ≡ None → IsFull s layer area → ⊥
not_covered {y} {at} {top} s layer area was l low high e full = let a = was.least in finds_none s layer at y e (full.full at y (omega (arith, ints)))

pub rows_covered : (s : List Shape) (layer : Layer) (area : Rectangle) (y at top : ℤ) → IsCovered s layer area y at top → area.x2 ≤ℤ at → AreRows s layer area y top
rows_covered s layer area y at top was l = record { some = was.some; most = was.most; rows = λ x t a b c d. was.cells x t a (omega (arith, ints)) c d }

-- ---- whole areas
pub first_built : (s : List Shape) (layer : Layer) (area : Rectangle) → IsProper area → IsBuilt s layer area area.y1
first_built s layer area p = let w = p.high in record { least = omega (arith, ints); most = omega (arith, ints); cells = λ x t a b c d. absurd (omega (arith, ints)) }

pub more_built : (s : List Shape) (layer : Layer) (area : Rectangle) (y top : ℤ) → IsBuilt s layer area y → AreRows s layer area y top → IsBuilt s layer area top
more_built s layer area y top was rows =
    let u = rows.some in
    let m = rows.most in
    let a = was.least in
    record {
      least = omega (arith, ints);
      most = m;
      cells = λ x t b c d e. by_lt_z t y (λ less. was.cells x t b c d less) (λ most. rows.rows x t b c most e);
    }

pub built_full : (s : List Shape) (layer : Layer) (area : Rectangle) (y : ℤ) → IsBuilt s layer area y → area.y2 ≤ℤ y → IsFull s layer area
built_full s layer area y was l = record { full = λ x t h. was.cells x t h.left h.right h.low (omega (arith, ints)) }

-- ---- free areas
pub record Common (a b : Rectangle) : Type 0 where
  pub x : ℤ
  pub y : ℤ
  pub in_a : Holds a x y
  pub in_b : Holds b x y

pub meeting_decides : (a b : Rectangle) → IsProper a → IsProper b → Decides (meeting a b) (Common a b)
meeting_decides a b pa pb =
    let wa = pa.wide in let ha = pa.high in let wb = pb.wide in let hb = pb.high in
    Decides-like (meeting a b)
    (λ h. let l = h.0.0 in let m = h.0.1 in let u = h.1.0 in let v = h.1.1 in record { x = int_max a.x1 b.x1; y = int_max a.y1 b.y1; in_a = omega (arith, ints, clamps); in_b = omega (arith, ints, clamps) })
    (λ c. let h = c.in_a in let k = c.in_b in ((omega (arith, ints), omega (arith, ints)), (omega (arith, ints), omega (arith, ints))))
    (Decides-and (meeting_across a b) (meeting_upward a b) (overlap_decides a.x1 a.x2 b.x1 b.x2) (overlap_decides a.y1 a.y2 b.y1 b.y2))

abbrev meeting_on : Layer → Rectangle → Shape → Bool
meeting_on layer area z = same_layer z.layer layer && meeting area z.rect

pub free_decides : (s : List Shape) (layer : Layer) (area : Rectangle) → IsProper area → All (λ (z : Shape). IsProper z.rect) s → IsTrue (not (meeting_any s layer area)) ↔ IsFree s layer area
free_decides s layer area p all = by (meeting_any s layer area) refl
  where
    meets_proper : (z : Shape) → Contains s z → Decides (meeting area z.rect) (Common area z.rect)
    meets_proper z c = meeting_decides area z.rect p (All-contains (λ (w : Shape). IsProper w.rect) s z all c)

    by : (b : Bool) → meeting_any s layer area ≡ b → IsTrue (not b) ↔ IsFree s layer area
    by true e = (
      λ t. absurd (cc t),
      λ f.
          let w = any_of (meeting_on layer area) s e in
          let t = and_parts (same_layer w.it.layer layer) (meeting area w.it.rect) w.passes in
          let c = (meets_proper w.it w.listed).0 t.1 in
          absurd (f.free c.x c.y c.in_a (shown s layer w.it c.x c.y w.listed t.0 c.in_b)),
    )
    by false e = (
      λ t. record {
        free = λ x y h c.
            let w = shows s layer x y c in
            let m : meeting area w.shape.rect ≡ true = (meets_proper w.shape w.listed).1 (record { x = x; y = y; in_a = h; in_b = w.holds }) in
            let any : meeting_any s layer area ≡ true = of_any (meeting_on layer area) s w.shape w.listed (and_true (same_layer w.shape.layer layer) (meeting area w.shape.rect) w.on m) in
            absurd (cc (sym e ∙ any));
      },
      λ f. refl,
    )

-- ---- the measures of the walks
pub less_left : (x a b : ℤ) → a <ℤ b → b ≤ℤ x → unsigned_abs (x -ℤ b) < unsigned_abs (x -ℤ a)
less_left x a b l m = omega (arith, ints)

pub moved_on : {y at top : ℤ} (s : List Shape) (layer : Layer) (area : Rectangle) (at' : ℤ) (r : Rectangle) → IsCovered s layer area y at top → at <ℤ area.x2 → holder s layer at y ≡ Some r → at' ≡ int_min r.x2 area.x2 → at <ℤ at'
moved_on {y} {at} {top} s layer area at' r was l e ea = let f = finds s layer at y r e in let h = f.holds in omega (arith, ints, clamps)

-- ---- drawings with the same rectangles on a layer
pub full_like : (s t : List Shape) (layer : Layer) (area : Rectangle) (b : Bool) → rects_on layer t ≡ rects_on layer s → IsTrue b ↔ IsFull t layer area → IsTrue b ↔ IsFull s layer area
full_like s t layer area b e d = (
  λ h. record { full = λ x y k. subst (λ rs. Covers rs x y) e ((d.0 h).full x y k) },
  λ f. d.1 (record { full = λ x y k. subst (λ rs. Covers rs x y) (sym e) (f.full x y k) }),
)

pub free_like : (s t : List Shape) (layer : Layer) (area : Rectangle) (b : Bool) → rects_on layer t ≡ rects_on layer s → IsTrue b ↔ IsFree t layer area → IsTrue b ↔ IsFree s layer area
free_like s t layer area b e d = (
  λ h. record { free = λ x y k on. (d.0 h).free x y k (subst (λ rs. Covers rs x y) (sym e) on) },
  λ f. d.1 (record { free = λ x y k on. f.free x y k (subst (λ rs. Covers rs x y) e on) }),
)
