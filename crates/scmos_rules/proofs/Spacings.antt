-- Spacing: where close rectangles are joined, and what lies between facing ones is covered, no cell fails.
use Rattle.std.proofs.Common.{◌≡◌, ℕ, ℤ, pos, ◌-ℤ◌, List, arith, inl, inr, ◌⊎◌, ap}
use Rattle.std.proofs.lemmas.Int.{ints, by_lt_z}
use Rattle.box_geom.specs.Rectangle.{Rectangle, Holds, Covers}
use Rattle.box_geom.specs.Touching.{Cell, Edge, to_right, to_left, upward, downward}
use Rattle.box_geom.specs.Runs.{IsNotch}
use Rattle.box_geom.specs.Regions.{IsEmpty}
use Rattle.scmos_rules.specs.Failing.{FailsApart, FailsSpacing}
use Rattle.scmos_rules.specs.Conditions.{Close, Joint, IsAcross, IsUpward, AreSpaced, AreTouching}
use Rattle.number_trees.proofs.Chains.{one}
use Rattle.scmos_rules.proofs.Chains.{cells_of_chain}

-- the two rectangles at the ends of a notch are close, and what is between them is covered
row_notch : (rs : List Rectangle) (v : ℕ) → AreSpaced v rs → (x y : ℤ) → IsNotch (λ z. Covers rs z y) v x → ⊥
row_notch rs v spaced x y n =
    let p = n.before in
    let q = n.behind in
    let hp = p.holds in
    let hq = q.holds in
    by_lt_z n.a p.rect.x2
    (λ less. n.all n.a (omega (arith, ints)) (omega (arith, ints)) (record { rect = p.rect; listed = p.listed; holds = omega (arith, ints) }))
    (λ most. by_lt_z q.rect.x1 n.b
    (λ less. n.all (n.b -ℤ pos 1) (omega (arith, ints)) (omega (arith, ints)) (record { rect = q.rect; listed = q.listed; holds = omega (arith, ints) }))
    (λ rest.
    let close : Close v p.rect q.rect = omega (arith, ints) in
    let s = spaced.joined p.rect q.rect p.listed q.listed close in
    n.all x n.from n.to (s.across x y (omega (arith, ints)))))

column_notch : (rs : List Rectangle) (v : ℕ) → AreSpaced v rs → (x y : ℤ) → IsNotch (λ z. Covers rs x z) v y → ⊥
column_notch rs v spaced x y n =
    let p = n.before in
    let q = n.behind in
    let hp = p.holds in
    let hq = q.holds in
    by_lt_z n.a p.rect.y2
    (λ less. n.all n.a (omega (arith, ints)) (omega (arith, ints)) (record { rect = p.rect; listed = p.listed; holds = omega (arith, ints) }))
    (λ most. by_lt_z q.rect.y1 n.b
    (λ less. n.all (n.b -ℤ pos 1) (omega (arith, ints)) (omega (arith, ints)) (record { rect = q.rect; listed = q.listed; holds = omega (arith, ints) }))
    (λ rest.
    let close : Close v p.rect q.rect = omega (arith, ints) in
    let s = spaced.joined p.rect q.rect p.listed q.listed close in
    n.all y n.from n.to (s.upward x y (omega (arith, ints)))))

-- cells within v of each other are in close rectangles, which are joined
apart : (rs : List Rectangle) (v : ℕ) → AreSpaced v rs → (x y : ℤ) → FailsApart (Covers rs) v x y → ⊥
apart rs v spaced x y f =
    let p = f.covered in
    let q = f.other in
    let h = p.holds in
    let k = q.holds in
    let close : Close v p.rect q.rect = omega (arith, ints) in
    let s = spaced.joined p.rect q.rect p.listed q.listed close in
    f.apart (cells_of_chain rs p.rect q.rect p.listed s.chain x y f.s f.t p.holds q.holds)

pub spacing : (rs : List Rectangle) (v : ℕ) → AreSpaced v rs → IsEmpty (FailsSpacing (Covers rs) v)
spacing rs v spaced x y (inl f) = elim f.notch [ inl n ↦ row_notch rs v spaced x y n | inr n ↦ column_notch rs v spaced x y n ]
spacing rs v spaced x y (inr f) = apart rs v spaced x y f

-- nothing lies between two rectangles that touch
none_across : (a b : Rectangle) (c d : Cell) (x y : ℤ) → Holds a c.x c.y → Holds b d.x d.y → (c ≡ d) ⊎ Edge c d → IsAcross a b x y → ⊥
none_across a b c d x y h k (inl e) i = let f : c.x ≡ d.x = ap (λ (z : Cell). z.x) e in omega (arith, ints)
none_across a b c d x y h k (inr (to_right e f)) i = omega (arith, ints)
none_across a b c d x y h k (inr (to_left e f)) i = omega (arith, ints)
none_across a b c d x y h k (inr (upward e f)) i = omega (arith, ints)
none_across a b c d x y h k (inr (downward e f)) i = omega (arith, ints)

none_upward : (a b : Rectangle) (c d : Cell) (x y : ℤ) → Holds a c.x c.y → Holds b d.x d.y → (c ≡ d) ⊎ Edge c d → IsUpward a b x y → ⊥
none_upward a b c d x y h k (inl e) i = let f : c.y ≡ d.y = ap (λ (z : Cell). z.y) e in omega (arith, ints)
none_upward a b c d x y h k (inr (to_right e f)) i = omega (arith, ints)
none_upward a b c d x y h k (inr (to_left e f)) i = omega (arith, ints)
none_upward a b c d x y h k (inr (upward e f)) i = omega (arith, ints)
none_upward a b c d x y h k (inr (downward e f)) i = omega (arith, ints)

-- rectangles that touch are joined
spaced_by : (v : ℕ) (rs : List Rectangle) → AreTouching v rs → AreSpaced v rs
spaced_by v rs are = record {
  joined = λ a b la lb close.
      let t = are.touch a b la lb close in
      record {
        chain = one (Joint rs) a b (record { from = la; to = lb; touch = t });
        across = λ x y i. absurd (none_across a b t.one t.other x y t.in_a t.in_b t.meet i);
        upward = λ x y i. absurd (none_upward a b t.one t.other x y t.in_a t.in_b t.meet i);
      };
}

-- where close rectangles touch, no cell fails
pub spacing_by_touch : (rs : List Rectangle) (v : ℕ) → AreTouching v rs → IsEmpty (FailsSpacing (Covers rs) v)
spacing_by_touch rs v are = spacing rs v (spaced_by v rs are)
