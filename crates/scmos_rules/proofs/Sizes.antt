-- Size: squares of which no two different ones touch.
use Rattle.std.proofs.Common.{◌≡◌, ℕ, ℤ, pos, ◌-ℤ◌, List, arith, inl, inr, refl, sym, subst}
use Rattle.std.specs.List.{All, Contains}
use Rattle.std.proofs.lemmas.Int.{ints, by_lt_z}
use Rattle.std.proofs.lemmas.List.Elements.{All-contains}
use Rattle.box_geom.specs.Rectangle.{Rectangle, Holds, Covers}
use Rattle.box_geom.specs.Touching.{Cell, Edge, to_right, to_left, upward, downward}
use Rattle.box_geom.specs.Runs.{IsOff}
use Rattle.box_geom.specs.Regions.{IsEmpty}
use Rattle.scmos_rules.specs.Lengths.{FailsSize}
use Rattle.scmos_rules.specs.Conditions.{IsSquare, AreAlone}

-- a covered cell that shares an edge with a cell of a lone rectangle is in that rectangle
beside : (rs : List Rectangle) → AreAlone rs → (r : Rectangle) → Contains rs r → (c d : Cell) → Edge c d → Holds r c.x c.y → Covers rs d.x d.y → Holds r d.x d.y
beside rs alone r listed c d edge h q =
    let same : r ≡ q.rect = alone.same r q.rect listed q.listed (record { one = c; other = d; in_a = h; in_b = q.holds; meet = inr edge }) in
    subst (λ z. Holds z d.x d.y) (sym same) q.holds

abbrev at : ℤ → ℤ → Cell
at x y = record { x = x; y = y }

row_size : (rs : List Rectangle) (v : ℕ) → All (IsSquare v) rs → AreAlone rs → (x y : ℤ) → Covers rs x y → IsOff (λ z. Covers rs z y) v x → ⊥
row_size rs v square alone x y c o =
    let r = c.rect in
    let h = c.holds in
    let n = o.run in
    let sq : IsSquare v r = All-contains (IsSquare v) rs r square c.listed in
    by_lt_z r.x1 o.a
    (λ less. n.before (record { rect = r; listed = c.listed; holds = omega (arith, ints) }))
    (λ most. by_lt_z o.b r.x2
    (λ less. n.behind (record { rect = r; listed = c.listed; holds = omega (arith, ints) }))
    (λ rest. by_lt_z o.a r.x1
    (λ more.
    let mine : Holds r (r.x1 -ℤ pos 1) y = beside rs alone r c.listed (at r.x1 y) (at (r.x1 -ℤ pos 1) y) (to_left (omega (arith, ints)) refl) (omega (arith, ints)) (n.all (r.x1 -ℤ pos 1) (omega (arith, ints)) (omega (arith, ints))) in
    omega (arith, ints))
    (λ even. by_lt_z r.x2 o.b
    (λ more.
    let mine : Holds r r.x2 y = beside rs alone r c.listed (at (r.x2 -ℤ pos 1) y) (at r.x2 y) (to_right (omega (arith, ints)) refl) (omega (arith, ints)) (n.all r.x2 (omega (arith, ints)) more) in
    omega (arith, ints))
    (λ all. o.off (omega (arith, ints))))))

column_size : (rs : List Rectangle) (v : ℕ) → All (IsSquare v) rs → AreAlone rs → (x y : ℤ) → Covers rs x y → IsOff (λ z. Covers rs x z) v y → ⊥
column_size rs v square alone x y c o =
    let r = c.rect in
    let h = c.holds in
    let n = o.run in
    let sq : IsSquare v r = All-contains (IsSquare v) rs r square c.listed in
    by_lt_z r.y1 o.a
    (λ less. n.before (record { rect = r; listed = c.listed; holds = omega (arith, ints) }))
    (λ most. by_lt_z o.b r.y2
    (λ less. n.behind (record { rect = r; listed = c.listed; holds = omega (arith, ints) }))
    (λ rest. by_lt_z o.a r.y1
    (λ more.
    let mine : Holds r x (r.y1 -ℤ pos 1) = beside rs alone r c.listed (at x r.y1) (at x (r.y1 -ℤ pos 1)) (downward refl (omega (arith, ints))) (omega (arith, ints)) (n.all (r.y1 -ℤ pos 1) (omega (arith, ints)) (omega (arith, ints))) in
    omega (arith, ints))
    (λ even. by_lt_z r.y2 o.b
    (λ more.
    let mine : Holds r x r.y2 = beside rs alone r c.listed (at x (r.y2 -ℤ pos 1)) (at x r.y2) (upward refl (omega (arith, ints))) (omega (arith, ints)) (n.all r.y2 (omega (arith, ints)) more) in
    omega (arith, ints))
    (λ all. o.off (omega (arith, ints))))))

pub size : (rs : List Rectangle) (v : ℕ) → All (IsSquare v) rs → AreAlone rs → IsEmpty (FailsSize (Covers rs) v)
size rs v square alone x y f = elim f.off [ inl o ↦ row_size rs v square alone x y f.covered o | inr o ↦ column_size rs v square alone x y f.covered o ]
