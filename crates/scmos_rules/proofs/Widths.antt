-- Width: where all rectangles are wide enough, no cell fails.
use Rattle.std.proofs.Common.{ℕ, ℤ, List, arith, inl, inr}
use Rattle.std.specs.List.{All}
use Rattle.std.proofs.lemmas.Int.{ints, by_lt_z}
use Rattle.std.proofs.lemmas.List.Elements.{All-contains}
use Rattle.box_geom.specs.Rectangle.{Rectangle, Covers}
use Rattle.box_geom.specs.Runs.{IsShort}
use Rattle.box_geom.specs.Regions.{IsEmpty}
use Rattle.scmos_rules.specs.Lengths.{FailsWidth}
use Rattle.scmos_rules.specs.Conditions.{IsWide}

-- a run holds the whole row of a rectangle that it meets
row_run : (rs : List Rectangle) (v : ℕ) (x y : ℤ) (c : Covers rs x y) → IsWide v c.rect → IsShort (λ z. Covers rs z y) v x → ⊥
row_run rs v x y c wide s =
    let h = c.holds in
    let run = s.run in
    by_lt_z c.rect.x1 s.a
    (λ less. run.before (record { rect = c.rect; listed = c.listed; holds = omega (arith, ints) }))
    (λ most. by_lt_z s.b c.rect.x2
    (λ less. run.behind (record { rect = c.rect; listed = c.listed; holds = omega (arith, ints) }))
    (λ rest. omega (arith, ints)))

column_run : (rs : List Rectangle) (v : ℕ) (x y : ℤ) (c : Covers rs x y) → IsWide v c.rect → IsShort (λ z. Covers rs x z) v y → ⊥
column_run rs v x y c wide s =
    let h = c.holds in
    let run = s.run in
    by_lt_z c.rect.y1 s.a
    (λ less. run.before (record { rect = c.rect; listed = c.listed; holds = omega (arith, ints) }))
    (λ most. by_lt_z s.b c.rect.y2
    (λ less. run.behind (record { rect = c.rect; listed = c.listed; holds = omega (arith, ints) }))
    (λ rest. omega (arith, ints)))

pub width : (rs : List Rectangle) (v : ℕ) → All (IsWide v) rs → IsEmpty (FailsWidth (Covers rs) v)
width rs v wide x y f =
    let c = f.covered in
    let w : IsWide v c.rect = All-contains (IsWide v) rs c.rect wide c.listed in
    elim f.short [ inl s ↦ row_run rs v x y c w s | inr s ↦ column_run rs v x y c w s ]
