-- The distance of facing edges.
use Rattle.std.proofs.Common.{◌≡◌, ◌↔◌, IfSome, IsNone, int_le, ℤ, pos, ◌+ℤ◌, ◌-ℤ◌, ◌≤ℤ◌, ◌<ℤ◌, Bool, true, false, unsigned_abs, if◌then◌else◌, arith, inl, inr, ◌⊎◌, refl}
use Rattle.std.specs.Bool.{Decides}
use Rattle.std.specs.Int.{int_max}
use Rattle.std.proofs.lemmas.Int.{ints, clamps, by_lt_z}
use Rattle.std.proofs.lemmas.Bool.Decides.{Decides-like}
use Rattle.box_geom.specs.Rectangle.{Rectangle, IsProper}
use Rattle.box_geom.specs.Comparisons.{overlapping, gap_of, gap_by, gap_between}
use Rattle.box_geom.specs.Touching.{Overlap, ShareRow, ShareColumn, Face, FaceInNeither}
use Rattle.box_geom.proofs.Spans.{int_le_decides, overlap_decides}

row_of : (a b : Rectangle) → IsProper a → IsProper b → (a.y1 <ℤ b.y2) × (b.y1 <ℤ a.y2) → ShareRow a b
row_of a b ra rb (l, h) = record { y = int_max a.y1 b.y1; a_low = omega (arith, ints, clamps); a_high = omega (arith, ints, clamps); b_low = omega (arith, ints, clamps); b_high = omega (arith, ints, clamps) }

column_of : (a b : Rectangle) → IsProper a → IsProper b → (a.x1 <ℤ b.x2) × (b.x1 <ℤ a.x2) → ShareColumn a b
column_of a b ra rb (l, h) = record { x = int_max a.x1 b.x1; a_left = omega (arith, ints, clamps); a_right = omega (arith, ints, clamps); b_left = omega (arith, ints, clamps); b_right = omega (arith, ints, clamps) }

row_decides : (a b : Rectangle) → IsProper a → IsProper b → Decides (overlapping a.y1 a.y2 b.y1 b.y2) (ShareRow a b)
row_decides a b ra rb = Decides-like (overlapping a.y1 a.y2 b.y1 b.y2) (row_of a b ra rb) (λ s. (omega (arith, ints), omega (arith, ints))) (overlap_decides a.y1 a.y2 b.y1 b.y2)

column_decides : (a b : Rectangle) → IsProper a → IsProper b → Decides (overlapping a.x1 a.x2 b.x1 b.x2) (ShareColumn a b)
column_decides a b ra rb = Decides-like (overlapping a.x1 a.x2 b.x1 b.x2) (column_of a b ra rb) (λ s. (omega (arith, ints), omega (arith, ints))) (overlap_decides a.x1 a.x2 b.x1 b.x2)

gap_is : (a b c d : ℤ) → ((a <ℤ d) × (c <ℤ b) → ⊥) → (c ≡ b +ℤ pos (gap_of a b c d)) ⊎ (a ≡ d +ℤ pos (gap_of a b c d))
unfolding gap_of
gap_is a b c d apart = by (int_le b c) (int_le_decides b c)
  where
    by : (t : Bool) → Decides t (b ≤ℤ c) → (c ≡ b +ℤ pos (if t then unsigned_abs (c -ℤ b) else unsigned_abs (a -ℤ d))) ⊎ (a ≡ d +ℤ pos (if t then unsigned_abs (c -ℤ b) else unsigned_abs (a -ℤ d)))
    by true is = let le : b ≤ℤ c = is.0 refl in inl (omega (arith, ints))
    by false is =
        let less : c <ℤ b = by_lt_z c b (λ l. l) (λ m. absurd (cc (is.1 m))) in
        let behind : d ≤ℤ a = by_lt_z a d (λ l. absurd (apart (l, less))) (λ m. m) in
        inr (omega (arith, ints))

faces_by : (a b : Rectangle) (rows columns : Bool) → Decides rows (ShareRow a b) → Decides columns (ShareColumn a b) → ((columns ≡ false) → (a.x1 <ℤ b.x2) × (b.x1 <ℤ a.x2) → ⊥) → ((rows ≡ false) → (a.y1 <ℤ b.y2) × (b.y1 <ℤ a.y2) → ⊥) → IfSome (gap_by rows columns a b) (λ d. Face a b d)
faces_by a b true true r c ac ar = tt
faces_by a b true false r c ac ar = inl (record { row = r.0 refl; gap = gap_is a.x1 a.x2 b.x1 b.x2 (ac refl) })
faces_by a b false true r c ac ar = inr (record { column = c.0 refl; gap = gap_is a.y1 a.y2 b.y1 b.y2 (ar refl) })
faces_by a b false false r c ac ar = tt

pub faces : (a b : Rectangle) → IsProper a → IsProper b → IfSome (gap_between a b) (λ d. Face a b d)
faces a b ra rb =
    faces_by a b (overlapping a.y1 a.y2 b.y1 b.y2) (overlapping a.x1 a.x2 b.x1 b.x2) (row_decides a b ra rb) (column_decides a b ra rb)
    (λ e h. let t = (overlap_decides a.x1 a.x2 b.x1 b.x2).1 h in cc)
    (λ e h. let t = (overlap_decides a.y1 a.y2 b.y1 b.y2).1 h in cc)

share_row : (a b : Rectangle) → Overlap a b → ShareRow a b
share_row a b o = let h = o.in_a in let k = o.in_b in record { y = o.y; a_low = h.low; a_high = h.high; b_low = k.low; b_high = k.high }

share_column : (a b : Rectangle) → Overlap a b → ShareColumn a b
share_column a b o = let h = o.in_a in let k = o.in_b in record { x = o.x; a_left = h.left; a_right = h.right; b_left = k.left; b_right = k.right }

faces_not_by : (a b : Rectangle) (rows columns : Bool) → Decides rows (ShareRow a b) → Decides columns (ShareColumn a b) → IsNone (gap_by rows columns a b) ↔ (Overlap a b ⊎ FaceInNeither a b)
faces_not_by a b true true r c =
    (λ e. let row = r.0 refl in let column = c.0 refl in inl (record { x = column.x; y = row.y; in_a = omega (arith, ints); in_b = omega (arith, ints) }), λ e. refl)
faces_not_by a b true false r c =
    (λ e. absurd (cc e), λ e. elim e [ inl o ↦ absurd (cc (c.1 (share_column a b o))) | inr n ↦ absurd (n.row (r.0 refl)) ])
faces_not_by a b false true r c =
    (λ e. absurd (cc e), λ e. elim e [ inl o ↦ absurd (cc (r.1 (share_row a b o))) | inr n ↦ absurd (n.column (c.0 refl)) ])
faces_not_by a b false false r c =
    (λ e. inr (record { row = λ s. absurd (cc (r.1 s)); column = λ s. absurd (cc (c.1 s)) }), λ e. refl)

pub faces_not : (a b : Rectangle) → IsProper a → IsProper b → IsNone (gap_between a b) ↔ (Overlap a b ⊎ FaceInNeither a b)
faces_not a b ra rb = faces_not_by a b (overlapping a.y1 a.y2 b.y1 b.y2) (overlapping a.x1 a.x2 b.x1 b.x2) (row_decides a b ra rb) (column_decides a b ra rb)
