-- Surround and away: what the cells near a covered cell must be, or must not.
use Rattle.std.proofs.Common.{ℕ, ℤ, List, arith, inl, inr}
use Rattle.std.specs.List.{All}
use Rattle.std.proofs.lemmas.Int.{ints}
use Rattle.std.proofs.lemmas.List.Elements.{All-contains}
use Rattle.box_geom.specs.Rectangle.{Rectangle, Holds, Covers}
use Rattle.box_geom.specs.Near.{Near}
use Rattle.box_geom.specs.Regions.{IsEmpty}
use Rattle.scmos_rules.specs.Failing.{FailsSurround, FailsAway}
use Rattle.scmos_rules.specs.Conditions.{IsIn, Clear, AreClear, IsBound}

-- Where each rectangle of a list, grown by d, lies in one of another list, no cell fails.
pub surround : (ins outs : List Rectangle) (d : ℕ) → All (IsIn d outs) ins → IsEmpty (FailsSurround (Covers ins) (Covers outs) d)
surround ins outs d inside x y f =
    let c = f.covered in
    let i : IsIn d outs c.rect = All-contains (IsIn d outs) ins c.rect inside c.listed in
    f.out (record { rect = i.outer; listed = i.listed; holds = omega (arith, ints) })

-- the same for sets that the rectangles only bound
pub surround_of : (P Q : ℤ → ℤ → Type 0) (ins outs : List Rectangle) (d : ℕ) → IsBound P (Covers ins) → IsBound (Covers outs) Q → All (IsIn d outs) ins → IsEmpty (FailsSurround P Q d)
surround_of P Q ins outs d into onto inside x y f = surround ins outs d inside x y (record { covered = into x y f.covered; s = f.s; t = f.t; near = f.near; out = λ c. f.out (onto f.s f.t c) })

far : (d : ℕ) (a b : Rectangle) (x y s t : ℤ) → Clear d a b → Holds a x y → Holds b s t → Near d x y s t → ⊥
far d a b x y s t (inl e) h k n = omega (arith, ints)
far d a b x y s t (inr (inl e)) h k n = omega (arith, ints)
far d a b x y s t (inr (inr (inl e))) h k n = omega (arith, ints)
far d a b x y s t (inr (inr (inr e))) h k n = omega (arith, ints)

-- Where no rectangle of a list, grown by d, has a cell in common with one of another list, no cell fails.
pub away : (ins outs : List Rectangle) (d : ℕ) → AreClear d ins outs → IsEmpty (FailsAway (Covers ins) (Covers outs) d)
away ins outs d are x y f =
    let c = f.covered in
    let w = f.within in
    far d c.rect w.rect x y f.s f.t (are.clear c.rect w.rect c.listed w.listed) c.holds w.holds f.near

pub away_of : (P Q : ℤ → ℤ → Type 0) (ins outs : List Rectangle) (d : ℕ) → IsBound P (Covers ins) → IsBound Q (Covers outs) → AreClear d ins outs → IsEmpty (FailsAway P Q d)
away_of P Q ins outs d into onto are x y f = away ins outs d are x y (record { covered = into x y f.covered; s = f.s; t = f.t; near = f.near; within = onto f.s f.t f.within })
