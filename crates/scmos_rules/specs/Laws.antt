-- What the rules ask of rectangles, as statements.
use Rattle.std.specs.Prelude.{ℕ, ℤ, List, Bool}
use Rattle.std.specs.List.{All}
use Rattle.box_geom.specs.Rectangle.{Rectangle, Covers}
use Rattle.box_geom.specs.Regions.{IsEmpty}
use Rattle.scmos_rules.specs.Lengths.{FailsWidth, FailsSize}
use Rattle.scmos_rules.specs.Failing.{FailsSpacing, FailsSurround, FailsAway}
use Rattle.scmos_rules.specs.Conditions.{IsWide, IsSquare, IsIn, AreSpaced, AreTouching}
use Rattle.scmos_rules.specs.Conditions.{AreAlone, AreClear, Marked, IsBound}

abbrev pub WidthLaw : Type 0
WidthLaw = (rs : List Rectangle) (v : ℕ) → All (IsWide v) rs → IsEmpty (FailsWidth (Covers rs) v)

abbrev pub SpacingLaw : Type 0
SpacingLaw = (rs : List Rectangle) (v : ℕ) → AreSpaced v rs → IsEmpty (FailsSpacing (Covers rs) v)

abbrev pub TouchingLaw : Type 0
TouchingLaw = (rs : List Rectangle) (v : ℕ) → AreTouching v rs → IsEmpty (FailsSpacing (Covers rs) v)

abbrev pub SizeLaw : Type 0
SizeLaw = (rs : List Rectangle) (v : ℕ) → All (IsSquare v) rs → AreAlone rs → IsEmpty (FailsSize (Covers rs) v)

abbrev pub SurroundLaw : Type 0
SurroundLaw =
    (ins outs : List Rectangle) (d : ℕ) → All (IsIn d outs) ins → IsEmpty (FailsSurround (Covers ins) (Covers outs) d)

-- for cells marked among those of a list, and cells marked that hold all of another list
abbrev pub MarkedSurroundLaw : Type 0
MarkedSurroundLaw =
    (p q : ℤ → ℤ → Bool) (ins outs : List Rectangle) (d : ℕ)
    → IsBound (Marked p) (Covers ins)
    → IsBound (Covers outs) (Marked q)
    → All (IsIn d outs) ins
    → IsEmpty (FailsSurround (Marked p) (Marked q) d)

abbrev pub AwayLaw : Type 0
AwayLaw = (ins outs : List Rectangle) (d : ℕ) → AreClear d ins outs → IsEmpty (FailsAway (Covers ins) (Covers outs) d)

-- for cells marked among those of two lists
abbrev pub MarkedAwayLaw : Type 0
MarkedAwayLaw =
    (p q : ℤ → ℤ → Bool) (ins outs : List Rectangle) (d : ℕ)
    → IsBound (Marked p) (Covers ins)
    → IsBound (Marked q) (Covers outs)
    → AreClear d ins outs
    → IsEmpty (FailsAway (Marked p) (Marked q) d)
