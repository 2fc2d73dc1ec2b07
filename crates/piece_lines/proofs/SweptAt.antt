-- Tracks through lines, line by line and by the number of the line.
use Rattle.std.proofs.Common.{ℕ, zero, suc, ◌≡◌, ◌++◌, ◌||◌, Bool, true, false, List, [], ◌∷◌, length, refl, sym, ap, subst}
use Rattle.cell_num.specs.declared.net.NetNo.{NetNo}
use Rattle.cell_num.specs.declared.net.Pins.{Pins}
use Rattle.track_ways.specs.declared.line.Line.{Line}
use Rattle.track_ways.specs.Lines.{has_place, is_ahead, with_line}
use Rattle.track_ways.proofs.Holding.{Split}
use Rattle.track_ways.proofs.LineParts.{same_tests}
use Rattle.piece_lines.specs.Lines.{PieceLineFits, PieceSweeps}

-- the tracks into a line: those out of the line before it
abbrev pub into_at : (NetNo → ℕ) → (ℕ → NetNo → ℕ) → ℕ → NetNo → ℕ
into_at track outs zero = track
into_at track outs (suc k) = outs k

-- the tracks fit each of the lines
abbrev pub FitEach : Pins → ℕ → (NetNo → Bool) → (NetNo → ℕ) → List Line → (ℕ → NetNo → ℕ) → Type 0
FitEach pins limit before track lines outs =
    (k : ℕ) (front : List Line) (line : Line) (rest : List Line) → Split lines k front line rest
    → PieceLineFits pins limit (into_at track outs k) (λ net. before net || is_ahead front net) line (is_ahead rest) (outs k)

-- the nets with a place so far, by a test that is the same
fits_before : (pins : Pins) (limit : ℕ) (into out : NetNo → ℕ) (a b : NetNo → Bool) (line : Line) (after : NetNo → Bool) → ((net : NetNo) → a net ≡ b net) → PieceLineFits pins limit into a line after out → PieceLineFits pins limit into b line after out
fits_before pins limit into out a b line after same f = subst (λ (before : NetNo → Bool). PieceLineFits pins limit into before line after out) (same_tests a b same) f

or_none : (b : Bool) → (b || false) ≡ b
or_none true = refl
or_none false = refl

or_assoc : (a b c : Bool) → ((a || b) || c) ≡ (a || (b || c))
or_assoc true b c = refl
or_assoc false b c = refl

into_shift : (track : NetNo → ℕ) (outs : ℕ → NetNo → ℕ) (k : ℕ) → into_at track outs (suc k) ≡ into_at (outs 0) (λ i. outs (suc i)) k
into_shift track outs zero = refl
into_shift track outs (suc k) = refl

pub sweeps_of_each : (pins : Pins) (limit : ℕ) (before : NetNo → Bool) (track : NetNo → ℕ) (lines : List Line) (outs : ℕ → NetNo → ℕ) → FitEach pins limit before track lines outs → PieceSweeps pins limit before track lines
sweeps_of_each pins limit before track [] outs each = tt
sweeps_of_each pins limit before track (line ∷ rest) outs each = (
  outs 0,
  fits_before pins limit track (outs 0) (λ net. before net || false) before line (is_ahead rest) (λ net. or_none (before net)) (each 0 [] line rest (record { is = refl; count = refl })),
  sweeps_of_each pins limit (with_line before line) (outs 0) rest (λ i. outs (suc i)) further,
)
  where
    further : FitEach pins limit (with_line before line) (outs 0) rest (λ i. outs (suc i))
    further k front next more s =
        fits_before pins limit (into_at (outs 0) (λ i. outs (suc i)) k) (outs (suc k)) (λ net. before net || (has_place line net || is_ahead front net)) (λ net. with_line before line net || is_ahead front net) next (is_ahead more) (λ net. sym (or_assoc (before net) (has_place line net) (is_ahead front net)))
        (subst (λ into. PieceLineFits pins limit into (λ net. before net || (has_place line net || is_ahead front net)) next (is_ahead more) (outs (suc k))) (into_shift track outs k)
        (each (suc k) (line ∷ front) next more (record { is = ap (λ ls. line ∷ ls) s.is; count = ap (λ n. suc n) s.count })))

-- the tracks out of each line
abbrev outs_of : (pins : Pins) (limit : ℕ) (before : NetNo → Bool) (track : NetNo → ℕ) (lines : List Line) → PieceSweeps pins limit before track lines → ℕ → NetNo → ℕ
outs_of pins limit before track [] s k = track
outs_of pins limit before track (line ∷ rest) s zero = s.0
outs_of pins limit before track (line ∷ rest) s (suc k) = outs_of pins limit (with_line before line) s.0 rest s.2 k

fits_after : (pins : Pins) (limit : ℕ) (before : NetNo → Bool) (track : NetNo → ℕ) (front : List Line) (line : Line) (rest : List Line) (s : PieceSweeps pins limit before track (front ++ line ∷ rest)) → PieceLineFits pins limit (into_at track (outs_of pins limit before track (front ++ line ∷ rest) s) (length front)) (λ net. before net || is_ahead front net) line (is_ahead rest) (outs_of pins limit before track (front ++ line ∷ rest) s (length front))
fits_after pins limit before track [] line rest s = fits_before pins limit track s.0 before (λ net. before net || false) line (is_ahead rest) (λ net. sym (or_none (before net))) s.1
fits_after pins limit before track (x ∷ front) line rest s =
    fits_before pins limit (into_at track outs (suc (length front))) (outs (suc (length front))) (λ net. with_line before x net || is_ahead front net) (λ net. before net || (has_place x net || is_ahead front net)) line (is_ahead rest) (λ net. or_assoc (before net) (has_place x net) (is_ahead front net))
    (subst (λ into. PieceLineFits pins limit into (λ net. with_line before x net || is_ahead front net) line (is_ahead rest) (outs (suc (length front)))) (sym (into_shift track outs (length front)))
    (fits_after pins limit (with_line before x) s.0 front line rest s.2))
  where
    outs : ℕ → NetNo → ℕ
    outs = outs_of pins limit before track (x ∷ front ++ line ∷ rest) s

pub record Outs (pins : Pins) (limit : ℕ) (before : NetNo → Bool) (track : NetNo → ℕ) (lines : List Line) : Type 0 where
  pub outs : ℕ → NetNo → ℕ
  pub each : FitEach pins limit before track lines outs

pub each_of_sweeps : (pins : Pins) (limit : ℕ) (before : NetNo → Bool) (track : NetNo → ℕ) (lines : List Line) → PieceSweeps pins limit before track lines → Outs pins limit before track lines
each_of_sweeps pins limit before track lines s = record { outs = outs_of pins limit before track lines s; each = λ k front line rest q. by k front line rest q.is q.count }
  where
    by : (k : ℕ) (front : List Line) (line : Line) (rest : List Line) → lines ≡ front ++ line ∷ rest → length front ≡ k → PieceLineFits pins limit (into_at track (outs_of pins limit before track lines s) k) (λ net. before net || is_ahead front net) line (is_ahead rest) (outs_of pins limit before track lines s k)
    by k front line rest is count =
        subst (λ n. PieceLineFits pins limit (into_at track (outs_of pins limit before track lines s) n) (λ net. before net || is_ahead front net) line (is_ahead rest) (outs_of pins limit before track lines s n)) count
        (subst (λ ls. (q : PieceSweeps pins limit before track ls) → PieceLineFits pins limit (into_at track (outs_of pins limit before track ls q) (length front)) (λ net. before net || is_ahead front net) line (is_ahead rest) (outs_of pins limit before track ls q (length front))) (sym is) (fits_after pins limit before track front line rest) s)
