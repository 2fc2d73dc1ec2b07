-- A channel line by line where a net may change its track at its node lines: the tracks of its pieces at a line.
use Rattle.std.specs.Prelude.{ℕ, ◌≡◌, ◌≢◌, ◌<◌, ◌⊎◌, ◌||◌, Bool, true, false, List, Some}
use Rattle.cell_num.specs.declared.net.NetNo.{NetNo}
use Rattle.cell_num.specs.declared.net.Pins.{Pins}
use Rattle.track_ways.specs.declared.line.Line.{Line}
use Rattle.track_ways.specs.Lines.{PassesBy, SweepsBy, is_held, is_net, is_open}

-- the net has a node place at the line, where one piece of it may end and the next one begin
abbrev pub may_turn : Line → NetNo → Bool
may_turn line net = is_net line.p net || is_net line.n net

-- The trunk of the net holds the line, and this is the track of its piece that comes to the line, or of the piece that
-- goes on from it. The first piece of a net comes to no line where it begins; the last one goes on from none where it
-- ends.
pub record IsOn
    (pins : Pins) (before : NetNo → Bool) (line : Line) (after : NetNo → Bool) (into out : NetNo → ℕ)
    (net : NetNo) (track : ℕ) : Type 0 where
  pub held : is_held pins before line after net ≡ true
  pub piece :
      ((before net ≡ true) × (track ≡ into net)) ⊎ (((before net ≡ false) ⊎ (after net ≡ true)) × (track ≡ out net))

-- Tracks below a limit for the pieces that hold a line: different nets are on different ones, each track of the net in
-- the P row is higher than each of the net in the N row, and a net that goes through without a node place keeps its
-- track.
pub record PieceLineFits
    (pins : Pins) (limit : ℕ) (into : NetNo → ℕ) (before : NetNo → Bool) (line : Line) (after : NetNo → Bool)
    (out : NetNo → ℕ) : Type 0 where
  pub low : (net : NetNo) (track : ℕ) → IsOn pins before line after into out net track → track < limit
  pub apart : (a b : NetNo) (track : ℕ)
      → IsOn pins before line after into out a track → IsOn pins before line after into out b track → a ≡ b
  pub above : (upper lower : NetNo) (high low' : ℕ) → line.p ≡ Some upper → line.n ≡ Some lower → upper ≢ lower
      → IsOn pins before line after into out upper high → IsOn pins before line after into out lower low' → low' < high
  pub straight : (net : NetNo)
      → is_open pins before after net ≡ true → may_turn line net ≡ false → out net ≡ into net

-- tracks line by line: those out of a line are those into the next one, of which the ones of open nets alone count
abbrev pub PieceSweeps : Pins → ℕ → (NetNo → Bool) → (NetNo → ℕ) → List Line → Type 0
PieceSweeps = SweepsBy PieceLineFits

-- the same through some lines, from tracks before them to tracks after them
abbrev pub PiecePasses :
    Pins → ℕ → (NetNo → Bool) → (NetNo → ℕ) → List Line → (NetNo → Bool) → (NetNo → ℕ) → Type 0
PiecePasses = PassesBy PieceLineFits
