-- A channel line by line: the nets with places at a line, the trunks that hold it, and tracks for them.
use Rattle.std.specs.Prelude.{ℕ, ◌≡◌, ◌≢◌, ◌<◌, ◌&&◌, ◌||◌, ◌==◌, ltb, not, cond, Bool, true, false}
use Rattle.std.specs.Prelude.{List, [], ◌∷◌, Option, Some, None}
use Rattle.cell_num.specs.declared.net.NetNo.{NetNo}
use Rattle.cell_num.specs.declared.net.Pins.{Pins}
use Rattle.cell_num.specs.Pins.{is_rail}
use Rattle.track_ways.specs.declared.line.Line.{Line}

abbrev pub is_net : Option NetNo → NetNo → Bool
is_net None net = false
is_net (Some x) net = x.0 == net.0

abbrev pub has_place : Line → NetNo → Bool
has_place line net = is_net line.p net || (is_net line.n net || is_net line.gate net)

-- the net has places in both rows at the line
abbrev pub is_twice : Line → NetNo → Bool
is_twice line net = is_net line.p net && is_net line.n net

-- a place at one of the lines
abbrev pub is_ahead : List Line → NetNo → Bool
is_ahead [] net = false
is_ahead (line ∷ lines) net = has_place line net || is_ahead lines net

-- the nets with a place so far, and those of one more line
abbrev pub with_line : (NetNo → Bool) → Line → NetNo → Bool
with_line before line net = before net || has_place line net

-- Open between two lines: the net has a place before and one after, so a trunk of it goes through.
abbrev pub is_open : Pins → (NetNo → Bool) → (NetNo → Bool) → NetNo → Bool
is_open pins before behind net = not (is_rail pins net) && (before net && behind net)

-- a net with a place at the line has a trunk: it has another place, or is a pin
abbrev pub begins_or_ends : Pins → (NetNo → Bool) → Line → (NetNo → Bool) → NetNo → Bool
begins_or_ends pins before line behind net =
    has_place line net && (before net || (behind net || (is_twice line net || ltb net.0 pins.pins)))

-- a trunk of the net holds the line
abbrev pub is_held : Pins → (NetNo → Bool) → Line → (NetNo → Bool) → NetNo → Bool
is_held pins before line behind net =
    not (is_rail pins net) && ((before net && behind net) || begins_or_ends pins before line behind net)

-- Tracks below a limit for the nets whose trunks hold a line: different nets have different ones, and the
-- net in the P row has a higher one than the net in the N row.
pub record LineFits
    (pins : Pins) (limit : ℕ) (track : NetNo → ℕ) (before : NetNo → Bool) (line : Line) (behind : NetNo → Bool)
    : Type 0 where
  pub low : (net : NetNo) → is_held pins before line behind net ≡ true → track net < limit
  pub apart : (a b : NetNo)
      → is_held pins before line behind a ≡ true → is_held pins before line behind b ≡ true → track a ≡ track b → a ≡ b
  pub above : (upper lower : NetNo) → line.p ≡ Some upper → line.n ≡ Some lower → upper ≢ lower
      → is_held pins before line behind upper ≡ true → is_held pins before line behind lower ≡ true
      → track lower < track upper

-- one track for each net fits every line
abbrev pub Fits : Pins → ℕ → (NetNo → ℕ) → (NetNo → Bool) → List Line → Type 0
Fits pins limit track before [] = Unit {0}
Fits pins limit track before (line ∷ rest) =
    LineFits pins limit track before line (is_ahead rest) × Fits pins limit track (with_line before line) rest

-- the tracks are the same for each net that is open
abbrev pub Agrees : Pins → (NetNo → Bool) → (NetNo → Bool) → (NetNo → ℕ) → (NetNo → ℕ) → Type 0
Agrees pins before behind a b = (net : NetNo) → is_open pins before behind net ≡ true → b net ≡ a net

-- what a rule asks at a line, of the tracks before it and of those at it or after it
abbrev pub LineRule : Type 1
LineRule = Pins → ℕ → (NetNo → ℕ) → (NetNo → Bool) → Line → (NetNo → Bool) → (NetNo → ℕ) → Type 0

-- Nets go straight through the line: those that are open before it keep their tracks, and the tracks at it fit.
pub record StraightFits
    (pins : Pins) (limit : ℕ) (track : NetNo → ℕ) (before : NetNo → Bool) (line : Line) (after : NetNo → Bool)
    (next : NetNo → ℕ) : Type 0 where
  pub same : Agrees pins before (λ net. has_place line net || after net) track next
  pub fits : LineFits pins limit next before line after

-- tracks line by line, by a rule
abbrev pub SweepsBy : LineRule → Pins → ℕ → (NetNo → Bool) → (NetNo → ℕ) → List Line → Type 0
SweepsBy rule pins limit before track [] = Unit {0}
SweepsBy rule pins limit before track (line ∷ rest) =
    (next : NetNo → ℕ) × rule pins limit track before line (is_ahead rest) next
    × SweepsBy rule pins limit (with_line before line) next rest

-- The same through some lines, from tracks before them to tracks after them; `after` has the nets with a place after
-- them.
abbrev pub PassesBy :
    LineRule → Pins → ℕ → (NetNo → Bool) → (NetNo → ℕ) → List Line → (NetNo → Bool) → (NetNo → ℕ) → Type 0
PassesBy rule pins limit before track [] after last = Agrees pins before after track last
PassesBy rule pins limit before track (line ∷ rest) after last =
    (next : NetNo → ℕ) × rule pins limit track before line (λ net. is_ahead rest net || after net) next
    × PassesBy rule pins limit (with_line before line) next rest after last

-- tracks line by line where nets go straight
abbrev pub Sweeps : Pins → ℕ → (NetNo → Bool) → (NetNo → ℕ) → List Line → Type 0
Sweeps = SweepsBy StraightFits

abbrev pub Passes : Pins → ℕ → (NetNo → Bool) → (NetNo → ℕ) → List Line → (NetNo → Bool) → (NetNo → ℕ) → Type 0
Passes = PassesBy StraightFits

-- the tracks before a line, with those that `next` gives the nets with a place at it
abbrev pub chosen : Line → (NetNo → ℕ) → (NetNo → ℕ) → NetNo → ℕ
chosen line next track net = cond (has_place line net) (next net) (track net)
