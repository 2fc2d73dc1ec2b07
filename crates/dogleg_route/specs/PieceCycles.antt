-- Cycles of pieces that are above each other. A piece is named by its net and its first line.
use Rattle.std.specs.Prelude.{ℕ, ◌≡◌, ◌≢◌, ◌<◌, ◌⊎◌, List, [], ◌∷◌, length, All, AllPairs}
use Rattle.std.specs.Bool.{⊤}
use Rattle.cell_num.specs.declared.net.Pins.{Pins}
use Rattle.row_place.specs.declared.placement.Placement.{Placement}
use Rattle.row_place.specs.Trunks.{IsAbove}
use Rattle.channel_route.specs.declared.routing.WireAbove.{WireAbove}
use Rattle.dogleg_route.specs.declared.piece.PieceStop.{PieceStop}
use Rattle.dogleg_route.specs.declared.piece.PieceStop.TheVariants.{Cycle, NoMemory}
use Rattle.dogleg_route.specs.Pieces.{IsPiece}

-- the first piece is above the second at the line of its entry, where both end
pub record GoesDown (placement : Placement) (pins : Pins) (a b : WireAbove) : Type 0 where
  pub upper_right : ℕ
  pub upper : IsPiece placement pins a.net a.left upper_right
  pub upper_ends : (a.left ≡ a.line) ⊎ (upper_right ≡ a.line)
  pub lower_right : ℕ
  pub lower : IsPiece placement pins b.net b.left lower_right
  pub lower_ends : (b.left ≡ a.line) ⊎ (lower_right ≡ a.line)
  pub over : IsAbove placement pins a.net b.net a.line

abbrev pub next_entry : List WireAbove → WireAbove → WireAbove
next_entry [] back = back
next_entry (a ∷ more) back = a

-- each piece is above the next one, and the last above `back`
abbrev pub IsWalkDown : Placement → Pins → List WireAbove → WireAbove → Type 0
IsWalkDown placement pins [] back = ⊤
IsWalkDown placement pins (a ∷ more) back =
    GoesDown placement pins a (next_entry more back) × IsWalkDown placement pins more back

-- at least two pieces, pairwise different, each above the next and the last above the first
pub record IsRound (placement : Placement) (pins : Pins) (first : WireAbove) (rest : List WireAbove) : Type 0 where
  pub two : 0 < length rest
  pub differ : AllPairs (λ a b. (a.net ≢ b.net) ⊎ (a.left ≢ b.left)) (first ∷ rest)
  pub above : IsWalkDown placement pins (first ∷ rest) first

abbrev pub IsPieceCycle : Placement → Pins → List WireAbove → Type 0
IsPieceCycle placement pins [] = ⊥
IsPieceCycle placement pins (first ∷ rest) = IsRound placement pins first rest

-- the piece of the one entry comes before that of the other, in the order of first line, last line and net
pub record IsEntryEarlier (placement : Placement) (pins : Pins) (a b : WireAbove) : Type 0 where
  pub right : ℕ
  pub piece : IsPiece placement pins a.net a.left right
  pub other_right : ℕ
  pub other : IsPiece placement pins b.net b.left other_right
  pub earlier :
      (a.left < b.left) ⊎ ((a.left ≡ b.left) × ((right < other_right) ⊎ ((right ≡ other_right) × (a.net.0 < b.net.0))))

-- the first entry comes before the others
abbrev pub BeginsFirst : Placement → Pins → List WireAbove → Type 0
BeginsFirst placement pins [] = ⊥
BeginsFirst placement pins (first ∷ rest) = All (IsEntryEarlier placement pins first) rest

-- no list is a cycle of pieces
abbrev pub HasNoPieceCycle : Placement → Pins → Type 0
HasNoPieceCycle placement pins = (cycle : List WireAbove) → IsPieceCycle placement pins cycle → ⊥

-- what stops the router: a cycle of pieces, written from its first one on
abbrev pub IsPieceCause : Placement → Pins → PieceStop → Type 0
IsPieceCause placement pins (Cycle cycle) = IsPieceCycle placement pins cycle × BeginsFirst placement pins cycle
IsPieceCause placement pins NoMemory = ⊤
