-- Which cycle of pieces is reported where there are several: that to which a walk leads from the first piece that can
-- not be placed. Each step goes down at the first line at which the piece is above one that can not be placed, and of
-- several there to the first.
use Rattle.std.specs.Prelude.{ℕ, ◌≡◌, ◌<◌, ◌⊎◌, Bool, true, List, [], ◌∷◌}
use Rattle.std.specs.Bool.{⊤}
use Rattle.cell_num.specs.declared.net.NetNo.{NetNo}
use Rattle.cell_num.specs.declared.net.Pins.{Pins}
use Rattle.row_place.specs.declared.placement.Placement.{Placement}
use Rattle.channel_route.specs.declared.routing.WireAbove.{WireAbove}
use Rattle.dogleg_route.specs.declared.piece.PieceStop.{PieceStop}
use Rattle.dogleg_route.specs.declared.piece.PieceStop.TheVariants.{Cycle, NoMemory}
use Rattle.dogleg_route.specs.PieceCycles.{GoesDown, next_entry, IsEntryEarlier}

abbrev pub entry_at : NetNo → ℕ → ℕ → WireAbove
entry_at net left line = record { net = net; left = left; line = line }

-- The piece can not be placed: it is in a set of pieces of which each is above another one of the set.
pub record IsStuckPiece (placement : Placement) (pins : Pins) (net : NetNo) (left : ℕ) : Type 0 where
  pub set : NetNo → ℕ → Bool
  pub there : set net left ≡ true
  pub each :
      (n : NetNo) (l : ℕ) → set n l ≡ true → (line : ℕ) × (lower : WireAbove)
      × GoesDown placement pins (entry_at n l line) lower × (set lower.net lower.left ≡ true)

-- two entries tell one piece
pub record AreOnePiece (a b : WireAbove) : Type 0 where
  pub net : a.net ≡ b.net
  pub left : a.left ≡ b.left

-- the piece of the one entry is that of the other, or comes before it
abbrev pub IsNoLaterEntry : Placement → Pins → WireAbove → WireAbove → Type 0
IsNoLaterEntry placement pins a b = AreOnePiece a b ⊎ IsEntryEarlier placement pins a b

-- the first of the pieces that can not be placed, by first line, last line and net
pub record IsFirstStuckPiece (placement : Placement) (pins : Pins) (e : WireAbove) : Type 0 where
  pub stuck : IsStuckPiece placement pins e.net e.left
  pub none_before : (other : WireAbove) → IsStuckPiece placement pins other.net other.left →
      IsNoLaterEntry placement pins e other

-- one step down
pub record IsPieceStep (placement : Placement) (pins : Pins) (a b : WireAbove) : Type 0 where
  pub over : GoesDown placement pins a b
  pub stuck : IsStuckPiece placement pins b.net b.left
  pub first : (line : ℕ) (other : WireAbove) → GoesDown placement pins (entry_at a.net a.left line) other →
      IsStuckPiece placement pins other.net other.left →
      (a.line < line) ⊎ ((a.line ≡ line) × IsNoLaterEntry placement pins b other)

-- each entry is a step above the next one, and the last above `back`
abbrev pub IsStepwise : Placement → Pins → List WireAbove → WireAbove → Type 0
IsStepwise placement pins [] back = ⊤
IsStepwise placement pins (a ∷ more) back =
    IsPieceStep placement pins a (next_entry more back) × IsStepwise placement pins more back

-- from the first piece that can not be placed steps lead to the cycle, and round it
pub record IsReached (placement : Placement) (pins : Pins) (first : WireAbove) (rest : List WireAbove) : Type 0 where
  pub start : WireAbove
  pub is_first : IsFirstStuckPiece placement pins start
  pub path : List WireAbove
  pub begins : AreOnePiece (next_entry path first) start
  pub down : IsStepwise placement pins path first
  pub round : IsStepwise placement pins (first ∷ rest) first

abbrev pub IsPieceTold : Placement → Pins → List WireAbove → Type 0
IsPieceTold placement pins [] = ⊥
IsPieceTold placement pins (first ∷ rest) = IsReached placement pins first rest

abbrev pub TellsPieces : Placement → Pins → PieceStop → Type 0
TellsPieces placement pins (Cycle cycle) = IsPieceTold placement pins cycle
TellsPieces placement pins NoMemory = ⊤
