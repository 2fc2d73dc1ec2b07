-- The piece of a net that goes on after a line.
use Rattle.std.proofs.Common.{ℕ, zero, suc, ◌+◌, ◌<◌, ◌≤◌, inl, inr, arith, Contains}
use Rattle.std.proofs.lemmas.Bool.{cases_lt}
use Rattle.cell_num.specs.declared.net.NetNo.{NetNo}
use Rattle.cell_num.specs.declared.net.Pins.{Pins}
use Rattle.row_place.specs.declared.placement.Placement.{Placement}
use Rattle.row_place.specs.Trunks.{lines_of, HasTrunk}
use Rattle.dogleg_route.specs.Pieces.{IsLast, IsMark, IsPiece}
use Rattle.dogleg_route.proofs.Marks.{NextPiece, next_piece}
use Rattle.dogleg_route.proofs.Holding.{HeldBy, LastOf, last_of, piece_at}

pub record GoesOn (p : Placement) (pins : Pins) (net : NetNo) (line : ℕ) : Type 0 where
  pub left : ℕ
  pub right : ℕ
  pub piece : IsPiece p pins net left right
  pub begins : left ≤ line
  pub beyond : line < right

goes_from : (p : Placement) (pins : Pins) (net : NetNo) (last line : ℕ) → HasTrunk p pins net → IsLast p net last → line < last → (n m : ℕ) → IsMark p net m → m ≤ line → line < m + n → GoesOn p pins net line
goes_from p pins net last line trunk end within zero m mark low fuel = absurd (omega (arith, low, fuel))
goes_from p pins net last line trunk end within (suc n) m mark low fuel =
    let next : NextPiece p pins net m last = next_piece p pins net m last trunk mark end (omega (arith, low, within)) in
    elim (cases_lt line next.at) [
      | inl beyond ↦ record { left = m; right = next.at; piece = next.piece; begins = low; beyond = beyond }
      | inr back ↦ goes_from p pins net last line trunk end within n next.at next.piece.ends back (omega (arith, fuel, next.beyond))
    ]

-- a net with a place at the line or before it, and one after it
pub goes_on : (p : Placement) (pins : Pins) (net : NetNo) (line early late : ℕ) → HasTrunk p pins net → Contains (lines_of p net) early → early ≤ line → Contains (lines_of p net) late → line < late → GoesOn p pins net line
goes_on p pins net line early late trunk there low later high =
    let h : HeldBy p pins net early = piece_at p pins net early trunk there in
    let l : LastOf p net late = last_of p net late later in
    goes_from p pins net l.last line trunk l.is (omega (arith, high, l.low)) (suc line) h.left h.piece.begins (omega (arith, h.begins, low)) (omega arith)
