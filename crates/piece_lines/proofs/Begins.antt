-- Whether a piece of a net begins at a line.
use Rattle.std.proofs.Common.{ℕ, ◌≡◌, ◌<◌, ◌≤◌, ◌⊎◌, true, false, List, length, inl, inr, sym, subst, arith, Contains}
use Rattle.std.proofs.lemmas.Bool.{cases_Bool, cases_lt}
use Rattle.std.proofs.lemmas.List.Elements.{All-contains}
use Rattle.cell_num.specs.declared.net.NetNo.{NetNo}
use Rattle.cell_num.specs.declared.net.Pins.{Pins}
use Rattle.cell_num.specs.Pins.{IsRail, is_rail}
use Rattle.row_place.specs.declared.placement.Placement.{Placement}
use Rattle.row_place.specs.Trunks.{lines_of, HasTrunk, IsSpan}
use Rattle.dogleg_route.specs.Pieces.{IsRange, IsMark, IsPiece}
use Rattle.dogleg_route.proofs.Marks.{NextPiece, next_piece, mark_place, one_line}
use Rattle.dogleg_route.proofs.Holding.{HeldBy, LastOf, last_of, piece_at}
use Rattle.track_ways.specs.declared.line.Line.{Line}
use Rattle.track_ways.specs.Lines.{has_place}
use Rattle.track_ways.specs.Channel.{AreLinesOf}
use Rattle.track_ways.proofs.Places.{at_line, line_at, at_lines}
use Rattle.track_ways.proofs.Holding.{rail_decides}

-- a piece of the net begins at the line, or none does
abbrev pub Begins : Placement → Pins → NetNo → ℕ → Type 0
Begins p pins net l = ((r : ℕ) × IsPiece p pins net l r) ⊎ ((r : ℕ) → IsPiece p pins net l r → ⊥)

has_trunk : (p : Placement) (pins : Pins) (net : NetNo) → HasTrunk p pins net ⊎ (HasTrunk p pins net → ⊥)
has_trunk p pins net = elim (cases_Bool (is_rail pins net)) [
  | inl rail ↦ inr (λ t. t.0 ((rail_decides pins net).0 rail))
  | inr signal ↦ elim (cases_lt 1 (length (lines_of p net))) [
    | inl two ↦ inl (no_rail signal, inl (omega (arith, two)))
    | inr few ↦ elim (cases_lt net.0 pins.pins) [ inl pin ↦ inl (no_rail signal, inr pin) | inr other ↦ inr (λ t. none t.1 few other) ]
  ]
]
  where
    no_rail : is_rail pins net ≡ false → IsRail pins net → ⊥
    no_rail e rail = let t : is_rail pins net ≡ true = (rail_decides pins net).1 rail in cc

    none : (2 ≤ length (lines_of p net)) ⊎ (net.0 < pins.pins) → length (lines_of p net) ≤ 1 → pins.pins ≤ net.0 → ⊥
    none (inl two) few other = omega (arith, two, few)
    none (inr pin) few other = omega (arith, pin, other)

has_place_at : (p : Placement) (lines : List Line) → AreLinesOf p lines → (net : NetNo) (l : ℕ) → Contains (lines_of p net) l ⊎ (Contains (lines_of p net) l → ⊥)
has_place_at p lines h net l = elim (cases_Bool (at_line lines l (λ line. has_place line net))) [
  | inl e ↦ inl (at_lines p lines h net l e)
  | inr e ↦ inr (λ there. let t : at_line lines l (λ line. has_place line net) ≡ true = line_at p lines h net l there in cc)
]

begins_at : (p : Placement) (pins : Pins) (net : NetNo) (l : ℕ) → HasTrunk p pins net → Contains (lines_of p net) l → Begins p pins net l
begins_at p pins net l trunk there = by (piece_at p pins net l trunk there)
  where
    alone : (b : HeldBy p pins net l) → b.left < l → (last : ℕ) → last ≤ l → ((z : ℕ) → Contains (lines_of p net) z → z ≤ last) → (r : ℕ) → IsPiece p pins net l r → ⊥
    alone b less last low most r x = no x.range
      where
        no : IsRange p net l r → ⊥
        no (inl more) = omega (arith, more, most r (mark_place p net r x.ends), low)
        no (inr (same, span)) = omega (arith, less, one_line p net l b.left (subst (λ z. IsSpan p net l z) (sym same) span) (mark_place p net b.left b.piece.begins))

    next : (b : HeldBy p pins net l) → b.left < l → b.right ≡ l → LastOf p net l → Begins p pins net l
    next b less is e = elim (cases_lt l e.last) [
      | inl more ↦ let n : NextPiece p pins net l e.last = next_piece p pins net l e.last trunk (subst (λ z. IsMark p net z) is b.piece.ends) e.is more in inl (n.at, n.piece)
      | inr last ↦ inr (alone b less e.last last (λ z at. All-contains (λ m. m ≤ e.last) (lines_of p net) z e.is.none_behind at))
    ]

    by : HeldBy p pins net l → Begins p pins net l
    by b = elim (cases_lt b.left l) [
      | inr back ↦ inl (b.right, subst (λ z. IsPiece p pins net z b.right) (let z : b.left ≡ l = omega (arith, back, b.begins) in z) b.piece)
      | inl less ↦ elim (cases_lt l b.right) [
        | inl inside ↦ inr (λ r x. b.piece.none_between l x.begins less inside)
        | inr end ↦ next b less (omega (arith, end, b.ends)) (last_of p net l there)
      ]
    ]

pub begins : (p : Placement) (pins : Pins) (lines : List Line) → AreLinesOf p lines → (net : NetNo) (l : ℕ) → Begins p pins net l
begins p pins lines h net l = elim (has_trunk p pins net) [
  | inr none ↦ inr (λ r x. none x.trunk)
  | inl trunk ↦ elim (has_place_at p lines h net l) [ inr none ↦ inr (λ r x. none (mark_place p net l x.begins)) | inl there ↦ begins_at p pins net l trunk there ]
]
