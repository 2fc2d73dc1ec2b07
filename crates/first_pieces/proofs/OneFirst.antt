-- On some number of tracks a placement has one first routing by pieces at most.
use Rattle.std.proofs.Common.{ℕ, ◌≡◌, ◌<◌, ◌⊎◌, inl, inr, sym, ap, arith, ◌∙◌}
use Rattle.std.proofs.lemmas.Bool.{cases_order}
use Rattle.cell_num.specs.declared.net.NetNo.{NetNo}
use Rattle.cell_num.specs.declared.net.Pins.{Pins}
use Rattle.row_place.specs.declared.placement.Placement.{Placement}
use Rattle.channel_route.specs.declared.routing.Trunk.{Trunk}
use Rattle.channel_route.proofs.TrunkChannel.{net_of}
use Rattle.dogleg_route.specs.declared.piece.PieceRouting.{PieceRouting}
use Rattle.dogleg_route.specs.Routings.{ArePiecesLegal, IsPieceEarlier}
use Rattle.first_pieces.specs.First.{IsFirstPieces, IsLowerAt, IsSamePiece}
use Rattle.first_pieces.proofs.Tracks.{one_piece}

-- of two pieces one comes earlier, or they are the same
either_earlier : (a b : Trunk) → IsSamePiece a b ⊎ (IsPieceEarlier a b ⊎ IsPieceEarlier b a)
either_earlier a b = by (cases_order a.left b.left) (cases_order a.right b.right) (cases_order a.net.0 b.net.0)
  where
    by : (a.left ≡ b.left) ⊎ ((a.left < b.left) ⊎ (b.left < a.left)) → (a.right ≡ b.right) ⊎ ((a.right < b.right) ⊎ (b.right < a.right)) → (a.net.0 ≡ b.net.0) ⊎ ((a.net.0 < b.net.0) ⊎ (b.net.0 < a.net.0)) → IsSamePiece a b ⊎ (IsPieceEarlier a b ⊎ IsPieceEarlier b a)
    by (inr (inl less)) right net = inr (inl (inl less))
    by (inr (inr more)) right net = inr (inr (inl more))
    by (inl left) (inr (inl less)) net = inr (inl (inr (left, inl less)))
    by (inl left) (inr (inr more)) net = inr (inr (inr (sym left, inl more)))
    by (inl left) (inl right) (inr (inl less)) = inr (inl (inr (left, inr (right, less))))
    by (inl left) (inl right) (inr (inr more)) = inr (inr (inr (sym left, inr (sym right, more))))
    by (inl left) (inl right) (inl net) = inl (record { net = ap net_of net; left = left; right = right })

back : (a b : Trunk) → IsSamePiece a b → IsSamePiece b a
back a b e = record { net = sym e.net; left = sym e.left; right = sym e.right }

earlier_same : (a b c : Trunk) → IsSamePiece a b → IsPieceEarlier a c → IsPieceEarlier b c
earlier_same a b c e (inl less) = inl (omega (arith, less, e.left))
earlier_same a b c e (inr (left, inl less)) = inr (omega (arith, left, e.left), inl (omega (arith, less, e.right)))
earlier_same a b c e (inr (left, inr (right, less))) = inr (omega (arith, left, e.left), inr (omega (arith, right, e.right), omega (arith, less, ap (λ (n : NetNo). n.0) e.net)))

-- two routings are not each lower than the other
not_both : (p : Placement) (pins : Pins) (a b : PieceRouting) → ArePiecesLegal p pins a → ArePiecesLegal p pins b → IsLowerAt a.pieces b.pieces → IsLowerAt b.pieces a.pieces → ⊥
not_both p pins a b la lb x y =
    elim (either_earlier x.piece y.piece) [
      | inl same ↦ one same
      | inr other ↦ elim other [
        | inl before ↦ omega (arith, x.lower, y.before x.other x.piece x.other_there x.there (back x.piece x.other x.same) (earlier_same x.piece x.other y.piece x.same before))
        | inr behind ↦ omega (arith, y.lower, x.before y.other y.piece y.other_there y.there (back y.piece y.other y.same) (earlier_same y.piece y.other x.piece y.same behind))
      ]
    ]
  where
    one : IsSamePiece x.piece y.piece → ⊥
    one same =
        let in_b : x.other ≡ y.piece = one_piece p pins b lb x.other y.piece x.other_there y.there (sym x.same.net ∙ same.net) (sym x.same.left ∙ same.left) in
        let in_a : y.other ≡ x.piece = one_piece p pins a la y.other x.piece y.other_there x.there (sym y.same.net ∙ sym same.net) (sym y.same.left ∙ sym same.left) in
        omega (arith, x.lower, y.lower, ap (λ (t : Trunk). t.track) in_b, ap (λ (t : Trunk). t.track) in_a)

pub one_first_pieces : (p : Placement) (pins : Pins) (count : ℕ) (a b : PieceRouting) → IsFirstPieces p pins count a → IsFirstPieces p pins count b → a ≡ b
one_first_pieces p pins count a b ha hb =
    elim (ha.first b hb.is) [
      | inl same ↦ same
      | inr lower ↦ elim (hb.first a ha.is) [
        | inl same ↦ sym same
        | inr higher ↦ absurd (not_both p pins a b ha.is.legal hb.is.legal lower higher)
      ]
    ]
