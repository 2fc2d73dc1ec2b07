-- A placement has one legal and tight routing of pieces at most.
use Rattle.std.proofs.Common.{ℕ, zero, suc, ◌≡◌, ◌≢◌, ◌<◌, ◌≤◌, inl, inr, refl, sym, ap, subst, arith, Contains}
use Rattle.std.proofs.lemmas.Bool.{cases_order}
use Rattle.cell_num.specs.declared.net.NetNo.{NetNo}
use Rattle.cell_num.specs.declared.net.Pins.{Pins}
use Rattle.cell_num.proofs.Pairs.{Some'}
use Rattle.row_place.specs.declared.placement.Placement.{Placement}
use Rattle.row_place.specs.Trunks.{IsAbove}
use Rattle.channel_route.specs.declared.routing.Trunk.{Trunk}
use Rattle.channel_route.specs.declared.routing.Routing.{Routing}
use Rattle.channel_route.specs.Routing.{AreApart}
use Rattle.channel_route.proofs.OneRouting.{either}
use Rattle.channel_route.proofs.SameRouting.{SameSpan, IsKeyed, same_routing}
use Rattle.channel_route.proofs.Unique.{IsTightFor}
use Rattle.dogleg_route.specs.declared.piece.PieceRouting.{PieceRouting}
use Rattle.dogleg_route.specs.Pieces.{IsPiece}
use Rattle.dogleg_route.specs.Routings.{GoesOver, EndsAt, IsPieceAbove, StandsEarlier, ArePiecesLegal, IsPieceEarlier, IsPieceFree, ArePiecesTight, as_routing}
use Rattle.dogleg_route.proofs.Wired.{is_piece, listed}

-- a piece of the placement
record Key (p : Placement) (pins : Pins) : Type 0 where
  net : NetNo
  left : ℕ
  right : ℕ
  is : IsPiece p pins net left right

-- as it stands on no track
abbrev bare : (p : Placement) (pins : Pins) → Key p pins → Trunk
bare p pins k = record { net = k.net; left = k.left; right = k.right; track = 0 }

abbrev Of : (p : Placement) (pins : Pins) → Key p pins → Trunk → Type 0
Of p pins k t = GoesOver k.net k.left k.right t

abbrev Over : (p : Placement) (pins : Pins) → Key p pins → Key p pins → Type 0
Over p pins k m = (line : ℕ) × IsPieceAbove p pins (bare p pins k) (bare p pins m) line

-- an earlier piece of another net that shares a line
record Early (p : Placement) (pins : Pins) (m k : Key p pins) : Type 0 where
  other : m.net ≢ k.net
  earlier : IsPieceEarlier (bare p pins m) (bare p pins k)
  near : AreApart (bare p pins m) (bare p pins k) → ⊥

-- what is said of a piece by its lines and its net
to_bare : (p : Placement) (pins : Pins) (k : Key p pins) (t : Trunk) → Of p pins k t → SameSpan t (bare p pins k)
to_bare p pins k t o = record { net = o.of; left = o.begins; right = o.ends }

back : (a b : Trunk) → SameSpan a b → SameSpan b a
back a b e = record { net = sym e.net; left = sym e.left; right = sym e.right }

ends_same : (a b : Trunk) (line : ℕ) → SameSpan a b → EndsAt a line → EndsAt b line
ends_same a b line e (inl h) = inl (omega (arith, h, e.left))
ends_same a b line e (inr h) = inr (omega (arith, h, e.right))

above_same : (p : Placement) (pins : Pins) (a b c d : Trunk) (line : ℕ) → SameSpan a c → SameSpan b d → IsPieceAbove p pins a b line → IsPieceAbove p pins c d line
above_same p pins a b c d line e f h = record {
  over = subst (λ n. IsAbove p pins n d.net line) e.net (subst (λ n. IsAbove p pins a.net n line) f.net h.over);
  upper_ends = ends_same a c line e h.upper_ends;
  lower_ends = ends_same b d line f h.lower_ends;
}

earlier_same : (a b c d : Trunk) → SameSpan a c → SameSpan b d → IsPieceEarlier a b → IsPieceEarlier c d
earlier_same a b c d e f (inl less) = inl (omega (arith, less, e.left, f.left))
earlier_same a b c d e f (inr (same, inl less)) = inr (omega (arith, same, e.left, f.left), inl (omega (arith, less, e.right, f.right)))
earlier_same a b c d e f (inr (same, inr (one, less))) = inr (omega (arith, same, e.left, f.left), inr (omega (arith, one, e.right, f.right), omega (arith, less, ap (λ (n : NetNo). n.0) e.net, ap (λ (n : NetNo). n.0) f.net)))

apart_same : (a b c d : Trunk) → SameSpan a c → SameSpan b d → AreApart a b → AreApart c d
apart_same a b c d e f (inl less) = inl (omega (arith, less, e.right, f.left))
apart_same a b c d e f (inr less) = inr (omega (arith, less, e.left, f.right))

apart_or_not : (a b : Trunk) → ((AreApart a b → ⊥) → ⊥) → AreApart a b
apart_or_not a b h =
    elim (cases_order a.right b.left) [
      | inl same ↦ second (omega (arith, same))
      | inr other ↦ elim other [ inl less ↦ inl less | inr more ↦ second (omega (arith, more)) ]
    ]
  where
    none : b.left ≤ a.right → a.left ≤ b.right → AreApart a b → ⊥
    none e f (inl g) = omega (arith, e, g)
    none e f (inr g) = omega (arith, f, g)

    second : b.left ≤ a.right → AreApart a b
    second low =
        elim (cases_order b.right a.left) [
          | inl same ↦ absurd (h (none low (omega (arith, same))))
          | inr other ↦ elim other [ inl less ↦ inr less | inr more ↦ absurd (h (none low (omega (arith, more)))) ]
        ]

-- the listed piece of a key
found : (p : Placement) (pins : Pins) (r : PieceRouting) → ArePiecesLegal p pins r → (k : Key p pins) → Some' (Of p pins k) r.pieces
found p pins r l k = listed p pins r l k.net k.left k.right k.is

key_of : (p : Placement) (pins : Pins) (r : PieceRouting) → ArePiecesLegal p pins r → (t : Trunk) → Contains r.pieces t → Key p pins
key_of p pins r l t there = record { net = t.net; left = t.left; right = t.right; is = is_piece p pins r l t there }

itself : (p : Placement) (pins : Pins) (r : PieceRouting) (l : ArePiecesLegal p pins r) (t : Trunk) (there : Contains r.pieces t) → Of p pins (key_of p pins r l t there) t
unfolding key_of
itself p pins r l t there = record { of = refl; begins = refl; ends = refl }

one : (p : Placement) (pins : Pins) (r : PieceRouting) → ArePiecesLegal p pins r → (k : Key p pins) (a b : Trunk) → Contains r.pieces a → Contains r.pieces b → Of p pins k a → Of p pins k b → a ≡ b
one p pins r l k a b ha hb oa ob =
    elim (either StandsEarlier r.pieces a b l.order ha hb) [
      | inl same ↦ same
      | inr other ↦ absurd (elim other [ inl before ↦ never a b oa ob before | inr behind ↦ never b a ob oa behind ])
    ]
  where
    never : (x y : Trunk) → Of p pins k x → Of p pins k y → StandsEarlier x y → ⊥
    never x y ox oy (inl less) = omega (arith, less, ap (λ (n : NetNo). n.0) ox.of, ap (λ (n : NetNo). n.0) oy.of)
    never x y ox oy (inr (_, less)) = omega (arith, less, ox.begins, oy.begins)

-- what tightness of a routing says of keys
tight_keys : (p : Placement) (pins : Pins) (r : PieceRouting) (l : ArePiecesLegal p pins r) → ArePiecesTight p pins r → IsTightFor (Over p pins) (Early p pins) (λ k. (found p pins r l k).it.track)
tight_keys p pins r l tight k = (
  record {
    above = λ y over. free.0.above (found p pins r l y).it (found p pins r l y).there over.0 (above_same p pins (bare p pins k) (bare p pins y) (found p pins r l k).it (found p pins r l y).it over.0 (from k) (from y) over.1);
    clear = λ y same early. early.near (apart_same (found p pins r l y).it (found p pins r l k).it (bare p pins y) (bare p pins k) (to y) (to k) (free.0.clear (found p pins r l y).it (found p pins r l y).there same (differ y early.other) (earlier_same (bare p pins y) (bare p pins k) (found p pins r l y).it (found p pins r l k).it (from y) (from k) early.earlier)));
  },
  λ low less f. free.1 low less (record {
    above = λ b there line over.
        let y : Key p pins = key_of p pins r l b there in
        let is : (found p pins r l y).it ≡ b = one p pins r l y (found p pins r l y).it b (found p pins r l y).there there (found p pins r l y).holds (itself p pins r l b there) in
        subst (λ (z : Trunk). z.track < low) is (f.above y (line, above_same p pins (found p pins r l k).it b (bare p pins k) (bare p pins y) line (to k) (to_bare p pins y b (itself p pins r l b there)) over));
    clear = λ o there same other early.
        let y : Key p pins = key_of p pins r l o there in
        let of : Of p pins y o = itself p pins r l o there in
        let is : (found p pins r l y).it ≡ o = one p pins r l y (found p pins r l y).it o (found p pins r l y).there there (found p pins r l y).holds of in
        apart_or_not o (found p pins r l k).it (λ near. f.clear y (subst (λ (z : Trunk). z.track ≡ low) (sym is) same) (record {
          other = λ e. other (let a : o.net ≡ y.net = of.of in let b : (found p pins r l k).it.net ≡ k.net = (found p pins r l k).holds.of in let c : y.net ≡ k.net = e in cc);
          earlier = earlier_same o (found p pins r l k).it (bare p pins y) (bare p pins k) (to_bare p pins y o of) (to k) early;
          near = λ apart. near (apart_same (bare p pins y) (bare p pins k) o (found p pins r l k).it (back o (bare p pins y) (to_bare p pins y o of)) (from k) apart);
        }));
  }),
)
  where
    to : (y : Key p pins) → SameSpan (found p pins r l y).it (bare p pins y)
    to y = to_bare p pins y (found p pins r l y).it (found p pins r l y).holds

    from : (y : Key p pins) → SameSpan (bare p pins y) (found p pins r l y).it
    from y = back (found p pins r l y).it (bare p pins y) (to_bare p pins y (found p pins r l y).it (found p pins r l y).holds)

    free : IsPieceFree p pins r.pieces (found p pins r l k).it (found p pins r l k).it.track × ((track : ℕ) → track < (found p pins r l k).it.track → IsPieceFree p pins r.pieces (found p pins r l k).it track → ⊥)
    free = tight (found p pins r l k).it (found p pins r l k).there

    differ : (y : Key p pins) → y.net ≢ k.net → (found p pins r l y).it.net ≢ (found p pins r l k).it.net
    differ y other e = other (let a : (found p pins r l y).it.net ≡ y.net = (found p pins r l y).holds.of in let b : (found p pins r l k).it.net ≡ k.net = (found p pins r l k).holds.of in let c : (found p pins r l y).it.net ≡ (found p pins r l k).it.net = e in cc)

-- what is proved of a piece from the earlier ones is proved of all
from_earliest : (p : Placement) (pins : Pins) (P : Key p pins → Type 0) → ((x : Key p pins) → ((y : Key p pins) → Early p pins y x → P y) → P x) → (x : Key p pins) → P x
from_earliest p pins P step x = by_left (suc x.left) x (omega arith)
  where
    by_net : (n m : ℕ) → ((y : Key p pins) → y.left < n → P y) → ((y : Key p pins) → y.left < suc n → y.right < m → P y) → (j : ℕ) (x : Key p pins) → x.left < suc n → x.right < suc m → x.net.0 < j → P x
    by_net n m before below zero x hl hr hn = absurd (omega (arith, hn))
    by_net n m before below (suc j) x hl hr hn = step x (λ y early. next (by_net n m before below j) y early.earlier)
      where
        next : ((y : Key p pins) → y.left < suc n → y.right < suc m → y.net.0 < j → P y) → (y : Key p pins) → IsPieceEarlier (bare p pins y) (bare p pins x) → P y
        next lesser y (inl e) = before y (omega (arith, e, hl))
        next lesser y (inr (e, inl f)) = below y (omega (arith, e, hl)) (omega (arith, f, hr))
        next lesser y (inr (e, inr (f, g))) = lesser y (omega (arith, e, hl)) (omega (arith, f, hr)) (omega (arith, g, hn))

    by_right : (n : ℕ) → ((y : Key p pins) → y.left < n → P y) → (m : ℕ) (x : Key p pins) → x.left < suc n → x.right < m → P x
    by_right n before zero x hl hr = absurd (omega (arith, hr))
    by_right n before (suc m) x hl hr = by_net n m before (by_right n before m) (suc x.net.0) x hl hr (omega arith)

    by_left : (n : ℕ) (x : Key p pins) → x.left < n → P x
    by_left zero x h = absurd (omega (arith, h))
    by_left (suc n) x h = by_right n (by_left n) (suc x.right) x h (omega arith)

keyed : (p : Placement) (pins : Pins) (r : PieceRouting) (l : ArePiecesLegal p pins r) → ArePiecesTight p pins r → IsKeyed (Of p pins) (Over p pins) (Early p pins) StandsEarlier (as_routing r)
keyed p pins r l tight = record {
  each = λ k. found p pins r l k;
  key = λ t there. (key_of p pins r l t there, itself p pins r l t there);
  one = λ k t there of. one p pins r l k (found p pins r l k).it t (found p pins r l k).there there (found p pins r l k).holds of;
  tight = tight_keys p pins r l tight;
  order = l.order;
  tracks = l.tracks;
  full = l.full;
}

strict : (a b : Trunk) → StandsEarlier a b → StandsEarlier b a → ⊥
strict a b (inl e) (inl f) = omega (arith, e, f)
strict a b (inl e) (inr (f, _)) = omega (arith, e, ap (λ (n : NetNo). n.0) f)
strict a b (inr (e, _)) (inl f) = omega (arith, f, ap (λ (n : NetNo). n.0) e)
strict a b (inr (_, e)) (inr (_, f)) = omega (arith, e, f)

of_routing : Routing → PieceRouting
of_routing r = record { tracks = r.tracks; pieces = r.trunks }

pub one_piece_routing : (p : Placement) (pins : Pins) (r s : PieceRouting) → ArePiecesLegal p pins r → ArePiecesTight p pins r → ArePiecesLegal p pins s → ArePiecesTight p pins s → r ≡ s
unfolding of_routing
one_piece_routing p pins r s lr tr ls ts =
    ap of_routing (same_routing (Of p pins) (Over p pins) (Early p pins) StandsEarlier (as_routing r) (as_routing s) (from_earliest p pins) (λ k a b oa ob. record { net = subst (λ n. a.net ≡ n) (sym ob.of) oa.of; left = omega (arith, oa.begins, ob.begins); right = omega (arith, oa.ends, ob.ends) }) strict (keyed p pins r lr tr) (keyed p pins s ls ts))
