-- Of two ways the earlier one has the lower track at the first wire where they differ.
use Rattle.std.proofs.Common.{ℕ, ◌≡◌, ◌<◌, ◌⊎◌, List, [], ◌∷◌, length, inl, inr, refl, ap, arith, AllPairs, Contains}
use Rattle.cell_num.proofs.Lists.{contains_cons, contains_here, contains_there}
use Rattle.cell_num.proofs.Pairs.{pairs_tail}
use Rattle.channel_route.specs.declared.wire.Wire.{Wire}
use Rattle.channel_route.specs.declared.wire.PlacedWire.{PlacedWire}
use Rattle.first_route.specs.First.{IsNoLater}
use Rattle.first_route.specs.Ways.{on_track, on_tracks}
use Rattle.dogleg_route.specs.PieceWires.{ComesBefore}
use Rattle.first_pieces.proofs.Tracks.{keys_behind}

-- a wire has a lower track in the first list, and each of a lower key has the same track in both
pub record IsLowerOn (xs ys : List PlacedWire) : Type 0 where
  pub one : PlacedWire
  pub there : Contains xs one
  pub other : PlacedWire
  pub other_there : Contains ys other
  pub same : one.wire ≡ other.wire
  pub lower : one.track < other.track
  pub before : (c d : PlacedWire) → Contains xs c → Contains ys d → c.wire ≡ d.wire → c.wire.key < one.wire.key → c.track ≡ d.track

same_wires : (a b : PlacedWire) → a ≡ b → a.wire.key ≡ b.wire.key
same_wires a b e = ap (λ (z : PlacedWire). z.wire.key) e

pub lower_or_same : (wires : List Wire) (xs ys : List ℕ) → AllPairs ComesBefore wires → length wires ≡ length xs → length wires ≡ length ys → IsNoLater xs ys → (xs ≡ ys) ⊎ IsLowerOn (on_tracks wires xs) (on_tracks wires ys)
lower_or_same [] [] [] h lx ly n = inl refl
lower_or_same [] [] (y ∷ ys) h lx ly n = absurd (omega (arith, ly))
lower_or_same [] (x ∷ xs) ys h lx ly n = absurd (omega (arith, lx))
lower_or_same (w ∷ wires) [] ys h lx ly n = absurd (omega (arith, lx))
lower_or_same (w ∷ wires) (x ∷ xs) [] h lx ly n = absurd (omega (arith, ly))
lower_or_same (w ∷ wires) (x ∷ xs) (y ∷ ys) h lx ly (inl less) = inr (record {
  one = on_track w x;
  there = contains_here (on_track w x) (on_tracks wires xs);
  other = on_track w y;
  other_there = contains_here (on_track w y) (on_tracks wires ys);
  same = refl;
  lower = less;
  before = λ c d hc hd e low. absurd (none c hc low);
})
  where
    none : (c : PlacedWire) → Contains (on_track w x ∷ on_tracks wires xs) c → c.wire.key < w.key → ⊥
    none c hc low =
        elim (contains_cons (on_track w x) (on_tracks wires xs) c hc) [
          | inl first ↦ omega (arith, low, same_wires (on_track w x) c first)
          | inr more ↦ omega (arith, low, keys_behind w wires xs h c more)
        ]
lower_or_same (w ∷ wires) (x ∷ xs) (y ∷ ys) h lx ly (inr (e, n)) =
    elim (lower_or_same wires xs ys (pairs_tail ComesBefore w wires h) (omega (arith, lx)) (omega (arith, ly)) n) [
      | inl same ↦ inl (joined e same)
      | inr l ↦ inr (record {
        one = l.one;
        there = contains_there (on_track w x) (on_tracks wires xs) l.one l.there;
        other = l.other;
        other_there = contains_there (on_track w y) (on_tracks wires ys) l.other l.other_there;
        same = l.same;
        lower = l.lower;
        before = λ c d hc hd wire low. elim (contains_cons (on_track w x) (on_tracks wires xs) c hc) [
          | inl first ↦ elim (contains_cons (on_track w y) (on_tracks wires ys) d hd) [
            | inl second ↦ omega (arith, e, ap (λ (z : PlacedWire). z.track) first, ap (λ (z : PlacedWire). z.track) second)
            | inr more ↦ absurd (omega (arith, keys_behind w wires ys h d more, same_wires (on_track w x) c first, ap (λ (z : Wire). z.key) wire))
          ]
          | inr rest ↦ elim (contains_cons (on_track w y) (on_tracks wires ys) d hd) [
            | inl second ↦ absurd (omega (arith, keys_behind w wires xs h c rest, same_wires (on_track w y) d second, ap (λ (z : Wire). z.key) wire))
            | inr more ↦ l.before c d rest more wire low
          ]
        ];
      })
    ]
  where
    joined : x ≡ y → xs ≡ ys → x ∷ xs ≡ y ∷ ys
    joined f g = cc
