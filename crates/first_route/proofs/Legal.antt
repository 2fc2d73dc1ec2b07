-- The ways to put wires on tracks are the legal ones.
use Rattle.std.proofs.Common.{ℕ, ◌≡◌, ◌≢◌, ◌<◌, ◌++◌, List, [], ◌∷◌, length, inl, inr, refl, sym, subst, arith, append-nil, append_assoc, AllPairs, Contains}
use Rattle.std.proofs.lemmas.List.Elements.{All-contains, Contains-append_left, Contains-append_right, Contains-push_cases}
use Rattle.cell_num.proofs.Lists.{contains_none, contains_cons, contains_here}
use Rattle.cell_num.proofs.Pairs.{pairs_head, pairs_tail}
use Rattle.channel_route.specs.declared.constraint.Constraint.{Constraint}
use Rattle.channel_route.specs.declared.wire.Wire.{Wire}
use Rattle.channel_route.specs.declared.wire.PlacedWire.{PlacedWire}
use Rattle.channel_route.specs.Graph.{trunk_of}
use Rattle.channel_route.specs.Routing.{AreApart}
use Rattle.first_route.specs.Ways.{on_track, on_tracks, AreFull, Go}
use Rattle.first_route.proofs.Fitting.{Allows, fits_is, fits_from}

-- wires of different keys allow each other
abbrev pub ArePairs : List Constraint → List PlacedWire → Type 0
ArePairs cs placed = (a b : PlacedWire) → Contains placed a → Contains placed b → a.wire.key ≢ b.wire.key → Allows cs a b

abbrev pub AreLow : ℕ → List PlacedWire → Type 0
AreLow tracks placed = (t : PlacedWire) → Contains placed t → t.track < tracks

pub record AreLegalOn (cs : List Constraint) (count : ℕ) (placed : List PlacedWire) : Type 0 where
  pub pairs : ArePairs cs placed
  pub low : AreLow count placed
  pub full : AreFull count placed

-- in order of key
abbrev pub AreInOrder : List PlacedWire → Type 0
AreInOrder placed = AllPairs (λ a b. a.wire.key < b.wire.key) placed

other_way : (cs : List Constraint) (t o : PlacedWire) → Allows cs t o → Allows cs o t
other_way cs t o h = record { apart = λ differ same. turned (h.apart (λ one. differ (sym one)) (sym same)); below = h.above; above = h.below }
  where
    turned : AreApart (trunk_of t) (trunk_of o) → AreApart (trunk_of o) (trunk_of t)
    turned (inl before) = inr before
    turned (inr behind) = inl behind

pairs_push : (cs : List Constraint) (placed : List PlacedWire) (t : PlacedWire) → ArePairs cs placed → ((o : PlacedWire) → Contains placed o → Allows cs t o) → ArePairs cs (placed ++ t ∷ [])
pairs_push cs placed t h new a b ha hb differ =
    elim (Contains-push_cases placed t a ha) [
      | inl a_in ↦ elim (Contains-push_cases placed t b hb) [
        | inl b_in ↦ h a b a_in b_in differ
        | inr b_is ↦ subst (λ (z : PlacedWire). Allows cs a z) b_is (other_way cs t a (new a a_in))
      ]
      | inr a_is ↦ elim (Contains-push_cases placed t b hb) [
        | inl b_in ↦ subst (λ (z : PlacedWire). Allows cs z b) a_is (new b b_in)
        | inr b_is ↦ absurd (differ (subst (λ (z : PlacedWire). z.wire.key ≡ b.wire.key) a_is (subst (λ (z : PlacedWire). t.wire.key ≡ z.wire.key) b_is refl)))
      ]
    ]

low_push : (tracks : ℕ) (placed : List PlacedWire) (t : PlacedWire) → AreLow tracks placed → t.track < tracks → AreLow tracks (placed ++ t ∷ [])
low_push tracks placed t h new a ha =
    elim (Contains-push_cases placed t a ha) [
      | inl a_in ↦ h a a_in
      | inr a_is ↦ subst (λ (z : PlacedWire). z.track < tracks) a_is new
    ]

pub goes_legal : (cs : List Constraint) (tracks : ℕ) (placed : List PlacedWire) (left : List Wire) (way : List ℕ) → Go cs tracks placed left way → ArePairs cs placed → AreLow tracks placed → AreLegalOn cs tracks (placed ++ on_tracks left way)
goes_legal cs tracks placed [] [] g pairs low = subst (λ (ts : List PlacedWire). AreLegalOn cs tracks ts) (sym (append-nil placed)) (record { pairs = pairs; low = low; full = g })
goes_legal cs tracks placed [] (x ∷ way) g pairs low = absurd g
goes_legal cs tracks placed (t ∷ left) [] g pairs low = absurd g
goes_legal cs tracks placed (t ∷ left) (x ∷ way) g pairs low =
    subst (λ (ts : List PlacedWire). AreLegalOn cs tracks ts) (append_assoc placed (on_track t x ∷ []) (on_tracks left way))
    (goes_legal cs tracks (placed ++ on_track t x ∷ []) left way g.2 (pairs_push cs placed (on_track t x) pairs (fits_is cs placed (on_track t x) g.1)) (low_push tracks placed (on_track t x) low g.0))

-- one of the first part, and one of the second
parts_ordered : (xs ys : List PlacedWire) (a b : PlacedWire) → AreInOrder (xs ++ ys) → Contains xs a → Contains ys b → a.wire.key < b.wire.key
parts_ordered [] ys a b h ha hb = absurd (contains_none a ha)
parts_ordered (x ∷ xs) ys a b h ha hb =
    elim (contains_cons x xs a ha) [
      | inl same ↦ subst (λ (z : PlacedWire). z.wire.key < b.wire.key) same (All-contains (λ (z : PlacedWire). x.wire.key < z.wire.key) (xs ++ ys) b (pairs_head (λ (a b : PlacedWire). a.wire.key < b.wire.key) x (xs ++ ys) h) (Contains-append_right xs ys b hb))
      | inr rest ↦ parts_ordered xs ys a b (pairs_tail (λ (a b : PlacedWire). a.wire.key < b.wire.key) x (xs ++ ys) h) rest hb
    ]

pub legal_goes : (cs : List Constraint) (tracks : ℕ) (placed : List PlacedWire) (left : List Wire) (way : List ℕ) → length left ≡ length way → AreInOrder (placed ++ on_tracks left way) → AreLegalOn cs tracks (placed ++ on_tracks left way) → Go cs tracks placed left way
legal_goes cs tracks placed [] [] same order l = subst (λ (ts : List PlacedWire). AreFull tracks ts) (append-nil placed) l.full
legal_goes cs tracks placed [] (x ∷ way) same order l = absurd (omega (arith, same))
legal_goes cs tracks placed (t ∷ left) [] same order l = absurd (omega (arith, same))
legal_goes cs tracks placed (t ∷ left) (x ∷ way) same order l = (l.low u here, fits_from cs placed u beside, legal_goes cs tracks (placed ++ u ∷ []) left way (omega (arith, same)) (subst (λ (ts : List PlacedWire). AreInOrder ts) moved order) (subst (λ (ts : List PlacedWire). AreLegalOn cs tracks ts) moved l))
  where
    u : PlacedWire
    u = on_track t x

    here : Contains (placed ++ u ∷ on_tracks left way) u
    here = Contains-append_right placed (u ∷ on_tracks left way) u (contains_here u (on_tracks left way))

    beside : (o : PlacedWire) → Contains placed o → Allows cs u o
    beside o there = l.pairs u o here (Contains-append_left placed (u ∷ on_tracks left way) o there) (λ one.
        let less : o.wire.key < u.wire.key = parts_ordered placed (u ∷ on_tracks left way) o u order there (contains_here u (on_tracks left way)) in
        omega (arith, less, one))

    moved : placed ++ u ∷ on_tracks left way ≡ (placed ++ u ∷ []) ++ on_tracks left way
    moved = sym (append_assoc placed (u ∷ []) (on_tracks left way))

pub goes_length : (cs : List Constraint) (tracks : ℕ) (placed : List PlacedWire) (left : List Wire) (way : List ℕ) → Go cs tracks placed left way → length left ≡ length way
goes_length cs tracks placed [] [] g = refl
goes_length cs tracks placed [] (x ∷ way) g = absurd g
goes_length cs tracks placed (t ∷ left) [] g = absurd g
goes_length cs tracks placed (t ∷ left) (x ∷ way) g = omega (arith, goes_length cs tracks (placed ++ on_track t x ∷ []) left way g.2)
