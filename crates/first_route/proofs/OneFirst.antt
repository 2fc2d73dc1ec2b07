-- On some number of tracks a placement has one first routing at most.
use Rattle.std.proofs.Common.{ℕ, ◌≡◌, List, [], ◌∷◌, map, inl, inr, refl, sym, arith, ◌∙◌}
use Rattle.cell_num.specs.declared.net.Pins.{Pins}
use Rattle.row_place.specs.declared.placement.Placement.{Placement}
use Rattle.channel_route.specs.declared.routing.Trunk.{Trunk}
use Rattle.channel_route.specs.declared.routing.Routing.{Routing}
use Rattle.first_route.specs.First.{tracks_of, IsNoLater, IsFirstRouting}
use Rattle.first_route.proofs.Bare.{at_tracks, low, one_bare, tracks_back}
use Rattle.first_route.proofs.Whole.{bare_of}

no_later_same : (xs ys : List ℕ) → IsNoLater xs ys → IsNoLater ys xs → xs ≡ ys
no_later_same [] [] h k = refl
no_later_same [] (y ∷ ys) h k = absurd k
no_later_same (x ∷ xs) [] h k = absurd h
no_later_same (x ∷ xs) (y ∷ ys) (inl less) (inl more) = absurd (omega (arith, less, more))
no_later_same (x ∷ xs) (y ∷ ys) (inl less) (inr (same, k)) = absurd (omega (arith, less, same))
no_later_same (x ∷ xs) (y ∷ ys) (inr (same, h)) (inl more) = absurd (omega (arith, same, more))
no_later_same (x ∷ xs) (y ∷ ys) (inr (same, h)) (inr (_, k)) = joined same (no_later_same xs ys h k)
  where
    joined : x ≡ y → xs ≡ ys → x ∷ xs ≡ y ∷ ys
    joined e f = cc

make_routing : ℕ → List Trunk → Routing
make_routing tracks trunks = record { tracks = tracks; trunks = trunks }

made_routing : {m n : ℕ} {xs ys : List Trunk} → m ≡ n → xs ≡ ys → make_routing m xs ≡ make_routing n ys
made_routing e f = cc

routing_same : (a b : Routing) → a.tracks ≡ b.tracks → a.trunks ≡ b.trunks → a ≡ b
unfolding make_routing
routing_same a b e f = made_routing e f

pub one_first : (p : Placement) (pins : Pins) (count : ℕ) (a b : Routing) → IsFirstRouting p pins count a → IsFirstRouting p pins count b → a ≡ b
one_first p pins count a b ha hb = routing_same a b (omega (arith, ha.is.tracks, hb.is.tracks)) (sym (tracks_back a.trunks) ∙ (same ∙ tracks_back b.trunks))
  where
    trunks : map low a.trunks ≡ map low b.trunks
    trunks = one_bare p pins a.trunks b.trunks (bare_of p pins a ha.is.legal) (bare_of p pins b hb.is.legal)

    tracks : tracks_of a ≡ tracks_of b
    tracks = no_later_same (tracks_of a) (tracks_of b) (ha.first b hb.is) (hb.first a ha.is)

    joined : {ts us : List Trunk} {xs ys : List ℕ} → ts ≡ us → xs ≡ ys → at_tracks ts xs ≡ at_tracks us ys
    joined e f = cc

    same : at_tracks (map low a.trunks) (tracks_of a) ≡ at_tracks (map low b.trunks) (tracks_of b)
    same = joined trunks tracks
