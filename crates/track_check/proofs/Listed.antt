-- Tests on listed tracks decide what they say.
use Rattle.std.proofs.Common.{ℕ, ◌≡◌, ◌||◌, ◌==◌, ◌↔◌, not, Bool, true, false, List, inl, inr, refl, subst, All, Contains}
use Rattle.std.specs.Prelude.{IsTrue}
use Rattle.std.specs.Bool.{Decides}
use Rattle.std.specs.List.{list_all, list_any}
use Rattle.std.proofs.lemmas.Bool.{and_from, and_parts, cases_eq, eq-eqb, eqb-true, ne_eqb}
use Rattle.std.proofs.lemmas.Bool.Decides.{Decides-by_and}
use Rattle.std.proofs.lemmas.List.Elements.{All-contains}
use Rattle.cell_num.specs.declared.net.NetNo.{NetNo}
use Rattle.cell_num.proofs.Lists.{all_from_contains}
use Rattle.cell_num.proofs.Pairs.{Some', test_finds, test_there}
use Rattle.track_ways.specs.declared.track.NetTrack.{NetTrack}
use Rattle.track_ways.specs.Tracks.{IsSingle}
use Rattle.track_ways.proofs.Complete.{net_same}
use Rattle.track_check.specs.Steps.{agrees, is_track}

make_track : NetNo → ℕ → NetTrack
make_track net track = record { net = net; track = track }

made_track : {a b : NetNo} {i j : ℕ} → a ≡ b → i ≡ j → make_track a i ≡ make_track b j
made_track e f = cc

pub same_track : (t u : NetTrack) → t.net ≡ u.net → t.track ≡ u.track → t ≡ u
unfolding make_track
same_track t u e f = made_track e f

track_is : (t u : NetTrack) → is_track t u ≡ true → u ≡ t
track_is t u e =
    let parts : ((u.net.0 == t.net.0) ≡ true) × ((u.track == t.track) ≡ true) = and_parts _ _ e in
    same_track u t (net_same u.net t.net (eqb-true u.net.0 t.net.0 parts.0)) (eqb-true u.track t.track parts.1)

track_self : (t : NetTrack) → is_track t t ≡ true
track_self t = and_from _ _ (eq-eqb t.net.0 t.net.0 refl) (eq-eqb t.track t.track refl)

contained : (way : List NetTrack) (t : NetTrack) → Decides (list_any (is_track t) way) (Contains way t)
contained way t = (
  λ e. let found : Some' (λ u. is_track t u ≡ true) way = test_finds (is_track t) way e in subst (Contains way) (track_is t found.it found.holds) found.there,
  λ there. test_there (is_track t) way t there (track_self t),
)

pub in_decides : (way tracks : List NetTrack) → IsTrue (list_all (λ t. list_any (is_track t) way) tracks) ↔ All (Contains way) tracks
in_decides way tracks = Decides-by_and (λ t. list_any (is_track t) way) (Contains way) (λ ts. list_all (λ t. list_any (is_track t) way) ts) (contained way) refl (λ _ _. refl) tracks

-- one net has one track
abbrev Agrees : NetTrack → NetTrack → Type 0
Agrees t u = t.net.0 ≡ u.net.0 → t.track ≡ u.track

right_holds : (p x : Bool) → p ≡ true → (not p || x) ≡ true → x ≡ true
right_holds true x is e = e
right_holds false x is e = cc

left_holds : (p x : Bool) → p ≡ false → (not p || x) ≡ true
left_holds true x none = cc
left_holds false x none = refl

right_is : (p x : Bool) → x ≡ true → (not p || x) ≡ true
right_is true x e = e
right_is false x e = refl

agree_decides : (t u : NetTrack) → Decides (agrees t u) (Agrees t u)
agree_decides t u = (
  λ e same. eqb-true t.track u.track (right_holds (t.net.0 == u.net.0) (t.track == u.track) (eq-eqb t.net.0 u.net.0 same) e),
  λ h. elim (cases_eq t.net.0 u.net.0) [
    | inl same ↦ right_is (t.net.0 == u.net.0) (t.track == u.track) (eq-eqb t.track u.track (h same))
    | inr ne ↦ left_holds (t.net.0 == u.net.0) (t.track == u.track) (ne_eqb t.net.0 u.net.0 ne)
  ],
)

with_all : (tracks : List NetTrack) (t : NetTrack) → Decides (list_all (agrees t) tracks) (All (Agrees t) tracks)
with_all tracks t = Decides-by_and (agrees t) (Agrees t) (λ us. list_all (agrees t) us) (agree_decides t) refl (λ _ _. refl) tracks

all_with_all : (tracks ts : List NetTrack) → Decides (list_all (λ t. list_all (agrees t) tracks) ts) (All (λ t. All (Agrees t) tracks) ts)
all_with_all tracks ts = Decides-by_and (λ t. list_all (agrees t) tracks) (λ t. All (Agrees t) tracks) (λ us. list_all (λ t. list_all (agrees t) tracks) us) (with_all tracks) refl (λ _ _. refl) ts

pub single_decides : (tracks : List NetTrack) → IsTrue (list_all (λ t. list_all (agrees t) tracks) tracks) ↔ IsSingle tracks
single_decides tracks =
    let d : Decides (list_all (λ t. list_all (agrees t) tracks) tracks) (All (λ t. All (Agrees t) tracks) tracks) = all_with_all tracks tracks in (
      λ e t u at also. All-contains (Agrees t) tracks u (All-contains (λ t. All (Agrees t) tracks) tracks t (d.0 e) at) also,
      λ one. d.1 (all_from_contains (λ t. All (Agrees t) tracks) tracks (λ t at. all_from_contains (Agrees t) tracks (λ u also. one t u at also))),
    )
