-- Some of the tracks that fit a line, and one more of them.
use Rattle.std.proofs.Common.{ℕ, ◌≡◌, ◌<◌, ◌⊎◌, ◌&&◌, true, List, ◌∷◌, inl, inr, refl, sym, ap, Contains, ◌∙◌, subst}
use Rattle.std.specs.List.{list_all}
use Rattle.std.proofs.lemmas.Bool.{and_from, and_parts}
use Rattle.cell_num.proofs.Lists.{contains_cons, contains_here, contains_there}
use Rattle.track_ways.specs.declared.line.Line.{Line}
use Rattle.track_ways.specs.declared.track.NetTrack.{NetTrack}
use Rattle.track_ways.specs.Ways.{are_apart, go_together}
use Rattle.track_ways.specs.Fillings.{all_pass, pass_at}
use Rattle.track_ways.specs.Beside.{AreSame, AreTwo, Fit, apart_from, apart_same, apart_two, together_from, together_two}

-- some of them fit, too
pub fewer_fit : (limit : ℕ) (line : Line) (others more tracks : List NetTrack) → ((t : NetTrack) → Contains tracks t → Contains more t) → Fit limit line others more → Fit limit line others tracks
fewer_fit limit line others more tracks within f = record {
  low = λ t at. f.low t (within t at);
  same = λ t u at also. f.same t u (within t at) (within u also);
  two = λ t u at also. f.two t u (within t at) (within u also);
  beside = λ t u at also. f.beside t u (within t at) also;
}

-- one more fits where it goes with those on both sides
pub more_fit : (limit : ℕ) (line : Line) (others : List NetTrack) (t : NetTrack) (tracks : List NetTrack) →
    t.track < limit → list_all (λ (u : NetTrack). are_apart line t u && are_apart line u t) tracks ≡ true →
    list_all (go_together line t) others ≡ true → Fit limit line others tracks → Fit limit line others (t ∷ tracks)
more_fit limit line others t tracks low goes beside f = record {
  low = λ u at. elim (contains_cons t tracks u at) [
    | inl same ↦ subst (λ (z : NetTrack). z.track < limit) same low
    | inr later ↦ f.low u later
  ];
  same = λ u v at also. alike u v (contains_cons t tracks u at) (contains_cons t tracks v also);
  two = λ u v at also. pair u v (contains_cons t tracks u at) (contains_cons t tracks v also);
  beside = λ u v at also. elim (contains_cons t tracks u at) [
    | inl is ↦ subst (λ (z : NetTrack). AreTwo line z v × AreTwo line v z) is (together_two line t v (pass_at (go_together line t) others v beside also))
    | inr later ↦ f.beside u v later also
  ];
}
  where
    both : (u : NetTrack) → Contains tracks u → (are_apart line t u ≡ true) × (are_apart line u t ≡ true)
    both u at = and_parts (are_apart line t u) (are_apart line u t) (pass_at (λ (u : NetTrack). are_apart line t u && are_apart line u t) tracks u goes at)

    alone : AreTwo line t t
    alone = record { apart = λ other. absurd (other refl); above = λ other. absurd (other refl) }

    alike : (u v : NetTrack) → (t ≡ u) ⊎ Contains tracks u → (t ≡ v) ⊎ Contains tracks v → AreSame u v
    alike u v (inl a) (inl b) = λ e. ap (λ (z : NetTrack). z.track) (sym a ∙ b)
    alike u v (inl a) (inr b) = subst (λ (z : NetTrack). AreSame z v) a (apart_same line t v (both v b).0)
    alike u v (inr a) (inl b) = subst (λ (z : NetTrack). AreSame u z) b (apart_same line u t (both u a).1)
    alike u v (inr a) (inr b) = f.same u v a b

    pair : (u v : NetTrack) → (t ≡ u) ⊎ Contains tracks u → (t ≡ v) ⊎ Contains tracks v → AreTwo line u v
    pair u v (inl a) (inl b) = subst (λ (z : NetTrack). AreTwo line z v) a (subst (λ (z : NetTrack). AreTwo line t z) b alone)
    pair u v (inl a) (inr b) = subst (λ (z : NetTrack). AreTwo line z v) a (apart_two line t v (both v b).0)
    pair u v (inr a) (inl b) = subst (λ (z : NetTrack). AreTwo line u z) b (apart_two line u t (both u a).1)
    pair u v (inr a) (inr b) = f.two u v a b

-- and then it goes with them
pub goes_if_fit : (limit : ℕ) (line : Line) (others : List NetTrack) (t : NetTrack) (tracks : List NetTrack) → Fit limit line others (t ∷ tracks) → (list_all (λ (u : NetTrack). are_apart line t u && are_apart line u t) tracks ≡ true) × (list_all (go_together line t) others ≡ true)
goes_if_fit limit line others t tracks f = (
  all_pass (λ (u : NetTrack). are_apart line t u && are_apart line u t) tracks (λ u at.
      and_from (are_apart line t u) (are_apart line u t)
      (apart_from line t u (f.same t u here (later u at)) (f.two t u here (later u at)))
      (apart_from line u t (f.same u t (later u at) here) (f.two u t (later u at) here))),
  all_pass (go_together line t) others (λ u at. let b = f.beside t u here at in together_from line t u b.0 b.1),
)
  where
    here : Contains (t ∷ tracks) t
    here = contains_here t tracks

    later : (u : NetTrack) → Contains tracks u → Contains (t ∷ tracks) u
    later u at = contains_there t tracks u at
