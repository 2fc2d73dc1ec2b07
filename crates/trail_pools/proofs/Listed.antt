-- The levels of the places that gates can meet by their fingers are levels.
use Rattle.std.proofs.Common.{ℕ, ◌≡◌, ◌+◌, ◌*◌, ◌<◌, ◌==◌, Bool, true, List, [], ◌∷◌, refl, sym, subst, ◌∙◌, All}
use Rattle.std.proofs.lemmas.Bool.{eq-eqb, or_left, or_right}
use Rattle.std.proofs.lemmas.List.Elements.{All-contains, All-head, All-tail}
use Rattle.cell_num.specs.declared.net.NetNo.{NetNo}
use Rattle.cell_num.specs.declared.finger.Row.{Row}
use Rattle.cell_num.specs.declared.finger.Fingers.{Fingers}
use Rattle.cell_num.specs.Fingers.{AreFingers}
use Rattle.cell_num.proofs.Lists.{all_from_contains}
use Rattle.cell_num.proofs.Pairs.{test_there}
use Rattle.trail_state.specs.Levels.{IsGate}
use Rattle.trail_state.specs.Places.{is_end, is_met}
use Rattle.trail_state.specs.Settling.{is_open}
use Rattle.trail_state.proofs.Law.{is_net_gate}
use Rattle.trail_halves.specs.declared.choice.OpenChoice.{OpenChoice}
use Rattle.trail_halves.specs.Open.{ArePools, IsOpenChoice}
use Rattle.trail_pools.specs.Levels.{AreFewer, AreLevels, ArePlaces, IsLevel, IsOpenEdge, IsOpenHalf, IsOpenNode}
use Rattle.trail_pools.specs.declared.level.PoolLevel.{PoolLevel}
use Rattle.trail_pools.specs.Levels.{MeetsOpen, first_open}
use Rattle.trail_pools.specs.Meeting.{AreOpenLevels, IsOpenLevel, any_ends_free, any_meets, ends_free, meets_node}
use Rattle.trail_pools.specs.Meeting.{open_from}
use Rattle.trail_pools.proofs.Computed.{are_fewer, are_places, free_place, node_open, none_left}
use Rattle.trail_pools.proofs.Meets.{IsFree, edges_meet, halves_free}

module _ (f : Fingers) (ok : AreFingers f) (r : Row) (counted pool : ℕ → Bool) (pools : ArePools f r counted pool) where
  abbrev n : ℕ
  n = 256 * f.nets

  -- a choice of the first gate
  meets_open : (g : NetNo) (gates : List NetNo) → g.0 < f.nets → (c : OpenChoice) → IsOpenChoice f r counted g.0 c
      → MeetsOpen n r pool (open_from f r counted pool (g ∷ gates)) c
  meets_open g gates within c choice = record {
    edges = all_from_contains (IsOpenEdge n r pool (open_from f r counted pool (g ∷ gates))) c.edges (λ e k. (
      node e.a.0 (test_there (is_end e.a.0) c.edges e k
          (or_left (e.a.0 == e.a.0) (e.b.0 == e.a.0) (eq-eqb e.a.0 e.a.0 refl))),
      node e.b.0 (test_there (is_end e.b.0) c.edges e k
          (or_right (e.a.0 == e.b.0) (e.b.0 == e.b.0) (eq-eqb e.b.0 e.b.0 refl))),
    ));
    halves = all_from_contains (IsOpenHalf n r pool (open_from f r counted pool (g ∷ gates))) c.halves
        (λ half k. (
          place half.lo (halves_free f ok r counted pool g.0 within c choice pools half k).0,
          place half.hi (halves_free f ok r counted pool g.0 within c choice pools half k).1,
        ));
  }
    where
      node : (v : ℕ) → is_met c.edges v ≡ true → IsOpenNode n r pool (open_from f r counted pool (g ∷ gates)) v
      node v met =
          let m : (meets_node f r counted g.0 v ≡ true) × (v < n) =
          edges_meet f ok r counted pool g.0 within c choice v met in
          node_open f r counted pool (g ∷ gates) v m.1
          (or_left (meets_node f r counted g.0 v) (any_meets f r counted gates v) m.0)

      place : (net : ℕ) → IsFree f ok r counted pool g.0 within c choice net
          → is_open (open_from f r counted pool (g ∷ gates)).places (n + net) ≡ true
      place net is =
          free_place f r counted pool (g ∷ gates) net is.below is.is_pool
          (or_left (ends_free f r counted g.0 net) (any_ends_free f r counted gates net) is.ends)

  is_level : (g : NetNo) (gates : List NetNo) (l : PoolLevel) → g.0 < f.nets
      → IsOpenLevel f r counted pool g gates l → IsLevel n f r counted pool g l
  is_level g gates l within h = record {
    places = subst (ArePlaces n r pool) (sym h.now) (are_places f r counted pool (g ∷ gates));
    fewer =
        subst (λ o. AreFewer n r pool o l.now) (sym h.next)
        (subst (AreFewer n r pool (open_from f r counted pool gates)) (sym h.now) (are_fewer f r counted pool g gates));
    meets =
        subst (λ o. All (MeetsOpen n r pool o) l.choices) (sym h.now)
        (all_from_contains (MeetsOpen n r pool (open_from f r counted pool (g ∷ gates))) l.choices
        (λ c k. meets_open g gates within c (All-contains (IsOpenChoice f r counted g.0) l.choices c h.are k)));
    all_choices = h.all_choices;
  }

  -- the places after a level are those of the next one
  next_is : (gates : List NetNo) (ls : List PoolLevel) → AreOpenLevels f r counted pool gates ls
      → open_from f r counted pool gates ≡ first_open ls
  next_is [] [] levels = none_left f r counted pool
  next_is [] (l ∷ ls) levels = absurd levels
  next_is (g ∷ gs) [] levels = absurd levels
  next_is (g ∷ gs) (l ∷ ls) levels = sym levels.0.now

  pub open_levels : (order : List NetNo) (levels : List PoolLevel) → All (λ (g : NetNo). IsGate f g.0) order
      → AreOpenLevels f r counted pool order levels → AreLevels f r counted pool order levels
  open_levels [] [] gates levels = tt
  open_levels [] (l ∷ ls) gates levels = absurd levels
  open_levels (g ∷ gs) [] gates levels = absurd levels
  open_levels (g ∷ gs) (l ∷ ls) gates levels = (
    is_level g gs l (is_net_gate f g.0 ok (All-head (λ (h : NetNo). IsGate f h.0) g gs gates)) levels.0,
    levels.0.next ∙ next_is gs ls levels.1,
    open_levels gs ls (All-tail (λ (h : NetNo). IsGate f h.0) g gs gates) levels.1,
  )
