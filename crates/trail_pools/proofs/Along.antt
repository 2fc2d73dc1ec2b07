-- The ends counted along an order are at most those of all its choices.
use Rattle.std.proofs.Common.{ℕ, ◌≡◌, ◌≢◌, ◌+◌, ◌*◌, ◌<◌, ◌≤◌, ◌==◌, ◌&&◌, Bool, true, false, not, List, [], ◌∷◌, ◌++◌}
use Rattle.std.proofs.Common.{append-nil, append_assoc, refl, sym, ap, subst, arith, ◌∙◌, All, IsPermutation}
use Rattle.std.proofs.lemmas.Bool.{both_ways}
use Rattle.std.proofs.lemmas.List.Elements.{All-append, All-contains, All-nil}
use Rattle.std.proofs.lemmas.List.Sorted.{IsPermutation-refl}
use Rattle.cell_num.specs.declared.finger.Row.{Row}
use Rattle.cell_num.specs.declared.finger.Fingers.{Fingers}
use Rattle.cell_num.specs.declared.net.NetNo.{NetNo}
use Rattle.cell_num.proofs.Lists.{all_imply, contains_none}
use Rattle.cell_num.proofs.Pairs.{pairs_none}
use Rattle.row_trails.specs.Trails.{size_none, size_same}
use Rattle.trail_state.specs.declared.edge.Node.{Node}
use Rattle.trail_state.specs.declared.edge.Edge.{Edge}
use Rattle.trail_state.specs.declared.edge.FingerEnds.{FingerEnds}
use Rattle.trail_state.specs.Settling.{is_open}
use Rattle.trail_state.proofs.Along.{start_follows}
use Rattle.trail_state.proofs.Follows.{added}
use Rattle.open_gates.specs.Merged.{net_in}
use Rattle.trail_check.specs.Graph.{is_odd}
use Rattle.trail_halves.specs.Halves.{half_ends, links, place_of}
use Rattle.trail_halves.specs.declared.choice.OpenChoice.{OpenChoice}
use Rattle.trail_halves.specs.Open.{edges_in, halves_in, open_ends}
use Rattle.trail_pools.specs.Levels.{AreFewer, AreLevels, AreListed, ArePlaces, IsOpenEdge, IsOpenHalf, IsOpenNode}
use Rattle.trail_pools.specs.declared.level.PoolLevel.{PoolLevel}
use Rattle.trail_pools.specs.Levels.{IsPlace, MeetsOpen, ends_along, first_open, none_open}
use Rattle.trail_pools.specs.declared.level.OpenPlaces.{OpenPlaces}
use Rattle.trail_pools.specs.declared.state.PoolState.{PoolState}
use Rattle.trail_pools.specs.State.{ends_after, start, state_after}
use Rattle.trail_pools.proofs.Ends.{settled_is}
use Rattle.trail_pools.proofs.States.{After, IsState, certain}
use Rattle.trail_pools.proofs.Step.{gate_done}

module _ (n : ℕ) (r : Row) (pool : ℕ → Bool) where
  -- a level with one of its choices, and what is open after it
  record IsStep (l : PoolLevel) (after : OpenPlaces) (c : OpenChoice) : Type 0 where
    pub places : ArePlaces n r pool l.now
    pub fewer : AreFewer n r pool l.next l.now
    pub meets : MeetsOpen n r pool l.now c
    pub next : l.next ≡ after

  abbrev AreSteps : List PoolLevel → List OpenChoice → Type 0
  AreSteps [] [] = Unit {0}
  AreSteps (l ∷ ls) (c ∷ cs) = IsStep l (first_open ls) c × AreSteps ls cs
  AreSteps _ _ = ⊥

  no_places : ArePlaces n r pool none_open
  no_places = record {
    once = pairs_none (λ (a b : Node). a.0 ≢ b.0);
    are = All-nil (IsPlace n r pool);
    pools = λ v is free. absurd (both_ways false refl free);
  }

  first_places : (ls : List PoolLevel) (cs : List OpenChoice) → AreSteps ls cs → ArePlaces n r pool (first_open ls)
  first_places [] cs steps = no_places
  first_places (l ∷ ls) [] steps = absurd steps
  first_places (l ∷ ls) (c ∷ cs) steps = steps.0.places

  later_node : (l : PoolLevel) (o : OpenPlaces) (c : OpenChoice) → IsStep l o c → (v : ℕ)
      → IsOpenNode n r pool o v → IsOpenNode n r pool l.now v
  later_node l o c step v k = record {
    below = k.below;
    place =
        step.fewer.places (place_of n r pool v)
        (ap (λ (p : OpenPlaces). is_open p.places (place_of n r pool v)) step.next ∙ k.place);
    node = λ is. step.fewer.nodes v (ap (λ (p : OpenPlaces). is_open p.nodes v) step.next ∙ k.node is);
  }

  later_edge : (l : PoolLevel) (o : OpenPlaces) (c : OpenChoice) → IsStep l o c → (e : Edge)
      → IsOpenEdge n r pool o e → IsOpenEdge n r pool l.now e
  later_edge l o c step e at = (later_node l o c step e.a.0 at.0, later_node l o c step e.b.0 at.1)

  later_half : (l : PoolLevel) (o : OpenPlaces) (c : OpenChoice) → IsStep l o c → (h : FingerEnds)
      → IsOpenHalf n r pool o h → IsOpenHalf n r pool l.now h
  later_half l o c step h at = (
    step.fewer.places (n + h.lo) (ap (λ (p : OpenPlaces). is_open p.places (n + h.lo)) step.next ∙ at.0),
    step.fewer.places (n + h.hi) (ap (λ (p : OpenPlaces). is_open p.places (n + h.hi)) step.next ∙ at.1),
  )

  -- all that later choices meet is open
  later : (ls : List PoolLevel) (cs : List OpenChoice) → AreSteps ls cs
      → All (IsOpenEdge n r pool (first_open ls)) (edges_in cs)
  later ls [] steps = All-nil (IsOpenEdge n r pool (first_open ls))
  later [] (c ∷ cs) steps = absurd steps
  later (l ∷ ls) (c ∷ cs) steps =
      All-append (IsOpenEdge n r pool l.now) c.edges (edges_in cs) steps.0.meets.edges
      (all_imply (IsOpenEdge n r pool (first_open ls)) (IsOpenEdge n r pool l.now) (edges_in cs)
      (later_edge l (first_open ls) c steps.0) (later ls cs steps.1))

  later_halves : (ls : List PoolLevel) (cs : List OpenChoice) → AreSteps ls cs
      → All (IsOpenHalf n r pool (first_open ls)) (halves_in cs)
  later_halves ls [] steps = All-nil (IsOpenHalf n r pool (first_open ls))
  later_halves [] (c ∷ cs) steps = absurd steps
  later_halves (l ∷ ls) (c ∷ cs) steps =
      All-append (IsOpenHalf n r pool l.now) c.halves (halves_in cs) steps.0.meets.halves
      (all_imply (IsOpenHalf n r pool (first_open ls)) (IsOpenHalf n r pool l.now) (halves_in cs)
      (later_half l (first_open ls) c steps.0) (later_halves ls cs steps.1))

  along : (ls : List PoolLevel) (cs : List OpenChoice) (all last_edges edges : List Edge)
      (last_halves halves : List FingerEnds) (s : PoolState) → AreSteps ls cs → edges ++ edges_in cs ≡ last_edges
      → halves ++ halves_in cs ≡ last_halves
      → IsState n r pool all last_edges last_halves edges halves (first_open ls) s
      → certain n r pool last_edges last_halves all (first_open ls).places
      + ends_along n r pool ls s cs ≤ half_ends n r pool last_edges last_halves
  along [] [] all last_edges edges last_halves halves s steps edges_are halves_are h =
      let same : IsPermutation all (links n r pool last_edges last_halves) =
      subst (λ l. IsPermutation all (links n r pool l last_halves)) (sym (append-nil edges) ∙ edges_are)
      (subst (λ l. IsPermutation all (links n r pool edges l)) (sym (append-nil halves) ∙ halves_are) h.same) in
      omega (arith, settled_is n r pool all last_edges last_halves same)
  along [] (c ∷ cs) all last_edges edges last_halves halves s steps edges_are halves_are h = absurd steps
  along (l ∷ ls) [] all last_edges edges last_halves halves s steps edges_are halves_are h = absurd steps
  along (l ∷ ls) (c ∷ cs) all last_edges edges last_halves halves s steps edges_are halves_are h =
      let is : l.next ≡ first_open ls = steps.0.next in
      let places : ArePlaces n r pool l.next = subst (ArePlaces n r pool) (sym is) (first_places ls cs steps.1) in
      let more : All (IsOpenEdge n r pool l.next) (edges_in cs) =
      subst (λ o. All (IsOpenEdge n r pool o) (edges_in cs)) (sym is) (later ls cs steps.1) in
      let more_halves : All (IsOpenHalf n r pool l.next) (halves_in cs) =
      subst (λ o. All (IsOpenHalf n r pool o) (halves_in cs)) (sym is) (later_halves ls cs steps.1) in
      let e_are : (edges ++ c.edges) ++ edges_in cs ≡ last_edges =
      append_assoc edges c.edges (edges_in cs) ∙ edges_are in
      let h_are : (halves ++ c.halves) ++ halves_in cs ≡ last_halves =
      append_assoc halves c.halves (halves_in cs) ∙ halves_are in
      let joined : List Edge = added all (links n r pool c.edges c.halves) in
      let after : PoolState = state_after n r pool l.next s c l.now in
      let one : After n r pool last_edges last_halves all joined (edges ++ c.edges) (halves ++ c.halves) l.now l.next
      after (ends_after n r pool l.next s c l.now) =
      gate_done n r pool l.now l.next c edges (edges_in cs) halves (halves_in cs) all s steps.0.places places
      steps.0.fewer steps.0.meets more more_halves last_edges last_halves e_are h_are h in
      let rest : certain n r pool last_edges last_halves joined (first_open ls).places + ends_along n r pool ls after cs
      ≤ half_ends n r pool last_edges last_halves =
      along ls cs joined last_edges (edges ++ c.edges) last_halves (halves ++ c.halves) after steps.1 e_are h_are
      (subst (λ o. IsState n r pool joined last_edges last_halves (edges ++ c.edges) (halves ++ c.halves) o after) is
      one.state) in
      let moved : certain n r pool last_edges last_halves joined l.next.places ≡ certain n r pool last_edges last_halves
      joined
      (first_open ls).places =
      ap (λ (o : OpenPlaces). certain n r pool last_edges last_halves joined o.places) is in
      omega (arith, one.counted, rest, moved)

  -- before the first gate nothing is known
  starts : (last_edges : List Edge) (last_halves : List FingerEnds) (left : OpenPlaces)
      → IsState n r pool [] last_edges last_halves [] [] left start
  starts last_edges last_halves left = record {
    below = All-nil (λ (e : Edge). (e.a.0 < n) × (e.b.0 < n));
    same = IsPermutation-refl {X = Edge} [];
    follows = start_follows left.places;
    tracked = record {
      odd = λ v within. sym (never (pool (net_in r v)));
      balance = λ net free is. omega (
        arith,
        size_same n (λ v. (net_in r v == net) && (is_odd [] v && not (is_open left.nodes v))) (λ v. false)
            (λ v l. never (net_in r v == net)),
        size_none n,
      );
    };
    held = λ p v c none some same. absurd (contains_none p c);
  }
    where
      never : (b : Bool) → (b && false) ≡ false
      never true = refl
      never false = refl

  steps_ends : (ls : List PoolLevel) (cs : List OpenChoice) → AreSteps ls cs
      → ends_along n r pool ls start cs ≤ half_ends n r pool (edges_in cs) (halves_in cs)
  steps_ends ls cs steps =
      let all : certain n r pool (edges_in cs) (halves_in cs) [] (first_open ls).places
      + ends_along n r pool ls start cs ≤ half_ends n r pool (edges_in cs) (halves_in cs) =
      along ls cs [] (edges_in cs) [] (halves_in cs) [] start steps refl refl
      (starts (edges_in cs) (halves_in cs) (first_open ls)) in
      omega (arith, all)

steps_of : (f : Fingers) (r : Row) (counted pool : ℕ → Bool) (gs : List NetNo) (ls : List PoolLevel)
    (cs : List OpenChoice) → AreLevels f r counted pool gs ls → AreListed ls cs
    → AreSteps (256 * f.nets) r pool ls cs
steps_of f r on pool [] [] [] levels listed = tt
steps_of f r on pool [] [] (c ∷ cs) levels listed = absurd listed
steps_of f r on pool [] (l ∷ ls) cs levels listed = absurd levels
steps_of f r on pool (g ∷ gs) [] cs levels listed = absurd levels
steps_of f r on pool (g ∷ gs) (l ∷ ls) [] levels listed = absurd listed
steps_of f r on pool (g ∷ gs) (l ∷ ls) (c ∷ cs) levels listed = (
  record {
    places = levels.0.places;
    fewer = levels.0.fewer;
    meets = All-contains (MeetsOpen (256 * f.nets) r pool l.now) l.choices c levels.0.meets listed.0;
    next = levels.1;
  },
  steps_of f r on pool gs ls cs levels.2 listed.1,
)

pub along_order : (f : Fingers) (r : Row) (counted pool : ℕ → Bool) (order : List NetNo) (levels : List PoolLevel)
    (choices : List OpenChoice) → AreLevels f r counted pool order levels → AreListed levels choices
    → ends_along (256 * f.nets) r pool levels start choices ≤ open_ends f r pool choices
along_order f r on pool order levels choices are listed =
    steps_ends (256 * f.nets) r pool levels choices (steps_of f r on pool order levels choices are listed)
