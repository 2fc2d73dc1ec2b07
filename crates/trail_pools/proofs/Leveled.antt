-- The levels of an order are levels that the laws speak of, and each has few places and half edges.
use Rattle.std.proofs.Common.{ℕ, ◌≡◌, ◌*◌, ◌<◌, ◌≤◌, Bool, List, [], ◌∷◌, ◌++◌, All, Contains, length}
use Rattle.std.proofs.Common.{map, refl, sym, ap, subst, arith, ◌∙◌, inl, inr}
use Rattle.std.specs.List.{filter, range_with_len}
use Rattle.std.proofs.lemmas.Bool.{cases_Bool}
use Rattle.std.proofs.lemmas.List.{length-append, length-map}
use Rattle.std.proofs.lemmas.List.Elements.{All-cons, All-head, All-nil, All-tail}
use Rattle.std.proofs.lemmas.List.FromFn.{length-range_with_len}
use Rattle.std.proofs.lemmas.List.Sorted.{IsPermutation-refl, length_permutation}
use Rattle.std.proofs.lemmas.List.Sums.{count_by-le-length, length-filter}
use Rattle.cell_num.specs.declared.net.NetNo.{NetNo}
use Rattle.cell_num.specs.declared.finger.Row.{Row}
use Rattle.cell_num.specs.declared.finger.Row.TheVariants.{P, N}
use Rattle.cell_num.specs.declared.finger.Fingers.{Fingers}
use Rattle.cell_num.specs.Fingers.{AreFingers}
use Rattle.cell_num.proofs.In.{Image, in_map}
use Rattle.cell_num.proofs.Lists.{all_from_contains, contains_one}
use Rattle.row_state.proofs.KindsOf.{few_fingers}
use Rattle.trail_state.specs.declared.edge.FingerEnds.{FingerEnds}
use Rattle.trail_state.specs.Choices.{is_on}
use Rattle.trail_state.specs.Levels.{IsGate}
use Rattle.trail_state.specs.Pairings.{choices_of, nets_at}
use Rattle.trail_state.specs.Places.{node_at}
use Rattle.trail_state.proofs.Law.{is_net_gate}
use Rattle.open_gates.specs.declared.gates.OpenGates.{OpenGates}
use Rattle.open_gates.specs.Open.{fingers_at, fingers_beside, is_left_open, is_merged_net}
use Rattle.trail_halves.specs.declared.choice.OpenChoice.{OpenChoice}
use Rattle.trail_halves.specs.Open.{IsOpenChoice}
use Rattle.trail_pools.specs.declared.level.OpenPlaces.{OpenPlaces}
use Rattle.trail_pools.specs.declared.level.PoolLevel.{PoolLevel}
use Rattle.trail_pools.specs.Choices.{ends_on, filled_choice, first_front, open_choices_of}
use Rattle.trail_pools.specs.Leveled.{HasFew, level_of, levels_of, open_places}
use Rattle.trail_pools.specs.Levels.{AreLevels}
use Rattle.trail_pools.specs.Meeting.{AreOpenLevels, IsOpenLevel, is_open_place, stays_open}
use Rattle.trail_pools.proofs.AllListed.{all_open_choices, closed_list, filled_list, half_front, open_list}
use Rattle.trail_pools.proofs.Beside.{Made, made, x_of}
use Rattle.trail_pools.proofs.Listed.{open_levels}
use Rattle.trail_pools.proofs.PoolNets.{pools_are}

-- ---- the list

pub no_level : (f : Fingers) (opened : OpenGates) (order : List NetNo) → length order ≡ 0
    → [] ≡ levels_of f opened order
unfolding levels_of
no_level f opened [] none = refl
no_level f opened (g ∷ gs) none = absurd (omega (arith, none))

pub level_is : (f : Fingers) (opened : OpenGates) (order : List NetNo) (gate : NetNo) (later : List NetNo)
    (now next : OpenPlaces) (choices : List OpenChoice) → order ≡ gate ∷ later → now ≡ open_places f opened order
    → next ≡ open_places f opened later → choices ≡ open_choices_of f opened.row (is_left_open opened) gate.0
    → ◌≡◌ {A = PoolLevel} (record { now = now; next = next; choices = choices }) (level_of f opened gate later)
level_is f opened order gate later now next choices first all rest chosen =
    let first_now : now ≡ open_places f opened (gate ∷ later) = all ∙ ap (open_places f opened) first in
    λ i. record { now = first_now i; next = rest i; choices = chosen i }

pub first_level : (f : Fingers) (opened : OpenGates) (gate : NetNo) (later : List NetNo)
    → levels_of f opened (gate ∷ later) ≡ level_of f opened gate later ∷ levels_of f opened later
unfolding levels_of
first_level f opened gate later = refl

-- ---- levels of the law

module _ (f : Fingers) (ok : AreFingers f) (opened : OpenGates) where
  abbrev r : Row
  r = opened.row

  abbrev counted : ℕ → Bool
  counted g = is_left_open opened g

  abbrev choices : ℕ → List OpenChoice
  choices g = open_choices_of f r counted g

  level_open : (g : NetNo) (later : List NetNo) → g.0 < f.nets
      → IsOpenLevel f r counted (is_merged_net f opened) g later (level_of f opened g later)
  level_open g later within = record {
    now = refl;
    next = refl;
    are =
        all_from_contains (IsOpenChoice f r counted g.0) (choices g.0)
        (λ c k. (all_open_choices f ok r g.0 within counted c).1
        (record {
          it = c;
          there = k;
          edges = IsPermutation-refl c.edges;
          halves = IsPermutation-refl c.halves;
        }));
    all_choices = λ c is. (all_open_choices f ok r g.0 within counted c).0 is;
  }

  are_open_levels : (order : List NetNo) → All (λ (g : NetNo). IsGate f g.0) order
      → AreOpenLevels f r counted (is_merged_net f opened) order (levels_of f opened order)
  unfolding levels_of
  are_open_levels [] gates = tt
  are_open_levels (g ∷ gs) gates = (
    level_open g gs (is_net_gate f g.0 ok (All-head (λ (h : NetNo). IsGate f h.0) g gs gates)),
    are_open_levels gs (All-tail (λ (h : NetNo). IsGate f h.0) g gs gates),
  )

  -- ---- few places and half edges

  row_few : (s : Row) → length (fingers_at s f) ≤ 32
  row_few P = (few_fingers f ok).0
  row_few N = (few_fingers f ok).1

  ends_few : (g : ℕ) → length (ends_on g (fingers_at r f)) ≤ 32
  ends_few g =
      omega (
        arith,
        row_few r,
        length-map (filter (is_on g) (fingers_at r f)) nets_at,
        length-filter (is_on g) (fingers_at r f),
        count_by-le-length (is_on g) (fingers_at r f),
      )

  front_few : (g : ℕ) (c : OpenChoice) → Contains (half_front f r g) c → length c.halves ≤ 32
  front_few g c k =
      let xs : List FingerEnds = ends_on g (fingers_at r f) in
      let m : Made r (first_front xs) (ends_on g (fingers_beside r f)) c =
      made r (ends_on g (fingers_beside r f)) (first_front xs) c k in
      let first : OpenChoice = record { edges = []; halves = xs } in
      let begun : first ≡ m.choice = contains_one first m.choice m.there in
      let halves : length xs ≡ length m.choice.halves = ap (λ (d : OpenChoice). length d.halves) begun in
      omega (
        arith,
        ends_few g,
        halves,
        length_permutation m.choice.halves (map x_of m.pairs ++ c.halves) m.halves,
        length-append (map x_of m.pairs) c.halves,
      )

  filled_few : (g : ℕ) (c : OpenChoice) → Contains (filled_list f g) c → length c.halves ≤ 32
  filled_few g c k =
      let i : Image filled_choice (choices_of f g) c = in_map filled_choice (choices_of f g) c k in
      let none : length c.halves ≡ 0 = ap (λ (d : OpenChoice). length d.halves) (sym i.is) in
      omega (arith, none)

  choice_few : (g : ℕ) (c : OpenChoice) → Contains (choices g) c → length c.halves ≤ 32
  choice_few g c k = elim (cases_Bool (stays_open f r counted g)) [
    | inl on ↦ front_few g c (subst (λ l. Contains l c) (open_list f r counted g on) k)
    | inr off ↦ filled_few g c (subst (λ l. Contains l c) (closed_list f r counted g off) k)
  ]

  places_few : (gates : List NetNo) → length (open_places f opened gates).places ≤ 131072
  places_few gates =
      let is : ℕ → Bool = is_open_place f r counted (is_merged_net f opened) gates in
      let most : ℕ = 2 * (256 * f.nets) in
      omega (
        arith,
        ok.few_nets,
        length-map (filter is (range_with_len 0 most)) node_at,
        length-filter is (range_with_len 0 most),
        count_by-le-length is (range_with_len 0 most),
        length-range_with_len 0 most,
      )

  few_of : (order : List NetNo) → All HasFew (levels_of f opened order)
  unfolding levels_of
  few_of [] = All-nil HasFew
  few_of (g ∷ gs) =
      All-cons HasFew (level_of f opened g gs) (levels_of f opened gs)
      (record {
        places = places_few (g ∷ gs);
        halves =
            all_from_contains (λ (c : OpenChoice). length c.halves ≤ 32) (choices g.0) (choice_few g.0);
      })
      (few_of gs)

pub are_levels : (f : Fingers) (opened : OpenGates) (order : List NetNo) (levels : List PoolLevel) → AreFingers f
    → levels ≡ levels_of f opened order → All (λ (g : NetNo). IsGate f g.0) order
    → AreLevels f opened.row (is_left_open opened) (is_merged_net f opened) order levels
are_levels f opened order levels ok is gates =
    subst (AreLevels f opened.row (is_left_open opened) (is_merged_net f opened) order) (sym is)
    (open_levels f ok opened.row (is_left_open opened) (is_merged_net f opened) (pools_are f opened) order
    (levels_of f opened order) gates (are_open_levels f ok opened order gates))

pub all_few : (f : Fingers) (opened : OpenGates) (order : List NetNo) (levels : List PoolLevel) → AreFingers f
    → levels ≡ levels_of f opened order → All HasFew levels
all_few f opened order levels ok is = subst (All HasFew) (sym is) (few_of f ok opened order)
