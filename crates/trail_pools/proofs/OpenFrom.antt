-- What gates can meet is listed place by place.
use Rattle.std.proofs.Common.{ℕ, zero, suc, ◌≡◌, ◌+◌, ◌-◌, ◌*◌, ◌<◌, ◌&&◌, ◌||◌, Bool, true, false, not}
use Rattle.std.proofs.Common.{if◌then◌else◌, cond, List, [], ◌∷◌, ◌++◌, append-nil, append_assoc, map, refl, sym, ap}
use Rattle.std.proofs.Common.{subst, arith, ◌∙◌, ◌==◌, All}
use Rattle.std.specs.List.{filter, range_with_len}
use Rattle.std.proofs.lemmas.Bool.{le-ltb, lt-ltb}
use Rattle.std.proofs.lemmas.List.{map-append}
use Rattle.std.proofs.lemmas.List.Elements.{filter-append}
use Rattle.cell_num.specs.declared.net.NetNo.{NetNo}
use Rattle.cell_num.specs.declared.finger.Row.{Row}
use Rattle.cell_num.specs.declared.finger.Fingers.{Fingers}
use Rattle.cell_num.specs.Fingers.{AreFingers}
use Rattle.cell_num.proofs.Lists.{all_from_contains}
use Rattle.trail_state.specs.declared.edge.Node.{Node}
use Rattle.trail_state.specs.Places.{node_at}
use Rattle.trail_state.proofs.Members.{passes_from}
use Rattle.trail_state.proofs.Opened.{range_below}
use Rattle.trail_state.proofs.Parts.{range_next}
use Rattle.open_gates.specs.declared.gates.OpenGates.{OpenGates}
use Rattle.open_gates.specs.Merged.{net_in}
use Rattle.open_gates.specs.Open.{is_left_open, is_merged_net}
use Rattle.trail_pools.specs.declared.level.OpenPlaces.{OpenPlaces}
use Rattle.trail_pools.specs.declared.pools.Pools.{Pools}
use Rattle.trail_pools.specs.Leveled.{has_pool, open_places, pools_of}
use Rattle.trail_pools.specs.Meeting.{any_ends_free, any_meets, is_open_place, is_open_pool, open_from}
use Rattle.trail_pools.specs.NodesMet.{is_net_met, is_pool_met, nodes_met, pool_places}
use Rattle.trail_pools.proofs.NodesMet.{any_picked, picked}
use Rattle.trail_pools.proofs.PoolNets.{test_is}

pub nets_below : (p : ℕ → Bool) (n : ℕ) (nets : List ℕ) → nets ≡ filter p (range_with_len 0 n)
    → All (λ net. net < n) nets
nets_below p n nets is =
    subst (All (λ net. net < n)) (sym is)
    (all_from_contains (λ net. net < n) (filter p (range_with_len 0 n))
    (λ v k. range_below n v (passes_from p (range_with_len 0 n) v k).there))

-- ---- ranges

-- tests that are alike below n
same_below : (p q : ℕ → Bool) (n : ℕ) → ((v : ℕ) → v < n → p v ≡ q v)
    → filter p (range_with_len 0 n) ≡ filter q (range_with_len 0 n)
same_below p q zero same = refl
same_below p q (suc n) same =
    let one : suc n ≡ n + 1 = omega arith in
    let last : filter p (n ∷ []) ≡ filter q (n ∷ []) =
    ap (λ b. cond b (n ∷ []) []) (same n (omega arith)) in
    ap (λ k. filter p (range_with_len 0 k)) one ∙ ap (filter p) (range_next n)
    ∙ filter-append p (range_with_len 0 n) (n ∷ [])
    ∙ ap (λ l. l ++ filter p (n ∷ [])) (same_below p q n (λ v l. same v (omega (arith, l))))
    ∙ ap (λ l. filter q (range_with_len 0 n) ++ l) last
    ∙ sym (filter-append q (range_with_len 0 n) (n ∷ []))
    ∙ sym (ap (filter q) (range_next n)) ∙ sym (ap (λ k. filter q (range_with_len 0 k)) one)

-- the numbers below n + k, in two parts
two_parts : (o : ℕ → Bool) (n k : ℕ) → filter o (range_with_len 0 (n + k))
    ≡ filter o (range_with_len 0 n) ++ map (λ m. n + m) (filter (λ m. o (n + m)) (range_with_len 0 k))
two_parts o n zero =
    let whole : n + 0 ≡ n = omega arith in
    ap (λ j. filter o (range_with_len 0 j)) whole ∙ sym (append-nil (filter o (range_with_len 0 n)))
two_parts o n (suc k) =
    let more : n + suc k ≡ (n + k) + 1 = omega arith in
    let one : suc k ≡ k + 1 = omega arith in
    let low : List ℕ = filter o (range_with_len 0 n) in
    let q : ℕ → Bool = λ m. o (n + m) in
    let high : List ℕ = map (λ m. n + m) (filter q (range_with_len 0 k)) in
    ap (λ j. filter o (range_with_len 0 j)) more ∙ ap (filter o) (range_next (n + k))
    ∙ filter-append o (range_with_len 0 (n + k)) ((n + k) ∷ [])
    ∙ ap (λ l. l ++ filter o ((n + k) ∷ [])) (two_parts o n k)
    ∙ append_assoc low high (filter o ((n + k) ∷ []))
    ∙ ap (λ l. low ++ (high ++ l)) (last (o (n + k)))
    ∙ ap (λ l. low ++ l) (sym (map-append (λ m. n + m) (filter q (range_with_len 0 k)) (filter q (k ∷ []))))
    ∙ ap (λ l. low ++ map (λ m. n + m) l) (sym (filter-append q (range_with_len 0 k) (k ∷ [])))
    ∙ ap (λ l. low ++ map (λ m. n + m) (filter q l)) (sym (range_next k))
    ∙ ap (λ j. low ++ map (λ m. n + m) (filter q (range_with_len 0 j))) (sym one)
  where
    last : (b : Bool) → cond b ((n + k) ∷ []) [] ≡ map (λ m. n + m) (cond b (k ∷ []) [])
    last true = refl
    last false = refl

as_places : (n : ℕ) (nets : List ℕ) → map node_at (map (λ m. n + m) nets) ≡ pool_places n nets
as_places n [] = refl
as_places n (net ∷ nets) = ap (λ l. node_at (n + net) ∷ l) (as_places n nets)

turned : (a b : Bool) → (a && b) ≡ (b && a)
turned true true = refl
turned true false = refl
turned false true = refl
turned false false = refl

-- ---- what gates can meet

-- the nets of pools, by a test
module _ (f : Fingers) (opened : OpenGates) (gates : List NetNo) (t : ℕ → Bool) where
  abbrev n : ℕ
  n = 256 * f.nets

  abbrev r : Row
  r = opened.row

  abbrev met : List Node
  met = nodes_met f opened gates

  abbrev meets : ℕ → Bool
  meets v = any_meets f r (is_left_open opened) gates v

  abbrev is_place : ℕ → Bool
  is_place p = is_open_place f r (is_left_open opened) t gates p

  abbrev is_pool : ℕ → Bool
  is_pool net = is_open_pool f r (is_left_open opened) t gates net

  abbrev is_pool_listed : ℕ → Bool
  is_pool_listed net = t net && (is_net_met r met net || any_ends_free f r (is_left_open opened) gates net)

  pools_same : (net : ℕ) → is_pool_listed net ≡ is_pool net
  pools_same net =
      ap (λ b. t net && (b || any_ends_free f r (is_left_open opened) gates net))
      (any_picked (λ v. net_in r v == net) meets (range_with_len 0 n))

  low_places : filter is_place (range_with_len 0 n) ≡ filter (λ v. not (t (net_in r v)) && meets v) (range_with_len 0 n)
  low_places =
      same_below is_place (λ v. not (t (net_in r v)) && meets v) n
      (λ v within. ap (λ b. if b then not (t (net_in r v)) && meets v else is_pool (v - n)) (lt-ltb v n within))

  high_place : (m : ℕ) → is_place (n + m) ≡ is_pool_listed m
  high_place m =
      let back : n + m - n ≡ m = omega arith in
      ap (λ b. if b then not (t (net_in r (n + m))) && meets (n + m) else is_pool (n + m - n))
      (le-ltb (n + m) n (omega arith))
      ∙ ap is_pool back ∙ sym (pools_same m)

  pub places_are : filter (λ (w : Node). not (t (net_in r w.0))) met
      ++ pool_places n (filter is_pool_listed (range_with_len 0 n))
      ≡ (open_from f r (is_left_open opened) t gates).places
  places_are =
      let low : List ℕ = filter is_place (range_with_len 0 n) in
      let nets : List ℕ = filter is_pool_listed (range_with_len 0 n) in
      let whole : n + n ≡ 2 * n = omega arith in
      ap (λ l. l ++ pool_places n nets)
      (picked (λ v. not (t (net_in r v))) meets (λ v. not (t (net_in r v)) && meets v) (range_with_len 0 n)
      (λ v. turned (not (t (net_in r v))) (meets v)))
      ∙ ap (λ l. map node_at l ++ pool_places n nets) (sym low_places)
      ∙ ap (λ l. map node_at low ++ l) (sym (as_places n nets))
      ∙ sym (map-append node_at low (map (λ m. n + m) nets))
      ∙ (λ i. map node_at (low ++ map (λ m. n + m) (filter (λ m. sym (high_place m) i) (range_with_len 0 n))))
      ∙ ap (map node_at) (sym (two_parts is_place n n))
      ∙ ap (λ k. map node_at (filter is_place (range_with_len 0 k))) whole

  pub nodes_are : filter (λ (w : Node). t (net_in r w.0)) met ≡ (open_from f r (is_left_open opened) t gates).nodes
  nodes_are =
      picked (λ v. t (net_in r v)) meets (λ v. t (net_in r v) && meets v) (range_with_len 0 n)
      (λ v. turned (t (net_in r v)) (meets v))

pub are_open : (f : Fingers) (opened : OpenGates) (pools : Pools) (gates : List NetNo) (nodes_found nodes others all : List Node)
    (nets : List ℕ) → AreFingers f → pools ≡ pools_of f opened → nodes_found ≡ nodes_met f opened gates
    → nets ≡ filter (is_pool_met f opened pools nodes_found gates) (range_with_len 0 pools.nodes)
    → nodes ≡ filter (λ (w : Node). has_pool pools (net_in pools.row w.0)) nodes_found
    → others ≡ filter (λ (w : Node). not (has_pool pools (net_in pools.row w.0))) nodes_found
    → all ≡ others ++ pool_places pools.nodes nets
    → ◌≡◌ {A = OpenPlaces} (record { places = all; nodes = nodes }) (open_places f opened gates)
are_open f opened pools gates nodes_found nodes others all nets ok pools_is met_is nets_are nodes_is others_are all_are =
    let t : ℕ → Bool = is_merged_net f opened in
    let test : has_pool pools ≡ t = test_is f opened pools ok (ap (λ (p : Pools). p.nets) pools_is) in
    let n_is : pools.nodes ≡ 256 * f.nets = ap (λ (p : Pools). p.nodes) pools_is in
    let r_is : pools.row ≡ opened.row = ap (λ (p : Pools). p.row) pools_is in
    let nets_is : nets ≡ filter (is_pool_listed f opened gates t) (range_with_len 0 (256 * f.nets)) =
    nets_are
    ∙ (λ i. filter (λ net. test i net && (is_net_met (r_is i) (met_is i) net
    || any_ends_free f opened.row (is_left_open opened) gates net)) (range_with_len 0 (n_is i))) in
    let places_is : all ≡ (open_places f opened gates).places =
    all_are
    ∙ (λ i. others_are i ++ pool_places (n_is i) (nets_is i))
    ∙ (λ i. filter (λ (w : Node). not (test i (net_in (r_is i) w.0))) (met_is i)
    ++ pool_places (256 * f.nets) (filter (is_pool_listed f opened gates t) (range_with_len 0 (256 * f.nets))))
    ∙ places_are f opened gates t in
    let nodes_are_open : nodes ≡ (open_places f opened gates).nodes =
    nodes_is ∙ (λ i. filter (λ (w : Node). test i (net_in (r_is i) w.0)) (met_is i)) ∙ nodes_are f opened gates t in
    λ i. record { places = places_is i; nodes = nodes_are_open i }
