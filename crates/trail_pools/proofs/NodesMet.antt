-- Lists of nodes that are picked, merged and tested.
use Rattle.std.proofs.Common.{ℕ, ◌≡◌, ◌*◌, ◌&&◌, ◌||◌, Bool, true, false, not, List, [], ◌∷◌, length, map, refl, sym}
use Rattle.std.proofs.Common.{ap, arith, ◌∙◌, inl, inr}
use Rattle.std.specs.List.{filter, list_any, range_with_len}
use Rattle.std.specs.Set.{sorted_merge}
use Rattle.std.proofs.lemmas.Bool.{and_from, and_right, cases_Bool}
use Rattle.cell_num.specs.declared.net.NetNo.{NetNo}
use Rattle.cell_num.specs.declared.finger.Fingers.{Fingers}
use Rattle.trail_state.specs.declared.edge.Node.{Node}
use Rattle.trail_state.specs.Nodes.{any_can_meet, can_meet, is_net_on, node_cmp, open_nodes}
use Rattle.trail_state.specs.Places.{node_at}
use Rattle.trail_state.proofs.Blocks.{none_pass}
use Rattle.trail_state.proofs.Members.{filter_off, filter_on}
use Rattle.trail_state.proofs.Unions.{merged, merged_tests}
use Rattle.open_gates.specs.declared.gates.OpenGates.{OpenGates}
use Rattle.open_gates.specs.Open.{fingers_beside, is_left_open}
use Rattle.trail_pools.specs.Meeting.{any_meets, meets_node, net_beside, stays_open}
use Rattle.trail_pools.specs.NodesMet.{is_full_at, nodes_meeting, nodes_met}

-- nodes of a list that pass another test
module _ (p : ℕ → Bool) where
  abbrev of_node : Node → Bool
  of_node w = p w.0

  pub picked : (q r : ℕ → Bool) (xs : List ℕ) → ((v : ℕ) → r v ≡ (q v && p v))
      → filter of_node (map node_at (filter q xs)) ≡ map node_at (filter r xs)
  picked q r [] same = refl
  picked q r (x ∷ xs) same = elim (cases_Bool (q x)) [
    | inl in_q ↦
        ap (λ l. filter of_node (map node_at l)) (filter_on q x xs in_q)
        ∙ elim (cases_Bool (p x)) [
          | inl in_p ↦
              filter_on of_node (node_at x) (map node_at (filter q xs)) in_p
              ∙ ap (λ l. node_at x ∷ l) (picked q r xs same)
              ∙ sym (ap (map node_at) (filter_on r x xs (same x ∙ and_from (q x) (p x) in_q in_p)))
          | inr out ↦
              filter_off of_node (node_at x) (map node_at (filter q xs)) out ∙ picked q r xs same
              ∙ sym (ap (map node_at) (filter_off r x xs (same x ∙ and_right (q x) (p x) out)))
        ]
    | inr off ↦
        ap (λ l. filter of_node (map node_at l)) (filter_off q x xs off) ∙ picked q r xs same
        ∙ sym (ap (map node_at) (filter_off r x xs (same x ∙ ap (λ b. b && p x) off)))
  ]

  -- one of them passes
  pub any_picked : (q : ℕ → Bool) (xs : List ℕ)
      → list_any of_node (map node_at (filter q xs)) ≡ list_any (λ v. p v && q v) xs
  any_picked q [] = refl
  any_picked q (x ∷ xs) = elim (cases_Bool (q x)) [
    | inl on ↦
        ap (λ l. list_any of_node (map node_at l)) (filter_on q x xs on) ∙ ap (λ b. p x || b) (any_picked q xs)
        ∙ ap (λ b. b || list_any (λ v. p v && q v) xs) (sym (stays (p x)) ∙ ap (λ b. p x && b) (sym on))
    | inr off ↦
        ap (λ l. list_any of_node (map node_at l)) (filter_off q x xs off) ∙ any_picked q xs
        ∙ ap (λ b. b || list_any (λ v. p v && q v) xs) (sym (and_right (p x) (q x) off))
  ]
    where
      stays : (b : Bool) → (b && true) ≡ b
      stays true = refl
      stays false = refl

module _ (f : Fingers) (opened : OpenGates) where
  -- one gate can meet what it can by its columns
  one_gate : (g v : ℕ) (b : Bool) → (can_meet f g v && b) ≡ ((can_meet f g v || false) && b)
  one_gate g v b = ap (λ c. c && b) (alone (can_meet f g v))
    where
      alone : (c : Bool) → c ≡ (c || false)
      alone true = refl
      alone false = refl

  pub gate_nodes : (gate : NetNo) (stays : Bool) (nodes all : List Node)
      → stays ≡ stays_open f opened.row (is_left_open opened) gate.0 → nodes ≡ open_nodes f (gate ∷ [])
      → all ≡ filter (is_full_at f opened.row gate.0 stays) nodes → all ≡ nodes_meeting f opened gate.0
  gate_nodes gate stays nodes all stays_is nodes_are is =
      is ∙ ap (λ b. filter (is_full_at f opened.row gate.0 b) nodes) stays_is
      ∙ ap (filter (is_full_at f opened.row gate.0 (stays_open f opened.row (is_left_open opened) gate.0))) nodes_are
      ∙ picked
      (λ v. not (stays_open f opened.row (is_left_open opened) gate.0)
      || is_net_on (fingers_beside opened.row f) gate.0 (net_beside opened.row v))
      (any_can_meet f (gate ∷ [])) (meets_node f opened.row (is_left_open opened) gate.0)
      (range_with_len 0 (256 * f.nets))
      (λ v. one_gate gate.0 v (not (stays_open f opened.row (is_left_open opened) gate.0)
      || is_net_on (fingers_beside opened.row f) gate.0 (net_beside opened.row v)))

  pub first_met : (gates : List NetNo) (gate : NetNo) (later : List NetNo) (first others all : List Node)
      → gates ≡ gate ∷ later → first ≡ nodes_meeting f opened gate.0 → others ≡ nodes_met f opened later
      → all ≡ sorted_merge node_cmp true first others → all ≡ nodes_met f opened gates
  first_met gates gate later first others all is first_is others_are merges =
      merges ∙ ap (λ l. merged l others) first_is ∙ ap (merged (nodes_meeting f opened gate.0)) others_are
      ∙ merged_tests (meets_node f opened.row (is_left_open opened) gate.0)
      (any_meets f opened.row (is_left_open opened) later) 0 (256 * f.nets)
      ∙ ap (nodes_met f opened) (sym is)

  pub none_met : (gates : List NetNo) → length gates ≡ 0 → [] ≡ nodes_met f opened gates
  none_met [] none = sym (ap (map node_at) (none_pass (λ v. false) 0 (256 * f.nets) (λ v _. refl)))
  none_met (g ∷ gates) none = absurd (omega (arith, none))
