-- The ends that every list of choices has, along an order: exactly the least number of ends in its choices.
use Rattle.std.proofs.Common.{ℕ, zero, suc, ◌≡◌, ◌+◌, ◌-◌, ◌*◌, ◌<◌, ◌≤◌, ◌↔◌, true, List, [], ◌∷◌, ◌++◌}
use Rattle.std.proofs.Common.{append-nil, length, drop, refl, sym, ap, subst, arith, ◌∙◌, inl, inr, ◌⊎◌, All, Contains, IsPermutation}
use Rattle.std.specs.List.{AllZip}
use Rattle.std.proofs.lemmas.Bool.{or_left}
use Rattle.std.proofs.lemmas.List.{drop_all}
use Rattle.std.proofs.lemmas.List.Elements.{All-head, All-tail}
use Rattle.std.proofs.lemmas.List.Sorted.{IsPermutation-append_left, IsPermutation-append_right, IsPermutation-refl, IsPermutation-trans}
use Rattle.std.proofs.lemmas.Slice.Zip.{AllZip-long}
use Rattle.cell_num.specs.declared.net.NetNo.{NetNo}
use Rattle.cell_num.specs.declared.finger.Fingers.{Fingers}
use Rattle.cell_num.specs.Fingers.{AreFingers}
use Rattle.cell_num.proofs.Lists.{contains_cons, contains_here, contains_none, contains_there}
use Rattle.trail_state.specs.declared.edge.Node.{Node}
use Rattle.trail_state.specs.declared.edge.Edge.{Edge}
use Rattle.trail_state.specs.declared.state.Place.{Place}
use Rattle.trail_state.specs.declared.level.Level.{Level}
use Rattle.trail_state.specs.Choices.{HasChoice, IsChoice}
use Rattle.trail_state.specs.Levels.{AreLevels, Ends, IsGate, IsOrder}
use Rattle.trail_state.specs.Nodes.{any_can_meet, can_meet, open_nodes}
use Rattle.trail_state.specs.Pairings.{choices_of}
use Rattle.trail_state.specs.Places.{is_met}
use Rattle.trail_state.specs.Settling.{ends_after, is_open, state_after}
use Rattle.trail_state.proofs.Along.{AreNodes, AreOpen, all_added, along_settled, ends_along, start_follows}
use Rattle.trail_state.proofs.Built.{all_choices}
use Rattle.trail_state.proofs.Counted.{settled}
use Rattle.trail_state.proofs.Law.{any_later, drop_next, ends_true, is_net_gate, no_nodes}
use Rattle.trail_state.proofs.Opened.{met_can, open_differ, open_has, open_is}
use Rattle.trail_check.specs.Rows.{AreChoices, HasChoices, ends_in}
use Rattle.trail_check.proofs.Counts.{ends_are}
use Rattle.trail_check.proofs.Exact.{start_exact}
use Rattle.trail_check.proofs.Law.{added_all, all_edges}
use Rattle.trail_check.proofs.SettledAlong.{along_same, nothing, settled_same, settles_along}

-- one of the listed choices of each gate
abbrev AreListed : List Level → List (List Edge) → Type 0
AreListed ls cs = AllZip (λ (l : Level) (c : List Edge). Contains l.choices c) ls cs

-- all choices hold, or one does not
search_choices : (P Q : List Edge → Type 0) (cs : List (List Edge)) → ((c : List Edge) → P c ⊎ Q c) →
    ((c : List Edge) → Contains cs c → P c) ⊎ ((c : List Edge) × Contains cs c × Q c)
search_choices P Q [] test = inl (λ c k. absurd (contains_none c k))
search_choices P Q (d ∷ cs) test = elim (test d) [
  | inl here ↦ elim (search_choices P Q cs test) [
    | inl rest ↦ inl (λ c k. elim (contains_cons d cs c k) [ inl same ↦ subst P same here | inr later ↦ rest c later ])
    | inr other ↦ inr (other.0, contains_there d cs other.0 other.1, other.2)
  ]
  | inr fails ↦ inr (d, contains_here d cs, fails)
]

module _ (f : Fingers) (ok : AreFingers f) (order : List NetNo) (is_order : IsOrder f order) where
  abbrev n : ℕ
  n = 256 * f.nets

  abbrev opens : ℕ → List Node
  opens i = open_nodes f (drop i order)

  nodes : AreNodes n opens
  nodes = record {
    differ = λ i. open_differ f (drop i order);
    fewer = λ i v e. let later : (any_can_meet f (drop (suc i) order) v ≡ true) ×
        (v < 256 * f.nets) = open_is f (drop (suc i) order) v e in
        open_has f (drop i order) v (any_later (λ (g : NetNo). can_meet f g.0 v) i order later.0) later.1;
    below = λ i v e. (open_is f (drop i order) v e).1;
  }

  within : (g : NetNo) → IsGate f g.0 → g.0 < f.nets
  within g gate = is_net_gate f g.0 ok gate

  fits : (gs : List NetNo) (i : ℕ) (cs : List (List Edge)) → All (λ (g : NetNo). IsGate f g.0) gs → drop i order ≡ gs →
      AreChoices f gs cs → AreOpen n opens i cs
  fits [] i [] gates at each = tt
  fits [] i (c ∷ cs) gates at each = absurd each
  fits (g ∷ gs) i [] gates at each = absurd each
  fits (g ∷ gs) i (c ∷ cs) gates at each = (
    free,
    fits gs (suc i) cs (All-tail (λ (h : NetNo). IsGate f h.0) g gs gates)
        (drop_next i order g gs at) each.1,
  )
    where
      free : (v : ℕ) → is_met c v ≡ true → is_open (opens i) v ≡ true
      free v m =
          let can : (can_meet f g.0 v ≡ true) × (v < 256 * f.nets) = met_can f g.0 ok
          (within g (All-head (λ (h : NetNo). IsGate f h.0) g gs gates)) c each.0 v m in
          open_has f (drop i order) v (ap (λ hs. any_can_meet f hs v) at ∙ or_left (can_meet f g.0 v)
          (any_can_meet f gs v) can.0) can.1

  -- the ends along the order are those of the choices
  along_is : (cs : List (List Edge)) → AreChoices f order cs → ends_along n opens 0 [] cs ≡ ends_in f cs
  along_is cs each =
      let fit : AreOpen n opens 0 cs = fits order 0 cs is_order.gates refl each in
      let most : settled n [] (opens 0) + ends_along n opens 0 [] cs ≤ settled n (all_added [] cs)
      (opens (length cs + 0)) =
      along_settled n opens nodes cs 0 [] [] (start_follows (opens 0)) fit in
      let least : settled n (all_added [] cs) (opens (length cs + 0)) ≤ settled n [] (opens 0) + ends_along n opens 0 []
      cs =
      settles_along n opens nodes cs 0 [] [] (start_follows (opens 0)) (start_exact n (opens 0)) fit in
      let none : settled n [] (opens 0) ≡ 0 = nothing n (opens 0) in
      let count : length cs ≡ length order = AllZip-long (λ (g : NetNo) (c : List Edge). IsChoice f g.0 c) order cs each
      in
      let last : opens (length cs + 0) ≡ [] = ap (open_nodes f) (drop_all (length cs + 0) order (omega (arith, count)))
      ∙ no_nodes 65536 (omega arith) f ok order is_order in
      let end : settled n (all_added [] cs) (opens (length cs + 0)) ≡ settled n (all_added [] cs) [] = ap
      (settled n (all_added [] cs)) last in
      let all : IsPermutation (all_added [] cs) (all_edges cs) = subst (IsPermutation (all_added [] cs))
      (append-nil (all_edges cs)) (added_all cs []) in
      omega (
        arith,
        most,
        least,
        none,
        end,
        settled_same n (all_added [] cs) (all_edges cs) all,
        ends_are n (all_edges cs),
      )

  -- listed choices are choices
  each_choice : (gs : List NetNo) (ls : List Level) (cs : List (List Edge)) → All (λ (g : NetNo). IsGate f g.0) gs →
      AreLevels f gs ls → AreListed ls cs → AreChoices f gs cs
  each_choice [] [] [] gates levels listed = tt
  each_choice [] [] (c ∷ cs) gates levels listed = absurd listed
  each_choice [] (l ∷ ls) cs gates levels listed = absurd levels
  each_choice (g ∷ gs) [] cs gates levels listed = absurd levels
  each_choice (g ∷ gs) (l ∷ ls) [] gates levels listed = absurd listed
  each_choice (g ∷ gs) (l ∷ ls) (c ∷ cs) gates levels listed =
      let there : Contains (choices_of f g.0) c = subst (λ all. Contains all c) levels.0.choices listed.0 in
      let gate : IsGate f g.0 = All-head (λ (h : NetNo). IsGate f h.0) g gs gates in (
        (all_choices f ok g.0 (within g gate) c).1 (record { it = c; there = there; same = IsPermutation-refl c }),
        each_choice gs ls cs (All-tail (λ (h : NetNo). IsGate f h.0) g gs gates) levels.1 listed.1,
      )

  -- and each choice is listed, its edges in some order
  record Listed (ls : List Level) (cs : List (List Edge)) : Type 0 where
    pub its : List (List Edge)
    pub listed : AreListed ls its
    pub same : IsPermutation (all_edges cs) (all_edges its)

  each_listed : (gs : List NetNo) (ls : List Level) (cs : List (List Edge)) → All (λ (g : NetNo). IsGate f g.0) gs →
      AreLevels f gs ls → AreChoices f gs cs → Listed ls cs
  each_listed [] [] [] gates levels each = record { its = []; listed = tt; same = IsPermutation-refl [] }
  each_listed [] [] (c ∷ cs) gates levels each = absurd each
  each_listed [] (l ∷ ls) cs gates levels each = absurd levels
  each_listed (g ∷ gs) [] cs gates levels each = absurd levels
  each_listed (g ∷ gs) (l ∷ ls) [] gates levels each = absurd each
  each_listed (g ∷ gs) (l ∷ ls) (c ∷ cs) gates levels each =
      let gate : IsGate f g.0 = All-head (λ (h : NetNo). IsGate f h.0) g gs gates in
      let here : HasChoice (choices_of f g.0) c = (all_choices f ok g.0 (within g gate) c).0 each.0 in
      let rest : Listed ls cs = each_listed gs ls cs (All-tail (λ (h : NetNo). IsGate f h.0) g gs gates) levels.1 each.1
      in
      record {
        its = here.it ∷ rest.its;
        listed = (subst (λ all. Contains all here.it) (sym levels.0.choices) here.there, rest.listed);
        same = IsPermutation-trans (c ++ all_edges cs) (here.it ++ all_edges cs) (here.it ++ all_edges rest.its)
            (IsPermutation-append_left (all_edges cs) c here.it here.same)
            (IsPermutation-append_right here.it (all_edges cs) (all_edges rest.its) rest.same);
      }

  -- listed choices with fewer ends
  record Fewer (ls : List Level) (i : ℕ) (s : List Place) (k : ℕ) : Type 0 where
    pub cs : List (List Edge)
    pub listed : AreListed ls cs
    pub fewer : ends_along n opens i s cs < k

  -- every list of choices has so many ends, or one of them has fewer
  every : (gs : List NetNo) (ls : List Level) (i : ℕ) (s : List Place) (k : ℕ) → AreLevels f gs ls → drop i order ≡ gs →
      Ends ls s k ⊎ Fewer ls i s k
  every [] [] i s zero levels at = inl refl
  every [] [] i s (suc k) levels at = inr (record { cs = []; listed = tt; fewer = omega arith })
  every [] (l ∷ ls) i s k levels at = absurd levels
  every (g ∷ gs) [] i s k levels at = absurd levels
  every (g ∷ gs) (l ∷ ls) i s k levels at =
      elim (search_choices (λ c. Ends ls (state_after l.now l.next s c) (k - ends_after l.now l.next s c))
      (λ c. Fewer ls (suc i) (state_after l.now l.next s c) (k - ends_after l.now l.next s c)) l.choices
      (λ c. every gs ls (suc i) (state_after l.now l.next s c) (k - ends_after l.now l.next s c) levels.1 next)) [
        | inl all ↦ inl all
        | inr some ↦ inr (with_choice some.0 some.1 some.2)
      ]
    where
      next : drop (suc i) order ≡ gs
      next = drop_next i order g gs at

      now_is : l.now ≡ opens i
      now_is = levels.0.now ∙ ap (open_nodes f) (sym at)

      next_is : l.next ≡ opens (suc i)
      next_is = levels.0.next ∙ ap (open_nodes f) (sym next)

      with_choice : (c : List Edge) → Contains l.choices c → Fewer ls (suc i) (state_after l.now l.next s c)
          (k - ends_after l.now l.next s c) → Fewer (l ∷ ls) i s k
      with_choice c there few =
          let state : state_after l.now l.next s c ≡ state_after (opens i) (opens (suc i)) s c = ap
          (λ w. state_after w l.next s c) now_is ∙ ap (λ w. state_after (opens i) w s c) next_is in
          let ends : ends_after l.now l.next s c ≡ ends_after (opens i) (opens (suc i)) s c = ap
          (λ w. ends_after w l.next s c) now_is ∙ ap (λ w. ends_after (opens i) w s c) next_is in
          let moved : ends_along n opens (suc i) (state_after l.now l.next s c) few.cs ≡ ends_along n opens (suc i)
          (state_after (opens i) (opens (suc i)) s c) few.cs = ap (λ t. ends_along n opens (suc i) t few.cs) state
          in
          record { cs = c ∷ few.cs; listed = (there, few.listed); fewer = omega (arith, few.fewer, ends, moved) }

  -- ends that every list of choices has are no more than those of any choices
  ends_least : (ls : List Level) (k : ℕ) → AreLevels f order ls → Ends ls [] k → (cs : List (List Edge)) →
      AreChoices f order cs → k ≤ ends_in f cs
  ends_least ls k levels h cs each =
      let some : Listed ls cs = each_listed order ls cs is_order.gates levels each in
      let along : k ≤ ends_along 65536 opens 0 [] some.its = ends_true 65536 (omega arith) f ok order is_order ls order
      0 [] k some.its levels refl some.listed h in
      let is : ends_along n opens 0 [] some.its ≡ ends_in f some.its = along_is some.its
      (each_choice order ls some.its is_order.gates levels some.listed) in
      omega (
        arith,
        along,
        along_same 65536 n opens 0 [] some.its,
        is,
        ends_are n (all_edges some.its),
        ends_are n (all_edges cs),
        settled_same n (all_edges cs) (all_edges some.its) some.same,
      )

  least_known : (ls : List Level) (k : ℕ) → AreLevels f order ls →
      ((cs : List (List Edge)) → AreChoices f order cs → k ≤ ends_in f cs) → Ends ls [] k
  least_known ls k levels least = elim (every order ls 0 [] k levels refl) [
    | inl all ↦ all
    | inr few ↦
        let each : AreChoices f order few.cs = each_choice order ls few.cs is_order.gates levels few.listed in
        absurd (omega (arith, few.fewer, along_is few.cs each, least few.cs each))
  ]

  some_fewer : (ls : List Level) (k : ℕ) → AreLevels f order ls → (Ends ls [] (k + 1) → ⊥) → HasChoices f order k
  some_fewer ls k levels not_all = elim (every order ls 0 [] (k + 1) levels refl) [
    | inl all ↦ absurd (not_all all)
    | inr few ↦
        let each : AreChoices f order few.cs = each_choice order ls few.cs is_order.gates levels few.listed in
        record { choices = few.cs; each = each; few = omega (arith, few.fewer, along_is few.cs each) }
  ]

pub known_ends : (f : Fingers) → AreFingers f → (order : List NetNo) → IsOrder f order → (levels : List Level) →
    AreLevels f order levels → (ends : ℕ) → Ends levels [] ends ↔
    ((choices : List (List Edge)) → AreChoices f order choices → ends ≤ ends_in f choices)
known_ends f ok order is_order levels are ends = (
  ends_least f ok order is_order levels ends are,
  least_known f ok order is_order levels ends are,
)

-- some choices have no more ends, where not every list of choices has more
pub fewer_ends : (f : Fingers) → AreFingers f → (order : List NetNo) → IsOrder f order → (levels : List Level) →
    AreLevels f order levels → (ends : ℕ) → (Ends levels [] (ends + 1) → ⊥) → HasChoices f order ends
fewer_ends f ok order is_order levels are ends not_all = some_fewer f ok order is_order levels ends are not_all
