-- The states that next columns lead to, and how many different leftovers they have.
use Rattle.std.proofs.Common.{ℕ, ◌≡◌, ◌+◌, ◌*◌, ◌≤◌, false, true, cond, List, [], ◌∷◌, ◌++◌, length, inl, inr, refl, sym, ap, subst, arith, ◌∙◌, All, Contains, map}
use Rattle.std.specs.Prelude.{IsSome, is_some, nat_eq}
use Rattle.std.specs.HashMap.{IsUnique, get, hash_map_len, keys}
use Rattle.std.specs.List.{list_any}
use Rattle.std.proofs.lemmas.Bool.{cases_Bool, eq-eqb, eqb-true, true≢false}
use Rattle.std.proofs.lemmas.List.{length-map}
use Rattle.std.proofs.lemmas.List.Elements.{All-cons, All-nil}
use Rattle.std.proofs.lemmas.List.Folds.{list_any-from_Any}
use Rattle.std.proofs.lemmas.Map.Keys.{apart_from_distinct}
use Rattle.std.proofs.lemmas.Map.Made.{is_some-lookup}
use Rattle.cell_num.proofs.Lists.{all_from_contains, all_map}
use Rattle.cell_num.proofs.Pairs.{any_at, pairs_append, pairs_map, pairs_one}
use Rattle.row_state.specs.declared.kind.Kinds.{Kinds}
use Rattle.row_state.specs.declared.state.State.{State}
use Rattle.row_state.specs.declared.step.Step.{Step}
use Rattle.row_state.specs.Decoded.{rows_code}
use Rattle.row_state.specs.Code.{count_lists, counts_code}
use Rattle.row_state.specs.Start.{start_of}
use Rattle.row_state.specs.Steps.{IsPossible, state_after}
use Rattle.row_needs.specs.declared.needs.Needs.{Needs}
use Rattle.row_needs.specs.declared.rest.Rest.{Rest}
use Rattle.row_needs.specs.Many.{ComeInTurn, IsLedTo, ManyRests, SameLeft, state_behind}
use Rattle.row_needs.specs.Rest.{HasRest}
use Rattle.row_needs.specs.Table.{AreLedTo}

-- ---- next columns lead to a state

pub led_start : (k : Kinds) → IsLedTo k (start_of k)
led_start k = record { steps = []; turn = tt; behind = refl }

turn_more : (k : Kinds) (s : State) (steps : List Step) (step : Step) → ComeInTurn k s steps → IsPossible k (state_behind k s steps) step → ComeInTurn k s (steps ++ step ∷ [])
turn_more k s [] step turn possible = (possible, tt)
turn_more k s (x ∷ xs) step turn possible = (turn.0, turn_more k (state_after k s x) xs step turn.1 possible)

behind_more : (k : Kinds) (s : State) (steps : List Step) (step : Step) → state_behind k s (steps ++ step ∷ []) ≡ state_after k (state_behind k s steps) step
behind_more k s [] step = refl
behind_more k s (x ∷ xs) step = behind_more k (state_after k s x) xs step

pub led_on : (k : Kinds) (s : State) (step : Step) → IsLedTo k s → IsPossible k s step → IsLedTo k (state_after k s step)
led_on k s step led possible = record {
  steps = led.steps ++ step ∷ [];
  turn = turn_more k (start_of k) led.steps step led.turn (subst (λ z. IsPossible k z step) (sym led.behind) possible);
  behind = behind_more k (start_of k) led.steps step ∙ ap (λ z. state_after k z step) led.behind;
}

-- ---- the table's numbers are those of such states

pub led_none : (k : Kinds) (needs : Needs) → needs.rests.entries ≡ [] → AreLedTo k needs
led_none k needs empty = record {
  state = λ q. start_of k;
  led = λ q has. led_start k;
  number = λ q has. absurd (true≢false (sym has ∙ is_some-lookup (nat_eq q) needs.rests.entries ∙ ap (λ (es : List (ℕ × Rest)). list_any (nat_eq q) (map (λ (e : ℕ × Rest). e.0) es)) empty));
}

pub led_more : (k : Kinds) (old new : Needs) (at : State) (number : ℕ) → number ≡ rows_code k at → IsLedTo k at → AreLedTo k old → ((q : ℕ) → nat_eq number q ≡ false → get nat_eq new.rests q ≡ get nat_eq old.rests q) → AreLedTo k new
led_more k old new at number is led all others = record {
  state = λ q. cond (nat_eq number q) at (all.state q);
  led = led_of;
  number = number_of;
}
  where
    led_of : (q : ℕ) → IsSome (get nat_eq new.rests q) → IsLedTo k (cond (nat_eq number q) at (all.state q))
    led_of q has = elim (cases_Bool (nat_eq number q)) [
      | inl same ↦ subst (λ b. IsLedTo k (cond b at (all.state q))) (sym same) led
      | inr apart ↦ subst (λ b. IsLedTo k (cond b at (all.state q))) (sym apart) (all.led q (ap is_some (sym (others q apart)) ∙ has))
    ]

    number_of : (q : ℕ) → IsSome (get nat_eq new.rests q) → rows_code k (cond (nat_eq number q) at (all.state q)) ≡ q
    number_of q has = elim (cases_Bool (nat_eq number q)) [
      | inl same ↦ ap (λ b. rows_code k (cond b at (all.state q))) same ∙ sym is ∙ eqb-true number q same
      | inr apart ↦ ap (λ b. rows_code k (cond b at (all.state q))) apart ∙ all.number q (ap is_some (sym (others q apart)) ∙ has)
    ]

-- ---- one more state than the table has entries

code_of_same : (k : Kinds) (a b : State) → SameLeft a b → rows_code k a ≡ rows_code k b
code_of_same k a b same = ap (λ p. counts_code k.p p * count_lists k.n + counts_code k.n a.n_left) same.0 ∙ ap (λ n. counts_code k.p b.p_left * count_lists k.n + counts_code k.n n) same.1

pub has_key : (needs : Needs) (q : ℕ) → Contains (keys needs.rests) q → IsSome (get nat_eq needs.rests q)
has_key needs q there = is_some-lookup (nat_eq q) needs.rests.entries ∙ list_any-from_Any (nat_eq q) (keys needs.rests) (any_at (λ z. nat_eq q z ≡ true) (keys needs.rests) q there (eq-eqb q q refl))

not_both : (a b : ℕ) → a ≡ b → nat_eq a b ≡ false → ⊥
not_both a b e f = true≢false (sym (eq-eqb a b e) ∙ f)

pub many_rests : (k : Kinds) (needs : Needs) (at : State) (limit : ℕ) → IsUnique nat_eq needs.rests → AreLedTo k needs → IsLedTo k at → (HasRest k needs at → ⊥) → limit ≤ hash_map_len needs.rests → ManyRests k limit
many_rests k needs at limit unique all led none full = record {
  states = at ∷ map all.state (keys needs.rests);
  led = All-cons (IsLedTo k) at (map all.state (keys needs.rests)) led (all_map Here (IsLedTo k) all.state (keys needs.rests) (λ q h. h.0) here);
  apart = pairs_append Apart (at ∷ []) (map all.state (keys needs.rests)) (pairs_one Apart at)
      (pairs_map (λ a b. nat_eq a b ≡ false) Here Apart all.state (keys needs.rests) two here (λ i j d before within. apart_from_distinct nat_eq (keys needs.rests) i j d unique before within))
      (All-cons (λ a. All (Apart a) (map all.state (keys needs.rests))) at [] (all_map Here (Apart at) all.state (keys needs.rests) new here) (All-nil (λ a. All (Apart a) (map all.state (keys needs.rests)))));
  more = omega (arith, full, length_states);
}
  where
    Apart : State → State → Type 0
    Apart a b = SameLeft a b → ⊥

    Here : ℕ → Type 0
    Here q = IsLedTo k (all.state q) × (rows_code k (all.state q) ≡ q) × IsSome (get nat_eq needs.rests q)

    here : All Here (keys needs.rests)
    here = all_from_contains Here (keys needs.rests) (λ q there. (all.led q (has_key needs q there), all.number q (has_key needs q there), has_key needs q there))

    two : (a b : ℕ) → Here a → Here b → nat_eq a b ≡ false → Apart (all.state a) (all.state b)
    two a b ha hb f same = not_both a b (sym ha.1 ∙ code_of_same k (all.state a) (all.state b) same ∙ hb.1) f

    new : (q : ℕ) → Here q → Apart at (all.state q)
    new q h same = none (ap (λ n. is_some (get nat_eq needs.rests n)) (code_of_same k at (all.state q) same ∙ h.1) ∙ h.2)

    length_states : length (map all.state (keys needs.rests)) ≡ hash_map_len needs.rests
    length_states = length-map (keys needs.rests) all.state ∙ length-map needs.rests.entries (λ e. e.0)
