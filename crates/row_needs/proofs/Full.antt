-- The table has no more entries than the limit, and all leftovers that next columns lead to.
use Rattle.std.proofs.Common.{ℕ, ◌≡◌, ◌+◌, ◌≤◌, Bool, false, true, cond, List, [], ◌∷◌, inl, inr, sym, ap, subst, arith, ◌∙◌, All, map}
use Rattle.std.specs.Prelude.{IsSome, is_some, nat_eq}
use Rattle.std.specs.HashMap.{get, hash_map_len, keys}
use Rattle.std.specs.List.{IsDistinct, list_any}
use Rattle.std.proofs.lemmas.Bool.{cases_Bool, eqb-true, ne_eqb}
use Rattle.std.proofs.lemmas.List.{length-map}
use Rattle.std.proofs.lemmas.List.Elements.{All-contains, All-weaker}
use Rattle.std.proofs.lemmas.Map.Keys.{IsDistinct-from_apart}
use Rattle.std.proofs.lemmas.Cmp.{nat_eq_equiv}
use Rattle.std.proofs.lemmas.Map.Made.{is_some-lookup, length-le_from_is_member}
use Rattle.cell_num.proofs.Lists.{all_map}
use Rattle.cell_num.proofs.Pairs.{Some', pairs_map, test_finds}
use Rattle.cell_num.specs.Fingers.{columns_of}
use Rattle.row_state.specs.declared.kind.Kinds.{Kinds}
use Rattle.row_state.specs.declared.state.State.{State}
use Rattle.row_state.specs.declared.step.Step.{Step}
use Rattle.row_state.specs.Decoded.{rows_code}
use Rattle.row_state.specs.Start.{AreSomeKinds, IsState, columns_left, start_of}
use Rattle.row_state.specs.Steps.{state_after}
use Rattle.row_state.proofs.StateAfter.{after_valid}
use Rattle.row_state.proofs.Valid.{ends_are_nets, start_valid}
use Rattle.row_needs.specs.declared.needs.Needs.{Needs}
use Rattle.row_needs.specs.Best.{AddsBelow}
use Rattle.row_needs.specs.Many.{ComeInTurn, IsLedTo, ManyRests, SameLeft, state_behind}
use Rattle.row_needs.specs.Rest.{HasRest, IsClosed}
use Rattle.row_needs.proofs.Tables.{same_counts, same_left}

-- ---- what is added

pub one_more : (b : Bool) (n m : ℕ) → n ≡ m + cond b 0 1 → n ≤ m + 1
one_more true n m e = omega (arith, e)
one_more false n m e = omega (arith, e)

pub below_on : (k : Kinds) (n m : ℕ) (a b c : Needs) → AddsBelow k n a b → AddsBelow k m b c → n ≡ m → AddsBelow k n a c
below_on k n m a b c first then is s valid low has = first s valid low (then s valid (subst (λ z. z ≤ columns_left k s) is low) has)

pub below_add : (k : Kinds) (first old new : Needs) (at : State) (number : ℕ) → IsState k at → number ≡ rows_code k at → AddsBelow k (columns_left k at) first old → ((q : ℕ) → nat_eq number q ≡ false → get nat_eq new.rests q ≡ get nat_eq old.rests q) → AddsBelow k (columns_left k at + 1) first new
below_add k first old new at number valid is below others s state low has = elim (cases_Bool (nat_eq number (rows_code k s))) [
  | inl same ↦ absurd (omega (arith, low, ap columns_of (same_left k at s valid state (sym is ∙ eqb-true number (rows_code k s) same))))
  | inr apart ↦ below s state (omega (arith, low)) (ap is_some (sym (others (rows_code k s) apart)) ∙ has)
]

-- ---- it has all of them

pub record IsThere (k : Kinds) (needs : Needs) (s : State) : Type 0 where
  pub valid : IsState k s
  pub has : HasRest k needs s

there_behind : (k : Kinds) (needs : Needs) → AreSomeKinds k → IsClosed k needs → (s : State) (steps : List Step) → IsThere k needs s → ComeInTurn k s steps → IsThere k needs (state_behind k s steps)
there_behind k needs some closed s [] there turn = there
there_behind k needs some closed s (x ∷ xs) there turn =
    there_behind k needs some closed (state_after k s x) xs (record { valid = after_valid k s x (ends_are_nets k some) there.valid turn.0; has = closed s x there.valid turn.0 there.has }) turn.1

-- it has what is left in each state that next columns lead to
pub there_led : (k : Kinds) (needs : Needs) (s : State) → AreSomeKinds k → IsClosed k needs → HasRest k needs (start_of k) → IsLedTo k s → IsThere k needs s
there_led k needs s some closed start led = subst (IsThere k needs) led.behind (there_behind k needs some closed (start_of k) led.steps (record { valid = start_valid k; has = start }) led.turn)

pub few_rests : (k : Kinds) (needs : Needs) (limit : ℕ) → AreSomeKinds k → IsClosed k needs → HasRest k needs (start_of k) → hash_map_len needs.rests ≤ limit → ManyRests k limit → ⊥
few_rests k needs limit some closed start within many =
    absurd (omega (arith, within, many.more, length-map many.states (rows_code k), length-map needs.rests.entries (λ e. e.0), length-le_from_is_member nat_eq_equiv numbers (keys needs.rests) distinct member))
  where
    numbers : List ℕ
    numbers = map (rows_code k) many.states

    there : All (IsThere k needs) many.states
    there = All-weaker (IsLedTo k) (IsThere k needs) (λ s led. there_led k needs s some closed start led) many.states many.led

    differ : (a b : State) → IsThere k needs a → IsThere k needs b → (SameLeft a b → ⊥) → nat_eq (rows_code k a) (rows_code k b) ≡ false
    differ a b ha hb apart = ne_eqb (rows_code k a) (rows_code k b) (λ same. apart (same_counts k a b ha.valid hb.valid same))

    distinct : IsDistinct nat_eq numbers
    distinct = IsDistinct-from_apart nat_eq numbers (pairs_map (λ a b. SameLeft a b → ⊥) (IsThere k needs) (λ a b. nat_eq a b ≡ false) (rows_code k) many.states differ there many.apart)

    member : (q : ℕ) → list_any (nat_eq q) numbers ≡ true → list_any (nat_eq q) (keys needs.rests) ≡ true
    member q is =
        let found : Some' (λ z. nat_eq q z ≡ true) numbers = test_finds (nat_eq q) numbers is in
        let has : IsSome (get nat_eq needs.rests found.it) = All-contains (λ z. IsSome (get nat_eq needs.rests z)) numbers found.it (all_map (IsThere k needs) (λ z. IsSome (get nat_eq needs.rests z)) (rows_code k) many.states (λ s h. h.has) there) found.there in
        sym (is_some-lookup (nat_eq q) needs.rests.entries) ∙ ap (λ n. is_some (get nat_eq needs.rests n)) (eqb-true q found.it found.holds) ∙ has
