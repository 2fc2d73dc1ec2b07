-- Nets below another one, found one after the other.
use Rattle.std.proofs.Common.{ℕ, zero, suc, ◌≡◌, ◌-◌, ◌++◌, ◌⊎◌, Bool, true, false, List, [], ◌∷◌, length, take, take_all, drop, get_or, replicate, slice_set, inl, inr, refl, sym, subst, arith, Any, Contains, ◌∙◌}
use Rattle.std.proofs.lemmas.Bool.{both_ways, cases_Bool, cases_eq}
use Rattle.std.proofs.lemmas.List.{get_or-set_other, length-drop, take-append-drop}
use Rattle.std.proofs.lemmas.List.Elements.{All-contains, Contains-append_cases}
use Rattle.cell_num.specs.declared.net.NetNo.{NetNo}
use Rattle.cell_num.proofs.Pairs.{Some', any_at, some_from_any}
use Rattle.track_ways.specs.Tables.{marked}
use Rattle.track_ways.proofs.Complete.{net_same}
use Rattle.row_cycles.specs.declared.above.NetAbove.{NetAbove}
use Rattle.row_cycles.specs.Above.{HasCycle, IsAbove, LeadsDown, over}
use Rattle.row_cycles.specs.Down.{AreAllFound, IsAtOrBelow, IsNew, IsNext}
use Rattle.row_cycles.proofs.Paths.{above_joined, first_pair, one_above}

abbrev pub AreBelow : List NetAbove → NetNo → List Bool → Type 0
AreBelow above upper found = (net : NetNo) → marked found net ≡ true → IsAbove above upper net

none_found : (n u : ℕ) → get_or (replicate n false) u false ≡ false
none_found zero u = refl
none_found (suc n) zero = refl
none_found (suc n) (suc u) = none_found n u

pub first_below : (above : List NetAbove) (upper : NetNo) → AreBelow above upper (replicate 256 false)
first_below above upper net e = absurd (both_ways (marked (replicate 256 false) net) (none_found 256 net.0) e)

-- what is next is below
next_below : (above : List NetAbove) (upper : NetNo) (found : List Bool) (a : NetAbove) → IsNext above upper found a → AreBelow above upper found → IsAbove above upper a.lower
next_below above upper found a next below = elim next.is.from [
  | inl same ↦ subst (λ net. IsAbove above net a.lower) same (one_above above a next.there)
  | inr under ↦ above_joined above upper a.upper a.lower (below a.upper under) (one_above above a next.there)
]

pub more_below : (above : List NetAbove) (upper : NetNo) (found : List Bool) (a : NetAbove) → IsNext above upper found a → AreBelow above upper found → AreBelow above upper (slice_set found a.lower.0 true)
more_below above upper found a next below net e = elim (cases_eq net.0 a.lower.0) [
  | inl same ↦ subst (IsAbove above upper) (sym (net_same net a.lower same)) (next_below above upper found a next below)
  | inr other ↦
      let there : get_or (slice_set found a.lower.0 true) net.0 false ≡ get_or found net.0 false = get_or-set_other found a.lower.0 net.0 true false other in
      below net (sym there ∙ e)
]

-- where all nets below are found, those that a path leads to are
step_found : (above : List NetAbove) (upper : NetNo) (found : List Bool) (net lower : NetNo) → AreAllFound above upper found → IsAtOrBelow upper found net → Contains above (over net lower) → marked found lower ≡ true
step_found above upper found net lower all from there = elim (cases_Bool (marked found lower)) [
  | inl marked' ↦ marked'
  | inr new ↦ absurd (All-contains (λ a. IsNew upper found a → ⊥) above (over net lower) all there (record { from = from; new = new }))
]

path_found : (above : List NetAbove) (upper : NetNo) (found : List Bool) (net : NetNo) (between : List NetNo) (lower : NetNo) → AreAllFound above upper found → IsAtOrBelow upper found net → LeadsDown above net between lower → marked found lower ≡ true
path_found above upper found net [] lower all from h = step_found above upper found net lower all from h
path_found above upper found net (next ∷ between) lower all from h = path_found above upper found next between lower all (inr (step_found above upper found net next all from h.0)) h.1

pub is_found : (above : List NetAbove) (upper : NetNo) (found : List Bool) (lower : NetNo) → AreAllFound above upper found → IsAbove above upper lower → marked found lower ≡ true
is_found above upper found lower all (between, h) = path_found above upper found upper between lower all (inl refl) h

-- ---- cycles

-- a cycle leaves some net by a pair
pub cycle_pair : (above : List NetAbove) → HasCycle above → Any (λ (a : NetAbove). IsAbove above a.upper a.upper) above
cycle_pair above (net, (between, h)) =
    let first : (next : NetNo) × Contains above (over net next) = first_pair above net between net h in
    any_at (λ (a : NetAbove). IsAbove above a.upper a.upper) above (over net first.0) first.1 (between, h)

pub pair_cycle : (above pairs : List NetAbove) → Any (λ (a : NetAbove). IsAbove above a.upper a.upper) pairs → HasCycle above
pair_cycle above pairs any = let found : Some' (λ (a : NetAbove). IsAbove above a.upper a.upper) pairs = some_from_any (λ (a : NetAbove). IsAbove above a.upper a.upper) pairs any in (found.it.upper, found.holds)

-- a path goes by the first pairs, or comes to the upper net of another one and goes on from there
record Leaves (first last : List NetAbove) (upper lower : NetNo) : Type 0 where
  pub pair : NetAbove
  pub there : Contains last pair
  pub to : (upper ≡ pair.upper) ⊎ IsAbove (first ++ last) upper pair.upper
  pub from : IsAbove (first ++ last) pair.upper lower

leaves : (first last : List NetAbove) (upper : NetNo) (between : List NetNo) (lower : NetNo) → LeadsDown (first ++ last) upper between lower → LeadsDown first upper between lower ⊎ Leaves first last upper lower
leaves first last upper [] lower h = elim (Contains-append_cases first last (over upper lower) h) [
  | inl before ↦ inl before
  | inr after ↦ inr (record { pair = over upper lower; there = after; to = inl refl; from = ([], h) })
]
leaves first last upper (net ∷ between) lower h = elim (Contains-append_cases first last (over upper net) h.0) [
  | inl before ↦ elim (leaves first last net between lower h.1) [
    | inl rest ↦ inl (before, rest)
    | inr later ↦ inr (record {
      pair = later.pair;
      there = later.there;
      to = inr (elim later.to [
        | inl same ↦ subst (IsAbove (first ++ last) upper) same ([], h.0)
        | inr more ↦ above_joined (first ++ last) upper net later.pair.upper ([], h.0) more
      ]);
      from = later.from;
    })
  ]
  | inr after ↦ inr (record { pair = over upper net; there = after; to = inl refl; from = (net ∷ between, h) })
]

around : (first last : List NetAbove) (net : NetNo) → Leaves first last net net → Any (λ (a : NetAbove). IsAbove (first ++ last) a.upper a.upper) last
around first last net l = any_at (λ (a : NetAbove). IsAbove (first ++ last) a.upper a.upper) last l.pair l.there (elim l.to [
  | inl same ↦ subst (IsAbove (first ++ last) l.pair.upper) same l.from
  | inr to ↦ above_joined (first ++ last) l.pair.upper net l.pair.upper l.from to
])

-- where the first pairs have no cycle, one goes by another pair
pub cycle_leaves : (first last : List NetAbove) → (HasCycle first → ⊥) → HasCycle (first ++ last) → Any (λ (a : NetAbove). IsAbove (first ++ last) a.upper a.upper) last
cycle_leaves first last none (net, (between, h)) = elim (leaves first last net between net h) [
  | inl within ↦ absurd (none (net, (between, within)))
  | inr l ↦ around first last net l
]

pub cycle_after : (above : List NetAbove) (from : ℕ) → (HasCycle (take from above) → ⊥) → HasCycle above → Any (λ (a : NetAbove). IsAbove above a.upper a.upper) (drop from above)
cycle_after above from none cycle =
    let whole : take from above ++ drop from above ≡ above = take-append-drop from above in
    subst (λ (pairs : List NetAbove). Any (λ (a : NetAbove). IsAbove pairs a.upper a.upper) (drop from above)) whole (cycle_leaves (take from above) (drop from above) none (subst HasCycle (sym whole) cycle))

-- the last pairs as the code has them
pub rest_is : (above : List NetAbove) (from : ℕ) → take (length above - from) (drop from above) ≡ drop from above
rest_is above from = take_all (length above - from) (drop from above) (omega (arith, length-drop from above))
