-- A table of nets below others stays sound.
use Rattle.std.proofs.Common.{ℕ, zero, suc, ◌≡◌, ◌<◌, ◌⊎◌, ◌++◌, true, false, List, get_or, replicate, slice_set, inl, inr, refl, sym, subst, ap, ◌∙◌}
use Rattle.std.proofs.lemmas.Bool.{both_ways, cases_eq}
use Rattle.std.proofs.lemmas.List.{get_or-set_other}
use Rattle.std.proofs.lemmas.List.Elements.{Contains-append_left}
use Rattle.std.proofs.lemmas.Nat.{same_from_place}
use Rattle.track_ways.proofs.Complete.{net_same}
use Rattle.row_cycles.specs.declared.above.NetAbove.{NetAbove}
use Rattle.row_cycles.specs.Above.{Follows, IsAbove}
use Rattle.row_cycles.proofs.Paths.{above_more}
use Rattle.cycle_search.specs.declared.below.Below.{Below}
use Rattle.cycle_search.specs.Below.{IsSound, place_of}

none_marked : (n u : ℕ) → get_or (replicate n false) u false ≡ false
none_marked zero u = refl
none_marked (suc n) zero = refl
none_marked (suc n) (suc u) = none_marked n u

pub none_sound : (pairs : List NetAbove) (below : Below) (n : ℕ) → below.marks.items ≡ replicate n false → IsSound pairs below
none_sound pairs below n is a h =
    absurd (both_ways (get_or below.marks.items (place_of below.nets a) false) (ap (λ ms. get_or ms (place_of below.nets a) false) is ∙ none_marked n (place_of below.nets a)) h.1)

-- one mark more
set_sound : (pairs : List NetAbove) (before after : Below) (a : NetAbove) → after.nets ≡ before.nets → a.lower.0 < before.nets → after.marks.items ≡ slice_set before.marks.items (place_of before.nets a) true → IsSound pairs before → Follows pairs a → IsSound pairs after
set_sound pairs before after a nets low is sound follows b h =
    let low' : b.lower.0 < before.nets = subst (λ n. b.lower.0 < n) nets h.0 in
    let there : get_or (slice_set before.marks.items (place_of before.nets a) true) (place_of before.nets b) false ≡ true =
    subst (λ n. get_or (slice_set before.marks.items (place_of before.nets a) true) (place_of n b) false ≡ true) nets (subst (λ ms. get_or ms (place_of after.nets b) false ≡ true) is h.1) in
    elim (cases_eq (place_of before.nets b) (place_of before.nets a)) [
      | inl same ↦
          let both : (b.upper.0 ≡ a.upper.0) × (b.lower.0 ≡ a.lower.0) = same_from_place b.upper.0 b.lower.0 a.upper.0 a.lower.0 before.nets low' low same in
          subst (λ u. IsAbove pairs u b.lower) (sym (net_same b.upper a.upper both.0)) (subst (IsAbove pairs a.upper) (sym (net_same b.lower a.lower both.1)) follows)
      | inr other ↦ sound b (low', sym (get_or-set_other before.marks.items (place_of before.nets a) (place_of before.nets b) true false other) ∙ there)
    ]

pub same_sound : (pairs : List NetAbove) (before after : Below) → after.nets ≡ before.nets → after.marks.items ≡ before.marks.items → IsSound pairs before → IsSound pairs after
same_sound pairs before after nets is sound b h =
    sound b (subst (λ n. b.lower.0 < n) nets h.0, subst (λ n. get_or before.marks.items (place_of n b) false ≡ true) nets (subst (λ ms. get_or ms (place_of after.nets b) false ≡ true) is h.1))

pub mark_sound : (pairs : List NetAbove) (before after : Below) (a : NetAbove) (place : ℕ) → place ≡ place_of before.nets a → after.nets ≡ before.nets → a.lower.0 < before.nets → (after.marks.items ≡ before.marks.items) ⊎ (after.marks.items ≡ slice_set before.marks.items place true) → IsSound pairs before → Follows pairs a → IsSound pairs after
mark_sound pairs before after a place at' nets low (inl is) sound follows = same_sound pairs before after nets is sound
mark_sound pairs before after a place at' nets low (inr is) sound follows = set_sound pairs before after a nets low (is ∙ ap (λ i. slice_set before.marks.items i true) at') sound follows

-- a table of some pairs is one of more
pub sound_more : (pairs more : List NetAbove) (below : Below) → IsSound pairs below → IsSound (pairs ++ more) below
sound_more pairs more below h a has = above_more pairs (pairs ++ more) a.upper a.lower (λ b there. Contains-append_left pairs more b there) (h a has)
