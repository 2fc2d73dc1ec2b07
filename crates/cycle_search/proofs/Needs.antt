-- Ways down from one net to another, by pairs that follow and by new steps.
use Rattle.std.proofs.Common.{ℕ, Option, Some, None, IfSome, ◌≡◌, ◌<◌, ◌⊎◌, ◌++◌, List, [], ◌∷◌, length, get_or, inl, inr, sym, ap, subst, All, Contains, ◌∙◌, append_assoc, append-nil}
use Rattle.std.proofs.lemmas.List.{get_or_default}
use Rattle.std.proofs.lemmas.List.Elements.{All-append, All-nil, Contains-append_cases, Contains-append_left, Contains-append_right}
use Rattle.cell_num.specs.declared.net.NetNo.{NetNo}
use Rattle.cell_num.proofs.Lists.{all_from_contains, contains_cons, contains_here, contains_none, contains_one}
use Rattle.row_cycles.specs.declared.above.NetAbove.{NetAbove}
use Rattle.row_cycles.specs.Above.{Follows, HasCycle, IsAbove}
use Rattle.row_cycles.proofs.Paths.{above_joined, above_more, cycle_more, follows_more, one_above}
use Rattle.cycle_search.specs.Ways.{AddsNeeded, Closes, IsAtOrAbove, IsWay}

-- an item that a loop comes to
pub item_there : {X : Type 0} (xs : List X) (i : ℕ) (d : X) → i < length xs → Contains xs (get_or xs i d)
item_there xs i d less = (i, less, get_or_default xs i (get_or xs i d) d less)

-- ---- pairs that are added

pub none_follow : (above pairs : List NetAbove) → pairs ≡ [] → All (Follows above) pairs
none_follow above pairs none = subst (All (Follows above)) (sym none) (All-nil (Follows above))

pub adds_none : (above need : List NetAbove) → AddsNeeded above need need
adds_none above need = record { more = []; is = sym (append-nil need); follow = All-nil (Follows above) }

pub adds_some : (above before after more : List NetAbove) → after ≡ before ++ more → All (Follows above) more → AddsNeeded above before after
adds_some above before after more is follow = record { more = more; is = is; follow = follow }

pub adds_on : (above xs ys zs : List NetAbove) → AddsNeeded above xs ys → AddsNeeded above ys zs → AddsNeeded above xs zs
adds_on above xs ys zs g h = record {
  more = g.more ++ h.more;
  is = h.is ∙ ap (λ ps. ps ++ h.more) g.is ∙ append_assoc xs g.more h.more;
  follow = All-append (Follows above) g.more h.more g.follow h.follow;
}

pub adds_all : (above before after : List NetAbove) → All (Follows above) before → AddsNeeded above before after → All (Follows above) after
adds_all above before after all h = subst (All (Follows above)) (sym h.is) (All-append (Follows above) before h.more all h.follow)

pub adds_there : (above before after : List NetAbove) → AddsNeeded above before after → (a : NetAbove) → Contains before a → Contains after a
adds_there above before after h a there = subst (λ ps. Contains ps a) (sym h.is) (Contains-append_left before h.more a there)

-- all pairs follow from themselves
pub all_follow_self : (above : List NetAbove) → All (Follows above) above
all_follow_self above = all_from_contains (Follows above) above (λ a there. one_above above a there)

pub beside : (xs ys steps : List NetAbove) → ((a : NetAbove) → Contains xs a → Contains ys a) → (a : NetAbove) → Contains (xs ++ steps) a → Contains (ys ++ steps) a
beside xs ys steps each a there = elim (Contains-append_cases xs steps a there) [
  | inl first ↦ Contains-append_left ys steps a (each a first)
  | inr second ↦ Contains-append_right ys steps a second
]

pub adds_beside : (above before after steps : List NetAbove) → AddsNeeded above before after → (a : NetAbove) → Contains (before ++ steps) a → Contains (after ++ steps) a
adds_beside above before after steps h = beside before after steps (adds_there above before after h)

-- ---- a net at or above another

at_more : (xs ys : List NetAbove) (upper lower : NetNo) → ((a : NetAbove) → Contains xs a → Contains ys a) → IsAtOrAbove xs upper lower → IsAtOrAbove ys upper lower
at_more xs ys upper lower each (inl same) = inl same
at_more xs ys upper lower each (inr above) = inr (above_more xs ys upper lower each above)

at_then : (xs : List NetAbove) (upper net lower : NetNo) → IsAtOrAbove xs upper net → IsAtOrAbove xs net lower → IsAtOrAbove xs upper lower
at_then xs upper net lower (inl same) h = subst (λ n. IsAtOrAbove xs n lower) (sym same) h
at_then xs upper net lower (inr above) (inl same) = inr (subst (IsAbove xs upper) same above)
at_then xs upper net lower (inr above) (inr more) = inr (above_joined xs upper net lower above more)

at_above : (xs : List NetAbove) (upper net lower : NetNo) → IsAtOrAbove xs upper net → IsAbove xs net lower → IsAbove xs upper lower
at_above xs upper net lower (inl same) h = subst (λ n. IsAbove xs n lower) (sym same) h
at_above xs upper net lower (inr above) h = above_joined xs upper net lower above h

above_at : (xs : List NetAbove) (upper net lower : NetNo) → IsAbove xs upper net → IsAtOrAbove xs net lower → IsAbove xs upper lower
above_at xs upper net lower h (inl same) = subst (IsAbove xs upper) same h
above_at xs upper net lower h (inr more) = above_joined xs upper net lower h more

pub one_leads : (pairs after : List NetAbove) (upper lower : NetNo) (a : NetAbove) → a.upper ≡ upper → a.lower ≡ lower → after ≡ pairs ++ a ∷ [] → IsAtOrAbove after upper lower
one_leads pairs after upper lower a up down is =
    inr (subst (IsAbove after upper) down (subst (λ n. IsAbove after n a.lower) up (one_above after a (subst (λ ps. Contains ps a) (sym is) (Contains-append_right pairs (a ∷ []) a (contains_here a []))))))

-- ---- along the steps

-- down to a step, and by it
pub way_step : (above steps pairs after : List NetAbove) (from net : NetNo) (step : NetAbove) → AddsNeeded above pairs after → Contains steps step → IsAtOrAbove (pairs ++ steps) from net → IsAtOrAbove after net step.upper → IsAtOrAbove (after ++ steps) from step.lower
way_step above steps pairs after from net step adds there before down =
    inr (at_above (after ++ steps) from step.upper step.lower
    (at_then (after ++ steps) from net step.upper
    (at_more (pairs ++ steps) (after ++ steps) from net (adds_beside above pairs after steps adds) before)
    (at_more after (after ++ steps) net step.upper (λ a in'. Contains-append_left after steps a in') down))
    (one_above (after ++ steps) step (Contains-append_right after steps step there)))

pub way_end : (above steps pairs after : List NetAbove) (from net to : NetNo) → AddsNeeded above pairs after → All (Follows above) pairs → IsAtOrAbove (pairs ++ steps) from net → IsAtOrAbove after net to → IsWay above steps from to after
way_end above steps pairs after from net to adds all before down = record {
  follow = adds_all above pairs after all adds;
  leads = at_then (after ++ steps) from net to
      (at_more (pairs ++ steps) (after ++ steps) from net (adds_beside above pairs after steps adds) before)
      (at_more after (after ++ steps) net to (λ a in'. Contains-append_left after steps a in') down);
}

-- by some of the new steps
way_among : (above steps new : List NetAbove) (from to : NetNo) (o : Option (List NetAbove)) → ((a : NetAbove) → Contains steps a → Contains new a) → IfSome o (IsWay above steps from to) → IfSome o (IsWay above new from to)
way_among above steps new from to None each h = tt
way_among above steps new from to (Some pairs) each h = record {
  follow = h.follow;
  leads = at_more (pairs ++ steps) (pairs ++ new) from to among h.leads;
}
  where
    among : (a : NetAbove) → Contains (pairs ++ steps) a → Contains (pairs ++ new) a
    among a there = elim (Contains-append_cases pairs steps a there) [
      | inl first ↦ Contains-append_left pairs new a first
      | inr second ↦ Contains-append_right pairs new a (each a second)
    ]

pub way_none : (above new : List NetAbove) (from to : NetNo) (o : Option (List NetAbove)) → IfSome o (IsWay above [] from to) → IfSome o (IsWay above new from to)
way_none above new from to o h = way_among above [] new from to o (λ a there. absurd (contains_none a there)) h

pub way_one : (above new : List NetAbove) (first : NetAbove) (from to : NetNo) (o : Option (List NetAbove)) → Contains new first → IfSome o (IsWay above (first ∷ []) from to) → IfSome o (IsWay above new from to)
way_one above new first from to o there h = way_among above (first ∷ []) new from to o (λ a in'. subst (Contains new) (contains_one first a in') there) h

pub way_two : (above new : List NetAbove) (first second : NetAbove) (from to : NetNo) (o : Option (List NetAbove)) → Contains new first → Contains new second → IfSome o (IsWay above (first ∷ second ∷ []) from to) → IfSome o (IsWay above new from to)
way_two above new first second from to o there also h = way_among above (first ∷ second ∷ []) new from to o (λ a in'. elim (contains_cons first (second ∷ []) a in') [
  | inl is ↦ subst (Contains new) is there
  | inr rest ↦ subst (Contains new) (contains_one second a rest) also
]) h

-- one of two
pub one_of : (P : List NetAbove → Type 0) (best other result : Option (List NetAbove)) → (result ≡ best) ⊎ (result ≡ other) → IfSome best P → IfSome other P → IfSome result P
one_of P best other result (inl is) a b = subst (λ o. IfSome o P) (sym is) a
one_of P best other result (inr is) a b = subst (λ o. IfSome o P) (sym is) b

-- ---- what they close and reach

-- a way from the lower net of a step to its upper net closes a cycle
pub way_closes : (above new : List NetAbove) (step : NetAbove) (o : Option (List NetAbove)) → Contains new step → IfSome o (IsWay above new step.lower step.upper) → IfSome o (Closes above new)
way_closes above new step None there h = tt
way_closes above new step (Some pairs) there h = record {
  follow = h.follow;
  cycle = (step.upper, above_at (pairs ++ new) step.upper step.lower step.upper (one_above (pairs ++ new) step (Contains-append_right pairs new step there)) h.leads);
}

pub among_last : (need pairs after new : List NetAbove) → after ≡ need ++ pairs → (a : NetAbove) → Contains (pairs ++ new) a → Contains (after ++ new) a
among_last need pairs after new is = beside pairs after new (λ a there. subst (λ ps. Contains ps a) (sym is) (Contains-append_right need pairs a there))

pub cycle_added : (above need pairs after new : List NetAbove) → after ≡ need ++ pairs → Closes above new pairs → HasCycle (after ++ new)
cycle_added above need pairs after new is h = cycle_more (pairs ++ new) (after ++ new) (among_last need pairs after new is) h.cycle

-- all pairs close a cycle that they close with new ones
pub cycle_all : (above need after new : List NetAbove) → after ≡ need ++ above → HasCycle (above ++ new) → HasCycle (after ++ new)
cycle_all above need after new is cycle = cycle_more (above ++ new) (after ++ new) (among_last need above after new is) cycle

pub way_added : (above need pairs after new : List NetAbove) (a : NetAbove) → after ≡ need ++ pairs → (a.upper ≡ a.lower → ⊥) → IsWay above new a.upper a.lower pairs → Follows (after ++ new) a
way_added above need pairs after new a is differ h = elim h.leads [
  | inl same ↦ absurd (differ same)
  | inr down ↦ above_more (pairs ++ new) (after ++ new) a.upper a.lower (among_last need pairs after new is) down
]

pub follow_still : (above need after new pairs : List NetAbove) → AddsNeeded above need after → All (Follows (need ++ new)) pairs → All (Follows (after ++ new)) pairs
follow_still above need after new pairs adds h = follows_more (need ++ new) (after ++ new) pairs (adds_beside above need after new adds) h
