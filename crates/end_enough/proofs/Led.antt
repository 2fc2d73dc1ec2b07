-- Going through all choices finds every state that choices lead to.
use Rattle.std.specs.Prelude.{ℕ, zero, suc, ◌≡◌, ◌*◌, ◌≤◌, List, [], ◌∷◌, Contains, length, sum_by, take}
use Rattle.std.proofs.Common.{subst, arith, ◌∙◌}
use Rattle.std.proofs.lemmas.List.Concat.{length-flat_map}
use Rattle.std.proofs.lemmas.List.Sums.{sum_by-cons}
use Rattle.cell_num.proofs.In.{contains_flat}
use Rattle.cell_num.proofs.Lists.{contains_here}
use Rattle.end_lemmas.specs.Steps.{Steps}
use Rattle.end_search.specs.Reached.{LeadTo}
use Rattle.end_enough.specs.Enough.{AreAllStates, choice_lists, states_after}

sum_alike : {X : Type 0} (f : X → ℕ) (k : ℕ) (xs : List X) → ((x : X) → f x ≡ k) → sum_by f xs ≡ length xs * k
sum_alike f k [] alike = omega arith
sum_alike f k (x ∷ xs) alike = omega (arith, sum_alike f k xs alike, sum_by-cons f x xs, alike x)

module _ {L C S : Type 0} (steps : Steps L C S) where
  led : (levels : List L) (s : S) (done : ℕ) (t : S) (ends : ℕ) → done ≤ length levels
      → LeadTo steps (take done levels) s t ends → Contains (states_after steps levels s done) t
  led levels s zero t ends within lead =
      subst (λ (u : S). Contains (s ∷ []) u) lead.0 (contains_here s [])
  led [] s (suc done) t ends within lead = absurd (omega (arith, within))
  led (l ∷ ls) s (suc done) t ends within (c, rest, there, sum, lead) =
      contains_flat (λ (c : C). states_after steps ls (steps.next l s c) done) (steps.choices l) c t there
      (led ls (steps.next l s c) done t rest (omega (arith, within)) lead)

  pub all_states : (levels : List L) (start : S) → AreAllStates steps levels start (states_after steps levels start)
  all_states levels start done s ends within lead = led levels start done s ends (omega (arith, within)) lead

  -- each list of choices finds one
  pub number : (levels : List L) (s : S) (done : ℕ) → done ≤ length levels
      → length (states_after steps levels s done) ≡ choice_lists steps (take done levels)
  number levels s zero within = omega arith
  number [] s (suc done) within = absurd (omega (arith, within))
  number (l ∷ ls) s (suc done) within =
      length-flat_map (λ (c : C). states_after steps ls (steps.next l s c) done) (steps.choices l)
      ∙ sum_alike (λ (c : C). length (states_after steps ls (steps.next l s c) done))
      (choice_lists steps (take done ls)) (steps.choices l)
      (λ c. number ls (steps.next l s c) done (omega (arith, within)))
