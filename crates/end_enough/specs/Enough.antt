-- How many units are enough for a search: it never spends more.
use Rattle.std.specs.Prelude.{ℕ, zero, suc, ◌+◌, ◌*◌, ◌<◌, List, [], ◌∷◌, Contains, length, take}
use Rattle.std.specs.List.{flat_map}
use Rattle.cell_num.specs.Fingers.{sum_below}
use Rattle.end_lemmas.specs.Steps.{Steps}
use Rattle.end_search.specs.Reached.{LeadTo}
use Rattle.end_search.specs.Units.{path_units, units_at}

module _ {L C S : Type 0} (steps : Steps L C S) where
  -- the states that choices of the first levels lead to, as often as there are such choices
  abbrev pub states_after : List L → S → ℕ → List S
  states_after levels s zero = s ∷ []
  states_after [] s (suc done) = []
  states_after (l ∷ ls) s (suc done) =
      flat_map (λ (c : C). states_after ls (steps.next l s c) done) (steps.choices l)

  -- how many lists of choices there are, with one choice of each level
  abbrev pub choice_lists : List L → ℕ
  choice_lists [] = 1
  choice_lists (l ∷ ls) = length (steps.choices l) * choice_lists ls

  module _ (levels : List L) where
    -- every state that choices lead to, with a level behind it, is listed by the levels done
    abbrev pub AreAllStates : S → (ℕ → List S) → Type 0
    AreAllStates start states =
        (done : ℕ) (s : S) (ends : ℕ) → done < length levels → LeadTo steps (take done levels) start s ends
        → Contains (states done) s

    -- the units of one visit of each state that is listed before a level
    unfoldable pub state_units : (ℕ → List S) → ℕ
    state_units states = sum_below (λ done. length (states done) * units_at steps levels done) (length levels)

    -- Each of these states is visited once for each number of ends, up to the fewest that prove so many gaps. One
    -- state more before each level takes units without a lemma.
    abbrev pub enough : (ℕ → List S) → ℕ → ℕ
    enough states gaps = (2 * gaps + 1) * state_units states + path_units steps levels

    -- the same, where the states are found by going through all choices
    abbrev pub enough_of : S → ℕ → ℕ
    enough_of start gaps = enough (states_after levels start) gaps
