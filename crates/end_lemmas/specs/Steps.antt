-- States along levels, and the ends that choices make certain.
use Rattle.std.specs.Prelude.{ℕ, ◌≡◌, ◌-◌, Bool, List, [], ◌∷◌, Contains}

-- A level has a list of choices. One of them leads from a state to a next one, and makes so many ends certain. That is
-- said of states that fit.
pub record Steps (L C S : Type 0) : Type 0 where
  pub choices : L → List C
  pub fits : S → Bool
  pub next : L → S → C → S
  pub ends : L → S → C → ℕ

module _ {L C S : Type 0} (steps : Steps L C S) where
  -- from the state on, each list of choices, one of each level, results in at least that many ends
  abbrev pub Ends : List L → S → ℕ → Type 0
  Ends [] s k = k ≡ 0
  Ends (l ∷ ls) s k =
      (c : C) → Contains (steps.choices l) c → Ends ls (steps.next l s c) (k - steps.ends l s c)
