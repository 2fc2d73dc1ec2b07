-- Where choices lead, level by level, and the lemmas on states that they lead to.
use Rattle.std.specs.Prelude.{ℕ, ◌≡◌, ◌+◌, ◌-◌, ◌≤◌, ◌<◌, true, List, [], ◌∷◌, Contains, drop, take}
use Rattle.end_lemmas.specs.declared.lemma.EndLemma.{EndLemma}
use Rattle.end_lemmas.specs.Steps.{Steps}

module _ {L C S : Type 0} (steps : Steps L C S) where
  -- a choice of each of these levels leads from the one state to the other, and makes that many ends certain
  abbrev pub LeadTo : List L → S → S → ℕ → Type 0
  LeadTo [] s t ends = (s ≡ t) × (ends ≡ 0)
  LeadTo (l ∷ ls) s t ends =
      (c : C) × (rest : ℕ) × Contains (steps.choices l) c × (ends ≡ steps.ends l s c + rest)
      × LeadTo ls (steps.next l s c) t rest

  -- some choices, one of each level, result in fewer ends
  pub record HasFewer (levels : List L) (s : S) (need : ℕ) : Type 0 where
    pub last : S
    pub ends : ℕ
    pub choices : LeadTo levels s last ends
    pub few : ends < need

  -- every state that choices lead to, with a level behind it, fits
  abbrev pub AllFit : List L → S → Type 0
  AllFit [] s = Unit {0}
  AllFit (l ∷ ls) s =
      (steps.fits s ≡ true) × ((c : C) → Contains (steps.choices l) c → AllFit ls (steps.next l s c))

  -- Choices lead from the state after so many levels to the state of the lemma. Their ends and its bound are at most
  -- `most` together.
  pub record IsReached (levels : List L) (done : ℕ) (s : S) (most : ℕ) (lemma : EndLemma S) : Type 0 where
    pub ends : ℕ
    pub choices : LeadTo (take (lemma.done - done) (drop done levels)) s lemma.state ends
    pub within : ends + lemma.bound ≤ most
