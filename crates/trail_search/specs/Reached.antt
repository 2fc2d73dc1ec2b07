-- Lemmas of states that a search for a row of some gaps meets.
use Rattle.std.specs.Prelude.{ℕ, ◌≡◌, ◌≤◌, ◌+◌, ◌*◌, List, [], ◌∷◌, All, Contains, take}
use Rattle.trail_state.specs.declared.edge.Edge.{Edge}
use Rattle.trail_state.specs.declared.state.Place.{Place}
use Rattle.trail_state.specs.declared.level.Level.{Level}
use Rattle.trail_state.specs.Settling.{ends_after, state_after}
use Rattle.trail_check.specs.declared.lemma.TrailLemma.{TrailLemma}

-- a choice of each of these gates leads from the one state to the other, with that many ends
abbrev pub LeadTo : List Level → List Place → List Place → ℕ → Type 0
LeadTo [] s t ends = (s ≡ t) × (ends ≡ 0)
LeadTo (l ∷ ls) s t ends =
    (c : List Edge) × (rest : ℕ) × Contains l.choices c × (ends ≡ ends_after l.now l.next s c + rest)
    × LeadTo ls (state_after l.now l.next s c) t rest

-- Choices of the gates before the lemma lead to its state. Their ends and its bound are at most `most`.
pub record IsWithin (levels : List Level) (most : ℕ) (lemma : TrailLemma) : Type 0 where
  pub ends : ℕ
  pub reached : LeadTo (take lemma.done levels) [] lemma.state ends
  pub within : ends + lemma.bound ≤ most

-- The lemmas are on states that choices lead to while a row of at most that many gaps is looked for. Such a row has
-- 2 (gaps + 1) ends, and a lemma says that there are more.
abbrev pub AreReached : List Level → ℕ → List TrailLemma → Type 0
AreReached levels gaps lemmas = All (IsWithin levels (2 * (gaps + 1) + 1)) lemmas
