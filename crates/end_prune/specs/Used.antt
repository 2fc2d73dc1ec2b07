-- What each lemma that stays is there for.
use Rattle.std.specs.Prelude.{ℕ, ◌≡◌, ◌+◌, ◌-◌, ◌<◌, ◌⊎◌, List, [], ◌∷◌, Some, Any, Contains, slice_get}
use Rattle.end_lemmas.specs.declared.lemma.EndLemma.{EndLemma}
use Rattle.end_lemmas.specs.Justified.{IsAtStart, Says}
use Rattle.end_lemmas.specs.Steps.{Steps}

-- it is on the start state, and proves that many ends
abbrev pub ProvesEnds : {S : Type 0} → S → ℕ → EndLemma S → Type 0
ProvesEnds start ends lemma = IsAtStart start lemma × (lemma.bound ≡ ends)

module _ {L C S : Type 0} (steps : Steps L C S) where
  -- A choice of the level leads from the state of the later lemma to that of this one. It makes fewer ends certain than
  -- the later one says, and this one says the others.
  pub record IsBehind (level : L) (later lemma : EndLemma S) : Type 0 where
    pub choice : C
    pub within : Contains (steps.choices level) choice
    pub needed : steps.ends level later.state choice < later.bound
    pub says : Says (later.done + 1) (steps.next level later.state choice)
        (later.bound - steps.ends level later.state choice) lemma

  module _ (levels : List L) where
    -- the later lemma rests on this one
    pub record Supports (lemma later : EndLemma S) : Type 0 where
      pub level : L
      pub there : slice_get levels later.done ≡ Some level
      pub behind : IsBehind level later lemma

    -- each of them is one of these, or a later one rests on it
    abbrev pub AreUsed : (EndLemma S → Type 0) → List (EndLemma S) → Type 0
    AreUsed IsOne [] = Unit {0}
    AreUsed IsOne (lemma ∷ later) = (IsOne lemma ⊎ Any (Supports lemma) later) × AreUsed IsOne later
