-- Marks of lemmas that stay, which inner contracts cite.
use Rattle.std.specs.Prelude.{ℕ, ◌≡◌, ◌⊎◌, Bool, true, false, List, [], ◌∷◌, Any, Contains, length}
use Rattle.end_lemmas.specs.declared.lemma.EndLemma.{EndLemma}
use Rattle.end_lemmas.specs.Justified.{AreJustified, IsJustified}
use Rattle.end_lemmas.specs.Steps.{Steps}
use Rattle.end_prune.specs.Sublist.{IsSublist}
use Rattle.end_prune.specs.Used.{AreUsed, IsBehind, ProvesEnds, Supports}

-- the items whose mark is true
abbrev pub marked : {X : Type 0} → List Bool → List X → List X
marked [] xs = []
marked (m ∷ ms) [] = []
marked (true ∷ ms) (x ∷ xs) = x ∷ marked ms xs
marked (false ∷ ms) (x ∷ xs) = marked ms xs

module _ {S : Type 0} where
  -- one that proves the ends of the start state has a mark, if any end is proved
  pub record AreStartMarks (start : S) (ends : ℕ) (lemmas : List (EndLemma S)) (marks : List Bool) : Type 0 where
    pub same : length marks ≡ length lemmas
    pub proves : (x : EndLemma S) → Contains (marked marks lemmas) x → ProvesEnds start ends x
    pub one : (ends ≡ 0) ⊎ Any (ProvesEnds start ends) (marked marks lemmas)

module _ {L C S : Type 0} (steps : Steps L C S) where
  -- marks are set alone of lemmas behind a choice
  pub record AreMarkedFor (level : L) (lemma : EndLemma S) (earlier : List (EndLemma S)) (old new : List Bool)
      : Type 0 where
    pub same : length new ≡ length old
    pub still : (x : EndLemma S) → Contains (marked old earlier) x → Contains (marked new earlier) x
    pub added : (x : EndLemma S) → Contains (marked new earlier) x
        → Contains (marked old earlier) x ⊎ IsBehind steps level lemma x

  module _ (levels : List L) where
    -- those that are marked now justify the lemma, and it rests on each that was not marked before
    pub record IsSupportMarked (lemma : EndLemma S) (earlier : List (EndLemma S)) (old new : List Bool)
        : Type 0 where
      pub same : length new ≡ length old
      pub still : (x : EndLemma S) → Contains (marked old earlier) x → Contains (marked new earlier) x
      pub added : (x : EndLemma S) → Contains (marked new earlier) x
          → Contains (marked old earlier) x ⊎ Supports steps levels x lemma
      pub justified : IsJustified steps levels (marked new earlier) lemma

    -- the first ones stay, and those that they rest on
    pub record AreKeptFor (first lemmas kept : List (EndLemma S)) : Type 0 where
      pub some : IsSublist kept lemmas
      pub justified : AreJustified steps levels kept
      pub firsts : (x : EndLemma S) → Contains first x → Contains kept x
      pub used : AreUsed steps levels (Contains first) kept
