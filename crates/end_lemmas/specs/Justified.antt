-- Which lemmas on ends are justified by those before them, and what justified lemmas prove.
use Rattle.std.specs.Prelude.{ℕ, ◌≡◌, ◌+◌, ◌-◌, ◌≤◌, ◌⊎◌, true, List, Option, Some, None, Any, Contains, drop}
use Rattle.std.specs.Prelude.{slice_get, take}
use Rattle.end_lemmas.specs.declared.lemma.EndLemma.{EndLemma}
use Rattle.end_lemmas.specs.Steps.{Ends, Steps}

module _ {S : Type 0} where
  -- it is on the state after so many levels, with this bound or a greater one
  pub record Says (done : ℕ) (state : S) (need : ℕ) (lemma : EndLemma S) : Type 0 where
    pub levels : lemma.done ≡ done
    pub same : lemma.state ≡ state
    pub enough : need ≤ lemma.bound

  -- the lemma at the place says so
  pub record SaysAt (lemmas : List (EndLemma S)) (done : ℕ) (state : S) (need at : ℕ) : Type 0 where
    pub lemma : EndLemma S
    pub there : slice_get lemmas at ≡ Some lemma
    pub says : Says done state need lemma

  -- so many ends more are known to come: none, or as an earlier lemma says
  abbrev pub IsKnown : List (EndLemma S) → ℕ → S → ℕ → Type 0
  IsKnown earlier done state need = (need ≡ 0) ⊎ Any (Says done state need) earlier

  -- it is on this state, before the first level
  pub record IsAtStart (start : S) (lemma : EndLemma S) : Type 0 where
    pub levels : lemma.done ≡ 0
    pub same : lemma.state ≡ start

  -- the greatest bound of a lemma on that state, 0 if there is none
  pub record AreEndsProved (start : S) (lemmas : List (EndLemma S)) (ends : ℕ) : Type 0 where
    pub most : (lemma : EndLemma S) → Contains lemmas lemma → IsAtStart start lemma → lemma.bound ≤ ends
    pub one : (ends ≡ 0) ⊎ Any (λ lemma. IsAtStart start lemma × (lemma.bound ≡ ends)) lemmas

module _ {L C S : Type 0} (steps : Steps L C S) where
  -- after this choice the lemma's bound, less the ends that are certain then, is known
  abbrev pub Reaches : List (EndLemma S) → L → EndLemma S → C → Type 0
  Reaches earlier level lemma choice =
      IsKnown earlier (lemma.done + 1) (steps.next level lemma.state choice)
      (lemma.bound - steps.ends level lemma.state choice)

  module _ (levels : List L) where
    -- a level is left, and each of its choices reaches the bound
    pub record IsJustified (earlier : List (EndLemma S)) (lemma : EndLemma S) : Type 0 where
      pub level : L
      pub there : slice_get levels lemma.done ≡ Some level
      pub fits : steps.fits lemma.state ≡ true
      pub reaches : (c : C) → Contains (steps.choices level) c → Reaches earlier level lemma c

    -- each by those before it
    abbrev pub AreJustified : List (EndLemma S) → Type 0
    AreJustified lemmas =
        (at : ℕ) (lemma : EndLemma S) → slice_get lemmas at ≡ Some lemma → IsJustified (take at lemmas) lemma

    -- the lemma at the place is not justified, while those before it are
    pub record IsUnproved (lemmas : List (EndLemma S)) (at : ℕ) : Type 0 where
      pub lemma : EndLemma S
      pub there : slice_get lemmas at ≡ Some lemma
      pub before : AreJustified (take at lemmas)
      pub fails : IsJustified (take at lemmas) lemma → ⊥

    -- the place of the first lemma that is not justified; none, where all are
    abbrev pub IsFirstUnproved : List (EndLemma S) → Option ℕ → Type 0
    IsFirstUnproved lemmas None = AreJustified lemmas
    IsFirstUnproved lemmas (Some at) = IsUnproved lemmas at

    -- the lemma is true: from its state on, each list of choices of the levels left results in as many ends
    abbrev pub IsTrueOf : EndLemma S → Type 0
    IsTrueOf lemma = Ends steps (drop lemma.done levels) lemma.state lemma.bound
