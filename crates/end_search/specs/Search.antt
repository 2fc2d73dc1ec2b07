-- What a search keeps, and how it goes on.
use Rattle.std.specs.Prelude.{ℕ, ◌≡◌, ◌≤◌, ◌<◌, ◌+◌, ◌++◌, List, All}
use Rattle.end_lemmas.specs.declared.lemma.EndLemma.{EndLemma}
use Rattle.end_lemmas.specs.Indexed.{IsIndexOf}
use Rattle.end_lemmas.specs.Justified.{AreJustified}
use Rattle.end_lemmas.specs.Steps.{Steps}
use Rattle.end_search.specs.declared.progress.Progress.{Progress}
use Rattle.end_search.specs.New.{AreNew}
use Rattle.end_search.specs.Reached.{IsReached}
use Rattle.end_search.specs.Units.{units_of}

abbrev pub lemma_of : {S : Type 0} → ℕ → S → ℕ → EndLemma S
lemma_of done state bound = record { bound = bound; done = done; state = state }

module _ {L C S : Type 0} (steps : Steps L C S) (number : ℕ → S → ℕ) (levels : List L) where
  -- each lemma is justified by those before it, and new; the index knows them all
  pub record AreKept (progress : Progress S) : Type 0 where
    pub justified : AreJustified steps levels progress.lemmas
    pub new : AreNew progress.lemmas
    pub indexed : IsIndexOf number progress.lemmas progress.index

  -- Lemmas on states after more levels were added, if any. They are reached from the state after so many levels, while
  -- fewer ends than `need` are looked for.
  pub record IsFurther (done : ℕ) (s : S) (need : ℕ) (before after : Progress S) : Type 0 where
    pub kept : AreKept after
    pub more : List (EndLemma S)
    pub grown : after.lemmas ≡ before.lemmas ++ more
    pub later : All (λ (l : EndLemma S). done < l.done) more
    pub reached : All (IsReached steps levels done s need) more

module _ {L C S : Type 0} (steps : Steps L C S) (levels : List L) where
  -- of the units those of each lemma that was added went, and at most so many others
  pub record AreSpent (before after : Progress S) (others : ℕ) : Type 0 where
    pub few : after.left + units_of steps levels after.lemmas ≤ before.left + units_of steps levels before.lemmas
    pub many : before.left + units_of steps levels before.lemmas
        ≤ after.left + units_of steps levels after.lemmas + others
