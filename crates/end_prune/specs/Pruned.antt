-- Lemmas without those that no later one rests on.
use Rattle.std.specs.Prelude.{ℕ, ◌≡◌, ◌≤◌, List, [], All}
use Rattle.end_lemmas.specs.declared.lemma.EndLemma.{EndLemma}
use Rattle.end_lemmas.specs.Justified.{AreEndsProved, AreJustified, IsAtStart}
use Rattle.end_lemmas.specs.Steps.{Steps}
use Rattle.end_search.specs.New.{AreNew}
use Rattle.end_search.specs.Units.{units_of}
use Rattle.end_prune.specs.Sublist.{IsSublist}
use Rattle.end_prune.specs.Used.{AreUsed, ProvesEnds}

-- These stay of the lemmas, in their order. They are justified, and prove as many ends from the start state on: each of
-- them proves these ends, or a later one that stays rests on it. So without a lemma on the start state none stays.
-- Lemmas that say more than those before them still do. They take no more units than all did.
pub record IsPruned {L C S : Type 0} (steps : Steps L C S) (levels : List L) (start : S)
    (lemmas stay : List (EndLemma S)) : Type 0 where
  pub some : IsSublist stay lemmas
  pub justified : AreJustified steps levels stay
  pub ends : (n : ℕ) → AreEndsProved start lemmas n → AreEndsProved start stay n
  pub used : (n : ℕ) → AreEndsProved start lemmas n → AreUsed steps levels (ProvesEnds start n) stay
  pub none : All (λ (l : EndLemma S). IsAtStart start l → ⊥) lemmas → stay ≡ []
  pub new : AreNew lemmas → AreNew stay
  pub units : units_of steps levels stay ≤ units_of steps levels lemmas
