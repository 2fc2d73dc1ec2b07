-- Lemmas that say more than those before them.
use Rattle.std.specs.Prelude.{◌<◌, List, All, AllPairs}
use Rattle.end_lemmas.specs.declared.lemma.EndLemma.{EndLemma}
use Rattle.end_lemmas.specs.Justified.{Says}

module _ {S : Type 0} where
  -- the second lemma is not said by the first
  abbrev pub IsUnsaid : EndLemma S → EndLemma S → Type 0
  IsUnsaid a b = Says b.done b.state b.bound a → ⊥

  -- Each lemma has a bound, and no earlier one says as much.
  pub record AreNew (lemmas : List (EndLemma S)) : Type 0 where
    pub some : All (λ (l : EndLemma S). 0 < l.bound) lemmas
    pub unsaid : AllPairs IsUnsaid lemmas
