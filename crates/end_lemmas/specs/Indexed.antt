-- Lemmas that are looked up by numbers of their states.
use Rattle.std.specs.Prelude.{ℕ, ◌≡◌, List, [], Some, Contains, nat_eq, option_map, slice_get, unwrap_or}
use Rattle.std.specs.HashMap.{get}
use Rattle.end_lemmas.specs.declared.lemma.EndLemma.{EndLemma}
use Rattle.end_lemmas.specs.declared.index.LemmaIndex.{LemmaIndex}

-- where the lemmas with the number stand
abbrev pub noted_at : LemmaIndex → ℕ → List ℕ
noted_at index number = unwrap_or (option_map (λ places. places.items) (get nat_eq index.places number)) []

-- each lemma is noted where its number is looked up
abbrev pub IsIndexOf : {S : Type 0} → (ℕ → S → ℕ) → List (EndLemma S) → LemmaIndex → Type 0
IsIndexOf {S = S} number lemmas index =
    (at : ℕ) (lemma : EndLemma S) → slice_get lemmas at ≡ Some lemma
    → Contains (noted_at index (number lemma.done lemma.state)) at
