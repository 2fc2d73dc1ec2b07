-- The line of the name.
use Rattle.std.specs.Prelude.{ℕ, ◌≡◌, ◌≢◌, true, false, List, [], ◌∷◌, ◌++◌, drop}
use Rattle.std.proofs.Common.{sym, ap, ◌∙◌, inl, inr}
use Rattle.std.proofs.lemmas.Bool.{cases_Bool}
use Rattle.log_lines.specs.Words.{is_word}
use Rattle.log_lines.proofs.Numbers.{is_other, is_same, same_words}

pub same_behind : (front a b : List ℕ) → front ++ a ≡ front ++ b → a ≡ b
same_behind [] a b h = h
same_behind (x ∷ xs) a b h = same_behind xs a b (ap (drop 1) h)

pub behind_front : (front line rest name : List ℕ) → line ≡ front ++ rest → is_word rest name ≡ is_word line (front ++ name)
behind_front front line rest name is = elim (cases_Bool (is_word rest name)) [
  | inl same ↦ same ∙ sym (is_same line (front ++ name) (is ∙ ap (λ ls. front ++ ls) (same_words rest name same)))
  | inr other ↦ other ∙ sym (is_other line (front ++ name) (λ e. let true_too : is_word rest name ≡ true = is_same rest name (same_behind front rest name (sym is ∙ e)) in absurd cc))
]

pub no_front : (front line name : List ℕ) → ((rest : List ℕ) → line ≢ front ++ rest) → is_word line (front ++ name) ≡ false
no_front front line name h = is_other line (front ++ name) (h name)
