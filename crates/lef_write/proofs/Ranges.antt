-- What is said of so many numbers, and of one more.
use Rattle.std.proofs.Common.{ℕ, ◌≡◌, ◌+◌, List, [], ◌∷◌, ◌++◌, sym, ap, ◌∙◌, append_assoc}
use Rattle.std.specs.List.{flat_map, range_with_len}
use Rattle.std.proofs.lemmas.List.{append-nil}
use Rattle.std.proofs.lemmas.Grind.{flat_map-append}
use Rattle.cell_num.proofs.Ranges.{range_more}

-- what a function lists of the first numbers, and of one more
pub listed_range : {X : Type 0} (f : ℕ → List X) (n : ℕ) → flat_map f (range_with_len 0 (n + 1)) ≡ flat_map f (range_with_len 0 n) ++ f n
listed_range f n = ap (λ z. flat_map f z) (range_more n) ∙ (flat_map-append f (range_with_len 0 n) (n ∷ []) ∙ ap (λ z. flat_map f (range_with_len 0 n) ++ z) (append-nil (f n)))

pub listed_more : {X : Type 0} (f : ℕ → List X) (n : ℕ) (old new : List X) → old ≡ flat_map f (range_with_len 0 n) → new ≡ old ++ f n → new ≡ flat_map f (range_with_len 0 (n + 1))
listed_more {X} f n old new e is = is ∙ (ap (λ z. z ++ f n) e ∙ sym (listed_range f n))

pub text_more : (f : ℕ → List ℕ) (n : ℕ) (start old new : List ℕ) → old ≡ start ++ flat_map f (range_with_len 0 n) → new ≡ old ++ f n → new ≡ start ++ flat_map f (range_with_len 0 (n + 1))
text_more f n start old new e is = is ∙ (ap (λ z. z ++ f n) e ∙ (append_assoc start (flat_map f (range_with_len 0 n)) (f n) ∙ ap (λ z. start ++ z) (sym (listed_range f n))))
