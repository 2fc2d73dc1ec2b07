-- Texts joined by a byte, one after another.
use Rattle.std.specs.Prelude.{ℕ, ◌≡◌, List, [], ◌∷◌, ◌++◌}
use Rattle.std.proofs.Common.{refl, sym, ap, ◌∙◌, append_assoc}
use Rattle.std.specs.List.{join_with_byte}

-- a text behind others
pub joined_behind : (c : ℕ) (first : List ℕ) (texts : List (List ℕ)) (text : List ℕ) → join_with_byte c (first ∷ (texts ++ text ∷ [])) ≡ join_with_byte c (first ∷ texts) ++ c ∷ text
joined_behind c first [] text = refl
joined_behind c first (second ∷ texts) text = ap (λ (l : List ℕ). first ++ c ∷ l) (joined_behind c second texts text) ∙ sym (append_assoc first (c ∷ join_with_byte c (second ∷ texts)) (c ∷ text))
