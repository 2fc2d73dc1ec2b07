-- The first place of a byte, as a search for it answers.
use Rattle.std.specs.Prelude.{ℕ, ◌≡◌, ◌==◌, Bool, true, false, List, Option, Some, None, length, get_or, position}
use Rattle.std.proofs.Common.{refl, arith}
use Rattle.std.specs.List.{position_or_len}
use Rattle.std.proofs.lemmas.Bool.{le-ltb, lt-ltb}
use Rattle.std.proofs.lemmas.List.Sums.{position_or_len_is}
use Rattle.memchr.specs.Find.{IsFirstByte, is_byte}

not_true : (b : Bool) → (b ≡ true → ⊥) → b ≡ false
not_true true h = absurd (h refl)
not_true false h = refl

pub first_byte : (c : ℕ) (text : List ℕ) (found : Option ℕ) → IsFirstByte (is_byte c) text found → found ≡ position (λ b. b == c) text
first_byte c text None nowhere =
    let end : position_or_len (λ b. b == c) text ≡ length text = position_or_len_is (λ b. b == c) text (length text) 0 (omega arith) (λ k l. not_true (get_or text k 0 == c) (nowhere k (omega arith) l)) (λ l. absurd (omega (arith, l))) in
    rw (end, le-ltb (length text) (length text) (omega arith)) refl
first_byte c text (Some at) first =
    let here : position_or_len (λ b. b == c) text ≡ at = position_or_len_is (λ b. b == c) text at 0 (omega (arith, first.0.high)) (λ k l. not_true (get_or text k 0 == c) (first.0.before k (omega arith) l)) (λ l. first.1) in
    rw (here, lt-ltb at (length text) first.0.high) refl
