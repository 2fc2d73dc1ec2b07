-- Zero bytes at the end.
use Rattle.std.proofs.Common.{ℕ, zero, suc, ◌≡◌, ◌-◌, ◌<◌, ◌≤◌, List, [], ◌∷◌, ◌++◌, length, get_or, take, refl, sym, ap, ◌∙◌, arith}
use Rattle.std.proofs.lemmas.Bool.{ne_eqb}
use Rattle.gds_read.specs.Structure.{trimmed}

-- the front of a list, to its last item
fronted : (text : List ℕ) (n : ℕ) → n < length text → take (suc n) text ≡ take n text ++ get_or text n 0 ∷ []
fronted [] n lt = absurd (omega arith)
fronted (b ∷ bs) zero lt = refl
fronted (b ∷ bs) (suc n) lt = ap (λ (t : List ℕ). b ∷ t) (fronted bs n (omega arith))

zero_last : (xs : List ℕ) → trimmed (xs ++ 0 ∷ []) ≡ trimmed xs
zero_last [] = refl
zero_last (x ∷ xs) = rw (zero_last xs) refl

other_last : (xs : List ℕ) (b : ℕ) → (b ≡ 0 → ⊥) → trimmed (xs ++ b ∷ []) ≡ xs ++ b ∷ []
other_last [] b other = rw (ne_eqb b 0 other) refl
other_last (x ∷ []) b other = rw (ne_eqb b 0 other) refl
other_last (x ∷ y ∷ ys) b other = rw (other_last (y ∷ ys) b other) refl

pub trim_zero : (text : List ℕ) (n : ℕ) → 0 < n → n ≤ length text → get_or text (n - 1) 0 ≡ 0 → trimmed (take n text) ≡ trimmed (take (n - 1) text)
trim_zero text n pos le e =
    let k : n ≡ suc (n - 1) = omega arith in
    ap (λ (m : ℕ). trimmed (take m text)) k ∙ (ap (λ (t : List ℕ). trimmed t) (fronted text (n - 1) (omega arith)) ∙ rw e (zero_last (take (n - 1) text)))

pub trim_kept : (text : List ℕ) (n : ℕ) → 0 < n → n ≤ length text → (get_or text (n - 1) 0 ≡ 0 → ⊥) → trimmed (take n text) ≡ take n text
trim_kept text n pos le other =
    let k : n ≡ suc (n - 1) = omega arith in
    let e : take n text ≡ take (n - 1) text ++ get_or text (n - 1) 0 ∷ [] = ap (λ (m : ℕ). take m text) k ∙ fronted text (n - 1) (omega arith) in
    ap (λ (t : List ℕ). trimmed t) e ∙ (other_last (take (n - 1) text) (get_or text (n - 1) 0) other ∙ sym e)
