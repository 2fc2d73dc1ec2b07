-- Ranges of numbers with one number more.
use Rattle.std.proofs.Common.{◌≡◌, ℕ, zero, suc, ◌+◌, [], ◌∷◌, ◌++◌, arith, add-one, ap, ◌∙◌}
use Rattle.std.specs.List.{range_with_len}

pub range_from : (a n : ℕ) → range_with_len a (suc n) ≡ range_with_len a n ++ (a + n) ∷ []
range_from a zero = let e : ◌≡◌ {A = ℕ} a (a + 0) = omega arith in ap (λ z. z ∷ []) e
range_from a (suc n) =
    let e : ◌≡◌ {A = ℕ} (a + 1 + n) (a + suc n) = omega arith in
    ap (λ zs. a ∷ zs) (range_from (a + 1) n ∙ ap (λ z. range_with_len (a + 1) n ++ z ∷ []) e)

pub range_more : (n : ℕ) → range_with_len 0 (n + 1) ≡ range_with_len 0 n ++ n ∷ []
range_more n =
    let e : ◌≡◌ {A = ℕ} (0 + n) n = omega arith in
    rw add-one (range_from 0 n ∙ ap (λ z. range_with_len 0 n ++ z ∷ []) e)
