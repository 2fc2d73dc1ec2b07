-- What holds of all ten digits holds of the digits of every number.
use Rattle.std.specs.Prelude.{ℕ, zero, suc, ◌≡◌, ◌<◌, ◌==◌, ◌/◌, ◌%◌, Bool, true, false, cond, List, [], ◌∷◌, codes, decimal, length}
use Rattle.std.specs.Fmt.{digit_glyph, digits, digits_onto}
use Rattle.std.specs.List.{list_all}
use Rattle.std.proofs.Common.{refl, subst, arith, get_or}
use Rattle.std.proofs.lemmas.Bool.{and_from}
use Rattle.std.proofs.lemmas.List.Sums.{AllPass-from_list_all}

abbrev pub all_digits : List ℕ
all_digits = codes "0123456789"

same_glyph : (d : ℕ) → d < 10 → get_or all_digits d 0 ≡ digit_glyph false d
same_glyph zero few = refl
same_glyph (suc zero) few = refl
same_glyph (suc (suc zero)) few = refl
same_glyph (suc (suc (suc zero))) few = refl
same_glyph (suc (suc (suc (suc zero)))) few = refl
same_glyph (suc (suc (suc (suc (suc zero))))) few = refl
same_glyph (suc (suc (suc (suc (suc (suc zero)))))) few = refl
same_glyph (suc (suc (suc (suc (suc (suc (suc zero))))))) few = refl
same_glyph (suc (suc (suc (suc (suc (suc (suc (suc zero)))))))) few = refl
same_glyph (suc (suc (suc (suc (suc (suc (suc (suc (suc zero))))))))) few = refl
same_glyph (suc (suc (suc (suc (suc (suc (suc (suc (suc (suc d)))))))))) few = absurd (omega (arith, few))

glyph_passes : (p : ℕ → Bool) → list_all p all_digits ≡ true → (d : ℕ) → d < 10 → p (digit_glyph false d) ≡ true
glyph_passes p h d few =
    let ten : d < length all_digits = omega (arith, few) in
    subst (λ (b : ℕ). p b ≡ true) (same_glyph d few) (AllPass-from_list_all p all_digits h d 0 ten)

either_passes : (p : ℕ → Bool) (last : Bool) (xs ys : List ℕ) → list_all p xs ≡ true → list_all p ys ≡ true → list_all p (cond last xs ys) ≡ true
either_passes p true xs ys h g = h
either_passes p false xs ys h g = g

onto_passes : (p : ℕ → Bool) → list_all p all_digits ≡ true → (k n : ℕ) (behind : List ℕ) → list_all p behind ≡ true → list_all p (digits_onto k 10 false n behind) ≡ true
onto_passes p h zero n behind g = g
onto_passes p h (suc k) n behind g =
    let few : n % 10 < 10 = omega arith in
    let more : list_all p (digit_glyph false (n % 10) ∷ behind) ≡ true = and_from (p (digit_glyph false (n % 10))) (list_all p behind) (glyph_passes p h (n % 10) few) g in
    either_passes p (n / 10 == 0) _ _ more (onto_passes p h k (n / 10) (digit_glyph false (n % 10) ∷ behind) more)

pub digits_pass : (p : ℕ → Bool) → list_all p all_digits ≡ true → (n : ℕ) → list_all p (decimal n) ≡ true
unfolding digits
digits_pass p h n = onto_passes p h 64 n [] refl
