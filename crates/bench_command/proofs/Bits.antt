-- Lists of zeros and ones as numbers.
use Rattle.std.specs.Prelude.{ℕ, zero, suc, ◌≡◌, ◌+◌, ◌*◌, ◌^◌, ◌<◌, ◌≤◌, Bool, true, false, List, [], ◌∷◌, length, drop, slice_index}
use Rattle.std.proofs.Common.{refl, ap, arith}
use Rattle.std.proofs.Math.Nat.{two-pow-succ}

abbrev pub AreBits : List ℕ → Type 0
AreBits [] = Unit {0}
AreBits (b ∷ bs) = (b ≤ 1) × AreBits bs

abbrev pub bits : List ℕ → ℕ
bits [] = 0
bits (b ∷ bs) = b + 2 * bits bs

pub bits_below : (bs : List ℕ) → AreBits bs → bits bs < 2 ^ length bs
bits_below [] h = omega arith
bits_below (b ∷ bs) h = omega (arith, h.0, bits_below bs h.1, two-pow-succ (length bs))

same_cons : (a b : ℕ) (xs ys : List ℕ) → a ≡ b → xs ≡ ys → ◌≡◌ {A = List ℕ} (a ∷ xs) (b ∷ ys)
same_cons a b xs ys e f = cc

pub bits_same : (xs ys : List ℕ) → AreBits xs → AreBits ys → length xs ≡ length ys → bits xs ≡ bits ys → xs ≡ ys
bits_same [] [] h g l e = refl
bits_same [] (b ∷ bs) h g l e = absurd (omega (arith, l))
bits_same (a ∷ xs) [] h g l e = absurd (omega (arith, l))
bits_same (a ∷ xs) (b ∷ ys) h g l e = same_cons a b xs ys (omega (arith, h.0, g.0, e)) (bits_same xs ys h.1 g.1 (omega (arith, l)) (omega (arith, h.0, g.0, e)))

-- a list without the element at a place
abbrev pub without : ℕ → List ℕ → List ℕ
without i [] = []
without zero (b ∷ bs) = bs
without (suc i) (b ∷ bs) = b ∷ without i bs

pub without_bits : (i : ℕ) (bs : List ℕ) → AreBits bs → AreBits (without i bs)
without_bits i [] h = tt
without_bits zero (b ∷ bs) h = h.1
without_bits (suc i) (b ∷ bs) h = (h.0, without_bits i bs h.1)

pub without_length : (i : ℕ) (bs : List ℕ) → i < length bs → length (without i bs) + 1 ≡ length bs
without_length i [] within = absurd (omega (arith, within))
without_length zero (b ∷ bs) within = omega arith
without_length (suc i) (b ∷ bs) within = omega (arith, without_length i bs (omega (arith, within)))

pub without_same : (i : ℕ) (xs ys : List ℕ) → length xs ≡ length ys → without i xs ≡ without i ys → slice_index xs i ≡ slice_index ys i → xs ≡ ys
without_same i [] [] l e here = refl
without_same i [] (b ∷ bs) l e here = absurd (omega (arith, l))
without_same i (a ∷ xs) [] l e here = absurd (omega (arith, l))
without_same zero (a ∷ xs) (b ∷ ys) l e here = same_cons a b xs ys here e
without_same (suc i) (a ∷ xs) (b ∷ ys) l e here = same_cons a b xs ys (ap (λ (cs : List ℕ). slice_index cs 0) e) (without_same i xs ys (omega (arith, l)) (ap (drop 1) e) here)

-- ---- a number for a place, the bits behind it, two choices and a bound

abbrev pub flip : Bool → ℕ
flip true = 1
flip false = 0

pub flip_le : (b : Bool) → flip b ≤ 1
flip_le true = omega arith
flip_le false = omega arith

pub flip_same : (a b : Bool) → flip a ≡ flip b → a ≡ b
flip_same true true e = refl
flip_same true false e = absurd (omega (arith, e))
flip_same false true e = absurd (omega (arith, e))
flip_same false false e = refl

abbrev pub number : ℕ → ℕ → ℕ → ℕ → ℕ → ℕ
number at rest p n bound = ((at * 512 + rest) * 4 + (2 * p + n)) * 9 + bound

pub number_below : (at rest p n bound : ℕ) → at < 10 → rest < 512 → p ≤ 1 → n ≤ 1 → bound < 9 → number at rest p n bound < 184320
number_below at rest p n bound a b c d e = omega (arith, a, b, c, d, e)

pub record AreSame (at rest p n bound at' rest' p' n' bound' : ℕ) : Type 0 where
  pub place : at ≡ at'
  pub others : rest ≡ rest'
  pub first : p ≡ p'
  pub second : n ≡ n'
  pub bounds : bound ≡ bound'

pub number_same : (at rest p n bound at' rest' p' n' bound' : ℕ) → rest < 512 → p ≤ 1 → n ≤ 1 → bound < 9 → rest' < 512 → p' ≤ 1 → n' ≤ 1 → bound' < 9 → number at rest p n bound ≡ number at' rest' p' n' bound' → AreSame at rest p n bound at' rest' p' n' bound'
number_same at rest p n bound at' rest' p' n' bound' b c d e b' c' d' e' same =
    let last : bound ≡ bound' = omega (arith, e, e', same) in
    let four : (at * 512 + rest) * 4 + (2 * p + n) ≡ (at' * 512 + rest') * 4 + (2 * p' + n') = omega (arith, same, last) in
    let two : 2 * p + n ≡ 2 * p' + n' = omega (arith, c, d, c', d', four) in
    let front : at * 512 + rest ≡ at' * 512 + rest' = omega (arith, four, two) in
    let others : rest ≡ rest' = omega (arith, b, b', front) in
    record { place = omega (arith, front, others); others = others; first = omega (arith, d, d', two); second = omega (arith, d, d', two); bounds = last }
