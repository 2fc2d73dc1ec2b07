-- Tokens of texts in which words stand between white space.
use Rattle.std.proofs.Common.{ℕ, ◌≡◌, ◌==◌, ◌||◌, Bool, true, false, List, [], ◌∷◌, ◌++◌, refl, ◌≤◌, arith}
use Rattle.std.specs.Str.Parse.{AllDigits}
use Rattle.std.proofs.lemmas.Bool.{ne_eqb}
use Rattle.std.proofs.lemmas.Str.Parse.{tells_digits}
use Rattle.lef_read.specs.Tokens.{Token, Word, AWord, Coming, is_white, ends_word, line_behind, scan, tokens_from}
use Rattle.file_laws.specs.Drawn.{IsInWord, IsWord}

abbrev word_then : List ℕ → List Token → Coming
word_then w ts = record { word = w; whole = true; tokens = ts }

not_both : true ≡ false → ⊥
not_both e = cc

marks : (w x y z : Bool) → (w || x || y || z) ≡ false → (w ≡ false) × (x ≡ false) × (y ≡ false) × (z ≡ false)
marks false false false false e = (refl, refl, refl, refl)
marks true x y z e = absurd (not_both e)
marks false true y z e = absurd (not_both e)
marks false false true z e = absurd (not_both e)
marks false false false true e = absurd (not_both e)

in_word : (n : ℕ) (w : List ℕ) (b : ℕ) (rest : List ℕ) → IsInWord w → is_white b ≡ true → scan AWord n (w ++ b ∷ rest) ≡ word_then w (tokens_from (line_behind n b) rest)
unfolding scan
in_word n [] b rest h white = rw white refl
in_word n (c ∷ w) b rest (here, more) white = rw (here, in_word n w b rest more white) refl

-- a byte that ends no word begins one
starts : (n c : ℕ) (bs : List ℕ) → ends_word c ≡ false → tokens_from n (c ∷ bs) ≡ Word n (c ∷ (scan AWord n bs).word) ∷ (scan AWord n bs).tokens
unfolding scan
starts n c bs h =
    let m = marks (is_white c) (c == 59) (c == 34) (c == 35) h in
    rw (m.0, m.1, m.2, m.3) refl

pub word_front : (n : ℕ) (w : List ℕ) (b : ℕ) (rest : List ℕ) → IsWord w → is_white b ≡ true → tokens_from n (w ++ b ∷ rest) ≡ Word n w ∷ tokens_from (line_behind n b) rest
word_front n [] b rest is white = absurd (omega (arith, is.some))
word_front n (c ∷ w) b rest is white = rw (starts n c (w ++ b ∷ rest) is.all.0, in_word n w b rest is.all.1 white) refl

pub in_append : (v w : List ℕ) → IsInWord v → IsInWord w → IsInWord (v ++ w)
in_append [] w a b = b
in_append (c ∷ v) w (here, more) b = (here, in_append v w more b)

-- ---- digits are bytes of words
pub digit_in : (c : ℕ) → 48 ≤ c → c ≤ 57 → ends_word c ≡ false
digit_in c low high =
    let a : (c == 32) ≡ false = ne_eqb c 32 (λ e. omega (arith, e, low)) in
    let b : (c == 10) ≡ false = ne_eqb c 10 (λ e. omega (arith, e, low)) in
    let d : (c == 9) ≡ false = ne_eqb c 9 (λ e. omega (arith, e, low)) in
    let e : (c == 13) ≡ false = ne_eqb c 13 (λ e. omega (arith, e, low)) in
    let f : (c == 11) ≡ false = ne_eqb c 11 (λ e. omega (arith, e, low)) in
    let g : (c == 12) ≡ false = ne_eqb c 12 (λ e. omega (arith, e, low)) in
    let h : (c == 59) ≡ false = ne_eqb c 59 (λ e. omega (arith, e, high)) in
    let i : (c == 34) ≡ false = ne_eqb c 34 (λ e. omega (arith, e, low)) in
    let j : (c == 35) ≡ false = ne_eqb c 35 (λ e. omega (arith, e, low)) in
    rw (a, b, d, e, f, g, h, i, j) refl

pub digits_in : (w : List ℕ) → AllDigits 10 w → IsInWord w
digits_in [] h = tt
digits_in (c ∷ w) h = let p = tells_digits.parts c w h in (digit_in c p.0.0 p.0.1, digits_in w p.1)
