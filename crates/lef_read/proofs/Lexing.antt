-- The tokens of a text by the lengths of its words and texts.
use Rattle.std.proofs.Common.{ℕ, suc, ◌≡◌, ◌+◌, ◌-◌, ◌<◌, ◌==◌, ◌||◌, not, Bool, true, false, List, [], ◌∷◌, length, take, drop, get_or, refl, sym, ap, subst, ◌∙◌, arith, inl, inr}
use Rattle.std.specs.Prelude.{◌≢◌, Some}
use Rattle.std.proofs.lemmas.Bool.{cases_Bool, ne_eqb}
use Rattle.std.proofs.lemmas.List.{take_rest}
use Rattle.lef_read.specs.Tokens.{Token, Word, Quoted, Semicolon, Torn, AWord, AText, is_white, ends_word, line_behind, quoted, scan, tokens_from}
use Rattle.lef_read.specs.Statements.{Takes, begins_token, word_length, until_quote, line_at}
use Rattle.lef_read.specs.declared.token.Token.{Token as TokenIn}
use Rattle.lef_read.specs.declared.token.Token.TheVariants as token

word_scanned : (n : ℕ) (bs : List ℕ) → scan AWord n bs ≡ record { word = take (word_length bs) bs; whole = true; tokens = tokens_from n (drop (word_length bs) bs) }
unfolding scan
word_scanned n [] = refl
word_scanned n (b ∷ bs) = elim (cases_Bool (ends_word b)) [
  | inl ends ↦ rw ends refl
  | inr goes ↦ rw (goes, word_scanned n bs) refl
]

no : true ≡ false → ⊥
no e = cc

kinds : (w x y z : Bool) → not (w || x) ≡ true → (y ≡ false) → (z ≡ false) → (w ≡ false) × (x ≡ false)
kinds false false y z e f g = (refl, refl)
kinds true x y z e f g = absurd (no (sym e))
kinds false true y z e f g = absurd (no (sym e))

pub no_token : (n : ℕ) → tokens_from n [] ≡ []
unfolding scan
no_token n = refl

semicolon_alone : (n : ℕ) (bs : List ℕ) → tokens_from n (59 ∷ bs) ≡ Semicolon n ∷ tokens_from n bs
unfolding scan
semicolon_alone n bs = refl

quote_alone : (n : ℕ) (bs : List ℕ) → tokens_from n (34 ∷ bs) ≡ quoted n (scan AText n bs)
unfolding scan
quote_alone n bs = refl

-- by the first byte of a text

pub semicolon_first : (n : ℕ) (bytes : List ℕ) → 0 < length bytes → get_or bytes 0 0 ≡ 59 → tokens_from n bytes ≡ Semicolon n ∷ tokens_from n (take (length bytes - 1) (drop 1 bytes))
semicolon_first n [] some e = absurd (omega (arith, some))
semicolon_first n (b ∷ bs) some e =
    subst (λ (x : ℕ). tokens_from n (x ∷ bs) ≡ Semicolon n ∷ tokens_from n bs) (sym e) (semicolon_alone n bs)
    ∙ ap (λ (rest : List ℕ). Semicolon n ∷ tokens_from n rest) (sym (take_rest (b ∷ bs) 1))

pub quote_first : (n : ℕ) (bytes : List ℕ) → 0 < length bytes → get_or bytes 0 0 ≡ 34 → quoted n (scan AText n (take (length bytes - 1) (drop 1 bytes))) ≡ tokens_from n bytes
quote_first n [] some e = absurd (omega (arith, some))
quote_first n (b ∷ bs) some e =
    ap (λ (rest : List ℕ). quoted n (scan AText n rest)) (take_rest (b ∷ bs) 1)
    ∙ sym (subst (λ (x : ℕ). tokens_from n (x ∷ bs) ≡ quoted n (scan AText n bs)) (sym e) (quote_alone n bs))

begins_word : (n b : ℕ) (bs : List ℕ) → begins_token (b ∷ bs) ≡ true → (b == 59) ≡ false → (b == 34) ≡ false
    → tokens_from n (b ∷ bs) ≡ Word n (take (word_length (b ∷ bs)) (b ∷ bs)) ∷ tokens_from n (drop (word_length (b ∷ bs)) (b ∷ bs))
unfolding scan
begins_word n b bs begins semicolon quote =
    let k = kinds (is_white b) (b == 35) (b == 59) (b == 34) begins semicolon quote in
    rw (k.0, k.1, semicolon, quote, word_scanned n bs) refl

pub word_first : (n end : ℕ) (bytes : List ℕ) → begins_token bytes ≡ true → 0 < length bytes → get_or bytes 0 0 ≢ 59 → get_or bytes 0 0 ≢ 34 → end ≡ word_length bytes
    → tokens_from n bytes ≡ Word n (take end bytes) ∷ tokens_from n (take (length bytes - end) (drop end bytes))
word_first n end [] begins some semicolon quote e = absurd (omega (arith, some))
word_first n end (b ∷ bs) begins some semicolon quote e =
    rw (e, take_rest (b ∷ bs) (word_length (b ∷ bs))) (begins_word n b bs begins (ne_eqb b 59 semicolon) (ne_eqb b 34 quote))

torn : (n m : ℕ) (bs : List ℕ) → until_quote bs ≡ length bs → quoted n (scan AText m bs) ≡ Torn ∷ []
unfolding scan
torn n m [] e = refl
torn n m (b ∷ bs) e = elim (cases_Bool (b == 34)) [
  | inl same ↦ let z : until_quote (b ∷ bs) ≡ 0 = rw same refl in absurd (omega (arith, z, e))
  | inr other ↦
      let z : until_quote (b ∷ bs) ≡ suc (until_quote bs) = rw other refl in
      let inner = torn n (line_behind m b) bs (omega (arith, z, e)) in
      rw (other, inner) refl
]

pub text_torn : (n : ℕ) (bs : List ℕ) → until_quote bs ≡ length bs → quoted n (scan AText n bs) ≡ Torn ∷ tokens_from n []
unfolding scan
text_torn n bs e = torn n n bs e

ended : (n m : ℕ) (bs : List ℕ) → until_quote bs < length bs → quoted n (scan AText m bs) ≡ Quoted n ∷ tokens_from (line_at m (take (until_quote bs) bs)) (drop (until_quote bs + 1) bs)
unfolding scan
ended n m [] h = absurd (omega (arith, h))
ended n m (b ∷ bs) h = elim (cases_Bool (b == 34)) [
  | inl same ↦ rw same refl
  | inr other ↦
      let z : until_quote (b ∷ bs) ≡ suc (until_quote bs) = rw other refl in
      let inner = ended n (line_behind m b) bs (omega (arith, z, h)) in
      let one : suc (until_quote bs) + 1 ≡ suc (until_quote bs + 1) = omega arith in
      rw (other, inner, one) refl
]

pub text_quoted : (n k : ℕ) (bs : List ℕ) → k ≡ until_quote bs → k < length bs → quoted n (scan AText n bs) ≡ Quoted n ∷ tokens_from (line_at n (take k bs)) (take (length bs - (k + 1)) (drop (k + 1) bs))
text_quoted n k bs e h = rw (e, take_rest bs (until_quote bs + 1)) (ended n n bs (omega (arith, e, h)))

-- a token is taken from the front
pub fewer : (t : TokenIn) (old new : List Token) → Takes (Some t) old new → length new < length old
fewer (token.Word n w) old new e = omega (arith, ap length e)
fewer (token.Quoted n) old new e = omega (arith, ap length e)
fewer (token.Semicolon n) old new e = omega (arith, ap length e)
fewer token.Torn old new e = omega (arith, ap length e)

pub ruleset token_rules = (semicolon_first, quote_first, word_first)
