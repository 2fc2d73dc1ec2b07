-- Bytes between two tokens are passed over one by one.
use Rattle.std.proofs.Common.{ℕ, ◌≡◌, ◌+◌, ◌-◌, ◌<◌, ◌≤◌, ◌==◌, not, Bool, true, false, List, [], ◌∷◌, length, take, drop, get_or, refl, sym, ap, subst, ◌∙◌, inl, inr}
use Rattle.std.specs.Prelude.{Option, Some, None}
use Rattle.std.proofs.Math.ListN.{drop_of_length-le}
use Rattle.std.proofs.lemmas.Bool.{cases_Bool, eqb-true}
use Rattle.std.proofs.lemmas.List.{drop_more, take_rest}
use Rattle.lef_read.specs.Tokens.{Token, Nothing, is_white, line_behind, scan, tokens_from}
use Rattle.lef_read.specs.Statements.{begins_token, between_tokens, passes}

same_comment : (a b : Bool) → ◌≡◌ {A = Option Bool} (Some a) (Some b) → a ≡ b
same_comment a b e = cc

none_is : (d : Bool) → ◌≡◌ {A = Option Bool} None (Some d) → ⊥
none_is d e = absurd cc

some_is : (d : Bool) → ◌≡◌ {A = Option Bool} (Some d) None → ⊥
some_is d e = absurd cc

hashed : (d : Bool) (n : ℕ) (bs : List ℕ) → d ≡ true → (scan Nothing n (35 ∷ bs)).tokens ≡ (scan (between_tokens d) (line_behind n 35) bs).tokens
unfolding scan
hashed d n bs e = rw e refl

step : (c d : Bool) (n b : ℕ) (bs : List ℕ) → passes c b ≡ Some d → (scan (between_tokens c) n (b ∷ bs)).tokens ≡ (scan (between_tokens d) (line_behind n b) bs).tokens
unfolding scan
step true d n b bs e = elim (cases_Bool (b == 10)) [
  | inl feed ↦ let s : d ≡ false = sym (same_comment (not (b == 10)) d e) ∙ rw feed refl in rw (feed, s) refl
  | inr other ↦ let s : d ≡ true = sym (same_comment (not (b == 10)) d e) ∙ rw other refl in rw (other, s) refl
]
step false d n b bs e = elim (cases_Bool (b == 35)) [
  | inl hash ↦
      let s : d ≡ true = sym (same_comment true d (sym (rw hash refl) ∙ e)) in
      subst (λ (x : ℕ). (scan Nothing n (x ∷ bs)).tokens ≡ (scan (between_tokens d) (line_behind n x) bs).tokens) (sym (eqb-true b 35 hash)) (hashed d n bs s)
  | inr other ↦ elim (cases_Bool (is_white b)) [
    | inl white ↦ let s : d ≡ false = sym (same_comment false d (sym (rw (other, white) refl) ∙ e)) in rw (white, s) refl
    | inr word ↦ absurd (none_is d (sym (rw (other, word) refl) ∙ e))
  ]
]

stops : (c : Bool) (n b : ℕ) (bs : List ℕ) → passes c b ≡ None → ((scan (between_tokens c) n (b ∷ bs)).tokens ≡ tokens_from n (b ∷ bs)) × (begins_token (b ∷ bs) ≡ true)
stops true n b bs e = absurd (some_is _ e)
stops false n b bs e = elim (cases_Bool (b == 35)) [
  | inl hash ↦ absurd (some_is true (sym (rw hash refl) ∙ e))
  | inr other ↦ elim (cases_Bool (is_white b)) [
    | inl white ↦ absurd (some_is false (sym (rw (other, white) refl) ∙ e))
    | inr word ↦ (refl, rw (other, word) refl)
  ]
]

-- in the list of bytes, from a place on
pub passed_over : (bytes : List ℕ) (at n : ℕ) (c d : Bool) (all : List Token) → at < length bytes → passes c (get_or bytes at 0) ≡ Some d → (scan (between_tokens c) n (drop at bytes)).tokens ≡ all
    → (scan (between_tokens d) (line_behind n (get_or bytes at 0)) (drop (at + 1) bytes)).tokens ≡ all
passed_over bytes at n c d all within e f =
    sym (step c d n (get_or bytes at 0) (drop (at + 1) bytes) e)
    ∙ (sym (ap (λ (bs : List ℕ). (scan (between_tokens c) n bs).tokens) (drop_more bytes at 0 within)) ∙ f)

pub token_there : (bytes : List ℕ) (at n : ℕ) (c : Bool) (all : List Token) → at < length bytes → passes c (get_or bytes at 0) ≡ None → (scan (between_tokens c) n (drop at bytes)).tokens ≡ all
    → tokens_from n (take (length bytes - at) (drop at bytes)) ≡ all
token_there bytes at n c all within e f =
    ap (λ (bs : List ℕ). tokens_from n bs) (take_rest bytes at ∙ drop_more bytes at 0 within)
    ∙ (sym (stops c n (get_or bytes at 0) (drop (at + 1) bytes) e).0
    ∙ (sym (ap (λ (bs : List ℕ). (scan (between_tokens c) n bs).tokens) (drop_more bytes at 0 within)) ∙ f))

pub token_begins : (bytes : List ℕ) (at : ℕ) (c : Bool) → at < length bytes → passes c (get_or bytes at 0) ≡ None → begins_token (take (length bytes - at) (drop at bytes)) ≡ true
token_begins bytes at c within e =
    ap begins_token (take_rest bytes at ∙ drop_more bytes at 0 within) ∙ (stops c 0 (get_or bytes at 0) (drop (at + 1) bytes) e).1

none_left : (c : Bool) (n : ℕ) → (scan (between_tokens c) n []).tokens ≡ tokens_from n []
unfolding scan
none_left true n = refl
none_left false n = refl

pub nothing_left : (bytes : List ℕ) (at n : ℕ) (c : Bool) (all : List Token) → length bytes ≤ at → (scan (between_tokens c) n (drop at bytes)).tokens ≡ all → tokens_from n [] ≡ all
nothing_left bytes at n c all past f =
    sym (none_left c n) ∙ (sym (ap (λ (bs : List ℕ). (scan (between_tokens c) n bs).tokens) (drop_of_length-le bytes {i = at} past)) ∙ f)

pub ruleset skip_rules = (passed_over, token_there, token_begins, nothing_left)
