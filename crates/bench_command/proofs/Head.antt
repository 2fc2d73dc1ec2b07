-- The words of the line that begins a subcircuit.
use Rattle.std.specs.Prelude.{ℕ, ◌≡◌, ◌<◌, ◌-◌, ◌==◌, not, Bool, true, false, List, [], ◌∷◌, ◌++◌, length, take, filter, map, codes, reverse}
use Rattle.std.specs.List.{All, list_all, prefix_len, slice_split, suffix_len}
use Rattle.std.proofs.Common.{refl, sym, ap, arith, ◌∙◌}
use Rattle.std.proofs.Math.Seq.{take-length}
use Rattle.std.proofs.lemmas.Bool.{and_from, and_parts, ne_eqb, not-true}
use Rattle.std.proofs.lemmas.List.{append_assoc, reverse-append}
use Rattle.std.proofs.lemmas.List.Elements.{All-cons, All-nil}
use Rattle.std.proofs.lemmas.List.Folds.{list_all-append}
use Rattle.std.proofs.lemmas.List.Splits.{slice_split_at, slice_split_none}
use Rattle.cell_num.specs.Names.{lowered}
use Rattle.spice_text.specs.Physical.{is_blank}
use Rattle.spice_text.specs.Words.{joined_at_equals, trimmed, words_of}

-- what stands between blanks, in lower case
abbrev pub parts_of : List ℕ → List (List ℕ)
parts_of text = map lowered (filter (λ w. not (length w == 0)) (slice_split is_blank text))

abbrev pub is_dark : ℕ → Bool
is_dark b = not (is_blank b)

abbrev pub first_is_dark : List ℕ → Bool
first_is_dark [] = false
first_is_dark (b ∷ bs) = is_dark b

-- the last byte is no blank
abbrev pub ends_dark : List ℕ → Bool
ends_dark text = first_is_dark (reverse text)

abbrev pub no_equals : ℕ → Bool
no_equals b = not (b == 61)

lack : (p : ℕ → Bool) (text : List ℕ) → list_all (λ b. not (p b)) text ≡ true → All (λ b. p b ≡ false) text
lack p [] h = All-nil (λ b. p b ≡ false)
lack p (b ∷ bs) h =
    let parts = and_parts (not (p b)) (list_all (λ b. not (p b)) bs) h in
    All-cons (λ b. p b ≡ false) b bs (not-true _ parts.0) (lack p bs parts.1)

whole_joined : (text : List ℕ) → list_all no_equals text ≡ true → joined_at_equals text ≡ trimmed text
whole_joined text h = rw (slice_split_none (λ b. b == 61) text (lack (λ b. b == 61) text h)) refl

dark_behind : (last front : List ℕ) → first_is_dark last ≡ true → prefix_len is_blank (last ++ front) ≡ 0
dark_behind [] front h = absurd cc
dark_behind (b ∷ bs) front h = rw (not-true _ h) refl

no_blanks_at_end : (front last : List ℕ) → ends_dark last ≡ true → suffix_len is_blank (front ++ last) ≡ 0
no_blanks_at_end front last h = ap (prefix_len is_blank) (reverse-append front last) ∙ dark_behind (reverse last) (reverse front) h

all_taken : (text : List ℕ) (n : ℕ) → n ≡ 0 → take (length text - n) text ≡ text
all_taken text n none =
    let whole : length text - n ≡ length text = omega (arith, none) in
    rw whole (take-length text)

-- a text that neither begins nor ends with a blank
whole_trimmed : (b : ℕ) (front last : List ℕ) → is_blank b ≡ false → ends_dark last ≡ true → trimmed (b ∷ (front ++ last)) ≡ b ∷ (front ++ last)
whole_trimmed b front last first h = rw first (all_taken (b ∷ (front ++ last)) (suffix_len is_blank (b ∷ (front ++ last))) (no_blanks_at_end (b ∷ front) last h))

parts_same : (name : List ℕ) (parts : List (List ℕ)) → 0 < length name → lowered name ≡ name → map lowered (filter (λ w. not (length w == 0)) (name ∷ parts)) ≡ name ∷ map lowered (filter (λ w. not (length w == 0)) parts)
parts_same name parts some low = rw (ne_eqb (length name) 0 (λ e. omega (arith, e, some)), low) refl

first_parts : (name rest : List ℕ) → 0 < length name → list_all is_dark name ≡ true → lowered name ≡ name → parts_of (codes ".SUBCKT " ++ name ++ 32 ∷ rest) ≡ codes ".subckt" ∷ name ∷ parts_of rest
first_parts name rest some dark low =
    let cut : slice_split is_blank (name ++ 32 ∷ rest) ≡ name ∷ slice_split is_blank rest = slice_split_at is_blank name 32 rest (lack is_blank name dark) refl in
    rw cut (ap (λ (parts : List (List ℕ)). codes ".subckt" ∷ parts) (parts_same name (slice_split is_blank rest) some low))

-- the word behind the first one stands between blanks
pub head_words : (name rest : List ℕ) → 0 < length name → list_all is_dark name ≡ true → list_all no_equals name ≡ true → lowered name ≡ name → list_all no_equals rest ≡ true → ends_dark rest ≡ true → words_of (codes ".SUBCKT " ++ name ++ 32 ∷ rest) ≡ codes ".subckt" ∷ name ∷ parts_of rest
head_words name rest some dark free low lacks last =
    let text = codes ".SUBCKT " ++ name ++ 32 ∷ rest in
    let front = codes "SUBCKT " ++ name ++ 32 ∷ [] in
    let apart : text ≡ 46 ∷ (front ++ rest) = ap (λ (t : List ℕ). codes ".SUBCKT " ++ t) (sym (append_assoc name (32 ∷ []) rest)) in
    let none : list_all no_equals text ≡ true = list_all-append no_equals name (32 ∷ rest) ∙ and_from (list_all no_equals name) (list_all no_equals rest) free lacks in
    let joined : joined_at_equals text ≡ text = whole_joined text none ∙ (ap trimmed apart ∙ (whole_trimmed 46 front rest refl last ∙ sym apart)) in
    ap parts_of joined ∙ first_parts name rest some dark low
