-- The parts of a text, one after the other.
use Rattle.std.specs.Prelude.{ℕ, ◌≡◌, ◌≢◌, ◌+◌, ◌-◌, ◌<◌, ◌≤◌, ◌==◌, nat_lt, true, false, List, [], ◌∷◌, ◌++◌, Option, Some, None, length, map, take, drop, get_or, position}
use Rattle.std.proofs.Common.{refl, sym, ap, arith, ◌∙◌, inl, inr}
use Rattle.std.specs.Borrow.{Bor}
use Rattle.std.specs.List.{onto_first, position_or_len}
use Rattle.std.proofs.Math.Seq.{take-length}
use Rattle.std.proofs.lemmas.Bool.{cases_Bool, eq-eqb, ltb-false, ltb-true, ne_eqb}
use Rattle.std.proofs.lemmas.List.{append-nil, length-append, length-drop, length-map}
use Rattle.std.proofs.lemmas.List.Elements.{All-cons, All-from_get_or, All-nil}
use Rattle.std.proofs.lemmas.List.Sums.{fails_before_first}
use Rattle.std.proofs.lemmas.List.Splits.{length-slice_split, slice_split-cons_no, slice_split-cons_yes, slice_split_first, slice_split_none}
use Rattle.std.proofs.lemmas.Option.{cond_some, none-some}
use Rattle.log_lines.specs.Words.{parts_at, parts_left}

pub not_cut : (c : ℕ) (text : List ℕ) → None ≡ position (λ b. b == c) text → parts_at c text ≡ text ∷ []
not_cut c text e = elim (cases_Bool (nat_lt (position_or_len (λ b. b == c) text) (length text))) [
  | inl found ↦ let there : position (λ b. b == c) text ≡ Some (position_or_len (λ b. b == c) text) = rw found refl in absurd (none-some _ (e ∙ there))
  | inr none ↦ slice_split_none (λ b. b == c) text (All-from_get_or (λ b. (b == c) ≡ false) text 0 (λ i l. fails_before_first (λ b. b == c) text i 0 (omega (arith, l, ltb-false _ _ none))))
]

pub one_byte : (c : ℕ) (text : List ℕ) (d : ℕ) → length text ≡ 1 → get_or text 0 d ≢ c → parts_at c text ≡ text ∷ []
one_byte c [] d one other = absurd (omega (arith, one))
one_byte c (a ∷ []) d one other = slice_split_none (λ b. b == c) (a ∷ []) (All-cons (λ b. (b == c) ≡ false) a [] (ne_eqb a c other) (All-nil (λ b. (b == c) ≡ false)))
one_byte c (a ∷ b ∷ rest) d one other = absurd (omega (arith, one))

pub cut_at : (c : ℕ) (text : List ℕ) (at : ℕ) → Some at ≡ position (λ b. b == c) text → parts_at c text ≡ take at text ∷ parts_at c (drop (at + 1) text)
cut_at c text at e =
    let found : (nat_lt (position_or_len (λ b. b == c) text) (length text) ≡ true) × (position_or_len (λ b. b == c) text ≡ at) = cond_some _ _ _ (sym e) in
    rw (sym found.1) (slice_split_first (λ b. b == c) text 0 (ltb-true _ _ found.0))

pub found_within : (c : ℕ) (text : List ℕ) (at : ℕ) → Some at ≡ position (λ b. b == c) text → at < length text
found_within c text at e =
    let found : (nat_lt (position_or_len (λ b. b == c) text) (length text) ≡ true) × (position_or_len (λ b. b == c) text ≡ at) = cond_some _ _ _ (sym e) in
    omega (arith, found.1, ltb-true _ _ found.0)

pub all_behind : (text : List ℕ) (n : ℕ) → take (length text - n) (drop n text) ≡ drop n text
all_behind text n = rw (sym (length-drop n text)) (take-length (drop n text))

pub some_part : (c : ℕ) (text : List ℕ) → 0 < length (parts_at c text)
some_part c text = omega (arith, length-slice_split (λ b. b == c) text)

-- the first part, and the text behind the byte that ends it
pub first_cut : (c : ℕ) (text : List ℕ) (at : ℕ) → Some at ≡ position (λ b. b == c) text → parts_at c text ≡ take at text ∷ parts_at c (take (length text - (at + 1)) (drop (at + 1) text))
first_cut c text at found = cut_at c text at found ∙ ap (λ (rest : List ℕ). take at text ∷ parts_at c rest) (sym (all_behind text (at + 1)))

-- the same, where the second byte ends the first part
pub second_cut : (c : ℕ) (text : List ℕ) (d e : ℕ) → 2 ≤ length text → get_or text 0 d ≢ c → get_or text 1 e ≡ c → parts_at c text ≡ take 1 text ∷ parts_at c (take (length text - 2) (drop 2 text))
second_cut c [] d e long other same = absurd (omega (arith, long))
second_cut c (a ∷ []) d e long other same = absurd (omega (arith, long))
second_cut c (a ∷ b ∷ rest) d e long other same =
    slice_split-cons_no (λ x. x == c) a (b ∷ rest) (ne_eqb a c other)
    ∙ (ap (onto_first a) (slice_split-cons_yes (λ x. x == c) b rest (eq-eqb b c same))
    ∙ ap (λ (l : List ℕ). (a ∷ []) ∷ parts_at c l) (sym (all_behind (a ∷ b ∷ rest) 2)))

-- ---- the parts so far, and the rest

joined : (items : List (Bor (List ℕ))) (part : Bor (List ℕ)) (more : List (List ℕ)) → map (λ p. p.now) (items ++ part ∷ []) ++ more ≡ map (λ p. p.now) items ++ (part.now ∷ more)
joined [] part more = refl
joined (item ∷ items) part more = ap (λ (ps : List (List ℕ)). item.now ∷ ps) (joined items part more)

pub part_more : (c : ℕ) (items : List (Bor (List ℕ))) (part : Bor (List ℕ)) (rest : List ℕ) (left : Option (Bor (List ℕ))) (after : Bor (List ℕ)) (all : List (List ℕ)) → map (λ p. p.now) items ++ parts_at c rest ≡ all → parts_at c rest ≡ part.now ∷ parts_left c left → left ≡ Some after → map (λ p. p.now) (items ++ part ∷ []) ++ parts_at c after.now ≡ all
part_more c items part rest left after all so_far first more =
    joined items part (parts_at c after.now)
    ∙ (ap (λ (o : Option (Bor (List ℕ))). map (λ p. p.now) items ++ (part.now ∷ parts_left c o)) (sym more)
    ∙ (ap (λ (ps : List (List ℕ)). map (λ p. p.now) items ++ ps) (sym first) ∙ so_far))

pub part_last : (c : ℕ) (items : List (Bor (List ℕ))) (part : Bor (List ℕ)) (rest : List ℕ) (left : Option (Bor (List ℕ))) (all : List (List ℕ)) → map (λ p. p.now) items ++ parts_at c rest ≡ all → parts_at c rest ≡ part.now ∷ parts_left c left → left ≡ None → map (λ p. p.now) (items ++ part ∷ []) ≡ all
part_last c items part rest left all so_far first none =
    sym (append-nil (map (λ p. p.now) (items ++ part ∷ [])))
    ∙ (joined items part []
    ∙ (ap (λ (o : Option (Bor (List ℕ))). map (λ p. p.now) items ++ (part.now ∷ parts_left c o)) (sym none)
    ∙ (ap (λ (ps : List (List ℕ)). map (λ p. p.now) items ++ ps) (sym first) ∙ so_far)))

-- there is one more than there is room for
pub parts_full : (c : ℕ) (items : List (Bor (List ℕ))) (rest : List ℕ) (all : List (List ℕ)) (most : ℕ) → map (λ p. p.now) items ++ parts_at c rest ≡ all → most ≤ length items → most < length all
parts_full c items rest all most so_far full =
    omega (arith, full, some_part c rest, ap length so_far, length-append (map (λ p. p.now) items) (parts_at c rest), length-map items (λ p. p.now))
