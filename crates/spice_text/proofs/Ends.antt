-- The first physical line, by the place of the first line feed.
use Rattle.std.proofs.Common.{ℕ, zero, suc, ◌≡◌, ◌+◌, ◌-◌, ◌<◌, ◌≤◌, ◌==◌, ◌&&◌, Bool, true, false, cond, List, [], ◌∷◌, length, get_or, take, drop, refl, sym, ap, ◌∙◌, arith, inl, inr}
use Rattle.std.specs.Prelude.{nat_lt, Option, Some, None, position, if◌then◌else◌}
use Rattle.std.proofs.Math.Seq.{take-length}
use Rattle.std.proofs.lemmas.List.{length-drop}
use Rattle.std.specs.List.{position_or_len}
use Rattle.std.proofs.lemmas.Bool.{cases_Bool, eq-eqb, ne_eqb, ltb-false}
use Rattle.std.proofs.lemmas.List.Recursion.{is_position_or_len}
use Rattle.spice_text.specs.Physical.{physical, begins_with}
use Rattle.spice_text.specs.Reader.{until_end, end_of}

same_step : (p : Bool) (n : ℕ) → (if p then 0 else suc n) ≡ cond p 0 (1 + n)
same_step true n = refl
same_step false n = omega arith

until_end_is : (bytes : List ℕ) → until_end bytes ≡ position_or_len (λ b. b == 10) bytes
until_end_is bytes = is_position_or_len until_end (λ b. b == 10) refl (λ b bs. same_step (b == 10) (until_end bs)) bytes

pub no_line : physical [] ≡ []
unfolding physical
no_line = refl

pub until_end_le : (bytes : List ℕ) → until_end bytes ≤ length bytes
until_end_le [] = omega arith
until_end_le (b ∷ bs) = elim (cases_Bool (b == 10)) [
  | inl same ↦ rw same (omega arith)
  | inr other ↦ rw other (omega (arith, until_end_le bs))
]

and_false : (a : Bool) → (a && false) ≡ false
and_false true = refl
and_false false = refl

and_true : (a : Bool) → (a && true) ≡ a
and_true true = refl
and_true false = refl

none_begins : (bs : List ℕ) → until_end bs ≡ length bs → begins_with 10 bs ≡ false
none_begins [] e = refl
none_begins (b ∷ bs) e = elim (cases_Bool (b == 10)) [
  | inl same ↦ let z : until_end (b ∷ bs) ≡ 0 = rw same refl in absurd (omega (arith, z, e))
  | inr other ↦ other
]

later_begins : (bs : List ℕ) (w : ℕ) → until_end bs ≡ suc w → begins_with 10 bs ≡ false
later_begins [] w e = refl
later_begins (b ∷ bs) w e = elim (cases_Bool (b == 10)) [
  | inl same ↦ let z : until_end (b ∷ bs) ≡ 0 = rw same refl in absurd (omega (arith, z, e))
  | inr other ↦ other
]

first_begins : (bs : List ℕ) → until_end bs ≡ 0 → 0 < length bs → begins_with 10 bs ≡ true
first_begins [] e lt = absurd (omega arith)
first_begins (b ∷ bs) e lt = elim (cases_Bool (b == 10)) [
  | inl same ↦ same
  | inr other ↦ let z : until_end (b ∷ bs) ≡ suc (until_end bs) = rw other refl in absurd (omega (arith, z, e))
]

begins_end : (bs : List ℕ) → begins_with 10 bs ≡ true → end_of bs ≡ 0
begins_end [] e = refl
begins_end (b ∷ bs) e = rw e refl

-- a text without a line feed is one line
pub last_line : (bytes : List ℕ) → 0 < length bytes → until_end bytes ≡ length bytes → physical bytes ≡ bytes ∷ []
unfolding physical
last_line [] some e = absurd (omega arith)
last_line (b ∷ []) some e = elim (cases_Bool (b == 10)) [
  | inl same ↦ let z : until_end (b ∷ []) ≡ 0 = rw same refl in absurd (omega (arith, z, e))
  | inr other ↦ rw (other, and_false (b == 13)) refl
]
last_line (b ∷ c ∷ cs) some e = elim (cases_Bool (b == 10)) [
  | inl same ↦ let z : until_end (b ∷ c ∷ cs) ≡ 0 = rw same refl in absurd (omega (arith, z, e))
  | inr other ↦
      let z : until_end (b ∷ c ∷ cs) ≡ suc (until_end (c ∷ cs)) = rw other refl in
      let rest : until_end (c ∷ cs) ≡ length (c ∷ cs) = omega (arith, z, e) in
      let inner : physical (c ∷ cs) ≡ (c ∷ cs) ∷ [] = last_line (c ∷ cs) (omega arith) rest in
      last_step b (c ∷ cs) other (none_begins (c ∷ cs) rest) inner
]
  where
    last_step : (b : ℕ) (bs : List ℕ) → (b == 10) ≡ false → begins_with 10 bs ≡ false → physical bs ≡ bs ∷ [] → physical (b ∷ bs) ≡ (b ∷ bs) ∷ []
    last_step b bs other none inner = rw (other, none, and_false (b == 13), inner) refl

pub ended_line : (bytes : List ℕ) → until_end bytes < length bytes → physical bytes ≡ take (end_of bytes) bytes ∷ physical (drop (until_end bytes + 1) bytes)
unfolding physical
ended_line [] lt = absurd (omega arith)
ended_line (b ∷ bs) lt = elim (cases_Bool (b == 10)) [
  | inl same ↦ rw same refl
  | inr other ↦
      let z : until_end (b ∷ bs) ≡ suc (until_end bs) = rw other refl in
      let inner : physical bs ≡ take (end_of bs) bs ∷ physical (drop (until_end bs + 1) bs) = ended_line bs (omega (arith, z, lt)) in
      let one : suc (until_end bs) + 1 ≡ suc (until_end bs + 1) = omega arith in
      elim (cases_Bool (begins_with 10 bs)) [
        | inl begins ↦ elim (cases_Bool (b == 13)) [
          | inl return ↦ rw (other, begins, return, inner, begins_end bs begins, one) refl
          | inr no_return ↦ rw (other, no_return, inner, one) refl
        ]
        | inr none ↦ rw (other, none, and_false (b == 13), inner, one) refl
      ]
]

pub end_zero : (bytes : List ℕ) → until_end bytes ≡ 0 → end_of bytes ≡ 0
end_zero [] e = refl
end_zero (b ∷ bs) e = elim (cases_Bool (b == 10)) [
  | inl same ↦ rw same refl
  | inr other ↦ let z : until_end (b ∷ bs) ≡ suc (until_end bs) = rw other refl in absurd (omega (arith, z, e))
]

pub end_after : (bytes : List ℕ) (v : ℕ) → until_end bytes ≡ suc v → suc v < length bytes → end_of bytes ≡ (if get_or bytes v 0 == 13 then v else suc v)
end_after [] v e lt = absurd (omega arith)
end_after (b ∷ bs) v e lt = elim (cases_Bool (b == 10)) [
  | inl same ↦ let z : until_end (b ∷ bs) ≡ 0 = rw same refl in absurd (omega (arith, z, e))
  | inr other ↦ let z : until_end (b ∷ bs) ≡ suc (until_end bs) = rw other refl in go v (omega (arith, z, e)) (omega arith) other (λ w f l. end_after bs w f l)
]
  where
    go : (v : ℕ) → until_end bs ≡ v → v < length bs → (b == 10) ≡ false → ((w : ℕ) → until_end bs ≡ suc w → suc w < length bs → end_of bs ≡ (if get_or bs w 0 == 13 then w else suc w)) → end_of (b ∷ bs) ≡ (if get_or (b ∷ bs) v 0 == 13 then v else suc v)
    go zero e lt other rec = let begins = first_begins bs e lt in rw (other, begins, and_true (b == 13), begins_end bs begins) refl
    go (suc w) e lt other rec = rw (other, later_begins bs w e, and_false (b == 13), rec w e lt) (after (get_or bs w 0 == 13) w)
      where
        after : (p : Bool) (w : ℕ) → suc (if p then w else suc w) ≡ (if p then suc w else suc (suc w))
        after true w = refl
        after false w = refl

found_end : (u n i : ℕ) → cond (nat_lt u n) (Some u) None ≡ Some i → u ≡ i
found_end u n i e = elim (cases_Bool (nat_lt u n)) [
  | inl lt ↦ some_is u i (sym (ap (λ (p : Bool). cond p (Some u) None) lt) ∙ e)
  | inr ge ↦ absurd (none_is i (sym (ap (λ (p : Bool). cond p (Some u) None) ge) ∙ e))
]
  where
    some_is : (x y : ℕ) → ◌≡◌ {A = Option ℕ} (Some x) (Some y) → x ≡ y
    some_is x y e = cc

    none_is : (y : ℕ) → ◌≡◌ {A = Option ℕ} None (Some y) → ⊥
    none_is y e = absurd cc

not_found : (u n : ℕ) → cond (nat_lt u n) (Some u) None ≡ None → n ≤ u
not_found u n e = elim (cases_Bool (nat_lt u n)) [
  | inl lt ↦ absurd (none_is u (sym (ap (λ (p : Bool). cond p (Some u) None) lt) ∙ e))
  | inr ge ↦ ltb-false _ _ ge
]
  where
    none_is : (y : ℕ) → ◌≡◌ {A = Option ℕ} (Some y) None → ⊥
    none_is y e = absurd cc

pub at_found : (bytes : List ℕ) (i : ℕ) → position (λ b. b == 10) bytes ≡ Some i → until_end bytes ≡ i
at_found bytes i e = until_end_is bytes ∙ found_end (position_or_len (λ b. b == 10) bytes) (length bytes) i e

pub at_none : (bytes : List ℕ) → position (λ b. b == 10) bytes ≡ None → until_end bytes ≡ length bytes
at_none bytes e = omega (arith, until_end_is bytes, not_found (position_or_len (λ b. b == 10) bytes) (length bytes) e, until_end_le bytes)

end_le_true : (p : Bool) (v : ℕ) → (if p then v else suc v) ≤ suc v
end_le_true true v = omega arith
end_le_true false v = omega arith

go_le : (v : ℕ) (bytes : List ℕ) → until_end bytes ≡ v → until_end bytes < length bytes → end_of bytes ≤ until_end bytes
go_le zero bytes e lt = omega (arith, end_zero bytes e)
go_le (suc v) bytes e lt = omega (arith, e, end_after bytes v e (omega (arith, e, lt)), end_le_true (get_or bytes v 0 == 13) v)

pub end_le : (bytes : List ℕ) → until_end bytes < length bytes → end_of bytes ≤ until_end bytes
end_le bytes lt = go_le (until_end bytes) bytes refl lt

pub end_return : (bytes : List ℕ) (n : ℕ) → n ≡ until_end bytes → 0 < n → n < length bytes → get_or bytes (n - 1) 0 ≡ 13 → n - 1 ≡ end_of bytes
end_return bytes n e pos lt is =
    let k : until_end bytes ≡ suc (n - 1) = omega (arith, e, pos) in
    sym (end_after bytes (n - 1) k (omega (arith, lt, pos)) ∙ (rw (eq-eqb _ _ is) refl))

pub end_plain : (bytes : List ℕ) (n : ℕ) → n ≡ until_end bytes → 0 < n → n < length bytes → (get_or bytes (n - 1) 0 ≡ 13 → ⊥) → n ≡ end_of bytes
end_plain bytes n e pos lt is =
    let k : until_end bytes ≡ suc (n - 1) = omega (arith, e, pos) in
    let h : end_of bytes ≡ suc (n - 1) = end_after bytes (n - 1) k (omega (arith, lt, pos)) ∙ (rw (ne_eqb _ _ is) refl) in
    omega (arith, h, pos)

pub line_is : (bytes : List ℕ) (e u : ℕ) → e ≡ end_of bytes → u ≡ until_end bytes → u < length bytes → physical bytes ≡ take e bytes ∷ physical (take (length bytes - (u + 1)) (drop (u + 1) bytes))
line_is bytes e u at_end at_feed lt =
    let all : take (length bytes - (u + 1)) (drop (u + 1) bytes) ≡ drop (u + 1) bytes = ap (λ (n : ℕ). take n (drop (u + 1) bytes)) (sym (length-drop (u + 1) bytes)) ∙ take-length (drop (u + 1) bytes) in
    rw (all, at_end, at_feed) (ended_line bytes (omega (arith, at_feed, lt)))

pub ruleset line_rules = (last_line, line_is, end_le, no_line)
