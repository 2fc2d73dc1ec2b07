-- The first line of some bytes, and those behind it.
use Rattle.std.specs.Prelude.{ℕ, ◌≡◌, ◌≢◌, ◌+◌, ◌-◌, ◌<◌, ◌==◌, ◌&&◌, true, false, List, [], ◌∷◌, Some, None, length, take, drop, position}
use Rattle.std.proofs.Common.{refl, sym, ap, arith, ◌∙◌, inl, inr}
use Rattle.std.specs.List.{join_with_byte}
use Rattle.std.proofs.lemmas.Bool.{and_parts, cases_Bool, eqb-true}
use Rattle.std.proofs.lemmas.List.Splits.{join_with_byte-slice_split}
use Rattle.log_lines.specs.Words.{parts_at}
use Rattle.log_lines.specs.Lines.{behind, last_of, lines_in, without_last}
use Rattle.log_lines.proofs.Parts.{all_behind, cut_at, found_within, not_cut, some_part}

pub more_parts : (part : List ℕ) (parts : List (List ℕ)) → 0 < length parts → without_last (part ∷ parts) ≡ part ∷ without_last parts
more_parts part [] h = absurd (omega (arith, h))
more_parts part (next ∷ more) h = refl

pub same_last : (part : List ℕ) (parts : List (List ℕ)) → 0 < length parts → last_of (part ∷ parts) ≡ last_of parts
same_last part [] h = absurd (omega (arith, h))
same_last part (next ∷ more) h = refl

no_feed : (bytes : List ℕ) → None ≡ position (λ b. b == 10) bytes → parts_at 10 bytes ≡ bytes ∷ []
no_feed bytes e = not_cut 10 bytes e

at_feed : (bytes : List ℕ) (at : ℕ) → Some at ≡ position (λ b. b == 10) bytes → parts_at 10 bytes ≡ take at bytes ∷ parts_at 10 (drop (at + 1) bytes)
at_feed bytes at e = cut_at 10 bytes at e

pub feed_within : (bytes : List ℕ) (at : ℕ) → Some at ≡ position (λ b. b == 10) bytes → at < length bytes
feed_within bytes at e = found_within 10 bytes at e

pub no_line : (bytes : List ℕ) → None ≡ position (λ b. b == 10) bytes → lines_in bytes ≡ []
unfolding lines_in
no_line bytes e = ap without_last (no_feed bytes e)

pub first_lines : (bytes : List ℕ) (at : ℕ) → Some at ≡ position (λ b. b == 10) bytes → lines_in bytes ≡ take at bytes ∷ lines_in (take (length bytes - (at + 1)) (drop (at + 1) bytes))
unfolding lines_in
first_lines bytes at e =
    rw (all_behind bytes (at + 1)) (ap without_last (at_feed bytes at e) ∙ more_parts (take at bytes) (parts_at 10 (drop (at + 1) bytes)) (some_part 10 (drop (at + 1) bytes)))

pub first_behind : (bytes : List ℕ) (at : ℕ) → Some at ≡ position (λ b. b == 10) bytes → behind bytes ≡ behind (take (length bytes - (at + 1)) (drop (at + 1) bytes))
unfolding behind
first_behind bytes at e =
    rw (all_behind bytes (at + 1)) (ap last_of (at_feed bytes at e) ∙ same_last (take at bytes) (parts_at 10 (drop (at + 1) bytes)) (some_part 10 (drop (at + 1) bytes)))

-- whether the bytes end
pub nothing_left : (bytes : List ℕ) → length bytes ≡ 0 → (length (lines_in bytes) == 0 && length (behind bytes) == 0) ≡ true
unfolding lines_in behind
nothing_left [] none = refl
nothing_left (b ∷ bs) none = absurd (omega (arith, none))

no_part : (parts : List (List ℕ)) → length (without_last parts) ≡ 0 → length (last_of parts) ≡ 0 → length (join_with_byte 10 parts) ≡ 0
no_part [] h g = refl
no_part (part ∷ []) h g = g
no_part (part ∷ next ∷ more) h g = absurd (omega (arith, h))

pub something_left : (bytes : List ℕ) → length bytes ≢ 0 → (length (lines_in bytes) == 0 && length (behind bytes) == 0) ≡ false
unfolding lines_in behind
something_left bytes some = elim (cases_Bool (length (lines_in bytes) == 0 && length (behind bytes) == 0)) [
  | inl none ↦
      let both : ((length (lines_in bytes) == 0) ≡ true) × ((length (behind bytes) == 0) ≡ true) = and_parts _ _ none in
      absurd (some (ap length (sym (join_with_byte-slice_split 10 bytes)) ∙ no_part (parts_at 10 bytes) (eqb-true _ _ both.0) (eqb-true _ _ both.1)))
  | inr left ↦ left
]
