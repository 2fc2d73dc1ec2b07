-- Numbers by their digits.
use Rattle.std.proofs.Common.{ℕ, ◌≡◌, ◌+◌, ◌-◌, ◌*◌, ◌<◌, ◌≤◌, ◌==◌, ◌&&◌, not, Bool, true, false, List, [], ◌∷◌, length, drop, get_or, refl, sym, ap, ◌∙◌, arith, inl, inr}
use Rattle.std.specs.Prelude.{Some, None, nat_le}
use Rattle.std.specs.Char.{is_ascii_digit, digit_value}
use Rattle.std.specs.List.{list_all}
use Rattle.std.specs.Str.Parse.{digits_value_after}
use Rattle.std.proofs.lemmas.Bool.{and_parts, cases_Bool, leb-true, le-leb}
use Rattle.std.proofs.lemmas.List.{drop_more}
use Rattle.std.proofs.lemmas.Str.{digit_value_digit}
use Rattle.lef_read.specs.Numbers.{before_point, behind_point, length_of, is_number, zeros_behind, thousandths, value_of, at_most, whole_after}

at_least : (n : ℕ) (ds : List ℕ) → n ≤ whole_after n ds
at_least n [] = omega arith
at_least n (d ∷ ds) = omega (arith, at_least (10 * n + (d - 48)) ds)

pub too_many : (n all : ℕ) (ds : List ℕ) (i : ℕ) → i < length ds → whole_after n (drop i ds) ≡ all → 1000000 < 10 * n + (get_or ds i 0 - 48) → 1000000 < all
too_many n all ds i within e h =
    let more = ap (whole_after n) (drop_more ds i 0 within) in
    omega (arith, h, e, more, at_least (10 * n + (get_or ds i 0 - 48)) (drop (i + 1) ds))

digit_is : (d : ℕ) → is_ascii_digit d ≡ true → digit_value d ≡ d - 48
digit_is d h =
    let p = and_parts (nat_le 48 d) (nat_le d 57) h in
    omega (arith, digit_value_digit d (leb-true 48 d p.0, leb-true d 57 p.1))

whole_is : (n : ℕ) (ds : List ℕ) → list_all is_ascii_digit ds ≡ true → whole_after n ds ≡ digits_value_after 10 n ds
whole_is n [] h = refl
whole_is n (d ∷ ds) h =
    let p = and_parts (is_ascii_digit d) (list_all is_ascii_digit ds) h in
    let e : 10 * n + (d - 48) ≡ n * 10 + digit_value d = omega (arith, digit_is d p.0) in
    rw e (whole_is (n * 10 + digit_value d) ds p.1)

pub no_number : (word whole tail : List ℕ) → whole ≡ before_point word → tail ≡ behind_point word → is_number whole tail ≡ false → None ≡ length_of word
unfolding length_of
no_number word whole tail a b h = rw (sym a, sym b, h) refl

are_digits : (whole tail : List ℕ) → is_number whole tail ≡ true → list_all is_ascii_digit whole ≡ true
are_digits whole tail h = first (list_all is_ascii_digit whole) (list_all is_ascii_digit tail) (not (length whole == 0 && length tail == 0)) (zeros_behind tail) h
  where
    first : (a b c d : Bool) → (a && b && c && d) ≡ true → a ≡ true
    first a b c d e = (and_parts a b (and_parts (a && b) c (and_parts (a && b && c) d e).0).0).0

is_length : (whole tail : List ℕ) (n : ℕ) → is_number whole tail ≡ true → n ≡ whole_after 0 whole → value_of whole tail ≡ at_most (1000 * n + thousandths tail)
is_length whole tail n h e = rw (h, e, whole_is 0 whole (are_digits whole tail h)) refl

too_long : (nm : ℕ) → 1000000000 < nm → at_most nm ≡ None
too_long nm h = elim (cases_Bool (nat_le nm 1000000000)) [
  | inl le ↦ absurd (omega (arith, h, leb-true nm 1000000000 le))
  | inr gt ↦ rw gt refl
]

pub no_microns : (word whole tail : List ℕ) → whole ≡ before_point word → tail ≡ behind_point word → is_number whole tail ≡ true → 1000000 < whole_after 0 whole → None ≡ length_of word
unfolding length_of
no_microns word whole tail a b h many = rw (sym a, sym b) (sym (is_length whole tail (whole_after 0 whole) h refl ∙ too_long (1000 * whole_after 0 whole + thousandths tail) (omega (arith, many))))

pub large : (word whole tail : List ℕ) (n : ℕ) → whole ≡ before_point word → tail ≡ behind_point word → is_number whole tail ≡ true → n ≡ whole_after 0 whole → 1000000000 < 1000 * n + thousandths tail → None ≡ length_of word
unfolding length_of
large word whole tail n a b h e most = rw (sym a, sym b) (sym (is_length whole tail n h e ∙ too_long (1000 * n + thousandths tail) most))

pub small : (word whole tail : List ℕ) (n t : ℕ) → whole ≡ before_point word → tail ≡ behind_point word → is_number whole tail ≡ true → n ≡ whole_after 0 whole → t ≡ thousandths tail → 1000 * n + t ≤ 1000000000 → Some (1000 * n + t) ≡ length_of word
unfolding length_of
small word whole tail n t a b h e f most = rw (sym a, sym b, f) (sym (is_length whole tail n h e ∙ few (1000 * n + thousandths tail) (omega (arith, most, f))))
  where
    few : (nm : ℕ) → nm ≤ 1000000000 → at_most nm ≡ Some nm
    few nm le = rw (le-leb nm 1000000000 le) refl

pub ruleset length_rules = (no_number, no_microns, large, small)
