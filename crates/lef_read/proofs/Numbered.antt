-- The sides of a rectangle, number by number.
use Rattle.std.proofs.Common.{ℕ, ℤ, ◌≡◌, ◌&&◌, Bool, true, false, List, int_lt, refl, arith}
use Rattle.std.specs.Prelude.{Ok, Err, ◌≤ℤ◌, ◌<ℤ◌}
use Rattle.std.proofs.lemmas.Int.{ints}
use Rattle.lef_read.specs.Tokens.{Token}
use Rattle.lef_read.specs.Statements.{number_in, rect_of}
use Rattle.lef_read.specs.declared.fault.LefFault.TheVariants.{Number}

not_less : (a b : ℤ) → b ≤ℤ a → int_lt a b ≡ false
not_less a b h = by (int_lt a b) refl
  where
    by : (c : Bool) → int_lt a b ≡ c → int_lt a b ≡ false
    by false e = e
    by true e = absurd (omega (arith, ints, e, h))

less : (a b : ℤ) → a <ℤ b → int_lt a b ≡ true
less a b h = grind (arith, ints)

no_width : (a : Bool) → (false && a) ≡ false
no_width a = refl

no_height : (a : Bool) → (a && false) ≡ false
no_height true = refl
no_height false = refl

pub flat : (line : ℕ) (t0 t1 t2 t3 t4 : List Token) (x1 y1 x2 y2 : ℤ) → number_in t0 ≡ Ok (x1, t1) → number_in t1 ≡ Ok (y1, t2) → number_in t2 ≡ Ok (x2, t3) → number_in t3 ≡ Ok (y2, t4) → x2 ≤ℤ x1 → rect_of line t0 ≡ Err (Number line)
flat line t0 t1 t2 t3 t4 x1 y1 x2 y2 a b c d h = rw (a, b, c, d, not_less x1 x2 h) refl

pub low : (line : ℕ) (t0 t1 t2 t3 t4 : List Token) (x1 y1 x2 y2 : ℤ) → number_in t0 ≡ Ok (x1, t1) → number_in t1 ≡ Ok (y1, t2) → number_in t2 ≡ Ok (x2, t3) → number_in t3 ≡ Ok (y2, t4) → y2 ≤ℤ y1 → rect_of line t0 ≡ Err (Number line)
low line t0 t1 t2 t3 t4 x1 y1 x2 y2 a b c d h = rw (a, b, c, d, not_less y1 y2 h, no_height (int_lt x1 x2)) refl

pub whole : (line : ℕ) (t0 t1 t2 t3 t4 : List Token) (x1 y1 x2 y2 : ℤ) → number_in t0 ≡ Ok (x1, t1) → number_in t1 ≡ Ok (y1, t2) → number_in t2 ≡ Ok (x2, t3) → number_in t3 ≡ Ok (y2, t4) → x1 <ℤ x2 → y1 <ℤ y2 → rect_of line t0 ≡ Ok (record { x1 = x1; y1 = y1; x2 = x2; y2 = y2 }, t4)
whole line t0 t1 t2 t3 t4 x1 y1 x2 y2 a b c d g h = rw (a, b, c, d, less x1 x2 g, less y1 y2 h) refl
