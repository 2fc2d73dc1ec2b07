-- The names of nets in a row: a numbered name is that of one net of one cell, and no rail's.
use Rattle.std.proofs.Common.{◌≡◌, ◌&&◌, ◌||◌, ℕ, ◌<◌, ◌^◌, Bool, true, false, List, [], ◌∷◌, ◌++◌, arith, inl, inr, ◌⊎◌, refl, sym, subst, ap, ◌∙◌}
use Rattle.std.specs.Prelude.{bytes_eq, decimal, drop, get_or, nat_le, length, IsTrue}
use Rattle.std.specs.List.{list_all}
use Rattle.std.specs.Str.Parse.{AllDigits}
use Rattle.std.proofs.lemmas.Bool.{false≢true}
use Rattle.std.proofs.lemmas.List.{append_assoc}
use Rattle.std.proofs.lemmas.Fmt.{decimal_is_IsNumeral, decimal_injective}
use Rattle.std.proofs.lemmas.Slice.Eq.{bytes_eq-Decides}
use Rattle.std.proofs.lemmas.Str.Parse.{tells_digits}
use Rattle.cell_num.specs.Names.{is_name, is_name_byte, most_bytes}
use Rattle.row_abut.specs.Row.{Standing, is_rail, numbered_name, vdd_name, gnd_name}
use Rattle.row_abut.specs.Circuit.{name_in_row}
use Rattle.row_abut.specs.declared.cell.RowCell.{RowCell}
use Rattle.row_abut.proofs.Beside.{Side, low, high}

-- none of the bytes is the mark behind a number
abbrev pub HasNoMark : List ℕ → Type 0
HasNoMark [] = Unit {0}
HasNoMark (c ∷ cs) = (c ≡ 35 → ⊥) × HasNoMark cs

digits_unmarked : (w : List ℕ) → AllDigits 10 w → HasNoMark w
digits_unmarked [] h = tt
digits_unmarked (c ∷ w) h = let p = tells_digits.parts c w h in let least = p.0.0 in (λ e. omega (arith, e, least), digits_unmarked w p.1)

decimal_unmarked : (n : ℕ) → n < 2 ^ 64 → HasNoMark (decimal n)
decimal_unmarked n small = digits_unmarked (decimal n) (decimal_is_IsNumeral n small).0.1

both_true : (a b : Bool) → (a && b) ≡ true → (a ≡ true) × (b ≡ true)
both_true true b e = (refl, e)
both_true false b e = absurd (false≢true e)

bytes_unmarked : (w : List ℕ) → list_all is_name_byte w ≡ true → HasNoMark w
bytes_unmarked [] e = tt
bytes_unmarked (c ∷ w) e =
    let k = both_true (is_name_byte c) (list_all is_name_byte w) e in
    (λ f. false≢true (subst (λ b. is_name_byte b ≡ true) f k.0), bytes_unmarked w k.1)

pub name_unmarked : (w : List ℕ) → IsTrue (is_name w) → HasNoMark w
name_unmarked w e = bytes_unmarked w (both_true (nat_le 1 (length w) && nat_le (length w) most_bytes) (list_all is_name_byte w) e).1

marked : (xs ys : List ℕ) → HasNoMark (xs ++ 35 ∷ ys) → ⊥
marked [] ys h = h.0 refl
marked (x ∷ xs) ys h = marked xs ys h.1

head_same : (a b : ℕ) (xs ys : List ℕ) → a ∷ xs ≡ b ∷ ys → a ≡ b
head_same a b xs ys e = ap (λ l. get_or l 0 0) e

tail_same : (a b : ℕ) (xs ys : List ℕ) → a ∷ xs ≡ b ∷ ys → xs ≡ ys
tail_same a b xs ys e = ap (drop 1) e

-- texts that are parted by their first mark
split : (xs ys us vs : List ℕ) → HasNoMark xs → HasNoMark ys → xs ++ 35 ∷ us ≡ ys ++ 35 ∷ vs → (xs ≡ ys) × (us ≡ vs)
split [] [] us vs h k e = (refl, tail_same 35 35 us vs e)
split [] (y ∷ ys) us vs h k e = absurd (k.0 (sym (head_same 35 y us (ys ++ 35 ∷ vs) e)))
split (x ∷ xs) [] us vs h k e = absurd (h.0 (head_same x 35 (xs ++ 35 ∷ us) vs e))
split (x ∷ xs) (y ∷ ys) us vs h k e =
    let first = head_same x y (xs ++ 35 ∷ us) (ys ++ 35 ∷ vs) e in
    let rest = split xs ys us vs h.1 k.1 (tail_same x y (xs ++ 35 ∷ us) (ys ++ 35 ∷ vs) e) in
    let same = rest.0 in
    (cc (first, same), rest.1)

numbered : (k : ℕ) (n : List ℕ) → numbered_name k n ≡ decimal k ++ 35 ∷ n
numbered k n = append_assoc (decimal k) (35 ∷ []) n

pub numbered_apart : (k j : ℕ) (n m : List ℕ) → k < 2 ^ 64 → j < 2 ^ 64 → numbered_name k n ≡ numbered_name j m → (k ≡ j) × (n ≡ m)
numbered_apart k j n m small few e =
    let s = split (decimal k) (decimal j) n m (decimal_unmarked k small) (decimal_unmarked j few) (sym (numbered k n) ∙ (e ∙ numbered j m)) in
    (decimal_injective k j small few s.0, s.1)

pub numbered_marked : (k : ℕ) (n m : List ℕ) → HasNoMark m → numbered_name k n ≡ m → ⊥
numbered_marked k n m h e = marked (decimal k) n (subst HasNoMark (sym e ∙ numbered k n) h)

-- ---- rails keep their names
abbrev pub rail_name : RowCell → Side → List ℕ
rail_name c low = gnd_name c
rail_name c high = vdd_name c

pub rail_kept : (s : Standing) (name : List ℕ) → is_rail s.cell name ≡ true → name_in_row s name ≡ name
rail_kept s name e = rw e refl

pub signal_numbered : (s : Standing) (name : List ℕ) → is_rail s.cell name ≡ false → name_in_row s name ≡ numbered_name s.number name
signal_numbered s name e = rw e refl

either_true : (a b : Bool) → (a || b) ≡ true → (a ≡ true) ⊎ (b ≡ true)
either_true true b e = inl refl
either_true false b e = inr e

left_true : (a b : Bool) → a ≡ true → (a || b) ≡ true
left_true true b e = refl
left_true false b e = absurd (false≢true e)

right_true : (a b : Bool) → b ≡ true → (a || b) ≡ true
right_true true b e = refl
right_true false b e = e

pub rail_found : (c : RowCell) (name : List ℕ) → is_rail c name ≡ true → (side : Side) × (name ≡ rail_name c side)
rail_found c name e = elim (either_true (bytes_eq name (vdd_name c)) (bytes_eq name (gnd_name c)) e) [
  | inl v ↦ (high, (bytes_eq-Decides name (vdd_name c)).0 v)
  | inr g ↦ (low, (bytes_eq-Decides name (gnd_name c)).0 g)
]

pub rail_is : (c : RowCell) (side : Side) → is_rail c (rail_name c side) ≡ true
rail_is c low = right_true (bytes_eq (gnd_name c) (vdd_name c)) (bytes_eq (gnd_name c) (gnd_name c)) ((bytes_eq-Decides (gnd_name c) (gnd_name c)).1 refl)
rail_is c high = left_true (bytes_eq (vdd_name c) (vdd_name c)) (bytes_eq (vdd_name c) (gnd_name c)) ((bytes_eq-Decides (vdd_name c) (vdd_name c)).1 refl)
