-- The name of a generated cell is one word in lower case, and no other cell's.
use Rattle.std.specs.Prelude.{ℕ, ◌≡◌, ◌≢◌, ◌<◌, ◌≤◌, ◌^◌, ◌==◌, ◌&&◌, nat_le, Bool, true, false, List, [], ◌∷◌, bytes_eq, decimal, drop, length, All, IsTrue}
use Rattle.std.specs.Char.{to_ascii_lowercase}
use Rattle.std.specs.List.{list_all}
use Rattle.std.proofs.Common.{refl, ap, arith}
use Rattle.std.proofs.lemmas.Bool.{and_from, and_parts, eqb-true, false_from_ne_true, le-leb, leb-true}
use Rattle.std.proofs.lemmas.Fmt.{decimal_injective, length-decimal-le}
use Rattle.std.proofs.lemmas.List.Elements.{All-cons, All-nil}
use Rattle.std.proofs.lemmas.Slice.Eq.{bytes_eq-Decides}
use Rattle.cell_num.specs.Names.{lowered, is_cell, is_cell_byte}
use Rattle.bench_command.specs.Text.{cell_name}
use Rattle.bench_command.specs.Read.{IsCellName}
use Rattle.bench_command.proofs.Digits.{digits_pass}
use Rattle.bench_command.proofs.Head.{is_dark, no_equals}
use Rattle.bench_command.proofs.Lines.{is_kept}

pub name_kept : (cell : ℕ) → list_all is_kept (cell_name cell) ≡ true
name_kept cell = digits_pass is_kept refl cell

pub name_dark : (cell : ℕ) → list_all is_dark (cell_name cell) ≡ true
name_dark cell = digits_pass is_dark refl cell

pub name_free : (cell : ℕ) → list_all no_equals (cell_name cell) ≡ true
name_free cell = digits_pass no_equals refl cell

abbrev is_low : ℕ → Bool
is_low b = to_ascii_lowercase b == b

all_low : (text : List ℕ) → list_all is_low text ≡ true → lowered text ≡ text
all_low [] h = refl
all_low (b ∷ bs) h =
    let parts = and_parts (is_low b) (list_all is_low bs) h in
    rw (eqb-true (to_ascii_lowercase b) b parts.0, all_low bs parts.1) refl

pub name_low : (cell : ℕ) → lowered (cell_name cell) ≡ cell_name cell
name_low cell = all_low (cell_name cell) (digits_pass is_low refl cell)

abbrev is_printable : ℕ → Bool
is_printable b = nat_le 33 b && nat_le b 126

all_printable : (text : List ℕ) → list_all is_printable text ≡ true → All (λ byte. (33 ≤ byte) × (byte ≤ 126)) text
all_printable [] h = All-nil (λ byte. (33 ≤ byte) × (byte ≤ 126))
all_printable (b ∷ bs) h =
    let parts = and_parts (is_printable b) (list_all is_printable bs) h in
    let both = and_parts (nat_le 33 b) (nat_le b 126) parts.0 in
    All-cons (λ byte. (33 ≤ byte) × (byte ≤ 126)) b bs (leb-true 33 b both.0, leb-true b 126 both.1) (all_printable bs parts.1)

pub name_fits : (cell : ℕ) → cell < 2 ^ 64 → IsCellName (cell_name cell)
name_fits cell small =
    let few : length (decimal cell) ≤ 20 = length-decimal-le 20 cell (omega arith) (omega (arith, small)) small in
    record { some = omega arith; few = omega (arith, few); printable = all_printable (cell_name cell) (digits_pass is_printable refl cell) }

pub name_is_cell : (cell : ℕ) → cell < 2 ^ 64 → IsTrue (is_cell (cell_name cell))
name_is_cell cell small =
    let fits = name_fits cell small in
    let some : nat_le 1 (length (cell_name cell)) ≡ true = le-leb 1 (length (cell_name cell)) fits.some in
    let few : nat_le (length (cell_name cell)) 32 ≡ true = le-leb (length (cell_name cell)) 32 (omega (arith, fits.few)) in
    and_from (nat_le 1 (length (cell_name cell)) && nat_le (length (cell_name cell)) 32) (list_all is_cell_byte (cell_name cell))
    (and_from (nat_le 1 (length (cell_name cell))) (nat_le (length (cell_name cell)) 32) some few) (digits_pass is_cell_byte refl cell)

pub names_differ : (one other : ℕ) → one < 2 ^ 64 → other < 2 ^ 64 → one ≢ other → bytes_eq (cell_name one) (cell_name other) ≡ false
names_differ one other first second differ =
    false_from_ne_true (bytes_eq (cell_name one) (cell_name other)) (λ same. differ (decimal_injective one other first second (ap (drop 1) ((bytes_eq-Decides (cell_name one) (cell_name other)).0 same))))

pub name_same : (cell : ℕ) → bytes_eq (cell_name cell) (cell_name cell) ≡ true
name_same cell = (bytes_eq-Decides (cell_name cell) (cell_name cell)).1 refl
