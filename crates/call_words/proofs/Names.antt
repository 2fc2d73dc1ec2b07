-- The lower case of a cell's name is the name of a cell; names that are the same in lower case.
use Rattle.std.proofs.Common.{ℕ, Bool, List, [], ◌∷◌, ◌≡◌, ◌≤◌, ◌+◌, ◌↔◌, ◌&&◌, true, false, IsTrue, refl, sym, length, map, nat_le, not, bytes_eq, string_bytes, String, inl, inr, arith}
use Rattle.std.specs.List.{list_all}
use Rattle.std.specs.Char.{to_ascii_lowercase}
use Rattle.std.proofs.lemmas.Bool.{and_from, and_parts, cases_lt, le-leb, leb-true}
use Rattle.std.proofs.lemmas.List.{length-map}
use Rattle.std.proofs.lemmas.List.Folds.{list_all-map}
use Rattle.std.proofs.lemmas.Slice.Eq.{bytes_eq-Decides}
use Rattle.std.specs.declared.alloc.Global.{Global}
use Rattle.call_words.specs.Asked.{texts}
use Rattle.std.proofs.lemmas.Str.Ascii.{lowercase_is}
use Rattle.cell_num.specs.Names.{lowered, is_cell, is_cell_byte}

low_letter : (byte : ℕ) → 97 ≤ byte → byte ≤ 122 → is_cell_byte byte ≡ true
low_letter byte least most = rw (le-leb 97 byte least, le-leb byte 122 most) refl

lower_byte : (byte : ℕ) → is_cell_byte byte ≡ true → is_cell_byte (to_ascii_lowercase byte) ≡ true
lower_byte byte is = elim (cases_lt byte 65) [
  | inl below ↦ rw ((lowercase_is byte).1 below) is
  | inr least ↦ elim (cases_lt 90 byte) [
    | inl above ↦ rw ((lowercase_is byte).2 above) is
    | inr most ↦
        let raised : to_ascii_lowercase byte ≡ byte + 32 = (lowercase_is byte).0 (omega (arith, least), omega (arith, most)) in
        rw raised (low_letter (byte + 32) (omega (arith, least)) (omega (arith, most)))
  ]
]

all_lower : (bytes : List ℕ) → list_all is_cell_byte bytes ≡ true → list_all is_cell_byte (lowered bytes) ≡ true
all_lower [] h = refl
all_lower (byte ∷ bytes) h =
    let (first, rest) = and_parts (is_cell_byte byte) (list_all is_cell_byte bytes) h in
    and_from (is_cell_byte (to_ascii_lowercase byte)) (list_all is_cell_byte (lowered bytes)) (lower_byte byte first) (all_lower bytes rest)

pub lower_name : (name : List ℕ) → IsTrue (is_cell name) → IsTrue (is_cell (lowered name))
lower_name name h =
    let (sized, bytes) = and_parts (nat_le 1 (length name) && nat_le (length name) 32) (list_all is_cell_byte name) h in
    let (least, most) = and_parts (nat_le 1 (length name)) (nat_le (length name) 32) sized in
    let same : length (lowered name) ≡ length name = length-map name to_ascii_lowercase in
    let some : nat_le 1 (length (lowered name)) ≡ true = le-leb 1 (length (lowered name)) (omega (arith, same, leb-true 1 (length name) least)) in
    let few : nat_le (length (lowered name)) 32 ≡ true = le-leb (length (lowered name)) 32 (omega (arith, same, leb-true (length name) 32 most)) in
    and_from (nat_le 1 (length (lowered name)) && nat_le (length (lowered name)) 32) (list_all is_cell_byte (lowered name))
    (and_from (nat_le 1 (length (lowered name))) (nat_le (length (lowered name)) 32) some few) (all_lower name bytes)

pub same_name : (same : Bool) (one other : List ℕ) → (IsTrue same ↔ (map to_ascii_lowercase one ≡ map to_ascii_lowercase other)) → same ≡ bytes_eq (lowered one) (lowered other)
same_name true one other is = sym ((bytes_eq-Decides (lowered one) (lowered other)).1 (is.0 refl))
same_name false one other is = by (bytes_eq (lowered one) (lowered other)) refl
  where
    by : (b : Bool) → bytes_eq (lowered one) (lowered other) ≡ b → false ≡ b
    by false e = refl
    by true e = let clash : IsTrue false = is.1 ((bytes_eq-Decides (lowered one) (lowered other)).0 e) in cc

pub all_cells : (cells : List (String Global)) → list_all is_cell (texts cells) ≡ list_all (λ cell. is_cell (string_bytes cell)) cells
all_cells cells = list_all-map is_cell string_bytes cells

pub all_others : (top : List ℕ) (cells : List (String Global)) → list_all (λ cell. not (bytes_eq (lowered cell) (lowered top))) (texts cells) ≡ list_all (λ cell. not (bytes_eq (lowered (string_bytes cell)) (lowered top))) cells
all_others top cells = list_all-map (λ (cell : List ℕ). not (bytes_eq (lowered cell) (lowered top))) string_bytes cells

pub as_many : (cells : List (String Global)) → length (texts cells) ≡ length cells
as_many cells = length-map cells string_bytes
