-- The names of a row and of its cells in lower case.
use Rattle.std.proofs.Common.{ℕ, ◌≡◌, ◌≢◌, ◌≤◌, ◌&&◌, true, not, nat_le, bytes_eq, string_bytes, String, List, [], ◌∷◌, map, length, All, IsTrue, refl, ap, arith}
use Rattle.std.specs.List.{list_all}
use Rattle.std.proofs.lemmas.Bool.{and_parts, leb-true, not-true}
use Rattle.std.proofs.lemmas.List.{length-map}
use Rattle.std.proofs.lemmas.List.Elements.{All-map, All-weaker}
use Rattle.std.proofs.lemmas.List.Sums.{AllPass-from_list_all}
use Rattle.std.proofs.lemmas.Slice.Eq.{bytes_eq-Decides}
use Rattle.cell_num.specs.Names.{is_cell, lowered}
use Rattle.std.specs.declared.alloc.Global.{Global}
use Rattle.call_words.specs.Asked.{are_row_cells, is_top, texts}
use Rattle.call_words.proofs.Names.{lower_name}

pub record AreLowered (top : List ℕ) (names : List (List ℕ)) : Type 0 where
  pub cells : All (λ name. IsTrue (is_cell name)) names
  pub some : 2 ≤ length names
  pub few : length names ≤ 16
  pub apart : All (λ name. name ≢ lowered top) names

pub top_name : (top : List ℕ) (cells : List (List ℕ)) → IsTrue (is_top top cells) → IsTrue (is_cell (lowered top))
top_name top cells h = lower_name top (and_parts (is_cell top) (list_all (λ cell. not (bytes_eq (lowered cell) (lowered top))) cells) h).0

pub lowered_so : (top : List ℕ) (cells : List (List ℕ)) → IsTrue (is_top top cells) → IsTrue (are_row_cells cells) → AreLowered top (map lowered cells)
lowered_so top cells is are =
    let (sized, each) = and_parts (nat_le 2 (length cells) && nat_le (length cells) 16) (list_all is_cell cells) are in
    let (least, most) = and_parts (nat_le 2 (length cells)) (nat_le (length cells) 16) sized in
    let apart = (and_parts (is_cell top) (list_all (λ cell. not (bytes_eq (lowered cell) (lowered top))) cells) is).1 in
    record {
      cells = All-map (λ name. IsTrue (is_cell name)) lowered cells (All-weaker (λ cell. is_cell cell ≡ true) (λ cell. IsTrue (is_cell (lowered cell))) (λ cell h. lower_name cell h) cells (AllPass-from_list_all is_cell cells each));
      some = omega (arith, length-map cells lowered, leb-true 2 (length cells) least);
      few = omega (arith, length-map cells lowered, leb-true (length cells) 16 most);
      apart = All-map (λ name. name ≢ lowered top) lowered cells (All-weaker (λ cell. not (bytes_eq (lowered cell) (lowered top)) ≡ true) (λ cell. lowered cell ≢ lowered top) other cells (AllPass-from_list_all (λ cell. not (bytes_eq (lowered cell) (lowered top))) cells apart));
    }
  where
    other : (cell : List ℕ) → not (bytes_eq (lowered cell) (lowered top)) ≡ true → lowered cell ≢ lowered top
    other cell h same =
        let differs = not-true (bytes_eq (lowered cell) (lowered top)) h in
        let also : bytes_eq (lowered cell) (lowered top) ≡ true = (bytes_eq-Decides (lowered cell) (lowered top)).1 same in
        cc

pub map_texts : (words : List (String Global)) → map (λ word. lowered (string_bytes word)) words ≡ map lowered (texts words)
map_texts [] = refl
map_texts (word ∷ words) = ap (λ names. lowered (string_bytes word) ∷ names) (map_texts words)
