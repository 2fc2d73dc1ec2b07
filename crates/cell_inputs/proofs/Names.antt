-- The name of a cell stands in a line, and no byte of it is zero.
use Rattle.std.proofs.Common.{ℕ, List, ◌≡◌, ◌≢◌, ◌≤◌, ◌&&◌, true, false, IsTrue, All, refl, subst, length, nat_le}
use Rattle.std.specs.List.{list_all}
use Rattle.std.proofs.lemmas.Bool.{and_parts, leb-true}
use Rattle.std.proofs.lemmas.List.Elements.{All-weaker}
use Rattle.std.proofs.lemmas.List.Sums.{AllPass-from_list_all}
use Rattle.cell_num.specs.Names.{is_cell, is_cell_byte}
use Rattle.bound_log.specs.Fits.{IsLogName}

record IsSpelled (name : List ℕ) : Type 0 where
  some : 1 ≤ length name
  few : length name ≤ 32
  bytes : list_all is_cell_byte name ≡ true

spelled : (name : List ℕ) → IsTrue (is_cell name) → IsSpelled name
spelled name h =
    let (sized, bytes) = and_parts (nat_le 1 (length name) && nat_le (length name) 32) (list_all is_cell_byte name) h in
    let (some, few) = and_parts (nat_le 1 (length name)) (nat_le (length name) 32) sized in
    record { some = leb-true 1 (length name) some; few = leb-true (length name) 32 few; bytes = bytes }

-- a byte that no cell's name has
lacks : (k : ℕ) (name : List ℕ) → is_cell_byte k ≡ false → IsTrue (is_cell name) → All (λ byte. byte ≢ k) name
lacks k name none h = All-weaker (λ byte. is_cell_byte byte ≡ true) (λ byte. byte ≢ k) differs name (AllPass-from_list_all is_cell_byte name (spelled name h).bytes)
  where
    differs : (byte : ℕ) → is_cell_byte byte ≡ true → byte ≢ k
    differs byte is e =
        let at : is_cell_byte k ≡ true = subst (λ b. is_cell_byte b ≡ true) e is in
        cc

pub log_name : (name : List ℕ) → IsTrue (is_cell name) → IsLogName name
log_name name h =
    let is = spelled name h in
    record { some = is.some; few = is.few; line = lacks 10 name refl h }

pub whole_name : (name : List ℕ) → IsTrue (is_cell name) → All (λ byte. byte ≢ 0) name
whole_name name h = lacks 0 name refl h
