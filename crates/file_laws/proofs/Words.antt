-- Names of cells and of nets are words of a text.
use Rattle.std.proofs.Common.{ℕ, ◌≡◌, ◌==◌, ◌&&◌, Bool, true, false, IsTrue, List, [], ◌∷◌, length, nat_le, refl, sym, subst, ◌∙◌, arith}
use Rattle.std.specs.List.{list_all}
use Rattle.std.proofs.lemmas.Bool.{and_parts, leb-true, ne_eqb}
use Rattle.cell_num.specs.Names.{is_cell, is_cell_byte, is_name, is_name_byte}
use Rattle.lef_read.specs.Tokens.{ends_word}
use Rattle.file_laws.specs.Drawn.{IsInWord, IsWord}

-- a test that a byte passes and another does not tells them apart
apart : (p : ℕ → Bool) (b k : ℕ) → p b ≡ true → p k ≡ false → (b == k) ≡ false
apart p b k is none = ne_eqb b k (λ e. wrong (sym (subst (λ z. p z ≡ true) e is) ∙ none))
  where
    wrong : true ≡ false → ⊥
    wrong e = cc

-- the test takes no byte that ends a word
record TakesNoEnd (p : ℕ → Bool) : Type 0 where
  blank : p 32 ≡ false
  line : p 10 ≡ false
  tab : p 9 ≡ false
  back : p 13 ≡ false
  down : p 11 ≡ false
  page : p 12 ≡ false
  mark : p 59 ≡ false
  quote : p 34 ≡ false
  remark : p 35 ≡ false

no_end : (p : ℕ → Bool) (b : ℕ) → TakesNoEnd p → p b ≡ true → ends_word b ≡ false
no_end p b n is =
    rw (apart p b 32 is n.blank, apart p b 10 is n.line, apart p b 9 is n.tab, apart p b 13 is n.back, apart p b 11 is n.down, apart p b 12 is n.page, apart p b 59 is n.mark, apart p b 34 is n.quote, apart p b 35 is n.remark) refl

in_word : (p : ℕ → Bool) (w : List ℕ) → TakesNoEnd p → list_all p w ≡ true → IsInWord w
in_word p [] n all = tt
in_word p (b ∷ bs) n all = let h = and_parts (p b) (list_all p bs) all in (no_end p b n h.0, in_word p bs n h.1)

word : (p : ℕ → Bool) (most : ℕ) (w : List ℕ) → TakesNoEnd p → ((nat_le 1 (length w) && nat_le (length w) most) && list_all p w) ≡ true → IsWord w
word p most w n h =
    let parts = and_parts (nat_le 1 (length w) && nat_le (length w) most) (list_all p w) h in
    let sized = and_parts (nat_le 1 (length w)) (nat_le (length w) most) parts.0 in
    record { some = omega (arith, leb-true 1 (length w) sized.0); all = in_word p w n parts.1 }

pub cell_word : (name : List ℕ) → IsTrue (is_cell name) → IsWord name
cell_word name h = word is_cell_byte 32 name (record { blank = refl; line = refl; tab = refl; back = refl; down = refl; page = refl; mark = refl; quote = refl; remark = refl }) h

pub name_word : (name : List ℕ) → IsTrue (is_name name) → IsWord name
name_word name h = word is_name_byte 64 name (record { blank = refl; line = refl; tab = refl; back = refl; down = refl; page = refl; mark = refl; quote = refl; remark = refl }) h
