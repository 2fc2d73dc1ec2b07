-- The different cells of a row: each of them is the first of its name.
use Rattle.std.proofs.Common.{ℕ, ◌≡◌, ◌≢◌, ◌⊎◌, ◌||◌, List, [], ◌∷◌, ◌++◌, All, AllPairs, Contains, true, false, Bool, if◌then◌else◌, refl, sym, ap, subst, ◌∙◌, inl, inr}
use Rattle.std.specs.Prelude.{bytes_eq}
use Rattle.std.proofs.lemmas.List.Folds.{list_any-append}
use Rattle.std.proofs.lemmas.Slice.Eq.{bytes_eq-Decides}
use Rattle.cell_num.proofs.Lists.{all_from_contains, all_one, contains_cons, contains_here, contains_none, contains_there}
use Rattle.cell_num.proofs.Pairs.{pairs_append, pairs_none, pairs_one}
use Rattle.row_abut.specs.Structs.{first_uses, has_name}
use Rattle.row_abut.specs.declared.cell.RowCell.{RowCell}

-- ---- one name more

none_left : (x y : Bool) → (x || y) ≡ false → x ≡ false
none_left true y e = cc
none_left false y e = refl

none_right : (x y : Bool) → (x || y) ≡ false → y ≡ false
none_right true y e = cc
none_right false y e = e

one_of : (x y : Bool) → (x || y) ≡ true → (x ≡ true) ⊎ (y ≡ true)
one_of true y e = inl refl
one_of false y e = inr e

pushed : (before : List RowCell) (c : RowCell) (name : List ℕ) → has_name (before ++ c ∷ []) name ≡ (has_name before name || (bytes_eq c.name name || false))
pushed before c name = list_any-append (λ (x : RowCell). bytes_eq x.name name) before (c ∷ [])

new_before : (before : List RowCell) (c : RowCell) (name : List ℕ) → has_name (before ++ c ∷ []) name ≡ false → has_name before name ≡ false
new_before before c name e = none_left (has_name before name) (bytes_eq c.name name || false) (sym (pushed before c name) ∙ e)

new_beside : (before : List RowCell) (c : RowCell) (name : List ℕ) → has_name (before ++ c ∷ []) name ≡ false → c.name ≢ name
new_beside before c name e same =
    let other : bytes_eq c.name name ≡ false = none_left (bytes_eq c.name name) false (none_right (has_name before name) (bytes_eq c.name name || false) (sym (pushed before c name) ∙ e)) in
    let also : bytes_eq c.name name ≡ true = (bytes_eq-Decides c.name name).1 same in
    cc

known : (before : List RowCell) (c : RowCell) (name : List ℕ) → has_name (before ++ c ∷ []) name ≡ true → (has_name before name ≡ true) ⊎ (c.name ≡ name)
known before c name e = elim (one_of (has_name before name) (bytes_eq c.name name || false) (sym (pushed before c name) ∙ e)) [
  | inl old ↦ inl old
  | inr here ↦ elim (one_of (bytes_eq c.name name) false here) [
    | inl same ↦ inr ((bytes_eq-Decides c.name name).0 same)
    | inr never ↦ cc
  ]
]

-- ---- the first uses

-- one of the cells, whose name is none of those before
pub of_cells : (before cells : List RowCell) (d : RowCell) → Contains (first_uses before cells) d → Contains cells d × (has_name before d.name ≡ false)
of_cells before [] d there = absurd (contains_none d there)
of_cells before (c ∷ cs) d there = by (has_name before c.name) refl (of_cells (before ++ c ∷ []) cs d) there
  where
    later : Contains cs d × (has_name (before ++ c ∷ []) d.name ≡ false) → Contains (c ∷ cs) d × (has_name before d.name ≡ false)
    later (is, new) = (contains_there c cs d is, new_before before c d.name new)

    by : (b : Bool) → has_name before c.name ≡ b → (Contains (first_uses (before ++ c ∷ []) cs) d → Contains cs d × (has_name (before ++ c ∷ []) d.name ≡ false)) → Contains (if b then first_uses (before ++ c ∷ []) cs else c ∷ first_uses (before ++ c ∷ []) cs) d → Contains (c ∷ cs) d × (has_name before d.name ≡ false)
    by true old more inside = later (more inside)
    by false new more inside = elim (contains_cons c (first_uses (before ++ c ∷ []) cs) d inside) [
      | inl same ↦ subst (λ (z : RowCell). Contains (c ∷ cs) z × (has_name before z.name ≡ false)) same (contains_here c cs, new)
      | inr behind ↦ later (more behind)
    ]

abbrev pub HaveOtherNames : RowCell → RowCell → Type 0
HaveOtherNames a b = a.name ≢ b.name

pub all_differ : (before cells : List RowCell) → AllPairs HaveOtherNames (first_uses before cells)
all_differ before [] = pairs_none HaveOtherNames
all_differ before (c ∷ cs) = by (has_name before c.name) (all_differ (before ++ c ∷ []) cs)
  where
    by : (b : Bool) → AllPairs HaveOtherNames (first_uses (before ++ c ∷ []) cs) → AllPairs HaveOtherNames (if b then first_uses (before ++ c ∷ []) cs else c ∷ first_uses (before ++ c ∷ []) cs)
    by true more = more
    by false more =
        pairs_append HaveOtherNames (c ∷ []) (first_uses (before ++ c ∷ []) cs) (pairs_one HaveOtherNames c) more
        (all_one (λ a. All (HaveOtherNames a) (first_uses (before ++ c ∷ []) cs)) c (all_from_contains (HaveOtherNames c) (first_uses (before ++ c ∷ []) cs) (λ d there. new_beside before c d.name (of_cells (before ++ c ∷ []) cs d there).1)))

record IsUsed (uses : List RowCell) (name : List ℕ) : Type 0 where
  cell : RowCell
  there : Contains uses cell
  named : cell.name ≡ name

-- a name of a cell is one of those before, or of a first use
name_used : (before cells : List RowCell) (c : RowCell) → Contains cells c → (has_name before c.name ≡ true) ⊎ IsUsed (first_uses before cells) c.name
name_used before [] c there = absurd (contains_none c there)
name_used before (x ∷ xs) c there = by (has_name before x.name) refl (name_used (before ++ x ∷ []) xs c) (contains_cons x xs c there)
  where
    by : (b : Bool) → has_name before x.name ≡ b → (Contains xs c → (has_name (before ++ x ∷ []) c.name ≡ true) ⊎ IsUsed (first_uses (before ++ x ∷ []) xs) c.name) → (x ≡ c) ⊎ Contains xs c → (has_name before c.name ≡ true) ⊎ IsUsed (if b then first_uses (before ++ x ∷ []) xs else x ∷ first_uses (before ++ x ∷ []) xs) c.name
    by true old more (inl same) = inl (subst (λ (z : RowCell). has_name before z.name ≡ true) same old)
    by true old more (inr later) = elim (more later) [
      | inr used ↦ inr used
      | inl has ↦ elim (known before x c.name has) [
        | inl there ↦ inl there
        | inr named ↦ inl (subst (λ name. has_name before name ≡ true) named old)
      ]
    ]
    by false new more (inl same) = inr (record { cell = x; there = contains_here x (first_uses (before ++ x ∷ []) xs); named = ap (λ (z : RowCell). z.name) same })
    by false new more (inr later) = elim (more later) [
      | inr used ↦ inr (record { cell = used.cell; there = contains_there x (first_uses (before ++ x ∷ []) xs) used.cell used.there; named = used.named })
      | inl has ↦ elim (known before x c.name has) [
        | inl there ↦ inl there
        | inr named ↦ inr (record { cell = x; there = contains_here x (first_uses (before ++ x ∷ []) xs); named = named })
      ]
    ]

-- a cell that is alone with its name is a first use
pub is_use : (cells : List RowCell) (c : RowCell) → ((d : RowCell) → Contains cells d → d.name ≡ c.name → d ≡ c) → Contains cells c → Contains (first_uses [] cells) c
is_use cells c alone there = elim (name_used [] cells c there) [
  | inl has ↦ cc
  | inr used ↦ subst (λ z. Contains (first_uses [] cells) z) (alone used.cell (of_cells [] cells used.cell used.there).0 used.named) used.there
]
