-- Of two different rows only one precedes the other.
use Rattle.std.specs.Prelude.{ℕ, ◌≡◌, ◌⊎◌, true, List, [], ◌∷◌}
use Rattle.std.specs.Cmp.Lexicographic.{slice_cmp}
use Rattle.std.specs.declared.cmp.Ordering.TheVariants.{Less, Equal, Greater}
use Rattle.std.specs.Ordering.{is_lt, nat_cmp, ordering_reverse}
use Rattle.std.proofs.Common.{Ordering, sym, subst, inl, inr}
use Rattle.std.proofs.lemmas.Cmp.{nat_list_cmp_total}
use Rattle.row_model.specs.declared.column.Column.{Column}
use Rattle.row_state.specs.Order.{ColumnBefore, KeyBefore, RowBefore, column_key}

not_both : (o : Ordering) → is_lt (ordering_reverse o) ≡ true → is_lt o ≡ true → ⊥
not_both Less first second = cc
not_both Equal first second = cc
not_both Greater first second = cc

key_one_way : (a b : List ℕ) → KeyBefore a b → KeyBefore b a → ⊥
key_one_way a b first second = not_both (slice_cmp nat_cmp b a) (subst (λ (o : Ordering). is_lt o ≡ true) (nat_list_cmp_total.antisymm a b) first) second

row_one_way : (xs ys : List Column) → RowBefore xs ys → RowBefore ys xs → ⊥
row_one_way [] ys first second = first
row_one_way (a ∷ xs) [] first second = first
row_one_way (a ∷ xs) (b ∷ ys) (inl p) (inl q) = key_one_way (column_key a) (column_key b) p q
row_one_way (a ∷ xs) (b ∷ ys) (inl p) (inr q) = let self : KeyBefore (column_key b) (column_key b) = subst (λ (c : Column). ColumnBefore c b) (sym q.0) p in key_one_way (column_key b) (column_key b) self self
row_one_way (a ∷ xs) (b ∷ ys) (inr p) (inl q) = let self : KeyBefore (column_key a) (column_key a) = subst (λ (c : Column). ColumnBefore c a) (sym p.0) q in key_one_way (column_key a) (column_key a) self self
row_one_way (a ∷ xs) (b ∷ ys) (inr p) (inr q) = row_one_way xs ys p.1 q.1

-- rows that come first by turns are the same
pub one_row : (a b : List Column) → (a ≡ b) ⊎ RowBefore a b → (b ≡ a) ⊎ RowBefore b a → a ≡ b
one_row a b (inl e) q = e
one_row a b (inr p) (inl e) = sym e
one_row a b (inr p) (inr q) = absurd (row_one_way a b p q)
