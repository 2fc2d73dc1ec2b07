-- The tally of cells, and of one more.
use Rattle.std.proofs.Common.{ℕ, zero, suc, ◌≡◌, ◌+◌, List, [], ◌∷◌, ◌++◌, Some, length, slice_get, refl, sym, ap, subst, arith, ◌∙◌, inl, inr, ◌⊎◌, length-append}
use Rattle.std.proofs.lemmas.List.Sums.{fold-append}
use Rattle.cell_num.proofs.Lists.{some_same}
use Rattle.bench_command.specs.declared.tally.Tally.{Tally}
use Rattle.bench_command.specs.Bench.{AreCellsOf, BenchCell, IsBenchCell, IsCountOf, IsTallyOf, counted_of, tally_of}
use Rattle.bench_command.specs.Tally.{AreAllEnded, IsWithin, added, nothing}

-- where one of a list and one more stands
one_more : {X : Type 0} (xs : List X) (last : X) (n : ℕ) (x : X) → slice_get (xs ++ last ∷ []) n ≡ Some x → (slice_get xs n ≡ Some x) ⊎ ((length xs ≡ n) × (last ≡ x))
one_more [] last zero x e = inr (refl, some_same last x e)
one_more [] last (suc n) x e = absurd cc
one_more (y ∷ ys) last zero x e = inl e
one_more (y ∷ ys) last (suc n) x e = elim (one_more ys last n x e) [
  | inl there ↦ inl there
  | inr here ↦ inr (ap suc here.0, here.1)
]

cells_more : (text : List ℕ) (number : ℕ) (cells : List BenchCell) (one : BenchCell) → AreCellsOf text number cells → IsBenchCell text number one → AreCellsOf text (number + 1) (cells ++ one ∷ [])
cells_more text number cells one are is = record {
  many = omega (arith, length-append cells (one ∷ []), are.many);
  each = λ cell x there. elim (one_more cells one cell x there) [
    | inl before ↦ are.each cell x before
    | inr last ↦ subst (IsBenchCell text cell) last.1 (subst (λ (n : ℕ). IsBenchCell text n one) (sym are.many ∙ last.0) is)
  ];
}

tally_more : (cells : List BenchCell) (one : BenchCell) → tally_of (cells ++ one ∷ []) ≡ added (tally_of cells) (counted_of one)
tally_more cells one = fold-append (λ tally x. added tally (counted_of x)) nothing cells (one ∷ [])

pub tallied_more : (text : List ℕ) (number : ℕ) (tally one new : Tally) → IsTallyOf text number tally → IsCountOf text number one → new ≡ added tally one → IsTallyOf text (number + 1) new
tallied_more text number tally one new (cells, are, sum) (cell, is, counts) e =
    (cells ++ cell ∷ [], cells_more text number cells cell are is, e ∙ (ap (λ (t : Tally). added t one) sum ∙ (ap (added (tally_of cells)) counts ∙ sym (tally_more cells cell))))

pub ended_more : (number : ℕ) (tally one new : Tally) → AreAllEnded number tally → AreAllEnded 1 one → new ≡ added tally one → AreAllEnded (number + 1) new
ended_more number tally one new old ended e = subst (AreAllEnded (number + 1)) (sym e) (record {
  none_unfinished = omega (arith, old.none_unfinished, ended.none_unfinished);
  sum = omega (arith, old.sum, ended.sum);
})

pub within_more : (number : ℕ) (tally one new : Tally) → IsWithin number tally → IsWithin 1 one → new ≡ added tally one → IsWithin (number + 1) new
within_more number tally one new old few e = subst (IsWithin (number + 1)) (sym e) (record {
  made = omega (arith, old.made, few.made);
  cycles = omega (arith, old.cycles, few.cycles);
  unfinished = omega (arith, old.unfinished, few.unfinished);
  columns = omega (arith, old.columns, few.columns);
  gaps = omega (arith, old.gaps, few.gaps);
  fingers = omega (arith, old.fingers, few.fingers);
  bytes = omega (arith, old.bytes, few.bytes);
})
