-- One fault at most keeps cells from standing side by side.
use Rattle.std.proofs.Common.{ℕ, ◌≡◌, ◌+◌, List, Option, Some, None, sym, ap, ◌∙◌}
use Rattle.cell_num.proofs.Lists.{some_same}
use Rattle.row_abut.specs.Faults.{ClashInChannel, DifferInHeight}
use Rattle.row_abut.specs.declared.cell.RowCell.{RowCell}
use Rattle.row_abut.specs.declared.cell.RowFault.{RowFault}
use Rattle.row_abut.specs.declared.cell.RowFault.TheVariants.{Channel, Heights, NoMemory}
use Rattle.cell_make.specs.Rowed.{IsRowFault}

same_heights : (cells : List RowCell) (a b x y : ℕ) → DifferInHeight cells a b → DifferInHeight cells x y → Heights a b ≡ Heights x y
same_heights cells a b x y p q =
    let first : a ≡ x = p.given ∙ sym q.given in
    let other : b ≡ y = some_same b y (sym p.found ∙ q.found) in
    ap (λ n. Heights n b) first ∙ ap (λ n. Heights x n) other

same_clash : (cells : List RowCell) (a b x y : ℕ) → ClashInChannel cells a b → ClashInChannel cells x y → Channel a b ≡ Channel x y
same_clash cells a b x y p q =
    let left : a ≡ x = some_same a x (sym p.found ∙ q.found) in
    let right : b ≡ y = p.next ∙ ap (λ n. n + 1) left ∙ sym q.next in
    ap (λ n. Channel n b) left ∙ ap (λ n. Channel x n) right

-- where all are of one height, none differs
never_both : (cells : List RowCell) (a b x y : ℕ) → DifferInHeight cells a b → ClashInChannel cells x y → ⊥
never_both cells a b x y p q =
    let wrong : ◌≡◌ {A = Option ℕ} (Some b) None = sym p.found ∙ q.even in
    cc

pub one_row_fault : (cells : List RowCell) (f g : RowFault) → IsRowFault cells f → IsRowFault cells g → f ≡ g
one_row_fault cells (Heights a b) (Heights x y) p q = same_heights cells a b x y p q
one_row_fault cells (Heights a b) (Channel x y) p q = absurd (never_both cells a b x y p q)
one_row_fault cells (Heights a b) NoMemory p q = absurd q
one_row_fault cells (Channel a b) (Heights x y) p q = absurd (never_both cells x y a b q p)
one_row_fault cells (Channel a b) (Channel x y) p q = same_clash cells a b x y p q
one_row_fault cells (Channel a b) NoMemory p q = absurd q
one_row_fault cells NoMemory g p q = absurd p
