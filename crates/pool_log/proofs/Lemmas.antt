-- The lines of lemmas, written and read.
use Rattle.std.specs.Prelude.{ℕ, ◌≡◌, ◌<◌, ◌≤◌, IsTrue, List, [], ◌∷◌, ◌++◌, Option, Some, All, codes, decimal}
use Rattle.std.proofs.Common.{refl, subst, arith}
use Rattle.std.proofs.lemmas.List.{append_assoc}
use Rattle.std.proofs.lemmas.List.Elements.{All-cons, All-nil}
use Rattle.std.proofs.lemmas.Option.{none-some, same_Some}
use Rattle.log_lines.specs.Words.{number_below}
use Rattle.log_lines.proofs.Decimals.{above_decimal}
use Rattle.log_lines.proofs.Numbers.{found_below, is_below}
use Rattle.log_lines.proofs.Splits.{IsAbove, Lacks, above_lacks, above_more}
use Rattle.bound_log.proofs.Again.{by_test}
use Rattle.bound_log.proofs.Spelled.{bound, cons_same, is_provided}
use Rattle.trail_log.specs.declared.class.NetPair.{NetPair}
use Rattle.trail_log.specs.Fits.{NodeFits}
use Rattle.trail_log.specs.Listed.{list_in, node_in}
use Rattle.trail_log.specs.Order.{increases, node_rank}
use Rattle.trail_log.specs.Spelling.{node_text, nodes_text}
use Rattle.trail_log.proofs.Classes.{node_above, nodes_again, nodes_only}
use Rattle.trail_log.proofs.Items.{list_above, list_only}
use Rattle.order_log.specs.Lists.{ordered_in}
use Rattle.order_log.specs.Text.{lemma_line}
use Rattle.order_log.proofs.Spells.{Spells}
use Rattle.pool_log.specs.declared.balance.PoolBalance.{PoolBalance}
use Rattle.pool_log.specs.declared.class.PlaceClass.{PlaceClass}
use Rattle.pool_log.specs.declared.lemma.PoolLine.{PoolLine}
use Rattle.pool_log.specs.Fits.{BalanceFits, ClassFits, LemmaFits}
use Rattle.pool_log.specs.Line.{balance_in, class_in, classes_in, count_in, lemma_in}
use Rattle.pool_log.specs.Order.{balance_rank, classes_in_order}
use Rattle.pool_log.specs.Text.{balance_text, balances_text, class_text, classes_text, lemma_words, version_line}
use Rattle.pool_log.proofs.Balances.{balance_above, balance_only, balances_again, count_again, count_only}
use Rattle.pool_log.proofs.Classes.{class_above, classes_again, classes_only}

-- ---- lists in order

ordered_only : {A : Type 0} (read : List ℕ → Option A) (rank : A → ℕ) (word : List ℕ) (items : List A) → ordered_in read rank word ≡ Some items → (list_in 44 read word ≡ Some items) × IsTrue (increases rank items)
unfolding ordered_in
ordered_only read rank word items h =
    let found = bound (list_in 44 read word) _ items h in
    let rising = is_provided (increases rank found.0) _ items found.2 in
    subst (λ xs. (list_in 44 read word ≡ Some xs) × IsTrue (increases rank xs)) (same_Some found.0 items rising.1) (found.1, rising.0)

ordered_again : {A : Type 0} (read : List ℕ → Option A) (rank : A → ℕ) (word : List ℕ) (items : List A) → list_in 44 read word ≡ Some items → IsTrue (increases rank items) → ordered_in read rank word ≡ Some items
unfolding ordered_in
ordered_again read rank word items some rising = rw (some, rising) refl

odd_only : (nets : ℕ) (word : List ℕ) (nodes : List NetPair) → ordered_in (node_in nets) node_rank word ≡ Some nodes → (word ≡ nodes_text nodes) × All (NodeFits nets) nodes × IsTrue (increases node_rank nodes)
odd_only nets word nodes h =
    let found = ordered_only (node_in nets) node_rank word nodes h in
    let read = nodes_only nets word nodes found.0 in
    (read.0, read.1, found.1)

balances_only : (nets : ℕ) (word : List ℕ) (balances : List PoolBalance) → ordered_in (balance_in nets) balance_rank word ≡ Some balances → (word ≡ balances_text balances) × All (BalanceFits nets) balances × IsTrue (increases balance_rank balances)
balances_only nets word balances h =
    let found = ordered_only (balance_in nets) balance_rank word balances h in
    let read = list_only 44 (balance_in nets) balance_text (BalanceFits nets) word balances (balance_only nets) found.0 in
    (read.0, read.1, found.1)

listed_only : (nets : ℕ) (word : List ℕ) (classes : List PlaceClass) → classes_in nets word ≡ Some classes → (word ≡ classes_text classes) × All (ClassFits nets) classes × IsTrue (classes_in_order classes)
listed_only nets word classes h =
    let found = bound (list_in 44 (class_in nets) word) _ classes h in
    let rising = is_provided (classes_in_order found.0) _ classes found.2 in
    let read = classes_only nets word found.0 found.1 in
    subst (λ (cs : List PlaceClass). (word ≡ classes_text cs) × All (ClassFits nets) cs × IsTrue (classes_in_order cs)) (same_Some found.0 classes rising.1) (read.0, read.1, rising.0)

listed_again : (nets : ℕ) (classes : List PlaceClass) → nets ≤ 256 → All (ClassFits nets) classes → IsTrue (classes_in_order classes) → classes_in nets (classes_text classes) ≡ Some classes
listed_again nets classes few fits rising = rw (classes_again nets classes few fits, rising) refl

-- ---- a lemma

lemma_only : (nets : ℕ) (words : List (List ℕ)) (lemma : PoolLine) → lemma_in nets words ≡ Some lemma → (words ≡ lemma_words lemma) × LemmaFits nets lemma
unfolding lemma_words
lemma_only nets [] lemma h = absurd (none-some lemma h)
lemma_only nets (a ∷ []) lemma h = absurd (none-some lemma h)
lemma_only nets (a ∷ b ∷ []) lemma h = absurd (none-some lemma h)
lemma_only nets (a ∷ b ∷ c ∷ []) lemma h = absurd (none-some lemma h)
lemma_only nets (a ∷ b ∷ c ∷ d ∷ []) lemma h = absurd (none-some lemma h)
lemma_only nets (a ∷ b ∷ c ∷ d ∷ e ∷ f ∷ rest) lemma h = absurd (none-some lemma h)
lemma_only nets (bound_word ∷ done_word ∷ odd_word ∷ free ∷ classes_word ∷ []) lemma h =
    let ends = bound (count_in bound_word) _ lemma h in
    let gates = bound (number_below 32 done_word) _ lemma ends.2 in
    let odd = bound (ordered_in (node_in nets) node_rank odd_word) _ lemma gates.2 in
    let pools = bound (ordered_in (balance_in nets) balance_rank free) _ lemma odd.2 in
    let joined = bound (classes_in nets classes_word) _ lemma pools.2 in
    let ends_is = count_only bound_word ends.0 ends.1 in
    let gates_is : (done_word ≡ decimal gates.0) × (gates.0 < 32) = found_below 32 done_word gates.0 gates.1 in
    let odd_is = odd_only nets odd_word odd.0 odd.1 in
    let pools_is = balances_only nets free pools.0 pools.1 in
    let classes_is = listed_only nets classes_word joined.0 joined.1 in
    subst (λ (l : PoolLine). ((bound_word ∷ done_word ∷ odd_word ∷ free ∷ classes_word ∷ []) ≡ decimal l.bound ∷ decimal l.done ∷ nodes_text l.odd ∷ balances_text l.balances ∷ classes_text l.classes ∷ []) × LemmaFits nets l)
    (same_Some (record { bound = ends.0; done = gates.0; odd = odd.0; balances = pools.0; classes = joined.0 }) lemma joined.2) (
      cons_same _ _ _ _ ends_is.0 (cons_same _ _ _ _ gates_is.0 (cons_same _ _ _ _ odd_is.0 (cons_same _ _ _ _ pools_is.0 (cons_same _ _ _ _ classes_is.0 refl)))),
      record {
        some = ends_is.1;
        few = ends_is.2;
        done = gates_is.1;
        odd = odd_is.1;
        odd_order = odd_is.2;
        balances = pools_is.1;
        balance_order = pools_is.2;
        classes = classes_is.1;
        class_order = classes_is.2;
      },
    )

lemma_again : (nets : ℕ) (lemma : PoolLine) → nets ≤ 256 → LemmaFits nets lemma → lemma_in nets (lemma_words lemma) ≡ Some lemma
unfolding lemma_words
lemma_again nets lemma few h =
    rw (
      count_again lemma.bound h.some h.few,
      is_below 32 (decimal lemma.done) lemma.done refl h.done (omega arith),
      ordered_again (node_in nets) node_rank (nodes_text lemma.odd) lemma.odd (nodes_again nets lemma.odd few h.odd) h.odd_order,
      ordered_again (balance_in nets) balance_rank (balances_text lemma.balances) lemma.balances (balances_again nets lemma.balances few h.balances) h.balance_order,
      listed_again nets lemma.classes few h.classes h.class_order,
    )
    refl

number_above : (n : ℕ) → IsAbove 32 (decimal n)
number_above n = above_more 47 32 (decimal n) (omega arith) (above_decimal n)

lemma_above : (lemma : PoolLine) → All (IsAbove 32) (lemma_words lemma)
unfolding lemma_words
lemma_above lemma =
    All-cons (IsAbove 32) (decimal lemma.bound) (decimal lemma.done ∷ nodes_text lemma.odd ∷ balances_text lemma.balances ∷ classes_text lemma.classes ∷ []) (number_above lemma.bound)
    (All-cons (IsAbove 32) (decimal lemma.done) (nodes_text lemma.odd ∷ balances_text lemma.balances ∷ classes_text lemma.classes ∷ []) (number_above lemma.done)
    (All-cons (IsAbove 32) (nodes_text lemma.odd) (balances_text lemma.balances ∷ classes_text lemma.classes ∷ []) (list_above node_text lemma.odd (λ node. node_above 32 node (omega arith)))
    (All-cons (IsAbove 32) (balances_text lemma.balances) (classes_text lemma.classes ∷ []) (list_above balance_text lemma.balances balance_above)
    (All-cons (IsAbove 32) (classes_text lemma.classes) [] (list_above class_text lemma.classes class_above) (All-nil (IsAbove 32))))))

-- how lemmas are spelled
pub lemmas_spelled : (nets : ℕ) → nets ≤ 256 → Spells (lemma_in nets) lemma_words (LemmaFits nets)
lemmas_spelled nets few = record {
  again = λ lemma fits. lemma_again nets lemma few fits;
  only = λ words lemma read. lemma_only nets words lemma read;
  above = lemma_above;
}

-- ---- the line behind a text

pub words_behind : (out : List ℕ) (lemma : PoolLine) → ((((((((((out ++ codes "lemma ") ++ decimal lemma.bound) ++ codes " ") ++ decimal lemma.done) ++ codes " ") ++ nodes_text lemma.odd) ++ codes " ") ++ balances_text lemma.balances) ++ codes " ") ++ classes_text lemma.classes) ++ codes "\n" ≡ out ++ lemma_line lemma_words lemma
unfolding lemma_line lemma_words
words_behind out lemma = apart out (decimal lemma.bound) (decimal lemma.done) (nodes_text lemma.odd) (balances_text lemma.balances) (classes_text lemma.classes)
  where
    apart : (front b d o f c : List ℕ) → ((((((((((front ++ codes "lemma ") ++ b) ++ codes " ") ++ d) ++ codes " ") ++ o) ++ codes " ") ++ f) ++ codes " ") ++ c) ++ codes "\n" ≡ front ++ ((codes "lemma " ++ (b ++ (32 ∷ (d ++ (32 ∷ (o ++ (32 ∷ (f ++ (32 ∷ c))))))))) ++ codes "\n")
    apart front b d o f c = simp append_assoc

-- the first line is a line
pub version_lacks : Lacks 10 version_line
version_lacks = above_lacks 31 10 version_line (omega arith) (by_test 31 version_line refl)
