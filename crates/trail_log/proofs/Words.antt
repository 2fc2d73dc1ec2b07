-- The lines of a certificate, written and read.
use Rattle.std.specs.Prelude.{ℕ, ◌≡◌, ◌<◌, ◌≤◌, ◌==◌, true, leb, IsTrue, List, [], ◌∷◌, ◌++◌, Some, All, length, codes, decimal}
use Rattle.std.proofs.Common.{refl, subst, arith, inl, inr}
use Rattle.std.specs.List.{join_with_byte}
use Rattle.std.proofs.lemmas.Bool.{eqb-true, le-leb, leb-true}
use Rattle.std.proofs.lemmas.List.{append_assoc}
use Rattle.std.proofs.lemmas.List.Elements.{All-cons, All-nil}
use Rattle.std.proofs.lemmas.Option.{none-some, same_Some}
use Rattle.cell_num.specs.declared.net.NetNo.{NetNo}
use Rattle.log_lines.specs.Words.{is_word, number_below}
use Rattle.log_lines.proofs.Decimals.{above_decimal}
use Rattle.log_lines.proofs.Numbers.{chosen, found_below, is_below, same_words}
use Rattle.log_lines.proofs.Splits.{IsAbove, above_more, fed}
use Rattle.bound_log.specs.Line.{ending_in}
use Rattle.bound_log.proofs.Again.{by_test}
use Rattle.bound_log.proofs.Only.{EndingSpelled, ending_spelled}
use Rattle.bound_log.proofs.Spelled.{bound, cons_same, is_provided, mapped}
use Rattle.bound_log.specs.declared.log.Ending.TheVariants as ending
use Rattle.trail_log.specs.declared.class.Class.{Class}
use Rattle.trail_log.specs.declared.class.NetPair.{NetPair}
use Rattle.trail_log.specs.Listed.{class_in, classes_in, list_in, node_in, odd_in}
use Rattle.trail_log.specs.Order.{classes_in_order, increases, net_rank, node_rank}
use Rattle.trail_log.specs.Spelling.{class_text, classes_text, net_text, nets_text, node_text, nodes_text}
use Rattle.trail_log.specs.declared.trails.LemmaLine.{LemmaLine}
use Rattle.trail_log.specs.declared.trails.TrailEntry.{TrailEntry}
use Rattle.trail_log.specs.declared.trails.TrailEntry.TheVariants as entry
use Rattle.trail_log.specs.Fits.{ClassFits, LemmaFits, NetFits, NodeFits}
use Rattle.trail_log.specs.Line.{entry_in, fill_in, lemma_in, nets_behind, order_in}
use Rattle.trail_log.specs.Text.{fill_line, lemma_line, order_line}
use Rattle.trail_log.proofs.Items.{list_above, net_above, nets_again, nets_only}
use Rattle.trail_log.proofs.Classes.{class_above, classes_again, classes_only, node_above, nodes_again, nodes_only}

-- ---- a lemma

unfoldable pub lemma_words : LemmaLine → List (List ℕ)
lemma_words lemma = decimal lemma.bound ∷ decimal lemma.done ∷ nodes_text lemma.odd ∷ codes "-" ∷ classes_text lemma.classes ∷ []

odd_only : (nets : ℕ) (word : List ℕ) (nodes : List NetPair) → odd_in nets word ≡ Some nodes → (word ≡ nodes_text nodes) × All (NodeFits nets) nodes × IsTrue (increases node_rank nodes)
odd_only nets word nodes h =
    let found = bound (list_in 44 (node_in nets) word) _ nodes h in
    let rising = is_provided (increases node_rank found.0) _ nodes found.2 in
    let read = nodes_only nets word found.0 found.1 in
    subst (λ (ns : List NetPair). (word ≡ nodes_text ns) × All (NodeFits nets) ns × IsTrue (increases node_rank ns)) (same_Some found.0 nodes rising.1) (read.0, read.1, rising.0)

listed_only : (nets : ℕ) (word : List ℕ) (classes : List Class) → classes_in nets word ≡ Some classes → (word ≡ classes_text classes) × All (ClassFits nets) classes × IsTrue (classes_in_order classes)
listed_only nets word classes h =
    let found = bound (list_in 44 (class_in nets) word) _ classes h in
    let rising = is_provided (classes_in_order found.0) _ classes found.2 in
    let read = classes_only nets word found.0 found.1 in
    subst (λ (cs : List Class). (word ≡ classes_text cs) × All (ClassFits nets) cs × IsTrue (classes_in_order cs)) (same_Some found.0 classes rising.1) (read.0, read.1, rising.0)

lemma_only : (nets : ℕ) (words : List (List ℕ)) (lemma : LemmaLine) → lemma_in nets words ≡ Some lemma → (words ≡ lemma_words lemma) × LemmaFits nets lemma
unfolding lemma_words
lemma_only nets [] lemma h = absurd (none-some lemma h)
lemma_only nets (a ∷ []) lemma h = absurd (none-some lemma h)
lemma_only nets (a ∷ b ∷ []) lemma h = absurd (none-some lemma h)
lemma_only nets (a ∷ b ∷ c ∷ []) lemma h = absurd (none-some lemma h)
lemma_only nets (a ∷ b ∷ c ∷ d ∷ []) lemma h = absurd (none-some lemma h)
lemma_only nets (a ∷ b ∷ c ∷ d ∷ e ∷ f ∷ rest) lemma h = absurd (none-some lemma h)
lemma_only nets (bound_word ∷ done_word ∷ odd_word ∷ free ∷ classes_word ∷ []) lemma h =
    let ends = bound (number_below 65 bound_word) _ lemma h in
    let some = is_provided (leb 1 ends.0) _ lemma ends.2 in
    let gates = bound (number_below 32 done_word) _ lemma some.1 in
    let odd = bound (odd_in nets odd_word) _ lemma gates.2 in
    let none = is_provided (is_word free (codes "-")) _ lemma odd.2 in
    let joined = bound (classes_in nets classes_word) _ lemma none.1 in
    let ends_is : (bound_word ≡ decimal ends.0) × (ends.0 < 65) = found_below 65 bound_word ends.0 ends.1 in
    let gates_is : (done_word ≡ decimal gates.0) × (gates.0 < 32) = found_below 32 done_word gates.0 gates.1 in
    let odd_is = odd_only nets odd_word odd.0 odd.1 in
    let classes_is = listed_only nets classes_word joined.0 joined.1 in
    subst (λ (l : LemmaLine). ((bound_word ∷ done_word ∷ odd_word ∷ free ∷ classes_word ∷ []) ≡ decimal l.bound ∷ decimal l.done ∷ nodes_text l.odd ∷ codes "-" ∷ classes_text l.classes ∷ []) × LemmaFits nets l)
    (same_Some (record { bound = ends.0; done = gates.0; odd = odd.0; classes = joined.0 }) lemma joined.2) (
      cons_same _ _ _ _ ends_is.0 (cons_same _ _ _ _ gates_is.0 (cons_same _ _ _ _ odd_is.0 (cons_same _ _ _ _ (same_words free (codes "-") none.0) (cons_same _ _ _ _ classes_is.0 refl)))),
      record {
        some = leb-true 1 ends.0 some.0;
        few = omega (arith, ends_is.1);
        done = gates_is.1;
        odd = odd_is.1;
        classes = classes_is.1;
        odd_order = odd_is.2;
        class_order = classes_is.2;
      },
    )

odd_again : (nets : ℕ) (nodes : List NetPair) → nets ≤ 256 → All (NodeFits nets) nodes → IsTrue (increases node_rank nodes) → odd_in nets (nodes_text nodes) ≡ Some nodes
odd_again nets nodes few fits rising = rw (nodes_again nets nodes few fits, rising) refl

listed_again : (nets : ℕ) (classes : List Class) → nets ≤ 256 → All (ClassFits nets) classes → IsTrue (classes_in_order classes) → classes_in nets (classes_text classes) ≡ Some classes
listed_again nets classes few fits rising = rw (classes_again nets classes few fits, rising) refl

pub lemma_again : (nets : ℕ) (lemma : LemmaLine) → nets ≤ 256 → LemmaFits nets lemma → entry_in nets (codes "lemma" ∷ lemma_words lemma) ≡ Some (entry.Lemma lemma)
unfolding lemma_words
lemma_again nets lemma few h =
    rw (
      is_below 65 (decimal lemma.bound) lemma.bound refl (omega (arith, h.few)) (omega arith),
      le-leb 1 lemma.bound h.some,
      is_below 32 (decimal lemma.done) lemma.done refl h.done (omega arith),
      odd_again nets lemma.odd few h.odd h.odd_order,
      listed_again nets lemma.classes few h.classes h.class_order,
    )
    refl

-- ---- bytes of words

number_above : (n : ℕ) → IsAbove 32 (decimal n)
number_above n = above_more 47 32 (decimal n) (omega arith) (above_decimal n)

two_above : (front word : List ℕ) → IsAbove 32 front → IsAbove 32 word → All (IsAbove 32) (front ∷ word ∷ [])
two_above front word f h = All-cons (IsAbove 32) front (word ∷ []) f (All-cons (IsAbove 32) word [] h (All-nil (IsAbove 32)))

pub lemma_above : (lemma : LemmaLine) → All (IsAbove 32) (codes "lemma" ∷ lemma_words lemma)
unfolding lemma_words
lemma_above lemma =
    All-cons (IsAbove 32) (codes "lemma") (decimal lemma.bound ∷ decimal lemma.done ∷ nodes_text lemma.odd ∷ codes "-" ∷ classes_text lemma.classes ∷ []) (by_test 32 (codes "lemma") refl)
    (All-cons (IsAbove 32) (decimal lemma.bound) (decimal lemma.done ∷ nodes_text lemma.odd ∷ codes "-" ∷ classes_text lemma.classes ∷ []) (number_above lemma.bound)
    (All-cons (IsAbove 32) (decimal lemma.done) (nodes_text lemma.odd ∷ codes "-" ∷ classes_text lemma.classes ∷ []) (number_above lemma.done)
    (All-cons (IsAbove 32) (nodes_text lemma.odd) (codes "-" ∷ classes_text lemma.classes ∷ []) (list_above node_text lemma.odd (λ node. node_above 32 node (omega arith)))
    (two_above (codes "-") (classes_text lemma.classes) (by_test 32 (codes "-") refl) (list_above class_text lemma.classes class_above)))))

pub fill_above : (gates : List NetNo) → All (IsAbove 32) (codes "fill" ∷ nets_text gates ∷ [])
fill_above gates = two_above (codes "fill") (nets_text gates) (by_test 32 (codes "fill") refl) (list_above net_text gates net_above)

pub order_above : (gates : List NetNo) → All (IsAbove 32) (codes "order" ∷ nets_text gates ∷ [])
order_above gates = two_above (codes "order") (nets_text gates) (by_test 32 (codes "order") refl) (list_above net_text gates net_above)

-- ---- lists of gates

behind_only : (front : List ℕ) (nets : ℕ) (words : List (List ℕ)) (gates : List NetNo) → nets_behind front nets words ≡ Some gates → (words ≡ front ∷ nets_text gates ∷ []) × All (NetFits nets) gates
behind_only front nets [] gates h = absurd (none-some gates h)
behind_only front nets (a ∷ []) gates h = absurd (none-some gates h)
behind_only front nets (a ∷ b ∷ c ∷ rest) gates h = absurd (none-some gates h)
behind_only front nets (a ∷ b ∷ []) gates h =
    elim (chosen (is_word a front) _ _ _ h) [
      | inl y ↦
          let read = nets_only nets b gates y.1 in
          (cons_same _ _ _ _ (same_words a front y.0) (cons_same _ _ _ _ read.0 refl), read.1)
      | inr none ↦ absurd (none-some gates none.1)
    ]

pub order_only : (nets : ℕ) (words : List (List ℕ)) (gates : List NetNo) → order_in nets words ≡ Some gates → (words ≡ codes "order" ∷ nets_text gates ∷ []) × All (NetFits nets) gates
order_only nets words gates h = behind_only (codes "order") nets words gates h

pub fill_only : (nets : ℕ) (words : List (List ℕ)) (gates : List NetNo) → fill_in nets words ≡ Some gates → (words ≡ codes "fill" ∷ nets_text gates ∷ []) × All (NetFits nets) gates × IsTrue (increases net_rank gates)
fill_only nets words gates h =
    let found = bound (nets_behind (codes "fill") nets words) _ gates h in
    let rising = is_provided (increases net_rank found.0) _ gates found.2 in
    let read = behind_only (codes "fill") nets words found.0 found.1 in
    subst (λ (gs : List NetNo). (words ≡ codes "fill" ∷ nets_text gs ∷ []) × All (NetFits nets) gs × IsTrue (increases net_rank gs)) (same_Some found.0 gates rising.1) (read.0, read.1, rising.0)

pub order_again : (nets : ℕ) (gates : List NetNo) → nets ≤ 256 → All (NetFits nets) gates → order_in nets (codes "order" ∷ nets_text gates ∷ []) ≡ Some gates
order_again nets gates few h = nets_again nets gates few h

pub fill_again : (nets : ℕ) (gates : List NetNo) → nets ≤ 256 → All (NetFits nets) gates → IsTrue (increases net_rank gates) → fill_in nets (codes "fill" ∷ nets_text gates ∷ []) ≡ Some gates
fill_again nets gates few h rising = rw (nets_again nets gates few h, rising) refl

-- ---- lines behind the order

abbrev pub EntrySpelled : ℕ → List (List ℕ) → TrailEntry → Type 0
EntrySpelled nets words (entry.Lemma lemma) = (words ≡ codes "lemma" ∷ lemma_words lemma) × LemmaFits nets lemma
EntrySpelled nets words (entry.Ending e) = EndingSpelled words e

pub entry_only : (nets : ℕ) (words : List (List ℕ)) (e : TrailEntry) → entry_in nets words ≡ Some e → EntrySpelled nets words e
entry_only nets [] e h = absurd (none-some e h)
entry_only nets (word ∷ words) e h =
    elim (chosen (is_word word (codes "lemma")) _ _ _ h) [
      | inl y ↦
          let l = mapped entry.Lemma (lemma_in nets words) e y.1 in
          let spelled = lemma_only nets words l.0 l.1 in
          subst (EntrySpelled nets (word ∷ words)) l.2 (cons_same _ _ _ _ (same_words word (codes "lemma") y.0) spelled.0, spelled.1)
      | inr other ↦
          let ended = mapped entry.Ending (ending_in (word ∷ words)) e other.1 in
          subst (EntrySpelled nets (word ∷ words)) ended.2 (ending_spelled (word ∷ words) ended.0 ended.1)
    ]

pub gaps_again : (nets gaps : ℕ) → gaps ≤ 63 → entry_in nets (codes "gaps" ∷ decimal gaps ∷ []) ≡ Some (entry.Ending (ending.Gaps gaps))
gaps_again nets gaps few = rw (is_below 64 (decimal gaps) gaps refl (omega (arith, few)) (omega arith)) refl

-- ---- words joined

pub lemma_joined : (lemma : LemmaLine) → fed (join_with_byte 32 (codes "lemma" ∷ lemma_words lemma)) ≡ lemma_line lemma
unfolding lemma_words
lemma_joined lemma = apart (decimal lemma.bound) (decimal lemma.done) (nodes_text lemma.odd) (classes_text lemma.classes)
  where
    apart : (b d o c : List ℕ) → fed (codes "lemma " ++ (b ++ (32 ∷ (d ++ (32 ∷ (o ++ (32 ∷ (codes "- " ++ c)))))))) ≡ codes "lemma " ++ b ++ codes " " ++ d ++ codes " " ++ o ++ codes " - " ++ c ++ codes "\n"
    apart b d o c = simp append_assoc

pub fill_joined : (gates : List NetNo) → fed (join_with_byte 32 (codes "fill" ∷ nets_text gates ∷ [])) ≡ fill_line gates
fill_joined gates = refl

pub order_joined : (gates : List NetNo) → fed (join_with_byte 32 (codes "order" ∷ nets_text gates ∷ [])) ≡ order_line gates
order_joined gates = refl
