-- Pairs of nets and classes, written and read.
use Rattle.std.specs.Prelude.{ℕ, ◌≡◌, ◌<◌, ◌≤◌, ◌==◌, Bool, false, true, List, [], ◌∷◌, ◌++◌, Some, All, length, map, decimal}
use Rattle.std.proofs.Common.{refl, sym, ap, subst, arith, ◌∙◌}
use Rattle.std.specs.List.{join_with_byte}
use Rattle.std.proofs.lemmas.List.{append-nil, length-map}
use Rattle.std.proofs.lemmas.List.Elements.{All-append, All-cons, All-nil}
use Rattle.std.proofs.lemmas.Option.{none-some, same_Some}
use Rattle.log_lines.specs.Words.{parts_at}
use Rattle.log_lines.proofs.Decimals.{above_decimal}
use Rattle.log_lines.proofs.Parts.{some_part}
use Rattle.log_lines.proofs.Splits.{IsAbove, Lacks, above_lacks, above_more, joined_lacks, split_joined}
use Rattle.bound_log.proofs.Spelled.{bound, cons_same, mapped}
use Rattle.trail_log.specs.declared.class.Class.{Class}
use Rattle.trail_log.specs.declared.class.NetPair.{NetPair}
use Rattle.trail_log.specs.Listed.{class_in, class_of, class_with, each_in, list_in, net_in, node_in, node_of}
use Rattle.trail_log.specs.Spelling.{class_text, flag_text, list_text, node_text}
use Rattle.trail_log.specs.Fits.{ClassFits, NodeFits}
use Rattle.trail_log.proofs.Items.{ReadsAgain, ReadsOnly, Spares, all_of, decimal_lacks, each_again, each_only, joined_above, joined_parts, list_again, list_only, net_again, net_only}

-- ---- pairs of nets

node_words : (nets : ℕ) (words : List (List ℕ)) (node : NetPair) → node_of nets words ≡ Some node → (words ≡ decimal node.p.0 ∷ decimal node.n.0 ∷ []) × NodeFits nets node
node_words nets [] node h = absurd (none-some node h)
node_words nets (a ∷ []) node h = absurd (none-some node h)
node_words nets (a ∷ b ∷ c ∷ rest) node h = absurd (none-some node h)
node_words nets (a ∷ b ∷ []) node h =
    let p = bound (net_in nets a) _ node h in
    let n = bound (net_in nets b) _ node p.2 in
    let p_is = net_only nets a p.0 p.1 in
    let n_is = net_only nets b n.0 n.1 in
    subst (λ (x : NetPair). ((a ∷ b ∷ []) ≡ decimal x.p.0 ∷ decimal x.n.0 ∷ []) × NodeFits nets x) (same_Some (record { p = p.0; n = n.0 }) node n.2)
    (cons_same _ _ _ _ p_is.0 (cons_same _ _ _ _ n_is.0 refl), record { p = p_is.1; n = n_is.1 })

pub node_only : (nets : ℕ) → ReadsOnly (node_in nets) node_text (NodeFits nets)
node_only nets word node h =
    let read = node_words nets (parts_at 46 word) node h in
    (joined_parts 46 word (decimal node.p.0 ∷ decimal node.n.0 ∷ []) read.0, read.1)

pub node_again : (nets : ℕ) → nets ≤ 256 → ReadsAgain (node_in nets) node_text (NodeFits nets)
node_again nets few node fits =
    let lack : Lacks 46 (decimal node.n.0) = decimal_lacks 46 node.n.0 (omega arith) in
    ap (node_of nets) (split_joined 46 (decimal node.p.0) (decimal node.n.0 ∷ []) (decimal_lacks 46 node.p.0 (omega arith)) (All-cons (Lacks 46) (decimal node.n.0) [] lack (All-nil (Lacks 46))))
    ∙ rw (net_again nets few node.p fits.p, net_again nets few node.n fits.n) refl

-- digits and the point
pub node_above : (c : ℕ) (node : NetPair) → c ≤ 45 → IsAbove c (node_text node)
node_above c node few =
    let n : IsAbove c (decimal node.n.0) = above_more 47 c (decimal node.n.0) (omega (arith, few)) (above_decimal node.n.0) in
    All-append (λ b. c < b) (decimal node.p.0) (46 ∷ decimal node.n.0) (above_more 47 c (decimal node.p.0) (omega (arith, few)) (above_decimal node.p.0))
    (All-cons (λ b. c < b) 46 (decimal node.n.0) (omega (arith, few)) n)

pub node_lacks : (c : ℕ) → c ≤ 45 → Spares c node_text
node_lacks c few node = above_lacks 45 c (node_text node) few (node_above 45 node (omega arith))

-- ---- classes

nodes_text_of : List NetPair → List ℕ
nodes_text_of nodes = join_with_byte 43 (map node_text nodes)

with_words : (nets : ℕ) (flagged : Bool) (word : List ℕ) (class : Class) → class_with nets flagged word ≡ Some class → (word ≡ join_with_byte 43 (map node_text class.nodes)) × (class.flagged ≡ flagged) × ClassFits nets class
with_words nets flagged word class h =
    let nodes = mapped _ (each_in (node_in nets) (parts_at 43 word)) class h in
    let read = each_only (node_in nets) node_text (NodeFits nets) (parts_at 43 word) nodes.0 (node_only nets) nodes.1 in
    let some : 0 < length (map node_text nodes.0) = subst (λ (ws : List (List ℕ)). 0 < length ws) read.0 (some_part 43 word) in
    subst (λ (x : Class). (word ≡ join_with_byte 43 (map node_text x.nodes)) × (x.flagged ≡ flagged) × ClassFits nets x) nodes.2
    (joined_parts 43 word (map node_text nodes.0) read.0, refl, record { some = omega (arith, some, length-map nodes.0 node_text); nodes = read.1 })

class_words : (nets : ℕ) (words : List (List ℕ)) (class : Class) → class_of nets words ≡ Some class → (join_with_byte 33 words ≡ class_text class) × ClassFits nets class
class_words nets [] class h = absurd (none-some class h)
class_words nets (a ∷ (b ∷ bs) ∷ []) class h = absurd (none-some class h)
class_words nets (a ∷ [] ∷ c ∷ rest) class h = absurd (none-some class h)
class_words nets (a ∷ (b ∷ bs) ∷ c ∷ rest) class h = absurd (none-some class h)
class_words nets (a ∷ []) class h =
    let read = with_words nets false a class h in
    (read.0 ∙ (sym (append-nil (join_with_byte 43 (map node_text class.nodes))) ∙ ap (λ (f : Bool). join_with_byte 43 (map node_text class.nodes) ++ flag_text f) (sym read.1)), read.2)
class_words nets (a ∷ [] ∷ []) class h =
    let read = with_words nets true a class h in
    (ap (λ (bs : List ℕ). bs ++ (33 ∷ [])) read.0 ∙ ap (λ (f : Bool). join_with_byte 43 (map node_text class.nodes) ++ flag_text f) (sym read.1), read.2)

pub class_only : (nets : ℕ) → ReadsOnly (class_in nets) class_text (ClassFits nets)
class_only nets word class h =
    let read = class_words nets (parts_at 33 word) class h in
    (joined_parts 33 word (parts_at 33 word) refl ∙ read.0, read.1)

nodes_lack : (c : ℕ) (nodes : List NetPair) → c ≤ 45 → (43 == c) ≡ false → Lacks c (join_with_byte 43 (map node_text nodes))
nodes_lack c nodes few other = joined_lacks 43 c (map node_text nodes) other (all_of node_text (Lacks c) nodes (node_lacks c few))

with_again : (nets : ℕ) (flagged : Bool) (nodes : List NetPair) → nets ≤ 256 → 1 ≤ length nodes → All (NodeFits nets) nodes → class_with nets flagged (join_with_byte 43 (map node_text nodes)) ≡ Some (record { nodes = nodes; flagged = flagged })
with_again nets flagged [] few some fits = absurd (omega (arith, some))
with_again nets flagged (node ∷ nodes) few some fits =
    rw (
      split_joined 43 (node_text node) (map node_text nodes) (node_lacks 43 (omega arith) node) (all_of node_text (Lacks 43) nodes (node_lacks 43 (omega arith))),
      each_again (node_in nets) node_text (NodeFits nets) (node ∷ nodes) (node_again nets few) fits,
    )
    refl

flagged_again : (nets : ℕ) (flagged : Bool) (nodes : List NetPair) → nets ≤ 256 → 1 ≤ length nodes → All (NodeFits nets) nodes → class_in nets (join_with_byte 43 (map node_text nodes) ++ flag_text flagged) ≡ Some (record { nodes = nodes; flagged = flagged })
flagged_again nets false nodes few some fits =
    let text = join_with_byte 43 (map node_text nodes) in
    ap (class_in nets) (append-nil text)
    ∙ (ap (class_of nets) (split_joined 33 text [] (nodes_lack 33 nodes (omega arith) refl) (All-nil (Lacks 33))) ∙ with_again nets false nodes few some fits)
flagged_again nets true nodes few some fits =
    let text = join_with_byte 43 (map node_text nodes) in
    ap (class_of nets) (split_joined 33 text ([] ∷ []) (nodes_lack 33 nodes (omega arith) refl) (All-cons (Lacks 33) [] [] (All-nil (λ b. (b == 33) ≡ false)) (All-nil (Lacks 33))))
    ∙ with_again nets true nodes few some fits

pub class_again : (nets : ℕ) → nets ≤ 256 → ReadsAgain (class_in nets) class_text (ClassFits nets)
class_again nets few class fits = flagged_again nets class.flagged class.nodes few fits.some fits.nodes

flag_lacks : (c : ℕ) (flagged : Bool) → (33 == c) ≡ false → Lacks c (flag_text flagged)
flag_lacks c false other = All-nil (λ b. (b == c) ≡ false)
flag_lacks c true other = All-cons (λ b. (b == c) ≡ false) 33 [] other (All-nil (λ b. (b == c) ≡ false))

pub class_lacks : (c : ℕ) → c ≤ 45 → (43 == c) ≡ false → (33 == c) ≡ false → Spares c class_text
class_lacks c few plus mark class =
    All-append (λ b. (b == c) ≡ false) (join_with_byte 43 (map node_text class.nodes)) (flag_text class.flagged) (nodes_lack c class.nodes few plus) (flag_lacks c class.flagged mark)

flag_above : (flagged : Bool) → IsAbove 32 (flag_text flagged)
flag_above false = All-nil (λ b. 32 < b)
flag_above true = All-cons (λ b. 32 < b) 33 [] (omega arith) (All-nil (λ b. 32 < b))

pub class_above : (class : Class) → IsAbove 32 (class_text class)
class_above class =
    All-append (λ b. 32 < b) (join_with_byte 43 (map node_text class.nodes)) (flag_text class.flagged)
    (joined_above 43 32 (map node_text class.nodes) (omega arith) (all_of node_text (IsAbove 32) class.nodes (λ node. node_above 32 node (omega arith))))
    (flag_above class.flagged)

-- ---- lists of them

pub nodes_only : (nets : ℕ) (word : List ℕ) (nodes : List NetPair) → list_in 44 (node_in nets) word ≡ Some nodes → (word ≡ list_text 44 (map node_text nodes)) × All (NodeFits nets) nodes
nodes_only nets word nodes h = list_only 44 (node_in nets) node_text (NodeFits nets) word nodes (node_only nets) h

pub nodes_again : (nets : ℕ) (nodes : List NetPair) → nets ≤ 256 → All (NodeFits nets) nodes → list_in 44 (node_in nets) (list_text 44 (map node_text nodes)) ≡ Some nodes
nodes_again nets nodes few h =
    list_again 44 (node_in nets) node_text (NodeFits nets) nodes refl (node_again nets few) (node_lacks 44 (omega arith)) (node_lacks 45 (omega arith)) h

pub classes_only : (nets : ℕ) (word : List ℕ) (classes : List Class) → list_in 44 (class_in nets) word ≡ Some classes → (word ≡ list_text 44 (map class_text classes)) × All (ClassFits nets) classes
classes_only nets word classes h = list_only 44 (class_in nets) class_text (ClassFits nets) word classes (class_only nets) h

pub classes_again : (nets : ℕ) (classes : List Class) → nets ≤ 256 → All (ClassFits nets) classes → list_in 44 (class_in nets) (list_text 44 (map class_text classes)) ≡ Some classes
classes_again nets classes few h =
    list_again 44 (class_in nets) class_text (ClassFits nets) classes refl (class_again nets few) (class_lacks 44 (omega arith) refl refl) (class_lacks 45 (omega arith) refl refl) h
