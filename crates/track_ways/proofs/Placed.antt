-- The lines of a row are the lines of its placement.
use Rattle.std.proofs.Common.{ℕ, suc, ◌≡◌, ◌+◌, ◌*◌, ◌<◌, ◌≤◌, ◌⊎◌, ◌++◌, Bool, true, false, cond, List, [], ◌∷◌, Option, Some, None, length, inl, inr, refl, sym, ap, subst, arith, All, AllPairs, Contains, option_map, ◌∙◌}
use Rattle.std.specs.List.{cons_option}
use Rattle.std.proofs.lemmas.List.Elements.{All-nil, All-cons, All-append}
use Rattle.cell_num.specs.declared.net.NetNo.{NetNo}
use Rattle.cell_num.specs.declared.finger.Row.{Row}
use Rattle.cell_num.specs.declared.finger.Row.TheVariants.{P, N}
use Rattle.cell_num.proofs.Lists.{all_from_contains}
use Rattle.cell_num.proofs.Pairs.{pairs_append, pairs_none, pairs_one}
use Rattle.row_model.specs.declared.column.Column.{Column}
use Rattle.row_model.specs.Arrangement.{IsColumn, gate_in}
use Rattle.row_model.specs.Gaps.{left_net, right_net}
use Rattle.row_place.specs.declared.placement.NodePlace.{NodePlace}
use Rattle.row_place.specs.declared.placement.GatePlace.{GatePlace}
use Rattle.row_place.specs.declared.placement.Seat.{Seat}
use Rattle.row_place.specs.Steps.{or_else, gate_of as seat_gate, gates_of}
use Rattle.row_place.specs.Units.{gap_between, unit_of, seats_from, seats_of}
use Rattle.row_place.specs.Places.{IsNode, StandsBefore, IsPlacement, placement_of}
use Rattle.row_place.proofs.Placed.{placement_is}
use Rattle.row_place.proofs.Order.{same_list}
use Rattle.row_place.proofs.Units.{SitsAt, seat_at, seat_from}
use Rattle.track_ways.specs.declared.line.Line.{Line}
use Rattle.track_ways.specs.Channel.{node_of, nodes_from, gate_of, gates_from, IsPlain, AreLinesOf}
use Rattle.track_ways.specs.Rows.{left_end, right_end, node_line, gate_line, is_gap_behind, lines_between, lines_behind, lines_of_row}
use Rattle.track_ways.proofs.Places.{NodeAt, node_at, node_there, one_node}
use Rattle.track_ways.proofs.Placing.{open_end, gap_count, with_gap, FromSeat, HitAt, hits_are, ends_hit}

-- exactly the node places of the row
node_is : (row : List Column) (node : NodePlace) → Contains (nodes_from 0 (lines_of_row row)) node → IsNode row node
node_is row node there =
    let n : NodeAt 0 (lines_of_row row) node = node_at 0 (lines_of_row row) node there in
    elim (hits_are 0 None row n.at node.row node.net n.there) [
      | inl wrong ↦ absurd (never wrong.1)
      | inr f ↦ from (subst (λ l. FromSeat (seats_of row) node.row l node.net) (let e : 2 * 0 + n.at ≡ node.line = omega (arith, n.line) in e) f)
    ]
  where
    never : {X : Type 0} {x : X} → None ≡ Some x → ⊥
    never e = absurd cc

    from : FromSeat (seats_of row) node.row node.line node.net → IsNode row node
    from f =
        let sits : SitsAt row f.seat = seat_at row f.seat f.there in
        record { at = sits.at; column = f.seat.column; finger = f.end.finger; stands = sits.stands; filled = f.end.filled; end = subst (λ u. ((node.line ≡ 2 * u) × (node.net ≡ left_net f.end.finger)) ⊎ ((node.line ≡ 2 * u + 2) × (node.net ≡ right_net f.end.finger))) sits.unit f.end.end }

is_node : (row : List Column) (node : NodePlace) → IsNode row node → Contains (nodes_from 0 (lines_of_row row)) node
is_node row node h = there (ends_hit 0 None row node.row node.line node.net (record { seat = seat; there = seat_from row seat h.at h.stands refl; end = record { finger = h.finger; filled = h.filled; end = h.end } }))
  where
    seat : Seat
    seat = record { column = h.column; unit = unit_of row h.at }

    there : HitAt (lines_of_row row) (2 * 0) node.row node.line node.net → Contains (nodes_from 0 (lines_of_row row)) node
    there hit = subst (λ l. Contains (nodes_from 0 (lines_of_row row)) (record { row = node.row; line = l; net = node.net })) (let e : 0 + hit.at ≡ node.line = omega (arith, hit.line') in e) (node_there 0 (lines_of_row row) hit.at node.row node.net hit.hits)

-- in order of line, N before P
node_lines : (k : ℕ) (row : Row) (o : Option NetNo) → AllPairs StandsBefore (node_of row k o)
node_lines k row None = pairs_none StandsBefore
node_lines k row (Some net) = pairs_one StandsBefore (record { row = row; line = k; net = net })

pub nodes_ordered : (k : ℕ) (lines : List Line) → AllPairs StandsBefore (nodes_from k lines)
nodes_ordered k [] = pairs_none StandsBefore
nodes_ordered k (line ∷ lines) =
    pairs_append StandsBefore (node_of N k line.n) (node_of P k line.p ++ nodes_from (suc k) lines) (node_lines k N line.n)
    (pairs_append StandsBefore (node_of P k line.p) (nodes_from (suc k) lines) (node_lines k P line.p) (nodes_ordered (suc k) lines)
    (all_from_contains (λ a. All (StandsBefore a) (nodes_from (suc k) lines)) (node_of P k line.p) (λ a ha. all_from_contains (StandsBefore a) (nodes_from (suc k) lines) (λ b hb. inl (earlier P line.p a b ha hb)))))
    (all_from_contains (λ a. All (StandsBefore a) (node_of P k line.p ++ nodes_from (suc k) lines)) (node_of N k line.n)
    (λ a ha. All-append (StandsBefore a) (node_of P k line.p) (nodes_from (suc k) lines)
    (all_from_contains (StandsBefore a) (node_of P k line.p) (λ b hb. inr (same a b ha hb, (one_node N k line.n a ha).0, (one_node P k line.p b hb).0)))
    (all_from_contains (StandsBefore a) (nodes_from (suc k) lines) (λ b hb. inl (earlier N line.n a b ha hb)))))
  where
    earlier : (row : Row) (o : Option NetNo) (a b : NodePlace) → Contains (node_of row k o) a → Contains (nodes_from (suc k) lines) b → a.line < b.line
    earlier row o a b ha hb = omega (arith, (one_node row k o a ha).1, (node_at (suc k) lines b hb).line)

    same : (a b : NodePlace) → Contains (node_of N k line.n) a → Contains (node_of P k line.p) b → a.line ≡ b.line
    same a b ha hb = omega (arith, (one_node N k line.n a ha).1, (one_node P k line.p b hb).1)

strict : (a b : NodePlace) → StandsBefore a b → StandsBefore b a → ⊥
strict a b (inl e) (inl f) = omega (arith, e, f)
strict a b (inl e) (inr (f, _, _)) = omega (arith, e, f)
strict a b (inr (e, _, _)) (inl f) = omega (arith, e, f)
strict a b (inr (_, n, _)) (inr (_, _, p)) = absurd cc

nodes_are : (row : List Column) → All IsColumn row → length row ≤ 32 → (placement_of row).nodes ≡ nodes_from 0 (lines_of_row row)
nodes_are row columns few =
    let own : IsPlacement (placement_of row) = placement_is row columns few in
    same_list StandsBefore strict (placement_of row).nodes (nodes_from 0 (lines_of_row row)) own.node_order (nodes_ordered 0 (lines_of_row row))
    (λ node there. is_node row node ((own.nodes node).0 there)) (λ node there. (own.nodes node).1 (node_is row node there))

-- the gates, computed alike
cons_is : (k : ℕ) (o : Option NetNo) (rest : List GatePlace) → cons_option (option_map (λ net. let gate : GatePlace = record { line = k; net = net } in gate) o) rest ≡ gate_of k o ++ rest
cons_is k None rest = refl
cons_is k (Some net) rest = refl

gates_behind : (unit : ℕ) (before : Option Column) (cs : List Column) → gates_of (seats_from unit before cs) ≡ gates_from (2 * unit) (lines_behind (open_end before P) (open_end before N) cs)
gates_behind unit before [] = refl
gates_behind unit before (c ∷ cs) = go (is_gap_behind (open_end before P) (open_end before N) c) refl (gates_behind (unit + length (gap_between before c) + 1) (Some c) cs)
  where
    g : ℕ
    g = length (gap_between before c)

    more : List Line
    more = lines_behind (right_end c.p) (right_end c.n) cs

    behind : List GatePlace
    behind = gates_of (seats_from (unit + g + 1) (Some c) cs)

    step : (k : ℕ) → 2 * (unit + g) + 1 ≡ k → behind ≡ gates_from (2 * (unit + g + 1)) more → cons_option (seat_gate (record { column = c; unit = unit + g })) behind ≡ gate_of k (gate_in c.p c.n) ++ gates_from (suc k) more
    step k e ih =
        cons_is (2 * (unit + g) + 1) (gate_in c.p c.n) behind
        ∙ ap (λ m. gate_of m (gate_in c.p c.n) ++ behind) e
        ∙ ap (λ ls. gate_of k (gate_in c.p c.n) ++ ls) (ih ∙ ap (λ m. gates_from m more) (let z : 2 * (unit + g + 1) ≡ suc k = omega (arith, e) in z))

    go : (b : Bool) → is_gap_behind (open_end before P) (open_end before N) c ≡ b → behind ≡ gates_from (2 * (unit + g + 1)) more → cons_option (seat_gate (record { column = c; unit = unit + g })) behind ≡ gates_from (2 * unit) (lines_behind (open_end before P) (open_end before N) (c ∷ cs))
    go false e ih = step (suc (2 * unit)) (omega (arith, gap_count before c false e)) ih ∙ ap (λ (t : Bool). gates_from (2 * unit) (with_gap t before c more)) (sym e)
    go true e ih = step (suc (suc (suc (2 * unit)))) (omega (arith, gap_count before c true e)) ih ∙ ap (λ (t : Bool). gates_from (2 * unit) (with_gap t before c more)) (sym e)

-- no gate where an end is
plain_node : (p n : Option NetNo) → IsPlain (node_line p n)
plain_node p n net e = absurd cc

plain_gate : (c : Column) → IsPlain (gate_line c)
plain_gate c net e = (refl, refl)

plain_behind : (p n : Option NetNo) (cs : List Column) → All IsPlain (lines_behind p n cs)
plain_behind p n [] = All-cons IsPlain (node_line p n) [] (plain_node p n) (All-nil IsPlain)
plain_behind p n (c ∷ cs) = All-append IsPlain (lines_between p n c) _ (between (is_gap_behind p n c)) (All-cons IsPlain (gate_line c) _ (plain_gate c) (plain_behind (right_end c.p) (right_end c.n) cs))
  where
    one : (p n : Option NetNo) → All IsPlain (node_line p n ∷ [])
    one p n = All-cons IsPlain (node_line p n) [] (plain_node p n) (All-nil IsPlain)

    between : (b : Bool) → All IsPlain (cond b (node_line p n ∷ node_line None None ∷ node_line (left_end c.p) (left_end c.n) ∷ []) (node_line (or_else p (left_end c.p)) (or_else n (left_end c.n)) ∷ []))
    between true = All-cons IsPlain (node_line p n) (node_line None None ∷ node_line (left_end c.p) (left_end c.n) ∷ []) (plain_node p n) (All-cons IsPlain (node_line None None) (node_line (left_end c.p) (left_end c.n) ∷ []) (plain_node None None) (one (left_end c.p) (left_end c.n)))
    between false = one (or_else p (left_end c.p)) (or_else n (left_end c.n))

-- the law: the lines of a row are those of its placement
pub lines_placed : (row : List Column) → All IsColumn row → length row ≤ 32 → AreLinesOf (placement_of row) (lines_of_row row)
lines_placed row columns few = record { nodes = nodes_are row columns few; gates = gates_behind 0 None row; plain = plain_behind None None row }
