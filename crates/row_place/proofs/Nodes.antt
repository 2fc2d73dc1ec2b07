-- The computed node places are exactly those of the definition, in order.
use Rattle.std.proofs.Common.{ℕ, zero, suc, ◌≡◌, ◌+◌, ◌*◌, ◌<◌, ◌≤◌, ◌⊎◌, ◌↔◌, ◌++◌, ◌==◌, Bool, true, false, not, cond, ◌||◌, List, [], ◌∷◌, Option, Some, None, length, inl, inr, refl, sym, ap, subst, arith, All, AllPairs, Contains, option_map, option_to_list, append-nil}
use Rattle.std.proofs.lemmas.Bool.{cases_Bool, cases_eq, cases_order, eq-eqb, ne_eqb}
use Rattle.std.proofs.lemmas.List.Elements.{Contains-append_left, Contains-append_right, Contains-append_cases}
use Rattle.std.proofs.lemmas.List.Quantifiers.{all_pairs_push}
use Rattle.cell_num.specs.declared.net.NetNo.{NetNo}
use Rattle.cell_num.specs.declared.finger.Row.{Row}
use Rattle.cell_num.specs.declared.finger.Row.TheVariants.{P, N}
use Rattle.row_model.specs.declared.column.Placed.{Placed}
use Rattle.row_model.specs.declared.column.Column.{Column}
use Rattle.row_model.specs.Arrangement.{place}
use Rattle.row_model.specs.Gaps.{left_net, right_net, facing_differs, is_gap}
use Rattle.row_model.proofs.Decide.{net_decides}
use Rattle.row_place.specs.declared.placement.NodePlace.{NodePlace}
use Rattle.row_place.specs.declared.placement.Seat.{Seat}
use Rattle.row_place.specs.Units.{gap_between, units_of, unit_of, seats_from, seats_of}
use Rattle.row_place.specs.Places.{IsNode, StandsBefore}
use Rattle.row_place.specs.Steps.{end_at, or_else, first_net, node_at, nodes_below}
use Rattle.cell_num.proofs.Lists.{some_same, contains_none, contains_cons, contains_here, contains_there, contains_option, all_from_contains}
use Rattle.row_place.proofs.Units.{SitsAt, seat_at, seat_from, unit_below, unit_from, next_unit}

-- which end is at a line
pub record Ends (line unit : ℕ) (placed : Option Placed) (net : NetNo) : Type 0 where
  pub finger : Placed
  pub filled : placed ≡ Some finger
  pub end : ((line ≡ 2 * unit) × (net ≡ left_net finger)) ⊎ ((line ≡ 2 * unit + 2) × (net ≡ right_net finger))

end_cases : (line unit : ℕ) (placed : Option Placed) (net : NetNo) → end_at line unit placed ≡ Some net → Ends line unit placed net
end_cases line unit None net e = absurd cc
end_cases line unit (Some x) net e =
    elim (cases_eq line (2 * unit)) [
      | inl left ↦ record { finger = x; filled = refl; end = inl (left, some_same net (left_net x) (sym (subst (λ b. cond b (Some (left_net x)) (cond (line == 2 * unit + 2) (Some (right_net x)) None) ≡ Some net) (eq-eqb _ _ left) e))) }
      | inr other ↦
          let e2 : cond (line == 2 * unit + 2) (Some (right_net x)) None ≡ Some net = subst (λ b. cond b (Some (left_net x)) (cond (line == 2 * unit + 2) (Some (right_net x)) None) ≡ Some net) (ne_eqb _ _ other) e in
          elim (cases_eq line (2 * unit + 2)) [
            | inl right ↦ record { finger = x; filled = refl; end = inr (right, some_same net (right_net x) (sym (subst (λ b. cond b (Some (right_net x)) None ≡ Some net) (eq-eqb _ _ right) e2))) }
            | inr neither ↦ absurd (none net (subst (λ b. cond b (Some (right_net x)) None ≡ Some net) (ne_eqb _ _ neither) e2))
          ]
    ]
  where
    none : (net : NetNo) → None ≡ Some net → ⊥
    none net e = absurd cc

end_there : (line unit : ℕ) (placed : Option Placed) (net : NetNo) → Ends line unit placed net → end_at line unit placed ≡ Some net
end_there line unit placed net h = subst (λ p. end_at line unit p ≡ Some net) (sym h.filled) (at h.finger h.end)
  where
    at : (x : Placed) → ((line ≡ 2 * unit) × (net ≡ left_net x)) ⊎ ((line ≡ 2 * unit + 2) × (net ≡ right_net x)) → end_at line unit (Some x) ≡ Some net
    at x (inl (left, is)) = rw (eq-eqb line (2 * unit) left) (ap (λ n. Some n) (sym is))
    at x (inr (right, is)) =
        let other : (line == 2 * unit) ≡ false = ne_eqb line (2 * unit) (λ same. omega (arith, right, same)) in
        rw other (rw (eq-eqb line (2 * unit + 2) right) (ap (λ n. Some n) (sym is)))

-- where no gap is between two columns, the facing nets of a row that both fill are one
facing_same : (x y : Placed) → facing_differs (Some x) (Some y) ≡ false → right_net x ≡ left_net y
facing_same x y e =
    elim (cases_Bool ((right_net x).0 == (left_net y).0)) [
      | inl same ↦ (net_decides (right_net x) (left_net y)).0 same
      | inr other ↦ absurd (let wrong : not ((right_net x).0 == (left_net y).0) ≡ true = rw other refl in grind (arith, wrong, e))
    ]

no_gap_parts : (a b : Bool) → (a || b) ≡ false → (a ≡ false) × (b ≡ false)
no_gap_parts a b e = grind (arith, e)

no_gap_same : (row : Row) (a b : Column) (x y : Placed) → is_gap (a, b) ≡ false → place row a ≡ Some x → place row b ≡ Some y → right_net x ≡ left_net y
no_gap_same row a b x y e here there = at row here there
  where
    parts : (facing_differs a.p b.p ≡ false) × (facing_differs a.n b.n ≡ false)
    parts = no_gap_parts _ _ e

    at : (row : Row) → place row a ≡ Some x → place row b ≡ Some y → right_net x ≡ left_net y
    at P ha hb = facing_same x y (subst (λ p. facing_differs p (Some y) ≡ false) ha (subst (λ p. facing_differs a.p p ≡ false) hb parts.0))
    at N ha hb = facing_same x y (subst (λ p. facing_differs p (Some y) ≡ false) ha (subst (λ p. facing_differs a.n p ≡ false) hb parts.1))

-- the end that a seat has at a line in a row
abbrev seat_end : Row → ℕ → Seat → Option NetNo
seat_end row line s = end_at line s.unit (place row s.column)

-- a column and one behind it
head_tail : (unit : ℕ) (c : Column) (row : List Column) (side : Row) (line : ℕ) (s : Seat) (m n : NetNo) → Contains (seats_from (unit + 1) (Some c) row) s → Ends line unit (place side c) m → Ends line s.unit (place side s.column) n → m ≡ n
head_tail unit c row side line s m n there a b =
    let behind : unit + 1 ≤ s.unit = unit_from (unit + 1) (Some c) row s there in
    go behind a.end b.end
  where
    go : unit + 1 ≤ s.unit → ((line ≡ 2 * unit) × (m ≡ left_net a.finger)) ⊎ ((line ≡ 2 * unit + 2) × (m ≡ right_net a.finger)) → ((line ≡ 2 * s.unit) × (n ≡ left_net b.finger)) ⊎ ((line ≡ 2 * s.unit + 2) × (n ≡ right_net b.finger)) → m ≡ n
    go behind (inl (e, _)) (inl (f, _)) = absurd (omega (arith, behind, e, f))
    go behind (inl (e, _)) (inr (f, _)) = absurd (omega (arith, behind, e, f))
    go behind (inr (e, _)) (inr (f, _)) = absurd (omega (arith, behind, e, f))
    go behind (inr (e, em)) (inl (f, fn)) =
        let joined : is_gap (c, s.column) ≡ false = next_unit (unit + 1) c row s there (omega (arith, behind, e, f)) in
        let facing : right_net a.finger ≡ left_net b.finger = no_gap_same side c s.column a.finger b.finger joined a.filled b.filled in
        cc

-- all ends at one line of a row have one net
same_net : (unit : ℕ) (before : Option Column) (row : List Column) (side : Row) (line : ℕ) (s t : Seat) (m n : NetNo) → Contains (seats_from unit before row) s → Contains (seats_from unit before row) t → seat_end side line s ≡ Some m → seat_end side line t ≡ Some n → m ≡ n
same_net unit before [] side line s t m n hs ht es et = absurd (contains_none s hs)
same_net unit before (c ∷ row) side line s t m n hs ht es et =
    elim (contains_cons _ _ s hs) [
      | inl s_first ↦ elim (contains_cons _ _ t ht) [
        | inl t_first ↦ some_same m n (let one : s ≡ t = cc in subst (λ z. seat_end side line z ≡ Some n → Some m ≡ Some n) one (λ f. cc) et)
        | inr t_rest ↦ head_tail (unit + length (gap_between before c)) c row side line t m n t_rest (end_cases _ _ _ m (subst (λ z. seat_end side line z ≡ Some m) (sym s_first) es)) (end_cases _ _ _ n et)
      ]
      | inr s_rest ↦ elim (contains_cons _ _ t ht) [
        | inl t_first ↦ sym (head_tail (unit + length (gap_between before c)) c row side line s n m s_rest (end_cases _ _ _ n (subst (λ z. seat_end side line z ≡ Some n) (sym t_first) et)) (end_cases _ _ _ m es))
        | inr t_rest ↦ same_net (unit + length (gap_between before c) + 1) (Some c) row side line s t m n s_rest t_rest es et
      ]
    ]

-- the seat that the first end at a line is of
pub record Found (row : Row) (line : ℕ) (seats : List Seat) (net : NetNo) : Type 0 where
  pub seat : Seat
  pub there : Contains seats seat
  pub end : end_at line seat.unit (place row seat.column) ≡ Some net

found_more : (row : Row) (line : ℕ) (s : Seat) (seats : List Seat) (net : NetNo) → Found row line seats net → Found row line (s ∷ seats) net
found_more row line s seats net f = record { seat = f.seat; there = contains_there s seats f.seat f.there; end = f.end }

first_found : (row : Row) (line : ℕ) (seats : List Seat) (net : NetNo) → first_net row line seats ≡ Some net → Found row line seats net
first_found row line [] net e = absurd cc
first_found row line (s ∷ seats) net e = at (seat_end row line s) refl (λ rest. found_more row line s seats net (first_found row line seats net rest))
  where
    at : (o : Option NetNo) → seat_end row line s ≡ o → (first_net row line seats ≡ Some net → Found row line (s ∷ seats) net) → Found row line (s ∷ seats) net
    at None is rest = rest (subst (λ o. or_else o (first_net row line seats) ≡ Some net) is e)
    at (Some n) is rest = record { seat = s; there = contains_here s seats; end = let same : Some n ≡ Some net = subst (λ o. or_else o (first_net row line seats) ≡ Some net) is e in cc }

some_first : (row : Row) (line : ℕ) (seats : List Seat) (s : Seat) (net : NetNo) → Contains seats s → seat_end row line s ≡ Some net → (first : NetNo) × (first_net row line seats ≡ Some first)
some_first row line [] s net there e = absurd (contains_none s there)
some_first row line (t ∷ seats) s net there e = at (seat_end row line t) refl (λ rest. some_first row line seats s net rest e)
  where
    at : (o : Option NetNo) → seat_end row line t ≡ o → (Contains seats s → (first : NetNo) × (first_net row line seats ≡ Some first)) → (first : NetNo) × (or_else (seat_end row line t) (first_net row line seats) ≡ Some first)
    at (Some n) is rest = (n, subst (λ o. or_else o (first_net row line seats) ≡ Some n) (sym is) refl)
    at None is rest =
        elim (contains_cons t seats s there) [
          | inl same ↦ absurd (clash (subst (λ z. seat_end row line z ≡ Some net) (sym same) e))
          | inr behind ↦ let found = rest behind in (found.0, subst (λ o. or_else o (first_net row line seats) ≡ Some found.0) (sym is) found.1)
        ]
      where
        clash : seat_end row line t ≡ Some net → ⊥
        clash f = cc

-- the node places below a line, and what they are
abbrev the_node : Row → ℕ → NetNo → NodePlace
the_node row line net = record { row = row; line = line; net = net }

pub record Node (seats : List Seat) (n : ℕ) (node : NodePlace) : Type 0 where
  pub half : ℕ
  pub below : half < n
  pub line : node.line ≡ 2 * half
  pub net : first_net node.row node.line seats ≡ Some node.net

one_node : (row : Row) (line : ℕ) (seats : List Seat) (node : NodePlace) → Contains (node_at row line seats) node → (node.row ≡ row) × (node.line ≡ line) × (first_net row line seats ≡ Some node.net)
one_node row line seats node there = at (first_net row line seats) (contains_option _ node there)
  where
    at : (o : Option NetNo) → option_map (λ net. the_node row line net) o ≡ Some node → (node.row ≡ row) × (node.line ≡ line) × (o ≡ Some node.net)
    at None e = absurd cc
    at (Some net) e = let same : the_node row line net ≡ node = some_same _ _ e in (ap (λ (z : NodePlace). z.row) (sym same), ap (λ (z : NodePlace). z.line) (sym same), ap (λ (z : NodePlace). Some z.net) same)

node_more : (seats : List Seat) (n : ℕ) (node : NodePlace) → Node seats n node → Node seats (suc n) node
node_more seats n node h = record { half = h.half; below = omega (arith, h.below); line = h.line; net = h.net }

node_new : (seats : List Seat) (n : ℕ) (row : Row) (node : NodePlace) → Contains (node_at row (2 * n) seats) node → Node seats (suc n) node
node_new seats n row node there =
    let is = one_node row (2 * n) seats node there in
    record { half = n; below = omega arith; line = is.1; net = subst (λ r. first_net r node.line seats ≡ Some node.net) (sym is.0) (subst (λ l. first_net row l seats ≡ Some node.net) (sym is.1) is.2) }

nodes_are : (seats : List Seat) (n : ℕ) (node : NodePlace) → Contains (nodes_below seats n) node → Node seats n node
nodes_are seats zero node h = absurd (contains_none node h)
nodes_are seats (suc n) node h =
    elim (Contains-append_cases (nodes_below seats n ++ node_at N (2 * n) seats) (node_at P (2 * n) seats) node h) [
      | inr p ↦ node_new seats n P node p
      | inl rest ↦ elim (Contains-append_cases (nodes_below seats n) (node_at N (2 * n) seats) node rest) [
        | inr n_place ↦ node_new seats n N node n_place
        | inl before ↦ node_more seats n node (nodes_are seats n node before)
      ]
    ]

some_node : (row : Row) (line : ℕ) (seats : List Seat) (net : NetNo) → first_net row line seats ≡ Some net → Contains (node_at row line seats) (the_node row line net)
some_node row line seats net e = subst (λ o. Contains (option_to_list (option_map (λ m. the_node row line m) o)) (the_node row line net)) (sym e) (contains_here _ [])

node_last : (seats : List Seat) (n : ℕ) (row : Row) (net : NetNo) → first_net row (2 * n) seats ≡ Some net → Contains (nodes_below seats (suc n)) (the_node row (2 * n) net)
node_last seats n P net e = Contains-append_right (nodes_below seats n ++ node_at N (2 * n) seats) (node_at P (2 * n) seats) _ (some_node P (2 * n) seats net e)
node_last seats n N net e = Contains-append_left (nodes_below seats n ++ node_at N (2 * n) seats) (node_at P (2 * n) seats) _ (Contains-append_right (nodes_below seats n) (node_at N (2 * n) seats) _ (some_node N (2 * n) seats net e))

node_stands : (seats : List Seat) (n half : ℕ) (row : Row) (net : NetNo) → half < n → first_net row (2 * half) seats ≡ Some net → Contains (nodes_below seats n) (the_node row (2 * half) net)
node_stands seats zero half row net below e = absurd (omega arith)
node_stands seats (suc n) half row net below e =
    elim (cases_order half n) [
      | inl last ↦ subst (λ h. Contains (nodes_below seats (suc n)) (the_node row (2 * h) net)) (sym last) (node_last seats n row net (subst (λ h. first_net row (2 * h) seats ≡ Some net) last e))
      | inr other ↦ elim other [
        | inl less ↦ Contains-append_left (nodes_below seats n ++ node_at N (2 * n) seats) (node_at P (2 * n) seats) _ (Contains-append_left (nodes_below seats n) (node_at N (2 * n) seats) _ (node_stands seats n half row net less e))
        | inr more ↦ absurd (omega (arith, below, more))
      ]
    ]

-- in order of line, N before P
order_option : (xs : List NodePlace) (o : Option NodePlace) → AllPairs StandsBefore xs → ((y : NodePlace) → o ≡ Some y → All (λ x. StandsBefore x y) xs) → AllPairs StandsBefore (xs ++ option_to_list o)
order_option xs None pairs h = subst (λ zs. AllPairs StandsBefore zs) (sym (append-nil xs)) pairs
order_option xs (Some y) pairs h = all_pairs_push StandsBefore xs y pairs (h y refl)

pub nodes_in_order : (seats : List Seat) (n : ℕ) → AllPairs StandsBefore (nodes_below seats n)
nodes_in_order seats zero = λ i j d less short. absurd (omega (arith, short))
nodes_in_order seats (suc n) =
    let first : AllPairs StandsBefore (nodes_below seats n ++ node_at N (2 * n) seats) =
    order_option (nodes_below seats n) (option_map (λ net. the_node N (2 * n) net) (first_net N (2 * n) seats)) (nodes_in_order seats n) (λ y e. all_from_contains _ (nodes_below seats n) (λ x there. behind N x y there e)) in
    order_option (nodes_below seats n ++ node_at N (2 * n) seats) (option_map (λ net. the_node P (2 * n) net) (first_net P (2 * n) seats)) first
    (λ y e. all_from_contains _ (nodes_below seats n ++ node_at N (2 * n) seats) (λ x there.
    elim (Contains-append_cases (nodes_below seats n) (node_at N (2 * n) seats) x there) [
      | inl old ↦ behind P x y old e
      | inr new ↦
          let here = one_node N (2 * n) seats x new in
          let there = made_node P (2 * n) (first_net P (2 * n) seats) y e in
          inr (omega (arith, here.1, there.1), here.0, there.0)
    ]))
  where
    made_node : (row : Row) (line : ℕ) (o : Option NetNo) (y : NodePlace) → option_map (λ net. the_node row line net) o ≡ Some y → (y.row ≡ row) × (y.line ≡ line)
    made_node row line None y e = absurd cc
    made_node row line (Some net) y e = let same : the_node row line net ≡ y = some_same _ _ e in (ap (λ (z : NodePlace). z.row) (sym same), ap (λ (z : NodePlace). z.line) (sym same))

    behind : (row : Row) (x y : NodePlace) → Contains (nodes_below seats n) x → option_map (λ net. the_node row (2 * n) net) (first_net row (2 * n) seats) ≡ Some y → StandsBefore x y
    behind row x y there e =
        let low : Node seats n x = nodes_are seats n x there in
        let high = made_node row (2 * n) (first_net row (2 * n) seats) y e in
        inl (omega (arith, low.line, low.below, high.1))

-- they are those of the definition
seat_node : (row : List Column) (node : NodePlace) → IsNode row node → (seat : Seat) × Contains (seats_of row) seat × (seat_end node.row node.line seat ≡ Some node.net)
seat_node row node h =
    let seat : Seat = record { column = h.column; unit = unit_of row h.at } in
    (seat, seat_from row seat h.at h.stands refl, end_there node.line (unit_of row h.at) (place node.row h.column) node.net (record { finger = h.finger; filled = h.filled; end = h.end }))

first_is : (row : List Column) (node : NodePlace) → IsNode row node → first_net node.row node.line (seats_of row) ≡ Some node.net
first_is row node h =
    let mine = seat_node row node h in
    let some = some_first node.row node.line (seats_of row) mine.0 node.net mine.1 mine.2 in
    let found : Found node.row node.line (seats_of row) some.0 = first_found node.row node.line (seats_of row) some.0 some.1 in
    subst (λ net. first_net node.row node.line (seats_of row) ≡ Some net) (same_net 0 None row node.row node.line found.seat mine.0 some.0 node.net found.there mine.1 found.end mine.2) some.1

pub nodes_exact : (row : List Column) (node : NodePlace) → Contains (nodes_below (seats_of row) (length (units_of row) + 1)) node ↔ IsNode row node
nodes_exact row node = (sound, complete)
  where
    sound : Contains (nodes_below (seats_of row) (length (units_of row) + 1)) node → IsNode row node
    sound there =
        let is : Node (seats_of row) (length (units_of row) + 1) node = nodes_are (seats_of row) (length (units_of row) + 1) node there in
        let found : Found node.row node.line (seats_of row) node.net = first_found node.row node.line (seats_of row) node.net is.net in
        let sits : SitsAt row found.seat = seat_at row found.seat found.there in
        let ends : Ends node.line found.seat.unit (place node.row found.seat.column) node.net = end_cases node.line found.seat.unit (place node.row found.seat.column) node.net found.end in
        record { at = sits.at; column = found.seat.column; finger = ends.finger; stands = sits.stands; filled = ends.filled; end = subst (λ u. ((node.line ≡ 2 * u) × (node.net ≡ left_net ends.finger)) ⊎ ((node.line ≡ 2 * u + 2) × (node.net ≡ right_net ends.finger))) sits.unit ends.end }

    at_half : (half : ℕ) → node.line ≡ 2 * half → half < length (units_of row) + 1 → IsNode row node → Contains (nodes_below (seats_of row) (length (units_of row) + 1)) node
    at_half half e below h = subst (λ l. first_net node.row l (seats_of row) ≡ Some node.net → Contains (nodes_below (seats_of row) (length (units_of row) + 1)) (the_node node.row l node.net)) (sym e) (λ first. node_stands (seats_of row) (length (units_of row) + 1) half node.row node.net below first) (first_is row node h)

    complete : IsNode row node → Contains (nodes_below (seats_of row) (length (units_of row) + 1)) node
    complete h = by h.end
      where
        by : ((node.line ≡ 2 * unit_of row h.at) × (node.net ≡ left_net h.finger)) ⊎ ((node.line ≡ 2 * unit_of row h.at + 2) × (node.net ≡ right_net h.finger)) → Contains (nodes_below (seats_of row) (length (units_of row) + 1)) node
        by (inl (e, _)) = at_half (unit_of row h.at) e (omega (arith, unit_below row h.at h.column h.stands)) h
        by (inr (e, _)) = at_half (unit_of row h.at + 1) (omega (arith, e)) (omega (arith, unit_below row h.at h.column h.stands)) h
