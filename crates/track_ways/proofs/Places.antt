-- The places of a net, by the lines of a placement.
use Rattle.std.proofs.Common.{ℕ, zero, suc, ◌≡◌, ◌+◌, ◌⊎◌, ◌++◌, ◌==◌, Bool, true, false, List, [], ◌∷◌, Option, Some, None, map, filter, inl, inr, sym, ap, subst, arith, Contains, option_map}
use Rattle.std.proofs.lemmas.Bool.{or_left, or_right, or_cases}
use Rattle.std.proofs.lemmas.List.Elements.{Contains-append_cases, Contains-append_left, Contains-append_right}
use Rattle.cell_num.specs.declared.net.NetNo.{NetNo}
use Rattle.cell_num.specs.declared.finger.Row.{Row}
use Rattle.cell_num.specs.declared.finger.Row.TheVariants.{P, N}
use Rattle.cell_num.proofs.Lists.{some_same, contains_none, contains_here, contains_option}
use Rattle.cell_num.proofs.In.{Image, in_map}
use Rattle.row_model.proofs.Decide.{net_decides}
use Rattle.row_place.specs.declared.placement.NodePlace.{NodePlace}
use Rattle.row_place.specs.declared.placement.GatePlace.{GatePlace}
use Rattle.row_place.specs.declared.placement.Placement.{Placement}
use Rattle.row_place.specs.Trunks.{lines_of}
use Rattle.channel_route.proofs.NetWires.{line_kept}
use Rattle.track_ways.specs.declared.line.Line.{Line}
use Rattle.track_ways.specs.Lines.{is_net, has_place}
pub use Rattle.track_ways.specs.Fillings.{is_net_some, kept, some_is_net}
use Rattle.track_ways.specs.Channel.{side, node_of, nodes_from, gate_of, gates_from, AreLinesOf}

abbrev pub the_node : Row → ℕ → NetNo → NodePlace
the_node row line net = record { row = row; line = line; net = net }

abbrev pub the_gate : ℕ → NetNo → GatePlace
the_gate line net = record { line = line; net = net }

-- what is so at a line of a list
abbrev pub at_line : List Line → ℕ → (Line → Bool) → Bool
at_line [] i f = false
at_line (line ∷ lines) zero f = f line
at_line (line ∷ lines) (suc i) f = at_line lines i f

pub at_less : (lines : List Line) (i : ℕ) (f g : Line → Bool) → ((line : Line) → f line ≡ true → g line ≡ true) → at_line lines i f ≡ true → at_line lines i g ≡ true
at_less [] i f g h e = e
at_less (line ∷ lines) zero f g h e = h line e
at_less (line ∷ lines) (suc i) f g h e = at_less lines i f g h e

-- a node place of the lines
pub record NodeAt (k : ℕ) (lines : List Line) (node : NodePlace) : Type 0 where
  pub at : ℕ
  pub line : node.line ≡ k + at
  pub there : at_line lines at (λ l. is_net (side node.row l) node.net) ≡ true

pub one_node : (row : Row) (k : ℕ) (o : Option NetNo) (node : NodePlace) → Contains (node_of row k o) node → (node.row ≡ row) × (node.line ≡ k) × (o ≡ Some node.net)
one_node row k o node there = at o (contains_option _ node there)
  where
    at : (o : Option NetNo) → option_map (λ net. the_node row k net) o ≡ Some node → (node.row ≡ row) × (node.line ≡ k) × (o ≡ Some node.net)
    at None e = absurd cc
    at (Some net) e = let same : the_node row k net ≡ node = some_same _ _ e in (ap (λ (z : NodePlace). z.row) (sym same), ap (λ (z : NodePlace). z.line) (sym same), ap (λ (z : NodePlace). Some z.net) same)

node_first : (k : ℕ) (line : Line) (lines : List Line) (row : Row) (node : NodePlace) → Contains (node_of row k (side row line)) node → NodeAt k (line ∷ lines) node
node_first k line lines row node there =
    let is = one_node row k (side row line) node there in
    record { at = 0; line = omega (arith, is.1); there = is_net_some (side node.row line) node.net (subst (λ r. side r line ≡ Some node.net) (sym is.0) is.2) }

node_later : (k : ℕ) (line : Line) (lines : List Line) (node : NodePlace) → NodeAt (suc k) lines node → NodeAt k (line ∷ lines) node
node_later k line lines node h = record { at = suc h.at; line = omega (arith, h.line); there = h.there }

pub node_at : (k : ℕ) (lines : List Line) (node : NodePlace) → Contains (nodes_from k lines) node → NodeAt k lines node
node_at k [] node h = absurd (contains_none node h)
node_at k (line ∷ lines) node h =
    elim (Contains-append_cases (node_of N k line.n) (node_of P k line.p ++ nodes_from (suc k) lines) node h) [
      | inl n ↦ node_first k line lines N node n
      | inr other ↦ elim (Contains-append_cases (node_of P k line.p) (nodes_from (suc k) lines) node other) [
        | inl p ↦ node_first k line lines P node p
        | inr rest ↦ node_later k line lines node (node_at (suc k) lines node rest)
      ]
    ]

node_one : (row : Row) (k : ℕ) (o : Option NetNo) (net : NetNo) → is_net o net ≡ true → Contains (node_of row k o) (the_node row k net)
node_one row k o net e = subst (λ q. Contains (node_of row k q) (the_node row k net)) (sym (some_is_net o net e)) (contains_here (the_node row k net) [])

pub node_there : (k : ℕ) (lines : List Line) (i : ℕ) (row : Row) (net : NetNo) → at_line lines i (λ l. is_net (side row l) net) ≡ true → Contains (nodes_from k lines) (the_node row (k + i) net)
node_there k [] i row net e = absurd cc
node_there k (line ∷ lines) zero N net e = subst (λ m. Contains (nodes_from k (line ∷ lines)) (the_node N m net)) (let z : k ≡ k + 0 = omega arith in z) (Contains-append_left _ _ _ (node_one N k line.n net e))
node_there k (line ∷ lines) zero P net e = subst (λ m. Contains (nodes_from k (line ∷ lines)) (the_node P m net)) (let z : k ≡ k + 0 = omega arith in z) (Contains-append_right (node_of N k line.n) _ _ (Contains-append_left _ _ _ (node_one P k line.p net e)))
node_there k (line ∷ lines) (suc i) row net e = subst (λ m. Contains (nodes_from k (line ∷ lines)) (the_node row m net)) (let z : suc k + i ≡ k + suc i = omega arith in z) (Contains-append_right (node_of N k line.n) _ _ (Contains-append_right (node_of P k line.p) _ _ (node_there (suc k) lines i row net e)))

-- a gate place of the lines
pub record GateAt (k : ℕ) (lines : List Line) (gate : GatePlace) : Type 0 where
  pub at : ℕ
  pub line : gate.line ≡ k + at
  pub there : at_line lines at (λ l. is_net l.gate gate.net) ≡ true

one_gate : (k : ℕ) (o : Option NetNo) (gate : GatePlace) → Contains (gate_of k o) gate → (gate.line ≡ k) × (o ≡ Some gate.net)
one_gate k o gate there = at o (contains_option _ gate there)
  where
    at : (o : Option NetNo) → option_map (λ net. the_gate k net) o ≡ Some gate → (gate.line ≡ k) × (o ≡ Some gate.net)
    at None e = absurd cc
    at (Some net) e = let same : the_gate k net ≡ gate = some_same _ _ e in (ap (λ (z : GatePlace). z.line) (sym same), ap (λ (z : GatePlace). Some z.net) same)

pub gate_at : (k : ℕ) (lines : List Line) (gate : GatePlace) → Contains (gates_from k lines) gate → GateAt k lines gate
gate_at k [] gate h = absurd (contains_none gate h)
gate_at k (line ∷ lines) gate h =
    elim (Contains-append_cases (gate_of k line.gate) (gates_from (suc k) lines) gate h) [
      | inl here ↦ let is = one_gate k line.gate gate here in record { at = 0; line = omega (arith, is.0); there = is_net_some line.gate gate.net is.1 }
      | inr rest ↦ later (gate_at (suc k) lines gate rest)
    ]
  where
    later : GateAt (suc k) lines gate → GateAt k (line ∷ lines) gate
    later g = record { at = suc g.at; line = omega (arith, g.line); there = g.there }

gate_one : (k : ℕ) (o : Option NetNo) (net : NetNo) → is_net o net ≡ true → Contains (gate_of k o) (the_gate k net)
gate_one k o net e = subst (λ q. Contains (gate_of k q) (the_gate k net)) (sym (some_is_net o net e)) (contains_here (the_gate k net) [])

pub gate_there : (k : ℕ) (lines : List Line) (i : ℕ) (net : NetNo) → at_line lines i (λ l. is_net l.gate net) ≡ true → Contains (gates_from k lines) (the_gate (k + i) net)
gate_there k [] i net e = absurd cc
gate_there k (line ∷ lines) zero net e = subst (λ m. Contains (gates_from k (line ∷ lines)) (the_gate m net)) (let z : k ≡ k + 0 = omega arith in z) (Contains-append_left _ _ _ (gate_one k line.gate net e))
gate_there k (line ∷ lines) (suc i) net e = subst (λ m. Contains (gates_from k (line ∷ lines)) (the_gate m net)) (let z : suc k + i ≡ k + suc i = omega arith in z) (Contains-append_right (gate_of k line.gate) _ _ (gate_there (suc k) lines i net e))

-- the lines of the places of a net are those at which it stands
pub line_at : (p : Placement) (lines : List Line) → AreLinesOf p lines → (net : NetNo) (l : ℕ) → Contains (lines_of p net) l → at_line lines l (λ line. has_place line net) ≡ true
line_at p lines h net l there =
    elim (Contains-append_cases (map (λ (z : NodePlace). z.line) (filter (λ (z : NodePlace). z.net.0 == net.0) p.nodes)) (map (λ (z : GatePlace). z.line) (filter (λ (z : GatePlace). z.net.0 == net.0) p.gates)) l there) [
      | inl node ↦ at_node (in_map (λ (z : NodePlace). z.line) _ l node)
      | inr gate ↦ at_gate (in_map (λ (z : GatePlace). z.line) _ l gate)
    ]
  where
    row_place : (row : Row) (line : Line) → is_net (side row line) net ≡ true → has_place line net ≡ true
    row_place P line e = or_left _ _ e
    row_place N line e = or_right (is_net line.p net) _ (or_left _ _ e)

    at_node : Image (λ (z : NodePlace). z.line) (filter (λ (z : NodePlace). z.net.0 == net.0) p.nodes) l → at_line lines l (λ line. has_place line net) ≡ true
    at_node i =
        let k = kept (λ (z : NodePlace). z.net.0 == net.0) p.nodes i.of i.listed in
        let n : NodeAt 0 lines i.of = node_at 0 lines i.of (subst (λ ns. Contains ns i.of) h.nodes k.0) in
        let same : i.of.net ≡ net = (net_decides i.of.net net).0 k.1 in
        let line : n.at ≡ l = omega (arith, n.line, i.is) in
        subst (λ m. at_line lines m (λ line. has_place line net) ≡ true) line
        (at_less lines n.at (λ q. is_net (side i.of.row q) i.of.net) (λ line. has_place line net) (λ line e. row_place i.of.row line (subst (λ m. is_net (side i.of.row line) m ≡ true) same e)) n.there)

    at_gate : Image (λ (z : GatePlace). z.line) (filter (λ (z : GatePlace). z.net.0 == net.0) p.gates) l → at_line lines l (λ line. has_place line net) ≡ true
    at_gate i =
        let k = kept (λ (z : GatePlace). z.net.0 == net.0) p.gates i.of i.listed in
        let n : GateAt 0 lines i.of = gate_at 0 lines i.of (subst (λ ns. Contains ns i.of) h.gates k.0) in
        let same : i.of.net ≡ net = (net_decides i.of.net net).0 k.1 in
        let line : n.at ≡ l = omega (arith, n.line, i.is) in
        subst (λ m. at_line lines m (λ line. has_place line net) ≡ true) line
        (at_less lines n.at (λ q. is_net q.gate i.of.net) (λ line. has_place line net) (λ line e. or_right (is_net line.p net) _ (or_right (is_net line.n net) _ (subst (λ m. is_net line.gate m ≡ true) same e))) n.there)

-- the other way
pub place_row : (line : Line) (net : NetNo) → has_place line net ≡ true → (is_net line.p net ≡ true) ⊎ ((is_net line.n net ≡ true) ⊎ (is_net line.gate net ≡ true))
place_row line net e = elim (or_cases _ _ e) [ inl p ↦ inl p | inr rest ↦ inr (or_cases _ _ rest) ]

at_split : (lines : List Line) (l : ℕ) (net : NetNo) → at_line lines l (λ line. has_place line net) ≡ true → (at_line lines l (λ q. is_net q.p net) ≡ true) ⊎ ((at_line lines l (λ q. is_net q.n net) ≡ true) ⊎ (at_line lines l (λ q. is_net q.gate net) ≡ true))
at_split [] l net e = absurd cc
at_split (line ∷ lines) zero net e = place_row line net e
at_split (line ∷ lines) (suc l) net e = at_split lines l net e

pub node_line : (p : Placement) (row : Row) (l : ℕ) (net : NetNo) → Contains p.nodes (the_node row l net) → Contains (lines_of p net) l
node_line p row l net there = Contains-append_left _ _ l (line_kept (λ (z : NodePlace). z.net) (λ (z : NodePlace). z.line) p.nodes (the_node row l net) there)

gate_line : (p : Placement) (l : ℕ) (net : NetNo) → Contains p.gates (the_gate l net) → Contains (lines_of p net) l
gate_line p l net there = Contains-append_right (map (λ (z : NodePlace). z.line) (filter (λ (z : NodePlace). z.net.0 == net.0) p.nodes)) _ l (line_kept (λ (z : GatePlace). z.net) (λ (z : GatePlace). z.line) p.gates (the_gate l net) there)

pub node_of_line : (p : Placement) (lines : List Line) → AreLinesOf p lines → (l : ℕ) (row : Row) (net : NetNo) → at_line lines l (λ q. is_net (side row q) net) ≡ true → Contains p.nodes (the_node row l net)
node_of_line p lines h l row net e = subst (λ ns. Contains ns (the_node row l net)) (sym h.nodes) (subst (λ m. Contains (nodes_from 0 lines) (the_node row m net)) (let z : 0 + l ≡ l = omega arith in z) (node_there 0 lines l row net e))

pub at_lines : (p : Placement) (lines : List Line) → AreLinesOf p lines → (net : NetNo) (l : ℕ) → at_line lines l (λ line. has_place line net) ≡ true → Contains (lines_of p net) l
at_lines p lines h net l e =
    elim (at_split lines l net e) [
      | inl top ↦ node_line p P l net (node_of_line p lines h l P net top)
      | inr other ↦ elim other [
        | inl bottom ↦ node_line p N l net (node_of_line p lines h l N net bottom)
        | inr gate ↦ gate_line p l net (subst (λ ns. Contains ns (the_gate l net)) (sym h.gates) (subst (λ m. Contains (gates_from 0 lines) (the_gate m net)) (let z : 0 + l ≡ l = omega arith in z) (gate_there 0 lines l net gate)))
      ]
    ]
