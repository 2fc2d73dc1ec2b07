-- Classes of gate cells as the nets of the drawing of the gates.
use Rattle.std.proofs.Common.{◌≡◌, ◌↔◌, IsTrue, ℕ, zero, suc, ◌+◌, ◌<◌, ◌≤◌, ℤ, pos, ◌-ℤ◌, ◌≤ℤ◌, Bool, true, false, Some, List, [], ◌∷◌, ◌++◌, length, get_or, slice_get, fold, arith, add-one, inl, inr, refl, sym, subst, ap, ◌∙◌}
use Rattle.std.specs.List.{All, AllPairs, Contains, AllZip}
use Rattle.std.specs.Option.{option_map}
use Rattle.std.proofs.lemmas.Int.{ints, clamps}
use Rattle.std.proofs.lemmas.Bool.{cases_eq, eq-eqb, ne_eqb, cases_order}
use Rattle.std.proofs.lemmas.Option.{slice_get-map, slice_get-get_or, slice_get_within}
use Rattle.std.proofs.lemmas.List.Elements.{Contains-append_cases, Contains-append_left, Contains-push}
use Rattle.cell_num.proofs.Lists.{contains_none, contains_one, contains_cons, contains_here, contains_there, contains_get, all_from_contains, all_one}
use Rattle.cell_num.proofs.Pairs.{pairs_append, pairs_at}
use Rattle.cell_num.proofs.In.{contains_map}
use Rattle.box_geom.specs.Rectangle.{Rectangle, IsProper, Holds}
use Rattle.box_geom.specs.Touching.{Cell}
use Rattle.box_geom.specs.Chains.{Steps, Linked}
use Rattle.box_geom.specs.declared.shape.Shape.{Shape}
use Rattle.box_geom.specs.declared.layer.Layer.TheVariants.{Active, Poly as PolyLayer}
use Rattle.scmos_rules.specs.Failing.{SameClass}
use Rattle.scmos_rules.specs.Layout.{Gate}
use Rattle.number_trees.proofs.Chains.{none, joined}
use Rattle.scmos_rules.specs.declared.rules.Deck.{Deck}
use Rattle.scmos_rules.specs.declared.rules.Deck.TheVariants.{Plain}
use Rattle.net_extract.specs.Nets.{Site, site_at, Conducts, SameNet}
use Rattle.net_extract.specs.declared.piece.Conductor.TheVariants.{Poly}
use Rattle.net_extract.specs.Numbering.{rank, NotBehind, IsFirstOfNet, IsBefore, IsInNet}
use Rattle.net_extract.specs.Bonds.{IsIn}
use Rattle.net_extract.specs.Devices.{IsGateBox, IsSomeDevice, NotBehindCell, IsOdd, IsFirstOdd, BeginsBefore}
use Rattle.net_extract.specs.Extraction.{IsDrawn}
use Rattle.net_extract.specs.Pieces.{rect_of, corner_of}
use Rattle.net_extract.specs.Connections.{firsts_of, AreWires, blank}
use Rattle.net_extract.specs.Areas.{IsFull}
use Rattle.net_extract.specs.GateNets.{ArePolyOf, AreGateNets, wider, point_of, box_of, boxes_below, boxes_of, IsAllGate, AreFound}
use Rattle.net_extract.specs.declared.netlist.Drawn.{Drawn}
use Rattle.net_extract.specs.declared.piece.Piece.{Piece}
use Rattle.net_extract.specs.declared.connections.Wire.{Wire}
use Rattle.net_extract.proofs.Labelling.{wire_net}
use Rattle.net_extract.proofs.Numbers.{one_number}
use Rattle.net_extract.proofs.PolyClasses.{cell, poly_site, class_of_net, net_of_class, same_class}
use Rattle.net_extract.proofs.Ranking.{not_behind_self, not_behind_both}
use Rattle.net_extract.proofs.Siding.{in_wire, wire_proper, corner_held, in_first, move_net}
use Rattle.net_extract.proofs.Wiring.{net_self, end_conducts, pairs_none, pairs_one}

-- ---- bounds
pub record Lies (p : Piece) (r : Rectangle) : Type 0 where
  pub left : r.x1 ≤ℤ p.left
  pub right : p.right ≤ℤ r.x2
  pub low : r.y1 ≤ℤ p.low
  pub high : p.top ≤ℤ r.y2

pub record IsBounds (n : ℕ) (start : Piece) (wires : List Wire) (box : Piece) : Type 0 where
  pub from : Lies start (rect_of box)
  pub all : (w : Wire) → Contains wires w → w.net ≡ n → Lies w.piece (rect_of box)
  pub least : (r : Rectangle) → Lies start r → ((w : Wire) → Contains wires w → w.net ≡ n → Lies w.piece r) → Lies box r

lies_self : (p : Piece) → Lies p (rect_of p)
lies_self p = record { left = omega (arith, ints); right = omega (arith, ints); low = omega (arith, ints); high = omega (arith, ints) }

lies_both : (p : Piece) (q : Piece) (r : Rectangle) → Lies p (rect_of q) → Lies q r → Lies p r
lies_both p q r a b = record { left = omega (arith, ints); right = omega (arith, ints); low = omega (arith, ints); high = omega (arith, ints) }

record IsWider (n : ℕ) (p : Piece) (w : Wire) (q : Piece) : Type 0 where
  pub old : Lies p (rect_of q)
  pub new : w.net ≡ n → Lies w.piece (rect_of q)
  pub least : (r : Rectangle) → Lies p r → (w.net ≡ n → Lies w.piece r) → Lies q r

widened : (n : ℕ) (p : Piece) (w : Wire) → IsWider n p w (wider n p w)
widened n p w =
    elim (cases_eq w.net n) [
      | inl e ↦ rw (eq-eqb w.net n e) (record {
        old = record { left = omega (arith, ints, clamps); right = omega (arith, ints, clamps); low = omega (arith, ints, clamps); high = omega (arith, ints, clamps) };
        new = λ f. record { left = omega (arith, ints, clamps); right = omega (arith, ints, clamps); low = omega (arith, ints, clamps); high = omega (arith, ints, clamps) };
        least = λ r a b. let c = b e in record { left = omega (arith, ints, clamps); right = omega (arith, ints, clamps); low = omega (arith, ints, clamps); high = omega (arith, ints, clamps) };
      })
      | inr ne ↦ rw (ne_eqb w.net n ne) (record { old = lies_self p; new = λ f. absurd (ne f); least = λ r a b. a })
    ]

bounds_are : (n : ℕ) (start : Piece) (wires : List Wire) → IsBounds n start wires (fold (wider n) start wires)
bounds_are n start [] = record { from = lies_self start; all = λ w c e. absurd (contains_none w c); least = λ r a b. a }
bounds_are n start (w ∷ ws) =
    let first = widened n start w in
    let rest = bounds_are n (wider n start w) ws in
    record {
      from = lies_both start (wider n start w) (rect_of (fold (wider n) (wider n start w) ws)) first.old rest.from;
      all = λ v c e. elim (contains_cons w ws v c) [
        | inl same ↦ subst (λ (z : Wire). Lies z.piece (rect_of (fold (wider n) (wider n start w) ws))) same (lies_both w.piece (wider n start w) (rect_of (fold (wider n) (wider n start w) ws)) (first.new (subst (λ (z : Wire). z.net ≡ n) (sym same) e)) rest.from)
        | inr later ↦ rest.all v later e
      ];
      least = λ r a b. rest.least r (first.least r a (λ e. b w (contains_here w ws) e)) (λ v c e. b v (contains_there w ws v c) e);
    }

-- ---- what is known of the gates
pub record Gates (s g : List Shape) (wires : List Wire) (firsts : List Piece) : Type 0 where
  pub are : ArePolyOf (Gate s) g
  pub nets : AreWires Plain g wires firsts

abbrev first_at : List Piece → ℕ → Piece
first_at firsts n = get_or firsts n blank

first_listed : (firsts : List Piece) (n : ℕ) → n < length firsts → Contains (firsts_of firsts) (corner_of (first_at firsts n))
first_listed firsts n l = contains_map corner_of firsts (first_at firsts n) (contains_get firsts n (first_at firsts n) (slice_get-get_or firsts n blank l))

first_numbered : (firsts : List Piece) (n : ℕ) → n < length firsts → slice_get (firsts_of firsts) n ≡ Some (corner_of (first_at firsts n))
first_numbered firsts n l = slice_get-map corner_of firsts n ∙ ap (option_map corner_of) (slice_get-get_or firsts n blank l)

site_poly : (a : Site) → a.kind ≡ Poly → a ≡ site_at Poly a.cell.x a.cell.y
site_poly a e = subst (λ k. a ≡ record { kind = k; cell = a.cell }) e refl

-- the first cell of class n
first_is : (s g : List Shape) (wires : List Wire) (firsts : List Piece) → Gates s g wires firsts → (n : ℕ) → n < length firsts → IsFirstOfNet Plain g (site_at Poly (first_at firsts n).left (first_at firsts n).low)
first_is s g wires firsts z n l =
    let f : IsFirstOfNet Plain g (corner_of (first_at firsts n)) = z.nets.nets.sound (corner_of (first_at firsts n)) (first_listed firsts n l) in
    subst (IsFirstOfNet Plain g) (site_poly (corner_of (first_at firsts n)) (poly_site (Gate s) g z.are (first_at firsts n).kind (first_at firsts n).left (first_at firsts n).low f.conducts)) f

in_own : (s g : List Shape) (wires : List Wire) (firsts : List Piece) → Gates s g wires firsts → (n : ℕ) → n < length firsts → IsInNet Plain g (firsts_of firsts) n (site_at Poly (first_at firsts n).left (first_at firsts n).low)
in_own s g wires firsts z n l =
    let f = first_is s g wires firsts z n l in
    let e : corner_of (first_at firsts n) ≡ site_at Poly (first_at firsts n).left (first_at firsts n).low = site_poly (corner_of (first_at firsts n)) (poly_site (Gate s) g z.are (first_at firsts n).kind (first_at firsts n).left (first_at firsts n).low (z.nets.nets.sound (corner_of (first_at firsts n)) (first_listed firsts n l)).conducts) in
    record { first = corner_of (first_at firsts n); numbered = first_numbered firsts n l; same = subst (λ a. SameNet Plain g a (site_at Poly (first_at firsts n).left (first_at firsts n).low)) (sym e) (net_self Plain g (site_at Poly (first_at firsts n).left (first_at firsts n).low) f.conducts) }

-- a gate cell lies in a wire of its class
record Classed (g : List Shape) (wires : List Wire) (firsts : List Piece) (x y : ℤ) : Type 0 where
  pub wire : Wire
  pub listed : Contains wires wire
  pub holds : Holds (rect_of wire.piece) x y
  pub net : IsInNet Plain g (firsts_of firsts) wire.net (site_at Poly x y)
  pub below : wire.net < length firsts

classed : (s g : List Shape) (wires : List Wire) (firsts : List Piece) → Gates s g wires firsts → (x y : ℤ) → Gate s x y → Classed g wires firsts x y
classed s g wires firsts z x y gate =
    let w = in_wire Plain g wires firsts z.nets (site_at Poly x y) ((z.are.poly x y).1 gate) in
    let n = wire_net Plain g wires firsts z.nets w.wire w.listed (site_at Poly x y) w.inside in
    record { wire = w.wire; listed = w.listed; holds = w.inside.holds; net = n; below = subst (λ k. w.wire.net < k) (length_map firsts) (slice_get_within (firsts_of firsts) w.wire.net n.first n.numbered) }
  where
    length_map : (ps : List Piece) → length (firsts_of ps) ≡ length ps
    length_map [] = refl
    length_map (p ∷ ps) = omega (arith, length_map ps)

-- the wires of net n that hold a cell of the class
class_number : (s g : List Shape) (wires : List Wire) (firsts : List Piece) → Gates s g wires firsts → (n : ℕ) (l : n < length firsts) (x y : ℤ) (c : Classed g wires firsts x y) → SameClass (Gate s) (first_at firsts n).left (first_at firsts n).low x y → c.wire.net ≡ n
class_number s g wires firsts z n l x y c same =
    let f = first_is s g wires firsts z n l in
    let start : Gate s (first_at firsts n).left (first_at firsts n).low = (z.are.poly (first_at firsts n).left (first_at firsts n).low).0 f.conducts in
    let net : SameNet Plain g (site_at Poly (first_at firsts n).left (first_at firsts n).low) (site_at Poly x y) = net_of_class (Gate s) g z.are (first_at firsts n).left (first_at firsts n).low x y start same in
    one_number Plain g (firsts_of firsts) c.wire.net n (site_at Poly x y) z.nets.nets c.net (move_net Plain g (firsts_of firsts) n (site_at Poly (first_at firsts n).left (first_at firsts n).low) (site_at Poly x y) (in_own s g wires firsts z n l) net)

abbrev box : List Wire → List Piece → ℕ → Rectangle
box wires firsts n = rect_of (box_of wires firsts n)

bounds_of : (wires : List Wire) (firsts : List Piece) (n : ℕ) → IsBounds n (point_of (first_at firsts n)) wires (box_of wires firsts n)
bounds_of wires firsts n = bounds_are n (point_of (first_at firsts n)) wires

first_proper : (s g : List Shape) (wires : List Wire) (firsts : List Piece) → Gates s g wires firsts → (n : ℕ) → n < length firsts → Classed g wires firsts (first_at firsts n).left (first_at firsts n).low
first_proper s g wires firsts z n l = classed s g wires firsts z (first_at firsts n).left (first_at firsts n).low ((z.are.poly (first_at firsts n).left (first_at firsts n).low).0 (first_is s g wires firsts z n l).conducts)

-- a cell of a piece that lies in a box
lies_holds : (p : Piece) (r : Rectangle) (x y : ℤ) → Lies p r → Holds (rect_of p) x y → Holds r x y
lies_holds p r x y a h = omega (arith, ints)

-- the cells of class n lie in its box
class_in_box : (s g : List Shape) (wires : List Wire) (firsts : List Piece) → Gates s g wires firsts → (n : ℕ) → n < length firsts → (x y : ℤ) → SameClass (Gate s) (first_at firsts n).left (first_at firsts n).low x y → Gate s x y → Holds (box wires firsts n) x y
class_in_box s g wires firsts z n l x y same gate =
    let c = classed s g wires firsts z x y gate in
    lies_holds c.wire.piece (box wires firsts n) x y ((bounds_of wires firsts n).all c.wire c.listed (class_number s g wires firsts z n l x y c same)) c.holds

-- the box of a class has cells
pub box_proper : (s g : List Shape) (wires : List Wire) (firsts : List Piece) → Gates s g wires firsts → (n : ℕ) → n < length firsts → IsProper (box wires firsts n)
box_proper s g wires firsts z n l =
    let h = class_in_box s g wires firsts z n l (first_at firsts n).left (first_at firsts n).low (none (Linked (Gate s)) (cell (first_at firsts n).left (first_at firsts n).low) (cell (first_at firsts n).left (first_at firsts n).low) refl) ((z.are.poly (first_at firsts n).left (first_at firsts n).low).0 (first_is s g wires firsts z n l).conducts) in
    record { wide = omega (arith, ints); high = omega (arith, ints) }

box_corner : (s g : List Shape) (wires : List Wire) (firsts : List Piece) → Gates s g wires firsts → (n : ℕ) → n < length firsts → Holds (box wires firsts n) (first_at firsts n).left (first_at firsts n).low
box_corner s g wires firsts z n l = class_in_box s g wires firsts z n l (first_at firsts n).left (first_at firsts n).low (none (Linked (Gate s)) (cell (first_at firsts n).left (first_at firsts n).low) (cell (first_at firsts n).left (first_at firsts n).low) refl) ((z.are.poly (first_at firsts n).left (first_at firsts n).low).0 (first_is s g wires firsts z n l).conducts)

-- two cells of a box of gate cells are of one class
box_chain : (s : List Shape) (r : Rectangle) → IsAllGate s r → (x y u v : ℤ) → Holds r x y → Holds r u v → SameClass (Gate s) x y u v
box_chain s r all = same_class (Gate s) r all.all

end_gate_steps : (s : List Shape) (m : ℕ) (a b : Cell) → Gate s a.x a.y → Steps (Linked (Gate s)) m a b → Gate s b.x b.y
end_gate_steps s zero a b ga e = subst (λ (c : Cell). Gate s c.x c.y) e ga
end_gate_steps s (suc m) a b ga (c, w, r) = end_gate_steps s m c b w.to r

end_gate : (s : List Shape) (x y u v : ℤ) → Gate s x y → SameClass (Gate s) x y u v → Gate s u v
end_gate s x y u v g c = end_gate_steps s c.count (cell x y) (cell u v) g c.steps

-- where its box has gate cells alone, class n is its box
pub gate_box : (s g : List Shape) (wires : List Wire) (firsts : List Piece) → Gates s g wires firsts → (n : ℕ) → n < length firsts → IsAllGate s (box wires firsts n) → IsGateBox s (box wires firsts n)
gate_box s g wires firsts z n l all = record {
  proper = box_proper s g wires firsts z n l;
  gate = all.all;
  class = λ x y u v h. (
    λ c. class_in_box s g wires firsts z n l u v (joined (Linked (Gate s)) (cell (first_at firsts n).left (first_at firsts n).low) (cell x y) (cell u v) (box_chain s (box wires firsts n) all (first_at firsts n).left (first_at firsts n).low x y (box_corner s g wires firsts z n l) h) c) (end_gate s x y u v (all.all x y h) c),
    λ k. box_chain s (box wires firsts n) all x y u v h k,
  );
}

record SameSides (a b : Rectangle) : Type 0 where
  pub x1 : a.x1 ≡ b.x1
  pub y1 : a.y1 ≡ b.y1
  pub x2 : a.x2 ≡ b.x2
  pub y2 : a.y2 ≡ b.y2

rect_same : (a b : Rectangle) → SameSides a b → a ≡ b
rect_same a b e =
    subst (λ z. a ≡ record { x1 = z; y1 = b.y1; x2 = b.x2; y2 = b.y2 }) e.x1
    (subst (λ z. a ≡ record { x1 = a.x1; y1 = z; x2 = b.x2; y2 = b.y2 }) e.y1
    (subst (λ z. a ≡ record { x1 = a.x1; y1 = a.y1; x2 = z; y2 = b.y2 }) e.x2
    (subst (λ z. a ≡ record { x1 = a.x1; y1 = a.y1; x2 = a.x2; y2 = z }) e.y2 refl)))

-- a box whose cells are cells of another lies in it
box_within : (a b : Rectangle) → IsProper a → ((u v : ℤ) → Holds a u v → Holds b u v) → ((b.x1 ≤ℤ a.x1) × (b.y1 ≤ℤ a.y1)) × ((a.x2 ≤ℤ b.x2) × (a.y2 ≤ℤ b.y2))
box_within a b p sub =
    let w = p.wide in
    let t = p.high in
    let low : Holds a a.x1 a.y1 = omega (arith, ints) in
    let high : Holds a (a.x2 -ℤ pos 1) (a.y2 -ℤ pos 1) = omega (arith, ints) in
    let l = sub a.x1 a.y1 low in
    let h = sub (a.x2 -ℤ pos 1) (a.y2 -ℤ pos 1) high in
    ((omega (arith, ints), omega (arith, ints)), (omega (arith, ints), omega (arith, ints)))

-- two boxes of gates with a cell in common are one
same_box : (s : List Shape) (a b : Rectangle) → IsGateBox s a → IsGateBox s b → (x y : ℤ) → Holds a x y → Holds b x y → a ≡ b
same_box s a b ga gb x y ha hb =
    let f = box_within a b ga.proper (λ u v h. (gb.class x y u v hb).0 ((ga.class x y u v ha).1 h)) in
    let g = box_within b a gb.proper (λ u v h. (ga.class x y u v ha).0 ((gb.class x y u v hb).1 h)) in
    let f0 = f.0.0 in let f1 = f.0.1 in let f2 = f.1.0 in let f3 = f.1.1 in
    let g0 = g.0.0 in let g1 = g.0.1 in let g2 = g.1.0 in let g3 = g.1.1 in
    rect_same a b (record { x1 = omega (arith, ints); y1 = omega (arith, ints); x2 = omega (arith, ints); y2 = omega (arith, ints) })

-- the box of a class lies in each box of gates with its first cell
box_in_class : (s g : List Shape) (wires : List Wire) (firsts : List Piece) → Gates s g wires firsts → (n : ℕ) → n < length firsts → (r : Rectangle) → IsGateBox s r → Holds r (first_at firsts n).left (first_at firsts n).low → Lies (box_of wires firsts n) r
box_in_class s g wires firsts z n l r gate at = (bounds_of wires firsts n).least r start each
  where
    cell_in : (w : Wire) → Contains wires w → w.net ≡ n → (u v : ℤ) → Holds (rect_of w.piece) u v → Holds r u v
    cell_in w c e u v h =
        let site : IsIn w.piece (site_at w.piece.kind u v) = record { kind = refl; holds = h } in
        let k : IsInNet Plain g (firsts_of firsts) w.net (site_at w.piece.kind u v) = wire_net Plain g wires firsts z.nets w c (site_at w.piece.kind u v) site in
        let conducts : Conducts g (site_at w.piece.kind u v) = end_conducts Plain g k.first (site_at w.piece.kind u v) k.same in
        let is_poly : w.piece.kind ≡ Poly = poly_site (Gate s) g z.are w.piece.kind u v conducts in
        let m : IsInNet Plain g (firsts_of firsts) n (site_at Poly u v) = subst (λ j. IsInNet Plain g (firsts_of firsts) n (site_at j u v)) is_poly (subst (λ j. IsInNet Plain g (firsts_of firsts) j (site_at w.piece.kind u v)) e k) in
        let net : SameNet Plain g (site_at Poly (first_at firsts n).left (first_at firsts n).low) (site_at Poly u v) = in_first Plain g (firsts_of firsts) n (site_at Poly (first_at firsts n).left (first_at firsts n).low) (site_at Poly u v) (in_own s g wires firsts z n l) m in
        (gate.class (first_at firsts n).left (first_at firsts n).low u v at).0 (class_of_net (Gate s) g z.are (first_at firsts n).left (first_at firsts n).low u v net)

    wire_in : (w : Wire) → Contains wires w → w.net ≡ n → Lies w.piece r
    wire_in w c e =
        let p = wire_proper Plain g wires firsts z.nets w c in
        let b = box_within (rect_of w.piece) r p (λ u v h. cell_in w c e u v h) in
        let b0 = b.0.0 in let b1 = b.0.1 in let b2 = b.1.0 in let b3 = b.1.1 in
        record { left = b0; right = b2; low = b1; high = b3 }

    each : (w : Wire) → Contains wires w → w.net ≡ n → Lies w.piece r
    each = wire_in

    start : Lies (point_of (first_at firsts n)) r
    start = record { left = omega (arith, ints); right = omega (arith, ints); low = omega (arith, ints); high = omega (arith, ints) }

pub not_odd_box : (s g : List Shape) (wires : List Wire) (firsts : List Piece) → Gates s g wires firsts → (n : ℕ) → n < length firsts → (r : Rectangle) → IsGateBox s r → Holds r (first_at firsts n).left (first_at firsts n).low → IsAllGate s (box wires firsts n)
not_odd_box s g wires firsts z n l r gate at = record { all = λ x y h. gate.gate x y (lies_holds (box_of wires firsts n) r x y (box_in_class s g wires firsts z n l r gate at) h) }

-- the first cell of class n is that of a class of gates
class_first : (s g : List Shape) (wires : List Wire) (firsts : List Piece) → Gates s g wires firsts → (n : ℕ) → n < length firsts → (u v : ℤ) → SameClass (Gate s) (first_at firsts n).left (first_at firsts n).low u v → NotBehindCell (first_at firsts n).left (first_at firsts n).low u v
class_first s g wires firsts z n l u v c =
    let f = first_is s g wires firsts z n l in
    let start : Gate s (first_at firsts n).left (first_at firsts n).low = (z.are.poly (first_at firsts n).left (first_at firsts n).low).0 f.conducts in
    let b = f.first (site_at Poly u v) (net_of_class (Gate s) g z.are (first_at firsts n).left (first_at firsts n).low u v start c) in
    record { row = b.row; column = b.column }

pub odd_is : (deck : Deck) (s g : List Shape) (wires : List Wire) (firsts : List Piece) → Gates s g wires firsts → (n : ℕ) → n < length firsts → ((r : Rectangle) → Holds r (first_at firsts n).left (first_at firsts n).low → IsSomeDevice deck s r → ⊥) → IsOdd deck s (first_at firsts n).left (first_at firsts n).low
odd_is deck s g wires firsts z n l out = record {
  gate = (z.are.poly (first_at firsts n).left (first_at firsts n).low).0 (first_is s g wires firsts z n l).conducts;
  first = class_first s g wires firsts z n l;
  odd = out;
}

-- a class that does not fill its box
pub odd_unfilled : (deck : Deck) (s g : List Shape) (wires : List Wire) (firsts : List Piece) → Gates s g wires firsts → (n : ℕ) → n < length firsts → (IsAllGate s (box wires firsts n) → ⊥) → IsOdd deck s (first_at firsts n).left (first_at firsts n).low
odd_unfilled deck s g wires firsts z n l out = odd_is deck s g wires firsts z n l (λ r h d. out (not_odd_box s g wires firsts z n l r d.is.class h))

-- a box of gates that is no device
pub odd_box : (deck : Deck) (s g : List Shape) (wires : List Wire) (firsts : List Piece) → Gates s g wires firsts → (n : ℕ) → n < length firsts → IsGateBox s (box wires firsts n) → (IsSomeDevice deck s (box wires firsts n) → ⊥) → IsOdd deck s (first_at firsts n).left (first_at firsts n).low
odd_box deck s g wires firsts z n l gate out = odd_is deck s g wires firsts z n l (λ r h d.
    let e : r ≡ box wires firsts n = same_box s r (box wires firsts n) d.is.class gate (first_at firsts n).left (first_at firsts n).low h (box_corner s g wires firsts z n l) in
    out (subst (IsSomeDevice deck s) e d))

-- ---- all classes
pub record AreDone (deck : Deck) (s : List Shape) (wires : List Wire) (firsts : List Piece) (sites : List Site) (k : ℕ) (devices : List Drawn) : Type 0 where
  pub drawn : AllZip (IsDrawn deck s sites) (boxes_below wires firsts k) devices
  pub each : (n : ℕ) → n < k → IsSomeDevice deck s (box wires firsts n)

zip_push : {X Y : Type 0} (R : X → Y → Type 0) (xs : List X) (ys : List Y) (x : X) (y : Y) → AllZip R xs ys → R x y → AllZip R (xs ++ x ∷ []) (ys ++ y ∷ [])
zip_push R [] [] x y z r = (r, tt)
zip_push R [] (b ∷ bs) x y z r = absurd z
zip_push R (a ∷ cs) [] x y z r = absurd z
zip_push R (a ∷ cs) (b ∷ bs) x y z r = (z.0, zip_push R cs bs x y z.1 r)

some_device : (deck : Deck) (s : List Shape) (sites : List Site) (r : Rectangle) (d : Drawn) → IsDrawn deck s sites r d → IsSomeDevice deck s r
some_device deck s sites r d is = record { row = d.row; gate = is.gate; left = is.left; right = is.right; width = d.width; length = d.length; is = is.is }

pub none_done : (deck : Deck) (s : List Shape) (wires : List Wire) (firsts : List Piece) (sites : List Site) → AreDone deck s wires firsts sites 0 []
none_done deck s wires firsts sites = record { drawn = tt; each = λ n l. absurd (omega (arith, l)) }

pub more_done : (deck : Deck) (s : List Shape) (wires : List Wire) (firsts : List Piece) (sites : List Site) (k : ℕ) (devices made : List Drawn) (d : Drawn) → AreDone deck s wires firsts sites k devices → IsDrawn deck s sites (box wires firsts k) d → made ≡ devices ++ d ∷ [] → AreDone deck s wires firsts sites (k + 1) made
more_done deck s wires firsts sites k devices made d was is e = subst (AreDone deck s wires firsts sites (k + 1)) (sym e) (record {
  drawn = rw add-one (zip_push (IsDrawn deck s sites) (boxes_below wires firsts k) devices (box wires firsts k) d was.drawn is);
  each = λ n l. elim (cases_eq n k) [
    | inl same ↦ subst (λ m. IsSomeDevice deck s (box wires firsts m)) (sym same) (some_device deck s sites (box wires firsts k) d is)
    | inr ne ↦ was.each n (omega (arith, l, ne))
  ];
})

record IsBox (wires : List Wire) (firsts : List Piece) (k : ℕ) (r : Rectangle) : Type 0 where
  pub at : ℕ
  pub below : at < k
  pub is : box wires firsts at ≡ r

of_boxes : (wires : List Wire) (firsts : List Piece) (k : ℕ) (r : Rectangle) → Contains (boxes_below wires firsts k) r → IsBox wires firsts k r
of_boxes wires firsts zero r c = absurd (contains_none r c)
of_boxes wires firsts (suc k) r c = elim (Contains-append_cases (boxes_below wires firsts k) (box wires firsts k ∷ []) r c) [
  | inl old ↦ (let b = of_boxes wires firsts k r old in let l = b.below in record { at = b.at; below = omega (arith, l); is = b.is })
  | inr new ↦ record { at = k; below = omega arith; is = contains_one (box wires firsts k) r new }
]

to_boxes : (wires : List Wire) (firsts : List Piece) (k n : ℕ) → n < k → Contains (boxes_below wires firsts k) (box wires firsts n)
to_boxes wires firsts zero n l = absurd (omega (arith, l))
to_boxes wires firsts (suc k) n l = elim (cases_eq n k) [
  | inl same ↦ subst (λ m. Contains (boxes_below wires firsts (suc k)) (box wires firsts m)) (sym same) (Contains-push (boxes_below wires firsts k) (box wires firsts k))
  | inr ne ↦ Contains-append_left (boxes_below wires firsts k) (box wires firsts k ∷ []) (box wires firsts n) (to_boxes wires firsts k n (omega (arith, l, ne)))
]

-- the lower left corner of the box of a device is the first cell of its class
corner_is : (s g : List Shape) (wires : List Wire) (firsts : List Piece) → Gates s g wires firsts → (n : ℕ) → n < length firsts → IsGateBox s (box wires firsts n) → ((box wires firsts n).x1 ≡ (first_at firsts n).left) × ((box wires firsts n).y1 ≡ (first_at firsts n).low)
corner_is s g wires firsts z n l gate =
    let h = box_corner s g wires firsts z n l in
    let c = corner_held (box wires firsts n) gate.proper in
    let b = class_first s g wires firsts z n l (box wires firsts n).x1 (box wires firsts n).y1 ((gate.class (first_at firsts n).left (first_at firsts n).low (box wires firsts n).x1 (box wires firsts n).y1 h).1 c) in
    let r = b.row in
    let q = b.column h.low in
    let hl = h.left in
    let hd = h.low in
    (omega (arith, ints), omega (arith, ints))

begins : (s g : List Shape) (wires : List Wire) (firsts : List Piece) → Gates s g wires firsts → (i j : ℕ) → i < j → j < length firsts → IsGateBox s (box wires firsts i) → IsGateBox s (box wires firsts j) → BeginsBefore (box wires firsts i) (box wires firsts j)
begins s g wires firsts z i j less l gi gj =
    let li : i < length firsts = omega (arith, less, l) in
    let b : IsBefore (corner_of (first_at firsts i)) (corner_of (first_at firsts j)) = pairs_at IsBefore (firsts_of firsts) i j (corner_of (first_at firsts i)) (corner_of (first_at firsts j)) z.nets.nets.ascending less (first_numbered firsts i li) (first_numbered firsts j l) in
    let ci = corner_is s g wires firsts z i li gi in
    let cj = corner_is s g wires firsts z j l gj in
    let ix = ci.0 in let iy = ci.1 in let jx = cj.0 in let jy = cj.1 in
    let ki : (first_at firsts i).kind ≡ Poly = poly_site (Gate s) g z.are (first_at firsts i).kind (first_at firsts i).left (first_at firsts i).low (z.nets.nets.sound (corner_of (first_at firsts i)) (first_listed firsts i li)).conducts in
    let kj : (first_at firsts j).kind ≡ Poly = poly_site (Gate s) g z.are (first_at firsts j).kind (first_at firsts j).left (first_at firsts j).low (z.nets.nets.sound (corner_of (first_at firsts j)) (first_listed firsts j l)).conducts in
    let up = b.not_behind in
    let r = up.row in
    record {
      not_behind = record { row = omega (arith, ints); column = λ h. let q = up.column (omega (arith, ints)) in omega (arith, ints) };
      other = λ back.
          let br = back.row in
          b.other (record { row = omega (arith, ints); column = λ h. let q = back.column (omega (arith, ints)) in omega (arith, ints); layer = λ h k. subst (λ a. rank a ≤ rank (first_at firsts i).kind) (sym kj) (subst (λ a. rank Poly ≤ rank a) (sym ki) (omega arith)) });
    }

boxes_ascend : (deck : Deck) (s g : List Shape) (wires : List Wire) (firsts : List Piece) → Gates s g wires firsts → (k : ℕ) → k ≤ length firsts → ((n : ℕ) → n < k → IsSomeDevice deck s (box wires firsts n)) → AllPairs BeginsBefore (boxes_below wires firsts k)
boxes_ascend deck s g wires firsts z zero le each = pairs_none BeginsBefore
boxes_ascend deck s g wires firsts z (suc k) le each = pairs_append BeginsBefore (boxes_below wires firsts k) (box wires firsts k ∷ []) (boxes_ascend deck s g wires firsts z k (omega (arith, le)) (λ n l. each n (omega (arith, l)))) (pairs_one BeginsBefore (box wires firsts k)) (all_from_contains (λ a. All (BeginsBefore a) (box wires firsts k ∷ [])) (boxes_below wires firsts k) (λ a c. all_one (BeginsBefore a) (box wires firsts k) (before a c)))
  where
    before : (a : Rectangle) → Contains (boxes_below wires firsts k) a → BeginsBefore a (box wires firsts k)
    before a c =
        let i = of_boxes wires firsts k a c in
        let l = i.below in
        subst (λ b. BeginsBefore b (box wires firsts k)) i.is (begins s g wires firsts z i.at k i.below (omega (arith, le)) (each i.at (omega (arith, l))).is.class (each k (omega arith)).is.class)

-- each gate cell lies in the box of its class
cell_in_box : (s g : List Shape) (wires : List Wire) (firsts : List Piece) → Gates s g wires firsts → (x y : ℤ) (c : Classed g wires firsts x y) → Holds (box wires firsts c.wire.net) x y
cell_in_box s g wires firsts z x y c = lies_holds c.wire.piece (box wires firsts c.wire.net) x y ((bounds_of wires firsts c.wire.net).all c.wire c.listed refl) c.holds

pub all_done : (deck : Deck) (s g : List Shape) (wires : List Wire) (firsts : List Piece) (sites : List Site) (k : ℕ) (devices : List Drawn) → Gates s g wires firsts → k ≡ length firsts → AreDone deck s wires firsts sites k devices → AreFound deck s sites (boxes_of wires firsts) devices
all_done deck s g wires firsts sites k devices z e done = subst (λ j. AreFound deck s sites (boxes_below wires firsts j) devices) e all
  where
    all : AreFound deck s sites (boxes_below wires firsts k) devices
    all = record {
      are = record {
        ascending = boxes_ascend deck s g wires firsts z k (omega (arith, e)) done.each;
        devices = λ r c. let i = of_boxes wires firsts k r c in subst (IsSomeDevice deck s) i.is (done.each i.at i.below);
        all = λ r d.
            let h = corner_held r d.is.class.proper in
            let c = classed s g wires firsts z r.x1 r.y1 (d.is.class.gate r.x1 r.y1 h) in
            let l = c.below in
            let below : c.wire.net < k = omega (arith, e, l) in
            let same : box wires firsts c.wire.net ≡ r = same_box s (box wires firsts c.wire.net) r (done.each c.wire.net below).is.class d.is.class r.x1 r.y1 (cell_in_box s g wires firsts z r.x1 r.y1 c) h in
            subst (Contains (boxes_below wires firsts k)) same (to_boxes wires firsts k c.wire.net below);
        none_odd = λ x y o.
            let c = classed s g wires firsts z x y o.gate in
            let l = c.below in
            o.odd (box wires firsts c.wire.net) (cell_in_box s g wires firsts z x y c) (done.each c.wire.net (omega (arith, e, l)));
      };
      drawn = done.drawn;
    }

-- the first class that is no device
pub first_odd : (deck : Deck) (s g : List Shape) (wires : List Wire) (firsts : List Piece) (sites : List Site) (k : ℕ) (devices : List Drawn) → Gates s g wires firsts → k < length firsts → AreDone deck s wires firsts sites k devices → IsOdd deck s (first_at firsts k).left (first_at firsts k).low → IsFirstOdd deck s (first_at firsts k).left (first_at firsts k).low
first_odd deck s g wires firsts sites k devices z lk done odd = record { odd = odd; first = first }
  where
    first : (u v : ℤ) → IsOdd deck s u v → NotBehindCell (first_at firsts k).left (first_at firsts k).low u v
    first u v o =
        let c = classed s g wires firsts z u v o.gate in
        elim (cases_order c.wire.net k) [
          | inl e ↦ behind u v c (subst (λ n. NotBehind (corner_of (first_at firsts k)) (corner_of (first_at firsts n))) (sym e) (not_behind_self (corner_of (first_at firsts k))))
          | inr (inl l) ↦ absurd (o.odd (box wires firsts c.wire.net) (cell_in_box s g wires firsts z u v c) (done.each c.wire.net l))
          | inr (inr more) ↦ behind u v c (pairs_at IsBefore (firsts_of firsts) k c.wire.net (corner_of (first_at firsts k)) (corner_of (first_at firsts c.wire.net)) z.nets.nets.ascending more (first_numbered firsts k lk) (first_numbered firsts c.wire.net c.below)).not_behind
        ]
      where
        behind : (u v : ℤ) (c : Classed g wires firsts u v) → NotBehind (corner_of (first_at firsts k)) (corner_of (first_at firsts c.wire.net)) → NotBehindCell (first_at firsts k).left (first_at firsts k).low u v
        behind u v c up =
            let n : SameNet Plain g (corner_of (first_at firsts c.wire.net)) (site_at Poly u v) = in_first Plain g (firsts_of firsts) c.wire.net (corner_of (first_at firsts c.wire.net)) (site_at Poly u v) (record { first = corner_of (first_at firsts c.wire.net); numbered = first_numbered firsts c.wire.net c.below; same = net_self Plain g (corner_of (first_at firsts c.wire.net)) (z.nets.nets.sound (corner_of (first_at firsts c.wire.net)) (first_listed firsts c.wire.net c.below)).conducts }) c.net in
            let f : NotBehind (corner_of (first_at firsts c.wire.net)) (site_at Poly u v) = (z.nets.nets.sound (corner_of (first_at firsts c.wire.net)) (first_listed firsts c.wire.net c.below)).first (site_at Poly u v) n in
            let b = not_behind_both (corner_of (first_at firsts k)) (corner_of (first_at firsts c.wire.net)) (site_at Poly u v) up f in
            record { row = b.row; column = b.column }

-- ---- gates by their two layers
pub no_active_gate : (s : List Shape) (r a : Rectangle) (b : Bool) → a ≡ r → (IsTrue b ↔ IsFull s Active a) → b ≡ false → IsAllGate s r → ⊥
no_active_gate s r a b e d f all = let t = d.1 (subst (IsFull s Active) (sym e) (record { full = λ x y h. (all.all x y h).0 })) in absurd (cc (sym f ∙ t))

pub both_gate : (s : List Shape) (r a z : Rectangle) (b t : Bool) → a ≡ r → (IsTrue b ↔ IsFull s Active a) → b ≡ true → z ≡ r → (IsTrue t ↔ IsFull s PolyLayer z) → IsTrue t ↔ IsAllGate s r
both_gate s r a z b t ea da eb ez dz = (
  λ x. record { all = λ u v h. ((subst (IsFull s Active) ea (da.0 eb)).full u v h, (subst (IsFull s PolyLayer) ez (dz.0 x)).full u v h) },
  λ all. dz.1 (subst (IsFull s PolyLayer) (sym ez) (record { full = λ u v h. (all.all u v h).1 })),
)

pub ruleset gate_rules = (no_active_gate, both_gate)

pub gates_of : (s : List Shape) (wires : List Wire) (firsts : List Piece) (z : AreGateNets s wires firsts) → Gates s z.shapes wires firsts
gates_of s wires firsts z = record { are = z.are; nets = z.nets }
