-- A line of a list of lines, and where the nets with places at it stand.
use Rattle.std.proofs.Common.{ℕ, zero, suc, ◌≡◌, ◌+◌, ◌<◌, ◌++◌, ◌&&◌, ◌||◌, not, Bool, true, List, [], ◌∷◌, length, inl, inr, refl, sym, ap, subst, arith, All, Contains, ◌∙◌}
use Rattle.std.proofs.lemmas.Bool.{and_parts, and_from, or_left, or_right, or_cases}
use Rattle.std.proofs.lemmas.List.Elements.{All-head, All-tail}
use Rattle.cell_num.specs.declared.net.NetNo.{NetNo}
use Rattle.cell_num.specs.declared.net.Pins.{Pins}
use Rattle.cell_num.specs.declared.finger.Row.{Row}
use Rattle.cell_num.specs.declared.finger.Row.TheVariants.{P, N}
use Rattle.cell_num.specs.Pins.{is_rail}
use Rattle.row_place.specs.declared.placement.NodePlace.{NodePlace}
use Rattle.row_place.specs.declared.placement.Placement.{Placement}
use Rattle.dogleg_route.specs.Pieces.{HasNode}
use Rattle.track_ways.specs.declared.line.Line.{Line}
use Rattle.track_ways.specs.Lines.{is_net, is_open, is_held, begins_or_ends}
use Rattle.track_ways.specs.Channel.{side, IsPlain, AreLinesOf}
use Rattle.track_ways.proofs.Places.{NodeAt, at_line, node_at, node_of_line}
use Rattle.track_ways.proofs.Holding.{Split, at_behind}
use Rattle.piece_lines.specs.Lines.{may_turn}

pub at_split : (lines : List Line) (k : ℕ) (front : List Line) (line : Line) (rest : List Line) → Split lines k front line rest → (f : Line → Bool) → at_line lines k f ≡ f line
at_split lines k front line rest s f =
    ap (λ ls. at_line ls k f) s.is ∙ ap (λ m. at_line (front ++ line ∷ rest) m f) (let z : k ≡ length front + 0 = omega (arith, s.count) in z) ∙ sym (at_behind front (line ∷ rest) 0 f)

pub plain_at : (p : Placement) (lines : List Line) → AreLinesOf p lines → (k : ℕ) (front : List Line) (line : Line) (rest : List Line) → Split lines k front line rest → IsPlain line
plain_at p lines h k front line rest s = All-head IsPlain line rest (after front (line ∷ rest) (subst (λ ls. All IsPlain ls) s.is (λ i d l. h.plain i d l)))
  where
    after : (front more : List Line) → All IsPlain (front ++ more) → All IsPlain more
    after [] more b = b
    after (x ∷ front) more b = after front more (All-tail IsPlain x (front ++ more) b)

pub open_held : (pins : Pins) (before : NetNo → Bool) (line : Line) (after : NetNo → Bool) (net : NetNo) → is_open pins before after net ≡ true → is_held pins before line after net ≡ true
open_held pins before line after net o = go (not (is_rail pins net)) (before net && after net) (begins_or_ends pins before line after net) o
  where
    go : (r b q : Bool) → (r && b) ≡ true → (r && (b || q)) ≡ true
    go r b q e = and_from r (b || q) (and_parts r b e).0 (or_left b q (and_parts r b e).1)

-- a net may turn at a line where it has a node place, and at no other
node_here : (p : Placement) (lines : List Line) → AreLinesOf p lines → (k : ℕ) (front : List Line) (line : Line) (rest : List Line) → Split lines k front line rest → (net : NetNo) (row : Row) → is_net (side row line) net ≡ true → HasNode p net k
node_here p lines h k front line rest s net row e = record {
  node = record { row = row; line = k; net = net };
  there = node_of_line p lines h k row net (at_split lines k front line rest s (λ q. is_net (side row q) net) ∙ e);
  of = refl;
  at = refl;
}

pub node_of_turn : (p : Placement) (lines : List Line) → AreLinesOf p lines → (k : ℕ) (front : List Line) (line : Line) (rest : List Line) → Split lines k front line rest → (net : NetNo) → may_turn line net ≡ true → HasNode p net k
node_of_turn p lines h k front line rest s net e = elim (or_cases (is_net line.p net) (is_net line.n net) e) [
  | inl top ↦ node_here p lines h k front line rest s net P top
  | inr bottom ↦ node_here p lines h k front line rest s net N bottom
]

pub node_side : (p : Placement) (lines : List Line) → AreLinesOf p lines → (k : ℕ) (front : List Line) (line : Line) (rest : List Line) → Split lines k front line rest → (node : NodePlace) → Contains p.nodes node → node.line ≡ k → is_net (side node.row line) node.net ≡ true
node_side p lines h k front line rest s node there is =
    let n : NodeAt 0 lines node = node_at 0 lines node (subst (λ ns. Contains ns node) h.nodes there) in
    sym (at_split lines k front line rest s (λ q. is_net (side node.row q) node.net)) ∙ subst (λ m. at_line lines m (λ q. is_net (side node.row q) node.net) ≡ true) (let e : n.at ≡ k = omega (arith, n.line, is) in e) n.there

pub turn_of_node : (p : Placement) (lines : List Line) → AreLinesOf p lines → (k : ℕ) (front : List Line) (line : Line) (rest : List Line) → Split lines k front line rest → (net : NetNo) → HasNode p net k → may_turn line net ≡ true
turn_of_node p lines h k front line rest s net node = subst (λ n. may_turn line n ≡ true) node.of (turns node.node.row (node_side p lines h k front line rest s node.node node.there node.at))
  where
    turns : (row : Row) → is_net (side row line) node.node.net ≡ true → may_turn line node.node.net ≡ true
    turns P e = or_left (is_net line.p node.node.net) (is_net line.n node.node.net) e
    turns N e = or_right (is_net line.p node.node.net) (is_net line.n node.node.net) e

-- a number that is not the first one
pub record After (k : ℕ) : Type 0 where
  pub before : ℕ
  pub is : k ≡ suc before

pub after : (k l : ℕ) → l < k → After k
after zero l less = absurd (omega (arith, less))
after (suc m) l less = record { before = m; is = refl }
