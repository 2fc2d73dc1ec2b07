-- The fields of IsLaid on fingers and contacts.
use Rattle.std.proofs.Common.{ℕ, ◌≡◌, ◌+◌, ◌*◌, ◌<◌, ◌≤◌, ◌⊎◌, Bool, true, false, if◌then◌else◌, List, Option, Some, None, length, inl, inr, refl, sym, ap, subst, ◌∙◌, arith, All, Contains, slice_get}
use Rattle.std.proofs.lemmas.Bool.{cases_eq, cases_lt}
use Rattle.std.proofs.lemmas.List.Elements.{All-contains}
use Rattle.cell_num.specs.declared.net.NetNo.{NetNo}
use Rattle.cell_num.specs.declared.net.Pins.{Pins}
use Rattle.cell_num.specs.Pins.{IsRail}
use Rattle.cell_num.specs.Fingers.{HasNoEnd}
use Rattle.cell_num.specs.declared.finger.Row.{Row}
use Rattle.cell_num.specs.declared.finger.Row.TheVariants.{P, N}
use Rattle.cell_num.proofs.Lists.{some_same, contains_get}
use Rattle.row_model.specs.declared.column.Placed.{Placed}
use Rattle.row_model.specs.declared.column.Column.{Column}
use Rattle.row_model.specs.Arrangement.{place}
use Rattle.row_model.specs.Gaps.{left_net, right_net}
use Rattle.row_place.specs.declared.placement.NodePlace.{NodePlace}
use Rattle.row_place.specs.declared.placement.Placement.{Placement}
use Rattle.row_place.specs.Places.{IsNode, IsPlacement, StandsBefore}
use Rattle.row_place.specs.Units.{unit_of}
use Rattle.row_place.proofs.Apart.{even_node, nodes_apart}
use Rattle.row_place.proofs.Bounds.{node_line}
use Rattle.row_place.proofs.Units.{unit_below}
use Rattle.channel_route.specs.declared.routing.Routing.{Routing}
use Rattle.row_compact.specs.Solution.{x_of}
use Rattle.cell_draw.specs.declared.layout.Frame.{Frame}
use Rattle.cell_draw.specs.declared.layout.Strip.{Strip}
use Rattle.cell_draw.specs.declared.layout.Contact.{Contact}
use Rattle.cell_draw.specs.declared.layout.Layout.{Layout}
use Rattle.cell_draw.specs.Frame.{height_of}
use Rattle.cell_draw.specs.Laid.{IsInside, row_height, rail_in, AreFar, IsStrip, Follows, MeetsEnd}
use Rattle.row_compact.proofs.Decide.{rail_decides}
use Rattle.cell_draw.specs.Layouts.{width_of, contact_of}
use Rattle.cell_draw.specs.Small.{IsFingerWidth, HasWidths}
use Rattle.cell_draw.specs.Sound.{IsSoundRow, AreLines}
use Rattle.cell_draw.proofs.Sizes.{width_in}
use Rattle.cell_draw.proofs.BridgeLines.{behind, after_first, before_end, same_line, units_rise, one_in_order}
use Rattle.cell_draw.proofs.BridgeRow.{height_holds, other_rail, no_end}
use Rattle.cell_draw.proofs.BridgeFrom.{StripFrom, ContactFrom, Kind, rail, signal}

-- a column's two node lines are lines of the placement
pub unit_last : (p : Placement) → IsPlacement p → (at : ℕ) (c : Column) → slice_get p.row at ≡ Some c → 2 * unit_of p.row at + 2 ≤ 2 * length p.units
unit_last p is at c stands = omega (arith, unit_below p.row at c stands, ap length is.units)

height_row : (f : Frame) (columns : List Column) → f.n_height ≡ height_of N columns → f.p_height ≡ height_of P columns → (side : Row) → row_height f side ≡ height_of side columns
height_row f columns n p N = n
height_row f columns n p P = p

filled_wide : (c : Column) (side : Row) (x : Placed) → HasWidths c → place side c ≡ Some x → 6 ≤ x.finger.width
filled_wide c side x w e = let both : IsFingerWidth (Some x) = subst (λ o. IsFingerWidth o) e (width_in c side w) in both.0

pub strip_is : (p : Placement) (xs : List ℕ) (f : Frame) → IsPlacement p → AreLines p xs → All HasWidths p.row → f.width ≡ width_of p xs → f.n_height ≡ height_of N p.row → f.p_height ≡ height_of P p.row → (s : Strip) → StripFrom p.row xs s → IsStrip f s
strip_is p xs f is lines widths width hn hp s from =
    let unit : ℕ = unit_of p.row from.at in
    let last : 2 * unit_of p.row from.at + 2 ≤ 2 * length p.units = unit_last p is from.at from.column from.stands in
    let there : Contains p.row from.column = contains_get p.row from.at from.column from.stands in
    let wide : 6 ≤ from.finger.finger.width = filled_wide from.column s.row from.finger (All-contains HasWidths p.row from.column widths there) from.filled in
    record {
      left = omega (arith, from.left, after_first p xs lines (2 * unit_of p.row from.at) (omega (arith, last)));
      wide = omega (arith, from.left, from.right, behind p xs lines (2 * unit_of p.row from.at) (2 * unit_of p.row from.at + 2) 2 (omega arith) last);
      right = omega (arith, from.right, width, before_end p xs lines (2 * unit_of p.row from.at + 2) last);
      least = omega (arith, from.width, wide);
      most = omega (arith, from.width, height_row f p.row hn hp s.row, height_holds s.row p.row from.column from.finger there from.filled);
    }

-- strips are equal where their numbers are
make : Row → ℕ → ℕ → ℕ → Strip
make row left right width = record { row = row; left = left; right = right; width = width }

made : {r r' : Row} {a a' b b' c c' : ℕ} → r ≡ r' → a ≡ a' → b ≡ b' → c ≡ c' → make r a b c ≡ make r' a' b' c'
made er ea eb ec = cc

pub same_strip : (s t : Strip) → s.row ≡ t.row → s.left ≡ t.left → s.right ≡ t.right → s.width ≡ t.width → s ≡ t
unfolding make
same_strip s t r a b c = made r a b c

follows : (p : Placement) (xs : List ℕ) → IsPlacement p → AreLines p xs → (s t : Strip) (a : StripFrom p.row xs s) (b : StripFrom p.row xs t) → a.at < b.at → Follows s t
follows p xs is lines s t a b less =
    let rise : unit_of p.row a.at < unit_of p.row b.at = units_rise p.row a.at b.at a.column b.column less a.stands b.stands in
    let last : 2 * unit_of p.row b.at + 2 ≤ 2 * length p.units = unit_last p is b.at b.column b.stands in
    elim (cases_eq (2 * unit_of p.row a.at + 2) (2 * unit_of p.row b.at)) [
      | inl same ↦ inl (a.right ∙ ap (λ n. x_of xs n) same ∙ sym b.left)
      | inr apart ↦ inr (omega (arith, a.right, b.left, behind p xs lines (2 * unit_of p.row a.at + 2) (2 * unit_of p.row b.at) 2 (omega (arith, rise, apart)) (omega (arith, last))))
    ]

pub ordered : (p : Placement) (xs : List ℕ) → IsPlacement p → AreLines p xs → (s t : Strip) → StripFrom p.row xs s → StripFrom p.row xs t → s.row ≡ t.row → (s ≡ t) ⊎ (Follows s t ⊎ Follows t s)
ordered p xs is lines s t a b row = elim (cases_lt a.at b.at) [
  | inl less ↦ inr (inl (follows p xs is lines s t a b less))
  | inr le ↦ elim (cases_lt b.at a.at) [
    | inl less ↦ inr (inr (follows p xs is lines t s b a less))
    | inr ge ↦
        let at : a.at ≡ b.at = omega (arith, le, ge) in
        let column : a.column ≡ b.column = some_same a.column b.column (sym a.stands ∙ ap (λ n. slice_get p.row n) at ∙ b.stands) in
        let finger : a.finger ≡ b.finger = some_same a.finger b.finger (sym a.filled ∙ ap (λ r. place r a.column) row ∙ ap (λ c. place t.row c) column ∙ b.filled) in
        inl (same_strip s t row
        (a.left ∙ ap (λ n. x_of xs (2 * unit_of p.row n)) at ∙ sym b.left)
        (a.right ∙ ap (λ n. x_of xs (2 * unit_of p.row n + 2)) at ∙ sym b.right)
        (a.width ∙ ap (λ (x : Placed). x.finger.width) finger ∙ sym b.width))
  ]
]

-- contacts, by their nodes
pub node_last : (p : Placement) → IsPlacement p → (node : NodePlace) → Contains p.nodes node → node.line ≤ 2 * length p.units
node_last p is node there = node_line p is node there

pub inside : (p : Placement) (xs : List ℕ) (f : Frame) → IsPlacement p → AreLines p xs → f.width ≡ width_of p xs → (line : ℕ) → line ≤ 2 * length p.units → (x : ℕ) → x ≡ x_of xs line → IsInside f x
inside p xs f is lines width line last x e = record {
  left = omega (arith, e, after_first p xs lines line last);
  right = omega (arith, e, width, before_end p xs lines line last);
}

pub far_nodes : (p : Placement) (xs : List ℕ) → IsPlacement p → AreLines p xs → (m n : NodePlace) → Contains p.nodes m → Contains p.nodes n → m.line < n.line → x_of xs m.line + 16 ≤ x_of xs n.line
far_nodes p xs is lines m n lm ln less = behind p xs lines m.line n.line 2 (nodes_apart p.row m n ((is.nodes m).0 lm) ((is.nodes n).0 ln) less) (node_line p is n ln)

pub spread : (p : Placement) (xs : List ℕ) (f : Frame) (pins : Pins) (r : Routing) → IsPlacement p → AreLines p xs → (c d : Contact) → ContactFrom f pins r.trunks xs p.nodes c → ContactFrom f pins r.trunks xs p.nodes d → (c.x ≡ d.x) ⊎ AreFar 16 c.x d.x
spread p xs f pins r is lines c d a b = elim (cases_lt a.node.line b.node.line) [
  | inl less ↦ inr (inl (omega (arith, a.x, b.x, far_nodes p xs is lines a.node b.node a.there b.there less)))
  | inr le ↦ elim (cases_lt b.node.line a.node.line) [
    | inl less ↦ inr (inr (omega (arith, a.x, b.x, far_nodes p xs is lines b.node a.node b.there a.there less)))
    | inr ge ↦ let same : a.node.line ≡ b.node.line = omega (arith, le, ge) in inl (a.x ∙ ap (λ n. x_of xs n) same ∙ sym b.x)
  ]
]

not_before : (m n : NodePlace) → m.row ≡ n.row → m.line ≡ n.line → StandsBefore m n → ⊥
not_before m n row line (inl less) = omega (arith, line, less)
not_before m n row line (inr (same, first, second)) = differ (sym first ∙ row ∙ second)
  where
    differ : N ≡ P → ⊥
    differ e = cc

-- a row has one place at a line
pub one_node : (p : Placement) → IsPlacement p → (m n : NodePlace) → Contains p.nodes m → Contains p.nodes n → m.row ≡ n.row → m.line ≡ n.line → m ≡ n
one_node p is m n lm ln row line = one_in_order StandsBefore p.nodes m n is.node_order lm ln (not_before m n row line) (not_before n m (sym row) (sym line))

-- contacts at one place are at one line
pub node_lines : (p : Placement) (xs : List ℕ) (f : Frame) (pins : Pins) (r : Routing) → IsPlacement p → AreLines p xs → (c d : Contact) (a : ContactFrom f pins r.trunks xs p.nodes c) (b : ContactFrom f pins r.trunks xs p.nodes d) → c.x ≡ d.x → a.node.line ≡ b.node.line
node_lines p xs f pins r is lines c d a b x = same_line p xs lines a.node.line b.node.line (node_line p is a.node a.there) (node_line p is b.node b.there) (sym a.x ∙ x ∙ b.x)

pub single : (p : Placement) (xs : List ℕ) (f : Frame) (pins : Pins) (r : Routing) → IsPlacement p → AreLines p xs → (c d : Contact) → ContactFrom f pins r.trunks xs p.nodes c → ContactFrom f pins r.trunks xs p.nodes d → c.row ≡ d.row → c.x ≡ d.x → c ≡ d
single p xs f pins r is lines c d a b row x =
    let node : a.node ≡ b.node = one_node p is a.node b.node a.there b.there (sym a.row ∙ row ∙ b.row) (node_lines p xs f pins r is lines c d a b x) in
    some_same c d (sym a.gives ∙ ap (λ n. contact_of f pins r.trunks xs n) node ∙ b.gives)

-- the net of a node is that of an end of a finger
pub record EndOf (row : List Column) (side : Row) (net : NetNo) : Type 0 where
  pub column : Column
  pub finger : Placed
  pub there : Contains row column
  pub filled : place side column ≡ Some finger
  pub is : (net ≡ finger.finger.lo) ⊎ (net ≡ finger.finger.hi)

end_cases : (x : Placed) (net : NetNo) → (net ≡ left_net x) ⊎ (net ≡ right_net x) → (net ≡ x.finger.lo) ⊎ (net ≡ x.finger.hi)
end_cases x net h = by x.flipped refl h
  where
    by : (b : Bool) → x.flipped ≡ b → (net ≡ (if x.flipped then x.finger.hi else x.finger.lo)) ⊎ (net ≡ (if x.flipped then x.finger.lo else x.finger.hi)) → (net ≡ x.finger.lo) ⊎ (net ≡ x.finger.hi)
    by true e (inl h) = inr (h ∙ ap (λ b. if b then x.finger.hi else x.finger.lo) e)
    by true e (inr h) = inl (h ∙ ap (λ b. if b then x.finger.lo else x.finger.hi) e)
    by false e (inl h) = inl (h ∙ ap (λ b. if b then x.finger.hi else x.finger.lo) e)
    by false e (inr h) = inr (h ∙ ap (λ b. if b then x.finger.lo else x.finger.hi) e)

pub end_of : (row : List Column) (node : NodePlace) → IsNode row node → EndOf row node.row node.net
end_of row node h = record {
  column = h.column;
  finger = h.finger;
  there = contains_get row h.at h.column h.stands;
  filled = h.filled;
  is = end_cases h.finger node.net (elim h.end [ inl e ↦ inl e.1 | inr e ↦ inr e.1 ]);
}

-- no place of a row has the other row's rail
pub not_other : (names : List (List ℕ)) (pins : Pins) (p : Placement) → IsPlacement p → IsSoundRow names pins p.row → (node : NodePlace) → Contains p.nodes node → node.net ≡ other_rail node.row pins → ⊥
not_other names pins p is sound node there same =
    let e : EndOf p.row node.row node.net = end_of p.row node ((is.nodes node).0 there) in
    let none : HasNoEnd (other_rail node.row pins) e.finger.finger = no_end names pins p.row sound node.row e.column e.finger e.there e.filled in
    elim e.is [
      | inl lo ↦ none.0 (sym lo ∙ same)
      | inr hi ↦ none.1 (sym hi ∙ same)
    ]

-- a rail in a row is the row's own
pub own_rail : (l : Layout) (pins : Pins) → l.gnd ≡ pins.gnd → l.vdd ≡ pins.vdd → (side : Row) (net : NetNo) → IsRail pins net → (net ≡ other_rail side pins → ⊥) → net ≡ rail_in side l
own_rail l pins g w N net (inl v) other = absurd (other v)
own_rail l pins g w N net (inr v) other = v ∙ sym g
own_rail l pins g w P net (inl v) other = v ∙ sym w
own_rail l pins g w P net (inr v) other = absurd (other v)

pub ends : (p : Placement) (xs : List ℕ) (f : Frame) (pins : Pins) (r : Routing) → IsPlacement p → AreLines p xs → (c : Contact) (s : Strip) → ContactFrom f pins r.trunks xs p.nodes c → StripFrom p.row xs s → MeetsEnd c s
ends p xs f pins r is lines c s a b = by (even_node p.row a.node ((is.nodes a.node).0 a.there))
  where
    last : 2 * unit_of p.row b.at + 2 ≤ 2 * length p.units
    last = unit_last p is b.at b.column b.stands

    by : (half : ℕ) × (a.node.line ≡ 2 * half) → MeetsEnd c s
    by (half, even) = elim (cases_eq a.node.line (2 * unit_of p.row b.at)) [
      | inl same ↦ inl (a.x ∙ ap (λ n. x_of xs n) same ∙ sym b.left)
      | inr not_left ↦ elim (cases_eq a.node.line (2 * unit_of p.row b.at + 2)) [
        | inl same ↦ inr (inl (a.x ∙ ap (λ n. x_of xs n) same ∙ sym b.right))
        | inr not_right ↦ elim (cases_lt a.node.line (2 * unit_of p.row b.at)) [
          | inl less ↦ inr (inr (inl (omega (arith, a.x, b.left, behind p xs lines a.node.line (2 * unit_of p.row b.at) 2 (omega (arith, less, even)) (omega (arith, last))))))
          | inr more ↦ inr (inr (inr (omega (arith, a.x, b.right, behind p xs lines (2 * unit_of p.row b.at + 2) a.node.line 2 (omega (arith, more, even, not_left, not_right)) (node_line p is a.node a.there)))))
        ]
      ]
    ]

-- a rail's contact is of the row's rail
pub rails : (names : List (List ℕ)) (xs : List ℕ) (f : Frame) (pins : Pins) (p : Placement) (r : Routing) (l : Layout) → IsPlacement p → IsSoundRow names pins p.row → l.gnd ≡ pins.gnd → l.vdd ≡ pins.vdd → (c : Contact) → ContactFrom f pins r.trunks xs p.nodes c → c.reach ≡ None → c.net ≡ rail_in c.row l
rails names xs f pins p r l is sound gnd vdd c a none = by c.reach a.kind none
  where
    by : (reach : Option ℕ) → Kind f pins r.trunks a.node reach → reach ≡ None → c.net ≡ rail_in c.row l
    by reach (rail e n) none' = a.net ∙ own_rail l pins gnd vdd a.node.row a.node.net ((rail_decides pins a.node.net).0 e) (not_other names pins p is sound a.node a.there) ∙ ap (λ side. rail_in side l) (sym a.row)
    by reach (signal other is y e) none' = absurd (let wrong : Some y ≡ None = sym e ∙ none' in cc)
