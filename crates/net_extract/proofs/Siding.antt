-- The sides of a gate, the net along each, and the device between them.
use Rattle.std.proofs.Common.{◌≡◌, ◌↔◌, IsTrue, IfSome, ℕ, min, max, ℤ, Bool, true, false, Option, Some, None, List, [], ◌∷◌, slice_get, arith, inl, inr, ◌⊎◌, refl, sym, subst, ap, ◌∙◌}
use Rattle.std.specs.List.{Contains}
use Rattle.std.proofs.lemmas.Int.{ints}
use Rattle.std.proofs.lemmas.Bool.{cases_order}
use Rattle.cell_num.proofs.Lists.{some_same, contains_here}
use Rattle.cell_num.proofs.In.{in_map, contains_map}
use Rattle.cell_num.specs.declared.finger.Row.{Row}
use Rattle.cell_num.specs.declared.finger.Row.TheVariants.{P, N}
use Rattle.box_geom.specs.Rectangle.{Rectangle, IsProper, Holds, Covers}
use Rattle.box_geom.specs.Touching.{Cell}
use Rattle.box_geom.specs.Chains.{Linked}
use Rattle.box_geom.specs.declared.shape.Shape.{Shape}
use Rattle.box_geom.specs.declared.layer.Layer.TheVariants.{Well, Active, Poly as PolyLayer}
use Rattle.scmos_rules.specs.Layout.{On}
use Rattle.scmos_rules.specs.declared.rules.Deck.{Deck}
use Rattle.scmos_rules.proofs.Chains.{inside}
use Rattle.net_extract.specs.Nets.{Site, site_at, Conducts, along, Wired, SameNet}
use Rattle.net_extract.specs.Numbering.{IsInNet}
use Rattle.net_extract.specs.Bonds.{IsIn}
use Rattle.net_extract.specs.Devices.{InRow, diffusion_of, IsSide, IsClosed, IsSize, source_side, drain_side, low_end, high_end, IsGateBox, IsDevice, IsSomeDevice}
use Rattle.net_extract.specs.Extraction.{IsDrawn}
use Rattle.net_extract.specs.Pieces.{rect_of}
use Rattle.net_extract.specs.Connections.{firsts_of, pieces_of, AreWires}
use Rattle.net_extract.specs.Lookups.{net_in}
use Rattle.net_extract.specs.Areas.{IsFull, IsFree}
use Rattle.net_extract.specs.Sides.{IsInRow, IsDiffusion, IsSideNet, IsAlong, IsNotAlong, AreClosed, width_of, length_of, drawn_as}
use Rattle.net_extract.specs.declared.side.Current.{Current}
use Rattle.net_extract.specs.declared.side.Current.TheVariants.{Rightward, Upward}
use Rattle.net_extract.specs.declared.netlist.Drawn.{Drawn}
use Rattle.net_extract.specs.declared.piece.Conductor.TheVariants.{Poly}
use Rattle.net_extract.specs.declared.piece.Piece.{Piece}
use Rattle.net_extract.specs.declared.connections.Wire.{Wire}
use Rattle.net_extract.proofs.Bonds.{carried_steps}
use Rattle.net_extract.proofs.Covering.{cover_none, cover_split}
use Rattle.net_extract.proofs.Labelling.{net_in_some, net_in_none}
use Rattle.net_extract.proofs.Listing.{piece_proper, held as held_cell}
use Rattle.net_extract.proofs.Wiring.{net_back, net_both, net_self}

-- ---- rows
pub full_row : (s : List Shape) (area : Rectangle) (b : Bool) → (IsTrue b ↔ IsFull s Well area) → IsTrue b ↔ IsInRow s P area
full_row s area b d = (λ t. record { all = (d.0 t).full }, λ r. d.1 (record { full = r.all }))

pub free_row : (s : List Shape) (area : Rectangle) (b : Bool) → (IsTrue b ↔ IsFree s Well area) → IsTrue b ↔ IsInRow s N area
free_row s area b d = (λ t. record { all = (d.0 t).free }, λ r. d.1 (record { free = r.all }))

pub ruleset row_rules = (full_row, free_row)

-- ---- areas of diffusion
diffusion_there : (s : List Shape) (row : Row) (x y : ℤ) → On Active s x y → (On PolyLayer s x y → ⊥) → InRow row s x y → Conducts s (site_at (diffusion_of row) x y)
diffusion_there s P x y a p w = ((a, p), w)
diffusion_there s N x y a p w = ((a, p), w)

of_diffusion : (s : List Shape) (row : Row) (x y : ℤ) → Conducts s (site_at (diffusion_of row) x y) → On Active s x y × (On PolyLayer s x y → ⊥) × InRow row s x y
of_diffusion s P x y d = (d.0.0, d.0.1, d.1)
of_diffusion s N x y d = (d.0.0, d.0.1, d.1)

pub no_active : (s : List Shape) (row : Row) (area : Rectangle) (b : Bool) → (IsTrue b ↔ IsFull s Active area) → b ≡ false → IsDiffusion s row area → ⊥
no_active s row area b d e is = let t = d.1 (record { full = λ x y h. (of_diffusion s row x y (is.all x y h)).0 }) in absurd (cc (sym e ∙ t))

pub some_poly : (s : List Shape) (row : Row) (area : Rectangle) (b : Bool) → (IsTrue b ↔ IsFree s PolyLayer area) → b ≡ false → IsDiffusion s row area → ⊥
some_poly s row area b d e is = let t = d.1 (record { free = λ x y h. (of_diffusion s row x y (is.all x y h)).1 }) in absurd (cc (sym e ∙ t))

pub is_diffused : (s : List Shape) (row : Row) (area : Rectangle) (a p r : Bool) → (IsTrue a ↔ IsFull s Active area) → a ≡ true → (IsTrue p ↔ IsFree s PolyLayer area) → p ≡ true → (IsTrue r ↔ IsInRow s row area) → IsTrue r ↔ IsDiffusion s row area
is_diffused s row area a p r da ea dp ep dr = (
  λ t. record { all = λ x y h. diffusion_there s row x y ((da.0 ea).full x y h) ((dp.0 ep).free x y h) ((dr.0 t).all x y h) },
  λ d. dr.1 (record { all = λ x y h. (of_diffusion s row x y (d.all x y h)).2 }),
)

pub ruleset diffusion_rules = (no_active, some_poly, is_diffused)

-- ---- the net along a side
pub in_first : (deck : Deck) (s : List Shape) (firsts : List Site) (n : ℕ) (a b : Site) → IsInNet deck s firsts n a → IsInNet deck s firsts n b → SameNet deck s a b
in_first deck s firsts n a b x y =
    let same : x.first ≡ y.first = some_same x.first y.first (sym x.numbered ∙ y.numbered) in
    net_both deck s a x.first b (net_back deck s x.first a x.same) (subst (λ z. SameNet deck s z b) (sym same) y.same)

pub move_net : (deck : Deck) (s : List Shape) (firsts : List Site) (n : ℕ) (a b : Site) → IsInNet deck s firsts n a → SameNet deck s a b → IsInNet deck s firsts n b
move_net deck s firsts n a b x ab = record { first = x.first; numbered = x.numbered; same = net_both deck s x.first a b x.same ab }

-- two sites of one net
pub same_number : (deck : Deck) (s : List Shape) (firsts : List Site) (m n : ℕ) (a b : Site) → m ≡ n → IsInNet deck s firsts m a → IsInNet deck s firsts n b → SameNet deck s a b
same_number deck s firsts m n a b e x y =
    let same : x.first ≡ y.first = some_same x.first y.first (sym x.numbered ∙ (ap (λ k. slice_get firsts k) e ∙ y.numbered)) in
    net_both deck s a x.first b (net_back deck s x.first a x.same) (subst (λ z. SameNet deck s z b) (sym same) y.same)

pub corner_held : (r : Rectangle) → IsProper r → Holds r r.x1 r.y1
corner_held r p = let w = p.wide in let h = p.high in omega (arith, ints)

-- a cell of the kind lies in a wire of it
pub record InWire (wires : List Wire) (a : Site) : Type 0 where
  pub wire : Wire
  pub listed : Contains wires wire
  pub inside : IsIn wire.piece a

pub in_wire : (deck : Deck) (s : List Shape) (wires : List Wire) (firsts : List Piece) → AreWires deck s wires firsts → (a : Site) → Conducts s a → InWire wires a
in_wire deck s wires firsts m a c =
    let h = held_cell s (pieces_of wires) m.drawn a c in
    let i = in_map (λ (z : Wire). z.piece) wires h.piece h.listed in
    record { wire = i.of; listed = i.listed; inside = subst (λ p. IsIn p a) (sym i.is) h.inside }

pub wire_proper : (deck : Deck) (s : List Shape) (wires : List Wire) (firsts : List Piece) → AreWires deck s wires firsts → (w : Wire) → Contains wires w → IsProper (rect_of w.piece)
wire_proper deck s wires firsts m w c = piece_proper s (pieces_of wires) m.drawn w.piece (contains_map (λ (z : Wire). z.piece) wires w c)

-- the cells of an area of diffusion are of one net
one_side_net : (deck : Deck) (s : List Shape) (row : Row) (area : Rectangle) → IsDiffusion s row area → (x y u v : ℤ) → Holds area x y → Holds area u v → SameNet deck s (site_at (diffusion_of row) x y) (site_at (diffusion_of row) u v)
one_side_net deck s row area d x y u v h k =
    let c = inside (area ∷ []) area (contains_here area []) x y u v h k in
    record { conducts = d.all x y h; chain = carried_steps (Linked (Covers (area ∷ []))) (Wired deck s) (λ (z : Cell). site_at (diffusion_of row) z.x z.y) step c.count (record { x = x; y = y }) (record { x = u; y = v }) c.steps }
  where
    there : (z : Cell) → Covers (area ∷ []) z.x z.y → Conducts s (site_at (diffusion_of row) z.x z.y)
    there z c = elim (cover_split area [] z.x z.y c) [ inl g ↦ d.all z.x z.y g | inr r ↦ absurd (cover_none z.x z.y r) ]

    step : (a b : Cell) → Linked (Covers (area ∷ [])) a b → Wired deck s (site_at (diffusion_of row) a.x a.y) (site_at (diffusion_of row) b.x b.y)
    step a b l = record { from = there a l.from; to = there b l.to; meets = along refl l.edge }

pub side_some : (deck : Deck) (s : List Shape) (wires : List Wire) (firsts : List Piece) → AreWires deck s wires firsts → (row : Row) (area : Rectangle) (n : ℕ) → IsProper area → IsDiffusion s row area → net_in wires (diffusion_of row) area.x1 area.y1 ≡ Some n → IsSideNet deck s (firsts_of firsts) row area n
side_some deck s wires firsts m row area n p d e = record {
  site = site_at (diffusion_of row) area.x1 area.y1;
  side = record {
    conducts = d.all area.x1 area.y1 (corner_held area p);
    side = λ x y h. (d.all x y h, one_side_net deck s row area d area.x1 area.y1 x y (corner_held area p) h);
  };
  net = (net_in_some deck s wires firsts m (diffusion_of row) area.x1 area.y1 n e).net;
}

pub side_not_diffusion : (deck : Deck) (s : List Shape) (row : Row) (area : Rectangle) → (IsDiffusion s row area → ⊥) → (a : Site) → IsSide deck s (diffusion_of row) area a → ⊥
side_not_diffusion deck s row area out a side = out (record { all = λ x y h. (side.side x y h).0 })

pub side_no_net : (deck : Deck) (s : List Shape) (wires : List Wire) (firsts : List Piece) → AreWires deck s wires firsts → (row : Row) (area : Rectangle) → IsProper area → net_in wires (diffusion_of row) area.x1 area.y1 ≡ None → (a : Site) → IsSide deck s (diffusion_of row) area a → ⊥
side_no_net deck s wires firsts m row area p e a side = net_in_none deck s wires firsts m (diffusion_of row) area.x1 area.y1 e (side.side area.x1 area.y1 (corner_held area p)).0

-- what holds of what there is
pub some_if : {X : Type 0} (A : X → Type 0) (o : Option X) → ((x : X) → o ≡ Some x → A x) → IfSome o A
some_if A (Some x) f = f x refl
some_if A None f = tt

-- ---- the four sides of a gate
pub source_proper : (current : Current) (r a : Rectangle) → IsProper r → a ≡ source_side current r → IsProper a
source_proper Rightward r a p e = subst IsProper (sym e) (let w = p.wide in let h = p.high in record { wide = omega (arith, ints); high = omega (arith, ints) })
source_proper Upward r a p e = subst IsProper (sym e) (let w = p.wide in let h = p.high in record { wide = omega (arith, ints); high = omega (arith, ints) })

pub drain_proper : (current : Current) (r a : Rectangle) → IsProper r → a ≡ drain_side current r → IsProper a
drain_proper Rightward r a p e = subst IsProper (sym e) (let w = p.wide in let h = p.high in record { wide = omega (arith, ints); high = omega (arith, ints) })
drain_proper Upward r a p e = subst IsProper (sym e) (let w = p.wide in let h = p.high in record { wide = omega (arith, ints); high = omega (arith, ints) })

pub low_proper : (current : Current) (r a : Rectangle) → IsProper r → a ≡ low_end current r → IsProper a
low_proper Rightward r a p e = subst IsProper (sym e) (let w = p.wide in let h = p.high in record { wide = omega (arith, ints); high = omega (arith, ints) })
low_proper Upward r a p e = subst IsProper (sym e) (let w = p.wide in let h = p.high in record { wide = omega (arith, ints); high = omega (arith, ints) })

pub high_proper : (current : Current) (r a : Rectangle) → IsProper r → a ≡ high_end current r → IsProper a
high_proper Rightward r a p e = subst IsProper (sym e) (let w = p.wide in let h = p.high in record { wide = omega (arith, ints); high = omega (arith, ints) })
high_proper Upward r a p e = subst IsProper (sym e) (let w = p.wide in let h = p.high in record { wide = omega (arith, ints); high = omega (arith, ints) })

pub low_not_closed : (s : List Shape) (current : Current) (r a : Rectangle) (b : Bool) → a ≡ low_end current r → (IsTrue b ↔ IsFree s Active a) → b ≡ false → AreClosed s current r → ⊥
low_not_closed s current r a b e d no' c = let t = d.1 (subst (IsFree s Active) (sym e) (record { free = c.low.closed })) in absurd (cc (sym no' ∙ t))

pub both_closed : (s : List Shape) (current : Current) (r a z : Rectangle) (b t : Bool) → a ≡ low_end current r → (IsTrue b ↔ IsFree s Active a) → b ≡ true → z ≡ high_end current r → (IsTrue t ↔ IsFree s Active z) → IsTrue t ↔ AreClosed s current r
both_closed s current r a z b t ea da eb ez dz = (
  λ x. record { low = record { closed = (subst (IsFree s Active) ea (da.0 eb)).free }; high = record { closed = (subst (IsFree s Active) ez (dz.0 x)).free } },
  λ c. dz.1 (subst (IsFree s Active) (sym ez) (record { free = c.high.closed })),
)

-- ---- the device between two sides
size_of : (current : Current) (p : Piece) → IsProper (rect_of p) → IsSize current (rect_of p) (width_of current p) (length_of current p)
size_of Rightward p r = let w = r.wide in let h = r.high in record { across = λ e. (omega (arith, ints), omega (arith, ints)); upright = λ e. absurd (cc e) }
size_of Upward p r = let w = r.wide in let h = r.high in record { across = λ e. absurd (cc e); upright = λ e. (omega (arith, ints), omega (arith, ints)) }

ends_of : (one other : ℕ) → (((min one other ≡ one) × (max one other ≡ other)) ⊎ ((min one other ≡ other) × (max one other ≡ one)))
ends_of one other = elim (cases_order one other) [
  | inl e ↦ inl (omega (arith, e), omega (arith, e))
  | inr r ↦ elim r [ inl l ↦ inl (omega (arith, l), omega (arith, l)) | inr g ↦ inr (omega (arith, g), omega (arith, g)) ]
]

pub along_is : (deck : Deck) (s : List Shape) (wires : List Wire) (firsts : List Piece) → AreWires deck s wires firsts → (p : Piece) (row : Row) (current : Current) (gate one other : ℕ) (d : Drawn) → IsProper (rect_of p) → AreClosed s current (rect_of p) → net_in wires Poly p.left p.low ≡ Some gate → IsSideNet deck s (firsts_of firsts) row (source_side current (rect_of p)) one → IsSideNet deck s (firsts_of firsts) row (drain_side current (rect_of p)) other → d ≡ drawn_as row gate (one, other) p current → IsAlong deck s (firsts_of firsts) (rect_of p) row current d
along_is deck s wires firsts m p row current gate one other d proper closed e source drain is = subst (IsAlong deck s (firsts_of firsts) (rect_of p) row current) (sym is) (record {
  of_row = refl;
  gate = (net_in_some deck s wires firsts m Poly p.left p.low gate e).net;
  one = one;
  other = other;
  source = source;
  drain = drain;
  ends = ends_of one other;
  order = omega arith;
  low = closed.low;
  high = closed.high;
  size = size_of current p proper;
})

pub along_drawn : (deck : Deck) (s : List Shape) (firsts : List Site) (r : Rectangle) (row : Row) (current : Current) (d : Drawn) → IsGateBox s r → IsInRow s row r → IsAlong deck s firsts r row current d → IsDrawn deck s firsts r d
along_drawn deck s firsts r row current d box in_row a = record {
  gate = site_at Poly r.x1 r.y1;
  left = a.source.site;
  right = a.drain.site;
  is = subst (λ w. IsDevice deck s r w (site_at Poly r.x1 r.y1) a.source.site a.drain.site d.width d.length) (sym a.of_row) (record {
    current = current;
    class = box;
    of_row = in_row.all;
    gate_net = net_self deck s (site_at Poly r.x1 r.y1) (box.gate r.x1 r.y1 (corner_held r box.proper)).1;
    left_side = a.source.side;
    right_side = a.drain.side;
    low = a.low;
    high = a.high;
    size = a.size;
  });
  gate_net = a.gate;
  sides = elim a.ends [
    | inl e ↦ inl (subst (λ n. IsInNet deck s firsts n a.source.site) (sym e.0) a.source.net, subst (λ n. IsInNet deck s firsts n a.drain.site) (sym e.1) a.drain.net)
    | inr e ↦ inr (subst (λ n. IsInNet deck s firsts n a.drain.site) (sym e.0) a.drain.net, subst (λ n. IsInNet deck s firsts n a.source.site) (sym e.1) a.source.net)
  ];
  order = a.order;
}

-- a cell is in one row
pub row_one : (s : List Shape) (a b : Row) (x y : ℤ) → InRow a s x y → InRow b s x y → a ≡ b
row_one s P P x y u v = refl
row_one s P N x y u v = absurd (v u)
row_one s N P x y u v = absurd (u v)
row_one s N N x y u v = refl

pub no_device : (deck : Deck) (s : List Shape) (r : Rectangle) (row : Row) → IsProper r → IsInRow s row r → IsNotAlong deck s r row Rightward → IsNotAlong deck s r row Upward → IsSomeDevice deck s r → ⊥
no_device deck s r row p in_row across up d =
    let c = corner_held r p in
    let same : d.row ≡ row = row_one s d.row row r.x1 r.y1 (d.is.of_row r.x1 r.y1 c) (in_row.all r.x1 r.y1 c) in
    by (subst (λ w. IsDevice deck s r w d.gate d.left d.right d.width d.length) same d.is)
  where
    at : (f : Current) → IsSide deck s (diffusion_of row) (source_side f r) d.left → IsSide deck s (diffusion_of row) (drain_side f r) d.right → IsClosed s (low_end f r) → IsClosed s (high_end f r) → ⊥
    at Rightward a b l h = across.never d.left d.right a b l h
    at Upward a b l h = up.never d.left d.right a b l h

    by : IsDevice deck s r row d.gate d.left d.right d.width d.length → ⊥
    by is = at is.current is.left_side is.right_side is.low is.high

pub no_row : (deck : Deck) (s : List Shape) (r : Rectangle) → (IsInRow s P r → ⊥) → (IsInRow s N r → ⊥) → IsSomeDevice deck s r → ⊥
no_row deck s r p n d = by d.row d.is.of_row
  where
    by : (row : Row) → ((x y : ℤ) → Holds r x y → InRow row s x y) → ⊥
    by P h = p (record { all = h })
    by N h = n (record { all = h })

pub if_some : {X : Type 0} (A B : X → Type 0) (o : Option X) → ((x : X) → A x → B x) → IfSome o A → IfSome o B
if_some A B None f h = tt
if_some A B (Some x) f h = f x h
