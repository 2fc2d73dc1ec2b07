-- The pieces of conductor of a layout as rectangles, each with its kind and its net.
use Rattle.std.proofs.Common.{◌≡◌, ℕ, pos, ◌+ℤ◌, ◌-ℤ◌, List, [], ◌∷◌, ◌++◌, inl, inr, refl, sym, subst}
use Rattle.std.specs.List.{Contains, flat_map}
use Rattle.std.proofs.lemmas.List.Elements.{Contains-append_cases, Contains-append_left, Contains-append_right}
use Rattle.cell_num.specs.declared.net.NetNo.{NetNo}
use Rattle.cell_num.specs.declared.finger.Row.{Row}
use Rattle.cell_num.specs.declared.finger.Row.TheVariants.{P, N}
use Rattle.cell_num.proofs.In.{In, contains_in, in_contains, Piece as Inside, in_flat, contains_flat}
use Rattle.box_geom.specs.Rectangle.{Rectangle}
use Rattle.box_geom.specs.Layers.{rects_on}
use Rattle.box_geom.specs.declared.layer.Layer.TheVariants.{Poly as PolyLayer, Metal1 as Metal1Layer, Metal2 as Metal2Layer}
use Rattle.net_extract.specs.declared.piece.Conductor.{Conductor}
use Rattle.net_extract.specs.declared.piece.Conductor.TheVariants.{PDiffusion, NDiffusion, Poly, Metal1, Metal2}
use Rattle.net_extract.specs.Devices.{diffusion_of}
use Rattle.cell_draw.specs.declared.layout.Frame.{Frame}
use Rattle.cell_draw.specs.declared.layout.Strip.{Strip}
use Rattle.cell_draw.specs.declared.layout.Contact.{Contact}
use Rattle.cell_draw.specs.declared.layout.Layout.{Layout}
use Rattle.cell_draw.specs.Shapes.{finger_low, finger_high, reach_shapes, pad_shapes, shapes_of}
use Rattle.cell_draw.proofs.NetsFacts.{End, left_end, right_end, end_x, IsNetted}
use Rattle.cell_draw.proofs.RulesActive.{pad_in}
use Rattle.cell_draw.proofs.RulesLayers.{of_frame, of_contact, of_gate, of_bar, drawn}
use Rattle.cell_draw.proofs.RulesMetal1.{Metal, gnd, vdd, strap_of, bar_of, metal_rect, metal_net, IsMetal, on_metal1}
use Rattle.cell_draw.proofs.RulesMetal2.{Signal, IsSignal, branch_rect, on_metal2}
use Rattle.cell_draw.proofs.RulesPoly.{Piece, strip_of, pad_of, piece_gate, piece_rect, IsPiece, on_poly}

-- the part of a finger that lies to one side of the gate at x
abbrev pub half_in : Frame → Row → Strip → ℕ → End → Rectangle
half_in f row s x left_end = record { x1 = pos s.left; y1 = finger_low f row s.width; x2 = pos x -ℤ pos 2; y2 = finger_high f row s.width }
half_in f row s x right_end = record { x1 = pos x +ℤ pos 2; y1 = finger_low f row s.width; x2 = pos s.right; y2 = finger_high f row s.width }

pub data Wire : Type 0 where
  metal : Metal → Wire
  branch : Signal → Wire
  gate : Piece → Wire
  half : Strip → End → Wire
  pad : Contact → Wire

abbrev pub kind_of : Wire → Conductor
kind_of (metal m) = Metal1
kind_of (branch s) = Metal2
kind_of (gate g) = Poly
kind_of (half s e) = diffusion_of s.row
kind_of (pad c) = diffusion_of c.row

abbrev pub half_rect : (l : Layout) → IsNetted l → Strip → End → Rectangle
half_rect l n s e = half_in l.frame s.row s (n.over s).x e

abbrev pub pad_rect : Layout → Contact → Rectangle
pad_rect l c = (pad_in l.frame c.row c.x).rect

abbrev pub rect_of : (l : Layout) → IsNetted l → Wire → Rectangle
rect_of l n (metal m) = metal_rect l m
rect_of l n (branch s) = branch_rect l s
rect_of l n (gate g) = piece_rect l g
rect_of l n (half s e) = half_rect l n s e
rect_of l n (pad c) = pad_rect l c

abbrev pub net_of : (l : Layout) → IsNetted l → Wire → NetNo
net_of l n (metal m) = metal_net l m
net_of l n (branch s) = s.contact.net
net_of l n (gate g) = (piece_gate g).net
net_of l n (half s e) = n.nets s.row (end_x e s)
net_of l n (pad c) = c.net

abbrev pub IsWire : Layout → Wire → Type 0
IsWire l (metal m) = IsMetal l m
IsWire l (branch s) = IsSignal l s
IsWire l (gate g) = IsPiece l g
IsWire l (half s e) = Contains l.strips s
IsWire l (pad c) = Contains l.contacts c

-- those of a list that stands in the row
abbrev in_row : {X : Type 0} → Row → Row → List X → List X
in_row N N xs = xs
in_row P P xs = xs
in_row N P xs = []
in_row P N xs = []

abbrev halves_of : (l : Layout) → IsNetted l → Row → Strip → List Rectangle
halves_of l n row s = in_row row s.row (half_rect l n s left_end ∷ half_rect l n s right_end ∷ [])

abbrev pads_of : Layout → Row → Contact → List Rectangle
pads_of l row c = in_row row c.row (pad_rect l c ∷ [])

abbrev diffusion : (l : Layout) → IsNetted l → Row → List Rectangle
diffusion l n row = flat_map (halves_of l n row) l.strips ++ flat_map (pads_of l row) l.contacts

-- the rectangles of each kind of conductor
abbrev pub parts : (l : Layout) → IsNetted l → Conductor → List Rectangle
parts l n PDiffusion = diffusion l n P
parts l n NDiffusion = diffusion l n N
parts l n Poly = rects_on PolyLayer (shapes_of l)
parts l n Metal1 = rects_on Metal1Layer (shapes_of l)
parts l n Metal2 = rects_on Metal2Layer (shapes_of l)

-- a rectangle of a kind is that of a piece
pub record WireFrom (l : Layout) (n : IsNetted l) (k : Conductor) (r : Rectangle) : Type 0 where
  pub wire : Wire
  pub listed : IsWire l wire
  pub kind : kind_of wire ≡ k
  pub is : rect_of l n wire ≡ r

row_in : {X : Type 0} (row side : Row) (xs : List X) (x : X) → In (in_row row side xs) x → (side ≡ row) × In xs x
row_in N N xs x i = (refl, i)
row_in P P xs x i = (refl, i)
row_in N P xs x i = absurd i
row_in P N xs x i = absurd i

own_row : {X : Type 0} (row : Row) (xs : List X) (x : X) → In xs x → In (in_row row row xs) x
own_row N xs x i = i
own_row P xs x i = i

diffusion_from : (l : Layout) (n : IsNetted l) (row : Row) (r : Rectangle) → Contains (diffusion l n row) r → WireFrom l n (diffusion_of row) r
diffusion_from l n row r c = elim (Contains-append_cases (flat_map (halves_of l n row) l.strips) (flat_map (pads_of l row) l.contacts) r c) [
  | inl h ↦ of_half (in_flat (halves_of l n row) l.strips r h)
  | inr p ↦ of_pad (in_flat (pads_of l row) l.contacts r p)
]
  where
    side : (s : Strip) → Contains l.strips s → s.row ≡ row → In (half_rect l n s left_end ∷ half_rect l n s right_end ∷ []) r → WireFrom l n (diffusion_of row) r
    side s there e (inl is) = record { wire = half s left_end; listed = there; kind = subst (λ z. diffusion_of s.row ≡ diffusion_of z) e refl; is = is }
    side s there e (inr (inl is)) = record { wire = half s right_end; listed = there; kind = subst (λ z. diffusion_of s.row ≡ diffusion_of z) e refl; is = is }
    side s there e (inr (inr i)) = absurd i

    of_half : Inside (halves_of l n row) l.strips r → WireFrom l n (diffusion_of row) r
    of_half h =
        let i = row_in row h.of.row (half_rect l n h.of left_end ∷ half_rect l n h.of right_end ∷ []) r (contains_in (halves_of l n row h.of) r h.inside) in
        side h.of h.listed i.0 i.1

    one : (c : Contact) → Contains l.contacts c → c.row ≡ row → In (pad_rect l c ∷ []) r → WireFrom l n (diffusion_of row) r
    one c there e (inl is) = record { wire = pad c; listed = there; kind = subst (λ z. diffusion_of c.row ≡ diffusion_of z) e refl; is = is }
    one c there e (inr i) = absurd i

    of_pad : Inside (pads_of l row) l.contacts r → WireFrom l n (diffusion_of row) r
    of_pad p =
        let i = row_in row p.of.row (pad_rect l p.of ∷ []) r (contains_in (pads_of l row p.of) r p.inside) in
        one p.of p.listed i.0 i.1

pub wire_from : (l : Layout) (n : IsNetted l) (k : Conductor) (r : Rectangle) → Contains (parts l n k) r → WireFrom l n k r
wire_from l n PDiffusion r c = diffusion_from l n P r c
wire_from l n NDiffusion r c = diffusion_from l n N r c
wire_from l n Poly r c = let o = on_poly l r c in record { wire = gate o.piece; listed = o.listed; kind = refl; is = o.is }
wire_from l n Metal1 r c = let o = on_metal1 l r c in record { wire = metal o.piece; listed = o.listed; kind = refl; is = o.is }
wire_from l n Metal2 r c = let o = on_metal2 l r c in record { wire = branch o.piece; listed = o.listed; kind = refl; is = o.is }

in_diffusion : (l : Layout) (n : IsNetted l) (row : Row) (r : Rectangle) → Contains (diffusion l n row) r → Contains (parts l n (diffusion_of row)) r
in_diffusion l n N r c = c
in_diffusion l n P r c = c

half_listed : (l : Layout) (n : IsNetted l) (s : Strip) (e : End) → Contains l.strips s → Contains (parts l n (diffusion_of s.row)) (half_rect l n s e)
half_listed l n s e there =
    in_diffusion l n s.row (half_rect l n s e)
    (Contains-append_left (flat_map (halves_of l n s.row) l.strips) (flat_map (pads_of l s.row) l.contacts) (half_rect l n s e)
    (contains_flat (halves_of l n s.row) l.strips s (half_rect l n s e) there (in_contains (halves_of l n s.row s) (half_rect l n s e) (own_row s.row (half_rect l n s left_end ∷ half_rect l n s right_end ∷ []) (half_rect l n s e) (either e)))))
  where
    either : (e : End) → In (half_rect l n s left_end ∷ half_rect l n s right_end ∷ []) (half_rect l n s e)
    either left_end = inl refl
    either right_end = inr (inl refl)

pad_listed : (l : Layout) (n : IsNetted l) (c : Contact) → Contains l.contacts c → Contains (parts l n (diffusion_of c.row)) (pad_rect l c)
pad_listed l n c there =
    in_diffusion l n c.row (pad_rect l c)
    (Contains-append_right (flat_map (halves_of l n c.row) l.strips) (flat_map (pads_of l c.row) l.contacts) (pad_rect l c)
    (contains_flat (pads_of l c.row) l.contacts c (pad_rect l c) there (in_contains (pads_of l c.row c) (pad_rect l c) (own_row c.row (pad_rect l c ∷ []) (pad_rect l c) (inl refl)))))

metal_listed : (l : Layout) (m : Metal) → IsMetal l m → Contains (rects_on Metal1Layer (shapes_of l)) (metal_rect l m)
metal_listed l gnd h = drawn Metal1Layer l (metal_rect l gnd) (of_frame (inl refl))
metal_listed l vdd h = drawn Metal1Layer l (metal_rect l vdd) (of_frame (inr (inl refl)))
metal_listed l (strap_of c) h = drawn Metal1Layer l (metal_rect l (strap_of c)) (of_contact c h (inl refl))
metal_listed l (bar_of b) h = drawn Metal1Layer l (metal_rect l (bar_of b)) (of_bar b h (inl refl))

poly_listed : (l : Layout) (p : Piece) → IsPiece l p → Contains (rects_on PolyLayer (shapes_of l)) (piece_rect l p)
poly_listed l (strip_of g) h = drawn PolyLayer l (piece_rect l (strip_of g)) (of_gate g h (inl refl))
poly_listed l (pad_of g y) h =
    drawn PolyLayer l (piece_rect l (pad_of g y)) (of_gate g h.listed (inr (subst (λ o. In (rects_on PolyLayer (pad_shapes g.x o)) (piece_rect l (pad_of g y))) (sym h.track) (inl refl))))

branch_listed : (l : Layout) (s : Signal) → IsSignal l s → Contains (rects_on Metal2Layer (shapes_of l)) (branch_rect l s)
branch_listed l s h =
    drawn Metal2Layer l (branch_rect l s) (of_contact s.contact h.listed (subst (λ o. In (rects_on Metal2Layer (reach_shapes l.frame s.contact.row s.contact.x o)) (branch_rect l s)) (sym h.signal) (inl refl)))

-- each piece is a rectangle of its kind
pub wire_listed : (l : Layout) (n : IsNetted l) (w : Wire) → IsWire l w → Contains (parts l n (kind_of w)) (rect_of l n w)
wire_listed l n (metal m) h = metal_listed l m h
wire_listed l n (branch s) h = branch_listed l s h
wire_listed l n (gate g) h = poly_listed l g h
wire_listed l n (half s e) h = half_listed l n s e h
wire_listed l n (pad c) h = pad_listed l n c h
