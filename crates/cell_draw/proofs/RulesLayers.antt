-- What stands on each layer of a layout: from the list of its shapes to the groups, and back.
use Rattle.std.proofs.Common.{◌≡◌, List, [], ◌∷◌, ◌++◌, map, inl, inr, ◌⊎◌, sym, subst, ap, ◌∙◌}
use Rattle.std.specs.List.{Contains, filter, flat_map}
use Rattle.std.proofs.lemmas.List.{map-append}
use Rattle.std.proofs.lemmas.List.Elements.{filter-append, Contains-append_left, Contains-append_right}
use Rattle.cell_num.proofs.Lists.{contains_none, contains_cons, contains_here, contains_there}
use Rattle.cell_num.proofs.In.{In, contains_in, in_contains, in_append}
use Rattle.box_geom.specs.Rectangle.{Rectangle}
use Rattle.box_geom.specs.Layers.{same_layer, rects_on}
use Rattle.box_geom.specs.declared.shape.Shape.{Shape}
use Rattle.box_geom.specs.declared.layer.Layer.{Layer}
use Rattle.cell_draw.specs.declared.layout.Strip.{Strip}
use Rattle.cell_draw.specs.declared.layout.Contact.{Contact}
use Rattle.cell_draw.specs.declared.layout.Gate.{Gate}
use Rattle.cell_draw.specs.declared.layout.Bar.{Bar}
use Rattle.cell_draw.specs.declared.layout.Layout.{Layout}
use Rattle.cell_draw.specs.Shapes.{frame_shapes, finger, contact_shapes, gate_shapes, bar_shapes, shapes_of}

rects_append : (layer : Layer) (xs ys : List Shape) → rects_on layer (xs ++ ys) ≡ rects_on layer xs ++ rects_on layer ys
rects_append layer xs ys =
    ap (map (λ (s : Shape). s.rect)) (filter-append (λ (s : Shape). same_layer s.layer layer) xs ys)
    ∙ map-append (λ (s : Shape). s.rect) (filter (λ (s : Shape). same_layer s.layer layer) xs) (filter (λ (s : Shape). same_layer s.layer layer) ys)

split : (layer : Layer) (xs ys : List Shape) (r : Rectangle) → In (rects_on layer (xs ++ ys)) r → In (rects_on layer xs) r ⊎ In (rects_on layer ys) r
split layer xs ys r i = in_append (rects_on layer xs) (rects_on layer ys) r (subst (λ rs. In rs r) (rects_append layer xs ys) i)

to_left : (layer : Layer) (xs ys : List Shape) (r : Rectangle) → Contains (rects_on layer xs) r → Contains (rects_on layer (xs ++ ys)) r
to_left layer xs ys r c = subst (λ rs. Contains rs r) (sym (rects_append layer xs ys)) (Contains-append_left (rects_on layer xs) (rects_on layer ys) r c)

to_right : (layer : Layer) (xs ys : List Shape) (r : Rectangle) → Contains (rects_on layer ys) r → Contains (rects_on layer (xs ++ ys)) r
to_right layer xs ys r c = subst (λ rs. Contains rs r) (sym (rects_append layer xs ys)) (Contains-append_right (rects_on layer xs) (rects_on layer ys) r c)

-- a rectangle on a layer of pieces is on that of the piece of one
pub record OnPiece {X : Type 0} (layer : Layer) (f : X → List Shape) (xs : List X) (r : Rectangle) : Type 0 where
  pub of : X
  pub listed : Contains xs of
  pub inside : In (rects_on layer (f of)) r

pub in_pieces : {X : Type 0} (layer : Layer) (f : X → List Shape) (xs : List X) (r : Rectangle) → In (rects_on layer (flat_map f xs)) r → OnPiece layer f xs r
in_pieces layer f [] r i = absurd i
in_pieces layer f (x ∷ xs) r i =
    elim (split layer (f x) (flat_map f xs) r i) [
      | inl here ↦ record { of = x; listed = contains_here x xs; inside = here }
      | inr more ↦ let p = in_pieces layer f xs r more in record { of = p.of; listed = contains_there x xs p.of p.listed; inside = p.inside }
    ]

pub pieces_in : {X : Type 0} (layer : Layer) (f : X → List Shape) (xs : List X) (x : X) (r : Rectangle) → Contains xs x → In (rects_on layer (f x)) r → Contains (rects_on layer (flat_map f xs)) r
pieces_in layer f [] x r c i = absurd (contains_none x c)
pieces_in layer f (z ∷ xs) x r c i =
    elim (contains_cons z xs x c) [
      | inl e ↦ to_left layer (f z) (flat_map f xs) r (in_contains (rects_on layer (f z)) r (subst (λ w. In (rects_on layer (f w)) r) (sym e) i))
      | inr there ↦ to_right layer (f z) (flat_map f xs) r (pieces_in layer f xs x r there i)
    ]

-- which group a rectangle of a layer comes from
pub data OnGroup (layer : Layer) (l : Layout) (r : Rectangle) : Type 0 where
  of_frame : In (rects_on layer (frame_shapes l.frame)) r → OnGroup layer l r
  of_strip : (s : Strip) → Contains l.strips s → In (rects_on layer (finger l.frame s ∷ [])) r → OnGroup layer l r
  of_contact : (c : Contact) → Contains l.contacts c → In (rects_on layer (contact_shapes l.frame c)) r → OnGroup layer l r
  of_gate : (g : Gate) → Contains l.gates g → In (rects_on layer (gate_shapes l.frame g)) r → OnGroup layer l r
  of_bar : (b : Bar) → Contains l.bars b → In (rects_on layer (bar_shapes b)) r → OnGroup layer l r

abbrev strips_of : Layout → List Shape
strips_of l = flat_map (λ s. finger l.frame s ∷ []) l.strips

abbrev contacts_of : Layout → List Shape
contacts_of l = flat_map (contact_shapes l.frame) l.contacts

abbrev gates_of : Layout → List Shape
gates_of l = flat_map (gate_shapes l.frame) l.gates

abbrev bars_of : Layout → List Shape
bars_of l = flat_map bar_shapes l.bars

abbrev to_strips : Layout → List Shape
to_strips l = frame_shapes l.frame ++ strips_of l

abbrev to_contacts : Layout → List Shape
to_contacts l = to_strips l ++ contacts_of l

abbrev to_gates : Layout → List Shape
to_gates l = to_contacts l ++ gates_of l

-- each rectangle of a layer comes from a group
pub grouped : (layer : Layer) (l : Layout) (r : Rectangle) → Contains (rects_on layer (shapes_of l)) r → OnGroup layer l r
grouped layer l r c =
    elim (split layer (to_gates l) (bars_of l) r (contains_in (rects_on layer (shapes_of l)) r c)) [
      | inr i ↦ let p = in_pieces layer bar_shapes l.bars r i in of_bar p.of p.listed p.inside
      | inl before ↦ elim (split layer (to_contacts l) (gates_of l) r before) [
        | inr i ↦ let p = in_pieces layer (gate_shapes l.frame) l.gates r i in of_gate p.of p.listed p.inside
        | inl early ↦ elim (split layer (to_strips l) (contacts_of l) r early) [
          | inr i ↦ let p = in_pieces layer (contact_shapes l.frame) l.contacts r i in of_contact p.of p.listed p.inside
          | inl first ↦ elim (split layer (frame_shapes l.frame) (strips_of l) r first) [
            | inr i ↦ let p = in_pieces layer (λ s. finger l.frame s ∷ []) l.strips r i in of_strip p.of p.listed p.inside
            | inl i ↦ of_frame i
          ]
        ]
      ]
    ]

-- what comes from a group is on the layer
pub drawn : (layer : Layer) (l : Layout) (r : Rectangle) → OnGroup layer l r → Contains (rects_on layer (shapes_of l)) r
drawn layer l r (of_frame i) =
    to_left layer (to_gates l) (bars_of l) r
    (to_left layer (to_contacts l) (gates_of l) r
    (to_left layer (to_strips l) (contacts_of l) r
    (to_left layer (frame_shapes l.frame) (strips_of l) r (in_contains (rects_on layer (frame_shapes l.frame)) r i))))
drawn layer l r (of_strip s c i) =
    to_left layer (to_gates l) (bars_of l) r
    (to_left layer (to_contacts l) (gates_of l) r
    (to_left layer (to_strips l) (contacts_of l) r
    (to_right layer (frame_shapes l.frame) (strips_of l) r (pieces_in layer (λ s. finger l.frame s ∷ []) l.strips s r c i))))
drawn layer l r (of_contact k c i) =
    to_left layer (to_gates l) (bars_of l) r
    (to_left layer (to_contacts l) (gates_of l) r
    (to_right layer (to_strips l) (contacts_of l) r (pieces_in layer (contact_shapes l.frame) l.contacts k r c i)))
drawn layer l r (of_gate g c i) =
    to_left layer (to_gates l) (bars_of l) r
    (to_right layer (to_contacts l) (gates_of l) r (pieces_in layer (gate_shapes l.frame) l.gates g r c i))
drawn layer l r (of_bar b c i) = to_right layer (to_gates l) (bars_of l) r (pieces_in layer bar_shapes l.bars b r c i)
