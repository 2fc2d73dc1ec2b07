-- A row's drawing has the same labels on other lines and in another height, at other places.
use Rattle.std.specs.Prelude.{ℕ, ◌≡◌, ◌≤◌, ◌==◌, Bool, List, [], ◌∷◌, length, map, get_or, find, Option, Some, None, option_map, filter_map}
use Rattle.std.specs.List.{cons_option, range_with_len}
use Rattle.std.proofs.Common.{refl, sym, ap, arith, ◌∙◌, inl, inr}
use Rattle.std.proofs.lemmas.Bool.{cases_Bool}
use Rattle.std.proofs.lemmas.List.{length-map}
use Rattle.std.proofs.lemmas.List.FromFn.{length-range_with_len}
use Rattle.cell_num.specs.declared.net.NetNo.{NetNo}
use Rattle.cell_num.specs.declared.net.Pins.{Pins}
use Rattle.box_geom.specs.declared.shape.Label.{Label}
use Rattle.row_place.specs.declared.placement.GatePlace.{GatePlace}
use Rattle.row_place.specs.declared.placement.NodePlace.{NodePlace}
use Rattle.row_place.specs.declared.placement.Placement.{Placement}
use Rattle.row_place.specs.declared.placement.Seat.{Seat}
use Rattle.row_place.specs.Steps.{gate_of}
use Rattle.row_place.specs.Units.{seats_of}
use Rattle.channel_route.specs.declared.routing.Routing.{Routing}
use Rattle.channel_route.specs.declared.routing.Trunk.{Trunk}
use Rattle.row_compact.specs.Solution.{x_of}
use Rattle.cell_draw.specs.declared.layout.Frame.{Frame}
use Rattle.cell_draw.specs.declared.layout.Gate.{Gate}
use Rattle.cell_draw.specs.declared.layout.Tag.{Tag}
use Rattle.cell_draw.specs.Drawings.{drawn_of, label_of}
use Rattle.cell_draw.specs.Frame.{frame_of, track_y}
use Rattle.cell_draw.specs.Layouts.{gate_tag, gate_with, gates_on, metal_tag, net_no, net_tag, node_tag, or_else, place_tag, tag_of, trunk_of, width_of}
use Rattle.file_laws.specs.Size.{label_names}
use Rattle.file_laws.proofs.Counted.{kept_few}

-- ---- the net of a tag

abbrev tag_net : Option Tag → Option NetNo
tag_net tag = option_map (λ (t : Tag). t.net) tag

abbrev gate_net : Option Gate → Option NetNo
gate_net gate = option_map (λ (g : Gate). g.net) gate

abbrev is_of : NetNo → Gate → Bool
is_of net g = g.net.0 == net.0

-- the first gate of a net, where one more gate may stand in front
one_seat : (f g : Frame) (trunks : List Trunk) (xs ys : List ℕ) (net : NetNo) (seat : Seat) (place : Option GatePlace) (a b : List Gate) → gate_net (find (is_of net) a) ≡ gate_net (find (is_of net) b) → gate_net (find (is_of net) (cons_option (option_map (gate_with f trunks xs seat) place) a)) ≡ gate_net (find (is_of net) (cons_option (option_map (gate_with g trunks ys seat) place) b))
one_seat f g trunks xs ys net seat None a b same = same
one_seat f g trunks xs ys net seat (Some place) a b same =
    elim (cases_Bool (place.net.0 == net.0)) [
      | inl here ↦ rw here refl
      | inr other ↦ rw other same
    ]

same_gate : (f g : Frame) (trunks : List Trunk) (xs ys : List ℕ) (net : NetNo) (seats : List Seat) → gate_net (find (is_of net) (gates_on f trunks xs seats)) ≡ gate_net (find (is_of net) (gates_on g trunks ys seats))
same_gate f g trunks xs ys net [] = refl
same_gate f g trunks xs ys net (seat ∷ seats) = one_seat f g trunks xs ys net seat (gate_of seat) (gates_on f trunks xs seats) (gates_on g trunks ys seats) (same_gate f g trunks xs ys net seats)

of_gate : (f : Frame) (gate : Option Gate) → tag_net (option_map (gate_tag f) gate) ≡ gate_net gate
of_gate f None = refl
of_gate f (Some g) = refl

at_node : (f g : Frame) (xs ys : List ℕ) (node : Option NodePlace) (a b : Option Tag) → tag_net a ≡ tag_net b → tag_net (or_else (option_map (node_tag f xs) node) a) ≡ tag_net (or_else (option_map (node_tag g ys) node) b)
at_node f g xs ys None a b same = same
at_node f g xs ys (Some node) a b same = refl

on_trunk : (f g : Frame) (xs ys : List ℕ) (net : NetNo) (trunk : Option Trunk) (a b : Option Tag) → tag_net a ≡ tag_net b → tag_net (or_else (option_map (λ (t : Trunk). metal_tag (x_of xs t.left) (track_y f t.track) net) trunk) a) ≡ tag_net (or_else (option_map (λ (t : Trunk). metal_tag (x_of ys t.left) (track_y g t.track) net) trunk) b)
on_trunk f g xs ys net None a b same = same
on_trunk f g xs ys net (Some t) a b same = refl

same_tag : (f g : Frame) (pins : Pins) (p : Placement) (trunks : List Trunk) (xs ys : List ℕ) (net : NetNo) → tag_net (tag_of pins f p.nodes trunks xs (gates_on f trunks xs (seats_of p.row)) net) ≡ tag_net (tag_of pins g p.nodes trunks ys (gates_on g trunks ys (seats_of p.row)) net)
same_tag f g pins p trunks xs ys net =
    elim (cases_Bool (net.0 == pins.gnd.0)) [
      | inl gnd ↦ rw gnd refl
      | inr not_gnd ↦ elim (cases_Bool (net.0 == pins.vdd.0)) [
        | inl vdd ↦ rw (not_gnd, vdd) refl
        | inr signal ↦ rw (not_gnd, signal) placed
      ]
    ]
  where
    gates : tag_net (option_map (gate_tag f) (find (is_of net) (gates_on f trunks xs (seats_of p.row)))) ≡ tag_net (option_map (gate_tag g) (find (is_of net) (gates_on g trunks ys (seats_of p.row))))
    gates = of_gate f (find (is_of net) (gates_on f trunks xs (seats_of p.row))) ∙ (same_gate f g trunks xs ys net (seats_of p.row) ∙ sym (of_gate g (find (is_of net) (gates_on g trunks ys (seats_of p.row)))))

    placed : tag_net (net_tag f p.nodes trunks xs (gates_on f trunks xs (seats_of p.row)) net) ≡ tag_net (net_tag g p.nodes trunks ys (gates_on g trunks ys (seats_of p.row)) net)
    placed = on_trunk f g xs ys net (trunk_of trunks net) (place_tag f p.nodes xs (gates_on f trunks xs (seats_of p.row)) net) (place_tag g p.nodes ys (gates_on g trunks ys (seats_of p.row)) net) (at_node f g xs ys (find (λ node. node.net.0 == net.0) p.nodes) _ _ gates)

-- ---- the names

-- a name of a net that may be there
abbrev name_of : List (List ℕ) → Tag → List ℕ
name_of names tag = get_or names tag.net.0 []

named : (names : List (List ℕ)) (tag : Option Tag) → option_map (name_of names) tag ≡ option_map (λ (net : NetNo). get_or names net.0 []) (tag_net tag)
named names None = refl
named names (Some tag) = refl

map_in_front : {Y Z : Type 0} (h : Y → Z) (o : Option Y) (ys : List Y) → map h (cons_option o ys) ≡ cons_option (option_map h o) (map h ys)
map_in_front h None ys = refl
map_in_front h (Some y) ys = refl

kept_mapped : {X Y Z : Type 0} (h : Y → Z) (k l : X → Option Y) (xs : List X) → ((x : X) → option_map h (k x) ≡ option_map h (l x)) → map h (filter_map k xs) ≡ map h (filter_map l xs)
kept_mapped h k l [] each = refl
kept_mapped h k l (x ∷ xs) each = map_in_front h (k x) (filter_map k xs) ∙ (rw (each x, kept_mapped h k l xs each) (sym (map_in_front h (l x) (filter_map l xs))))

labelled : (names : List (List ℕ)) (tags : List Tag) → map (λ (l : Label). l.name) (map (label_of names) tags) ≡ map (name_of names) tags
labelled names [] = refl
labelled names (tag ∷ tags) = ap (λ (ns : List (List ℕ)). name_of names tag ∷ ns) (labelled names tags)

pub same_names : (names : List (List ℕ)) (pins : Pins) (p : Placement) (r : Routing) (xs ys : List ℕ) (h k : ℕ) → label_names (drawn_of names pins p r xs h).shapes ≡ label_names (drawn_of names pins p r ys k).shapes
same_names names pins p r xs ys h k =
    let f = frame_of p.row r.tracks h (width_of p xs) in
    let g = frame_of p.row r.tracks k (width_of p ys) in
    let tags_f = λ (n : ℕ). tag_of pins f p.nodes r.trunks xs (gates_on f r.trunks xs (seats_of p.row)) (net_no n) in
    let tags_g = λ (n : ℕ). tag_of pins g p.nodes r.trunks ys (gates_on g r.trunks ys (seats_of p.row)) (net_no n) in
    let range = range_with_len 0 (length names) in
    let name = λ (net : NetNo). get_or names net.0 [] in
    let each = λ (n : ℕ). named names (tags_f n) ∙ (ap (option_map name) (same_tag f g pins p r.trunks xs ys (net_no n)) ∙ sym (named names (tags_g n))) in
    labelled names (filter_map tags_f range) ∙ (kept_mapped (name_of names) tags_f tags_g range each ∙ sym (labelled names (filter_map tags_g range)))

pub few_names : (names : List (List ℕ)) (pins : Pins) (p : Placement) (r : Routing) (xs : List ℕ) (h : ℕ) → length (label_names (drawn_of names pins p r xs h).shapes) ≤ length names
few_names names pins p r xs h =
    let d = drawn_of names pins p r xs h in
    let f = frame_of p.row r.tracks h (width_of p xs) in
    let tag = λ (n : ℕ). tag_of pins f p.nodes r.trunks xs (gates_on f r.trunks xs (seats_of p.row)) (net_no n) in
    let range = range_with_len 0 (length names) in
    let labels = length-map d.shapes.labels (λ (l : Label). l.name) in
    let tags = length-map (filter_map tag range) (label_of names) in
    omega (arith, labels, tags, kept_few tag range, length-range_with_len 0 (length names))
