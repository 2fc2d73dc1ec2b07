-- The label of a pin's name stands on the first of its ports.
use Rattle.std.proofs.Common.{ℕ, zero, suc, ◌≡◌, ◌+◌, ◌*◌, ◌-◌, ◌<◌, ◌≤◌, ◌==◌, Bool, true, List, [], ◌∷◌, length, map, get_or, refl, subst, ap, ◌∙◌, inl, inr, arith, Contains}
use Rattle.std.specs.Prelude.{Option, Some, find}
use Rattle.std.specs.List.{list_any, range_with_len}
use Rattle.std.proofs.lemmas.Bool.{cases_Bool, cases_eq, eq-eqb, ne_eqb}
use Rattle.std.proofs.lemmas.Int.{ints}
use Rattle.std.proofs.lemmas.List.Elements.{All-contains}
use Rattle.cell_num.specs.declared.net.NetNo.{NetNo}
use Rattle.cell_num.specs.declared.net.Pins.{Pins}
use Rattle.cell_num.specs.Pins.{IsRail}
use Rattle.cell_num.proofs.Lists.{contains_here, contains_there, contains_get, contains_filter_map, all_one, all_map}
use Rattle.cell_num.proofs.In.{contains_map}
use Rattle.cell_num.proofs.Pairs.{Some', some_from_any, test_there}
use Rattle.row_place.specs.declared.placement.Placement.{Placement}
use Rattle.row_place.specs.Places.{IsPlacement}
use Rattle.box_geom.specs.declared.shape.Shape.{Shape}
use Rattle.channel_route.specs.declared.routing.Trunk.{Trunk}
use Rattle.channel_route.specs.declared.routing.Routing.{Routing}
use Rattle.channel_route.specs.Routing.{IsLegal}
use Rattle.channel_route.specs.Wiring.{AreEnds, IsWiring}
use Rattle.channel_route.proofs.LegalWiring.{legal_wiring}
use Rattle.row_compact.specs.Allowed.{AreAllowed, stretches_of}
use Rattle.row_compact.specs.Solution.{x_of}
use Rattle.row_compact.proofs.Within.{wired_right}
use Rattle.cell_draw.specs.declared.layout.Layout.{Layout}
use Rattle.cell_draw.specs.declared.layout.Tag.{Tag}
use Rattle.cell_draw.specs.Drawings.{label_of, drawn_of}
use Rattle.cell_draw.specs.Frame.{track_y}
use Rattle.cell_draw.specs.Layouts.{width_of, trunk_of, bar_of, metal_tag, tag_of, gates_on, net_no, layout_of}
use Rattle.cell_draw.specs.Shapes.{gnd_rail, vdd_rail, bar_metal}
use Rattle.row_place.specs.Units.{seats_of}
use Rattle.lef_write.specs.Ports.{ports_of}
use Rattle.lef_write.specs.Drawn.{IsLabelled, IsMetal1, HasPort, HasPorts}
use Rattle.lef_write.proofs.Own.{found_first, pin_shapes, gnd_shapes, vdd_shapes, signal_shapes, trunk_shape}
use Rattle.lef_write.proofs.PinShapes.{FirstKept, first_kept}

-- ---- lines ascend

rises : (p : Placement) (pins : Pins) (r : Routing) (xs : List ℕ) → AreAllowed p pins (stretches_of r.trunks) xs → (d i : ℕ) → i + d ≤ 2 * length p.units → x_of xs i ≤ x_of xs (i + d)
rises p pins r xs a zero i h = let e : ◌≡◌ {A = ℕ} (i + 0) i = omega arith in omega (arith, ap (λ n. x_of xs n) e)
rises p pins r xs a (suc d) i h =
    let before : x_of xs i ≤ x_of xs (i + d) = rises p pins r xs a d i (omega (arith, h)) in
    let e : ◌≡◌ {A = ℕ} (i + suc d) (i + d + 1) = omega arith in
    omega (arith, ap (λ n. x_of xs n) e, a.next (i + d) (omega (arith, h)), before)

-- a line stands no further right than a later one
pub rising : (p : Placement) (pins : Pins) (r : Routing) (xs : List ℕ) → AreAllowed p pins (stretches_of r.trunks) xs → (i j : ℕ) → i ≤ j → j ≤ 2 * length p.units → x_of xs i ≤ x_of xs j
rising p pins r xs a i j le most =
    let e : ◌≡◌ {A = ℕ} (i + (j - i)) j = omega (arith, le) in
    omega (arith, ap (λ n. x_of xs n) e, rises p pins r xs a (j - i) i (omega (arith, le, most)))

pub wide : (p : Placement) (pins : Pins) (r : Routing) (xs : List ℕ) → AreAllowed p pins (stretches_of r.trunks) xs → 16 ≤ width_of p xs
wide p pins r xs a = omega (arith, a.first, rising p pins r xs a 0 (2 * length p.units) (omega arith) (omega arith))

-- ---- the trunk of a pin

find_some : {X : Type 0} (p : X → Bool) (xs : List X) → list_any p xs ≡ true → (x : X) × (find p xs ≡ Some x)
find_some p [] e = absurd cc
find_some {X} p (x ∷ xs) e = elim (cases_Bool (p x)) [
  | inl passes ↦ (x, rw passes refl)
  | inr fails ↦ let rest = find_some p xs (rw fails at e) in (rest.0, rw fails rest.1)
]

pub pin_trunk : (p : Placement) (pins : Pins) (r : Routing) (n : ℕ) → IsWiring p pins r → n < pins.pins → (n ≡ pins.gnd.0 → ⊥) → (n ≡ pins.vdd.0 → ⊥) → (t : Trunk) × (trunk_of r.trunks (net_no n) ≡ Some t)
pin_trunk p pins r n wiring lt no_gnd no_vdd =
    let some : Some' (λ (t : Trunk). t.net ≡ net_no n) r.trunks = some_from_any (λ (t : Trunk). t.net ≡ net_no n) r.trunks ((wiring.nets (net_no n)).0 (no_rail, inr lt)) in
    find_some (λ (t : Trunk). t.net.0 == n) r.trunks (test_there (λ (t : Trunk). t.net.0 == n) r.trunks some.it some.there (eq-eqb some.it.net.0 n (ap (λ (z : NetNo). z.0) some.holds)))
  where
    no_rail : IsRail pins (net_no n) → ⊥
    no_rail (inl vdd) = no_vdd (ap (λ (z : NetNo). z.0) vdd)
    no_rail (inr gnd) = no_gnd (ap (λ (z : NetNo). z.0) gnd)

-- ---- labels

in_range : (a count n : ℕ) → a ≤ n → n < a + count → Contains (range_with_len a count) n
in_range a zero n le lt = absurd (omega (arith, le, lt))
in_range a (suc count) n le lt = elim (cases_eq a n) [
  | inl same ↦ subst (λ m. Contains (a ∷ range_with_len (a + 1) count) m) same (contains_here a (range_with_len (a + 1) count))
  | inr other ↦ contains_there a (range_with_len (a + 1) count) n (in_range (a + 1) count n (omega (arith, le, other)) (omega (arith, lt)))
]

abbrev drawn_tag : List (List ℕ) → Pins → Placement → Routing → List ℕ → ℕ → ℕ → Option Tag
drawn_tag names pins p r xs height n =
    let l : Layout = layout_of (length names) pins p r xs height in
    tag_of pins l.frame p.nodes r.trunks xs (gates_on l.frame r.trunks xs (seats_of p.row)) (net_no n)

tagged : (names : List (List ℕ)) (pins : Pins) (p : Placement) (r : Routing) (xs : List ℕ) (height n : ℕ) (tag : Tag) → n < length names → drawn_tag names pins p r xs height n ≡ Some tag → Contains (drawn_of names pins p r xs height).shapes.labels (label_of names tag)
tagged names pins p r xs height n tag lt e = contains_map (label_of names) (layout_of (length names) pins p r xs height).tags tag (contains_filter_map (drawn_tag names pins p r xs height) (range_with_len 0 (length names)) n tag (in_range 0 (length names) n (omega arith) (omega (arith, lt))) e)

-- ---- the three kinds of pins

record Given (names : List (List ℕ)) (pins : Pins) (p : Placement) (r : Routing) (xs : List ℕ) (n : ℕ) : Type 0 where
  placed : IsPlacement p
  wiring : IsWiring p pins r
  allowed : AreAllowed p pins (stretches_of r.trunks) xs
  pin : n < pins.pins
  net : n < length names

-- the label of a pin stands on the shape
abbrev IsPinLabelled : List (List ℕ) → Pins → Placement → Routing → List ℕ → ℕ → ℕ → Shape → Type 0
IsPinLabelled names pins p r xs height n s = IsLabelled (drawn_of names pins p r xs height).shapes.labels (get_or names n []) s

gnd_named : (names : List (List ℕ)) (pins : Pins) (p : Placement) (r : Routing) (xs : List ℕ) (height n : ℕ) → Given names pins p r xs n → n ≡ pins.gnd.0 → IsPinLabelled names pins p r xs height n (gnd_rail (layout_of (length names) pins p r xs height).frame)
gnd_named names pins p r xs height n g e =
    let far : 16 ≤ width_of p xs = wide p pins r xs g.allowed in
    record {
      label = label_of names (metal_tag 8 8 (net_no n));
      listed = tagged names pins p r xs height n (metal_tag 8 8 (net_no n)) g.net (rw (eq-eqb n pins.gnd.0 e) refl);
      name = refl;
      layer = refl;
      holds = record { left = omega (arith, ints); right = omega (arith, ints, far); low = omega (arith, ints); high = omega (arith, ints) };
    }

vdd_named : (names : List (List ℕ)) (pins : Pins) (p : Placement) (r : Routing) (xs : List ℕ) (height n : ℕ) → Given names pins p r xs n → (n ≡ pins.gnd.0 → ⊥) → n ≡ pins.vdd.0 → IsPinLabelled names pins p r xs height n (vdd_rail (layout_of (length names) pins p r xs height).frame)
vdd_named names pins p r xs height n g other e =
    let far : 16 ≤ width_of p xs = wide p pins r xs g.allowed in
    record {
      label = label_of names (metal_tag 8 ((layout_of (length names) pins p r xs height).frame.p_edge + (layout_of (length names) pins p r xs height).frame.p_height + 16) (net_no n));
      listed = tagged names pins p r xs height n _ g.net (rw (ne_eqb n pins.gnd.0 other, eq-eqb n pins.vdd.0 e) refl);
      name = refl;
      layer = refl;
      holds = record { left = omega (arith, ints); right = omega (arith, ints, far); low = omega (arith, ints); high = omega (arith, ints) };
    }

trunk_named : (names : List (List ℕ)) (pins : Pins) (p : Placement) (r : Routing) (xs : List ℕ) (height n : ℕ) (t : Trunk) → Given names pins p r xs n → (n ≡ pins.gnd.0 → ⊥) → (n ≡ pins.vdd.0 → ⊥) → trunk_of r.trunks (net_no n) ≡ Some t → IsPinLabelled names pins p r xs height n (bar_metal (bar_of (layout_of (length names) pins p r xs height).frame p.nodes r.trunks xs t))
trunk_named names pins p r xs height n t g no_gnd no_vdd found =
    let there : Contains r.trunks t = contains_get r.trunks _ t (found_first (λ (u : Trunk). u.net.0 == n) r.trunks t found) in
    let ends : AreEnds p t = All-contains (AreEnds p) r.trunks t g.wiring.ends there in
    let ascends : x_of xs t.left ≤ x_of xs t.right = rising p pins r xs g.allowed t.left t.right ends.ascending (wired_right p pins r g.placed g.wiring t there) in
    record {
      label = label_of names (metal_tag (x_of xs t.left) (track_y (layout_of (length names) pins p r xs height).frame t.track) (net_no n));
      listed = tagged names pins p r xs height n _ g.net (rw (ne_eqb n pins.gnd.0 no_gnd, ne_eqb n pins.vdd.0 no_vdd, found) refl);
      name = refl;
      layer = refl;
      holds = record { left = omega (arith, ints); right = omega (arith, ints, ascends); low = omega (arith, ints); high = omega (arith, ints) };
    }

-- ---- all pins

-- each pin of a drawn cell has ports, and the first holds the label of its name
pub has_ports : (names : List (List ℕ)) (pins : Pins) (p : Placement) (r : Routing) (xs : List ℕ) (height n : ℕ) → IsPlacement p → IsWiring p pins r → AreAllowed p pins (stretches_of r.trunks) xs → pins.pins ≤ length names → n < pins.pins → HasPorts names (ports_of pins r.trunks (drawn_of names pins p r xs height).shapes.rects) (drawn_of names pins p r xs height) n
has_ports names pins p r xs height n placed wiring allowed few lt =
    let g : Given names pins p r xs n = record { placed = placed; wiring = wiring; allowed = allowed; pin = lt; net = omega (arith, few, lt) } in
    let l : Layout = layout_of (length names) pins p r xs height in
    elim (cases_eq n pins.gnd.0) [
      | inl gnd ↦ record { first = gnd_rail l.frame; others = []; are = pin_shapes l pins r.trunks n lt ∙ gnd_shapes l pins r.trunks n gnd; metal = all_one IsMetal1 (gnd_rail l.frame) refl; named = gnd_named names pins p r xs height n g gnd }
      | inr no_gnd ↦ elim (cases_eq n pins.vdd.0) [
        | inl vdd ↦ record { first = vdd_rail l.frame; others = []; are = pin_shapes l pins r.trunks n lt ∙ vdd_shapes l pins r.trunks n no_gnd vdd; metal = all_one IsMetal1 (vdd_rail l.frame) refl; named = vdd_named names pins p r xs height n g no_gnd vdd }
        | inr no_vdd ↦
            let trunk = pin_trunk p pins r n wiring lt no_gnd no_vdd in
            let rest : FirstKept n r.trunks trunk.0 = first_kept n r.trunks trunk.0 trunk.1 in
            record {
              first = bar_metal (bar_of l.frame p.nodes r.trunks xs trunk.0);
              others = map (λ t. bar_metal (bar_of l.frame p.nodes r.trunks xs t)) rest.others;
              are = pin_shapes l pins r.trunks n lt ∙ (signal_shapes l pins r.trunks (bar_of l.frame p.nodes r.trunks xs) n refl no_gnd no_vdd ∙ ap (λ ts. map (λ (t : Trunk). bar_metal (bar_of l.frame p.nodes r.trunks xs t)) ts) rest.is);
              metal = all_map (λ (t : Trunk). Unit {0}) IsMetal1 (λ t. bar_metal (bar_of l.frame p.nodes r.trunks xs t)) (trunk.0 ∷ rest.others) (λ t any. refl) (λ k d short. tt);
              named = trunk_named names pins p r xs height n trunk.0 g no_gnd no_vdd trunk.1;
            }
      ]
    ]

-- one port under a legal routing
pub has_port : (names : List (List ℕ)) (pins : Pins) (p : Placement) (r : Routing) (xs : List ℕ) (height n : ℕ) → IsPlacement p → IsLegal p pins r → AreAllowed p pins (stretches_of r.trunks) xs → pins.pins ≤ length names → n < pins.pins → HasPort names (ports_of pins r.trunks (drawn_of names pins p r xs height).shapes.rects) (drawn_of names pins p r xs height) n
has_port names pins p r xs height n placed legal allowed few lt =
    let g : Given names pins p r xs n = record { placed = placed; wiring = legal_wiring p pins r legal; allowed = allowed; pin = lt; net = omega (arith, few, lt) } in
    let l : Layout = layout_of (length names) pins p r xs height in
    elim (cases_eq n pins.gnd.0) [
      | inl gnd ↦ record { shape = gnd_rail l.frame; one = pin_shapes l pins r.trunks n lt ∙ gnd_shapes l pins r.trunks n gnd; named = gnd_named names pins p r xs height n g gnd }
      | inr no_gnd ↦ elim (cases_eq n pins.vdd.0) [
        | inl vdd ↦ record { shape = vdd_rail l.frame; one = pin_shapes l pins r.trunks n lt ∙ vdd_shapes l pins r.trunks n no_gnd vdd; named = vdd_named names pins p r xs height n g no_gnd vdd }
        | inr no_vdd ↦
            let trunk = pin_trunk p pins r n g.wiring lt no_gnd no_vdd in
            record {
              shape = bar_metal (bar_of l.frame p.nodes r.trunks xs trunk.0);
              one = pin_shapes l pins r.trunks n lt ∙ trunk_shape l pins r.trunks (bar_of l.frame p.nodes r.trunks xs) n trunk.0 legal.order refl no_gnd no_vdd trunk.1;
              named = trunk_named names pins p r xs height n trunk.0 g no_gnd no_vdd trunk.1;
            }
      ]
    ]
