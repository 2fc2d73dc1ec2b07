-- The whole abstract of a cell, read back.
use Rattle.std.proofs.Common.{ℕ, zero, suc, pos, ◌*◌, ◌≡◌, ◌+◌, ◌<◌, ◌≤◌, ◌==◌, ◌&&◌, Bool, true, false, List, [], ◌∷◌, ◌++◌, Some, Ok, codes, length, map, refl, sym, ap, subst, ◌∙◌, arith}
use Rattle.std.specs.Prelude.{None, not, slice_get, if◌then◌else◌}
use Rattle.std.specs.List.{All, Contains, enumerate_from, flat_map, range_with_len}
use Rattle.std.proofs.lemmas.Bool.{ne_eqb}
use Rattle.std.proofs.lemmas.List.{append-nil, append_assoc}
use Rattle.std.proofs.lemmas.List.Elements.{All-cons, All-head, All-nil, All-tail}
use Rattle.cell_num.specs.Lines.{text_line}
use Rattle.cell_num.specs.Steps.{◌>>=◌}
use Rattle.cell_num.proofs.Lists.{all_at, all_from_contains, kept_from, some_same}
use Rattle.box_geom.specs.Layers.{same_layer}
use Rattle.box_geom.specs.declared.layer.Layer.{Layer}
use Rattle.box_geom.specs.declared.layer.Layer.TheVariants.{Metal1, Metal2}
use Rattle.box_geom.specs.declared.shape.Shape.{Shape}
use Rattle.spice_net.specs.declared.subckt.Subckt.{Subckt}
use Rattle.cell_draw.specs.declared.drawing.Drawing.{Drawing}
use Rattle.lef_write.specs.Lef.{name_of, direction_of, direction_text, use_text, microns, rects_text, size_text, macro_text, head_text, port_text, pin_text, pins_text, layer_text, metal1_text, metal2_text, block_text, obstructions_text, library_text}
use Rattle.cell_draw.specs.Layouts.{net_no}
use Rattle.lef_write.specs.Ports.{port_shapes, shape_of, is_taken, obstructions_on, obstruction_on}
use Rattle.lef_write.proofs.Placed.{enumerated}
use Rattle.lef_write.specs.declared.port.Port.{Port as PortOf}
use Rattle.lef_read.specs.Macros.{macro_in, macro_named}
use Rattle.lef_read.specs.Reading.{Begins, Pin, OfPin, OfMacro, At, InLibrary, InMacro, InPin, InBlock, read, with_items}
use Rattle.lef_read.specs.Tokens.{tokens_from}
use Rattle.lef_read.specs.declared.block_kind.Current.{Current}
use Rattle.lef_read.specs.declared.block_kind.Current.TheVariants.{NoLayer, Wires}
use Rattle.lef_read.specs.declared.cell.LefPin.{LefPin}
use Rattle.lef_read.specs.declared.cell.LefRect.{LefRect}
use Rattle.file_laws.specs.Drawn.{on_layer, pin_drawn, macro_drawn, IsWord, IsMetric, IsSpelled, IsReadable}
use Rattle.file_laws.proofs.Items.{macro_told, tells_none, tells_pin}
use Rattle.file_laws.proofs.Lines.{join4, join5, join6, IsTold, ReadsTo, same_text, moved, one_item, head_line, class_line, symmetry_line, direction_line, use_line, port_line, port_end, obs_line, metal1_line, metal2_line, obs_end, macro_line, end_lines, pin_line, pin_end, size_line, ports_read, obstructions_read}
use Rattle.file_laws.proofs.Microns.{length_read}

-- ---- a port and a pin

port_read : (cell pin : List ℕ) (unit : ℕ) (shapes : List Shape) (rest : List ℕ) (pins : List LefPin) (obs : List LefRect) → 1 ≤ unit → All (λ (s : Shape). IsSpelled unit s.rect) shapes → ReadsTo unit (At (InPin cell pin)) rest [] pins obs → ReadsTo unit (At (InPin cell pin)) (port_text unit shapes ++ rest) (map (on_layer Metal1) shapes) pins obs
unfolding port_text
port_read cell pin unit shapes rest pins obs u all r =
    same_text unit (At (InPin cell pin)) (port_text unit shapes ++ rest) (codes "    PORT\n      LAYER metal1 ;\n" ++ (rects_text (codes "      ") unit shapes ++ (codes "    END\n" ++ rest))) (map (on_layer Metal1) shapes) pins obs (join4 (codes "    PORT\n      LAYER metal1 ;\n") (rects_text (codes "      ") unit shapes) (codes "    END\n") rest)
    (λ n. moved unit (At (InPin cell pin)) (At (InBlock (OfPin cell pin) (Wires Metal1))) (tokens_from n (codes "    PORT\n      LAYER metal1 ;\n" ++ (rects_text (codes "      ") unit shapes ++ (codes "    END\n" ++ rest)))) (tokens_from (n + 1 + 1) (rects_text (codes "      ") unit shapes ++ (codes "    END\n" ++ rest))) (map (on_layer Metal1) shapes) pins obs (port_line cell pin n (rects_text (codes "      ") unit shapes ++ (codes "    END\n" ++ rest))) (subst (λ ps. IsTold unit (At (InBlock (OfPin cell pin) (Wires Metal1))) (tokens_from (n + 1 + 1) (rects_text (codes "      ") unit shapes ++ (codes "    END\n" ++ rest))) ps pins obs) (append-nil (map (on_layer Metal1) shapes)) (ports_read cell pin unit shapes (codes "    END\n" ++ rest) [] pins obs u all end (n + 1 + 1))))
  where
    end : ReadsTo unit (At (InBlock (OfPin cell pin) (Wires Metal1))) (codes "    END\n" ++ rest) [] pins obs
    end m = moved unit (At (InBlock (OfPin cell pin) (Wires Metal1))) (At (InPin cell pin)) (tokens_from m (codes "    END\n" ++ rest)) (tokens_from (m + 1) rest) [] pins obs (port_end cell pin (Wires Metal1) m rest) (r (m + 1))

-- a pin from its name to its end, with what stands between
pin_read : (c name between : List ℕ) (unit : ℕ) (rest : List ℕ) (ports : List LefRect) (pins : List LefPin) (obs : List LefRect) → IsWord name → ReadsTo unit (At (InPin c name)) (between ++ (text_line (codes "  END ") name ++ rest)) ports pins obs → ReadsTo unit (At (InMacro c)) (text_line (codes "  PIN ") name ++ (between ++ (text_line (codes "  END ") name ++ rest))) [] (record { name = name; ports = ports } ∷ pins) obs
pin_read c name between unit rest ports pins obs is r =
    same_text unit (At (InMacro c)) (text_line (codes "  PIN ") name ++ (between ++ (text_line (codes "  END ") name ++ rest))) (codes "  PIN " ++ (name ++ 10 ∷ (between ++ (text_line (codes "  END ") name ++ rest)))) [] (record { name = name; ports = ports } ∷ pins) obs (join4 (codes "  PIN ") name (codes "\n") (between ++ (text_line (codes "  END ") name ++ rest)))
    (λ n.
    let t = r (n + 1) in
    record {
      items = Pin name ∷ t.items;
      read = one_item (Pin name) t.items (At (InMacro c)) (At (InPin c name)) (tokens_from n (codes "  PIN " ++ (name ++ 10 ∷ (between ++ (text_line (codes "  END ") name ++ rest))))) (tokens_from (n + 1) (between ++ (text_line (codes "  END ") name ++ rest))) (pin_line c name n (between ++ (text_line (codes "  END ") name ++ rest)) is) t.read;
      tells = tells_pin unit t.items ports pins obs name t.tells;
    })

pin_ends : (c name : List ℕ) (unit : ℕ) (rest : List ℕ) (pins : List LefPin) (obs : List LefRect) → IsWord name → ReadsTo unit (At (InMacro c)) rest [] pins obs → ReadsTo unit (At (InPin c name)) (text_line (codes "  END ") name ++ rest) [] pins obs
pin_ends c name unit rest pins obs is r =
    same_text unit (At (InPin c name)) (text_line (codes "  END ") name ++ rest) (codes "  END " ++ (name ++ 10 ∷ rest)) [] pins obs (join4 (codes "  END ") name (codes "\n") rest)
    (λ n. moved unit (At (InPin c name)) (At (InMacro c)) (tokens_from n (codes "  END " ++ (name ++ 10 ∷ rest))) (tokens_from (n + 1) rest) [] pins obs (pin_end c name n rest is) (r (n + 1)))

one_pin : (cell : Subckt) (ports : List PortOf) (rects : List Shape) (unit n : ℕ) (rest : List ℕ) (pins : List LefPin) (obs : List LefRect) → 1 ≤ unit → IsWord (name_of cell.nets n) → All (λ (s : Shape). IsSpelled unit s.rect) (port_shapes ports rects (net_no n)) → ReadsTo unit (At (InMacro cell.name)) rest [] pins obs → ReadsTo unit (At (InMacro cell.name)) (pin_text cell ports rects unit n ++ rest) [] (pin_drawn cell ports rects n ∷ pins) obs
unfolding pin_text
one_pin cell ports rects unit n rest pins obs u is all r =
    same_text unit (At (InMacro cell.name)) (pin_text cell ports rects unit n ++ rest) (text_line (codes "  PIN ") name ++ ((direct ++ (used ++ port)) ++ (text_line (codes "  END ") name ++ rest))) [] (pin_drawn cell ports rects n ∷ pins) obs
    (join6 (text_line (codes "  PIN ") name) direct used port (text_line (codes "  END ") name) rest ∙ ap (λ t. text_line (codes "  PIN ") name ++ t) (sym (inner (text_line (codes "  END ") name ++ rest))))
    (pin_read cell.name name (direct ++ (used ++ port)) unit rest (map (on_layer Metal1) (port_shapes ports rects (net_no n))) pins obs is
    (same_text unit (At (InPin cell.name name)) ((direct ++ (used ++ port)) ++ (text_line (codes "  END ") name ++ rest)) (direct ++ (used ++ (port ++ (text_line (codes "  END ") name ++ rest)))) (map (on_layer Metal1) (port_shapes ports rects (net_no n))) pins obs (inner (text_line (codes "  END ") name ++ rest))
    (λ m. moved unit (At (InPin cell.name name)) (At (InPin cell.name name)) (tokens_from m (direct ++ (used ++ (port ++ (text_line (codes "  END ") name ++ rest))))) (tokens_from (m + 1 + 1) (port ++ (text_line (codes "  END ") name ++ rest))) (map (on_layer Metal1) (port_shapes ports rects (net_no n))) pins obs
    (direction_line cell.name name (direction_of cell.directions n) m (used ++ (port ++ (text_line (codes "  END ") name ++ rest))) ∙ use_line cell.name name cell.pins (net_no n) (m + 1) (port ++ (text_line (codes "  END ") name ++ rest)))
    (port_read cell.name name unit (port_shapes ports rects (net_no n)) (text_line (codes "  END ") name ++ rest) pins obs u all (pin_ends cell.name name unit rest pins obs is r) (m + 1 + 1)))))
  where
    name : List ℕ
    name = name_of cell.nets n

    direct : List ℕ
    direct = direction_text (direction_of cell.directions n)

    used : List ℕ
    used = use_text cell.pins (net_no n)

    port : List ℕ
    port = port_text unit (port_shapes ports rects (net_no n))

    inner : (x : List ℕ) → (direct ++ (used ++ port)) ++ x ≡ direct ++ (used ++ (port ++ x))
    inner x = append_assoc direct (used ++ port) x ∙ ap (λ t. direct ++ t) (append_assoc used port x)

pins_read : (cell : Subckt) (ports : List PortOf) (rects : List Shape) (unit : ℕ) (ns : List ℕ) (rest : List ℕ) (pins : List LefPin) (obs : List LefRect) → 1 ≤ unit → All (λ n. IsWord (name_of cell.nets n)) ns → ((n : ℕ) → All (λ (s : Shape). IsSpelled unit s.rect) (port_shapes ports rects (net_no n))) → ReadsTo unit (At (InMacro cell.name)) rest [] pins obs → ReadsTo unit (At (InMacro cell.name)) (flat_map (pin_text cell ports rects unit) ns ++ rest) [] (map (pin_drawn cell ports rects) ns ++ pins) obs
pins_read cell ports rects unit [] rest pins obs u names all r = r
pins_read cell ports rects unit (n ∷ ns) rest pins obs u names all r =
    same_text unit (At (InMacro cell.name)) ((pin_text cell ports rects unit n ++ flat_map (pin_text cell ports rects unit) ns) ++ rest) (pin_text cell ports rects unit n ++ (flat_map (pin_text cell ports rects unit) ns ++ rest)) [] (pin_drawn cell ports rects n ∷ (map (pin_drawn cell ports rects) ns ++ pins)) obs (append_assoc (pin_text cell ports rects unit n) (flat_map (pin_text cell ports rects unit) ns) rest)
    (one_pin cell ports rects unit n (flat_map (pin_text cell ports rects unit) ns ++ rest) (map (pin_drawn cell ports rects) ns ++ pins) obs u (All-head (λ k. IsWord (name_of cell.nets k)) n ns names) (all n)
    (pins_read cell ports rects unit ns rest pins obs u (All-tail (λ k. IsWord (name_of cell.nets k)) n ns names) all r))

-- ---- obstructions

-- the same from each layer on that a block may have come to
abbrev FromAny : ℕ → List ℕ → List ℕ → List LefRect → Type 0
FromAny unit cell text obs = (c : Current) → ReadsTo unit (At (InBlock (OfMacro cell) c)) text [] [] obs

not_none : (s : Shape) (ss : List Shape) → (length (s ∷ ss) == 0) ≡ false
not_none s ss = ne_eqb (length (s ∷ ss)) 0 (λ e. omega (arith, e))

layer_some : (line : List ℕ) (unit : ℕ) (s : Shape) (ss : List Shape) → layer_text line unit (s ∷ ss) ≡ line ++ rects_text (codes "    ") unit (s ∷ ss)
unfolding layer_text
layer_some line unit s ss = rw (not_none s ss) refl

first_some : (unit : ℕ) (s : Shape) (ss two : List Shape) → obstructions_text unit (s ∷ ss) two ≡ block_text unit (s ∷ ss) two
unfolding obstructions_text
first_some unit s ss two = rw (not_none s ss) refl

second_some : (unit : ℕ) (s : Shape) (ss : List Shape) → obstructions_text unit [] (s ∷ ss) ≡ block_text unit [] (s ∷ ss)
unfolding obstructions_text
second_some unit s ss = rw (not_none s ss) refl

layer_read : (cell line : List ℕ) (layer : Layer) (unit : ℕ) (shapes : List Shape) (rest : List ℕ) (obs : List LefRect) → 1 ≤ unit → All (λ (s : Shape). IsSpelled unit s.rect) shapes → ((c : Current) (n : ℕ) (more : List ℕ) → read (At (InBlock (OfMacro cell) c)) (tokens_from n (line ++ more)) ≡ read (At (InBlock (OfMacro cell) (Wires layer))) (tokens_from (n + 1) more)) → FromAny unit cell rest obs → FromAny unit cell (layer_text line unit shapes ++ rest) (map (on_layer layer) shapes ++ obs)
unfolding layer_text
layer_read cell line layer unit [] rest obs u all head r c = r c
layer_read cell line layer unit (s ∷ ss) rest obs u all head r c =
    same_text unit (At (InBlock (OfMacro cell) c)) (layer_text line unit (s ∷ ss) ++ rest) (line ++ (rects_text (codes "    ") unit (s ∷ ss) ++ rest)) [] [] (map (on_layer layer) (s ∷ ss) ++ obs) (ap (λ t. t ++ rest) (layer_some line unit s ss) ∙ append_assoc line (rects_text (codes "    ") unit (s ∷ ss)) rest)
    (λ n. moved unit (At (InBlock (OfMacro cell) c)) (At (InBlock (OfMacro cell) (Wires layer))) (tokens_from n (line ++ (rects_text (codes "    ") unit (s ∷ ss) ++ rest))) (tokens_from (n + 1) (rects_text (codes "    ") unit (s ∷ ss) ++ rest)) [] [] (map (on_layer layer) (s ∷ ss) ++ obs) (head c n (rects_text (codes "    ") unit (s ∷ ss) ++ rest))
    (obstructions_read cell layer unit (s ∷ ss) rest [] [] obs u all (r (Wires layer)) (n + 1)))

block_read : (cell : List ℕ) (unit : ℕ) (one two : List Shape) (rest : List ℕ) → 1 ≤ unit → All (λ (s : Shape). IsSpelled unit s.rect) one → All (λ (s : Shape). IsSpelled unit s.rect) two → ReadsTo unit (At (InMacro cell)) rest [] [] [] → ReadsTo unit (At (InMacro cell)) (block_text unit one two ++ rest) [] [] (map (on_layer Metal1) one ++ map (on_layer Metal2) two)
unfolding block_text metal1_text metal2_text
block_read cell unit one two rest u first second r =
    same_text unit (At (InMacro cell)) (block_text unit one two ++ rest) (codes "  OBS\n" ++ (layer_text (codes "    LAYER metal1 ;\n") unit one ++ (layer_text (codes "    LAYER metal2 ;\n") unit two ++ (codes "  END\n" ++ rest)))) [] [] (map (on_layer Metal1) one ++ map (on_layer Metal2) two) (join5 (codes "  OBS\n") (layer_text (codes "    LAYER metal1 ;\n") unit one) (layer_text (codes "    LAYER metal2 ;\n") unit two) (codes "  END\n") rest)
    (λ n. moved unit (At (InMacro cell)) (At (InBlock (OfMacro cell) NoLayer)) (tokens_from n (codes "  OBS\n" ++ (layer_text (codes "    LAYER metal1 ;\n") unit one ++ (layer_text (codes "    LAYER metal2 ;\n") unit two ++ (codes "  END\n" ++ rest))))) (tokens_from (n + 1) (layer_text (codes "    LAYER metal1 ;\n") unit one ++ (layer_text (codes "    LAYER metal2 ;\n") unit two ++ (codes "  END\n" ++ rest)))) [] [] (map (on_layer Metal1) one ++ map (on_layer Metal2) two) (obs_line cell n (layer_text (codes "    LAYER metal1 ;\n") unit one ++ (layer_text (codes "    LAYER metal2 ;\n") unit two ++ (codes "  END\n" ++ rest))))
    (layer_read cell (codes "    LAYER metal1 ;\n") Metal1 unit one (layer_text (codes "    LAYER metal2 ;\n") unit two ++ (codes "  END\n" ++ rest)) (map (on_layer Metal2) two) u first (metal1_line cell) both NoLayer (n + 1)))
  where
    end : FromAny unit cell (codes "  END\n" ++ rest) []
    end c n = moved unit (At (InBlock (OfMacro cell) c)) (At (InMacro cell)) (tokens_from n (codes "  END\n" ++ rest)) (tokens_from (n + 1) rest) [] [] [] (obs_end cell c n rest) (r (n + 1))

    both : FromAny unit cell (layer_text (codes "    LAYER metal2 ;\n") unit two ++ (codes "  END\n" ++ rest)) (map (on_layer Metal2) two)
    both c n = subst (λ os. IsTold unit (At (InBlock (OfMacro cell) c)) (tokens_from n (layer_text (codes "    LAYER metal2 ;\n") unit two ++ (codes "  END\n" ++ rest))) [] [] os) (append-nil (map (on_layer Metal2) two)) (layer_read cell (codes "    LAYER metal2 ;\n") Metal2 unit two (codes "  END\n" ++ rest) [] u second (metal2_line cell) end c n)

all_obstructions : (cell : List ℕ) (unit : ℕ) (one two : List Shape) (rest : List ℕ) → 1 ≤ unit → All (λ (s : Shape). IsSpelled unit s.rect) one → All (λ (s : Shape). IsSpelled unit s.rect) two → ReadsTo unit (At (InMacro cell)) rest [] [] [] → ReadsTo unit (At (InMacro cell)) (obstructions_text unit one two ++ rest) [] [] (map (on_layer Metal1) one ++ map (on_layer Metal2) two)
unfolding obstructions_text
all_obstructions cell unit [] [] rest u first second r = r
all_obstructions cell unit (s ∷ ss) two rest u first second r = same_text unit (At (InMacro cell)) (obstructions_text unit (s ∷ ss) two ++ rest) (block_text unit (s ∷ ss) two ++ rest) [] [] (map (on_layer Metal1) (s ∷ ss) ++ map (on_layer Metal2) two) (ap (λ t. t ++ rest) (first_some unit s ss two)) (block_read cell unit (s ∷ ss) two rest u first second r)
all_obstructions cell unit [] (s ∷ ss) rest u first second r = same_text unit (At (InMacro cell)) (obstructions_text unit [] (s ∷ ss) ++ rest) (block_text unit [] (s ∷ ss) ++ rest) [] [] (map (on_layer Metal1) [] ++ map (on_layer Metal2) (s ∷ ss)) (ap (λ t. t ++ rest) (second_some unit s ss)) (block_read cell unit [] (s ∷ ss) rest u first second r)

-- ---- the shapes at ports, and those that are none, are shapes of the drawing
pub shapes_spelled : (unit : ℕ) (ports : List PortOf) (rects : List Shape) → All (λ (s : Shape). IsSpelled unit s.rect) rects → (n : ℕ) → All (λ (s : Shape). IsSpelled unit s.rect) (port_shapes ports rects (net_no n))
shapes_spelled unit ports rects all n = all_from_contains (λ (s : Shape). IsSpelled unit s.rect) (port_shapes ports rects (net_no n)) (λ s c.
    let k = kept_from (shape_of (net_no n) rects) ports s c in
    by (k.from.pin.0 == n) k.from s k.gives)
  where
    by : (b : Bool) (p : PortOf) (s : Shape) → (if b then slice_get rects p.shape else None) ≡ Some s → IsSpelled unit s.rect
    by true p s e = all_at (λ (z : Shape). IsSpelled unit z.rect) rects p.shape s all e
    by false p s e = absurd cc

pub rest_spelled : (unit : ℕ) (layer : Layer) (ports : List PortOf) (rects : List Shape) → All (λ (s : Shape). IsSpelled unit s.rect) rects → All (λ (s : Shape). IsSpelled unit s.rect) (obstructions_on layer ports rects)
rest_spelled unit layer ports rects all = all_from_contains (λ (s : Shape). IsSpelled unit s.rect) (obstructions_on layer ports rects) (λ s c.
    let k = kept_from (obstruction_on layer ports) (enumerate_from 0 rects) s c in
    by (same_layer k.from.1.layer layer && not (is_taken ports k.from.0)) k.from s k.there k.gives)
  where
    by : (b : Bool) (p : ℕ × Shape) (s : Shape) → Contains (enumerate_from 0 rects) p → (if b then Some p.1 else None) ≡ Some s → IsSpelled unit s.rect
    by true p s c e = let i = enumerated 0 rects p c in subst (λ (z : Shape). IsSpelled unit z.rect) (some_same p.1 s e) (all_at (λ (z : Shape). IsSpelled unit z.rect) rects i.at p.1 all i.item)
    by false p s c e = absurd cc

-- ---- the macro, and the library

names_are : (cell : Subckt) → ((n : ℕ) → n < cell.pins.pins → IsWord (name_of cell.nets n)) → (from count : ℕ) → from + count ≤ cell.pins.pins → All (λ n. IsWord (name_of cell.nets n)) (range_with_len from count)
names_are cell names from zero le = All-nil (λ n. IsWord (name_of cell.nets n))
names_are cell names from (suc count) le = All-cons (λ n. IsWord (name_of cell.nets n)) from (range_with_len (from + 1) count) (names from (omega (arith, le))) (names_are cell names (from + 1) count (omega (arith, le)))

end_read : (cell : List ℕ) (unit : ℕ) → IsWord cell → ReadsTo unit (At (InMacro cell)) (text_line (codes "END ") cell ++ codes "END LIBRARY\n") [] [] []
end_read cell unit is =
    same_text unit (At (InMacro cell)) (text_line (codes "END ") cell ++ codes "END LIBRARY\n") (codes "END " ++ (cell ++ 10 ∷ codes "END LIBRARY\n")) [] [] [] (join4 (codes "END ") cell (codes "\n") (codes "END LIBRARY\n"))
    (λ n. record { items = []; read = end_lines cell n is; tells = tells_none unit })

-- the statements of the macro before its pins
front_read : (cell : List ℕ) (width height unit : ℕ) (rest : List ℕ) (pins : List LefPin) (obs : List LefRect) → IsMetric unit width → IsMetric unit height → ReadsTo unit (At (InMacro cell)) rest [] pins obs → ReadsTo unit (At (InMacro cell)) (codes "  CLASS CORE ;\n  ORIGIN 0.000 0.000 ;\n" ++ (size_text width height unit ++ (codes "  SYMMETRY X Y ;\n" ++ rest))) [] pins obs
unfolding size_text
front_read cell width height unit rest pins obs wide high r n =
    moved unit (At (InMacro cell)) (At (InMacro cell)) (tokens_from n (codes "  CLASS CORE ;\n  ORIGIN 0.000 0.000 ;\n" ++ (size_text width height unit ++ (codes "  SYMMETRY X Y ;\n" ++ rest)))) (tokens_from (n + 1 + 1 + 1 + 1) rest) [] pins obs
    (class_line cell n (size_text width height unit ++ (codes "  SYMMETRY X Y ;\n" ++ rest))
    ∙ (ap (λ t. read (At (InMacro cell)) (tokens_from (n + 1 + 1) t)) (join6 (codes "  SIZE ") (microns (width * unit)) (codes " BY ") (microns (height * unit)) (codes " ;\n") (codes "  SYMMETRY X Y ;\n" ++ rest))
    ∙ (size_line cell (n + 1 + 1) (microns (width * unit)) (microns (height * unit)) (codes "  SYMMETRY X Y ;\n" ++ rest) (pos (width * unit)) (pos (height * unit)) (length_read (width * unit) wide) (length_read (height * unit) high)
    ∙ symmetry_line cell (n + 1 + 1 + 1) rest)))
    (r (n + 1 + 1 + 1 + 1))

-- the text of the library, part by part
split_text : (cell : Subckt) (ports : List PortOf) (drawing : Drawing) (unit : ℕ) → library_text cell ports drawing unit ≡ head_text ++ (codes "MACRO " ++ (cell.name ++ 10 ∷ (codes "  CLASS CORE ;\n  ORIGIN 0.000 0.000 ;\n" ++ (size_text drawing.width drawing.height unit ++ (codes "  SYMMETRY X Y ;\n" ++ (pins_text cell ports drawing.shapes.rects unit ++ (obstructions_text unit (obstructions_on Metal1 ports drawing.shapes.rects) (obstructions_on Metal2 ports drawing.shapes.rects) ++ (text_line (codes "END ") cell.name ++ codes "END LIBRARY\n"))))))))
unfolding macro_text
split_text cell ports drawing unit =
    join6 head_text (text_line (codes "MACRO ") cell.name ++ codes "  CLASS CORE ;\n  ORIGIN 0.000 0.000 ;\n" ++ size_text drawing.width drawing.height unit ++ codes "  SYMMETRY X Y ;\n") (pins_text cell ports drawing.shapes.rects unit) (obstructions_text unit (obstructions_on Metal1 ports drawing.shapes.rects) (obstructions_on Metal2 ports drawing.shapes.rects)) (text_line (codes "END ") cell.name) (codes "END LIBRARY\n")
    ∙ ap (λ t. head_text ++ t) (join5 (text_line (codes "MACRO ") cell.name) (codes "  CLASS CORE ;\n  ORIGIN 0.000 0.000 ;\n") (size_text drawing.width drawing.height unit) (codes "  SYMMETRY X Y ;\n") (pins_text cell ports drawing.shapes.rects unit ++ (obstructions_text unit (obstructions_on Metal1 ports drawing.shapes.rects) (obstructions_on Metal2 ports drawing.shapes.rects) ++ (text_line (codes "END ") cell.name ++ codes "END LIBRARY\n")))
    ∙ join4 (codes "MACRO ") cell.name (codes "\n") (codes "  CLASS CORE ;\n  ORIGIN 0.000 0.000 ;\n" ++ (size_text drawing.width drawing.height unit ++ (codes "  SYMMETRY X Y ;\n" ++ (pins_text cell ports drawing.shapes.rects unit ++ (obstructions_text unit (obstructions_on Metal1 ports drawing.shapes.rects) (obstructions_on Metal2 ports drawing.shapes.rects) ++ (text_line (codes "END ") cell.name ++ codes "END LIBRARY\n")))))))

pub reads_back : (cell : Subckt) (ports : List PortOf) (drawing : Drawing) (unit : ℕ) → IsReadable cell drawing unit → macro_in (library_text cell ports drawing unit) cell.name unit ≡ Ok (macro_drawn cell ports drawing)
unfolding macro_in
reads_back cell ports drawing unit is =
    ap (λ t. read (At InLibrary) (tokens_from 1 t) >>= λ items. macro_named unit cell.name items) (split_text cell ports drawing unit)
    ∙ (ap (λ r. r >>= λ items. macro_named unit cell.name items) library
    ∙ macro_told unit cell.name own.items [] (macro_drawn cell ports drawing).pins (macro_drawn cell ports drawing).obstructions own.tells)
  where
    one : List Shape
    one = obstructions_on Metal1 ports drawing.shapes.rects

    two : List Shape
    two = obstructions_on Metal2 ports drawing.shapes.rects

    last : List ℕ
    last = text_line (codes "END ") cell.name ++ codes "END LIBRARY\n"

    pins : ReadsTo unit (At (InMacro cell.name)) (pins_text cell ports drawing.shapes.rects unit ++ (obstructions_text unit one two ++ last)) [] (macro_drawn cell ports drawing).pins (macro_drawn cell ports drawing).obstructions
    pins n = subst (λ ps. IsTold unit (At (InMacro cell.name)) (tokens_from n (pins_text cell ports drawing.shapes.rects unit ++ (obstructions_text unit one two ++ last))) [] ps (macro_drawn cell ports drawing).obstructions) (append-nil (macro_drawn cell ports drawing).pins)
        (pins_read cell ports drawing.shapes.rects unit (range_with_len 0 cell.pins.pins) (obstructions_text unit one two ++ last) [] (macro_drawn cell ports drawing).obstructions is.least (names_are cell is.pins 0 cell.pins.pins (omega arith)) (shapes_spelled unit ports drawing.shapes.rects is.shapes)
        (all_obstructions cell.name unit one two last is.least (rest_spelled unit Metal1 ports drawing.shapes.rects is.shapes) (rest_spelled unit Metal2 ports drawing.shapes.rects is.shapes) (end_read cell.name unit is.name)) n)

    own : IsTold unit (At (InMacro cell.name)) (tokens_from (1 + 1 + 1 + 1 + 1 + 1 + 1 + 1) (codes "  CLASS CORE ;\n  ORIGIN 0.000 0.000 ;\n" ++ (size_text drawing.width drawing.height unit ++ (codes "  SYMMETRY X Y ;\n" ++ (pins_text cell ports drawing.shapes.rects unit ++ (obstructions_text unit one two ++ last)))))) [] (macro_drawn cell ports drawing).pins (macro_drawn cell ports drawing).obstructions
    own = front_read cell.name drawing.width drawing.height unit (pins_text cell ports drawing.shapes.rects unit ++ (obstructions_text unit one two ++ last)) (macro_drawn cell ports drawing).pins (macro_drawn cell ports drawing).obstructions is.width is.height pins (1 + 1 + 1 + 1 + 1 + 1 + 1 + 1)

    behind : List ℕ
    behind = codes "  CLASS CORE ;\n  ORIGIN 0.000 0.000 ;\n" ++ (size_text drawing.width drawing.height unit ++ (codes "  SYMMETRY X Y ;\n" ++ (pins_text cell ports drawing.shapes.rects unit ++ (obstructions_text unit one two ++ last))))

    library : read (At InLibrary) (tokens_from 1 (head_text ++ (codes "MACRO " ++ (cell.name ++ 10 ∷ behind)))) ≡ Ok (Begins cell.name ∷ own.items)
    library = head_line 1 (codes "MACRO " ++ (cell.name ++ 10 ∷ behind)) ∙ (macro_line cell.name (1 + 1 + 1 + 1 + 1 + 1 + 1) behind is.name ∙ ap (λ r. with_items (Begins cell.name ∷ []) r) own.read)
