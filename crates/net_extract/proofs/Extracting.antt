-- The steps of extraction give the netlist, or the fault.
use Rattle.std.proofs.Common.{◌≡◌, ℕ, ◌≤◌, ◌<◌, List, [], ◌∷◌, map, length, Option, Some, None, Result, Ok, Err, IfOk, arith, inl, inr, refl, sym, subst, ap, ◌∙◌, IfErr}
use Rattle.std.specs.List.{All, AllZip, find}
use Rattle.box_geom.specs.declared.shape.Shape.{Shape}
use Rattle.box_geom.specs.declared.shape.Label.{Label}
use Rattle.box_geom.specs.declared.shape.Shapes.{Shapes}
use Rattle.scmos_rules.specs.declared.rules.Deck.{Deck}
use Rattle.scmos_rules.specs.declared.rules.Deck.TheVariants.{Plain, Taps}
use Rattle.net_extract.specs.Bodies.{AreBodies, ExtractsBodies}
use Rattle.net_extract.specs.Nets.{Site}
use Rattle.net_extract.specs.Extraction.{AreFew, AreRegular, IsLabelled, IsDrawn, Extracts, IsTooMany, SaysTooMany, ExtractRefused}
use Rattle.net_extract.specs.Naming.{IsAgreed, names_of, short_net, split_name, IsNameFault}
use Rattle.net_extract.specs.Labels.{IsFirstStray}
use Rattle.net_extract.specs.Lookups.{is_lost, net_labels_in, IsLostBy}
use Rattle.net_extract.specs.GateNets.{ArePolyOf, AreGateNets, AreWellNets, AreFound, IsOddFault, boxes_of}
use Rattle.net_extract.specs.Connections.{firsts_of, AreWires}
use Rattle.net_extract.specs.Steps.{AreNamed, IsMapped}
use Rattle.net_extract.specs.declared.drawing.Mapped.{Mapped}
use Rattle.net_extract.specs.declared.drawing.Named.{Named}
use Rattle.net_extract.specs.declared.naming.NetLabel.{NetLabel}
use Rattle.net_extract.specs.declared.netlist.BodyNetlist.{BodyNetlist}
use Rattle.net_extract.specs.declared.netlist.Drawn.{Drawn}
use Rattle.net_extract.specs.declared.netlist.Netlist.{Netlist}
use Rattle.net_extract.specs.declared.fault.ExtractFault.{ExtractFault}
use Rattle.net_extract.specs.declared.fault.ExtractFault.TheVariants.{TooMany, OddDevice, Stray, Short, Split, NoMemory}
use Rattle.net_extract.specs.declared.piece.Piece.{Piece}
use Rattle.net_extract.specs.declared.connections.Wire.{Wire}
use Rattle.box_geom.specs.Rectangle.{Rectangle, IsRectangle}
use Rattle.net_extract.specs.Cuts.{poly_of, gates_in, drawn_all}
use Rattle.net_extract.specs.declared.piece.Conductor.TheVariants.{Poly}
use Rattle.box_geom.specs.declared.layer.Layer.TheVariants.{Well}
use Rattle.scmos_rules.specs.Layout.{On, Gate}
use Rattle.net_extract.proofs.Carving.{gates_drawn, wells_drawn, proper_of_limits}
use Rattle.net_extract.proofs.Labelling.{labels_held, stray_is}

pub many_rects : (shapes : Shapes) → 10000 < length shapes.rects → IsTooMany shapes (length shapes.rects)
many_rects shapes l = record { which = inl (l, refl) }

pub many_labels : (shapes : Shapes) → length shapes.rects ≤ 10000 → 2000 < length shapes.labels → IsTooMany shapes (length shapes.labels)
many_labels shapes r l = record { which = inr (r, l, refl) }

pub few_are : (shapes : Shapes) → length shapes.rects ≤ 10000 → length shapes.labels ≤ 2000 → AreFew shapes
few_are shapes r l = record { rects = r; labels = l }

-- ---- too many shapes are told as that
pub not_many : (shapes : Shapes) (count : ℕ) → AreFew shapes → IsTooMany shapes count → ⊥
not_many shapes count few r = elim r.which [
  | inl (many, is) ↦ absurd (omega (arith, many, few.rects))
  | inr (low, many, is) ↦ absurd (omega (arith, many, few.labels))
]

pub says_rects : {X : Type 0} (shapes : Shapes) → 10000 < length shapes.rects → SaysTooMany {X = X} shapes (Err (TooMany (length shapes.rects)))
says_rects shapes many count r = elim r.which [
  | inl (above, is) ↦ ap (λ n. Err (TooMany n)) (sym is)
  | inr (low, above, is) ↦ absurd (omega (arith, many, low))
]

pub says_labels : {X : Type 0} (shapes : Shapes) → length shapes.rects ≤ 10000 → 2000 < length shapes.labels → SaysTooMany {X = X} shapes (Err (TooMany (length shapes.labels)))
says_labels shapes few many count r = elim r.which [
  | inl (above, is) ↦ absurd (omega (arith, few, above))
  | inr (low, above, is) ↦ ap (λ n. Err (TooMany n)) (sym is)
]

pub says_few : {X : Type 0} (shapes : Shapes) (answer : Result X ExtractFault) → AreFew shapes → SaysTooMany shapes answer
says_few shapes answer few count r = absurd (not_many shapes count few r)

err_same : {X : Type 0} (r : Result X ExtractFault) (f g : ExtractFault) → r ≡ Err f → r ≡ Err g → f ≡ g
err_same r f g a b = cc

pub says_on : {X Y : Type 0} (shapes : Shapes) (f : ExtractFault) → SaysTooMany {X = X} shapes (Err f) → SaysTooMany {X = Y} shapes (Err f)
says_on {X} {Y} shapes f says count r =
    let answer : Result X ExtractFault = Err f in
    ap (λ g. Err g) (err_same answer f (TooMany count) refl (says count r))

pub ruleset count_rules = (many_rects, many_labels, few_are, says_rects, says_labels, says_few)

pub odd_refused : (deck : Deck) (shapes : Shapes) (f : ExtractFault) → AreFew shapes → IsOddFault deck shapes.rects f → ExtractRefused deck shapes f
odd_refused deck shapes (OddDevice x y) few o = record { few = few; odd = o }
odd_refused deck shapes NoMemory few o = tt
odd_refused deck shapes (TooMany n) few o = absurd o
odd_refused deck shapes (Stray n) few o = absurd o
odd_refused deck shapes (Short a b) few o = absurd o
odd_refused deck shapes (Split n) few o = absurd o

stray_at : (deck : Deck) (shapes : Shapes) (wires : List Wire) (firsts : List Piece) → AreRegular deck shapes → AreWires deck shapes.rects wires firsts → (o : Option Label) → find (is_lost wires) shapes.labels ≡ o → (f : ExtractFault) → IsLostBy o f → ExtractRefused deck shapes f
stray_at deck shapes wires firsts regular m None q f s = absurd s
stray_at deck shapes wires firsts regular m (Some l) q (Stray name) s = record { regular = regular; stray = subst (IsFirstStray shapes.rects shapes.labels) (sym s) (stray_is deck shapes.rects wires firsts m shapes.labels l q) }
stray_at deck shapes wires firsts regular m (Some l) q NoMemory s = tt
stray_at deck shapes wires firsts regular m (Some l) q (TooMany n) s = absurd s
stray_at deck shapes wires firsts regular m (Some l) q (OddDevice x y) s = absurd s
stray_at deck shapes wires firsts regular m (Some l) q (Short a b) s = absurd s
stray_at deck shapes wires firsts regular m (Some l) q (Split n) s = absurd s

pub stray_refused : (deck : Deck) (shapes : Shapes) (wires ws : List Wire) (labels : List Label) (firsts : List Piece) (f : ExtractFault) → AreRegular deck shapes → AreWires deck shapes.rects wires firsts → ws ≡ wires → labels ≡ shapes.labels → IsLostBy (find (is_lost ws) labels) f → ExtractRefused deck shapes f
stray_refused deck shapes wires ws labels firsts f regular m ew el e = stray_at deck shapes wires firsts regular m (find (is_lost wires) shapes.labels) refl f (subst (λ z. IsLostBy (find (is_lost z) shapes.labels) f) ew (subst (λ z. IsLostBy (find (is_lost ws) z) f) el e))

many_firsts : (firsts : List Piece) → length (firsts_of firsts) ≡ length firsts
many_firsts [] = refl
many_firsts (p ∷ ps) = omega (arith, many_firsts ps)

labelled : (deck : Deck) (shapes : Shapes) (wires : List Wire) (firsts : List Piece) → AreWires deck shapes.rects wires firsts → find (is_lost wires) shapes.labels ≡ None → IsLabelled deck shapes (firsts_of firsts) (net_labels_in wires shapes.labels)
labelled deck shapes wires firsts m e = record { nets = m.nets; labels = labels_held deck shapes.rects wires firsts m shapes.labels e }

pub named_are : (deck : Deck) (shapes : Shapes) (wires : List Wire) (firsts : List Piece) (held : List NetLabel) (count : ℕ) (names : List (List ℕ)) → AreWires deck shapes.rects wires firsts → find (is_lost wires) shapes.labels ≡ None → held ≡ net_labels_in wires shapes.labels → count ≡ length firsts → short_net held count ≡ None → split_name held ≡ None → names ≡ names_of held count → (named : Named) → named.held.items ≡ held → named.names ≡ names → AreNamed deck shapes (firsts_of firsts) named
named_are deck shapes wires firsts held count names m e eh ec ss sp en named same_held same_names =
    let same : count ≡ length (firsts_of firsts) = ec ∙ sym (many_firsts firsts) in
    record {
      labelled = subst (IsLabelled deck shapes (firsts_of firsts)) (sym (same_held ∙ eh)) (labelled deck shapes wires firsts m e);
      agreed = subst (λ hs. IsAgreed hs (length (firsts_of firsts))) (sym same_held) (subst (IsAgreed held) same (record { no_short = ss; no_split = sp }));
      are = same_names ∙ subst (λ n. names ≡ names_of held n) same en ∙ ap (λ hs. names_of hs (length (firsts_of firsts))) (sym same_held);
    }

pub name_refused : (deck : Deck) (shapes : Shapes) (wires : List Wire) (firsts : List Piece) (held : List NetLabel) (count : ℕ) (f : ExtractFault) → AreRegular deck shapes → AreWires deck shapes.rects wires firsts → find (is_lost wires) shapes.labels ≡ None → held ≡ net_labels_in wires shapes.labels → count ≡ length firsts → IsNameFault held count f → ExtractRefused deck shapes f
name_refused deck shapes wires firsts held count f regular m e eh ec is = by f (subst (λ n. IsNameFault held n f) (ec ∙ sym (many_firsts firsts)) is)
  where
    lab : IsLabelled deck shapes (firsts_of firsts) held
    lab = subst (IsLabelled deck shapes (firsts_of firsts)) (sym eh) (labelled deck shapes wires firsts m e)

    by : (g : ExtractFault) → IsNameFault held (length (firsts_of firsts)) g → ExtractRefused deck shapes g
    by (Short a b) s = record { regular = regular; firsts = firsts_of firsts; held = held; labelled = lab; short = s }
    by (Split n) s = record { regular = regular; firsts = firsts_of firsts; held = held; labelled = lab; split = s }
    by NoMemory s = tt
    by (TooMany n) s = absurd s
    by (OddDevice x y) s = absurd s
    by (Stray n) s = absurd s

pub regular_of : (deck : Deck) (shapes : Shapes) (firsts : List Site) (boxes : List Rectangle) (devices : List Drawn) → AreFew shapes → AreFound deck shapes.rects firsts boxes devices → AreRegular deck shapes
regular_of deck shapes firsts boxes devices few found = record { few = few; none_odd = found.are.none_odd }

pub extracts : (deck : Deck) (shapes : Shapes) (m : Mapped) (n : Netlist) → IsMapped deck shapes m → n.names ≡ m.named.names → n.devices ≡ m.devices → Extracts deck shapes n
extracts deck shapes m n map names devices = record {
  few = map.few;
  firsts = firsts_of m.connections.firsts.items;
  held = m.named.held.items;
  labelled = map.named.labelled;
  agreed = map.named.agreed;
  names = names ∙ map.named.are;
  boxes = boxes_of m.gates.wires.items m.gates.firsts.items;
  devices = map.found.are;
  drawn = subst (λ ds. AllZip (IsDrawn deck shapes.rects (firsts_of m.connections.firsts.items)) (boxes_of m.gates.wires.items m.gates.firsts.items) ds) (sym devices) map.found.drawn;
}

pub extracts_bodies : (shapes : Shapes) (m : Mapped) (b : BodyNetlist) → IsMapped Taps shapes m → b.netlist.names ≡ m.named.names → b.netlist.devices ≡ m.devices → AreBodies shapes.rects (firsts_of m.connections.firsts.items) (boxes_of m.gates.wires.items m.gates.firsts.items) m.devices b.bodies → ExtractsBodies shapes b
extracts_bodies shapes m b map names devices bodies = record {
  of = record {
    few = map.few;
    firsts = firsts_of m.connections.firsts.items;
    held = m.named.held.items;
    labelled = map.named.labelled;
    agreed = map.named.agreed;
    names = names ∙ map.named.are;
    boxes = boxes_of m.gates.wires.items m.gates.firsts.items;
    devices = map.found.are;
    drawn = subst (λ ds. AllZip (IsDrawn Taps shapes.rects (firsts_of m.connections.firsts.items)) (boxes_of m.gates.wires.items m.gates.firsts.items) ds) (sym devices) map.found.drawn;
  };
  bodies = subst (λ ds. AreBodies shapes.rects (firsts_of m.connections.firsts.items) (boxes_of m.gates.wires.items m.gates.firsts.items) ds b.bodies) (sym devices) bodies;
}

pub if_ok : {X E : Type 0} (A B : X → Type 0) (r : Result X E) → ((x : X) → A x → B x) → IfOk r A → IfOk r B
if_ok A B (Ok x) f h = f x h
if_ok A B (Err e) f h = tt

pub if_err : {X E : Type 0} (A B : E → Type 0) (r : Result X E) → ((e : E) → A e → B e) → IfErr r A → IfErr r B
if_err A B (Ok x) f h = tt
if_err A B (Err e) f h = f e h

pub gate_nets : (s g : List Shape) (wires : List Wire) (firsts : List Piece) → All (λ (z : Shape). IsRectangle z.rect) s → g ≡ map poly_of (gates_in s) → AreWires Plain g wires firsts → AreGateNets s wires firsts
gate_nets s g wires firsts limits e m = record { shapes = g; are = subst (ArePolyOf (Gate s)) (sym e) (gates_drawn s (proper_of_limits s limits)); nets = m }

pub well_nets : (s g : List Shape) (wires : List Wire) (firsts : List Piece) → All (λ (z : Shape). IsRectangle z.rect) s → g ≡ map poly_of (drawn_all Poly Well s) → AreWires Plain g wires firsts → AreWellNets s wires firsts
well_nets s g wires firsts limits e m = record { shapes = g; are = subst (ArePolyOf (On Well s)) (sym e) (wells_drawn s (proper_of_limits s limits)); nets = m }
