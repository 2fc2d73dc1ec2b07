-- In the netlist of a drawing whose devices have their rails for bodies, the bodies are the nets with the rails' names.
use Rattle.std.proofs.Common.{◌≡◌, ℕ, zero, suc, ◌<◌, ◌==◌, Bool, true, false, cond, Option, Some, None, List, [], ◌∷◌, length, get_or, slice_get, find, option_map, inl, inr, refl, sym, subst, ap, ◌∙◌, arith}
use Rattle.std.specs.List.{AllZip, Contains, filter, zip}
use Rattle.std.proofs.lemmas.Bool.Decides.{Decides-eqb}
use Rattle.std.proofs.lemmas.List.FromFn.{get_or-map-range_with_len}
use Rattle.cell_num.proofs.Lists.{contains_none, contains_cons, contains_here, contains_there}
use Rattle.cell_num.specs.declared.net.Pins.{Pins}
use Rattle.box_geom.specs.Rectangle.{Rectangle}
use Rattle.box_geom.specs.declared.shape.Label.{Label}
use Rattle.box_geom.specs.declared.shape.Shape.{Shape}
use Rattle.box_geom.specs.declared.shape.Shapes.{Shapes}
use Rattle.scmos_rules.specs.declared.rules.Deck.TheVariants.{Taps}
use Rattle.net_extract.specs.Bodies.{IsBody, IsBodyOf, ExtractsBodies}
use Rattle.net_extract.specs.Extraction.{IsDrawn}
use Rattle.net_extract.specs.Labels.{is_conductor, conductor_labels, IsNetLabel, AreNetLabels, IsNamed}
use Rattle.net_extract.specs.Naming.{label_of, name_or_number, name_of as name_held, names_of}
use Rattle.net_extract.specs.Nets.{layer_of, Site}
use Rattle.net_extract.specs.declared.piece.Conductor.{Conductor}
use Rattle.net_extract.specs.declared.piece.Conductor.TheVariants.{PDiffusion, NDiffusion, Poly, Metal1, Metal2}
use Rattle.net_extract.specs.Numbering.{AreNets, IsInNet}
use Rattle.net_extract.specs.declared.naming.NetLabel.{NetLabel}
use Rattle.net_extract.specs.declared.netlist.BodyNetlist.{BodyNetlist}
use Rattle.net_extract.specs.declared.netlist.Drawn.{Drawn}
use Rattle.net_extract.proofs.Agreeing.{label_held}
use Rattle.net_extract.proofs.Belonging.{one_site}
use Rattle.net_extract.proofs.Finding.{found, found_none}
use Rattle.net_extract.proofs.Numbers.{one_number}
use Rattle.net_extract.proofs.Siding.{in_first, move_net}
use Rattle.net_extract.proofs.Wiring.{net_back}
use Rattle.cell_draw.specs.Named.{name_of, AreNamed}
use Rattle.well_tap.specs.Bodied.{rail_of, HasBody, AreBodied, IsOnRail}
use Rattle.well_tap.proofs.TapLabels.{label_layer}

-- ---- lists
in_filter : {X : Type 0} (p : X → Bool) (xs : List X) (x : X) → Contains xs x → p x ≡ true → Contains (filter p xs) x
in_filter p [] x c t = absurd (contains_none x c)
in_filter {X} p (y ∷ ys) x c t =
    elim (contains_cons y ys x c) [
      | inl e ↦ let q : p y ≡ true = subst (λ z. p z ≡ true) (sym e) t in rw q (subst (Contains (y ∷ filter p ys)) e (contains_here y (filter p ys)))
      | inr later ↦ by (p y) (in_filter p ys x later t)
    ]
  where
    by : (b : Bool) → Contains (filter p ys) x → Contains (cond b (y ∷ filter p ys) (filter p ys)) x
    by true r = contains_there y (filter p ys) x r
    by false r = r

-- what stands opposite to an element
facing : {X Y : Type 0} (R : X → Y → Type 0) (xs : List X) (ys : List Y) (x : X) → AllZip R xs ys → Contains xs x → (y : Y) × Contains ys y × R x y
facing R [] ys x z c = absurd (contains_none x c)
facing R (w ∷ ws) [] x z c = absurd z
facing R (w ∷ ws) (y ∷ ys) x z c =
    elim (contains_cons w ws x c) [
      | inl e ↦ (y, contains_here y ys, subst (λ v. R v y) e z.0)
      | inr later ↦ let (u, listed, r) = facing R ws ys x z.1 later in (u, contains_there y ys u listed, r)
    ]

get_below : {X : Type 0} (xs : List X) (n : ℕ) (x : X) → slice_get xs n ≡ Some x → n < length xs
get_below [] n x e = absurd cc
get_below (y ∷ ys) zero x e = omega arith
get_below (y ∷ ys) (suc n) x e = let less = get_below ys n x e in omega (arith, less)

-- ---- names
wiring_kind : (k : Conductor) → is_conductor (layer_of k) ≡ true
wiring_kind PDiffusion = refl
wiring_kind NDiffusion = refl
wiring_kind Poly = refl
wiring_kind Metal1 = refl
wiring_kind Metal2 = refl

-- the first label of a net with a named site is the name
first_label : (names : List (List ℕ)) (shapes : Shapes) (firsts : List Site) (held : List NetLabel) → AreNets Taps shapes.rects firsts → AreNetLabels Taps shapes.rects firsts shapes.labels held → AreNamed Taps names shapes → (name : List ℕ) (n : ℕ) (a : Site) → IsNamed Taps shapes name a → IsInNet Taps shapes.rects firsts n a → label_of n held ≡ Some name
first_label names shapes firsts held nets labels are name n a named in_net = by (find (λ (h : NetLabel). h.net == n) held) refl
  where
    s : List Shape
    s = shapes.rects

    wiring : is_conductor named.label.layer ≡ true
    wiring = subst (λ l. is_conductor l ≡ true) (label_layer s named.label named.at named.belongs) (wiring_kind named.at.kind)

    mine : (h : NetLabel) × Contains held h × IsNetLabel Taps s firsts named.label h
    mine = facing (IsNetLabel Taps s firsts) (conductor_labels shapes.labels) held named.label labels (in_filter (λ (l : Label). is_conductor l.layer) shapes.labels named.label named.listed wiring)

    at_net : (l : Label) (h : NetLabel) (i : IsNetLabel Taps s firsts l h) (m : ℕ) → h.net ≡ m → IsInNet Taps s firsts m i.site
    at_net l h i m e = subst (λ k. IsInNet Taps s firsts k i.site) e i.net

    same_net : mine.0.net ≡ n
    same_net =
        let i = mine.2 in
        let own : i.site ≡ named.at = one_site s named.label i.site named.at i.belongs named.belongs in
        one_number Taps s firsts mine.0.net n a nets (move_net Taps s firsts mine.0.net named.at a (subst (IsInNet Taps s firsts mine.0.net) own i.net) named.same) in_net

    by : (o : Option NetLabel) → find (λ (h : NetLabel). h.net == n) held ≡ o → option_map (λ (h : NetLabel). h.name) o ≡ Some name
    by None e = absurd (found_none (λ (h : NetLabel). h.net == n) held e mine.0 mine.1 ((Decides-eqb mine.0.net n).1 same_net))
    by (Some h) e =
        let p = found (λ (z : NetLabel). z.net == n) held h e in
        let (l, listed, i) = label_held Taps s firsts shapes.labels held h labels p.listed in
        let both = in_first Taps s firsts n i.site named.at (at_net l h i n ((Decides-eqb h.net n).0 p.passes)) (move_net Taps s firsts n a named.at in_net (net_back Taps s named.at a named.same)) in
        let names_are : l.name ≡ named.label.name = (are.apart l named.label i.site named.at listed named.listed i.belongs named.belongs).0 both in
        ap (λ z. Some z) (i.name ∙ (names_are ∙ named.reads))

named_net : (names : List (List ℕ)) (shapes : Shapes) (firsts : List Site) (held : List NetLabel) → AreNets Taps shapes.rects firsts → AreNetLabels Taps shapes.rects firsts shapes.labels held → AreNamed Taps names shapes → (name : List ℕ) (n : ℕ) (a : Site) → IsNamed Taps shapes name a → IsInNet Taps shapes.rects firsts n a → get_or (names_of held (length firsts)) n [] ≡ name
named_net names shapes firsts held nets labels are name n a named in_net =
    get_or-map-range_with_len (name_held held) 0 (length firsts) n n [] (get_below firsts n in_net.first in_net.numbered) (omega arith)
    ∙ ap (name_or_number n) (first_label names shapes firsts held nets labels are name n a named in_net)

-- ---- bodies
zipped : (names : List (List ℕ)) (pins : Pins) (shapes : Shapes) (firsts : List Site) (nets : List (List ℕ)) → AreBodied names pins shapes
    → ((name : List ℕ) (n : ℕ) (a : Site) → IsNamed Taps shapes name a → IsInNet Taps shapes.rects firsts n a → get_or nets n [] ≡ name)
    → (boxes : List Rectangle) (ds : List Drawn) (bs : List (Option ℕ)) → AllZip (IsDrawn Taps shapes.rects firsts) boxes ds → AllZip (IsBodyOf shapes.rects firsts) (zip boxes ds) bs → AllZip (IsOnRail names pins nets) ds bs
zipped names pins shapes firsts nets b find [] [] [] x y = tt
zipped names pins shapes firsts nets b find [] [] (o ∷ os) x y = absurd y
zipped names pins shapes firsts nets b find [] (d ∷ ds) bs x y = absurd x
zipped names pins shapes firsts nets b find (box ∷ boxes) [] bs x y = absurd x
zipped names pins shapes firsts nets b find (box ∷ boxes) (d ∷ ds) [] x y = absurd y
zipped names pins shapes firsts nets b find (box ∷ boxes) (d ∷ ds) (o ∷ os) x y = (by o y.0, zipped names pins shapes firsts nets b find boxes ds os x.1 y.1)
  where
    body : HasBody (name_of names (rail_of pins d.row)) shapes d.row box
    body = let i = x.0 in b.each box (record { row = d.row; gate = i.gate; left = i.left; right = i.right; width = d.width; length = d.length; is = i.is })

    by : (o : Option ℕ) → IsBody shapes.rects firsts d.row box o → IsOnRail names pins nets d o
    by None none = none body.tap body.is
    by (Some n) has = find (name_of names (rail_of pins d.row)) n has.tap (body.named has.tap has.is) has.net

pub bodies_named : (names : List (List ℕ)) (pins : Pins) (shapes : Shapes) (b : BodyNetlist) → AreNamed Taps names shapes → AreBodied names pins shapes → ExtractsBodies shapes b → AllZip (IsOnRail names pins b.netlist.names) b.netlist.devices b.bodies
bodies_named names pins shapes b are bodied e =
    let of = e.of in
    subst (λ nets. AllZip (IsOnRail names pins nets) b.netlist.devices b.bodies) (sym of.names)
    (zipped names pins shapes of.firsts (names_of of.held (length of.firsts)) bodied (named_net names shapes of.firsts of.held of.labelled.nets of.labelled.labels are) of.boxes b.netlist.devices b.bodies of.drawn e.bodies)
