-- The nets that are looked up are those of the drawing.
use Rattle.std.proofs.Common.{◌≡◌, ℕ, ℤ, pos, ◌-ℤ◌, Bool, true, false, ◌&&◌, ◌==◌, not, if◌then◌else◌, cond, Option, Some, None, is_some, List, [], ◌∷◌, ◌++◌, inl, inr, ◌⊎◌, refl, sym, subst, ap, ◌∙◌, filter_map, option_to_list}
use Rattle.std.specs.List.{Contains, AllZip, find, cons_option}
use Rattle.std.specs.Option.{option_map}
use Rattle.std.proofs.lemmas.List.Elements.{All-contains}
use Rattle.std.proofs.lemmas.Bool.{eq-eqb}
use Rattle.cell_num.proofs.Lists.{some_same, contains_none, contains_cons, contains_here, contains_there}
use Rattle.cell_num.proofs.In.{in_map, contains_map}
use Rattle.box_geom.specs.Comparisons.{holding}
use Rattle.box_geom.specs.Rectangle.{Holds}
use Rattle.box_geom.specs.Touching.{Cell}
use Rattle.box_geom.specs.declared.shape.Shape.{Shape}
use Rattle.box_geom.specs.declared.shape.Label.{Label}
use Rattle.box_geom.specs.declared.layer.Layer.{Layer}
use Rattle.box_geom.specs.declared.layer.Layer.TheVariants.{Well, Active, PSelect, NSelect, Poly as PolyLayer, Contact, Metal1 as Metal1Layer, Via, Metal2 as Metal2Layer}
use Rattle.number_trees.proofs.Chains.{none}
use Rattle.scmos_rules.specs.declared.rules.Deck.{Deck}
use Rattle.number_trees.proofs.Tying.{eq_of_eqb}
use Rattle.net_extract.specs.Nets.{layer_of, Site, site_at, Conducts, SameNet}
use Rattle.net_extract.specs.Numbering.{IsInNet}
use Rattle.net_extract.specs.Bonds.{AreDrawn, Bonded, IsIn}
use Rattle.net_extract.specs.Labels.{is_conductor, conductor_labels, cells_round, IsConductorAt, IsFirstConductor, IsNetLabel, AreNetLabels, IsFirstStray}
use Rattle.net_extract.specs.Pieces.{place, rect_of, corner_of, rects_in}
use Rattle.net_extract.specs.Connections.{firsts_of, pieces_of, AreWires, IsFound}
use Rattle.net_extract.specs.Lookups.{is_at, net_in, or_else, net_on, net_round, net_of_label, is_lost, net_labels_in}
use Rattle.net_extract.specs.declared.piece.Conductor.{Conductor}
use Rattle.net_extract.specs.declared.piece.Conductor.TheVariants.{PDiffusion, NDiffusion, Poly, Metal1, Metal2}
use Rattle.net_extract.specs.declared.piece.Piece.{Piece}
use Rattle.net_extract.specs.declared.connections.Wire.{Wire}
use Rattle.net_extract.proofs.Bonds.{one_net}
use Rattle.net_extract.proofs.Conductors.{same_place, same_kind_place}
use Rattle.net_extract.proofs.Filling.{holds_decides, and_parts, and_true}
use Rattle.net_extract.proofs.Finding.{found, found_none}
use Rattle.net_extract.proofs.Listing.{piece_listed, piece_proper, corner_in, held as held_cell, inside_conducts}
use Rattle.net_extract.proofs.Wiring.{net_both}

-- two cells of one piece
pub piece_net : (deck : Deck) (s : List Shape) (ps : List Piece) → AreDrawn s (rects_in ps) → (p : Piece) → Contains ps p → (a b : Site) → IsIn p a → IsIn p b → SameNet deck s a b
piece_net deck s ps d p c a b ia ib = (one_net deck s (rects_in ps) p p a b d (piece_listed ps p c) (piece_listed ps p c) ia ib).1 (none (Bonded deck s (rects_in ps)) p p refl)

pub wire_listed : (wires : List Wire) (w : Wire) → Contains wires w → Contains (pieces_of wires) w.piece
wire_listed wires w c = contains_map (λ (z : Wire). z.piece) wires w c

abbrev at_cell : Conductor → ℤ → ℤ → Wire → Bool
at_cell k x y w = is_at w.piece k x y

pub wire_net : (deck : Deck) (s : List Shape) (wires : List Wire) (firsts : List Piece) → AreWires deck s wires firsts → (w : Wire) → Contains wires w → (a : Site) → IsIn w.piece a → IsInNet deck s (firsts_of firsts) w.net a
wire_net deck s wires firsts m w c a i =
    let n : IsInNet deck s (firsts_of firsts) w.net (corner_of w.piece) = All-contains (λ (z : Wire). IsInNet deck s (firsts_of firsts) z.net (corner_of z.piece)) wires w m.numbers c in
    let listed : Contains (pieces_of wires) w.piece = wire_listed wires w c in
    let corner : IsIn w.piece (corner_of w.piece) = corner_in w.piece (piece_proper s (pieces_of wires) m.drawn w.piece listed) in
    record { first = n.first; numbered = n.numbered; same = net_both deck s n.first (corner_of w.piece) a n.same (piece_net deck s (pieces_of wires) m.drawn w.piece listed (corner_of w.piece) a corner i) }

pub net_in_some : (deck : Deck) (s : List Shape) (wires : List Wire) (firsts : List Piece) → AreWires deck s wires firsts → (k : Conductor) (x y : ℤ) (n : ℕ) → net_in wires k x y ≡ Some n → IsFound deck s (firsts_of firsts) k x y n
net_in_some deck s wires firsts m k x y n e = by (find (at_cell k x y) wires) refl e
  where
    by : (o : Option Wire) → find (at_cell k x y) wires ≡ o → option_map (λ (w : Wire). w.net) o ≡ Some n → IsFound deck s (firsts_of firsts) k x y n
    by None f g = absurd (cc g)
    by (Some w) f g =
        let p = found (at_cell k x y) wires w f in
        let t = and_parts (place w.piece.kind == place k) (holding (rect_of w.piece) x y) p.passes in
        let kinds : w.piece.kind ≡ k = same_kind_place w.piece.kind k (eq_of_eqb (place w.piece.kind) (place k) t.0) in
        let inside : IsIn w.piece (site_at k x y) = record { kind = kinds; holds = (holds_decides (rect_of w.piece) x y).0 t.1 } in
        let same : w.net ≡ n = some_same w.net n g in
        record {
          conducts = inside_conducts s (pieces_of wires) m.drawn w.piece (wire_listed wires w p.listed) (site_at k x y) inside;
          net = subst (λ z. IsInNet deck s (firsts_of firsts) z (site_at k x y)) same (wire_net deck s wires firsts m w p.listed (site_at k x y) inside);
        }

pub net_in_none : (deck : Deck) (s : List Shape) (wires : List Wire) (firsts : List Piece) → AreWires deck s wires firsts → (k : Conductor) (x y : ℤ) → net_in wires k x y ≡ None → Conducts s (site_at k x y) → ⊥
net_in_none deck s wires firsts m k x y e c = by (find (at_cell k x y) wires) refl e
  where
    by : (o : Option Wire) → find (at_cell k x y) wires ≡ o → option_map (λ (w : Wire). w.net) o ≡ None → ⊥
    by (Some w) f g = absurd (cc g)
    by None f g =
        let h = held_cell s (pieces_of wires) m.drawn (site_at k x y) c in
        let i = in_map (λ (z : Wire). z.piece) wires h.piece h.listed in
        let kinds : i.of.piece.kind ≡ k = subst (λ (p : Piece). p.kind ≡ k) (sym i.is) h.inside.kind in
        let holds : Holds (rect_of i.of.piece) x y = subst (λ (p : Piece). Holds (rect_of p) x y) (sym i.is) h.inside.holds in
        found_none (at_cell k x y) wires f i.of i.listed (and_true (place i.of.piece.kind == place k) (holding (rect_of i.of.piece) x y) (eq-eqb (place i.of.piece.kind) (place k) (same_place i.of.piece.kind k kinds)) ((holds_decides (rect_of i.of.piece) x y).1 holds))

abbrev cell : ℤ → ℤ → Cell
cell x y = record { x = x; y = y }

-- a conductor cell with its net
record Hit (deck : Deck) (s : List Shape) (firsts : List Site) (P : Site → Type 0) (n : ℕ) : Type 0 where
  pub site : Site
  pub is : P site
  pub net : IsInNet deck s firsts n site

-- an answer is the net of a site of the set, or there is none
record Answers (deck : Deck) (s : List Shape) (firsts : List Site) (P : Site → Type 0) (o : Option ℕ) : Type 0 where
  pub some : (n : ℕ) → o ≡ Some n → Hit deck s firsts P n
  pub none : o ≡ None → (a : Site) → P a → ⊥

site_of : (a : Site) (j : Conductor) (z : Cell) → a.kind ≡ j → a.cell ≡ z → a ≡ record { kind = j; cell = z }
site_of a j z e f = subst (λ k. a ≡ record { kind = k; cell = z }) e (subst (λ c. a ≡ record { kind = a.kind; cell = c }) f refl)

answers_kind : (deck : Deck) (s : List Shape) (wires : List Wire) (firsts : List Piece) → AreWires deck s wires firsts → (k : Conductor) (layer : Layer) (x y : ℤ) → layer_of k ≡ layer → ((a : Site) → IsConductorAt s layer (cell x y) a → a.kind ≡ k) → Answers deck s (firsts_of firsts) (IsConductorAt s layer (cell x y)) (net_in wires k x y)
answers_kind deck s wires firsts m k layer x y on only = record {
  some = λ n e. let f = net_in_some deck s wires firsts m k x y n e in record { site = site_at k x y; is = record { cell = refl; on_layer = on; conducts = f.conducts }; net = f.net };
  none = λ e a c. net_in_none deck s wires firsts m k x y e (subst (Conducts s) (site_is a k (cell x y) (only a c) c.cell) c.conducts);
}
  where
    site_is : (a : Site) (j : Conductor) (z : Cell) → a.kind ≡ j → a.cell ≡ z → a ≡ record { kind = j; cell = z }
    site_is a j z e f = site_of a j z e f

answers_never : (deck : Deck) (s : List Shape) (firsts : List Site) (P : Site → Type 0) → ((a : Site) → P a → ⊥) → Answers deck s firsts P None
answers_never deck s firsts P no' = record { some = λ n e. absurd (cc e); none = λ e a p. no' a p }

kind_on_poly : (k : Conductor) → layer_of k ≡ PolyLayer → k ≡ Poly
kind_on_poly PDiffusion e = absurd (cc e)
kind_on_poly NDiffusion e = absurd (cc e)
kind_on_poly Poly e = refl
kind_on_poly Metal1 e = absurd (cc e)
kind_on_poly Metal2 e = absurd (cc e)

kind_on_metal1 : (k : Conductor) → layer_of k ≡ Metal1Layer → k ≡ Metal1
kind_on_metal1 PDiffusion e = absurd (cc e)
kind_on_metal1 NDiffusion e = absurd (cc e)
kind_on_metal1 Poly e = absurd (cc e)
kind_on_metal1 Metal1 e = refl
kind_on_metal1 Metal2 e = absurd (cc e)

kind_on_metal2 : (k : Conductor) → layer_of k ≡ Metal2Layer → k ≡ Metal2
kind_on_metal2 PDiffusion e = absurd (cc e)
kind_on_metal2 NDiffusion e = absurd (cc e)
kind_on_metal2 Poly e = absurd (cc e)
kind_on_metal2 Metal1 e = absurd (cc e)
kind_on_metal2 Metal2 e = refl

kind_on_active : (k : Conductor) → layer_of k ≡ Active → (k ≡ PDiffusion) ⊎ (k ≡ NDiffusion)
kind_on_active PDiffusion e = inl refl
kind_on_active NDiffusion e = inr refl
kind_on_active Poly e = absurd (cc e)
kind_on_active Metal1 e = absurd (cc e)
kind_on_active Metal2 e = absurd (cc e)

no_kind : (k : Conductor) (layer : Layer) → is_conductor layer ≡ false → layer_of k ≡ layer → ⊥
no_kind PDiffusion layer w e = let f : is_conductor Active ≡ false = subst (λ l. is_conductor l ≡ false) (sym e) w in cc f
no_kind NDiffusion layer w e = let f : is_conductor Active ≡ false = subst (λ l. is_conductor l ≡ false) (sym e) w in cc f
no_kind Poly layer w e = let f : is_conductor PolyLayer ≡ false = subst (λ l. is_conductor l ≡ false) (sym e) w in cc f
no_kind Metal1 layer w e = let f : is_conductor Metal1Layer ≡ false = subst (λ l. is_conductor l ≡ false) (sym e) w in cc f
no_kind Metal2 layer w e = let f : is_conductor Metal2Layer ≡ false = subst (λ l. is_conductor l ≡ false) (sym e) w in cc f

answers_active : (deck : Deck) (s : List Shape) (wires : List Wire) (firsts : List Piece) → AreWires deck s wires firsts → (x y : ℤ) → Answers deck s (firsts_of firsts) (IsConductorAt s Active (cell x y)) (or_else (net_in wires PDiffusion x y) (net_in wires NDiffusion x y))
answers_active deck s wires firsts m x y = by (net_in wires PDiffusion x y) refl
  where
    by : (o : Option ℕ) → net_in wires PDiffusion x y ≡ o → Answers deck s (firsts_of firsts) (IsConductorAt s Active (cell x y)) (or_else o (net_in wires NDiffusion x y))
    by (Some k) e = record {
      some = λ n f. let g = net_in_some deck s wires firsts m PDiffusion x y n (e ∙ f) in record { site = site_at PDiffusion x y; is = record { cell = refl; on_layer = refl; conducts = g.conducts }; net = g.net };
      none = λ f a p. absurd (cc f);
    }
    by None e = record {
      some = λ n f. let g = net_in_some deck s wires firsts m NDiffusion x y n f in record { site = site_at NDiffusion x y; is = record { cell = refl; on_layer = refl; conducts = g.conducts }; net = g.net };
      none = λ f a p. elim (kind_on_active a.kind p.on_layer) [
        | inl q ↦ net_in_none deck s wires firsts m PDiffusion x y e (subst (Conducts s) (site_of a PDiffusion (cell x y) q p.cell) p.conducts)
        | inr q ↦ net_in_none deck s wires firsts m NDiffusion x y f (subst (Conducts s) (site_of a NDiffusion (cell x y) q p.cell) p.conducts)
      ];
    }

answers_layer : (deck : Deck) (s : List Shape) (wires : List Wire) (firsts : List Piece) → AreWires deck s wires firsts → (layer : Layer) (x y : ℤ) → Answers deck s (firsts_of firsts) (IsConductorAt s layer (cell x y)) (net_on wires layer x y)
answers_layer deck s wires firsts m Active x y = answers_active deck s wires firsts m x y
answers_layer deck s wires firsts m PolyLayer x y = answers_kind deck s wires firsts m Poly PolyLayer x y refl (λ a c. kind_on_poly a.kind c.on_layer)
answers_layer deck s wires firsts m Metal1Layer x y = answers_kind deck s wires firsts m Metal1 Metal1Layer x y refl (λ a c. kind_on_metal1 a.kind c.on_layer)
answers_layer deck s wires firsts m Metal2Layer x y = answers_kind deck s wires firsts m Metal2 Metal2Layer x y refl (λ a c. kind_on_metal2 a.kind c.on_layer)
answers_layer deck s wires firsts m Well x y = answers_never deck s (firsts_of firsts) (IsConductorAt s Well (cell x y)) (λ a c. no_kind a.kind Well refl c.on_layer)
answers_layer deck s wires firsts m PSelect x y = answers_never deck s (firsts_of firsts) (IsConductorAt s PSelect (cell x y)) (λ a c. no_kind a.kind PSelect refl c.on_layer)
answers_layer deck s wires firsts m NSelect x y = answers_never deck s (firsts_of firsts) (IsConductorAt s NSelect (cell x y)) (λ a c. no_kind a.kind NSelect refl c.on_layer)
answers_layer deck s wires firsts m Contact x y = answers_never deck s (firsts_of firsts) (IsConductorAt s Contact (cell x y)) (λ a c. no_kind a.kind Contact refl c.on_layer)
answers_layer deck s wires firsts m Via x y = answers_never deck s (firsts_of firsts) (IsConductorAt s Via (cell x y)) (λ a c. no_kind a.kind Via refl c.on_layer)

-- the first of some cells
answers_first : (deck : Deck) (s : List Shape) (firsts : List Site) (layer : Layer) (c : Cell) (cs : List Cell) (o p : Option ℕ) → Answers deck s firsts (IsConductorAt s layer c) o → Answers deck s firsts (IsFirstConductor s layer cs) p → Answers deck s firsts (IsFirstConductor s layer (c ∷ cs)) (or_else o p)
answers_first deck s firsts layer c cs (Some k) p here rest = record {
  some = λ n e. let h = here.some n e in record { site = h.site; is = inl h.is; net = h.net };
  none = λ e a q. absurd (cc e);
}
answers_first deck s firsts layer c cs None p here rest = record {
  some = λ n e. let h = rest.some n e in record { site = h.site; is = inr (here.none refl, h.is); net = h.net };
  none = λ e a q. elim q [ inl at ↦ here.none refl a at | inr later ↦ rest.none e a later.1 ];
}

or_both : (a b c d : Option ℕ) → or_else a (or_else b (or_else c (or_else d None))) ≡ or_else (or_else a b) (or_else c d)
or_both (Some n) b c d = refl
or_both None (Some n) c d = refl
or_both None None (Some n) d = refl
or_both None None None (Some n) = refl
or_both None None None None = refl

answers_round : (deck : Deck) (s : List Shape) (wires : List Wire) (firsts : List Piece) → AreWires deck s wires firsts → (layer : Layer) (x y : ℤ) → Answers deck s (firsts_of firsts) (IsFirstConductor s layer (cells_round x y)) (net_round wires layer x y)
answers_round deck s wires firsts m layer x y =
    let l : ℤ = x -ℤ pos 1 in
    let b : ℤ = y -ℤ pos 1 in
    let fs : List Site = firsts_of firsts in
    let last : Answers deck s (firsts_of firsts) (IsFirstConductor s layer (cell (x -ℤ pos 1) (y -ℤ pos 1) ∷ [])) (or_else (net_on wires layer (x -ℤ pos 1) (y -ℤ pos 1)) None) = answers_first deck s (firsts_of firsts) layer (cell (x -ℤ pos 1) (y -ℤ pos 1)) [] (net_on wires layer (x -ℤ pos 1) (y -ℤ pos 1)) None (answers_layer deck s wires firsts m layer (x -ℤ pos 1) (y -ℤ pos 1)) (answers_never deck s (firsts_of firsts) (IsFirstConductor s layer []) (λ a p. absurd p)) in
    let third = answers_first deck s (firsts_of firsts) layer (cell x (y -ℤ pos 1)) (cell (x -ℤ pos 1) (y -ℤ pos 1) ∷ []) (net_on wires layer x (y -ℤ pos 1)) (or_else (net_on wires layer (x -ℤ pos 1) (y -ℤ pos 1)) None) (answers_layer deck s wires firsts m layer x (y -ℤ pos 1)) last in
    let second = answers_first deck s (firsts_of firsts) layer (cell (x -ℤ pos 1) y) (cell x (y -ℤ pos 1) ∷ cell (x -ℤ pos 1) (y -ℤ pos 1) ∷ []) (net_on wires layer (x -ℤ pos 1) y) (or_else (net_on wires layer x (y -ℤ pos 1)) (or_else (net_on wires layer (x -ℤ pos 1) (y -ℤ pos 1)) None)) (answers_layer deck s wires firsts m layer (x -ℤ pos 1) y) third in
    let whole = answers_first deck s (firsts_of firsts) layer (cell x y) (cell (x -ℤ pos 1) y ∷ cell x (y -ℤ pos 1) ∷ cell (x -ℤ pos 1) (y -ℤ pos 1) ∷ []) (net_on wires layer x y) (or_else (net_on wires layer (x -ℤ pos 1) y) (or_else (net_on wires layer x (y -ℤ pos 1)) (or_else (net_on wires layer (x -ℤ pos 1) (y -ℤ pos 1)) None))) (answers_layer deck s wires firsts m layer x y) second in
    subst (Answers deck s (firsts_of firsts) (IsFirstConductor s layer (cells_round x y))) (or_both (net_on wires layer x y) (net_on wires layer (x -ℤ pos 1) y) (net_on wires layer x (y -ℤ pos 1)) (net_on wires layer (x -ℤ pos 1) (y -ℤ pos 1))) whole

-- ---- all labels
none_or : {X : Type 0} (o : Option X) → is_some o ≡ false → o ≡ None
none_or None e = refl
none_or (Some x) e = absurd (cc e)

pub held_zip : (deck : Deck) (s : List Shape) (wires : List Wire) (firsts : List Piece) → AreWires deck s wires firsts → (labels : List Label) → ((l : Label) → Contains labels l → is_lost wires l ≡ true → ⊥) → AreNetLabels deck s (firsts_of firsts) labels (net_labels_in wires labels)
held_zip deck s wires firsts m [] ok = tt
held_zip deck s wires firsts m (l ∷ ls) ok = by (is_conductor l.layer) refl (net_of_label wires l) refl (held_zip deck s wires firsts m ls (λ k c e. ok k (contains_there l ls k c) e))
  where
    by : (w : Bool) → is_conductor l.layer ≡ w → (o : Option ℕ) → net_of_label wires l ≡ o → AreNetLabels deck s (firsts_of firsts) ls (net_labels_in wires ls) → AllZip (IsNetLabel deck s (firsts_of firsts)) (cond w (l ∷ conductor_labels ls) (conductor_labels ls)) (cons_option (if w then option_map (λ n. record { name = l.name; net = n }) o else None) (net_labels_in wires ls))
    by false e o f rest = rest
    by true e None f rest = absurd (ok l (contains_here l ls) (rw e (rw f refl)))
    by true e (Some n) f rest =
        let h = (answers_round deck s wires firsts m l.layer l.x l.y).some n f in
        (record { name = refl; site = h.site; belongs = h.is; net = h.net }, rest)

-- the first label without a net, and those before it
record Before (wires : List Wire) (labels : List Label) (l : Label) : Type 0 where
  pub before : List Label
  pub after : List Label
  pub split : conductor_labels labels ≡ before ++ l ∷ after
  pub fine : (k : Label) → Contains before k → is_some (net_of_label wires k) ≡ true

lost_parts : (w t : Bool) → (w && not t) ≡ true → (w ≡ true) × (t ≡ false)
lost_parts true true e = absurd (cc e)
lost_parts true false e = (refl, refl)
lost_parts false t e = absurd (cc e)

before_lost : (wires : List Wire) (labels : List Label) (l : Label) → find (is_lost wires) labels ≡ Some l → Before wires labels l
before_lost wires [] l e = absurd cc
before_lost wires (k ∷ ks) l e = by (is_conductor k.layer) refl (is_some (net_of_label wires k)) refl e (λ f. before_lost wires ks l f)
  where
    by : (w : Bool) → is_conductor k.layer ≡ w → (t : Bool) → is_some (net_of_label wires k) ≡ t → cond (w && not t) (Some k) (find (is_lost wires) ks) ≡ Some l → (find (is_lost wires) ks ≡ Some l → Before wires ks l) → Before wires (k ∷ ks) l
    by false e' t f g rest = let r = rest g in record { before = r.before; after = r.after; split = rw e' r.split; fine = r.fine }
    by true e' true f g rest = let r = rest g in record {
      before = k ∷ r.before;
      after = r.after;
      split = rw e' (ap (λ zs. k ∷ zs) r.split);
      fine = λ z c. elim (contains_cons k r.before z c) [ inl same ↦ subst (λ y. is_some (net_of_label wires y) ≡ true) same f | inr later ↦ r.fine z later ];
    }
    by true e' false f g rest = record { before = []; after = conductor_labels ks; split = rw e' (ap (λ z. z ∷ conductor_labels ks) (some_same k l g)); fine = λ z c. absurd (contains_none z c) }

some_is : (o : Option ℕ) → is_some o ≡ true → (n : ℕ) × (o ≡ Some n)
some_is (Some n) e = (n, refl)
some_is None e = absurd (cc e)

pub stray_is : (deck : Deck) (s : List Shape) (wires : List Wire) (firsts : List Piece) → AreWires deck s wires firsts → (labels : List Label) (l : Label) → find (is_lost wires) labels ≡ Some l → IsFirstStray s labels l.name
stray_is deck s wires firsts m labels l e =
    let p = found (is_lost wires) labels l e in
    let t = lost_parts (is_conductor l.layer) (is_some (net_of_label wires l)) p.passes in
    let b = before_lost wires labels l e in
    record {
      before = b.before;
      label = l;
      after = b.after;
      split = b.split;
      fine = λ k c stray. let h = some_is (net_of_label wires k) (b.fine k c) in let g = (answers_round deck s wires firsts m k.layer k.x k.y).some h.0 h.1 in stray g.site g.is;
      stray = (answers_round deck s wires firsts m l.layer l.x l.y).none (none_or (net_of_label wires l) t.1);
      named = refl;
    }

pub labels_held : (deck : Deck) (s : List Shape) (wires : List Wire) (firsts : List Piece) → AreWires deck s wires firsts → (labels : List Label) → find (is_lost wires) labels ≡ None → AreNetLabels deck s (firsts_of firsts) labels (net_labels_in wires labels)
labels_held deck s wires firsts m labels e = held_zip deck s wires firsts m labels (λ l c t. found_none (is_lost wires) labels e l c t)

pub filter_map_push : {X Y : Type 0} (h : X → Option Y) (xs : List X) (x : X) → filter_map h (xs ++ x ∷ []) ≡ filter_map h xs ++ option_to_list (h x)
filter_map_push {X} {Y} h [] x = one (h x)
  where
    one : (o : Option Y) → cons_option o [] ≡ option_to_list o
    one None = refl
    one (Some y) = refl
filter_map_push {X} {Y} h (z ∷ zs) x = by (h z) (filter_map_push h zs x)
  where
    by : (o : Option Y) → filter_map h (zs ++ x ∷ []) ≡ filter_map h zs ++ option_to_list (h x) → cons_option o (filter_map h (zs ++ x ∷ [])) ≡ cons_option o (filter_map h zs) ++ option_to_list (h x)
    by None e = e
    by (Some y) e = ap (λ ys. y ∷ ys) e
