-- The bodies that the code finds are those of the devices.
use Rattle.std.proofs.Common.{◌≡◌, ℕ, ◌+◌, ◌==◌, ℤ, Option, Some, None, List, [], ◌∷◌, ◌++◌, arith, add-one, refl, sym, subst, ap, ◌∙◌}
use Rattle.std.specs.List.{All, AllZip, Contains, find}
use Rattle.std.specs.Option.{option_map}
use Rattle.std.proofs.lemmas.Bool.{eq-eqb}
use Rattle.cell_num.proofs.Lists.{some_same, kept_from, contains_filter_map}
use Rattle.cell_num.specs.declared.finger.Row.{Row}
use Rattle.cell_num.specs.declared.finger.Row.TheVariants.{P, N}
use Rattle.box_geom.specs.Rectangle.{Rectangle, IsProper}
use Rattle.box_geom.specs.Chains.{Linked}
use Rattle.box_geom.specs.declared.shape.Shape.{Shape}
use Rattle.box_geom.specs.declared.layer.Layer.TheVariants.{Well}
use Rattle.scmos_rules.specs.Failing.{SameClass}
use Rattle.scmos_rules.specs.Layout.{On}
use Rattle.scmos_rules.specs.declared.rules.Deck.TheVariants.{Taps}
use Rattle.number_trees.proofs.Chains.{joined}
use Rattle.number_trees.proofs.Tying.{eq_of_eqb}
use Rattle.net_extract.specs.Bodies.{IsTapFor, HasTapIn, IsBody, AreBodies}
use Rattle.net_extract.specs.Connections.{AreWires, firsts_of, pieces_of}
use Rattle.net_extract.specs.Devices.{InRow}
use Rattle.net_extract.specs.Extraction.{IsDrawn}
use Rattle.net_extract.specs.GateNets.{AreWellNets, box_of, boxes_below}
use Rattle.net_extract.specs.Lookups.{net_in}
use Rattle.net_extract.specs.Nets.{Site, site_at}
use Rattle.net_extract.specs.Pieces.{rect_of}
use Rattle.net_extract.specs.Ties.{well_tie, tie_of, tap_of, taps_in, or_substrate, body_in, bodies_in}
use Rattle.net_extract.specs.declared.body.Tap.{Tap}
use Rattle.net_extract.specs.declared.connections.Wire.{Wire}
use Rattle.net_extract.specs.declared.netlist.Drawn.{Drawn}
use Rattle.net_extract.specs.declared.piece.Conductor.TheVariants.{PDiffusion, NDiffusion, Poly}
use Rattle.net_extract.specs.declared.piece.Piece.{Piece}
use Rattle.net_extract.proofs.Finding.{found, found_none}
use Rattle.net_extract.proofs.Labelling.{wire_listed, wire_net}
use Rattle.net_extract.proofs.Listing.{piece_proper}
use Rattle.net_extract.proofs.Numbering.{map_push}
use Rattle.net_extract.proofs.PolyClasses.{cell, class_back}
use Rattle.net_extract.proofs.Siding.{InWire, in_wire, corner_held}
use Rattle.net_extract.proofs.Ties.{InWell, IsTie, of_well, of_substrate, IsGround, tie_is, is_tie, in_well, of_well_net, one_class, class_one, of_kind, corner_class, corner_in_well, p_alone, n_alone}

bodies_step : (taps : List Tap) (wells wires : List Wire) (firsts : List Piece) (k : ℕ) → bodies_in taps wells (boxes_below wires firsts (k + 1)) ≡ bodies_in taps wells (boxes_below wires firsts k) ++ body_in taps wells (rect_of (box_of wires firsts k)) ∷ []
bodies_step taps wells wires firsts k = rw add-one (map_push (body_in taps wells) (boxes_below wires firsts k) (rect_of (box_of wires firsts k)))

pub bodies_more : (taps : List Tap) (wells wires : List Wire) (firsts : List Piece) (k : ℕ) (was made : List (Option ℕ)) (b : Option ℕ) → was ≡ bodies_in taps wells (boxes_below wires firsts k) → made ≡ was ++ b ∷ [] → b ≡ body_in taps wells (rect_of (box_of wires firsts k)) → made ≡ bodies_in taps wells (boxes_below wires firsts (k + 1))
bodies_more taps wells wires firsts k was made b e f g =
    f ∙ ap (λ z. z ++ b ∷ []) e ∙ ap (λ z. bodies_in taps wells (boxes_below wires firsts k) ++ z ∷ []) g
    ∙ sym (bodies_step taps wells wires firsts k)

-- ---- the tap of a wire
record IsTapOf (s : List Shape) (wells : List Wire) (w : Wire) (t n : ℕ) : Type 0 where
  pub tie : tie_of s wells w.piece ≡ Some t
  pub net : w.net ≡ n

tap_is : (s : List Shape) (wells : List Wire) (w : Wire) (a : Tap) → tap_of s wells w ≡ Some a → IsTapOf s wells w a.tie a.net
tap_is s wells w a e = by (tie_of s wells w.piece) refl e
  where
    by : (o : Option ℕ) → tie_of s wells w.piece ≡ o → option_map (λ t. record { tie = t; net = w.net }) o ≡ Some a → IsTapOf s wells w a.tie a.net
    by None g f = absurd (cc f)
    by (Some t) g f = let same = some_same (record { tie = t; net = w.net }) a f in record { tie = g ∙ ap (λ (z : Tap). Some z.tie) same; net = ap (λ (z : Tap). z.net) same }

abbrev made_tap : Wire → ℕ → Tap
made_tap w t = record { tie = t; net = w.net }

is_tap : (s : List Shape) (wells : List Wire) (w : Wire) (t : ℕ) → tie_of s wells w.piece ≡ Some t → tap_of s wells w ≡ Some (made_tap w t)
is_tap s wells w t e = ap (option_map (made_tap w)) e

-- ---- what is known of a drawing with taps
pub record IsBase (s : List Shape) (wires : List Wire) (firsts : List Piece) (wells : List Wire) (heads : List Piece) : Type 0 where
  pub nets : AreWires Taps s wires firsts
  pub ground : IsGround s (pieces_of wires) wells heads

abbrev tie_under : List Wire → Rectangle → ℕ
tie_under wells box = or_substrate (well_tie wells box.x1 box.y1)

p_under : (wells : List Wire) (box : Rectangle) (n : ℕ) → net_in wells Poly box.x1 box.y1 ≡ Some n → tie_under wells box ≡ n + 1
p_under wells box n e = ap (λ o. or_substrate (option_map (λ k. k + 1) o)) e

n_under : (s : List Shape) (wells : List Wire) (heads : List Piece) → AreWellNets s wells heads → (box : Rectangle) → (On Well s box.x1 box.y1 → ⊥) → tie_under wells box ≡ 0
n_under s wells heads z box out = by (net_in wells Poly box.x1 box.y1) refl
  where
    by : (o : Option ℕ) → net_in wells Poly box.x1 box.y1 ≡ o → tie_under wells box ≡ 0
    by None e = ap (λ o. or_substrate (option_map (λ k. k + 1) o)) e
    by (Some n) e = absurd (out (of_well_net s wells heads z box.x1 box.y1 n e))

-- a wire with the tie of a box has a tap for its device
tap_in : (s : List Shape) (wires : List Wire) (firsts : List Piece) (wells : List Wire) (heads : List Piece) → IsBase s wires firsts wells heads → (row : Row) (box : Rectangle) → InRow row s box.x1 box.y1 → (w : Wire) → Contains wires w → IsTie s wells w.piece (tie_under wells box) → HasTapIn s (firsts_of firsts) row box w.net
tap_in s wires firsts wells heads g P box on w c (of_well e a m h q) =
    let b : InWell wells box.x1 box.y1 = in_well s wells heads g.ground.classes box.x1 box.y1 on in
    let u = p_under wells box b.class b.is in
    let same : b.class ≡ m = omega (arith, u, q) in
    let listed = wire_listed wires w c in
    let here : SameClass (On Well s) box.x1 box.y1 w.piece.left w.piece.low = one_class s wells heads g.ground.classes box.x1 box.y1 w.piece.left w.piece.low b.class m b.is h same in
    let there : SameClass (On Well s) w.piece.left w.piece.low a.x a.y = corner_class s (pieces_of wires) g.ground.drawn w.piece listed e a.x a.y a.holds in
    record {
      tap = site_at PDiffusion a.x a.y;
      is = record { kind = refl; conducts = of_kind s (pieces_of wires) g.ground.drawn PDiffusion w.piece listed e a.x a.y a.holds; select = a.on; below = joined (Linked (On Well s)) (cell box.x1 box.y1) (cell w.piece.left w.piece.low) (cell a.x a.y) here there };
      net = wire_net Taps s wires firsts g.nets w c (site_at PDiffusion a.x a.y) (record { kind = e; holds = a.holds });
    }
tap_in s wires firsts wells heads g P box on w c (of_substrate e a q) =
    let b : InWell wells box.x1 box.y1 = in_well s wells heads g.ground.classes box.x1 box.y1 on in
    let u = p_under wells box b.class b.is in
    absurd (omega (arith, u, q))
tap_in s wires firsts wells heads g N box out w c (of_substrate e a q) =
    let listed = wire_listed wires w c in
    record {
      tap = site_at NDiffusion a.x a.y;
      is = record { kind = refl; conducts = of_kind s (pieces_of wires) g.ground.drawn NDiffusion w.piece listed e a.x a.y a.holds; select = a.on; below = tt };
      net = wire_net Taps s wires firsts g.nets w c (site_at NDiffusion a.x a.y) (record { kind = e; holds = a.holds });
    }
tap_in s wires firsts wells heads g N box out w c (of_well e a m h q) = let u = n_under s wells heads g.ground.classes box out in absurd (omega (arith, u, q))

-- the wire of a tap for a device has the tie of its box
tie_for : (s : List Shape) (wires : List Wire) (firsts : List Piece) (wells : List Wire) (heads : List Piece) → IsBase s wires firsts wells heads → (row : Row) (box : Rectangle) → InRow row s box.x1 box.y1 → (a : Site) → IsTapFor row s box a → (w : InWire wires a) → IsTie s wells w.wire.piece (tie_under wells box)
tie_for s wires firsts wells heads g P box on a t w =
    let e : w.wire.piece.kind ≡ PDiffusion = p_alone w.wire.piece.kind (w.inside.kind ∙ t.kind) in
    let listed = wire_listed wires w.wire w.listed in
    let b : InWell wells box.x1 box.y1 = in_well s wells heads g.ground.classes box.x1 box.y1 on in
    let d : InWell wells w.wire.piece.left w.wire.piece.low = corner_in_well s (pieces_of wires) wells heads g.ground w.wire.piece listed e in
    let there : SameClass (On Well s) a.cell.x a.cell.y w.wire.piece.left w.wire.piece.low = class_turned a.cell.x a.cell.y (corner_class s (pieces_of wires) g.ground.drawn w.wire.piece listed e a.cell.x a.cell.y w.inside.holds) in
    let all : SameClass (On Well s) box.x1 box.y1 w.wire.piece.left w.wire.piece.low = joined (Linked (On Well s)) (cell box.x1 box.y1) a.cell (cell w.wire.piece.left w.wire.piece.low) t.below there in
    let same : b.class ≡ d.class = class_one s wells heads g.ground.classes box.x1 box.y1 w.wire.piece.left w.wire.piece.low b.class d.class b.is d.is all in
    of_well e (record { x = a.cell.x; y = a.cell.y; holds = w.inside.holds; on = t.select }) d.class d.is (p_under wells box b.class b.is ∙ ap (λ k. k + 1) same)
  where
    class_turned : (x y : ℤ) → SameClass (On Well s) w.wire.piece.left w.wire.piece.low x y → SameClass (On Well s) x y w.wire.piece.left w.wire.piece.low
    class_turned x y c = class_back (On Well s) w.wire.piece.left w.wire.piece.low x y c
tie_for s wires firsts wells heads g N box out a t w =
    of_substrate (n_alone w.wire.piece.kind (w.inside.kind ∙ t.kind)) (record { x = a.cell.x; y = a.cell.y; holds = w.inside.holds; on = t.select }) (n_under s wells heads g.ground.classes box out)

body_is : (s : List Shape) (wires : List Wire) (firsts : List Piece) (wells : List Wire) (heads : List Piece) → IsBase s wires firsts wells heads → (row : Row) (box : Rectangle) → InRow row s box.x1 box.y1 → IsBody s (firsts_of firsts) row box (body_in (taps_in s wells wires) wells box)
body_is s wires firsts wells heads g row box on = by (find (λ (a : Tap). a.tie == tie_under wells box) (taps_in s wells wires)) refl
  where
    wire_proper : (w : Wire) → Contains wires w → IsProper (rect_of w.piece)
    wire_proper w c = piece_proper s (pieces_of wires) g.ground.drawn w.piece (wire_listed wires w c)

    by : (o : Option Tap) → find (λ (a : Tap). a.tie == tie_under wells box) (taps_in s wells wires) ≡ o → IsBody s (firsts_of firsts) row box (option_map (λ (a : Tap). a.net) o)
    by (Some a) e =
        let p = found (λ (z : Tap). z.tie == tie_under wells box) (taps_in s wells wires) a e in
        let f = kept_from (tap_of s wells) wires a p.listed in
        let t = tap_is s wells f.from a f.gives in
        let same : a.tie ≡ tie_under wells box = eq_of_eqb a.tie (tie_under wells box) p.passes in
        let is : IsTie s wells f.from.piece (tie_under wells box) = tie_is s wells f.from.piece (tie_under wells box) (wire_proper f.from f.there) g.ground.proper (t.tie ∙ ap (λ z. Some z) same) in
        subst (HasTapIn s (firsts_of firsts) row box) t.net (tap_in s wires firsts wells heads g row box on f.from f.there is)
    by None e = λ a t.
        let w : InWire wires a = in_wire Taps s wires firsts g.nets a t.conducts in
        let is = is_tie s wells w.wire.piece (tie_under wells box) (wire_proper w.wire w.listed) g.ground.proper (tie_for s wires firsts wells heads g row box on a t w) in
        found_none (λ (z : Tap). z.tie == tie_under wells box) (taps_in s wells wires) e (made_tap w.wire (tie_under wells box)) (contains_filter_map (tap_of s wells) wires w.wire (made_tap w.wire (tie_under wells box)) w.listed (is_tap s wells w.wire (tie_under wells box) is)) (eq-eqb (tie_under wells box) (tie_under wells box) refl)

pub bodies_are : (s : List Shape) (wires : List Wire) (firsts : List Piece) (wells : List Wire) (heads : List Piece) → IsBase s wires firsts wells heads → (boxes : List Rectangle) (devices : List Drawn) → AllZip (IsDrawn Taps s (firsts_of firsts)) boxes devices → AreBodies s (firsts_of firsts) boxes devices (bodies_in (taps_in s wells wires) wells boxes)
bodies_are s wires firsts wells heads g [] [] z = tt
bodies_are s wires firsts wells heads g [] (d ∷ ds) z = absurd z
bodies_are s wires firsts wells heads g (b ∷ bs) [] z = absurd z
bodies_are s wires firsts wells heads g (b ∷ bs) (d ∷ ds) z = (body_is s wires firsts wells heads g d.row b (z.0.is.of_row b.x1 b.y1 (corner_held b z.0.is.class.proper)), bodies_are s wires firsts wells heads g bs ds z.1)

pub bodies_from : (s rs : List Shape) (wires ws : List Wire) (firsts : List Piece) (wells us vs : List Wire) (heads : List Piece) (taps ts : List Tap) (boxes : List Rectangle) (devices : List Drawn) (bs : List (Option ℕ)) → rs ≡ s → ws ≡ wires → us ≡ wells → vs ≡ wells → taps ≡ taps_in rs us ws → ts ≡ taps → bs ≡ bodies_in ts vs boxes → All (λ (z : Shape). IsProper z.rect) s → AreWires Taps s wires firsts → AreWellNets s wells heads → AllZip (IsDrawn Taps s (firsts_of firsts)) boxes devices → AreBodies s (firsts_of firsts) boxes devices bs
bodies_from s rs wires ws firsts wells us vs heads taps ts boxes devices bs er ew eu ev made es e proper m nets drawn =
    let whole : AreBodies s (firsts_of firsts) boxes devices (bodies_in (taps_in s wells wires) wells boxes) = bodies_are s wires firsts wells heads (record { nets = m; ground = record { proper = proper; drawn = m.drawn; classes = nets } }) boxes devices drawn in
    let et : ts ≡ taps_in s wells wires = es ∙ made ∙ ap (λ q. taps_in q us ws) er ∙ ap (λ q. taps_in s q ws) eu ∙ ap (λ q. taps_in s wells q) ew in
    let eb : bs ≡ bodies_in (taps_in s wells wires) wells boxes = e ∙ ap (λ q. bodies_in q vs boxes) et ∙ ap (λ q. bodies_in (taps_in s wells wires) q boxes) ev in
    subst (AreBodies s (firsts_of firsts) boxes devices) (sym eb) whole
