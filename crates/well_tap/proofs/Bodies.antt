-- With taps each device's body is the rail of its row.
use Rattle.std.proofs.Common.{ℕ, ℤ, pos, ◌-ℤ◌, List, ◌++◌, inl, inr, refl, arith}
use Rattle.std.proofs.lemmas.Int.{ints}
use Rattle.cell_num.proofs.Lists.{contains_here}
use Rattle.box_geom.specs.Layers.{rects_on}
use Rattle.box_geom.specs.Rectangle.{Rectangle, Holds}
use Rattle.box_geom.specs.declared.layer.Layer.TheVariants.{Well}
use Rattle.box_geom.specs.Chains.{Linked}
use Rattle.box_geom.specs.declared.shape.Label.{Label}
use Rattle.box_geom.specs.declared.shape.Shape.{Shape}
use Rattle.box_geom.specs.declared.shape.Shapes.{Shapes}
use Rattle.scmos_rules.specs.Layout.{On}
use Rattle.cell_num.specs.declared.finger.Row.{Row}
use Rattle.cell_num.specs.declared.finger.Row.TheVariants.{P, N}
use Rattle.cell_num.specs.declared.net.Pins.{Pins}
use Rattle.scmos_rules.specs.declared.rules.Deck.TheVariants.{Plain, Taps}
use Rattle.number_trees.proofs.Chains.{one, joined}
use Rattle.scmos_rules.proofs.Chains.{inside}
use Rattle.net_extract.specs.Bodies.{IsTapFor}
use Rattle.net_extract.specs.Devices.{InRow}
use Rattle.net_extract.specs.Labels.{IsNamed}
use Rattle.net_extract.specs.Nets.{Site, site_at, Are, Tied, by_well, by_substrate, tied, Wired, SameNet}
use Rattle.net_extract.specs.declared.piece.Conductor.TheVariants.{PDiffusion, NDiffusion, Metal1}
use Rattle.net_extract.proofs.PolyClasses.{class_back}
use Rattle.net_extract.proofs.Wiring.{net_both}
use Rattle.cell_draw.specs.Named.{name_of}
use Rattle.cell_draw.specs.Shapes.{gnd_rail, vdd_rail}
use Rattle.well_tap.specs.Bodied.{HasBody, rail_of, AreBodied}
use Rattle.well_tap.proofs.Gained.{gnd_net, vdd_net, on_gnd, on_vdd, low_are, high_are, gains}
use Rattle.well_tap.proofs.TapCells.{IsLow, IsHigh}
use Rattle.well_tap.proofs.TapLabels.{with_labels, named_tap}
use Rattle.well_tap.proofs.Covered.{new_well, p_select_there, n_select_there}
use Rattle.well_tap.proofs.Tapping.{Tapping, base, whole, taps, height, high_well, AtEither, at_first}

-- two taps for one device are of one net
both_tied : (s : List Shape) (row : Row) (box : Rectangle) (a b : Site) → IsTapFor row s box a → IsTapFor row s box b → Tied s a b
both_tied s P box a b x y = by_well x.kind y.kind x.select y.select (joined (Linked (On Well s)) a.cell (record { x = box.x1; y = box.y1 }) b.cell (class_back (On Well s) box.x1 box.y1 a.cell.x a.cell.y x.below) y.below)
both_tied s N box a b x y = by_substrate x.kind y.kind x.select y.select

taps_net : (s : List Shape) (row : Row) (box : Rectangle) (a b : Site) → IsTapFor row s box a → IsTapFor row s box b → SameNet Taps s a b
taps_net s row box a b x y = record { conducts = x.conducts; chain = one (Wired Taps s) a b (record { from = x.conducts; to = y.conducts; meets = tied refl (both_tied s row box a b x y) }) }

has_body : (name : List ℕ) (shapes : Shapes) (row : Row) (box : Rectangle) (tap : Site) → IsTapFor row shapes.rects box tap → IsNamed Taps shapes name tap → HasBody name shapes row box
has_body name shapes row box tap is n = record {
  tap = tap;
  is = is;
  named = λ a other. record { label = n.label; listed = n.listed; reads = n.reads; at = n.at; belongs = n.belongs; same = net_both Taps shapes.rects n.at tap a n.same (taps_net shapes.rects row box tap a is other) };
}

-- named at a corner, a rail is named all along
along_gnd : (g : Tapping) (labels : List Label) (name : List ℕ) (x y : ℤ) → Holds (gnd_rail g.frame).rect x y → IsNamed Plain (with_labels (base g) labels) name (site_at Metal1 (pos 0) (pos 0)) → IsNamed Plain (with_labels (base g) labels) name (site_at Metal1 x y)
along_gnd g labels name x y h n = record { label = n.label; listed = n.listed; reads = n.reads; at = n.at; belongs = n.belongs; same = net_both Plain (base g) n.at (site_at Metal1 (pos 0) (pos 0)) (site_at Metal1 x y) n.same (gnd_net g (pos 0) (pos 0) x y (let w = g.spread in omega (arith, ints, w.left, w.apart, w.right)) h) }

along_vdd : (g : Tapping) (labels : List Label) (name : List ℕ) (x y : ℤ) → Holds (vdd_rail g.frame).rect x y → IsNamed Plain (with_labels (base g) labels) name (site_at Metal1 (pos 0) (height g -ℤ pos 1)) → IsNamed Plain (with_labels (base g) labels) name (site_at Metal1 x y)
along_vdd g labels name x y h n = record { label = n.label; listed = n.listed; reads = n.reads; at = n.at; belongs = n.belongs; same = net_both Plain (base g) n.at (site_at Metal1 (pos 0) (height g -ℤ pos 1)) (site_at Metal1 x y) n.same (vdd_net g (pos 0) (height g -ℤ pos 1) x y (let w = g.spread in omega (arith, ints, w.left, w.apart, w.right)) h) }

pub bodied : (g : Tapping) (labels : List Label) (names : List (List ℕ)) (pins : Pins)
    → IsNamed Plain (with_labels (base g) labels) (name_of names pins.gnd) (site_at Metal1 (pos 0) (pos 0))
    → IsNamed Plain (with_labels (base g) labels) (name_of names pins.vdd) (site_at Metal1 (pos 0) (height g -ℤ pos 1))
    → AreBodied names pins (with_labels (whole g) labels)
bodied g labels names pins gnd vdd = record { each = λ box d. by d.row box (λ x y i. d.is.of_row x y i) (let p = d.is.class.proper in omega (arith, ints)) }
  where
    low : AtEither g 8 5 (pos g.first) (pos 8)
    low = at_first (omega (arith, ints))

    high : AtEither g g.high 5 (pos g.first) (pos g.high)
    high = at_first (omega (arith, ints))

    low_row : IsLow (pos 8)
    low_row = record { least = omega (arith, ints); most = omega (arith, ints) }

    high_row : IsHigh (height g) (pos g.high)
    high_row = let e = g.top in record { least = omega (arith, ints, e); most = omega (arith, ints, e) }

    low_conducts : Are (whole g) NDiffusion (pos g.first) (pos 8)
    low_conducts = low_are g (pos g.first) (pos 8) low

    high_conducts : Are (whole g) PDiffusion (pos g.first) (pos g.high)
    high_conducts = high_are g (pos g.first) (pos g.high) high

    by : (row : Row) (box : Rectangle) → ((x y : ℤ) → Holds box x y → InRow row (whole g) x y) → Holds box box.x1 box.y1 → HasBody (name_of names (rail_of pins row)) (with_labels (whole g) labels) row box
    by N box of_row corner = has_body (name_of names pins.gnd) (with_labels (whole g) labels) N box (site_at NDiffusion (pos g.first) (pos 8))
        (record { kind = refl; conducts = low_conducts; select = p_select_there g (pos g.first) (pos 8) (at_first (omega (arith, ints))); below = tt })
        (named_tap Taps (base g) (whole g) (height g) (gains g) labels (name_of names pins.gnd) NDiffusion (pos g.first) (pos 8) (inr refl) low_conducts (inl low_row)
        (along_gnd g labels (name_of names pins.gnd) (pos g.first) (pos 8) (on_gnd g (pos g.first) (pos 8) low_conducts.0.0 low_row) gnd))
    by P box of_row corner = has_body (name_of names pins.vdd) (with_labels (whole g) labels) P box (site_at PDiffusion (pos g.first) (pos g.high))
        (record {
          kind = refl;
          conducts = high_conducts;
          select = n_select_there g (pos g.first) (pos g.high) (at_first (omega (arith, ints)));
          below = inside (rects_on Well (whole g)) (high_well g.frame).rect (contains_here (high_well g.frame).rect (rects_on Well (g.others ++ taps g))) box.x1 box.y1 (pos g.first) (pos g.high) (new_well g box.x1 box.y1 (of_row box.x1 box.y1 corner)) (new_well g (pos g.first) (pos g.high) high_conducts.1);
        })
        (named_tap Taps (base g) (whole g) (height g) (gains g) labels (name_of names pins.vdd) PDiffusion (pos g.first) (pos g.high) (inl refl) high_conducts (inr high_row)
        (along_vdd g labels (name_of names pins.vdd) (pos g.first) (pos g.high) (on_vdd g (pos g.first) (pos g.high) high_conducts.0.0 high_row) vdd))
