-- Drawings of rows are bases of taps.
use Rattle.std.proofs.Common.{◌≡◌, ℕ, zero, suc, ◌+◌, ◌*◌, ◌-◌, ◌<◌, ◌≤◌, pos, ◌-ℤ◌, List, [], ◌∷◌, length, refl, sym, subst, arith}
use Rattle.std.proofs.lemmas.Int.{ints}
use Rattle.cell_num.specs.declared.net.Pins.{Pins}
use Rattle.cell_num.specs.Pins.{ArePins}
use Rattle.cell_num.proofs.Lists.{all_imply}
use Rattle.box_geom.specs.declared.layer.Layer.{Layer}
use Rattle.box_geom.specs.declared.layer.Layer.TheVariants.{Well, Active, PSelect, NSelect, Poly, Contact, Metal1, Via, Metal2}
use Rattle.box_geom.specs.declared.shape.Shape.{Shape}
use Rattle.row_model.specs.declared.column.Column.{Column}
use Rattle.row_place.specs.declared.placement.Placement.{Placement}
use Rattle.row_place.specs.Places.{IsPlacement}
use Rattle.row_place.specs.Units.{units_of}
use Rattle.channel_route.specs.declared.routing.Routing.{Routing}
use Rattle.channel_route.specs.Wiring.{IsWiring}
use Rattle.row_compact.specs.Allowed.{AreAllowed, stretches_of}
use Rattle.row_compact.specs.Solution.{x_of}
use Rattle.cell_draw.specs.declared.drawing.Drawing.{Drawing}
use Rattle.cell_draw.specs.declared.layout.Frame.{Frame}
use Rattle.cell_draw.specs.Drawings.{drawn_of}
use Rattle.cell_draw.specs.Framed.{end_of, IsInFrame, IsFramed}
use Rattle.cell_draw.specs.Sound.{AreLines, IsSoundRow}
use Rattle.cell_draw.proofs.MetalNamed.{gnd_named, vdd_named}
use Rattle.well_tap.specs.Base.{first_line, last_line, IsBetweenTaps, IsBase}
use Rattle.well_tap.specs.Bodied.{AreRails}
use Rattle.well_tap.specs.Measures.{TAP_SPACE}

-- what is in the frame is between taps
other_end : (layer : Layer) → (layer ≡ Metal1 → ⊥) → end_of layer ≡ 20
other_end Well other = refl
other_end Active other = refl
other_end PSelect other = refl
other_end NSelect other = refl
other_end Poly other = refl
other_end Contact other = refl
other_end Metal1 other = absurd (other refl)
other_end Via other = refl
other_end Metal2 other = refl

between : (f : Frame) (s : Shape) → IsInFrame f s → IsBetweenTaps f s
between f s i = record {
  no_well = i.no_well;
  no_p_select = i.no_p_select;
  no_n_select = i.no_n_select;
  clear = λ other.
      let e = other_end s.layer other in
      let k = i.clear in
      record { low = omega (arith, ints, e, k.low); high = omega (arith, ints, e, k.high) };
}

pub framed_base : (f : Frame) (xs : List ℕ) (d : Drawing) → IsFramed f xs d → first_line xs + TAP_SPACE ≤ last_line xs → IsBase xs d
framed_base f xs d i apart = record {
  frame = f;
  stacked = record { n_edge = i.n_edge; p_edge = i.p_edge; n_row = i.n_row; p_row = i.p_row };
  spread = record { left = i.first; apart = apart; right = i.last };
  height = i.height;
  begins = i.frame;
  others = all_imply (IsInFrame f) (IsBetweenTaps f) i.frame.others (between f) i.others;
}

-- ---- lines
some_unit : (row : List Column) → 0 < length row → 1 ≤ length (units_of row)
some_unit [] some = absurd (omega (arith, some))
some_unit (column ∷ row) some = omega arith

pub spread_rows : (p : Placement) (xs : List ℕ) → IsPlacement p → 0 < length p.row → AreLines p xs → first_line xs + TAP_SPACE ≤ last_line xs
spread_rows p xs is some l =
    let all = rise (2 * length p.units) (omega arith) in
    let lines = l.lines in
    let at : length xs - 1 ≡ 2 * length p.units = omega (arith, lines) in
    subst (λ k. x_of xs 0 + TAP_SPACE ≤ x_of xs k) (sym at) (omega (arith, all, units))
  where
    units : 1 ≤ length p.units
    units = subst (λ us. 1 ≤ length us) (sym is.units) (some_unit p.row some)

    rise : (d : ℕ) → d ≤ 2 * length p.units → x_of xs 0 + 8 * d ≤ x_of xs d
    rise zero most = omega arith
    rise (suc d) most =
        let before = rise d (omega (arith, most)) in
        let next = l.next d (omega (arith, most)) in
        let e : d + 1 ≡ suc d = omega arith in
        subst (λ k. x_of xs 0 + 8 * suc d ≤ x_of xs k) e (omega (arith, before, next))

pub spread_wired : (p : Placement) (pins : Pins) (r : Routing) (xs : List ℕ) → IsPlacement p → 0 < length p.row → AreAllowed p pins (stretches_of r.trunks) xs → first_line xs + TAP_SPACE ≤ last_line xs
spread_wired p pins r xs is some a = spread_rows p xs is some (record { lines = a.lines; first = a.first; next = a.next })

-- ---- rails
pub rails_drawn : (names : List (List ℕ)) (pins : Pins) (p : Placement) (r : Routing) (xs : List ℕ) (height : ℕ) → IsPlacement p → IsSoundRow names pins p.row → IsWiring p pins r → AreAllowed p pins (stretches_of r.trunks) xs → ArePins (length names) pins → AreRails names pins (drawn_of names pins p r xs height)
rails_drawn names pins p r xs height is row wiring allowed are = record {
  gnd = gnd_named names pins p r xs height (record { placed = is; row = row; wiring = wiring; allowed = allowed; are = are }) (pos 0) (pos 0) (omega (arith, ints));
  vdd = vdd_named names pins p r xs height (record { placed = is; row = row; wiring = wiring; allowed = allowed; are = are }) (pos 0) (pos (drawn_of names pins p r xs height).height -ℤ pos 1) (omega (arith, ints));
}
