-- What is said of a drawing without taps is said of the one that is written.
use Rattle.std.proofs.Common.{ℕ, ◌≡◌, ◌<◌, ◌≤◌, List, All, Contains, length, refl, subst, sym, arith}
use Rattle.cell_num.specs.declared.net.Pins.{Pins}
use Rattle.cell_num.specs.Pins.{ArePins}
use Rattle.box_geom.specs.declared.shape.Label.{Label}
use Rattle.box_geom.specs.Layers.{AreWithinLimits}
use Rattle.row_model.specs.declared.column.Column.{Column}
use Rattle.row_place.specs.declared.placement.Placement.{Placement}
use Rattle.row_place.specs.Places.{IsPlacement}
use Rattle.channel_route.specs.declared.routing.Routing.{Routing}
use Rattle.channel_route.specs.Wiring.{IsWiring}
use Rattle.row_compact.specs.Allowed.{AreAllowed, stretches_of}
use Rattle.scmos_rules.specs.Rules.{Obeys}
use Rattle.scmos_rules.specs.declared.rules.Deck.TheVariants.{Plain, Taps as TapsDeck}
use Rattle.cell_draw.specs.declared.cell.TheConstants.{MOST_SHAPES}
use Rattle.cell_draw.specs.declared.drawing.Drawing.{Drawing}
use Rattle.cell_draw.specs.declared.layout.Frame.{Frame}
use Rattle.cell_draw.specs.Bounds.{AreWithin}
use Rattle.cell_draw.specs.Drawings.{drawn_of}
use Rattle.cell_draw.specs.Extracted.{ExtractsToRow}
use Rattle.cell_draw.specs.Framed.{IsFramed}
use Rattle.cell_draw.specs.Shown.{ShowsColumns}
use Rattle.cell_draw.specs.Sound.{IsSoundRow}
use Rattle.well_tap.specs.Base.{IsBase}
use Rattle.well_tap.specs.Bodied.{AreRails}
use Rattle.well_tap.specs.Tapped.{tapped}
use Rattle.well_tap.proofs.Clauses.{bodies, obeys, same_circuit, shows_same, twelve_more, within}
use Rattle.well_tap.proofs.Drawn.{framed_base, rails_drawn, spread_wired}
use Rattle.cell_inputs.specs.declared.style.Taps.{Taps}
use Rattle.cell_inputs.specs.declared.style.Taps.TheVariants.{Without, With}
use Rattle.cell_inputs.specs.declared.style.Wiring.{Wiring}
use Rattle.cell_inputs.specs.declared.style.Wiring.TheVariants.{Straight, Doglegs}
use Rattle.cell_make.specs.declared.drawn.Drawn.{Drawn}
use Rattle.cell_make.specs.Making.{final_of}
use Rattle.cell_make.specs.Style.{AreBodiedBy, ShowsWiring, deck_of, final, tapped_by}
use Rattle.cell_make.specs.Writable.{AreWritable}

-- the drawing of a row with a column is one that taps may be added to
pub wired_base : (f : Frame) (p : Placement) (pins : Pins) (r : Routing) (xs : List ℕ) (d : Drawing) → IsPlacement p → 0 < length p.row → AreAllowed p pins (stretches_of r.trunks) xs → IsFramed f xs d → IsBase xs d
wired_base f p pins r xs d is some allowed framed = framed_base f xs d framed (spread_wired p pins r xs is some allowed)

pub final_obeys : (taps : Taps) (xs : List ℕ) (d : Drawing) → IsBase xs d → Obeys Plain d.shapes.rects → Obeys (deck_of taps) (final taps d xs).shapes.rects
final_obeys Without xs d base o = o
final_obeys With xs d base o = obeys xs d (tapped xs d) base o refl

pub final_extracts : (taps : Taps) (xs : List ℕ) (d : Drawing) (names : List (List ℕ)) (pins : Pins) (row : List Column) → IsBase xs d → ExtractsToRow Plain names pins row d.shapes → ExtractsToRow (deck_of taps) names pins row (final taps d xs).shapes
final_extracts Without xs d names pins row base e = e
final_extracts With xs d names pins row base e = record { to = λ are fingers a. (same_circuit xs d (tapped xs d) base refl).extracts TapsDeck names fingers (e.to are fingers a) }

pub final_shows : (taps : Taps) (xs : List ℕ) (d : Drawing) (names : List (List ℕ)) (pins : Pins) (row : List Column) → IsBase xs d → ShowsColumns Plain names pins row d.shapes → ShowsColumns (deck_of taps) names pins row (final taps d xs).shapes
final_shows Without xs d names pins row base s = s
final_shows With xs d names pins row base s = record { shown = λ are. (shows_same xs d (tapped xs d) base refl).row names row (s.shown are) }

pub final_routed : (taps : Taps) (wiring : Wiring) (xs : List ℕ) (d : Drawing) (names : List (List ℕ)) (pins : Pins) (p : Placement) (r : Routing) → IsBase xs d → ShowsWiring wiring names pins p xs d.shapes r → ShowsWiring wiring names pins p xs (final taps d xs).shapes r
final_routed Without wiring xs d names pins p r base s = s
final_routed With Straight xs d names pins p r base s = (shows_same xs d (tapped xs d) base refl).routing names pins p r s
final_routed With Doglegs xs d names pins p r base s = λ t first.
    let shown = s t first in
    record { label = shown.label; listed = shown.listed; reads = shown.reads; layer = shown.layer; place = shown.place; height = shown.height }

rails_bodied : (taps : Taps) (xs : List ℕ) (d : Drawing) (names : List (List ℕ)) (pins : Pins) → IsBase xs d → AreRails names pins d → AreBodiedBy taps names pins (final taps d xs).shapes
rails_bodied Without xs d names pins base rails = tt
rails_bodied With xs d names pins base rails = bodies xs d (tapped xs d) base refl names pins rails

pub final_bodied : (taps : Taps) (d : Drawing) (names : List (List ℕ)) (pins : Pins) (p : Placement) (r : Routing) (xs : List ℕ) (height : ℕ) → d ≡ drawn_of names pins p r xs height → IsBase xs d → IsPlacement p → IsSoundRow names pins p.row → IsWiring p pins r → AreAllowed p pins (stretches_of r.trunks) xs → ArePins (length names) pins → AreBodiedBy taps names pins (final taps d xs).shapes
final_bodied taps d names pins p r xs height exact base is row wiring allowed are =
    rails_bodied taps xs d names pins base (subst (AreRails names pins) (sym exact) (rails_drawn names pins p r xs height is row wiring allowed are))

pub final_writable : (taps : Taps) (xs : List ℕ) (d : Drawing) (names : List (List ℕ)) → IsBase xs d → d.height ≤ 200000 → length d.shapes.rects < MOST_SHAPES → AreWithin d.shapes → All (λ (l : Label). Contains names l.name) d.shapes.labels → AreWithinLimits (final taps d xs).shapes.rects → AreWritable names (final taps d xs).shapes
final_writable Without xs d names base low few near named limits = record { few = omega (arith, few); limits = limits; within = near; named = named }
final_writable With xs d names base low few near named limits = record {
  few = omega (arith, few, twelve_more xs d (tapped xs d) refl);
  limits = limits;
  within = within xs d (tapped xs d) base (omega (arith, low)) near refl;
  named = named;
}

-- the drawing that is written, of those that are kept
pub final_is : (taps : Taps) (drawn : Drawn) → drawn.tapped ≡ tapped_by taps drawn.drawing drawn.lines → final_of drawn ≡ final taps drawn.drawing drawn.lines
final_is Without drawn is = rw is refl
final_is With drawn is = rw is refl
