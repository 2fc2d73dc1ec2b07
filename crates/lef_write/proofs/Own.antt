-- The shapes at the ports of a drawn cell: each pin has its rail, or the trunks of its net.
use Rattle.std.proofs.Common.{ℕ, suc, ◌≡◌, ◌+◌, ◌<◌, ◌==◌, Bool, cond, List, [], ◌∷◌, length, map, filter, refl, sym, ap, ◌∙◌, inl, inr, arith, AllPairs}
use Rattle.std.specs.Prelude.{Option, Some, None, find, filter_map, slice_get, option_map, option_and_then}
use Rattle.std.specs.List.{position_or_len}
use Rattle.std.proofs.lemmas.Bool.{cases_Bool, eq-eqb, ne_eqb}
use Rattle.std.proofs.lemmas.List.{length-map}
use Rattle.std.proofs.lemmas.Option.{slice_get-map}
use Rattle.cell_num.specs.declared.net.Pins.{Pins}
use Rattle.cell_num.proofs.Lists.{all_from_contains}
use Rattle.box_geom.specs.declared.shape.Shape.{Shape}
use Rattle.channel_route.specs.declared.routing.Trunk.{Trunk}
use Rattle.cell_draw.specs.declared.layout.Bar.{Bar}
use Rattle.cell_draw.specs.declared.layout.Layout.{Layout}
use Rattle.cell_draw.specs.Layouts.{trunk_of, net_no}
use Rattle.cell_draw.specs.Shapes.{gnd_rail, vdd_rail, bar_metal, shapes_of}
use Rattle.lef_write.specs.declared.port.Port.{Port}
use Rattle.lef_write.specs.Ports.{last_ones, ports_on, ports_of, port_shapes}
use Rattle.lef_write.proofs.PinShapes.{shape_at, Ascend, of_pin, at_trunks, one_trunk}
use Rattle.lef_write.proofs.PortPlaces.{stands}
use Rattle.lef_write.proofs.Shown.{places, at_last}

-- ---- the first item that passes

one_and : (n : ℕ) → ◌≡◌ {A = ℕ} (1 + n) (suc n)
one_and n = omega arith

pub found_first : {X : Type 0} (p : X → Bool) (xs : List X) (x : X) → find p xs ≡ Some x → slice_get xs (position_or_len p xs) ≡ Some x
found_first p [] x e = e
found_first {X} p (y ∷ ys) x e = elim (cases_Bool (p y)) [
  | inl passes ↦ rw passes (sym (ap (λ (b : Bool). cond b (Some y) (find p ys)) passes) ∙ e)
  | inr fails ↦ rw fails (ap (λ (n : ℕ). slice_get (y ∷ ys) n) (one_and (position_or_len p ys)) ∙ found_first p ys x (sym (ap (λ (b : Bool). cond b (Some y) (find p ys)) fails) ∙ e))
]

-- ---- the shapes of a pin

-- the shapes at the ports of pin n
abbrev pub own_shapes : Layout → Pins → List Trunk → ℕ → List Shape
own_shapes l pins trunks n = filter_map (shape_at (shapes_of l)) (ports_on pins trunks (places l) n)

pub pin_shapes : (l : Layout) (pins : Pins) (trunks : List Trunk) (n : ℕ) → n < pins.pins → port_shapes (ports_of pins trunks (shapes_of l)) (shapes_of l) (net_no n) ≡ own_shapes l pins trunks n
pin_shapes l pins trunks n less = of_pin (shapes_of l) (ports_on pins trunks (places l)) n 0 pins.pins (λ m. all_from_contains (λ (p : Port). p.pin.0 ≡ m) (ports_on pins trunks (places l) m) (λ p there. (stands pins trunks (places l) m p there).pin)) (omega arith) (omega (arith, less))

pub gnd_shapes : (l : Layout) (pins : Pins) (trunks : List Trunk) (n : ℕ) → n ≡ pins.gnd.0 → own_shapes l pins trunks n ≡ gnd_rail l.frame ∷ []
gnd_shapes l pins trunks n e = rw (eq-eqb n pins.gnd.0 e) refl

pub vdd_shapes : (l : Layout) (pins : Pins) (trunks : List Trunk) (n : ℕ) → (n ≡ pins.gnd.0 → ⊥) → n ≡ pins.vdd.0 → own_shapes l pins trunks n ≡ vdd_rail l.frame ∷ []
vdd_shapes l pins trunks n other e = rw (ne_eqb n pins.gnd.0 other, eq-eqb n pins.vdd.0 e) refl

-- the bars of a layout are these trunks, bar for bar
last_bars : (l : Layout) (trunks : List Trunk) (bar : Trunk → Bar) → l.bars ≡ map bar trunks → (k : ℕ) → option_and_then (slice_get (shapes_of l)) (slice_get (last_ones (length trunks) (places l)) k) ≡ option_map (λ t. bar_metal (bar t)) (slice_get trunks k)
last_bars l trunks bar bars k =
    let count : length l.bars ≡ length trunks = ap length bars ∙ length-map trunks bar in
    ap (λ n. option_and_then (slice_get (shapes_of l)) (slice_get (last_ones n (places l)) k)) (sym count)
    ∙ (at_last l k
    ∙ (ap (λ bs. slice_get (map bar_metal bs) k) bars
    ∙ (slice_get-map bar_metal (map bar trunks) k
    ∙ (ap (λ o. option_map bar_metal o) (slice_get-map bar trunks k) ∙ twice (slice_get trunks k)))))
  where
    twice : (o : Option Trunk) → option_map bar_metal (option_map bar o) ≡ option_map (λ t. bar_metal (bar t)) o
    twice None = refl
    twice (Some t) = refl

pub signal_shapes : (l : Layout) (pins : Pins) (trunks : List Trunk) (bar : Trunk → Bar) (n : ℕ) → l.bars ≡ map bar trunks → (n ≡ pins.gnd.0 → ⊥) → (n ≡ pins.vdd.0 → ⊥) → own_shapes l pins trunks n ≡ map (λ t. bar_metal (bar t)) (filter (λ (t : Trunk). t.net.0 == n) trunks)
signal_shapes l pins trunks bar n bars no_gnd no_vdd = rw (ne_eqb n pins.gnd.0 no_gnd, ne_eqb n pins.vdd.0 no_vdd) (at_trunks (shapes_of l) n (λ t. bar_metal (bar t)) trunks (last_ones (length trunks) (places l)) (last_bars l trunks bar bars))

-- where each net has one trunk
pub trunk_shape : (l : Layout) (pins : Pins) (trunks : List Trunk) (bar : Trunk → Bar) (n : ℕ) (t : Trunk) → AllPairs Ascend trunks → l.bars ≡ map bar trunks → (n ≡ pins.gnd.0 → ⊥) → (n ≡ pins.vdd.0 → ⊥) → trunk_of trunks (net_no n) ≡ Some t → own_shapes l pins trunks n ≡ bar_metal (bar t) ∷ []
trunk_shape l pins trunks bar n t order bars no_gnd no_vdd found = signal_shapes l pins trunks bar n bars no_gnd no_vdd ∙ ap (λ ts. map (λ (t : Trunk). bar_metal (bar t)) ts) (one_trunk n trunks t order found)
