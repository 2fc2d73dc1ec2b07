-- A macro that agrees with a drawing agrees with it when taps are added.
use Rattle.std.proofs.Common.{ℕ, ℤ, List, [], ◌∷◌, All, subst}
use Rattle.std.proofs.lemmas.List.Elements.{All-head, All-tail}
use Rattle.cell_num.proofs.Lists.{all_imply, all_two}
use Rattle.box_geom.specs.Rectangle.{Rectangle, Covers}
use Rattle.box_geom.specs.declared.layer.Layer.{Layer}
use Rattle.box_geom.specs.declared.layer.Layer.TheVariants.{Metal1, Metal2}
use Rattle.scmos_rules.specs.declared.rules.Deck.TheVariants.{Plain}
use Rattle.net_extract.specs.Labels.{IsNamed}
use Rattle.net_extract.proofs.Wiring.{end_conducts}
use Rattle.cell_draw.specs.declared.drawing.Drawing.{Drawing}
use Rattle.lef_read.specs.declared.cell.Macro.{Macro}
use Rattle.lef_read.specs.Agreement.{Agrees, HasLabel, IsLabel, IsOnItsNet, IsOnNet, IsShown, metals, ports_of}
use Rattle.well_tap.specs.Kept.{IsSameCircuit, KeepsMetal}

label_kept : (base d : Drawing) (name : List ℕ) → IsSameCircuit base d → IsLabel base.shapes name → IsLabel d.shapes name
label_kept base d name same l = record { site = l.site; named = same.sites Plain name l.site l.named }

net_kept : (base d : Drawing) (name : List ℕ) (layer : Layer) (x y : ℤ) → IsSameCircuit base d → IsOnNet base.shapes name layer x y → IsOnNet d.shapes name layer x y
net_kept base d name layer x y same on =
    let n : IsNamed Plain d.shapes name on.site = same.sites Plain name on.site on.named in
    record {
      site = on.site;
      conductor = record { cell = on.conductor.cell; on_layer = on.conductor.on_layer; conducts = end_conducts Plain d.shapes.rects n.at on.site n.same };
      named = n;
    }

shown_kept : (base d : Drawing) (cell : Macro) → KeepsMetal base d → All (IsShown base.shapes cell) metals → All (IsShown d.shapes cell) metals
shown_kept base d cell keeps rest =
    all_two (IsShown d.shapes cell) Metal1 Metal2
    (λ x y c. All-head (IsShown base.shapes cell) Metal1 (Metal2 ∷ []) rest x y (subst (λ (rs : List Rectangle). Covers rs x y) keeps.metal1 c))
    (λ x y c. All-head (IsShown base.shapes cell) Metal2 [] (All-tail (IsShown base.shapes cell) Metal1 (Metal2 ∷ []) rest) x y (subst (λ (rs : List Rectangle). Covers rs x y) keeps.metal2 c))

pub agrees_kept : (base d : Drawing) (cell : Macro) → IsSameCircuit base d → KeepsMetal base d → Agrees base.shapes cell → Agrees d.shapes cell
agrees_kept base d cell same keeps a = record {
  labels = all_imply (HasLabel base.shapes) (HasLabel d.shapes) cell.pins (λ pin l. label_kept base d pin.name same l) a.labels;
  ports = all_imply (IsOnItsNet base.shapes) (IsOnItsNet d.shapes) (ports_of cell.pins) (λ port on x y h. net_kept base d port.pin port.layer x y same (on x y h)) a.ports;
  rest = shown_kept base d cell keeps a.rest;
}
