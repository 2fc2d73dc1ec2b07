-- The sets of cells of a layout that the rules speak of.
use Rattle.std.specs.Prelude.{ℤ, List, ◌⊎◌}
use Rattle.box_geom.specs.Rectangle.{Covers}
use Rattle.box_geom.specs.Layers.{rects_on}
use Rattle.box_geom.specs.declared.shape.Shape.{Shape}
use Rattle.box_geom.specs.declared.layer.Layer.{Layer}
use Rattle.box_geom.specs.declared.layer.Layer.TheVariants.{Well, Active, PSelect, NSelect, Poly, Contact}
use Rattle.scmos_rules.specs.declared.rules.Deck.{Deck}
use Rattle.scmos_rules.specs.declared.rules.Deck.TheVariants.{Plain, Taps}

-- a cell that the layer covers
abbrev pub On : Layer → List Shape → ℤ → ℤ → Type 0
On layer s = Covers (rects_on layer s)

-- a gate cell: active and poly
abbrev pub Gate : List Shape → ℤ → ℤ → Type 0
Gate s x y = On Active s x y × On Poly s x y

-- active without poly
abbrev pub Diffusion : List Shape → ℤ → ℤ → Type 0
Diffusion s x y = On Active s x y × (On Poly s x y → ⊥)

-- poly without active
abbrev pub FieldPoly : List Shape → ℤ → ℤ → Type 0
FieldPoly s x y = On Poly s x y × (On Active s x y → ⊥)

-- neither poly nor active
abbrev pub Bare : List Shape → ℤ → ℤ → Type 0
Bare s x y = (On Poly s x y → ⊥) × (On Active s x y → ⊥)

-- active in the well, and outside it
abbrev pub InWell : List Shape → ℤ → ℤ → Type 0
InWell s x y = On Active s x y × On Well s x y

abbrev pub OutOfWell : List Shape → ℤ → ℤ → Type 0
OutOfWell s x y = On Active s x y × (On Well s x y → ⊥)

-- a tap of the well under N select, and one of the substrate under P select
abbrev pub WellTap : List Shape → ℤ → ℤ → Type 0
WellTap s x y = InWell s x y × On NSelect s x y

abbrev pub SubstrateTap : List Shape → ℤ → ℤ → Type 0
SubstrateTap s x y = OutOfWell s x y × On PSelect s x y

-- active in the well, but for the taps of a deck that knows them
abbrev pub PActive : Deck → List Shape → ℤ → ℤ → Type 0
PActive Plain s x y = InWell s x y
PActive Taps s x y = InWell s x y × (On NSelect s x y → ⊥)

-- active outside the well, but for such taps
abbrev pub NActive : Deck → List Shape → ℤ → ℤ → Type 0
NActive Plain s x y = OutOfWell s x y
NActive Taps s x y = OutOfWell s x y × (On PSelect s x y → ⊥)

-- what P select and what N select must surround
abbrev pub PSelected : Deck → List Shape → ℤ → ℤ → Type 0
PSelected Plain s x y = PActive Plain s x y
PSelected Taps s x y = PActive Taps s x y ⊎ SubstrateTap s x y

abbrev pub NSelected : Deck → List Shape → ℤ → ℤ → Type 0
NSelected Plain s x y = NActive Plain s x y
NSelected Taps s x y = NActive Taps s x y ⊎ WellTap s x y

-- a contact to poly, a contact to diffusion, and one that is on neither poly nor active
abbrev pub PolyContact : List Shape → ℤ → ℤ → Type 0
PolyContact s x y = On Contact s x y × On Poly s x y

abbrev pub DiffusionContact : List Shape → ℤ → ℤ → Type 0
DiffusionContact s x y = On Contact s x y × Diffusion s x y

abbrev pub BareContact : List Shape → ℤ → ℤ → Type 0
BareContact s x y = On Contact s x y × Bare s x y
