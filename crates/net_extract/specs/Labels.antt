-- Labels and the conductor cells that they belong to.
use Rattle.std.specs.Prelude.{◌≡◌, ℤ, pos, ◌-ℤ◌, ℕ, Bool, ◌||◌, List, [], ◌∷◌, ◌++◌, ◌⊎◌}
use Rattle.std.specs.List.{filter, AllZip, Contains}
use Rattle.box_geom.specs.Touching.{Cell}
use Rattle.box_geom.specs.Layers.{same_layer}
use Rattle.box_geom.specs.declared.shape.Shape.{Shape}
use Rattle.box_geom.specs.declared.shape.Label.{Label}
use Rattle.box_geom.specs.declared.shape.Shapes.{Shapes}
use Rattle.box_geom.specs.declared.layer.Layer.{Layer}
use Rattle.box_geom.specs.declared.layer.Layer.TheVariants.{Active, Poly, Metal1, Metal2}
use Rattle.scmos_rules.specs.declared.rules.Deck.{Deck}
use Rattle.net_extract.specs.declared.naming.NetLabel.{NetLabel}
use Rattle.net_extract.specs.Nets.{layer_of, Site, Conducts, SameNet}
use Rattle.net_extract.specs.Numbering.{IsInNet}

-- labels on the layers of conductors; all others are ignored
abbrev pub is_conductor : Layer → Bool
is_conductor l = same_layer l Active || same_layer l Poly || same_layer l Metal1 || same_layer l Metal2

abbrev pub conductor_labels : List Label → List Label
conductor_labels labels = filter (λ (l : Label). is_conductor l.layer) labels

-- the four cells round a point: upper right, upper left, lower right, lower left
abbrev pub cells_round : ℤ → ℤ → List Cell
cells_round x y =
    record { x = x; y = y }
    ∷ record { x = x -ℤ pos 1; y = y }
    ∷ record { x = x; y = y -ℤ pos 1 }
    ∷ record { x = x -ℤ pos 1; y = y -ℤ pos 1 }
    ∷ []

-- the site is a conductor cell of the layer there
pub record IsConductorAt (s : List Shape) (layer : Layer) (c : Cell) (a : Site) : Type 0 where
  pub cell : a.cell ≡ c
  pub on_layer : layer_of a.kind ≡ layer
  pub conducts : Conducts s a

-- the site is the first of the cells that is conductor of the layer
abbrev pub IsFirstConductor : List Shape → Layer → List Cell → Site → Type 0
IsFirstConductor s layer [] a = ⊥
IsFirstConductor s layer (c ∷ cs) a =
    IsConductorAt s layer c a ⊎ (((b : Site) → IsConductorAt s layer c b → ⊥) × IsFirstConductor s layer cs a)

-- the label belongs to the site
abbrev pub Belongs : List Shape → Label → Site → Type 0
Belongs s l a = IsFirstConductor s l.layer (cells_round l.x l.y) a

-- a label that belongs to no conductor cell
abbrev pub IsStray : List Shape → Label → Type 0
IsStray s l = (a : Site) → Belongs s l a → ⊥

-- the label's name and the number of its net
pub record IsNetLabel (deck : Deck) (s : List Shape) (firsts : List Site) (l : Label) (h : NetLabel) : Type 0 where
  pub name : h.name ≡ l.name
  pub site : Site
  pub belongs : Belongs s l site
  pub net : IsInNet deck s firsts h.net site

-- every label on a layer of conductors in the order of the list, with its net
abbrev pub AreNetLabels : Deck → List Shape → List Site → List Label → List NetLabel → Type 0
AreNetLabels deck s firsts labels held = AllZip (IsNetLabel deck s firsts) (conductor_labels labels) held

-- the first label that is stray, and the labels before it
pub record IsFirstStray (s : List Shape) (labels : List Label) (name : List ℕ) : Type 0 where
  pub before : List Label
  pub label : Label
  pub after : List Label
  pub split : conductor_labels labels ≡ before ++ label ∷ after
  pub fine : (l : Label) → Contains before l → IsStray s l → ⊥
  pub stray : IsStray s label
  pub named : label.name ≡ name

-- a label of this name belongs to a conductor cell of the site's net
pub record IsNamed (deck : Deck) (shapes : Shapes) (name : List ℕ) (a : Site) : Type 0 where
  pub label : Label
  pub listed : Contains shapes.labels label
  pub reads : label.name ≡ name
  pub at : Site
  pub belongs : Belongs shapes.rects label at
  pub same : SameNet deck shapes.rects at a
