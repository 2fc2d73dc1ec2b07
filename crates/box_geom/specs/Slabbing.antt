-- Slabs: what a layer covers between two values of y, as ranges of x.
use Rattle.std.specs.Prelude.{◌≡◌, ◌↔◌, ◌⊎◌, ℕ, ◌<◌, ℤ, ◌≤ℤ◌, ◌<ℤ◌, List, [], ◌∷◌, map, length}
use Rattle.std.specs.List.{All, AllPairs, Contains}
use Rattle.box_geom.specs.Rectangle.{Rectangle, Covers}
use Rattle.box_geom.specs.Ranges.{Hit, Spread}
use Rattle.box_geom.specs.Layers.{layer_no, rects_on}
use Rattle.box_geom.specs.declared.layer.Layer.{Layer}
use Rattle.box_geom.specs.declared.layer.Layer.TheVariants.{Well, Active, PSelect, NSelect}
use Rattle.box_geom.specs.declared.layer.Layer.TheVariants.{Poly, Contact, Metal1, Via, Metal2}
use Rattle.box_geom.specs.declared.ranges.XRange.{XRange}
use Rattle.box_geom.specs.declared.shape.Shape.{Shape}
use Rattle.box_geom.specs.declared.slab.Slab.{Slab}

-- the slab covers the cell on the layer
pub record IsInSlab (s : Slab) (on : Layer) (x y : ℤ) : Type 0 where
  pub layer : s.layer ≡ on
  pub low : s.y1 ≤ℤ y
  pub high : y <ℤ s.y2
  pub hit : Hit s.ranges x

-- some slab of the list covers the cell on the layer
pub record SlabsCover (slabs : List Slab) (on : Layer) (x y : ℤ) : Type 0 where
  pub slab : Slab
  pub listed : Contains slabs slab
  pub within : IsInSlab slab on x y

-- some row goes through it, and its ranges are ascending, with room between them
pub record IsSlab (s : Slab) : Type 0 where
  pub high : s.y1 <ℤ s.y2
  pub spread : Spread s.ranges
  pub some : 0 < length s.ranges

-- of an earlier layer, or of the same one and below
abbrev pub StandsBelow : Slab → Slab → Type 0
StandsBelow a b = (layer_no a.layer < layer_no b.layer) ⊎ ((a.layer ≡ b.layer) × (a.y2 ≤ℤ b.y1))

abbrev pub across : Rectangle → XRange
across r = record { x1 = r.x1; x2 = r.x2 }

-- the slab of a band of rectangles, which are all as low and as high as the first
abbrev pub slab_of : Layer → Rectangle → List Rectangle → Slab
slab_of on first band = record { layer = on; y1 = first.y1; y2 = first.y2; ranges = map across band }

-- the slabs are of the layer and cover what the rectangles cover
pub record AreSlabsOf (on : Layer) (rs : List Rectangle) (slabs : List Slab) : Type 0 where
  pub all : All IsSlab slabs
  pub layers : All (λ (s : Slab). s.layer ≡ on) slabs
  pub order : AllPairs StandsBelow slabs
  pub same : (x y : ℤ) → SlabsCover slabs on x y ↔ Covers rs x y

-- the slabs cover what the first n layers cover
pub record AreSlabsUpTo (n : ℕ) (shapes : List Shape) (slabs : List Slab) : Type 0 where
  pub all : All IsSlab slabs
  pub early : All (λ (s : Slab). layer_no s.layer < n) slabs
  pub order : AllPairs StandsBelow slabs
  pub same : (l : Layer) → layer_no l < n → (x y : ℤ) → SlabsCover slabs l x y ↔ Covers (rects_on l shapes) x y

-- the layers in order
abbrev pub all_layers : List Layer
all_layers = Well ∷ Active ∷ PSelect ∷ NSelect ∷ Poly ∷ Contact ∷ Metal1 ∷ Via ∷ Metal2 ∷ []
