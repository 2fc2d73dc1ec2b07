-- The contacts and vias of a drawing, and the pieces that each links.
use Rattle.std.specs.Prelude.{◌≡◌, ℕ, ◌<◌, ◌≤◌, Bool, true, ◌||◌, ◌⊎◌, Some, slice_get, List, [], ◌∷◌, get_or}
use Rattle.std.specs.List.{filter}
use Rattle.box_geom.specs.Layers.{same_layer}
use Rattle.box_geom.specs.declared.shape.Shape.{Shape}
use Rattle.box_geom.specs.declared.layer.Layer.{Layer}
use Rattle.box_geom.specs.declared.layer.Layer.TheVariants.{Contact, Via}
use Rattle.net_extract.specs.Bonds.{AreJoined}
use Rattle.number_trees.specs.Classes.{InTree}
use Rattle.net_extract.specs.Connections.{blank}
use Rattle.net_extract.specs.Meetings.{is_reached}
use Rattle.net_extract.specs.declared.piece.Piece.{Piece}

abbrev pub is_linking : Layer → Bool
is_linking l = same_layer l Contact || same_layer l Via

abbrev pub links_in : List Shape → List Shape
links_in shapes = filter (λ (s : Shape). is_linking s.layer) shapes

-- the contact or via links pieces number i and j
pub record AreLinked (z : Shape) (ps : List Piece) (i j : ℕ) : Type 0 where
  pub one : Piece
  pub other : Piece
  pub at_one : slice_get ps i ≡ Some one
  pub at_other : slice_get ps j ≡ Some other
  pub joined : AreJoined (z ∷ []) one other

-- the numbers are in one tree, or the contact or via links their pieces
abbrev pub InTreeOrLinked : List ℕ → Shape → List Piece → ℕ → ℕ → Type 0
InTreeOrLinked parents z ps i j = InTree parents i j ⊎ AreLinked z ps i j

-- what the contact or via links is in one tree
pub record AreInOneTree (parents : List ℕ) (z : Shape) (ps : List Piece) : Type 0 where
  pub joined : (i j : ℕ) → AreLinked z ps i j → InTree parents i j

-- the pieces from number i on and below k that the contact or via reaches are in the tree of number r
pub record AreUnder (parents : List ℕ) (z : Shape) (ps : List Piece) (i k r : ℕ) : Type 0 where
  pub under : (j : ℕ) → i ≤ j → j < k → is_reached z (get_or ps j blank) ≡ true → InTree parents j r
