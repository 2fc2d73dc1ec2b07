-- The labels of nets that are routed in pieces.
use Rattle.std.specs.Prelude.{ℕ, ◌≡◌, ◌+◌, ◌*◌, ◌≤◌, pos, List}
use Rattle.std.specs.List.{Contains}
use Rattle.channel_route.specs.declared.routing.Trunk.{Trunk}
use Rattle.row_place.specs.declared.placement.Placement.{Placement}
use Rattle.row_compact.specs.Solution.{x_of}
use Rattle.box_geom.specs.declared.shape.Label.{Label}
use Rattle.box_geom.specs.declared.shape.Shapes.{Shapes}
use Rattle.box_geom.specs.declared.layer.Layer.TheVariants.{Metal1}
use Rattle.cell_draw.specs.Frame.{channel_edge}
use Rattle.cell_draw.specs.Named.{name_of}

-- no piece of its net begins before it
pub record IsFirstPiece (pieces : List Trunk) (t : Trunk) : Type 0 where
  pub there : Contains pieces t
  pub none_before : (other : Trunk) → Contains pieces other → other.net ≡ t.net → t.left ≤ other.left

-- the net's label is where the piece begins, on its track, where the channel begins at this height
pub record ShowsPiece (names : List (List ℕ)) (n_edge : ℕ) (xs : List ℕ) (shapes : Shapes) (t : Trunk) : Type 0 where
  pub label : Label
  pub listed : Contains shapes.labels label
  pub reads : label.name ≡ name_of names t.net
  pub layer : label.layer ≡ Metal1
  pub place : label.x ≡ pos (x_of xs t.left)
  pub height : label.y ≡ pos (n_edge + 20 + 16 * t.track)

-- the name of each net with pieces is on the first of them
abbrev pub ShowsFirsts : List (List ℕ) → Placement → List ℕ → Shapes → List Trunk → Type 0
ShowsFirsts names placement xs shapes pieces =
    (t : Trunk) → IsFirstPiece pieces t → ShowsPiece names (channel_edge placement.row) xs shapes t
