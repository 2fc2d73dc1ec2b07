-- The nets of a drawing as the code keeps them: each piece of conductor with its net's number.
use Rattle.std.specs.Prelude.{◌≡◌, ℕ, zero, suc, ◌<◌, ◌==◌, ℤ, pos, if◌then◌else◌}
use Rattle.std.specs.Prelude.{List, [], ◌∷◌, ◌++◌, map, get_or, slice_get, Some, take}
use Rattle.std.specs.List.{All}
use Rattle.box_geom.specs.declared.shape.Shape.{Shape}
use Rattle.scmos_rules.specs.declared.rules.Deck.{Deck}
use Rattle.net_extract.specs.Nets.{Site, site_at, Conducts}
use Rattle.net_extract.specs.declared.piece.Conductor.{Conductor}
use Rattle.net_extract.specs.Bonds.{AreDrawn}
use Rattle.net_extract.specs.Numbering.{AreNets, IsInNet}
use Rattle.net_extract.specs.Pieces.{rects_in, corner_of}
use Rattle.net_extract.specs.declared.piece.Conductor.TheVariants.{PDiffusion}
use Rattle.net_extract.specs.declared.piece.Piece.{Piece}
use Rattle.net_extract.specs.declared.connections.Wire.{Wire}

-- the first cells of all nets
abbrev pub firsts_of : List Piece → List Site
firsts_of firsts = map corner_of firsts

abbrev pub pieces_of : List Wire → List Piece
pieces_of wires = map (λ (w : Wire). w.piece) wires

abbrev pub nets_of : List Wire → List ℕ
nets_of wires = map (λ (w : Wire). w.net) wires

-- the pieces are the conductor, the firsts are the first pieces of all nets, and each piece has its net's number
pub record AreWires (deck : Deck) (s : List Shape) (wires : List Wire) (firsts : List Piece) : Type 0 where
  pub drawn : AreDrawn s (rects_in (pieces_of wires))
  pub nets : AreNets deck s (firsts_of firsts)
  pub numbers : All (λ (w : Wire). IsInNet deck s (firsts_of firsts) w.net (corner_of w.piece)) wires

-- the conductor cell at a place and its number
pub record IsFound (deck : Deck) (s : List Shape) (firsts : List Site) (k : Conductor) (x y : ℤ) (n : ℕ) : Type 0 where
  pub conducts : Conducts s (site_at k x y)
  pub net : IsInNet deck s firsts n (site_at k x y)

abbrev pub blank : Piece
blank = record { low = pos 0; left = pos 0; kind = PDiffusion; top = pos 0; right = pos 0 }

-- the pieces below number k that are labelled by their own numbers
abbrev pub heads_below : List Piece → List ℕ → ℕ → List Piece
heads_below ps labels zero = []
heads_below ps labels (suc k) =
    heads_below ps labels k ++ (if get_or labels k 0 == k then get_or ps k blank ∷ [] else [])

-- the pieces below number k have their numbers
pub record AreNumbered (ps : List Piece) (labels : List ℕ) (k : ℕ) (wires : List Wire) (firsts : List Piece)
    : Type 0 where
  pub pieces : pieces_of wires ≡ take k ps
  pub heads : firsts ≡ heads_below ps labels k
  pub numbers : (i : ℕ) → i < k →
      slice_get firsts (get_or (nets_of wires) i 0) ≡ Some (get_or ps (get_or labels i 0) blank)
