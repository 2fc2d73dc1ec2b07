-- Ties of taps as the code numbers them: the substrate is 0, and after it come the classes of well cells.
use Rattle.std.specs.Prelude.{ℕ, ◌+◌, ◌==◌, ℤ, if◌then◌else◌, Option, Some, None, List, map, ◌⊎◌}
use Rattle.std.specs.Option.{option_map}
use Rattle.std.specs.List.{find, filter_map}
use Rattle.box_geom.specs.Rectangle.{Rectangle}
use Rattle.box_geom.specs.declared.shape.Shape.{Shape}
use Rattle.box_geom.specs.declared.layer.Layer.TheVariants.{PSelect, NSelect}
use Rattle.scmos_rules.specs.declared.rules.Deck.{Deck}
use Rattle.scmos_rules.specs.declared.rules.Deck.TheVariants.{Plain}
use Rattle.number_trees.specs.Ties.{HaveOneTie}
use Rattle.net_extract.specs.Areas.{meeting_any}
use Rattle.net_extract.specs.Lookups.{net_in}
use Rattle.net_extract.specs.Pieces.{rect_of}
use Rattle.net_extract.specs.Bonds.{Paired}
use Rattle.net_extract.specs.declared.body.Tap.{Tap}
use Rattle.net_extract.specs.declared.connections.Wire.{Wire}
use Rattle.net_extract.specs.declared.piece.Conductor.{Conductor}
use Rattle.net_extract.specs.declared.piece.Conductor.TheVariants.{PDiffusion, NDiffusion, Poly, Metal1, Metal2}
use Rattle.net_extract.specs.declared.piece.Piece.{Piece}

-- the tie of the well that a cell lies in
abbrev pub well_tie : List Wire → ℤ → ℤ → Option ℕ
well_tie wells x y = option_map (λ n. n + 1) (net_in wells Poly x y)

-- the tie of a piece with a tap of the well, and of the substrate
abbrev pub p_tie : List Shape → List Wire → Piece → Option ℕ
p_tie s wells p = if meeting_any s NSelect (rect_of p) then well_tie wells p.left p.low else None

abbrev pub n_tie : List Shape → Piece → Option ℕ
n_tie s p = if meeting_any s PSelect (rect_of p) then Some 0 else None

abbrev pub tie_by : Conductor → List Shape → List Wire → Piece → Option ℕ
tie_by PDiffusion s wells p = p_tie s wells p
tie_by NDiffusion s wells p = n_tie s p
tie_by Poly s wells p = None
tie_by Metal1 s wells p = None
tie_by Metal2 s wells p = None

-- what ties a piece to others
abbrev pub tie_of : List Shape → List Wire → Piece → Option ℕ
tie_of s wells p = tie_by p.kind s wells p

abbrev pub ties_of : List Shape → List Wire → List Piece → List (Option ℕ)
ties_of s wells ps = map (tie_of s wells) ps

-- pieces number i and j are bonded, or have one tie
abbrev pub PairedOrTied : List Shape → List Piece → List (Option ℕ) → ℕ → ℕ → Type 0
PairedOrTied s ps ties i j = Paired Plain s ps i j ⊎ HaveOneTie ties i j

-- the ties are the bonds that a deck knows beside those of a plain one
pub record AreTies (deck : Deck) (s : List Shape) (ps : List Piece) (ties : List (Option ℕ)) : Type 0 where
  pub sound : (i j : ℕ) → HaveOneTie ties i j → Paired deck s ps i j
  pub all : (i j : ℕ) → Paired deck s ps i j → PairedOrTied s ps ties i j

-- ---- bodies
-- the tie of a wire with a tap, and its net
abbrev pub tap_of : List Shape → List Wire → Wire → Option Tap
tap_of s wells w = option_map (λ t. record { tie = t; net = w.net }) (tie_of s wells w.piece)

abbrev pub taps_in : List Shape → List Wire → List Wire → List Tap
taps_in s wells wires = filter_map (tap_of s wells) wires

abbrev pub or_substrate : Option ℕ → ℕ
or_substrate (Some t) = t
or_substrate None = 0

-- the net of the first tap of a tie
abbrev pub net_of_tie : List Tap → ℕ → Option ℕ
net_of_tie taps t = option_map (λ (a : Tap). a.net) (find (λ (a : Tap). a.tie == t) taps)

-- the body of a device by its box: that of the well where the box lies in one
abbrev pub body_in : List Tap → List Wire → Rectangle → Option ℕ
body_in taps wells box = net_of_tie taps (or_substrate (well_tie wells box.x1 box.y1))

abbrev pub bodies_in : List Tap → List Wire → List Rectangle → List (Option ℕ)
bodies_in taps wells boxes = map (body_in taps wells) boxes
