-- Where the code finds the net of a place and of a label.
use Rattle.std.specs.Prelude.{◌≡◌, ℕ, ℤ, pos, ◌-ℤ◌, Bool, ◌&&◌, ◌==◌, if◌then◌else◌}
use Rattle.std.specs.Prelude.{Option, Some, None, is_some, not, List}
use Rattle.std.specs.Option.{option_map}
use Rattle.std.specs.List.{find, filter_map}
use Rattle.box_geom.specs.Comparisons.{holding}
use Rattle.box_geom.specs.declared.shape.Label.{Label}
use Rattle.box_geom.specs.declared.layer.Layer.{Layer}
use Rattle.box_geom.specs.declared.layer.Layer.TheVariants.{Well, Active, PSelect, NSelect, Poly as PolyLayer, Contact}
use Rattle.box_geom.specs.declared.layer.Layer.TheVariants.{Metal1 as Metal1Layer, Via, Metal2 as Metal2Layer}
use Rattle.net_extract.specs.Labels.{is_conductor}
use Rattle.net_extract.specs.Pieces.{place, rect_of}
use Rattle.net_extract.specs.declared.naming.NetLabel.{NetLabel}
use Rattle.net_extract.specs.declared.fault.ExtractFault.{ExtractFault}
use Rattle.net_extract.specs.declared.fault.ExtractFault.TheVariants.{Stray, NoMemory}
use Rattle.net_extract.specs.declared.piece.Conductor.{Conductor}
use Rattle.net_extract.specs.declared.piece.Conductor.TheVariants.{PDiffusion, NDiffusion, Poly, Metal1, Metal2}
use Rattle.net_extract.specs.declared.piece.Piece.{Piece}
use Rattle.net_extract.specs.declared.connections.Wire.{Wire}

-- the piece is of the kind and holds the cell
abbrev pub is_at : Piece → Conductor → ℤ → ℤ → Bool
is_at p k x y = (place p.kind == place k) && holding (rect_of p) x y

-- the net of the first such piece
abbrev pub net_in : List Wire → Conductor → ℤ → ℤ → Option ℕ
net_in wires k x y = option_map (λ (w : Wire). w.net) (find (λ (w : Wire). is_at w.piece k x y) wires)

abbrev pub or_else : Option ℕ → Option ℕ → Option ℕ
or_else (Some n) o = Some n
or_else None o = o

-- the net of the conductor of a layer
abbrev pub net_on : List Wire → Layer → ℤ → ℤ → Option ℕ
net_on wires Active x y = or_else (net_in wires PDiffusion x y) (net_in wires NDiffusion x y)
net_on wires PolyLayer x y = net_in wires Poly x y
net_on wires Metal1Layer x y = net_in wires Metal1 x y
net_on wires Metal2Layer x y = net_in wires Metal2 x y
net_on wires Well x y = None
net_on wires PSelect x y = None
net_on wires NSelect x y = None
net_on wires Contact x y = None
net_on wires Via x y = None

-- the net of the first of the four cells round a point
abbrev pub net_round : List Wire → Layer → ℤ → ℤ → Option ℕ
net_round wires layer x y =
    or_else (or_else (net_on wires layer x y) (net_on wires layer (x -ℤ pos 1) y))
    (or_else (net_on wires layer x (y -ℤ pos 1)) (net_on wires layer (x -ℤ pos 1) (y -ℤ pos 1)))

abbrev pub net_of_label : List Wire → Label → Option ℕ
net_of_label wires l = net_round wires l.layer l.x l.y

-- a label on a layer of conductors without a net
abbrev pub is_lost : List Wire → Label → Bool
is_lost wires l = is_conductor l.layer && not (is_some (net_of_label wires l))

abbrev pub net_label_of : List Wire → Label → Option NetLabel
net_label_of wires l =
    if is_conductor l.layer then option_map (λ n. record { name = l.name; net = n }) (net_of_label wires l) else None

abbrev pub net_labels_in : List Wire → List Label → List NetLabel
net_labels_in wires labels = filter_map (net_label_of wires) labels

-- memory may be wanted in place of the answer
abbrev pub IsStrayOf : List ℕ → ExtractFault → Type 0
IsStrayOf name (Stray n) = n ≡ name
IsStrayOf name NoMemory = Unit {0}
IsStrayOf name _ = ⊥

-- the label that was found is refused
abbrev pub IsLostBy : Option Label → ExtractFault → Type 0
IsLostBy (Some l) f = IsStrayOf l.name f
IsLostBy None f = ⊥
