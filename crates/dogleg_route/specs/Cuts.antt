-- The pieces of a placement as a list.
use Rattle.std.specs.Prelude.{ℕ, ◌+◌, ◌&&◌, ◌||◌, ◌==◌, ltb, Bool, cond, List, [], ◌∷◌, flat_map}
use Rattle.std.specs.declared.cmp.Ordering.{Ordering}
use Rattle.std.specs.Ordering.{nat_cmp, ordering_then}
use Rattle.row_place.specs.declared.placement.NodePlace.{NodePlace}
use Rattle.channel_route.specs.declared.routing.WireAbove.{WireAbove}
use Rattle.channel_route.specs.declared.cycle.Step.{Step}
use Rattle.channel_route.specs.declared.wire.Wire.{Wire}
use Rattle.dogleg_route.specs.declared.cut.Stretch.{Stretch}

abbrev pub stretch : Wire → ℕ → ℕ → Stretch
stretch w left right = record { left = left; right = right; net = w.net }

-- a node place of the wire's net after the line
abbrev pub cuts_at : Wire → ℕ → NodePlace → Bool
cuts_at w from node = (node.net.0 == w.net.0) && ltb from node.line

-- up to the end of the wire, where something is left of it
abbrev pub is_left : Wire → ℕ → Bool
is_left w from = ltb from w.right || (w.left == w.right)

abbrev pub rest_of : Wire → ℕ → List Stretch
rest_of w from = cond (is_left w from) (stretch w from w.right ∷ []) []

-- a wire from a line on, cut at its node places
abbrev pub cuts_from : Wire → ℕ → List NodePlace → List Stretch
cuts_from w from [] = rest_of w from
cuts_from w from (node ∷ nodes) =
    cond (cuts_at w from node) (stretch w from node.line ∷ cuts_from w node.line nodes) (cuts_from w from nodes)

abbrev pub cuts_of : List NodePlace → Wire → List Stretch
cuts_of nodes w = cuts_from w w.left nodes

abbrev pub all_cuts : List NodePlace → List Wire → List Stretch
all_cuts nodes wires = flat_map (cuts_of nodes) wires

-- the order of first line, then last line, then net, as a comparison
abbrev pub stretch_cmp : Stretch → Stretch → Ordering
stretch_cmp a b =
    ordering_then (nat_cmp a.left b.left) (ordering_then (nat_cmp a.right b.right) (nat_cmp a.net.0 b.net.0))

abbrev pub wire_at : ℕ → Stretch → Wire
wire_at key s = record { left = s.left; key = key; right = s.right; net = s.net }

-- each stretch as a wire whose key is its place
abbrev pub numbered_from : ℕ → List Stretch → List Wire
numbered_from key [] = []
numbered_from key (s ∷ more) = wire_at key s ∷ numbered_from (key + 1) more

-- the piece of a step
abbrev pub entry_of : Step → WireAbove
entry_of s = record { net = s.wire.net; left = s.wire.left; line = s.line }
