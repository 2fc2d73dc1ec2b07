-- The ports and the obstructions of a cell: which shapes of its drawing are which.
use Rattle.std.specs.Prelude.{ℕ, ◌≡◌, ◌-◌, ◌==◌, ◌&&◌, not, Bool, List, ◌++◌, length, filter_map, drop, slice_get}
use Rattle.std.specs.Prelude.{Option, Some, None, option_map, option_to_list, if◌then◌else◌}
use Rattle.std.specs.List.{flat_map, list_any, enumerate_from, range_with_len, zip}
use Rattle.cell_num.specs.declared.net.NetNo.{NetNo}
use Rattle.cell_num.specs.declared.net.Pins.{Pins}
use Rattle.box_geom.specs.declared.layer.Layer.{Layer}
use Rattle.box_geom.specs.declared.layer.Layer.TheVariants.{Metal1, Metal2}
use Rattle.box_geom.specs.declared.shape.Shape.{Shape}
use Rattle.box_geom.specs.Layers.{same_layer}
use Rattle.channel_route.specs.declared.routing.Trunk.{Trunk}
use Rattle.cell_draw.specs.Layouts.{net_no}
use Rattle.lef_write.specs.declared.port.Port.{Port}

-- ---- the places of metal1

-- the place of a shape that is on the layer
abbrev pub place_on : Layer → ℕ × Shape → Option ℕ
place_on layer placed = if same_layer placed.1.layer layer then Some placed.0 else None

-- the places of a layer's shapes in a drawing
abbrev pub places_on : Layer → List Shape → List ℕ
places_on layer rects = filter_map (place_on layer) (enumerate_from 0 rects)

-- the last items of a list, at most `count`
abbrev pub last_ones : {X : Type 0} → ℕ → List X → List X
last_ones count xs = drop (length xs - count) xs

abbrev pub port_with : NetNo → ℕ → Port
port_with pin place = record { pin = pin; shape = place }

-- a rail at its place
abbrev pub rail_port : NetNo → Option ℕ → List Port
rail_port pin place = option_to_list (option_map (port_with pin) place)

-- a trunk and its place, where it is of the pin's net
abbrev pub trunk_port : NetNo → Trunk × ℕ → Option Port
trunk_port pin placed = if placed.0.net.0 == pin.0 then Some (port_with pin placed.1) else None

-- the trunks of the pin's net, which are at these places
abbrev pub trunk_ports : NetNo → List Trunk → List ℕ → List Port
trunk_ports pin trunks places = filter_map (trunk_port pin) (zip trunks places)

-- A pin's rail, or else all trunks of its net. Of the metal1 shapes of a drawing the first is the gnd rail, the second
-- the vdd rail, and the last are the trunks of its wiring, in their order.
abbrev pub pin_ports : Pins → List Trunk → List ℕ → NetNo → List Port
pin_ports pins trunks metal pin =
    if pin.0 == pins.gnd.0 then rail_port pin (slice_get metal 0) else
    if pin.0 == pins.vdd.0 then rail_port pin (slice_get metal 1) else
    trunk_ports pin trunks (last_ones (length trunks) metal)

abbrev pub ports_on : Pins → List Trunk → List ℕ → ℕ → List Port
ports_on pins trunks metal n = pin_ports pins trunks metal (net_no n)

-- the ports of a cell, pin by pin
abbrev pub ports_of : Pins → List Trunk → List Shape → List Port
ports_of pins trunks rects = flat_map (ports_on pins trunks (places_on Metal1 rects)) (range_with_len 0 pins.pins)

-- ---- what ports and obstructions are

-- a shape of the layer is at this place
pub record IsOn (layer : Layer) (rects : List Shape) (place : ℕ) : Type 0 where
  pub shape : Shape
  pub there : slice_get rects place ≡ Some shape
  pub on : shape.layer ≡ layer

-- a port is a metal1 shape of the drawing
abbrev pub IsPort : List Shape → Port → Type 0
IsPort rects port = IsOn Metal1 rects port.shape

-- the shape at a port, where it is one of this pin
abbrev pub shape_of : NetNo → List Shape → Port → Option Shape
shape_of pin rects port = if port.pin.0 == pin.0 then slice_get rects port.shape else None

-- the shapes at the ports of a pin
abbrev pub port_shapes : List Port → List Shape → NetNo → List Shape
port_shapes ports rects pin = filter_map (shape_of pin rects) ports

-- a port is at this place
abbrev pub is_taken : List Port → ℕ → Bool
is_taken ports place = list_any (λ (port : Port). port.shape == place) ports

-- a shape of the layer that is no port
abbrev pub obstruction_on : Layer → List Port → ℕ × Shape → Option Shape
obstruction_on layer ports placed =
    if same_layer placed.1.layer layer && not (is_taken ports placed.0) then Some placed.1 else None

-- the obstructions on a layer, in the order of the drawing
abbrev pub obstructions_on : Layer → List Port → List Shape → List Shape
obstructions_on layer ports rects = filter_map (obstruction_on layer ports) (enumerate_from 0 rects)

-- all obstructions: metal1, then metal2
abbrev pub obstructions : List Port → List Shape → List Shape
obstructions ports rects = obstructions_on Metal1 ports rects ++ obstructions_on Metal2 ports rects
