-- The layout of a routed row on its lines.
use Rattle.std.specs.Prelude.{ℕ, ◌+◌, ◌*◌, ◌-◌, ◌==◌, ◌&&◌, ltb, min, max, not, Bool, true, false, if◌then◌else◌, List}
use Rattle.std.specs.Prelude.{[], ◌∷◌, ◌++◌, map, filter, length, Option, Some, None, option_map, filter_map, find}
use Rattle.std.specs.List.{flat_map, list_any, range_with_len, reduce}
use Rattle.cell_num.specs.declared.net.NetNo.{NetNo}
use Rattle.cell_num.specs.declared.net.Pins.{Pins}
use Rattle.cell_num.specs.declared.finger.Row.{Row}
use Rattle.cell_num.specs.declared.finger.Row.TheVariants.{P, N}
use Rattle.row_model.specs.declared.column.Placed.{Placed}
use Rattle.box_geom.specs.declared.layer.Layer.TheVariants.{Active, Poly, Metal1}
use Rattle.row_place.specs.declared.placement.NodePlace.{NodePlace}
use Rattle.row_place.specs.declared.placement.GatePlace.{GatePlace}
use Rattle.row_place.specs.declared.placement.Placement.{Placement}
use Rattle.row_place.specs.declared.placement.Seat.{Seat}
use Rattle.row_place.specs.Units.{seats_of}
use Rattle.row_place.specs.Steps.{gate_of}
use Rattle.channel_route.specs.declared.routing.Trunk.{Trunk}
use Rattle.channel_route.specs.declared.routing.Routing.{Routing}
use Rattle.channel_route.specs.Routing.{holds_line}
use Rattle.cell_num.specs.Pins.{is_rail}
use Rattle.row_compact.specs.Solution.{x_of}
use Rattle.row_compact.specs.Measures.{SIDE_SPACE}
use Rattle.cell_draw.specs.Measures.{LABEL_ON_FINGER, LABEL_ON_GATE, LABEL_ON_GND, LABEL_ON_VDD}
use Rattle.cell_draw.specs.declared.layout.Frame.{Frame}
use Rattle.cell_draw.specs.declared.layout.Strip.{Strip}
use Rattle.cell_draw.specs.declared.layout.Contact.{Contact}
use Rattle.cell_draw.specs.declared.layout.Gate.{Gate}
use Rattle.cell_draw.specs.declared.layout.Bar.{Bar}
use Rattle.cell_draw.specs.declared.layout.Tag.{Tag}
use Rattle.cell_draw.specs.declared.layout.Layout.{Layout}
use Rattle.cell_draw.specs.Frame.{frame_of, track_y}

-- to the last line, and the space at the side
abbrev pub width_of : Placement → List ℕ → ℕ
width_of placement xs = x_of xs (2 * length placement.units) + SIDE_SPACE

-- a finger goes from the left node line of its column's unit to the right one
abbrev pub strip_of : List ℕ → ℕ → Row → Option Placed → List Strip
strip_of xs unit row None = []
strip_of xs unit row (Some x) =
    record { row = row; left = x_of xs (2 * unit); right = x_of xs (2 * unit + 2); width = x.finger.width } ∷ []

abbrev pub strips_at : List ℕ → Seat → List Strip
strips_at xs seat = strip_of xs seat.unit N seat.column.n ++ strip_of xs seat.unit P seat.column.p

-- the first trunk of a net
abbrev pub trunk_of : List Trunk → NetNo → Option Trunk
trunk_of trunks net = find (λ t. t.net.0 == net.0) trunks

-- the trunk is of the net and holds the line
abbrev pub holds : NetNo → ℕ → Trunk → Bool
holds net line t = (t.net.0 == net.0) && holds_line line t

-- the tracks of the trunks of a net that hold a line
abbrev pub tracks_at : List Trunk → NetNo → ℕ → List ℕ
tracks_at trunks net line = map (λ t. t.track) (filter (holds net line) trunks)

-- of two tracks the one farther from the row
abbrev pub farther : Row → ℕ → ℕ → ℕ
farther N a b = max a b
farther P a b = min a b

-- the farthest track of the trunks of a place's net that hold its line
abbrev pub far : List Trunk → NodePlace → Option ℕ
far trunks node = reduce (farther node.row) (tracks_at trunks node.net node.line)

-- the height of that track
abbrev pub reach_of : Frame → List Trunk → NodePlace → Option ℕ
reach_of f trunks node = option_map (track_y f) (far trunks node)

abbrev pub contact_with : List ℕ → NodePlace → Option ℕ → Contact
contact_with xs node reach = record { row = node.row; x = x_of xs node.line; net = node.net; reach = reach }

-- a node place is contacted where its net is a rail or has a trunk that holds its line
abbrev pub contact_of : Frame → Pins → List Trunk → List ℕ → NodePlace → Option Contact
contact_of f pins trunks xs node =
    if is_rail pins node.net then Some (contact_with xs node None)
    else option_map (λ reach. contact_with xs node (Some reach)) (reach_of f trunks node)

abbrev pub finger_width : Option Placed → Option ℕ
finger_width placed = option_map (λ (x : Placed). x.finger.width) placed

-- the height of the track of the first trunk of a gate's net that holds its line
abbrev pub gate_reach : Frame → List Trunk → GatePlace → Option ℕ
gate_reach f trunks place = option_map (λ t. track_y f t.track) (find (holds place.net place.line) trunks)

abbrev pub gate_with : Frame → List Trunk → List ℕ → Seat → GatePlace → Gate
gate_with f trunks xs seat place = record {
  x = x_of xs place.line;
  net = place.net;
  n = finger_width seat.column.n;
  p = finger_width seat.column.p;
  track = gate_reach f trunks place;
}

abbrev pub gate_at : Frame → List Trunk → List ℕ → Seat → Option Gate
gate_at f trunks xs seat = option_map (gate_with f trunks xs seat) (gate_of seat)

abbrev pub is_p : Row → Bool
is_p P = true
is_p N = false

-- the N row has a place of the same net at the line
abbrev pub is_over : NodePlace → NodePlace → Bool
is_over node other = not (is_p other.row) && (other.line == node.line) && (other.net.0 == node.net.0)

-- a place of the P row over one of the N row shares its via
abbrev pub has_own_via : List NodePlace → NodePlace → Bool
has_own_via nodes node = not (is_p node.row && list_any (is_over node) nodes)

-- a trunk of the same net on the same track holds the line and begins before this one
abbrev pub begins_before : Trunk → ℕ → Trunk → Bool
begins_before t line other = holds t.net line other && (other.track == t.track) && ltb other.left t.left

-- the trunk has the via of the place: no other of its net and track that holds the line begins before
abbrev pub has_via : List NodePlace → List Trunk → Trunk → NodePlace → Bool
has_via nodes trunks t node =
    holds node.net node.line t && has_own_via nodes node && not (list_any (begins_before t node.line) trunks)

-- The places of the vias of a trunk, from left to right: at each node line of its net that it holds, except those at
-- which a trunk of the net on the same track begins before it and has the via.
abbrev pub vias_of : List NodePlace → List Trunk → List ℕ → Trunk → List ℕ
vias_of nodes trunks xs t = map (λ node. x_of xs node.line) (filter (has_via nodes trunks t) nodes)

abbrev pub bar_of : Frame → List NodePlace → List Trunk → List ℕ → Trunk → Bar
bar_of f nodes trunks xs t = record {
  left = x_of xs t.left;
  right = x_of xs t.right;
  y = track_y f t.track;
  net = t.net;
  vias = vias_of nodes trunks xs t;
}

-- A net's name is on its rail, on its first trunk, or else at its only place.
abbrev pub node_tag : Frame → List ℕ → NodePlace → Tag
node_tag f xs node = record {
  layer = Active;
  x = x_of xs node.line;
  y = if is_p node.row then f.p_edge + LABEL_ON_FINGER else f.n_edge - LABEL_ON_FINGER;
  net = node.net;
}

abbrev pub gate_y : Frame → Option ℕ → ℕ
gate_y f None = f.p_edge - LABEL_ON_GATE
gate_y f (Some width) = f.n_edge + LABEL_ON_GATE

abbrev pub gate_tag : Frame → Gate → Tag
gate_tag f g = record { layer = Poly; x = g.x; y = gate_y f g.n; net = g.net }

abbrev pub metal_tag : ℕ → ℕ → NetNo → Tag
metal_tag x y net = record { layer = Metal1; x = x; y = y; net = net }

abbrev pub or_else : Option Tag → Option Tag → Option Tag
or_else None other = other
or_else (Some tag) other = Some tag

-- at the first place of a net
abbrev pub place_tag : Frame → List NodePlace → List ℕ → List Gate → NetNo → Option Tag
place_tag f nodes xs gates net =
    or_else (option_map (node_tag f xs) (find (λ node. node.net.0 == net.0) nodes))
    (option_map (gate_tag f) (find (λ g. g.net.0 == net.0) gates))

-- on the first trunk of a net, or else at its first place
abbrev pub net_tag : Frame → List NodePlace → List Trunk → List ℕ → List Gate → NetNo → Option Tag
net_tag f nodes trunks xs gates net =
    or_else (option_map (λ t. metal_tag (x_of xs t.left) (track_y f t.track) net) (trunk_of trunks net))
    (place_tag f nodes xs gates net)

abbrev pub tag_of : Pins → Frame → List NodePlace → List Trunk → List ℕ → List Gate → NetNo → Option Tag
tag_of pins f nodes trunks xs gates net =
    if net.0 == pins.gnd.0 then Some (metal_tag SIDE_SPACE LABEL_ON_GND net)
    else if net.0 == pins.vdd.0 then Some (metal_tag SIDE_SPACE (f.p_edge + f.p_height + LABEL_ON_VDD) net)
    else net_tag f nodes trunks xs gates net

abbrev pub net_no : ℕ → NetNo
net_no n = record { 0 = n }

-- in order of net
abbrev pub tags_of : Pins → Frame → ℕ → List NodePlace → List Trunk → List ℕ → List Gate → List Tag
tags_of pins f nets nodes trunks xs gates =
    filter_map (λ n. tag_of pins f nodes trunks xs gates (net_no n)) (range_with_len 0 nets)

abbrev pub gates_on : Frame → List Trunk → List ℕ → List Seat → List Gate
gates_on f trunks xs seats = filter_map (gate_at f trunks xs) seats

abbrev pub laid_out : Frame → ℕ → Pins → Placement → List Trunk → List ℕ → Layout
laid_out f nets pins placement trunks xs = record {
  frame = f;
  gnd = pins.gnd;
  vdd = pins.vdd;
  strips = flat_map (strips_at xs) (seats_of placement.row);
  contacts = filter_map (contact_of f pins trunks xs) placement.nodes;
  gates = gates_on f trunks xs (seats_of placement.row);
  bars = map (bar_of f placement.nodes trunks xs) trunks;
  tags = tags_of pins f nets placement.nodes trunks xs (gates_on f trunks xs (seats_of placement.row));
}

-- the layout of a routed row, on lines at these places and in a cell of this height
abbrev pub layout_of : ℕ → Pins → Placement → Routing → List ℕ → ℕ → Layout
layout_of nets pins placement routing xs height =
    laid_out (frame_of placement.row routing.tracks height (width_of placement xs)) nets pins placement
    routing.trunks xs
