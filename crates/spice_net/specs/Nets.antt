-- Nets and their numbers, and the transistors over them.
use Rattle.std.specs.Prelude.{ℕ, not, List, [], ◌∷◌, ◌++◌, filter, flat_map, map, replicate, bytes_eq}
use Rattle.std.specs.List.{position_or_len}
use Rattle.cell_num.specs.declared.net.NetNo.{NetNo}
use Rattle.spice_net.specs.Transistors.{Transistor}
use Rattle.spice_net.specs.declared.subckt.Device.{Device}

-- Words without repeats: each word after its first place is dropped.
abbrev pub distinct : List (List ℕ) → List (List ℕ)
distinct [] = []
distinct (word ∷ words) = word ∷ filter (λ other. not (bytes_eq other word)) (distinct words)

-- the nets of the transistors, as their drains, gates and sources name them
abbrev pub named_nets : List Transistor → List (List ℕ)
named_nets transistors = flat_map (λ t. t.drain ∷ t.gate ∷ t.source ∷ []) transistors

-- the pins come first
abbrev pub nets_of : List (List ℕ) → List Transistor → List (List ℕ)
nets_of pins transistors = distinct (pins ++ named_nets transistors)

-- a net's number is its place among the nets
abbrev pub number_of : List (List ℕ) → List ℕ → ℕ
number_of nets name = position_or_len (bytes_eq name) nets

abbrev pub net_of : List (List ℕ) → List ℕ → NetNo
net_of nets name = record { 0 = number_of nets name }

abbrev pub device_of : List (List ℕ) → Transistor → Device
device_of nets t =
    record {
      row = t.row;
      drain = net_of nets t.drain;
      gate = net_of nets t.gate;
      source = net_of nets t.source;
      width = t.width;
      fingers = t.fingers;
    }

-- each line's transistor as often as the line stands for it
abbrev pub with_copies : List Transistor → List Transistor
with_copies transistors = flat_map (λ t. replicate t.copies t) transistors

abbrev pub devices_of : List (List ℕ) → List Transistor → List Device
devices_of nets transistors = map (device_of nets) (with_copies transistors)
