-- The lines of a netlist. Widths and lengths are in grid units.
use Rattle.std.specs.Prelude.{ℕ, List, [], ◌++◌, length, flat_map, slice_get, codes, decimal, Option, Some, None}
use Rattle.std.specs.List.{enumerate_from}
use Rattle.cell_num.specs.Lines.{text_line, count_line}
use Rattle.cell_num.specs.declared.finger.Row.{Row}
use Rattle.cell_num.specs.declared.finger.Row.TheVariants.{P, N}
use Rattle.net_extract.specs.declared.netlist.Drawn.{Drawn}
use Rattle.net_extract.specs.declared.netlist.Netlist.{Netlist}
use Rattle.cell_report.specs.Names.{name_of}

abbrev pub device_row : Row → List ℕ
device_row P = codes "p"
device_row N = codes "n"

-- the net at a device's gate, and those along its two sides, the lesser number first
abbrev pub nets_text : List (List ℕ) → Drawn → List ℕ
nets_text nets d =
    codes " gate " ++ name_of nets d.gate ++ codes " ends " ++ name_of nets d.lo ++ codes " " ++ name_of nets d.hi

abbrev pub net_line : ℕ × List ℕ → List ℕ
net_line numbered = codes "net " ++ decimal numbered.0 ++ text_line (codes " ") numbered.1

-- the net of a device's body, where there is one
abbrev pub body_name : List (List ℕ) → Option (Option ℕ) → List ℕ
body_name nets (Some (Some net)) = name_of nets net
body_name nets (Some None) = codes "-"
body_name nets None = codes "-"

-- the body of the device with that number, where bodies are reported
abbrev pub body_text : List (List ℕ) → Option (List (Option ℕ)) → ℕ → List ℕ
body_text nets None at = []
body_text nets (Some bodies) at = codes " body " ++ body_name nets (slice_get bodies at)

abbrev pub device_line : List (List ℕ) → Option (List (Option ℕ)) → ℕ × Drawn → List ℕ
device_line nets bodies numbered =
    codes "device "
    ++ decimal numbered.0
    ++ codes " "
    ++ device_row numbered.1.row
    ++ nets_text nets numbered.1
    ++ codes " width "
    ++ decimal numbered.1.width
    ++ codes " length "
    ++ decimal numbered.1.length
    ++ body_text nets bodies numbered.0
    ++ codes "\n"

abbrev pub net_lines : List (List ℕ) → List ℕ
net_lines nets = flat_map net_line (enumerate_from 0 nets)

abbrev pub device_lines : Netlist → Option (List (Option ℕ)) → List ℕ
device_lines netlist bodies = flat_map (device_line netlist.names bodies) (enumerate_from 0 netlist.devices)

-- the cell's name, the numbers of its nets and devices, its nets by number, and its devices, with their bodies where
-- these are reported
abbrev pub netlist_text : List ℕ → Netlist → Option (List (Option ℕ)) → List ℕ
netlist_text name netlist bodies =
    text_line (codes "cell ") name
    ++ count_line (codes "nets ") (length netlist.names)
    ++ count_line (codes "devices ") (length netlist.devices)
    ++ net_lines netlist.names
    ++ device_lines netlist bodies
