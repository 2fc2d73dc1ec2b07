-- The faults of a LEF file, and the differences between an abstract and a drawing, by their names and fields.
use Rattle.std.specs.Prelude.{ℕ, List, [], ◌∷◌, codes, if◌then◌else◌}
use Rattle.box_geom.specs.Layers.{same_layer}
use Rattle.box_geom.specs.declared.layer.Layer.{Layer}
use Rattle.box_geom.specs.declared.layer.Layer.TheVariants.{Metal2}
use Rattle.lef_read.specs.declared.fault.LefFault.{LefFault}
use Rattle.lef_read.specs.declared.fault.LefFault.TheVariants as lef
use Rattle.lef_read.specs.declared.differ.Differ.{Differ}
use Rattle.lef_read.specs.declared.differ.Differ.TheVariants as differ
use Rattle.cell_report.specs.Faults.{Fault, Signed, Text, at_line, fault_line, fault_of}
use Rattle.cell_report.specs.LayoutFaults.{extract_fault, with_text}

abbrev pub lef_fault : LefFault → Fault
lef_fault (lef.Statement line) = at_line (codes "Statement") line
lef_fault (lef.Number line) = at_line (codes "Number") line
lef_fault lef.Cut = fault_of (codes "Cut") []
lef_fault lef.NoMacro = fault_of (codes "NoMacro") []
lef_fault (lef.Grid line) = at_line (codes "Grid") line
lef_fault lef.NoMemory = fault_of (codes "NoMemory") []

-- the layer of metal that a macro shows
abbrev pub metal_text : Layer → List ℕ
metal_text layer = if same_layer layer Metal2 then codes "metal2" else codes "metal1"

-- a difference; that the drawing has no netlist is reported as extraction reports it
abbrev pub differ_text : Differ → List ℕ
differ_text (differ.Extract f) = fault_line (codes "extract") (extract_fault f)
differ_text (differ.NoLabel name) = fault_line (codes "agree") (with_text (codes "NoLabel") (codes "name") name)
differ_text (differ.Port name x y) =
    fault_line (codes "agree")
    (fault_of (codes "Port") (Text (codes "name") name ∷ Signed (codes "x") x ∷ Signed (codes "y") y ∷ []))
differ_text (differ.Bare layer x y) =
    fault_line (codes "agree")
    (fault_of (codes "Bare")
    (Text (codes "layer") (metal_text layer) ∷ Signed (codes "x") x ∷ Signed (codes "y") y ∷ []))
differ_text differ.NoMemory = fault_line (codes "agree") (fault_of (codes "NoMemory") [])
