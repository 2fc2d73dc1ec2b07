-- Faults of the parts that read files as refusals of the whole: out of memory is that of the whole.
use Rattle.std.specs.Prelude.{Result, Ok, Err}
use Rattle.tech_file.specs.declared.fault.TechFault.{TechFault}
use Rattle.tech_file.specs.declared.fault.TechFault.TheVariants as tech
use Rattle.spice_net.specs.declared.fault.SpiceFault.{SpiceFault}
use Rattle.spice_net.specs.declared.fault.SpiceFault.TheVariants as spice
use Rattle.finger_fold.specs.declared.folding.FoldFault.{FoldFault}
use Rattle.finger_fold.specs.declared.folding.FoldFault.TheVariants as fold
use Rattle.gds_area.specs.declared.fault.GdsFault.{GdsFault}
use Rattle.gds_area.specs.declared.fault.GdsFault.TheVariants as gds
use Rattle.lef_read.specs.declared.fault.LefFault.{LefFault}
use Rattle.lef_read.specs.declared.fault.LefFault.TheVariants as lef
use Rattle.call_read.specs.declared.refusal.Refusal.{Refusal}
use Rattle.call_read.specs.declared.refusal.Refusal.TheVariants.{Tech, Spice, Fold, Gds, Lef, NoMemory}

abbrev pub tech_refusal : TechFault → Refusal
tech_refusal tech.NoMemory = NoMemory
tech_refusal f = Tech f

abbrev pub spice_refusal : SpiceFault → Refusal
spice_refusal spice.NoMemory = NoMemory
spice_refusal f = Spice f

abbrev pub fold_refusal : FoldFault → Refusal
fold_refusal fold.NoMemory = NoMemory
fold_refusal f = Fold f

abbrev pub gds_refusal : GdsFault → Refusal
gds_refusal gds.NoMemory = NoMemory
gds_refusal f = Gds f

abbrev pub lef_refusal : LefFault → Refusal
lef_refusal lef.NoMemory = NoMemory
lef_refusal f = Lef f

-- a fault of a part as the refusal of the whole
abbrev pub as_refusal : {A F : Type 0} → (F → Refusal) → Result A F → Result A Refusal
as_refusal refusal (Ok x) = Ok x
as_refusal refusal (Err f) = Err (refusal f)
