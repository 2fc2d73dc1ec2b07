-- The fault of a record as one of the file.
use Rattle.gds_record.specs.declared.record.RecFault.{RecFault}
use Rattle.gds_record.specs.declared.record.RecFault.TheVariants as record_fault
use Rattle.gds_area.specs.declared.fault.GdsFault.{GdsFault}
use Rattle.gds_area.specs.declared.fault.GdsFault.TheVariants as fault

abbrev pub as_fault : RecFault → GdsFault
as_fault (record_fault.Cut at) = fault.Cut at
as_fault (record_fault.Length at) = fault.Length at
