-- How many structures a library has.
use Rattle.std.specs.Prelude.{ℕ, ◌≡◌, List, filter, length}
use Rattle.gds_record.specs.declared.types.RecordType.TheVariants as record_type
use Rattle.gds_record.specs.Records.{items_from}
use Rattle.gds_read.specs.Structure.{is_type}

-- one record begins a structure
abbrev pub HasOneStructure : List ℕ → Type 0
HasOneStructure bytes = length (filter (is_type record_type.BgnStr) (items_from bytes 0)) ≡ 1
