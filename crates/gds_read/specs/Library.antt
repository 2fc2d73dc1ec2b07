-- The bytes of a library: whole records in the order of the grammar, then zero bytes.
use Rattle.std.specs.Prelude.{ℕ, ◌≡◌, ◌+◌, List, [], ◌∷◌, ◌++◌, length, Result, Ok, Err, replicate}
use Rattle.std.specs.List.{AllByRecursion}
use Rattle.gds_record.specs.Records.{Raw, IsRaw, spelling, item, item_of, record_at}
use Rattle.gds_record.specs.declared.record.GdsRec.{GdsRec}
use Rattle.gds_record.specs.declared.record.RecFault.{RecFault}
use Rattle.gds_area.specs.declared.fault.GdsFault.{GdsFault}
use Rattle.gds_read.specs.declared.grammar.Place.{Place}
use Rattle.gds_read.specs.declared.grammar.Place.TheVariants.{Start, Ended}
use Rattle.gds_read.specs.Grammar.{step_of, zeros_behind}
use Rattle.gds_area.specs.Faults.{as_fault}

-- Each record, from a place of the bytes and a place of the grammar on, is right at its place, and
-- they lead to another place of the grammar. After the end of the library there is no record.
abbrev pub Follows : ℕ → Place → List Raw → Place → Type 0
Follows at place [] last = place ≡ last
Follows at Ended (r ∷ rs) last = ⊥
Follows at place (r ∷ rs) last =
    (next : Place) × (step_of place (item at r) ≡ Ok next) × Follows (at + (length r.content + 4)) next rs last

-- whole records from the grammar's start to its end, then zero bytes
pub record IsLibrary (bytes : List ℕ) (end : ℕ) : Type 0 where
  pub records : List Raw
  pub zeros : ℕ
  pub is : bytes ≡ spelling records ++ replicate zeros 0
  pub whole : AllByRecursion IsRaw records
  pub follows : Follows 0 Start records Ended
  pub ends : length (spelling records) ≡ end

abbrev pub fault_or : Result GdsRec RecFault → (GdsRec → Result Place GdsFault) → Result Place GdsFault
fault_or (Err f) step = Err (as_fault f)
fault_or (Ok r) step = step r

-- what is wrong with the record at a place of the bytes and of the grammar
abbrev pub step_at : List ℕ → ℕ → Place → Result Place GdsFault
step_at bytes at place = fault_or (record_at bytes at) (λ r. step_of place (item_of bytes r))

-- After the end the first byte that is not zero is wrong, elsewhere the record.
abbrev pub HasFault : List ℕ → ℕ → Place → GdsFault → Type 0
HasFault bytes at Ended f = zeros_behind bytes at ≡ Err f
HasFault bytes at place f = step_at bytes at place ≡ Err f

-- Whole records that are right at their places, and after them the first that is not.
pub record IsFirstFault (bytes : List ℕ) (f : GdsFault) : Type 0 where
  pub before : List Raw
  pub rest : List ℕ
  pub is : bytes ≡ spelling before ++ rest
  pub whole : AllByRecursion IsRaw before
  pub place : Place
  pub follows : Follows 0 Start before place
  pub fault : HasFault bytes (length (spelling before)) place f
