-- The files that a call reads, and what reading one may result in.
use Rattle.std.specs.Prelude.{ℕ, ◌≡◌, ◌≤◌, ◌⊎◌, nat_le, List, length, Contains, IsNone, Option, Some, None, Result}
use Rattle.std.specs.Prelude.{Ok, Err, if◌then◌else◌}
use Rattle.cell_io.specs.Desk.{Files}
use Rattle.call_read.specs.declared.refusal.Refusal.{Refusal}
use Rattle.call_read.specs.declared.refusal.Refusal.TheVariants.{Unread, Long}

-- a file to read: what it is read as, and its name
pub data Source : Type 0 where
  TechFile : (name : List ℕ) → Source
  SpiceFile : (name : List ℕ) → Source
  LogFile : (name : List ℕ) → Source
  GdsFile : (name : List ℕ) → Source
  LefFile : (name : List ℕ) → Source
  TrailFile : (name : List ℕ) → Source
  TrackFile : (name : List ℕ) → Source

abbrev pub file_name : Source → List ℕ
file_name (TechFile name) = name
file_name (SpiceFile name) = name
file_name (LogFile name) = name
file_name (GdsFile name) = name
file_name (LefFile name) = name
file_name (TrailFile name) = name
file_name (TrackFile name) = name

-- the most bytes of a file: 4 MiB, 512 MiB for a log and a certificate by trails or of tracks, and 64 MiB for a GDSII
-- file and a LEF file
abbrev pub most_bytes : Source → ℕ
most_bytes (TechFile name) = 4194304
most_bytes (SpiceFile name) = 4194304
most_bytes (LogFile name) = 536870912
most_bytes (GdsFile name) = 67108864
most_bytes (LefFile name) = 67108864
most_bytes (TrailFile name) = 536870912
most_bytes (TrackFile name) = 536870912

-- the bytes of a file that is there and within its limit
abbrev pub within : List ℕ → ℕ → Option (List ℕ) → Result (List ℕ) Refusal
within name most None = Err (Unread name)
within name most (Some bytes) = if nat_le (length bytes) most then Ok bytes else Err (Long name)

-- the bytes of a file as the files call for
abbrev pub held : Files → Source → Result (List ℕ) Refusal
held files source = within (file_name source) (most_bytes source) (files (file_name source))

-- What reading a file over a desk may result in: what its files call for, where they are shown; some bytes within
-- the limit, or too many, where they are not; or, where a reading failed in the call, that the file is unread.
abbrev pub MayRead : Option Files → Type 0 → Source → Result (List ℕ) Refusal → Type 0
MayRead (Some files) failed source read =
    (read ≡ held files source) ⊎ (failed × (read ≡ Err (Unread (file_name source))))
MayRead None failed source (Ok bytes) = length bytes ≤ most_bytes source
MayRead None failed source (Err e) = (e ≡ Long (file_name source)) ⊎ (failed × (e ≡ Unread (file_name source)))

-- one of the files is not among those that are shown
abbrev pub Lacks : Option Files → List Source → Type 0
Lacks None sources = ⊥
Lacks (Some files) sources = (source : Source) × Contains sources source × IsNone (files (file_name source))
