-- What the desks in memory hold.
use Rattle.std.specs.Prelude.{ℕ, ◌≡◌, ◌+◌, ◌-◌, ◌^◌, min, List, length, take, drop, Contains, option_map, find}
use Rattle.std.specs.Prelude.{Result, Err, Some, None}
use Rattle.std.specs.Str.{bytes_eq}
use Rattle.std.specs.BTreeMap.{get_by_text}
use Rattle.cell_io.specs.Desk.{Files, View}
use Rattle.cell_io.specs.declared.desk.DeskAnswer.{DeskAnswer}
use Rattle.cell_io.specs.declared.desk.DeskAnswer.TheVariants.{Failed, NoMemory}
use Rattle.cell_io.specs.declared.mem.File.{File}
use Rattle.cell_io.specs.declared.mem.MemDesk.{MemDesk}
use Rattle.cell_io.specs.declared.steady.SteadyDesk.{SteadyDesk}

-- the files of a list, by name; of two with one name the first
abbrev pub files_of : List File → Files
files_of files name = option_map (λ (f : File). f.bytes) (find (λ f. bytes_eq f.name name) files)

-- the files that the desk reads from
abbrev pub given_files : MemDesk → Files
given_files desk = files_of desk.given

-- the files made through it
abbrev pub made_files : MemDesk → Files
made_files desk name = get_by_text desk.made name

-- the names of the files created through it, in order
abbrev pub created_names : MemDesk → List (List ℕ)
created_names desk = desk.created.items

abbrev pub said_bytes : MemDesk → List ℕ
said_bytes desk = desk.said

-- the calls that are to fail, by their numbers
abbrev pub failing_calls : MemDesk → List ℕ
failing_calls desk = desk.fail

-- how many bytes a call moves at most
abbrev pub most_of : MemDesk → ℕ
most_of desk = desk.most

-- the number of the next call
abbrev pub next_call : MemDesk → ℕ
next_call desk = desk.calls

-- how often reading, writing and growing have failed
abbrev pub read_faults_of : MemDesk → ℕ
read_faults_of desk = desk.read_faults

abbrev pub write_faults_of : MemDesk → ℕ
write_faults_of desk = desk.write_faults

abbrev pub shorts_of : MemDesk → ℕ
shorts_of desk = desk.shorts

-- what contracts see of it
abbrev pub mem_view : MemDesk → View
mem_view desk = record {
  given = Some (given_files desk);
  made = Some (made_files desk);
  created = Some (created_names desk);
  said = Some (said_bytes desk);
  read_faults = read_faults_of desk;
  write_faults = write_faults_of desk;
  shorts = shorts_of desk;
}

-- the next call is to fail
abbrev pub IsToFail : MemDesk → Type 0
IsToFail desk = Contains (failing_calls desk) (next_call desk)

-- one more, except that the greatest u64 stays
abbrev pub one_more : ℕ → ℕ
one_more count = min (count + 1) (2 ^ 64 - 1)

-- a count of failures rises by one at Failed alone, one of short memory at NoMemory alone
abbrev pub CountsFailed : {T : Type 0} → Result T DeskAnswer → ℕ → ℕ → Type 0
CountsFailed (Err Failed) old new = new ≡ one_more old
CountsFailed _ old new = new ≡ old

abbrev pub CountsShort : {T : Type 0} → Result T DeskAnswer → ℕ → ℕ → Type 0
CountsShort (Err NoMemory) old new = new ≡ one_more old
CountsShort _ old new = new ≡ old

-- what each call does: it takes the next number, and neither the given files, nor the list of failing calls, nor the
-- most bytes of a call change
pub record IsAfterCall (old new : MemDesk) : Type 0 where
  pub number : next_call new ≡ one_more (next_call old)
  pub failing : failing_calls new ≡ failing_calls old
  pub most : most_of new ≡ most_of old
  pub given : given_files new ≡ given_files old

-- as many bytes of the file from a place on as there are and fit, but no more than the most, were copied to the front
-- of the buffer, and the rest of it is as it was
pub record IsCopied (from most : ℕ) (old new : List ℕ) (count : ℕ) (file : List ℕ) : Type 0 where
  pub many : count ≡ min (min (length file - from) (length old)) most
  pub bytes : take count new ≡ take count (drop from file)
  pub rest : drop count new ≡ drop count old

-- the files that a steady desk reads from
abbrev pub steady_files : SteadyDesk → Files
steady_files desk = files_of desk.given

-- how many bytes were written to files, and how many were said
abbrev pub bytes_written : SteadyDesk → ℕ
bytes_written desk = desk.written

abbrev pub bytes_said : SteadyDesk → ℕ
bytes_said desk = desk.said

-- what contracts see of it: its files, and counts that stay at 0
abbrev pub steady_view : SteadyDesk → View
steady_view desk = record {
  given = Some (steady_files desk);
  made = None;
  created = None;
  said = None;
  read_faults = 0;
  write_faults = 0;
  shorts = 0;
}
