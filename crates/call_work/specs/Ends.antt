-- What a call results in: its status, the files that it makes, and its report.
use Rattle.std.specs.Prelude.{ℕ, ◌≡◌, Bool, ◌==◌, ◌||◌, IsTrue, List, [], ◌∷◌, ◌++◌, codes, Option, Some, None}
use Rattle.std.specs.Prelude.{Result, Ok, Err}
use Rattle.std.specs.List.{list_any}
use Rattle.cell_io.specs.Desk.{Files, View}
use Rattle.call_end.specs.declared.end.End.{End}
use Rattle.call_end.specs.declared.status.Status.{Status}
use Rattle.call_end.specs.declared.status.Status.TheVariants as status
use Rattle.call_end.specs.End.{says}
use Rattle.call_end.specs.Status.{first_line, named_line, number_of}
use Rattle.call_read.specs.declared.refusal.Refusal.{Refusal}
use Rattle.call_read.specs.declared.refusal.Refusal.TheVariants.{Words, Unread, Long, Tech, Spice, Fold, Gds, Lef}
use Rattle.call_read.specs.declared.refusal.Refusal.TheVariants.{NoMemory}
use Rattle.call_read.specs.Reading.{called, MayCome}
use Rattle.call_read.specs.Sources.{Source}
use Rattle.call_words.specs.Words.{Form, usage_text}
use Rattle.call_work.specs.Commands.{Material, WorksTo, gathered, kind_of, read_by, settled_by}
use Rattle.cell_report.specs.AbstractFaults.{lef_fault}
use Rattle.cell_report.specs.Faults.{fault_line, tech_fault, spice_fault, fold_fault}
use Rattle.cell_report.specs.LayoutFaults.{gds_fault}

-- ---- a step that refuses

abbrev pub refusal_status : Refusal → Status
refusal_status Words = status.Usage
refusal_status (Unread name) = status.ReadFault
refusal_status (Long name) = status.TooLong
refusal_status (Tech f) = status.Input
refusal_status (Spice f) = status.Input
refusal_status (Fold f) = status.Input
refusal_status (Gds f) = status.Layout
refusal_status (Lef f) = status.Disagree
refusal_status NoMemory = status.NoMemory

abbrev pub refusal_text : Refusal → List ℕ
refusal_text Words = first_line status.Usage ++ usage_text
refusal_text (Unread name) = named_line status.ReadFault name
refusal_text (Long name) = named_line status.TooLong name
refusal_text (Tech f) = first_line status.Input ++ fault_line (codes "tech") (tech_fault f)
refusal_text (Spice f) = first_line status.Input ++ fault_line (codes "spice") (spice_fault f)
refusal_text (Fold f) = first_line status.Input ++ fault_line (codes "fold") (fold_fault f)
refusal_text (Gds f) = first_line status.Layout ++ fault_line (codes "gds") (gds_fault f)
refusal_text (Lef f) = first_line status.Disagree ++ fault_line (codes "lef") (lef_fault f)
refusal_text NoMemory = []

abbrev pub refused : Refusal → End
refused e = says (refusal_status e) (refusal_text e)

-- ---- the whole

-- it was gathered, or a step refused
abbrev pub EndsTo : Result Material Refusal → End → Type 0
EndsTo (Ok m) end = WorksTo m.0 m.1 end
EndsTo (Err e) end = end ≡ refused e

-- a call of a form over files that are shown
abbrev pub CallsFor : Files → Option Form → End → Type 0
CallsFor files form end = EndsTo (called files (gathered form)) end

-- a call of a form over a desk, seen before and after it
abbrev pub MayEnd : View → View → Option Form → End → Type 0
MayEnd old new form end = (got : Result Material Refusal) × MayCome old new (gathered form) got × EndsTo got end

-- ---- the statuses of a form

abbrev pub is_among : List Status → Status → Bool
is_among listed answer = list_any (λ other. number_of other == number_of answer) listed

abbrev pub settled_of : Option Form → List Status
settled_of None = status.Usage ∷ []
settled_of (Some form) = settled_by (kind_of form)

-- what a file may bring about, where files are read
abbrev pub file_statuses : List Source → List Status
file_statuses [] = []
file_statuses (source ∷ sources) = status.ReadFault ∷ status.TooLong ∷ []

-- what a file or the desk may bring about
abbrev pub outside_of : Option Form → List Status
outside_of form = status.WriteFault ∷ status.NoMemory ∷ file_statuses (read_by form)

abbrev pub is_status_of : Option Form → Status → Bool
is_status_of form answer = is_among (settled_of form) answer || is_among (outside_of form) answer

-- the statuses of the desk or of memory
abbrev pub desk_statuses : List Status
desk_statuses = status.ReadFault ∷ status.WriteFault ∷ status.NoMemory ∷ []

abbrev pub IsOfOutside : Status → Type 0
IsOfOutside answer = IsTrue (is_among desk_statuses answer)

-- no reading failed before an end with another status than these
abbrev pub KeepsReadsOf : View → View → End → Type 0
KeepsReadsOf old new end = (IsOfOutside end.status → ⊥) → new.read_faults ≡ old.read_faults
