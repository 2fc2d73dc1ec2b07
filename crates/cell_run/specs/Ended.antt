-- What holds of what a call over shown files works on, by its kind, or of the refusal in its place.
use Rattle.std.specs.Prelude.{◌≡◌, Option, Some, None, Ok, Err}
use Rattle.cell_io.specs.Desk.{Files, View, Both}
use Rattle.gds_area.specs.declared.fault.GdsFault.{GdsFault}
use Rattle.lef_read.specs.declared.fault.LefFault.{LefFault}
use Rattle.call_end.specs.Deliver.{Says}
use Rattle.call_end.specs.declared.status.Status.{Status}
use Rattle.call_read.specs.Reading.{called}
use Rattle.call_read.specs.declared.refusal.Refusal.{Refusal}
use Rattle.call_read.specs.declared.refusal.Refusal.TheVariants.{Gds, Lef}
use Rattle.call_words.specs.Words.{Form}
use Rattle.call_work.specs.Commands.{Kind, MaterialOf, gathered, kind_of}
use Rattle.call_work.specs.Ends.{refusal_text}

-- the words have a form, and it is of the kind
abbrev pub IsOfKind : Kind → Option Form → Type 0
IsOfKind kind None = ⊥
IsOfKind kind (Some form) = kind_of form ≡ kind

-- all that the form reads is there and accepted, and so it is of the material
abbrev pub Gathers : (kind : Kind) → Files → Option Form → (MaterialOf kind → Type 0) → Type 0
Gathers kind files form Is = (m : MaterialOf kind) × (called files (gathered form) ≡ Ok (kind, m)) × Is m

-- so it is where a call of the kind ends with this status
abbrev pub WhereEnds : (kind : Kind) → Files → Option Form → Status → Status → (MaterialOf kind → Type 0) → Type 0
WhereEnds kind files form answer settled Is = IsOfKind kind form → answer ≡ settled → Gathers kind files form Is

-- ---- a step that is refused

-- a fault of the GDSII file, or of the LEF file
abbrev pub IsGdsFault : Refusal → Type 0
IsGdsFault e = (f : GdsFault) × (e ≡ Gds f)

abbrev pub IsLefFault : Refusal → Type 0
IsLefFault e = (f : LefFault) × (e ≡ Lef f)

-- such a fault comes first
abbrev pub IsRefusedBy : (Refusal → Type 0) → Files → Option Form → Type 0
IsRefusedBy Is files form = (e : Refusal) × Is e × (called files (gathered form) ≡ Err e)

-- it was reported
pub record IsToldFault (Is : Refusal → Type 0) (files : Files) (form : Option Form) (old new : View) : Type 0 where
  pub fault : Refusal
  pub of : Is fault
  pub first : called files (gathered form) ≡ Err fault
  pub says : Both (Says (refusal_text fault)) old.said new.said
