-- What is read for inputs, for a drawing and for its macro, and what these readings end with by themselves.
use Rattle.std.proofs.Common.{ℕ, ◌≡◌, ◌++◌, true, List, [], ◌∷◌, Option, Some, None, Result, Ok, Err, IfErr, Contains, refl, sym, subst, arith}
use Rattle.box_geom.specs.declared.shape.Shapes.{Shapes}
use Rattle.cell_num.specs.Names.{lowered}
use Rattle.cell_num.specs.declared.finger.Fingers.{Fingers}
use Rattle.tech_file.specs.Technology.{Technology}
use Rattle.tech_file.specs.Reading.{technology}
use Rattle.spice_net.specs.declared.subckt.Subckt.{Subckt}
use Rattle.spice_net.specs.Subcircuit.{subcircuit}
use Rattle.finger_fold.specs.Folding.{folded}
use Rattle.gds_read.specs.Decoding.{decoded}
use Rattle.lef_read.specs.Macros.{macro_in}
use Rattle.lef_read.specs.declared.cell.Macro.{Macro}
use Rattle.layout_commands.specs.Agree.{compared, comparing, comparing_over, comparing_with}
use Rattle.cell_inputs.specs.Inputs.{inputs_of, unit_nm}
use Rattle.call_end.specs.declared.status.Status.{Status}
use Rattle.call_end.specs.declared.status.Status.TheVariants as status
use Rattle.call_words.specs.Asked.{CellAsked, RowAsked}
use Rattle.call_words.specs.Words.{Form}
use Rattle.call_read.proofs.Reading.{Keeps, keeps_on}
use Rattle.call_read.proofs.Results.{err_behind}
use Rattle.call_read.specs.InputFiles.{input_files, inputs_from, tech_files, technology_from}
use Rattle.call_read.specs.Inputs.{inputs_in}
use Rattle.call_read.specs.Reading.{Reading, Ends, bytes_of, ◌>>=◌}
use Rattle.call_read.specs.Refusals.{as_refusal}
use Rattle.call_read.specs.Sources.{Source, TechFile, SpiceFile, GdsFile, LefFile}
use Rattle.call_read.specs.declared.refusal.Refusal.{Refusal}
use Rattle.call_read.specs.declared.refusal.Refusal.TheVariants.{Words, Tech, Spice, Fold, Gds, Lef}
use Rattle.call_work.specs.Commands.{Kind, Material, kind_of, settled_by}
use Rattle.call_work.specs.Ends.{is_among, refusal_status}
use Rattle.layout_commands.specs.Row.{rowing, rowing_over}
use Rattle.scmos_rules.specs.declared.rules.Deck.{Deck}
use Rattle.layout_commands.specs.Extract.{extracting, extracting_over, gds_cell}

-- ---- faults of parts

fault_is : {A F : Type 0} (Is : Refusal → Type 0) (refusal : F → Refusal) → ((f : F) → Is (refusal f)) → (r : Result A F) → IfErr (as_refusal refusal r) Is
fault_is Is refusal each (Ok x) = tt
fault_is Is refusal each (Err f) = each f

-- a refusal that a kind of commands settles for
abbrev pub IsOwnFault : Kind → Refusal → Type 0
IsOwnFault kind e = is_among (settled_by kind) (refusal_status e) ≡ true

abbrev pub IsOwn : {A : Type 0} → Kind → Result A Refusal → Type 0
IsOwn kind ended = IfErr ended (IsOwnFault kind)

-- a file whose bytes are decoded, for a kind that settles for their faults
decoded_keeps : {A B F : Type 0} (May : Source → Type 0) (kind : Kind) (source : Source) (refusal : F → Refusal) (decode : List ℕ → Result A F) (next : A → Reading B) → May source → ((f : F) → IsOwnFault kind (refusal f)) → ((x : A) → Keeps May (IsOwn kind) (next x)) → Keeps May (IsOwn kind) (bytes_of source >>= (λ bytes. Ends (as_refusal refusal (decode bytes))) >>= next)
decoded_keeps May kind source refusal decode next there own each =
    (there, λ bytes. keeps_on May (IsOwn kind) (IsOwn kind) (Ends (as_refusal refusal (decode bytes))) next (fault_is (IsOwnFault kind) refusal own (decode bytes)) (λ x is. each x) (λ e is. is))

-- ---- the inputs

abbrev pub IsInputFault : Refusal → Type 0
IsInputFault e = refusal_status e ≡ status.Input

abbrev pub IsInputs : {A : Type 0} → Result A Refusal → Type 0
IsInputs ended = IfErr ended IsInputFault

pub inputs_in_are : (bytes name : List ℕ) (tech : Technology) → IsInputs (inputs_in bytes name tech)
inputs_in_are bytes name tech =
    err_behind IsInputFault (as_refusal Spice (subcircuit bytes name tech)) _ (fault_is IsInputFault Spice (λ f. refl) (subcircuit bytes name tech))
    (λ (cell : Subckt). err_behind IsInputFault (as_refusal Fold (folded tech cell)) (λ (fingers : Fingers). Ok (inputs_of tech cell fingers)) (fault_is IsInputFault Fold (λ f. refl) (folded tech cell)) (λ fingers. tt))

pub tech_keeps : (May : Source → Type 0) (file : Option (List ℕ)) → ((name : List ℕ) → file ≡ Some name → May (TechFile name)) → Keeps May IsInputs (technology_from file)
tech_keeps May None there = tt
tech_keeps May (Some name) there = (there name refl, λ bytes. fault_is IsInputFault Tech (λ f. refl) (technology bytes))

tech_there : (file : Option (List ℕ)) (spice name : List ℕ) → file ≡ Some name → Contains (input_files file spice) (TechFile name)
tech_there file spice name is = rw is (0, omega arith, refl)

spice_there : (file : Option (List ℕ)) (spice : List ℕ) → Contains (input_files file spice) (SpiceFile spice)
spice_there None spice = (0, omega arith, refl)
spice_there (Some name) spice = (1, omega arith, refl)

pub inputs_keep : (May : Source → Type 0) (asked : CellAsked) → ((source : Source) → Contains (input_files asked.tech asked.spice) source → May source) → Keeps May IsInputs (inputs_from asked)
inputs_keep May asked there =
    keeps_on May IsInputs IsInputs (technology_from asked.tech) _ (tech_keeps May asked.tech (λ name is. there (TechFile name) (tech_there asked.tech asked.spice name is)))
    (λ tech is. (there (SpiceFile asked.spice) (spice_there asked.tech asked.spice), λ bytes. inputs_in_are bytes (lowered asked.cell) tech))
    (λ e is. is)

-- what a row is made of, whose cells are looked at when they are made
pub rowing_keeps : (May : Source → Type 0) (asked : RowAsked) → ((source : Source) → Contains (input_files asked.tech asked.spice) source → May source) → Keeps May IsInputs (rowing asked)
rowing_keeps May asked there =
    keeps_on May IsInputs IsInputs (technology_from asked.tech) (rowing_over asked) (tech_keeps May asked.tech (λ name is. there (TechFile name) (tech_there asked.tech asked.spice name is)))
    (λ tech is. (there (SpiceFile asked.spice) (spice_there asked.tech asked.spice), λ bytes. tt))
    (λ e is. is)

-- ---- a cell of a GDSII file, and its macro

-- a kind that settles for a status settles for the refusals of that status
settles_for : (kind : Kind) (e : Refusal) (wanted : Status) → is_among (settled_by kind) wanted ≡ true → refusal_status e ≡ wanted → IsOwnFault kind e
settles_for kind e wanted own is = subst (λ (answer : Status). is_among (settled_by kind) answer ≡ true) (sym is) own

pub drawn_keeps : (May : Source → Type 0) (kind : Kind) (tech : Option (List ℕ)) (gds name : List ℕ) (rules : Deck) → is_among (settled_by kind) status.Input ≡ true → is_among (settled_by kind) status.Layout ≡ true → ((file : List ℕ) → tech ≡ Some file → May (TechFile file)) → May (GdsFile gds) → Keeps May (IsOwn kind) (extracting tech gds name rules)
drawn_keeps May kind tech gds name rules input layout there file =
    keeps_on May IsInputs (IsOwn kind) (technology_from tech) (extracting_over gds name rules) (tech_keeps May tech there)
    (λ read is. decoded_keeps May kind (GdsFile gds) Gds (λ bytes. decoded bytes name read.lambda_nm) (λ (shapes : Shapes). Ends (Ok (gds_cell name rules shapes))) file (λ f. layout) (λ shapes. tt))
    (λ e is. settles_for kind e status.Input input is)

pub compared_keeps : (May : Source → Type 0) (kind : Kind) (tech : Option (List ℕ)) (gds lef name : List ℕ) → is_among (settled_by kind) status.Input ≡ true → is_among (settled_by kind) status.Layout ≡ true → is_among (settled_by kind) status.Disagree ≡ true → ((file : List ℕ) → tech ≡ Some file → May (TechFile file)) → May (GdsFile gds) → May (LefFile lef) → Keeps May (IsOwn kind) (comparing tech gds lef name)
compared_keeps May kind tech gds lef name input layout disagree there drawing abstracts =
    keeps_on May IsInputs (IsOwn kind) (technology_from tech) (comparing_over gds lef name) (tech_keeps May tech there)
    (λ read is. decoded_keeps May kind (GdsFile gds) Gds (λ bytes. decoded bytes name read.lambda_nm) (comparing_with lef name read) drawing (λ f. layout)
    (λ shapes. decoded_keeps May kind (LefFile lef) Lef (λ bytes. macro_in bytes name (unit_nm read)) (λ (cell : Macro). Ends (Ok (compared shapes cell))) abstracts (λ f. disagree) (λ cell. tt)))
    (λ e is. settles_for kind e status.Input input is)

-- ---- files among those that a form reads

pub evidence_there : (file : Option (List ℕ)) (spice : List ℕ) (source : Source) → Contains (input_files file spice ++ source ∷ []) source
evidence_there None spice source = (1, omega arith, refl)
evidence_there (Some name) spice source = (2, omega arith, refl)

pub gds_tech_there : (file : Option (List ℕ)) (gds name : List ℕ) → file ≡ Some name → Contains (tech_files file ++ GdsFile gds ∷ []) (TechFile name)
gds_tech_there file gds name is = rw is (0, omega arith, refl)

pub gds_there : (file : Option (List ℕ)) (gds : List ℕ) → Contains (tech_files file ++ GdsFile gds ∷ []) (GdsFile gds)
gds_there None gds = (0, omega arith, refl)
gds_there (Some name) gds = (1, omega arith, refl)

pub macro_tech_there : (file : Option (List ℕ)) (gds lef name : List ℕ) → file ≡ Some name → Contains (tech_files file ++ GdsFile gds ∷ LefFile lef ∷ []) (TechFile name)
macro_tech_there file gds lef name is = rw is (0, omega arith, refl)

pub macro_gds_there : (file : Option (List ℕ)) (gds lef : List ℕ) → Contains (tech_files file ++ GdsFile gds ∷ LefFile lef ∷ []) (GdsFile gds)
macro_gds_there None gds lef = (0, omega arith, refl)
macro_gds_there (Some name) gds lef = (1, omega arith, refl)

pub macro_lef_there : (file : Option (List ℕ)) (gds lef : List ℕ) → Contains (tech_files file ++ GdsFile gds ∷ LefFile lef ∷ []) (LefFile lef)
macro_lef_there None gds lef = (1, omega arith, refl)
macro_lef_there (Some name) gds lef = (2, omega arith, refl)

-- ---- the forms

-- a material of the form's kind, or a refusal that the kind settles for
abbrev pub IsGathered : Option Form → Result Material Refusal → Type 0
IsGathered None (Ok m) = ⊥
IsGathered None (Err e) = e ≡ Words
IsGathered (Some form) (Ok m) = m.0 ≡ kind_of form
IsGathered (Some form) (Err e) = IsOwnFault (kind_of form) e
