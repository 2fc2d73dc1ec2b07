-- What each command gathers, results in and ends with. Each lemma has a line for each of them.
use Rattle.std.proofs.Common.{ℕ, ◌≡◌, true, List, [], ◌∷◌, ◌++◌, Option, Some, None, Result, Ok, Err, IfOk, Contains, ap, inl, inr, map, refl, sym, subst}
use Rattle.std.proofs.lemmas.List.Elements.{Contains-append_left}
use Rattle.cell_num.specs.declared.list.NoMemory.{NoMemory as Short}
use Rattle.layout_commands.specs.Agree.{comparing}
use Rattle.layout_commands.specs.declared.agreement.AgreeAnswer.TheVariants as agreement
use Rattle.call_end.specs.declared.end.End.{End}
use Rattle.call_end.specs.declared.end.Output.{Output}
use Rattle.call_end.specs.declared.status.Status.{Status}
use Rattle.call_end.specs.declared.status.Status.TheVariants as status
use Rattle.call_read.proofs.Reading.{Keeps, keeps_on}
use Rattle.call_read.specs.InputFiles.{input_files, inputs_from}
use Rattle.call_read.specs.Reading.{Ends, bytes_of, ◌>>=◌}
use Rattle.call_read.specs.Sources.{Source, TrackFile}
use Rattle.call_words.specs.Asked.{CellAsked, RowAsked}
use Rattle.call_words.specs.declared.evidence.Evidence.{Evidence}
use Rattle.call_words.specs.declared.evidence.Evidence.TheVariants.{Log, Trails}
use Rattle.call_words.specs.Words.{Form, Plan, Make, MakeFrom, MakeLow, Check, CheckLow, Extract, Bench, Row, Agree}
use Rattle.call_work.proofs.EndsOf.{HasNoFiles, IsEndOf, makes, makes_low, makes_none, told}
use Rattle.call_work.proofs.Gathered.{IsGathered, IsInputs, IsOwn, compared_keeps, drawn_keeps, evidence_there, gds_tech_there, gds_there, inputs_keep, macro_gds_there, macro_lef_there, macro_tech_there, rowing_keeps}
use Rattle.call_work.proofs.Statuses.{are_apart}
use Rattle.call_work.proofs.Works.{kept_works}
use Rattle.bench_command.specs.Report.{BenchesTo}
use Rattle.call_work.specs.Commands.{Kind, Planning, Making, MakingFrom, MakingLow, Checking, CheckingLow, Extracting, Benching, Rowing, Agreeing, Material, MaterialOf, WorksOn, WorksTo, checking, checking_low, gathered, kind_of, making, making_from, making_low, planning, read_by, settled_by}
use Rattle.call_work.specs.Ends.{desk_statuses, is_among}
use Rattle.call_work.specs.Evidence.{evidence_file}
use Rattle.call_work.specs.Kept.{WorksFor}
use Rattle.call_work.specs.declared.commands.Material.TheVariants.{Bench as OfNumber, Read}
use Rattle.call_work.specs.declared.commands.ReadMaterial.{ReadMaterial as Own}
use Rattle.call_work.specs.declared.commands.ReadMaterial.TheVariants as held
use Rattle.cell_inputs.specs.declared.style.Style.{Style}
use Rattle.cell_inputs.specs.Inputs.{Inputs}
use Rattle.cell_make.specs.Rows.{RowDrawn, RowCyclic, RowTall}
use Rattle.cell_commands.specs.declared.verdict.CheckAnswer.TheVariants.{Accepted, Misread, Rejected}
use Rattle.lef_read.specs.declared.differ.Differ.TheVariants as differ
use Rattle.layout_commands.specs.Extract.{extracting}
use Rattle.layout_commands.specs.declared.extraction.ExtractAnswer.TheVariants as answer
use Rattle.cell_make.specs.CellOfRow as stop
use Rattle.cell_make.specs.Rowed as rows
use Rattle.cell_make.specs.declared.row_outcome.InputFault.TheVariants as input
use Rattle.layout_commands.specs.Row.{rowing}
use Rattle.cell_commands.specs.Given.{ChecksBy, IsRefusedBy}
use Rattle.cell_commands.specs.Low as low
use Rattle.cell_commands.specs.Make as make
use Rattle.call_end.specs.End.{named}
use Rattle.cell_commands.specs.Plan as plan
use Rattle.cell_commands.specs.declared.trail_checking.TrailAnswer.TheVariants as checked

-- ---- what the forms read, and what they end with by themselves

-- a form that reads inputs alone, and settles for their faults
inputs_gathered : (asked : CellAsked) (form : Form) (material : Inputs → Material) → read_by (Some form) ≡ input_files asked.tech asked.spice → ((inputs : Inputs) → (material inputs).0 ≡ kind_of form) → is_among (settled_by (kind_of form)) status.Input ≡ true → Keeps (λ source. Contains (read_by (Some form)) source) (IsGathered (Some form)) (inputs_from asked >>= λ inputs. Ends (Ok (material inputs)))
inputs_gathered asked form material files kind own =
    keeps_on (λ source. Contains (read_by (Some form)) source) IsInputs (IsGathered (Some form)) (inputs_from asked) (λ inputs. Ends (Ok (material inputs)))
    (inputs_keep (λ source. Contains (read_by (Some form)) source) asked (λ source there. subst (λ (sources : List Source). Contains sources source) (sym files) there))
    (λ inputs is. kind inputs)
    (λ e is. subst (λ (answer : Status). is_among (settled_by (kind_of form)) answer ≡ true) (sym is) own)

-- the same of a form that reads one more file after the inputs
file_gathered : (asked : CellAsked) (file : Source) (form : Form) (material : Inputs → List ℕ → Material) → read_by (Some form) ≡ input_files asked.tech asked.spice ++ file ∷ [] → ((inputs : Inputs) (bytes : List ℕ) → (material inputs bytes).0 ≡ kind_of form) → is_among (settled_by (kind_of form)) status.Input ≡ true → Keeps (λ source. Contains (read_by (Some form)) source) (IsGathered (Some form)) (inputs_from asked >>= λ inputs. bytes_of file >>= λ bytes. Ends (Ok (material inputs bytes)))
file_gathered asked file form material files kind own =
    keeps_on (λ source. Contains (read_by (Some form)) source) IsInputs (IsGathered (Some form)) (inputs_from asked) (λ inputs. bytes_of file >>= λ bytes. Ends (Ok (material inputs bytes)))
    (inputs_keep (λ source. Contains (read_by (Some form)) source) asked (λ source there. among source (Contains-append_left (input_files asked.tech asked.spice) (file ∷ []) source there)))
    (λ inputs is. (among file (evidence_there asked.tech asked.spice file), λ bytes. kind inputs bytes))
    (λ e is. subst (λ (answer : Status). is_among (settled_by (kind_of form)) answer ≡ true) (sym is) own)
  where
    among : (source : Source) → Contains (input_files asked.tech asked.spice ++ file ∷ []) source → Contains (read_by (Some form)) source
    among source there = subst (λ (sources : List Source). Contains sources source) (sym files) there

pub gathered_keeps : (form : Option Form) → Keeps (λ source. Contains (read_by form) source) (IsGathered form) (gathered form)
gathered_keeps None = refl
gathered_keeps (Some (Plan asked evidence)) = inputs_gathered asked (Plan asked evidence) (planning evidence) refl (λ inputs. refl) refl
gathered_keeps (Some (Make asked out style evidence)) = inputs_gathered asked (Make asked out style evidence) (making evidence out style) refl (λ inputs. refl) refl
gathered_keeps (Some (MakeFrom asked out style file evidence)) =
    file_gathered asked (evidence_file evidence file) (MakeFrom asked out style file evidence) (making_from evidence out style) refl (λ inputs bytes. refl) refl
gathered_keeps (Some (MakeLow asked out style evidence)) = inputs_gathered asked (MakeLow asked out style evidence) (making_low evidence out style) refl (λ inputs. refl) refl
gathered_keeps (Some (Check asked file evidence)) =
    file_gathered asked (evidence_file evidence file) (Check asked file evidence) (checking evidence) refl (λ inputs bytes. refl) refl
gathered_keeps (Some (CheckLow asked file)) = file_gathered asked (TrackFile file) (CheckLow asked file) checking_low refl (λ inputs bytes. refl) refl
gathered_keeps (Some (Extract tech gds name rules)) =
    keeps_on (λ source. Contains (read_by (Some (Extract tech gds name rules))) source) (IsOwn Extracting) (IsGathered (Some (Extract tech gds name rules))) (extracting tech gds name rules) _
    (drawn_keeps (λ source. Contains (read_by (Some (Extract tech gds name rules))) source) Extracting tech gds name rules refl refl (gds_tech_there tech gds) (gds_there tech gds))
    (λ drawn is. refl)
    (λ e is. is)
gathered_keeps (Some (Bench number)) = refl
gathered_keeps (Some (Row row out)) =
    keeps_on (λ source. Contains (read_by (Some (Row row out))) source) IsInputs (IsGathered (Some (Row row out))) (rowing row) _
    (rowing_keeps (λ source. Contains (read_by (Some (Row row out))) source) row (λ source there. there))
    (λ inputs is. refl)
    (λ e is. rw is refl)
gathered_keeps (Some (Agree tech gds lef name)) =
    keeps_on (λ source. Contains (read_by (Some (Agree tech gds lef name))) source) (IsOwn Agreeing) (IsGathered (Some (Agree tech gds lef name))) (comparing tech gds lef name) _
    (compared_keeps (λ source. Contains (read_by (Some (Agree tech gds lef name))) source) Agreeing tech gds lef name refl refl refl (macro_tech_there tech gds lef) (macro_gds_there tech gds lef) (macro_lef_there tech gds lef))
    (λ both is. refl)
    (λ e is. is)

-- the words of a form, by its kind, where they are looked at
abbrev pub HasWords : Kind → Form → Type 0
HasWords Making form = (asked : CellAsked) × (out : List ℕ) × (style : Style) × (evidence : Evidence) × (form ≡ Make asked out style evidence)
HasWords MakingFrom form = (asked : CellAsked) × (out : List ℕ) × (style : Style) × (file : List ℕ) × (evidence : Evidence) × (form ≡ MakeFrom asked out style file evidence)
HasWords MakingLow form = (asked : CellAsked) × (out : List ℕ) × (style : Style) × (evidence : Evidence) × (form ≡ MakeLow asked out style evidence)
HasWords Rowing form = (row : RowAsked) × (out : List ℕ) × (form ≡ Row row out)
HasWords kind form = Unit {0}

has_words : (form : Form) → HasWords (kind_of form) form
has_words (Plan asked evidence) = tt
has_words (Make asked out style evidence) = (asked, out, style, evidence, refl)
has_words (MakeFrom asked out style file evidence) = (asked, out, style, file, evidence, refl)
has_words (MakeLow asked out style evidence) = (asked, out, style, evidence, refl)
has_words (Check asked file evidence) = tt
has_words (CheckLow asked file) = tt
has_words (Extract tech gds name rules) = tt
has_words (Bench number) = tt
has_words (Row row out) = (row, out, refl)
has_words (Agree tech gds lef name) = tt

pub is_make : (form : Form) → kind_of form ≡ Making → (asked : CellAsked) × (out : List ℕ) × (style : Style) × (evidence : Evidence) × (form ≡ Make asked out style evidence)
is_make form is = subst (λ (kind : Kind). HasWords kind form) is (has_words form)

pub is_make_from : (form : Form) → kind_of form ≡ MakingFrom → (asked : CellAsked) × (out : List ℕ) × (style : Style) × (file : List ℕ) × (evidence : Evidence) × (form ≡ MakeFrom asked out style file evidence)
is_make_from form is = subst (λ (kind : Kind). HasWords kind form) is (has_words form)

pub is_make_low : (form : Form) → kind_of form ≡ MakingLow → (asked : CellAsked) × (out : List ℕ) × (style : Style) × (evidence : Evidence) × (form ≡ MakeLow asked out style evidence)
is_make_low form is = subst (λ (kind : Kind). HasWords kind form) is (has_words form)

pub is_row : (form : Form) → kind_of form ≡ Rowing → (row : RowAsked) × (out : List ℕ) × (form ≡ Row row out)
is_row form is = subst (λ (kind : Kind). HasWords kind form) is (has_words form)

-- ---- the work on what is kept

works_for : (kept : Own) (end : End) → WorksOn kept end → WorksFor (Read kept) end
works_for (held.Planning m) end works = kept_works Planning m end works
works_for (held.Making m) end works = kept_works Making m end works
works_for (held.MakingFrom x) end works = λ m (evidence, bytes, is, read). kept_works MakingFrom (making_from evidence x.stem x.style x.inputs bytes).1 end (works evidence bytes read) m is
works_for (held.MakingLow m) end works = kept_works MakingLow m end works
works_for (held.Checking x) end works = λ m (evidence, bytes, is, read). kept_works Checking (checking evidence x.inputs bytes).1 end (works evidence bytes read) m is
works_for (held.CheckingLow m) end works = kept_works CheckingLow m end works
works_for (held.Extracting cell) end works = kept_works Extracting cell end works
works_for (held.Rowing m) end works = kept_works Rowing m end works
works_for (held.Agreeing both) end works = kept_works Agreeing both end works

pub all_work : (kept : Own) (r : Result End Short) → IfOk r (WorksOn kept) → IfOk r (WorksFor (Read kept))
all_work kept (Err e) works = tt
all_work kept (Ok end) works = works_for kept end works

pub bench_works : (number : ℕ) (r : Result End Short) → IfOk r (BenchesTo number) → IfOk r (WorksFor (OfNumber number))
bench_works number (Err e) works = tt
bench_works number (Ok end) works = kept_works Benching number end works

-- ---- what the work results in

checks_end : (evidence : Evidence) (inputs : Inputs) (bytes : List ℕ) (end : End) → ChecksBy evidence inputs bytes end → IsEndOf Checking end
checks_end Log inputs bytes end (Accepted row gaps lemmas, h, is) = told Checking is refl refl
checks_end Log inputs bytes end (Misread f, h, is) = told Checking is refl refl
checks_end Log inputs bytes end (Rejected f, h, is) = told Checking is refl refl
checks_end Trails inputs bytes end (checked.Accepted row gaps lemmas filled, h, is) = told Checking is refl refl
checks_end Trails inputs bytes end (checked.Misread f, h, is) = told Checking is refl refl
checks_end Trails inputs bytes end (checked.Rejected cause, h, is) = told Checking is refl refl

-- a file that is refused is rejected, and no file is made
refused_end : (evidence : Evidence) (inputs : Inputs) (bytes : List ℕ) (end : End) → IsRefusedBy evidence inputs bytes end → IsEndOf MakingFrom end
refused_end evidence inputs bytes end (checks, rejected) = by (checks_end evidence inputs bytes end checks).files
  where
    by : HasNoFiles Checking end → IsEndOf MakingFrom end
    by (inl none) = makes_none MakingFrom rejected refl (ap (λ (files : List Output). map named files) none)
    by (inr (inl (is, own))) = cc
    by (inr (inr (inl (is, own)))) = cc
    by (inr (inr (inr (inl (is, own))))) = cc
    by (inr (inr (inr (inr (is, own))))) = cc

each_end : (kind : Kind) (m : MaterialOf kind) (end : End) → WorksTo kind m end → IsEndOf kind end
each_end Planning m end (plan.Planned row certificate, h, is) = told Planning is refl refl
each_end Planning m end (plan.Open proved certificate, h, is) = told Planning is refl refl
each_end Planning m end (plan.Crowded gate, h, is) = told Planning is refl refl
each_end Making m end (make.Made row certificate (RowDrawn routing xs), h, is) = makes is.status refl refl
each_end Making m end (make.Made row certificate (RowCyclic ring), h, is) = makes is.status refl refl
each_end Making m end (make.Made row certificate (RowTall routing), h, is) = makes is.status refl refl
each_end Making m end (make.Open proved certificate, h, is) = makes is.status refl refl
each_end Making m end (make.Crowded gate, h, is) = makes is.status refl refl
each_end MakingFrom m end (inl (row, certificate, listed, (RowDrawn routing xs, h, is))) = record { settled = rw is.status refl; files = inr (inr (inr (inl (refl, is.status)))) }
each_end MakingFrom m end (inl (row, certificate, listed, (RowCyclic ring, h, is))) = makes_none MakingFrom is.status refl is.files
each_end MakingFrom m end (inl (row, certificate, listed, (RowTall routing, h, is))) = makes_none MakingFrom is.status refl is.files
each_end MakingFrom m end (inr refused) = refused_end m.evidence m.inputs m.bytes end refused
each_end MakingLow m end (low.Made row certificate tracks (RowDrawn routing xs), h, is) = makes_low is.status refl refl
each_end MakingLow m end (low.Made row certificate tracks (RowCyclic ring), h, is) = makes_low is.status refl refl
each_end MakingLow m end (low.Made row certificate tracks (RowTall routing), h, is) = makes_low is.status refl refl
each_end MakingLow m end (low.Unwired row certificate tracks ring, h, is) = makes_low is.status refl refl
each_end MakingLow m end (low.Open proved certificate, h, is) = makes_low is.status refl refl
each_end MakingLow m end (low.Crowded gate, h, is) = makes_low is.status refl refl
each_end Checking m end works = checks_end m.evidence m.inputs m.bytes end works
each_end CheckingLow m end (inl (proved, text, need, is)) = told CheckingLow is refl refl
each_end CheckingLow m end (inr (cause, known, rejects, none, is)) = told CheckingLow is refl refl
each_end Extracting m end (answer.Extracted netlist bodies, h, is) = told Extracting is refl refl
each_end Extracting m end (answer.Broken found, h, is) = told Extracting is refl refl
each_end Extracting m end (answer.Unchecked f, h, is) = told Extracting is refl refl
each_end Extracting m end (answer.Refused f, h, is) = told Extracting is refl refl
each_end Benching m end (tally, h, is) = told Benching is refl refl
each_end Rowing m end (rows.Rowed made, h, is) = record { settled = rw is.status refl; files = inr (inr (inl (refl, is.status))) }
each_end Rowing m end (rows.Refused before name (input.Spice f), h, is) = told Rowing is refl refl
each_end Rowing m end (rows.Refused before name (input.Fold f), h, is) = told Rowing is refl refl
each_end Rowing m end (rows.Stopped before inputs (stop.Cyclic row log ring), h, is) = told Rowing is refl refl
each_end Rowing m end (rows.Stopped before inputs (stop.Tall row log routing), h, is) = told Rowing is refl refl
each_end Rowing m end (rows.Stopped before inputs (stop.Unfinished proved log), h, is) = told Rowing is refl refl
each_end Rowing m end (rows.Stopped before inputs (stop.Unwired row log tracks ring), h, is) = told Rowing is refl refl
each_end Rowing m end (rows.Unabutted made fault, h, is) = told Rowing is refl refl
each_end Agreeing m end (agreement.Agreed, h, is) = told Agreeing is refl refl
each_end Agreeing m end (agreement.Differs (differ.Extract f), h, is) = told Agreeing is refl refl
each_end Agreeing m end (agreement.Differs (differ.NoLabel name), h, is) = told Agreeing is refl refl
each_end Agreeing m end (agreement.Differs (differ.Port name x y), h, is) = told Agreeing is refl refl
each_end Agreeing m end (agreement.Differs (differ.Bare layer x y), h, is) = told Agreeing is refl refl
each_end Agreeing m end (agreement.Differs differ.NoMemory, h, is) = told Agreeing is refl refl

pub works_settled : (kind : Kind) (m : MaterialOf kind) (end : End) → WorksTo kind m end → is_among (settled_by kind) end.status ≡ true
works_settled kind m end works = (each_end kind m end works).settled

pub files_by : (kind : Kind) (m : MaterialOf kind) (end : End) → WorksTo kind m end → HasNoFiles kind end
files_by kind m end works = (each_end kind m end works).files

-- no kind settles for a status of the words or of the desk
pub outside_apart : (kind : Kind) → are_apart (settled_by kind) (status.Usage ∷ desk_statuses) ≡ true
outside_apart Planning = refl
outside_apart Making = refl
outside_apart MakingFrom = refl
outside_apart MakingLow = refl
outside_apart Checking = refl
outside_apart CheckingLow = refl
outside_apart Extracting = refl
outside_apart Benching = refl
outside_apart Rowing = refl
outside_apart Agreeing = refl
