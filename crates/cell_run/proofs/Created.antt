-- No file of an end has the name of another one, so none is created twice.
use Rattle.std.proofs.Common.{ℕ, ◌≡◌, Bool, true, false, List, [], ◌∷◌, ◌++◌, take, codes, map, string_bytes, Option, Some, None, Result, Ok, Err, inl, inr, refl, sym, ap, ◌∙◌, subst}
use Rattle.cell_io.specs.Desk.{View, Both}
use Rattle.call_end.specs.declared.end.End.{End}
use Rattle.call_end.specs.declared.end.Output.{Output}
use Rattle.call_end.specs.declared.status.Status.{Status}
use Rattle.call_end.specs.declared.status.Status.TheVariants as status
use Rattle.call_end.specs.Deliver.{CreatesAll, CreatesFront, names_of}
use Rattle.call_read.specs.declared.refusal.Refusal.{Refusal}
use Rattle.call_words.specs.Words.{Form}
use Rattle.call_words.specs.declared.evidence.Evidence.{Evidence}
use Rattle.call_words.specs.declared.evidence.Evidence.TheVariants.{Log, Trails}
use Rattle.call_work.proofs.EachCommand.{files_by}
use Rattle.call_work.proofs.EndsOf.{HasNoFiles}
use Rattle.call_work.specs.Commands.{FromMaterial, Kind, Material, MaterialOf, WorksTo, Planning, Making, MakingFrom, MakingLow, Checking, CheckingLow, Extracting, Benching, Rowing, Agreeing}
use Rattle.call_work.proofs.Statuses.{differ}
use Rattle.call_work.specs.Ends.{EndsTo}
use Rattle.cell_commands.specs.Given.{given_evidence}
use Rattle.cell_commands.specs.Low as low
use Rattle.cell_commands.specs.declared.certificate.Certificate.{Certificate}
use Rattle.cell_commands.specs.declared.certificate.Certificate.TheVariants as held
use Rattle.cell_commands.specs.Certificate.{trails_evidence}
use Rattle.cell_commands.specs.Make.{MakesTo}
use Rattle.cell_commands.specs.Make as made
use Rattle.cell_inputs.specs.declared.style.Style.{Style}
use Rattle.cell_inputs.specs.declared.style.Wiring.{Wiring}
use Rattle.cell_inputs.specs.Inputs.{Inputs}
use Rattle.channel_route.specs.declared.ring.Ring.{Ring}
use Rattle.spice_net.specs.declared.subckt.Subckt.{Subckt}
use Rattle.track_log.specs.declared.certificate.TrackCertificate.{TrackCertificate}
use Rattle.cell_make.specs.Rows.{DrawAnswer, RowDrawn, RowCyclic, RowTall}
use Rattle.call_end.specs.End.{named}
use Rattle.cell_commands.specs.RowEnd.{IsRowEnd, RowEvidence, log_evidence}
use Rattle.cell_make.specs.declared.row_outcome.InputFault.TheVariants.{Spice, Fold}
use Rattle.cell_make.specs.RowInputs.{RowInputs}
use Rattle.cell_make.specs.Rowed.{Rowed, Refused, Stopped, Unabutted}
use Rattle.row_model.specs.declared.column.Column.{Column}
use Rattle.layout_commands.specs.Row.{RowsTo}
use Rattle.cell_run.proofs.FileNames.{distinct_alone, distinct_drawn, distinct_front, distinct_one, first_of, told_files}
use Rattle.cell_run.proofs.RowTold.{no_files}
use Rattle.cell_run.proofs.Telling.{Answers}
use Rattle.cell_run.specs.Created.{AreDistinct, CreatesOnce}
use Rattle.cell_run.specs.Evidence.{evidence_name, evidence_text}
use Rattle.cell_run.specs.Origin.{Origin, Search, File, Low, cell_files}

-- ---- the names of files that are told

names_told : (files : List Output) → names_of files ≡ map first_of (map named files)
names_told [] = refl
names_told (file ∷ files) = ap (λ (names : List (List ℕ)). string_bytes file.name ∷ names) (names_told files)

by_names : (files : List Output) (told : List (List ℕ × List ℕ)) (names : List (List ℕ)) → map named files ≡ told → map first_of told ≡ names → AreDistinct names → AreDistinct (names_of files)
by_names files told names is same h = subst AreDistinct (sym (names_told files ∙ ap (λ (xs : List (List ℕ × List ℕ)). map first_of xs) is ∙ same)) h

none_listed : (files : List Output) → files ≡ [] → AreDistinct (names_of files)
none_listed files is = rw is tt

-- ---- by kind

abbrev makes_files : Kind → Bool
makes_files Making = true
makes_files MakingFrom = true
makes_files MakingLow = true
makes_files Rowing = true
makes_files Planning = false
makes_files Checking = false
makes_files CheckingLow = false
makes_files Extracting = false
makes_files Benching = false
makes_files Agreeing = false

without_files : (kind : Kind) (end : End) → makes_files kind ≡ false → HasNoFiles kind end → AreDistinct (names_of end.files)
without_files kind end none (inl is) = none_listed end.files is
without_files kind end none (inr (inl (is, own))) = let clash : true ≡ false = ap makes_files (sym is) ∙ none in cc
without_files kind end none (inr (inr (inr (inl (is, done))))) = let clash : true ≡ false = ap makes_files (sym is) ∙ none in cc
without_files kind end none (inr (inr (inr (inr (is, own))))) = let clash : true ≡ false = ap makes_files (sym is) ∙ none in cc
without_files kind end none (inr (inr (inl (is, done)))) = let clash : true ≡ false = ap makes_files (sym is) ∙ none in cc

-- the files of a row, by where it comes from
drawn_names : (origin : Origin) (cell : Subckt) (out text bytes summary : List ℕ) (files : List Output) (told : List (List ℕ × List ℕ)) → told ≡ told_files origin cell out text → map named files ≡ told ++ cell_files out bytes summary → AreDistinct (names_of files)
drawn_names origin cell out text bytes summary files told same is =
    by_names files (told_files origin cell out text ++ cell_files out bytes summary) _
    (is ∙ ap (λ (xs : List (List ℕ × List ℕ)). xs ++ cell_files out bytes summary) same) refl (distinct_drawn origin cell out text bytes summary)

row_end : (origin : Origin) (text : List ℕ) (style : Style) (inputs : Inputs) (out : List ℕ) (row : List Column) (told : RowEvidence) (drawing : DrawAnswer) (end : End) → told.files ≡ told_files origin inputs.cell out text → IsRowEnd style inputs out row told drawing end → AreDistinct (names_of end.files)
row_end origin text style inputs out row told (RowDrawn routing xs) end same is = drawn_names origin inputs.cell out text _ _ end.files told.files same is.files
row_end origin text style inputs out row told (RowCyclic ring) end same is = by_names end.files (told_files origin inputs.cell out text) _ (is.files ∙ same) refl (distinct_alone origin inputs.cell out text)
row_end origin text style inputs out row told (RowTall routing) end same is = by_names end.files (told_files origin inputs.cell out text) _ (is.files ∙ same) refl (distinct_alone origin inputs.cell out text)

open_end : (cell : Subckt) (out : List ℕ) (proved : ℕ) (certificate : Certificate) (end : End) → made.IsOpenEnd cell out proved certificate end → AreDistinct (names_of end.files)
open_end cell out proved (held.Log log) end is = by_names end.files _ (evidence_name Log out ∷ []) is.files refl (distinct_one (evidence_name Log out))
open_end cell out proved (held.Trails trails) end is = by_names end.files _ (evidence_name Trails out ∷ []) is.files refl (distinct_one (evidence_name Trails out))

makes_end : (evidence : Evidence) (style : Style) (inputs : Inputs) (out : List ℕ) (end : End) → MakesTo evidence style inputs out end → AreDistinct (names_of end.files)
makes_end evidence style inputs out end (made.Made row (held.Log log) drawing, h, is) = row_end (Search Log) (evidence_text Log inputs.cell.name log) style inputs out row (log_evidence inputs.cell out log) drawing end refl is
makes_end evidence style inputs out end (made.Made row (held.Trails trails) drawing, h, is) = row_end (Search Trails) (evidence_text Trails inputs.cell.name trails) style inputs out row (trails_evidence inputs.cell out trails) drawing end refl is
makes_end evidence style inputs out end (made.Open proved certificate, h, is) = open_end inputs.cell out proved certificate end is
makes_end evidence style inputs out end (made.Crowded gate, h, is) = by_names end.files [] [] is.files refl tt

unwired_end : (wiring : Wiring) (inputs : Inputs) (out : List ℕ) (certificate : Certificate) (tracks : TrackCertificate) (ring : Ring) (end : End) → low.IsUnwiredEnd wiring inputs out certificate tracks ring end → AreDistinct (names_of end.files)
unwired_end wiring inputs out (held.Log log) tracks ring end is = by_names end.files (told_files (Low Log wiring tracks) inputs.cell out (evidence_text Log inputs.cell.name log)) _ is.files refl (distinct_alone (Low Log wiring tracks) inputs.cell out (evidence_text Log inputs.cell.name log))
unwired_end wiring inputs out (held.Trails trails) tracks ring end is = by_names end.files (told_files (Low Trails wiring tracks) inputs.cell out (evidence_text Trails inputs.cell.name trails)) _ is.files refl (distinct_alone (Low Trails wiring tracks) inputs.cell out (evidence_text Trails inputs.cell.name trails))

low_end : (evidence : Evidence) (style : Style) (inputs : Inputs) (out : List ℕ) (end : End) → low.MakesLowTo evidence style inputs out end → AreDistinct (names_of end.files)
low_end evidence style inputs out end (low.Made row (held.Log log) tracks drawing, h, is) = row_end (Low Log style.wiring tracks) (evidence_text Log inputs.cell.name log) style inputs out row (low.low_evidence style.wiring inputs.cell out (held.Log log) tracks) drawing end refl is
low_end evidence style inputs out end (low.Made row (held.Trails trails) tracks drawing, h, is) = row_end (Low Trails style.wiring tracks) (evidence_text Trails inputs.cell.name trails) style inputs out row (low.low_evidence style.wiring inputs.cell out (held.Trails trails) tracks) drawing end refl is
low_end evidence style inputs out end (low.Unwired row certificate tracks ring, h, is) = unwired_end style.wiring inputs out certificate tracks ring end is
low_end evidence style inputs out end (low.Open proved certificate, h, is) = open_end inputs.cell out proved certificate end is
low_end evidence style inputs out end (low.Crowded gate, h, is) = by_names end.files [] [] is.files refl tt

from_end : (m : FromMaterial) (end : End) → WorksTo MakingFrom m end → AreDistinct (names_of end.files)
from_end m end (inl (row, certificate, listed, (drawing, h, is))) = row_end (File m.evidence m.bytes) [] m.style m.inputs m.stem row (given_evidence certificate) drawing end refl is
from_end m end (inr (checks, rejected)) = by (files_by MakingFrom m end (inr (checks, rejected)))
  where
    by : HasNoFiles MakingFrom end → AreDistinct (names_of end.files)
    by (inl none) = none_listed end.files none
    by (inr (inl (is, own))) = cc
    by (inr (inr (inl (is, done)))) = cc
    by (inr (inr (inr (inl (is, done))))) = absurd (differ status.Done status.Rejected refl (sym done ∙ rejected))
    by (inr (inr (inr (inr (is, own))))) = cc

rows_end : (r : RowInputs) (out : List ℕ) (end : End) → RowsTo r out end → AreDistinct (names_of end.files)
rows_end r out end (Rowed made, h, is) = by_names end.files _ ((out ++ codes ".gds") ∷ []) is.files refl (distinct_one (out ++ codes ".gds"))
rows_end r out end (Refused before name (Spice f), h, is) = none_listed end.files (ap (λ (e : End). e.files) is)
rows_end r out end (Refused before name (Fold f), h, is) = none_listed end.files (ap (λ (e : End). e.files) is)
rows_end r out end (Stopped before inputs answer, h, is) = none_listed end.files (no_files inputs answer end is)
rows_end r out end (Unabutted made fault, h, is) = none_listed end.files (ap (λ (e : End). e.files) is)

distinct_end : (kind : Kind) (m : MaterialOf kind) (end : End) → WorksTo kind m end → AreDistinct (names_of end.files)
distinct_end Making m end works = makes_end m.evidence m.style m.inputs m.stem end works
distinct_end MakingFrom m end works = from_end m end works
distinct_end MakingLow m end works = low_end m.evidence m.style m.inputs m.stem end works
distinct_end Rowing m end works = rows_end m.inputs m.stem end works
distinct_end Planning m end works = without_files Planning end refl (files_by Planning m end works)
distinct_end Checking m end works = without_files Checking end refl (files_by Checking m end works)
distinct_end CheckingLow m end works = without_files CheckingLow end refl (files_by CheckingLow m end works)
distinct_end Extracting m end works = without_files Extracting end refl (files_by Extracting m end works)
distinct_end Benching m end works = without_files Benching end refl (files_by Benching m end works)
distinct_end Agreeing m end works = without_files Agreeing end refl (files_by Agreeing m end works)

distinct_files : (got : Result Material Refusal) (end : End) → EndsTo got end → AreDistinct (names_of end.files)
distinct_files (Ok m) end ends = distinct_end m.0 m.1 end ends
distinct_files (Err e) end ends = none_listed end.files (ap (λ (x : End). x.files) ends)

-- ---- the call

all_once : (files : List Output) (a c : Option (List (List ℕ))) → AreDistinct (names_of files) → Both (CreatesAll files) a c → Both CreatesOnce a c
all_once files None None h created = tt
all_once files (Some x) (Some y) h created = (names_of files, h, created)
all_once files None (Some y) h created = absurd created
all_once files (Some x) None h created = absurd created

front_once : (files : List Output) (a c : Option (List (List ℕ))) → AreDistinct (names_of files) → Both (CreatesFront files) a c → Both CreatesOnce a c
front_once files None None h created = tt
front_once files (Some x) (Some y) h (count, created) = (take count (names_of files), distinct_front count (names_of files) h, created)
front_once files None (Some y) h created = absurd created
front_once files (Some x) None h created = absurd created

pub once_told : (a c : View) (form : Option Form) (answer : Status) → Answers a c form answer → Both CreatesOnce a.created c.created
once_told a c form answer (end, (got, came, ends), inl (is, made, said, created)) = all_once end.files a.created c.created (distinct_files got end ends) created
once_told a c form answer (end, (got, came, ends), inr (up, inl (made, said, created))) = front_once end.files a.created c.created (distinct_files got end ends) created
once_told a c form answer (end, (got, came, ends), inr (up, inr (made, said, created))) = all_once end.files a.created c.created (distinct_files got end ends) created
