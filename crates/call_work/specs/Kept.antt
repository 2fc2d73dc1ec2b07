-- What was gathered, as the program keeps it, and the work on it.
use Rattle.std.specs.Prelude.{ℕ, ◌≡◌, List, Result, Ok, Err}
use Rattle.cell_io.specs.Desk.{View}
use Rattle.call_end.specs.declared.end.End.{End}
use Rattle.call_read.specs.InputFiles.{inputs_from}
use Rattle.call_read.specs.Read.{IsRead}
use Rattle.call_read.specs.Reading.{Reading, Ends, MayCome, bytes_of, ◌>>=◌}
use Rattle.call_read.specs.Sources.{Source, LogFile}
use Rattle.call_read.specs.declared.refusal.Refusal.{Refusal}
use Rattle.call_words.specs.Asked.{CellAsked}
use Rattle.call_words.specs.declared.evidence.Evidence.{Evidence}
use Rattle.call_work.specs.Commands.{IsKept, Material, WorksTo}
use Rattle.call_work.specs.Evidence.{IsReadAs, evidence_file}
use Rattle.call_work.specs.declared.material.CheckMaterial.{CheckMaterial as Checked}
use Rattle.call_work.specs.declared.material.EvidenceFile.{EvidenceFile}
use Rattle.call_work.specs.declared.commands.Material.{Material as Kept}
use Rattle.cell_inputs.specs.Inputs.{Inputs}
use Rattle.cell_commands.specs.LogRead.{AreBehindAll}
use Rattle.cell_commands.specs.declared.checked_log.CheckedLog.{CheckedLog}

-- the material, or the refusal
abbrev pub AreKept : Result Material Refusal → Result Kept Refusal → Type 0
AreKept (Ok material) (Ok own) = IsKept material own
AreKept (Err e) (Err told) = told ≡ e
AreKept _ _ = ⊥

-- a reading over a desk, seen before and after it, may result in a material that is kept so, or refuse so
abbrev pub MayKeep : View → View → Reading Material → Result Kept Refusal → Type 0
MayKeep old new reading own = (got : Result Material Refusal) × MayCome old new reading got × AreKept got own

-- the work on each material that is kept so may result in this end
abbrev pub WorksFor : Kept → End → Type 0
WorksFor kept end = (m : Material) → IsKept m kept → WorksTo m.0 m.1 end

-- a file of evidence was read as these bytes, and is kept so
abbrev pub HoldsFile : View → View → Evidence → List ℕ → Inputs → EvidenceFile → Type 0
HoldsFile old new evidence file inputs kept =
    (bytes : List ℕ) × IsRead old new (evidence_file evidence file) (Ok bytes) × IsReadAs evidence inputs bytes kept

-- a log that is after all bytes that were read of its file, for a check of these inputs
abbrev pub HoldsLog : View → View → List ℕ → Inputs → CheckedLog → Type 0
HoldsLog old new file inputs log =
    (bytes : List ℕ) × IsRead old new (LogFile file) (Ok bytes) × AreBehindAll inputs bytes log.reader log.checker

-- ---- the inputs of a cell, and then a file

-- for a material of both
abbrev pub both_from : CellAsked → Source → (Inputs → List ℕ → Material) → Reading Material
both_from asked source material =
    inputs_from asked >>= λ inputs. bytes_of source >>= λ bytes. Ends (Ok (material inputs bytes))

-- Both were read, the file as evidence: what is kept as each material of them, is kept so by the reading for this
-- material. Or reading both is refused, for whatever material.
abbrev pub ReadsBoth : View → View → CellAsked → Evidence → List ℕ → Result Checked Refusal → Type 0
ReadsBoth old new asked evidence file (Ok read) =
    (material : Inputs → List ℕ → Material) (kept : Kept)
    → ((bytes : List ℕ)
    → IsReadAs evidence read.inputs bytes read.file
    → IsKept (material read.inputs bytes) kept)
    → MayKeep old new (both_from asked (evidence_file evidence file) material) (Ok kept)
ReadsBoth old new asked evidence file (Err e) =
    (material : Inputs → List ℕ → Material)
    → MayKeep old new (both_from asked (evidence_file evidence file) material) (Err e)
