-- The file of a kind of evidence: a log, or a certificate by trails.
use Rattle.std.specs.Prelude.{ℕ, ◌≡◌, List}
use Rattle.call_read.specs.Sources.{Source, LogFile, TrailFile}
use Rattle.call_words.specs.declared.evidence.Evidence.{Evidence}
use Rattle.call_words.specs.declared.evidence.Evidence.TheVariants.{Log, Trails}
use Rattle.call_work.specs.declared.material.EvidenceFile.{EvidenceFile}
use Rattle.call_work.specs.declared.material.EvidenceFile.TheVariants as held
use Rattle.cell_inputs.specs.Inputs.{Inputs}
use Rattle.cell_commands.specs.LogRead.{AreBehindAll}

-- the file of this name, read as the evidence
abbrev pub evidence_file : Evidence → List ℕ → Source
evidence_file Log name = LogFile name
evidence_file Trails name = TrailFile name

-- the file was read as evidence of this kind, with these bytes: in place of a log's bytes what reading and checking
-- them for the inputs resulted in is kept
abbrev pub IsReadAs : Evidence → Inputs → List ℕ → EvidenceFile → Type 0
IsReadAs Log inputs bytes (held.Log log) = AreBehindAll inputs bytes log.reader log.checker
IsReadAs Trails inputs bytes (held.Trails kept) = kept ≡ bytes
IsReadAs _ inputs bytes _ = ⊥
