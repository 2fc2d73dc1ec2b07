-- The evidence of a row, or of what a search proves, by its kind: its file, and what is reported of it.
use Rattle.std.specs.Prelude.{ℕ, List, ◌++◌, codes, length}
use Rattle.bound_log.specs.Fits.{Fits, ForSome}
use Rattle.cell_num.specs.Lines.{count_line}
use Rattle.cell_commands.specs.declared.certificate.Certificate.{Certificate}
use Rattle.cell_commands.specs.declared.certificate.Certificate.TheVariants.{Log, Trails}
use Rattle.cell_commands.specs.RowEnd.{RowEvidence, log_evidence, one_file}
use Rattle.spice_net.specs.declared.subckt.Subckt.{Subckt}
use Rattle.trail_either.specs.declared.evidence.TrailEvidence.{TrailEvidence}
use Rattle.trail_either.specs.Either.{EitherFits, either_text, fill_count, lemma_count as trail_lemmas}
use Rattle.cell_commands.specs.Counts.{counts_text}

-- a text can hold it
abbrev pub CanBeWritten : Certificate → Type 0
CanBeWritten (Log log) = ForSome (λ k. Fits k log)
CanBeWritten (Trails trails) = ForSome (λ k. EitherFits k trails)

abbrev pub lemma_count : Certificate → ℕ
lemma_count (Log log) = length log.lemmas
lemma_count (Trails trails) = trail_lemmas trails

-- what the report of a drawn row says of it
abbrev pub counts_of : Certificate → List ℕ
counts_of (Log log) = count_line (codes "lemmas ") (length log.lemmas)
counts_of (Trails trails) = counts_text (trail_lemmas trails) (fill_count trails)

abbrev pub trails_evidence : Subckt → List ℕ → TrailEvidence → RowEvidence
trails_evidence cell out trails =
    one_file (out ++ codes ".ctrail", either_text cell.name trails)
    (counts_text (trail_lemmas trails) (fill_count trails))

-- its file, and what the report of a drawn row says of it
abbrev pub row_evidence : Subckt → List ℕ → Certificate → RowEvidence
row_evidence cell out (Log log) = log_evidence cell out log
row_evidence cell out (Trails trails) = trails_evidence cell out trails
