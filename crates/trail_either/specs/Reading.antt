-- The certificate of which some bytes are the text, of the version that their first line names.
use Rattle.std.specs.Prelude.{ℕ, ◌||◌, Bool, false, List, [], ◌∷◌, Result, Ok, Err, if◌then◌else◌}
use Rattle.row_state.specs.declared.kind.Kinds.{Kinds}
use Rattle.log_lines.specs.Lines.{lines_in}
use Rattle.log_lines.specs.Words.{is_word}
use Rattle.bound_log.specs.declared.fault.LogFault.{LogFault}
use Rattle.trail_log.specs.declared.trails.TrailCertificate.{TrailCertificate}
use Rattle.trail_log.specs.Reading.{trails_of}
use Rattle.pool_log.specs.Text as pooled
use Rattle.fewer_log.specs.declared.certificate.FewerCertificate.{FewerCertificate}
use Rattle.fewer_log.specs.Reading.{fewer_of}
use Rattle.fewer_log.specs.Text as fewer
use Rattle.trail_either.specs.declared.evidence.TrailEvidence.{TrailEvidence}
use Rattle.trail_either.specs.declared.evidence.TrailEvidence.TheVariants.{Filled, Pools}

-- the first of the lines is that of a certificate with the balances of pools: of version 2 or 3
abbrev pub names_pools : List (List ℕ) → Bool
names_pools [] = false
names_pools (line ∷ lines) = is_word line pooled.version_line || is_word line fewer.version_line

abbrev pub has_pools : List ℕ → Bool
has_pools bytes = names_pools (lines_in bytes)

abbrev pub as_filled : Result TrailCertificate LogFault → Result TrailEvidence LogFault
as_filled (Ok trails) = Ok (Filled trails)
as_filled (Err f) = Err f

abbrev pub as_pools : Result FewerCertificate LogFault → Result TrailEvidence LogFault
as_pools (Ok c) = Ok (Pools c)
as_pools (Err f) = Err f

-- the certificate of the bytes, or their first fault; that of version 1 where the first line is of none
abbrev pub either_of : List ℕ → List ℕ → Kinds → Result TrailEvidence LogFault
either_of bytes name k =
    if has_pools bytes then as_pools (fewer_of bytes name k) else as_filled (trails_of bytes name k)
