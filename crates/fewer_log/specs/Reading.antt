-- The certificate of which some bytes are the text, or the first place that is wrong.
use Rattle.std.specs.Prelude.{ℕ, ◌+◌, min, Bool, false, List, [], ◌∷◌, Option, Some, None, Result, Ok, Err}
use Rattle.std.specs.Prelude.{drop, if◌then◌else◌}
use Rattle.cell_num.specs.Steps.{◌>>=◌, or_fault}
use Rattle.row_state.specs.declared.kind.Kinds.{Kinds}
use Rattle.log_lines.specs.Words.{is_word, words_in}
use Rattle.log_lines.specs.Lines.{behind, lines_in}
use Rattle.bound_log.specs.declared.fault.LogFault.{LogFault}
use Rattle.bound_log.specs.declared.fault.LogFault.TheVariants as fault
use Rattle.order_log.specs.Reading.{text_at}
use Rattle.order_log.specs.declared.certificate.OrderCertificate.{OrderCertificate}
use Rattle.pool_log.specs.declared.lemma.PoolLine.{PoolLine}
use Rattle.pool_log.specs.Line.{lemma_in}
use Rattle.pool_log.specs.Text as pooled
use Rattle.fewer_fingers.specs.declared.fewer.LeftOut.{LeftOut}
use Rattle.fewer_log.specs.declared.certificate.FewerCertificate.{FewerCertificate}
use Rattle.fewer_log.specs.Line.{out_in}
use Rattle.fewer_log.specs.Text.{version_line}

-- a fault of a text that begins at the third line; a line's number has 32 bits
abbrev pub two_later : LogFault → LogFault
two_later (fault.Line n) = fault.Line (min (n + 2) 4294967295)
two_later f = f

-- a certificate, by what is left out and the text that follows
abbrev pub leaving : Option LeftOut → Result (OrderCertificate PoolLine) LogFault → Result FewerCertificate LogFault
leaving out (Ok pools) = Ok (record { out = out; pools = pools })
leaving None (Err f) = Err f
leaving (Some out) (Err f) = Err (two_later f)

-- the first of the lines is that of a certificate without some fingers
abbrev pub names_out : List (List ℕ) → Bool
names_out [] = false
names_out (line ∷ lines) = is_word line version_line

-- the line of what is left out, and after it the lemmas on the other fingers
abbrev pub out_at : List ℕ → Kinds → List (List ℕ) → List ℕ → Result FewerCertificate LogFault
out_at name k [] rest = Err fault.Cut
out_at name k (line ∷ lines) rest = do
  out ← or_fault (out_in k.nets (words_in line)) (fault.Line 2)
  leaving (Some out) (text_at (lemma_in k.nets) pooled.version_line name k lines rest)

-- the certificate of the bytes, or their first fault
abbrev pub fewer_of : List ℕ → List ℕ → Kinds → Result FewerCertificate LogFault
fewer_of bytes name k =
    if names_out (lines_in bytes) then out_at name k (drop 1 (lines_in bytes)) (behind bytes)
    else leaving None (pooled.pools_of bytes name k)
