-- The certificate of which some bytes are the text, or the first place that is wrong.
use Rattle.std.specs.Prelude.{ℕ, ◌+◌, List, [], ◌∷◌, ◌++◌, Some, None, Result, Ok, Err, codes}
use Rattle.cell_num.specs.Steps.{◌>>=◌, require, or_fault}
use Rattle.cell_num.specs.declared.net.NetNo.{NetNo}
use Rattle.row_state.specs.declared.kind.Kinds.{Kinds}
use Rattle.log_lines.specs.Words.{is_word, words_in}
use Rattle.log_lines.specs.Lines.{behind, lines_in}
use Rattle.bound_log.specs.declared.fault.LogFault.{LogFault}
use Rattle.bound_log.specs.declared.fault.LogFault.TheVariants as fault
use Rattle.bound_log.specs.declared.log.LogStep.{LogStep}
use Rattle.bound_log.specs.Reading.{columns_at, end_at}
use Rattle.bound_log.specs.declared.log.Ending.TheVariants as ending
use Rattle.trail_log.specs.declared.trails.TrailCertificate.{TrailCertificate}
use Rattle.trail_log.specs.declared.trails.TrailEntry.{TrailEntry}
use Rattle.trail_log.specs.declared.trails.TrailEntry.TheVariants as entry
use Rattle.trail_log.specs.Line.{entry_in, fill_in, order_in}
use Rattle.trail_log.specs.Text.{version_line}

-- Below, line n is the first of the lines, and the rest are the bytes after the last one.

-- a lemma before those of a certificate, or the line after the lemmas and what it asks for
abbrev pub begun_by : List NetNo → List NetNo → TrailEntry → Result TrailCertificate LogFault
    → Result (List LogStep) LogFault → Result (Unit {0}) LogFault → Result TrailCertificate LogFault
begun_by fill order (entry.Lemma lemma) trails columns end =
    trails >>= λ later. Ok (record {
      fill = later.fill;
      order = later.order;
      lemmas = lemma ∷ later.lemmas;
      best = later.best;
    })
begun_by fill order (entry.Ending (ending.Gaps gaps)) trails columns end =
    columns >>= λ steps. Ok (record {
      fill = fill;
      order = order;
      lemmas = [];
      best = Some (record { gaps = gaps; steps = steps });
    })
begun_by fill order (entry.Ending ending.Open) trails columns end =
    end >>= λ _. Ok (record { fill = fill; order = order; lemmas = []; best = None })

-- lemmas, then either gaps and columns or `open`, then `end`
unfoldable pub lemmas_at : List NetNo → List NetNo → Kinds → ℕ → List (List ℕ) → List ℕ
    → Result TrailCertificate LogFault
lemmas_at fill order k n [] rest = Err fault.Cut
lemmas_at fill order k n (line ∷ lines) rest = do
  first ← or_fault (entry_in k.nets (words_in line)) (fault.Line n)
  begun_by fill order first (lemmas_at fill order k (n + 1) lines rest) (columns_at k (n + 1) lines rest)
      (end_at (n + 1) lines rest)

-- the line of the order, and the lemmas after it
abbrev pub order_at : List NetNo → Kinds → List (List ℕ) → List ℕ → Result TrailCertificate LogFault
order_at fill k [] rest = Err fault.Cut
order_at fill k (line ∷ lines) rest = do
  order ← or_fault (order_in k.nets (words_in line)) (fault.Line 4)
  lemmas_at fill order k 5 lines rest

-- the line of the filled gates, and the order after it
abbrev pub fill_at : Kinds → List (List ℕ) → List ℕ → Result TrailCertificate LogFault
fill_at k [] rest = Err fault.Cut
fill_at k (line ∷ lines) rest = do
  fill ← or_fault (fill_in k.nets (words_in line)) (fault.Line 3)
  order_at fill k lines rest

-- the line of the name, and the filled gates after it
abbrev pub named_at : List ℕ → Kinds → List (List ℕ) → List ℕ → Result TrailCertificate LogFault
named_at name k [] rest = Err fault.Cut
named_at name k (line ∷ lines) rest = do
  _ ← require (is_word line (codes "cell " ++ name)) fault.Cell
  fill_at k lines rest

-- the line of the version, and the line of the name after it
abbrev pub text_at : List ℕ → Kinds → List (List ℕ) → List ℕ → Result TrailCertificate LogFault
text_at name k [] rest = Err fault.Cut
text_at name k (line ∷ lines) rest = do
  _ ← require (is_word line version_line) fault.Version
  named_at name k lines rest

-- the certificate of the bytes, or their first fault
unfoldable pub trails_of : List ℕ → List ℕ → Kinds → Result TrailCertificate LogFault
trails_of bytes name k = text_at name k (lines_in bytes) (behind bytes)
