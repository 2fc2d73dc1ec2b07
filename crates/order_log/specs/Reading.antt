-- The certificate of which some bytes are the text, or the first place that is wrong. What the words of a lemma's line
-- say is given.
use Rattle.std.specs.Prelude.{ℕ, ◌+◌, List, [], ◌∷◌, ◌++◌, Option, Some, None, Result, Ok, Err, codes, option_map}
use Rattle.std.specs.Prelude.{if◌then◌else◌}
use Rattle.cell_num.specs.Steps.{◌>>=◌, require, or_fault}
use Rattle.cell_num.specs.declared.net.NetNo.{NetNo}
use Rattle.row_state.specs.declared.kind.Kinds.{Kinds}
use Rattle.log_lines.specs.Words.{is_word, words_in}
use Rattle.log_lines.specs.Lines.{behind, lines_in}
use Rattle.bound_log.specs.declared.fault.LogFault.{LogFault}
use Rattle.bound_log.specs.declared.fault.LogFault.TheVariants as fault
use Rattle.bound_log.specs.declared.log.LogStep.{LogStep}
use Rattle.bound_log.specs.Line.{ending_in}
use Rattle.bound_log.specs.Reading.{columns_at, end_at}
use Rattle.bound_log.specs.declared.log.Ending.TheVariants as ending
use Rattle.trail_log.specs.Line.{fill_in, order_in}
use Rattle.order_log.specs.declared.certificate.OrderCertificate.{OrderCertificate}
use Rattle.order_log.specs.declared.certificate.OrderEntry.{OrderEntry}
use Rattle.order_log.specs.declared.certificate.OrderEntry.TheVariants as entry

-- a line of the lemmas, or the one after them
abbrev pub entry_in : {L : Type 0} → (List (List ℕ) → Option L) → List (List ℕ) → Option (OrderEntry L)
entry_in said [] = None
entry_in said (word ∷ words) =
    if is_word word (codes "lemma") then option_map entry.Lemma (said words) else
    option_map entry.Ending (ending_in (word ∷ words))

-- Below, line n is the first of the lines, and the rest are the bytes after the last one.

-- a lemma before those of a certificate, or the line after the lemmas and what it asks for
abbrev pub begun_by : {L : Type 0} → List NetNo → List NetNo → OrderEntry L → Result (OrderCertificate L) LogFault
    → Result (List LogStep) LogFault → Result (Unit {0}) LogFault → Result (OrderCertificate L) LogFault
begun_by fill order (entry.Lemma lemma) more columns end =
    more >>= λ later. Ok (record {
      fill = later.fill;
      order = later.order;
      lemmas = lemma ∷ later.lemmas;
      best = later.best;
    })
begun_by fill order (entry.Ending (ending.Gaps gaps)) more columns end =
    columns >>= λ steps. Ok (record {
      fill = fill;
      order = order;
      lemmas = [];
      best = Some (record { gaps = gaps; steps = steps });
    })
begun_by fill order (entry.Ending ending.Open) more columns end =
    end >>= λ _. Ok (record { fill = fill; order = order; lemmas = []; best = None })

-- lemmas, then either gaps and columns or `open`, then `end`
unfoldable pub lemmas_at : {L : Type 0} → (List (List ℕ) → Option L) → List NetNo → List NetNo → Kinds → ℕ
    → List (List ℕ) → List ℕ → Result (OrderCertificate L) LogFault
lemmas_at said fill order k n [] rest = Err fault.Cut
lemmas_at said fill order k n (line ∷ lines) rest = do
  first ← or_fault (entry_in said (words_in line)) (fault.Line n)
  begun_by fill order first (lemmas_at said fill order k (n + 1) lines rest) (columns_at k (n + 1) lines rest)
      (end_at (n + 1) lines rest)

-- the line of the order, and the lemmas after it
abbrev pub order_at : {L : Type 0} → (List (List ℕ) → Option L) → List NetNo → Kinds → List (List ℕ) → List ℕ
    → Result (OrderCertificate L) LogFault
order_at said fill k [] rest = Err fault.Cut
order_at said fill k (line ∷ lines) rest = do
  order ← or_fault (order_in k.nets (words_in line)) (fault.Line 4)
  lemmas_at said fill order k 5 lines rest

-- the line of the filled gates, and the order after it
abbrev pub fill_at : {L : Type 0} → (List (List ℕ) → Option L) → Kinds → List (List ℕ) → List ℕ
    → Result (OrderCertificate L) LogFault
fill_at said k [] rest = Err fault.Cut
fill_at said k (line ∷ lines) rest = do
  fill ← or_fault (fill_in k.nets (words_in line)) (fault.Line 3)
  order_at said fill k lines rest

-- the line of the name, and the filled gates after it
abbrev pub named_at : {L : Type 0} → (List (List ℕ) → Option L) → List ℕ → Kinds → List (List ℕ) → List ℕ
    → Result (OrderCertificate L) LogFault
named_at said name k [] rest = Err fault.Cut
named_at said name k (line ∷ lines) rest = do
  _ ← require (is_word line (codes "cell " ++ name)) fault.Cell
  fill_at said k lines rest

-- the line of the version, and the line of the name after it
abbrev pub text_at : {L : Type 0} → (List (List ℕ) → Option L) → List ℕ → List ℕ → Kinds → List (List ℕ) → List ℕ
    → Result (OrderCertificate L) LogFault
text_at said version name k [] rest = Err fault.Cut
text_at said version name k (line ∷ lines) rest = do
  _ ← require (is_word line version) fault.Version
  named_at said name k lines rest

-- the certificate of the bytes, or their first fault
unfoldable pub certificate_of : {L : Type 0} → (List (List ℕ) → Option L) → List ℕ → List ℕ → List ℕ → Kinds
    → Result (OrderCertificate L) LogFault
certificate_of said version bytes name k = text_at said version name k (lines_in bytes) (behind bytes)
