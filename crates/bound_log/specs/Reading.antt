-- The log of which some bytes are the text, or the first place that is wrong.
use Rattle.std.specs.Prelude.{ℕ, ◌+◌, ◌==◌, ◌&&◌, List, [], ◌∷◌, ◌++◌, Some, None, Result, Ok, Err, length, codes}
use Rattle.std.specs.Prelude.{if◌then◌else◌}
use Rattle.cell_num.specs.Steps.{◌>>=◌, require, or_fault}
use Rattle.row_state.specs.declared.kind.Kinds.{Kinds}
use Rattle.log_lines.specs.Lines.{behind, lines_in}
use Rattle.log_lines.specs.Words.{is_word, words_in}
use Rattle.bound_log.specs.declared.fault.LogFault.{LogFault}
use Rattle.bound_log.specs.declared.fault.LogFault.TheVariants as fault
use Rattle.bound_log.specs.declared.log.LogStep.{LogStep}
use Rattle.bound_log.specs.declared.log.Log.{Log}
use Rattle.bound_log.specs.declared.log.Entry.{Entry}
use Rattle.bound_log.specs.declared.log.Ending.TheVariants as ending
use Rattle.bound_log.specs.declared.log.Entry.TheVariants as entry
use Rattle.bound_log.specs.Line.{entry_in, column_in, version_in}

-- Below, line n is the first of the lines, and the rest are the bytes behind the last one.

-- `end`, and nothing behind it
abbrev pub end_at : ℕ → List (List ℕ) → List ℕ → Result (Unit {0}) LogFault
end_at n [] rest = Err fault.Cut
end_at n (line ∷ lines) rest = do
  _ ← require (is_word line (codes "end")) (fault.Line n)
  require (length lines == 0 && length rest == 0) (fault.Line (n + 1))

-- columns, until `end`
unfoldable pub columns_at : Kinds → ℕ → List (List ℕ) → List ℕ → Result (List LogStep) LogFault
columns_at k n [] rest = Err fault.Cut
columns_at k n (line ∷ lines) rest =
    if is_word line (codes "end") then (end_at n (line ∷ lines) rest >>= λ _. Ok []) else (do
      column ← or_fault (column_in k (words_in line)) (fault.Line n)
      columns ← columns_at k (n + 1) lines rest
      Ok (column ∷ columns))

-- a lemma before those of a log, or the line behind the lemmas and what it asks for
abbrev pub begun_by : ℕ → Entry → Result Log LogFault → Result (List LogStep) LogFault → Result (Unit {0}) LogFault
    → Result Log LogFault
begun_by version (entry.Lemma lemma) log columns end =
    log >>= λ later. Ok (record { version = later.version; lemmas = lemma ∷ later.lemmas; best = later.best })
begun_by version (entry.Ending (ending.Gaps gaps)) log columns end =
    columns >>= λ steps. Ok (record {
      version = version;
      lemmas = [];
      best = Some (record { gaps = gaps; steps = steps });
    })
begun_by version (entry.Ending ending.Open) log columns end =
    end >>= λ _. Ok (record { version = version; lemmas = []; best = None })

-- of a log of that version: lemmas, then either gaps and columns or `open`, then `end`
unfoldable pub log_at : ℕ → Kinds → ℕ → List (List ℕ) → List ℕ → Result Log LogFault
log_at version k n [] rest = Err fault.Cut
log_at version k n (line ∷ lines) rest = do
  first ← or_fault (entry_in k (words_in line)) (fault.Line n)
  begun_by version first (log_at version k (n + 1) lines rest) (columns_at k (n + 1) lines rest)
      (end_at (n + 1) lines rest)

-- the line of the name, and the log of that version behind it
abbrev pub named_at : List ℕ → Kinds → ℕ → List (List ℕ) → List ℕ → Result Log LogFault
named_at name k version [] rest = Err fault.Cut
named_at name k version (line ∷ lines) rest = do
  _ ← require (is_word line (codes "cell " ++ name)) fault.Cell
  log_at version k 3 lines rest

-- the line of the version, and the line of the name behind it
abbrev pub text_at : List ℕ → Kinds → List (List ℕ) → List ℕ → Result Log LogFault
text_at name k [] rest = Err fault.Cut
text_at name k (line ∷ lines) rest = do
  version ← or_fault (version_in line) fault.Version
  named_at name k version lines rest

-- the log of the bytes, or their first fault
unfoldable pub log_of : List ℕ → List ℕ → Kinds → Result Log LogFault
log_of bytes name k = text_at name k (lines_in bytes) (behind bytes)
