-- The certificate of which some bytes are the text, or the first place that is wrong.
use Rattle.std.specs.Prelude.{ℕ, ◌+◌, List, [], ◌∷◌, ◌++◌, Option, Some, None, Result, Ok, Err, codes, if◌then◌else◌}
use Rattle.cell_num.specs.Steps.{◌>>=◌, require, or_fault}
use Rattle.row_state.specs.declared.kind.Kinds.{Kinds}
use Rattle.log_lines.specs.Words.{is_word, words_in}
use Rattle.log_lines.specs.Lines.{behind, lines_in}
use Rattle.bound_log.specs.declared.fault.LogFault.{LogFault}
use Rattle.bound_log.specs.declared.fault.LogFault.TheVariants as fault
use Rattle.bound_log.specs.Reading.{end_at}
use Rattle.row_cycles.specs.declared.lemma.CycleLemma.{CycleLemma}
use Rattle.track_ways.specs.declared.lemma.TrackLemma.{TrackLemma}
use Rattle.track_log.specs.declared.certificate.Course.{Course}
use Rattle.track_log.specs.declared.certificate.Course.TheVariants as course
use Rattle.track_log.specs.declared.certificate.TrackCertificate.{TrackCertificate}
use Rattle.track_log.specs.Line.{count_in, cycle_in, gaps_in, lemma_in}
use Rattle.track_log.specs.Text.{version_line_by}

-- Below, line n is the first of the lines, and the rest are the bytes after the last one.

-- lemmas on tracks, until `end`
unfoldable pub lemmas_at : Kinds → ℕ → List (List ℕ) → List ℕ → Result (List TrackLemma) LogFault
lemmas_at k n [] rest = Err fault.Cut
lemmas_at k n (line ∷ lines) rest =
    if is_word line (codes "end") then (end_at n (line ∷ lines) rest >>= λ _. Ok []) else (do
      lemma ← or_fault (lemma_in k (words_in line)) (fault.Line n)
      lemmas ← lemmas_at k (n + 1) lines rest
      Ok (lemma ∷ lemmas))

-- a lemma on cycles before those of a certificate, or one without them
abbrev pub begun_by : Option CycleLemma → Result TrackCertificate LogFault → Result TrackCertificate LogFault
    → Result TrackCertificate LogFault
begun_by None certificate without = without
begun_by (Some cycle) certificate without = certificate >>= λ later. Ok (record {
  gaps = later.gaps;
  tracks = later.tracks;
  cycles = cycle ∷ later.cycles;
  lemmas = later.lemmas;
})

-- lemmas on cycles, and after them those on tracks
unfoldable pub cycles_at : ℕ → ℕ → Kinds → ℕ → List (List ℕ) → List ℕ → Result TrackCertificate LogFault
cycles_at gaps tracks k n [] rest = Err fault.Cut
cycles_at gaps tracks k n (line ∷ lines) rest =
    begun_by (cycle_in k (words_in line)) (cycles_at gaps tracks k (n + 1) lines rest) (do
      lemmas ← lemmas_at k n (line ∷ lines) rest
      Ok (record { gaps = gaps; tracks = tracks; cycles = []; lemmas = lemmas }))

-- the line of the tracks, and the lemmas after it
abbrev pub count_at : ℕ → Kinds → List (List ℕ) → List ℕ → Result TrackCertificate LogFault
count_at gaps k [] rest = Err fault.Cut
count_at gaps k (line ∷ lines) rest = do
  tracks ← or_fault (count_in (words_in line)) (fault.Line 4)
  cycles_at gaps tracks k 5 lines rest

-- the line of the gaps, and that of the tracks after it
abbrev pub gaps_at : Kinds → List (List ℕ) → List ℕ → Result TrackCertificate LogFault
gaps_at k [] rest = Err fault.Cut
gaps_at k (line ∷ lines) rest = do
  gaps ← or_fault (gaps_in (words_in line)) (fault.Line 3)
  count_at gaps k lines rest

-- the line of the name, and that of the gaps after it
abbrev pub named_at : List ℕ → Kinds → List (List ℕ) → List ℕ → Result TrackCertificate LogFault
named_at name k [] rest = Err fault.Cut
named_at name k (line ∷ lines) rest = do
  _ ← require (is_word line (codes "cell " ++ name)) fault.Cell
  gaps_at k lines rest

-- the line of the version, and that of the name after it
abbrev pub text_at : Course → List ℕ → Kinds → List (List ℕ) → List ℕ → Result TrackCertificate LogFault
text_at by name k [] rest = Err fault.Cut
text_at by name k (line ∷ lines) rest = do
  _ ← require (is_word line (version_line_by by)) fault.Version
  named_at name k lines rest

-- the certificate of the bytes, or their first fault
unfoldable pub certificate_by : Course → List ℕ → List ℕ → Kinds → Result TrackCertificate LogFault
certificate_by by bytes name k = text_at by name k (lines_in bytes) (behind bytes)

-- the same where nets go straight
abbrev pub certificate_of : List ℕ → List ℕ → Kinds → Result TrackCertificate LogFault
certificate_of = certificate_by course.Straight

-- the course that the first of the lines names
abbrev pub course_at : List (List ℕ) → Course
course_at [] = course.Straight
course_at (line ∷ lines) =
    if is_word line (version_line_by course.Turning) then course.Turning else course.Straight

abbrev pub course_of : List ℕ → Course
course_of bytes = course_at (lines_in bytes)
