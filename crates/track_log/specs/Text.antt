-- The text of a certificate: ASCII lines, each ended by LF; numbers are decimal, and one space parts the words.
use Rattle.std.specs.Prelude.{ℕ, List, ◌∷◌, ◌++◌, map, flat_map, codes, decimal}
use Rattle.row_state.specs.declared.state.State.{State}
use Rattle.bound_log.specs.Text.{gaps_line, last_line, state_text}
use Rattle.trail_log.specs.Spelling.{list_text}
use Rattle.row_cycles.specs.declared.above.NetAbove.{NetAbove}
use Rattle.row_cycles.specs.declared.lemma.CycleLemma.{CycleLemma}
use Rattle.track_ways.specs.declared.track.NetTrack.{NetTrack}
use Rattle.track_ways.specs.declared.lemma.TrackLemma.{TrackLemma}
use Rattle.track_log.specs.declared.certificate.Course.{Course}
use Rattle.track_log.specs.declared.certificate.Course.TheVariants as course
use Rattle.track_log.specs.declared.certificate.TrackCertificate.{TrackCertificate}

-- the first line, without its line feed: version 1 where nets go straight, version 2 where they may turn
abbrev pub version_line_by : Course → List ℕ
version_line_by course.Straight = codes "cellgen-tracks 1"
version_line_by course.Turning = codes "cellgen-tracks 2"

abbrev pub head_lines : Course → List ℕ → List ℕ
head_lines by name = version_line_by by ++ codes "\ncell " ++ name ++ codes "\n"

abbrev pub tracks_line : ℕ → List ℕ
tracks_line tracks = codes "tracks " ++ decimal tracks ++ codes "\n"

-- a net, a colon (byte 58), its track
abbrev pub track_text : NetTrack → List ℕ
track_text t = decimal t.net.0 ++ (58 ∷ decimal t.track)

-- with commas (byte 44) between; `-` for none: any tracks
abbrev pub tracks_text : List NetTrack → List ℕ
tracks_text tracks = list_text 44 (map track_text tracks)

-- a net, `>` (byte 62), a net below it
abbrev pub above_text : NetAbove → List ℕ
above_text a = decimal a.upper.0 ++ (62 ∷ decimal a.lower.0)

-- with commas between; `-` for none: the lemma asks for nothing
abbrev pub aboves_text : List NetAbove → List ℕ
aboves_text above = list_text 44 (map above_text above)

-- a lemma: its first word, further gaps, a state as a log has it, and a list
abbrev pub fields_line : List ℕ → ℕ → State → List ℕ → List ℕ
fields_line front gaps state list =
    front ++ codes " " ++ decimal gaps ++ codes " " ++ state_text state ++ codes " " ++ list ++ codes "\n"

-- nets above others
abbrev pub cycle_line : CycleLemma → List ℕ
cycle_line lemma = fields_line (codes "cycle") lemma.gaps lemma.state (aboves_text lemma.above)

-- tracks of open nets
abbrev pub lemma_line : TrackLemma → List ℕ
lemma_line lemma = fields_line (codes "lemma") lemma.gaps lemma.state (tracks_text lemma.tracks)

-- the gaps that are allowed, the tracks that each such row needs, lemmas on cycles, those on tracks, and `end`
abbrev pub certificate_text_by : Course → List ℕ → TrackCertificate → List ℕ
certificate_text_by by name certificate =
    head_lines by name
    ++ gaps_line certificate.gaps
    ++ tracks_line certificate.tracks
    ++ flat_map cycle_line certificate.cycles
    ++ flat_map lemma_line certificate.lemmas
    ++ last_line

-- the same where nets go straight
abbrev pub certificate_text : List ℕ → TrackCertificate → List ℕ
certificate_text = certificate_text_by course.Straight
