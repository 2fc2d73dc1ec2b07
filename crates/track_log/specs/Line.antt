-- What one line of a certificate holds, by its words.
use Rattle.std.specs.Prelude.{ℕ, leb, List, [], ◌∷◌, Option, Some, None, codes, option_map, if◌then◌else◌}
use Rattle.row_state.specs.declared.kind.Kinds.{Kinds}
use Rattle.row_state.specs.declared.state.State.{State}
use Rattle.log_lines.specs.Words.{is_word, number_below, parts_at}
use Rattle.bound_log.specs.Line.{◌>>=◌, provided, state_in}
use Rattle.trail_log.specs.Listed.{list_in, net_in}
use Rattle.trail_log.specs.Order.{increases}
use Rattle.row_cycles.specs.declared.above.NetAbove.{NetAbove}
use Rattle.row_cycles.specs.declared.lemma.CycleLemma.{CycleLemma}
use Rattle.row_cycles.specs.Fits.{above_rank}
use Rattle.track_ways.specs.declared.track.NetTrack.{NetTrack}
use Rattle.track_ways.specs.declared.lemma.TrackLemma.{TrackLemma}

-- the number after a word, where there is no more
abbrev pub number_after : List ℕ → ℕ → List (List ℕ) → Option ℕ
number_after front limit (word ∷ number ∷ []) = if is_word word front then number_below limit number else None
number_after front limit _ = None

abbrev pub gaps_in : List (List ℕ) → Option ℕ
gaps_in words = number_after (codes "gaps") 64 words

-- at least one track
abbrev pub count_in : List (List ℕ) → Option ℕ
count_in words = do
  tracks ← number_after (codes "tracks") 257 words
  _ ← provided (leb 1 tracks)
  Some tracks

abbrev pub track_of : ℕ → List (List ℕ) → Option NetTrack
track_of nets (net_word ∷ track_word ∷ []) = do
  net ← net_in nets net_word
  track ← number_below 256 track_word
  Some (record { net = net; track = track })
track_of nets _ = None

abbrev pub track_in : ℕ → List ℕ → Option NetTrack
track_in nets word = track_of nets (parts_at 58 word)

abbrev pub track_rank : NetTrack → ℕ
track_rank t = t.net.0

-- a net, and one below it
abbrev pub above_of : ℕ → List (List ℕ) → Option NetAbove
above_of nets (upper_word ∷ lower_word ∷ []) = do
  upper ← net_in nets upper_word
  lower ← net_in nets lower_word
  Some (record { upper = upper; lower = lower })
above_of nets _ = None

abbrev pub above_in : ℕ → List ℕ → Option NetAbove
above_in nets word = above_of nets (parts_at 62 word)

-- a list with commas (byte 44) between, each item before the next
unfoldable pub ordered_in : {A : Type 0} → (List ℕ → Option A) → (A → ℕ) → List ℕ → Option (List A)
ordered_in read rank word = do
  items ← list_in 44 read word
  _ ← provided (increases rank items)
  Some items

-- after the first word of a lemma: further gaps, a valid state, and a list
abbrev pub fields_in : {A : Type 0} → (ℕ → List ℕ → Option A) → (A → ℕ) → Kinds → List (List ℕ)
    → Option (ℕ × State × List A)
fields_in read rank k (gaps_word ∷ p_left ∷ n_left ∷ p_end ∷ n_end ∷ list ∷ []) = do
  gaps ← number_below 64 gaps_word
  state ← state_in k p_left n_left p_end n_end
  items ← ordered_in (read k.nets) rank list
  Some (gaps, state, items)
fields_in read rank k _ = None

-- the fields of a lemma whose first word is that one
abbrev pub fields_after : {A : Type 0} → List ℕ → (ℕ → List ℕ → Option A) → (A → ℕ) → Kinds → List (List ℕ)
    → Option (ℕ × State × List A)
fields_after front read rank k [] = None
fields_after front read rank k (word ∷ words) = if is_word word front then fields_in read rank k words else None

abbrev pub cycle_with : ℕ × State × List NetAbove → CycleLemma
cycle_with fields = record { state = fields.1; gaps = fields.0; above = fields.2 }

abbrev pub lemma_with : ℕ × State × List NetTrack → TrackLemma
lemma_with fields = record { state = fields.1; gaps = fields.0; tracks = fields.2 }

-- a line of the lemmas on cycles
abbrev pub cycle_in : Kinds → List (List ℕ) → Option CycleLemma
cycle_in k words = option_map cycle_with (fields_after (codes "cycle") above_in above_rank k words)

-- a line of the lemmas on tracks
abbrev pub lemma_in : Kinds → List (List ℕ) → Option TrackLemma
lemma_in k words = option_map lemma_with (fields_after (codes "lemma") track_in track_rank k words)
