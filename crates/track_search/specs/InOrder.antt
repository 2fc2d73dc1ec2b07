-- The tracks of a way in order of their nets.
use Rattle.std.specs.Prelude.{ℕ, ◌==◌, List, Option, filter_map}
use Rattle.std.specs.List.{find, range_with_len}
use Rattle.track_ways.specs.declared.track.NetTrack.{NetTrack}

-- the first track that is listed of the net
abbrev pub track_in : List NetTrack → ℕ → Option NetTrack
track_in way net = find (λ (t : NetTrack). t.net.0 == net) way

-- one for each net below the number of nets that has one
abbrev pub in_order : ℕ → List NetTrack → List NetTrack
in_order nets way = filter_map (track_in way) (range_with_len 0 nets)
