-- Tracks of some nets, as a list.
use Rattle.std.specs.Prelude.{ℕ, ◌≡◌, Bool, true, List, All, Contains}
use Rattle.cell_num.specs.declared.net.NetNo.{NetNo}
use Rattle.cell_num.specs.declared.net.Pins.{Pins}
use Rattle.track_ways.specs.Lines.{is_open}
use Rattle.track_ways.specs.declared.track.NetTrack.{NetTrack}

-- the listed nets have these tracks
abbrev pub AreTracksOf : List NetTrack → (NetNo → ℕ) → Type 0
AreTracksOf tracks track = All (λ (t : NetTrack). track t.net ≡ t.track) tracks

-- no net is listed with two tracks
abbrev pub IsSingle : List NetTrack → Type 0
IsSingle tracks =
    (t u : NetTrack) → Contains tracks t → Contains tracks u → t.net.0 ≡ u.net.0 → t.track ≡ u.track

-- a listed net, and its track
pub record Listed (tracks : List NetTrack) (net : NetNo) : Type 0 where
  pub it : NetTrack
  pub there : Contains tracks it
  pub is : it.net ≡ net

-- the nets that are listed are the open ones, each with one track
pub record AreKeys (pins : Pins) (before behind : NetNo → Bool) (way : List NetTrack) : Type 0 where
  pub one : IsSingle way
  pub open' : All (λ (t : NetTrack). is_open pins before behind t.net ≡ true) way
  pub each : (net : NetNo) → is_open pins before behind net ≡ true → Listed way net
