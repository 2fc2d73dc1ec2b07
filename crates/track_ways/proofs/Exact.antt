-- And all tracks that are listed are a way through the lines.
use Rattle.std.proofs.Common.{ℕ, ◌≡◌, ◌⊎◌, ◌&&◌, ◌||◌, ltb, not, Bool, true, false, cond, List, [], ◌∷◌, length, inl, inr, refl, sym, subst, arith, Contains, ◌∙◌}
use Rattle.std.proofs.lemmas.List.Elements.{All-contains}
use Rattle.cell_num.specs.declared.net.NetNo.{NetNo}
use Rattle.cell_num.specs.declared.net.Pins.{Pins}
use Rattle.cell_num.specs.Pins.{is_rail}
use Rattle.cell_num.proofs.In.{in_flat, Piece}
use Rattle.cell_num.proofs.Lists.{all_from_contains, contains_one}
use Rattle.track_ways.specs.declared.line.Line.{Line}
use Rattle.track_ways.specs.declared.track.NetTrack.{NetTrack}
use Rattle.track_ways.specs.Lines.{Agrees, LineRule, PassesBy, StraightFits, has_place, is_ahead, is_held, is_open, is_twice, with_line}
use Rattle.track_ways.specs.Tracks.{AreTracksOf, IsSingle, Listed}
use Rattle.track_ways.specs.Ways.{LineWays, is_listed, open_of, pass_ways, pass_ways_by}
use Rattle.track_ways.specs.Rules.{Among, IsRule, IsWay}
use Rattle.track_ways.specs.Fillings.{is_there, keeps, kept, listed, look, look_is}
use Rattle.track_ways.specs.StraightLaw.{straight_rule}
use Rattle.track_ways.proofs.LineParts.{first_of_lines}
pub use Rattle.track_ways.specs.Fillings.{pass_at}

abbrev pub PlacesAmong : List NetNo → List Line → Type 0
PlacesAmong nets xs = Among nets (is_ahead xs)

pub open_held : (pins : Pins) (before : NetNo → Bool) (line : Line) (rest : List Line) (behind : NetNo → Bool) (net : NetNo) → length rest ≡ 0 → is_open pins (with_line before line) behind net ≡ true → is_held pins before line (λ net. is_ahead rest net || behind net) net ≡ true
open_held pins before line rest behind net none o = go (not (is_rail pins net)) (before net) (has_place line net) (is_ahead rest net) (behind net) (is_twice line net || ltb net.0 pins.pins) o
  where
    go : (r b p a h q : Bool) → (r && ((b || p) && h)) ≡ true → (r && ((b && (a || h)) || (p && (b || ((a || h) || q))))) ≡ true
    go r b p a h q e = grind (arith, e)

either : (a b : Bool) → (a || b) ≡ true → (a ≡ true) ⊎ (b ≡ true)
either true b e = inl refl
either false b e = inr e

pub here_among : (nets : List NetNo) (before : NetNo → Bool) (line : Line) (rest : List Line) → Among nets before → PlacesAmong nets (line ∷ rest) → Among nets (with_line before line)
here_among nets before line rest among places net e = elim (either (before net) (has_place line net) e) [
  | inl b ↦ among net b
  | inr p ↦ places net (go (has_place line net) (is_ahead rest net) p)
]
  where
    go : (a b : Bool) → a ≡ true → (a || b) ≡ true
    go a b e = grind (arith, e)

pub rest_among : (nets : List NetNo) (line : Line) (rest : List Line) → PlacesAmong nets (line ∷ rest) → PlacesAmong nets rest
rest_among nets line rest places net e = places net (go (has_place line net) (is_ahead rest net) e)
  where
    go : (a b : Bool) → b ≡ true → (a || b) ≡ true
    go a b e = grind (arith, e)

-- tracks through the lines that go on from one list to another
pub record PassedBy (rule : LineRule) (pins : Pins) (limit : ℕ) (before : NetNo → Bool) (xs : List Line) (after : NetNo → Bool) (tracks way : List NetTrack) : Type 0 where
  pub track : NetNo → ℕ
  pub last : NetNo → ℕ
  pub from : AreTracksOf tracks track
  pub passes : PassesBy rule pins limit before track xs after last
  pub to : AreTracksOf way last

-- a way through a line and those after it
pub record PartedBy (rule : LineRule) (ways : LineWays) (pins : Pins) (limit : ℕ) (nets : List NetNo) (before : NetNo → Bool) (line : Line) (rest : List Line) (after : NetNo → Bool) (tracks way : List NetTrack) : Type 0 where
  pub out : List NetTrack
  pub here : IsWay rule pins limit before line (λ net. is_ahead rest net || after net) (open_of pins before (λ net. is_ahead (line ∷ rest) net || after net) tracks) out
  pub further : Contains (pass_ways_by ways pins limit nets (with_line before line) rest after out) way

pub parted_by : {rule : LineRule} {ways : LineWays} → IsRule rule ways →
    (pins : Pins) (limit : ℕ) (nets : List NetNo) (before : NetNo → Bool) (line : Line) (rest : List Line)
    (after : NetNo → Bool) (tracks way : List NetTrack) → Among nets before → PlacesAmong nets (line ∷ rest) →
    Contains (pass_ways_by ways pins limit nets before (line ∷ rest) after tracks) way →
    PartedBy rule ways pins limit nets before line rest after tracks way
parted_by {rule} {ways} r pins limit nets before line rest after tracks way among places there =
    let later : NetNo → Bool = λ net. is_ahead rest net || after net in
    let going : List NetTrack = open_of pins before (λ net. is_ahead (line ∷ rest) net || after net) tracks in
    let p : Piece (pass_ways_by ways pins limit nets (with_line before line) rest after) (ways pins limit nets before line later going) way = in_flat (pass_ways_by ways pins limit nets (with_line before line) rest after) (ways pins limit nets before line later going) way there in
    record {
      out = p.of;
      here = r.only pins limit nets before line later going p.of (here_among nets before line rest among places) p.listed;
      further = p.inside;
    }

-- the tracks before a line that are listed, and those that others have
joined : (pins : Pins) (before : NetNo → Bool) (line : Line) (rest : List Line) (after : NetNo → Bool)
    (tracks : List NetTrack) (track : NetNo → ℕ) → IsSingle tracks →
    AreTracksOf (open_of pins before (λ net. is_ahead (line ∷ rest) net || after net) tracks) track →
    Agrees pins before (λ net. has_place line net || (is_ahead rest net || after net))
    (λ net. cond (is_listed tracks net) (look tracks net) (track net)) track
joined pins before line rest after tracks track one have net o = go (is_listed tracks net) refl
  where
    go : (b : Bool) → is_listed tracks net ≡ b → track net ≡ cond b (look tracks net) (track net)
    go false e = refl
    go true e =
        let l : Listed tracks net = listed tracks net e in
        let here : is_open pins before (λ net. is_ahead (line ∷ rest) net || after net) net ≡ true = subst (λ (b : NetNo → Bool). is_open pins before b net ≡ true) (first_of_lines line rest after) o in
        let open' : is_open pins before (λ net. is_ahead (line ∷ rest) net || after net) l.it.net ≡ true = subst (λ z. is_open pins before (λ net. is_ahead (line ∷ rest) net || after net) z ≡ true) (sym l.is) here in
        let going : List NetTrack = open_of pins before (λ net. is_ahead (line ∷ rest) net || after net) tracks in
        let at : Contains going l.it = keeps (λ (t : NetTrack). is_open pins before (λ net. is_ahead (line ∷ rest) net || after net) t.net) tracks l.it l.there open' in
        subst (λ z. track z ≡ look tracks z) l.is (All-contains (λ (t : NetTrack). track t.net ≡ t.track) going l.it have at ∙ sym (look_is tracks l.it one l.there))

pub pass_exact_by : {rule : LineRule} {ways : LineWays} → IsRule rule ways →
    (pins : Pins) (limit : ℕ) (nets : List NetNo) (before : NetNo → Bool) (xs : List Line) (after : NetNo → Bool)
    (tracks way : List NetTrack) → IsSingle tracks → Among nets before → PlacesAmong nets xs →
    Contains (pass_ways_by ways pins limit nets before xs after tracks) way →
    PassedBy rule pins limit before xs after tracks way
pass_exact_by r pins limit nets before [] after tracks way one among places there = record {
  track = look tracks;
  last = look tracks;
  from = all_from_contains (λ (t : NetTrack). look tracks t.net ≡ t.track) tracks (λ t at. look_is tracks t one at);
  passes = λ net o. refl;
  to = subst (λ w. AreTracksOf w (look tracks)) (contains_one (open_of pins before after tracks) way there)
      (all_from_contains (λ (t : NetTrack). look tracks t.net ≡ t.track) (open_of pins before after tracks)
      (λ t at. look_is tracks t one (kept (λ (t : NetTrack). is_open pins before after t.net) tracks t at).0));
}
pass_exact_by {rule} {ways} r pins limit nets before (line ∷ rest) after tracks way one among places there =
    let p : PartedBy rule ways pins limit nets before line rest after tracks way = parted_by r pins limit nets before line rest after tracks way among places there in
    let later : NetNo → Bool = λ net. is_ahead rest net || after net in
    let tail : PassedBy rule pins limit (with_line before line) rest after p.out way = pass_exact_by r pins limit nets (with_line before line) rest after p.out way p.here.one (here_among nets before line rest among places) (rest_among nets line rest places) p.further in
    let from = p.here.from tail.track tail.from in
    record {
      track = λ net. cond (is_listed tracks net) (look tracks net) (from.0 net);
      last = tail.last;
      from = all_from_contains (λ (t : NetTrack). cond (is_listed tracks t.net) (look tracks t.net) (from.0 t.net) ≡ t.track) tracks (λ t at. first (is_listed tracks t.net) (look tracks t.net) (from.0 t.net) t.track (is_there tracks t at) (look_is tracks t one at));
      passes = (tail.track, r.again pins limit before line later from.0 (λ net. cond (is_listed tracks net) (look tracks net) (from.0 net)) tail.track (joined pins before line rest after tracks from.0 one from.1) from.2, tail.passes);
      to = tail.to;
    }
  where
    first : (b : Bool) (x y z : ℕ) → b ≡ true → x ≡ z → cond b x y ≡ z
    first true x y z e s = s
    first false x y z e s = absurd cc

-- where nets go straight
abbrev pub Passed : Pins → ℕ → (NetNo → Bool) → List Line → (NetNo → Bool) → List NetTrack → List NetTrack → Type 0
Passed = PassedBy StraightFits

pub pass_exact : (pins : Pins) (limit : ℕ) (nets : List NetNo) (before : NetNo → Bool) (xs : List Line)
    (after : NetNo → Bool) (tracks way : List NetTrack) → IsSingle tracks → Among nets before → PlacesAmong nets xs →
    Contains (pass_ways pins limit nets before xs after tracks) way → Passed pins limit before xs after tracks way
pass_exact = pass_exact_by straight_rule
