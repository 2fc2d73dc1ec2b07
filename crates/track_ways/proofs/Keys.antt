-- The nets that are listed behind some lines: those that are open there.
use Rattle.std.proofs.Common.{ℕ, ◌≡◌, ◌⊎◌, ◌&&◌, ◌||◌, not, Bool, true, false, List, [], ◌∷◌, length, inl, inr, refl, sym, subst, Contains}
use Rattle.cell_num.specs.declared.net.NetNo.{NetNo}
use Rattle.cell_num.specs.declared.net.Pins.{Pins}
use Rattle.cell_num.specs.Pins.{is_rail}
use Rattle.cell_num.proofs.Lists.{all_from_contains, contains_one}
use Rattle.track_ways.specs.declared.line.Line.{Line}
use Rattle.track_ways.specs.declared.track.NetTrack.{NetTrack}
use Rattle.track_ways.specs.Lines.{LineRule, has_place, is_ahead, is_open, with_line}
use Rattle.track_ways.specs.Tracks.{AreKeys, IsSingle, Listed}
use Rattle.track_ways.specs.Ways.{LineWays, open_of, pass_ways_by}
use Rattle.track_ways.specs.Rules.{Among, IsRule}
use Rattle.track_ways.specs.Fillings.{keeps, kept}
use Rattle.track_ways.proofs.Exact.{PartedBy, PlacesAmong, here_among, open_held, parted_by, rest_among}
use Rattle.track_ways.proofs.LineParts.{no_lines, one_more, with_lines}

goes_further : (pins : Pins) (before : NetNo → Bool) (line : Line) (rest : List Line) (after : NetNo → Bool) (net : NetNo) → is_open pins (with_line before line) after net ≡ true → (before net ≡ false) ⊎ ((is_ahead rest net || after net) ≡ true)
goes_further pins before line rest after net o = go (not (is_rail pins net)) (before net || has_place line net) (before net) (is_ahead rest net) (after net) o
  where
    go : (r w b a t : Bool) → (r && (w && t)) ≡ true → (b ≡ false) ⊎ ((a || t) ≡ true)
    go r w false a t e = inl refl
    go r w true true t e = inr refl
    go r w true false true e = inr refl
    go true true true false false e = absurd cc
    go true false true false false e = absurd cc
    go false w true false false e = absurd cc

pub pass_keys : {rule : LineRule} {ways : LineWays} → IsRule rule ways → (pins : Pins) (limit : ℕ)
    (nets : List NetNo) (before : NetNo → Bool) (xs : List Line) (after : NetNo → Bool) (tracks way : List NetTrack) → IsSingle tracks → Among nets before → PlacesAmong nets xs →
    (length xs ≡ 0 → (net : NetNo) → is_open pins before after net ≡ true → Listed tracks net) →
    Contains (pass_ways_by ways pins limit nets before xs after tracks) way →
    AreKeys pins (with_lines before xs) after way
pass_keys r pins limit nets before [] after tracks way one among places all there =
    subst (λ (b : NetNo → Bool). AreKeys pins b after way) (sym (no_lines before)) (subst (λ w. AreKeys pins before after w) (contains_one (open_of pins before after tracks) way there) (record {
      one = λ t u ct cu e. one t u (kept (λ (t : NetTrack). is_open pins before after t.net) tracks t ct).0 (kept (λ (t : NetTrack). is_open pins before after t.net) tracks u cu).0 e;
      open' = all_from_contains (λ (t : NetTrack). is_open pins before after t.net ≡ true) (open_of pins before after tracks) (λ t at. (kept (λ (t : NetTrack). is_open pins before after t.net) tracks t at).1);
      each = λ net o. let l : Listed tracks net = all refl net o in record { it = l.it; there = keeps (λ (t : NetTrack). is_open pins before after t.net) tracks l.it l.there (subst (λ z. is_open pins before after z ≡ true) (sym l.is) o); is = l.is };
    }))
pass_keys {rule} {ways} r pins limit nets before (line ∷ rest) after tracks way one among places all there =
    let p : PartedBy rule ways pins limit nets before line rest after tracks way = parted_by r pins limit nets before line rest after tracks way among places there in
    subst (λ (b : NetNo → Bool). AreKeys pins b after way) (sym (one_more before line rest))
    (pass_keys r pins limit nets (with_line before line) rest after p.out way p.here.one (here_among nets before line rest among places) (rest_among nets line rest places)
    (λ none net o. p.here.each net (open_held pins before line rest after net none o) (goes_further pins before line rest after net o)) p.further)
