-- Tracks line by line are one track for each net.
use Rattle.std.proofs.Common.{ℕ, ◌≡◌, ◌<◌, ◌&&◌, ◌||◌, not, ltb, Bool, true, cond, List, [], ◌∷◌, refl, sym, subst, arith, inl, inr, ◌∙◌, false}
use Rattle.std.proofs.lemmas.Bool.{cases_Bool, and_parts, and_from, or_left, or_right}
use Rattle.cell_num.specs.declared.net.NetNo.{NetNo}
use Rattle.cell_num.specs.declared.net.Pins.{Pins}
use Rattle.track_ways.specs.declared.line.Line.{Line}
use Rattle.track_ways.specs.Lines.{has_place, is_twice, is_ahead, with_line, is_open, is_held, LineFits, Fits, Agrees, Sweeps, chosen}
use Rattle.cell_num.specs.Pins.{is_rail}

-- a net that is held has a place before the line or at it, and one at it or behind
held_seen : (pins : Pins) (before : NetNo → Bool) (line : Line) (rest : List Line) (net : NetNo) → is_held pins before line (is_ahead rest) net ≡ true → with_line before line net ≡ true
held_seen pins before line rest net h = go (not (is_rail pins net)) (before net) (is_ahead rest net) (has_place line net) (before net || (is_ahead rest net || (is_twice line net || ltb net.0 pins.pins))) h
  where
    go : (r b a p q : Bool) → (r && ((b && a) || (p && q))) ≡ true → (b || p) ≡ true
    go r b a p q e = grind (arith, e)

held_signal : (pins : Pins) (before : NetNo → Bool) (line : Line) (rest : List Line) (net : NetNo) → is_held pins before line (is_ahead rest) net ≡ true → not (is_rail pins net) ≡ true
held_signal pins before line rest net h = (and_parts _ _ h).0

-- a net that is held and has a place behind the line is open behind it
pub held_open : (pins : Pins) (before : NetNo → Bool) (line : Line) (rest : List Line) (net : NetNo) → is_held pins before line (is_ahead rest) net ≡ true → is_ahead rest net ≡ true → is_open pins (with_line before line) (is_ahead rest) net ≡ true
held_open pins before line rest net h a = and_from _ _ (held_signal pins before line rest net h) (and_from _ _ (held_seen pins before line rest net h) a)

-- tracks that are the same where a net has a place behind the line or is held
line_same : (pins : Pins) (limit : ℕ) (s t : NetNo → ℕ) (before : NetNo → Bool) (line : Line) (rest : List Line) → ((net : NetNo) → is_held pins before line (is_ahead rest) net ≡ true → t net ≡ s net) → LineFits pins limit s before line (is_ahead rest) → LineFits pins limit t before line (is_ahead rest)
line_same pins limit s t before line rest same f = record {
  low = λ net h. subst (λ m. m < limit) (sym (same net h)) (f.low net h);
  apart = λ a b ha hb e. f.apart a b ha hb (sym (same a ha) ∙ e ∙ same b hb);
  above = λ upper lower p n differ hu hl. subst (λ m. m < t upper) (sym (same lower hl)) (subst (λ m. s lower < m) (sym (same upper hu)) (f.above upper lower p n differ hu hl));
}

ahead_behind : (line : Line) (rest : List Line) (net : NetNo) → is_ahead rest net ≡ true → is_ahead (line ∷ rest) net ≡ true
ahead_behind line rest net h = or_right _ _ h

-- a net that is held at a line has a place at it or behind it
held_ahead : (pins : Pins) (before : NetNo → Bool) (line : Line) (rest : List Line) (net : NetNo) → is_held pins before line (is_ahead rest) net ≡ true → is_ahead (line ∷ rest) net ≡ true
held_ahead pins before line rest net h = go (not (is_rail pins net)) (before net) (is_ahead rest net) (has_place line net) (before net || (is_ahead rest net || (is_twice line net || ltb net.0 pins.pins))) h
  where
    go : (r b a p q : Bool) → (r && ((b && a) || (p && q))) ≡ true → (p || a) ≡ true
    go r b a p q e = grind (arith, e)

pub fits_same : (pins : Pins) (limit : ℕ) (s t : NetNo → ℕ) (before : NetNo → Bool) (lines : List Line) → ((net : NetNo) → is_ahead lines net ≡ true → t net ≡ s net) → Fits pins limit s before lines → Fits pins limit t before lines
fits_same pins limit s t before [] same f = f
fits_same pins limit s t before (line ∷ rest) same f =
    (line_same pins limit s t before line rest (λ net h. same net (held_ahead pins before line rest net h)) f.0, fits_same pins limit s t (with_line before line) rest (λ net h. same net (ahead_behind line rest net h)) f.1)

-- a net that is open before a line and has a place behind it is open behind it
pub still_open : (pins : Pins) (before : NetNo → Bool) (line : Line) (rest : List Line) (net : NetNo) → is_open pins before (is_ahead (line ∷ rest)) net ≡ true → is_ahead rest net ≡ true → is_open pins (with_line before line) (is_ahead rest) net ≡ true
still_open pins before line rest net h a = and_from _ _ (and_parts _ _ h).0 (and_from _ _ (or_left (before net) (has_place line net) (and_parts _ _ (and_parts _ _ h).1).0) a)

-- one track for each net, from tracks line by line
pub record OneTrack (pins : Pins) (limit : ℕ) (before : NetNo → Bool) (track : NetNo → ℕ) (lines : List Line) : Type 0 where
  pub of : NetNo → ℕ
  pub agrees : Agrees pins before (is_ahead lines) track of
  pub fits : Fits pins limit of before lines

pub one_track : (pins : Pins) (limit : ℕ) (before : NetNo → Bool) (track : NetNo → ℕ) (lines : List Line) → Sweeps pins limit before track lines → OneTrack pins limit before track lines
one_track pins limit before track [] s = record { of = track; agrees = λ net h. refl; fits = s }
one_track pins limit before track (line ∷ rest) (next, f, more) = joined (one_track pins limit (with_line before line) next rest more)
  where
    joined : OneTrack pins limit (with_line before line) next rest → OneTrack pins limit before track (line ∷ rest)
    joined r = record {
      of = of;
      agrees = λ net h. here net h ∙ f.same net h;
      fits = (line_same pins limit next of before line rest held f.fits, fits_same pins limit r.of of (with_line before line) rest behind r.fits);
    }
      where
        of : NetNo → ℕ
        of net = cond (is_ahead rest net) (r.of net) (next net)

        behind : (net : NetNo) → is_ahead rest net ≡ true → of net ≡ r.of net
        behind net a = rw a refl

        same : (net : NetNo) → (is_ahead rest net ≡ true → is_open pins (with_line before line) (is_ahead rest) net ≡ true) → of net ≡ next net
        same net o = elim (cases_Bool (is_ahead rest net)) [
          | inl a ↦ behind net a ∙ r.agrees net (o a)
          | inr none ↦ rw none refl
        ]

        held : (net : NetNo) → is_held pins before line (is_ahead rest) net ≡ true → of net ≡ next net
        held net h = same net (λ a. held_open pins before line rest net h a)

        here : (net : NetNo) → is_open pins before (is_ahead (line ∷ rest)) net ≡ true → of net ≡ next net
        here net h = same net (λ a. still_open pins before line rest net h a)

-- tracks line by line, from one track for each net
pub sweep : (pins : Pins) (limit : ℕ) (before : NetNo → Bool) (track of : NetNo → ℕ) (lines : List Line) → Agrees pins before (is_ahead lines) track of → Fits pins limit of before lines → Sweeps pins limit before track lines
sweep pins limit before track of [] agrees f = f
sweep pins limit before track of (line ∷ rest) agrees f = (of, record { same = agrees; fits = f.0 }, sweep pins limit (with_line before line) of of rest (λ net h. refl) f.1)

-- the nets with a place so far, by a test that is the same
pub line_before : (pins : Pins) (limit : ℕ) (track : NetNo → ℕ) (a b : NetNo → Bool) (line : Line) (rest : List Line) → ((net : NetNo) → b net ≡ a net) → LineFits pins limit track a line (is_ahead rest) → LineFits pins limit track b line (is_ahead rest)
line_before pins limit track a b line rest same f = record {
  low = λ net h. f.low net (held net h);
  apart = λ x y hx hy e. f.apart x y (held x hx) (held y hy) e;
  above = λ upper lower p n differ hu hl. f.above upper lower p n differ (held upper hu) (held lower hl);
}
  where
    held : (net : NetNo) → is_held pins b line (is_ahead rest) net ≡ true → is_held pins a line (is_ahead rest) net ≡ true
    held net h = subst (λ s. (not (is_rail pins net) && ((s && is_ahead rest net) || (has_place line net && (s || (is_ahead rest net || (is_twice line net || ltb net.0 pins.pins)))))) ≡ true) (same net) h

-- tracks that go through a line are known from those before it and those of the nets with a place at it
pub chosen_same : (pins : Pins) (before : NetNo → Bool) (line : Line) (behind : NetNo → Bool) (track next : NetNo → ℕ) → Agrees pins before (λ net. has_place line net || behind net) track next → (net : NetNo) → is_held pins before line behind net ≡ true → chosen line next track net ≡ next net
chosen_same pins before line behind track next agrees net held = go (has_place line net) (not (is_rail pins net)) (before net) (behind net) (before net || (behind net || (is_twice line net || ltb net.0 pins.pins))) held (agrees net)
  where
    go : (p r b a q : Bool) → (r && ((b && a) || (p && q))) ≡ true → ((r && (b && (p || a))) ≡ true → next net ≡ track net) → cond p (next net) (track net) ≡ next net
    go true r b a q h f = refl
    go false true true true q h f = sym (f refl)
    go false true true false q h f = absurd cc
    go false true false a q h f = absurd cc
    go false false b a q h f = absurd cc

pub chosen_fits : (pins : Pins) (limit : ℕ) (before : NetNo → Bool) (line : Line) (behind : NetNo → Bool) (track next : NetNo → ℕ) → Agrees pins before (λ net. has_place line net || behind net) track next → LineFits pins limit next before line behind → LineFits pins limit (chosen line next track) before line behind
chosen_fits pins limit before line behind track next agrees f = record {
  low = λ net h. subst (λ m. m < limit) (sym (same net h)) (f.low net h);
  apart = λ a b ha hb e. f.apart a b ha hb (sym (same a ha) ∙ e ∙ same b hb);
  above = λ upper lower p n differ hu hl. subst (λ m. m < chosen line next track upper) (sym (same lower hl)) (subst (λ m. next lower < m) (sym (same upper hu)) (f.above upper lower p n differ hu hl));
}
  where
    same : (net : NetNo) → is_held pins before line behind net ≡ true → chosen line next track net ≡ next net
    same net h = chosen_same pins before line behind track next agrees net h
