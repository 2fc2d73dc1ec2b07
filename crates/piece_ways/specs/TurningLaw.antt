-- Nets that may turn at their node lines meet what is asked of a rule.
use Rattle.std.proofs.Common.{ℕ, ◌≡◌, ◌&&◌, ◌||◌, not, Bool, true, false, cond, inl, inr, refl, subst, arith}
use Rattle.std.proofs.lemmas.Bool.{and_parts}
use Rattle.cell_num.specs.declared.net.NetNo.{NetNo}
use Rattle.cell_num.specs.declared.net.Pins.{Pins}
use Rattle.cell_num.specs.Pins.{is_rail}
use Rattle.track_ways.specs.declared.line.Line.{Line}
use Rattle.track_ways.specs.Lines.{Agrees, LineFits, has_place, is_held}
use Rattle.track_ways.specs.Rules.{IsRule}
use Rattle.piece_lines.specs.Lines.{IsOn, PieceLineFits}
use Rattle.piece_lines.proofs.Again.{fits_again}
use Rattle.piece_ways.specs.PieceWays.{piece_line_ways}
use Rattle.piece_ways.specs.AllWays.{all_ways}
use Rattle.piece_ways.specs.OnlyWays.{only_ways}

-- the track on which the net comes to a line, or on which it begins there
abbrev first_of : (NetNo → Bool) → (NetNo → ℕ) → (NetNo → ℕ) → NetNo → ℕ
first_of before into out net = cond (before net) (into net) (out net)

first_on : (pins : Pins) (before : NetNo → Bool) (line : Line) (after : NetNo → Bool) (into out : NetNo → ℕ)
    (net : NetNo) → is_held pins before line after net ≡ true →
    IsOn pins before line after into out net (first_of before into out net)
first_on pins before line after into out net h = go (before net) refl
  where
    go : (b : Bool) → before net ≡ b → IsOn pins before line after into out net (cond b (into net) (out net))
    go true e = record { held = h; piece = inl (e, refl) }
    go false e = record { held = h; piece = inr (inl e, refl) }

-- of pieces that fit a line, these tracks alone do, too
firsts_fit : (pins : Pins) (limit : ℕ) (into : NetNo → ℕ) (before : NetNo → Bool) (line : Line) (after : NetNo → Bool)
    (out : NetNo → ℕ) → PieceLineFits pins limit into before line after out →
    LineFits pins limit (first_of before into out) before line after
firsts_fit pins limit into before line after out f = record {
  low = λ net h. f.low net (first_of before into out net) (on net h);
  apart = λ a b ha hb same. f.apart a b (first_of before into out b)
      (subst (λ m. IsOn pins before line after into out a m) same (on a ha)) (on b hb);
  above = λ upper lower top bottom differ hu hl. f.above upper lower (first_of before into out upper)
      (first_of before into out lower) top bottom differ (on upper hu) (on lower hl);
}
  where
    on : (net : NetNo) → is_held pins before line after net ≡ true →
        IsOn pins before line after into out net (first_of before into out net)
    on net h = first_on pins before line after into out net h

-- an open net is there on the track with which it comes
comes_first : (pins : Pins) (before : NetNo → Bool) (line : Line) (after : NetNo → Bool) (into out : NetNo → ℕ) →
    Agrees pins before (λ net. has_place line net || after net) into (first_of before into out)
comes_first pins before line after into out net o =
    go (before net) (and_parts (before net) (has_place line net || after net)
    (and_parts (not (is_rail pins net)) (before net && (has_place line net || after net)) o).1).0
  where
    go : (b : Bool) → b ≡ true → cond b (into net) (out net) ≡ into net
    go true e = refl
    go false e = absurd cc

pub turning_rule : IsRule PieceLineFits piece_line_ways
turning_rule = record {
  wider = λ pins few many before line after into out le f. record
      { low = λ net t o. omega (arith, le, f.low net t o); apart = f.apart; above = f.above; straight = f.straight };
  again = fits_again;
  own = λ pins limit before line after into out f. (
    first_of before into out,
    record {
      same = comes_first pins before line after into out;
      fits = firsts_fit pins limit into before line after out f;
    },
  );
  low = λ pins limit before line after into out f net held on. f.low net (out net) (record
      { held = held; piece = inr (on, refl) });
  all = all_ways;
  only = only_ways;
}
