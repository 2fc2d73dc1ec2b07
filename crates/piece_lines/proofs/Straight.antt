-- Tracks that never change go through the lines, too.
use Rattle.std.proofs.Common.{ℕ, ◌≡◌, ◌<◌, ◌⊎◌, Bool, true, false, List, [], ◌∷◌, inl, inr, refl, sym, subst, arith, ◌∙◌}
use Rattle.cell_num.specs.declared.net.NetNo.{NetNo}
use Rattle.cell_num.specs.declared.net.Pins.{Pins}
use Rattle.track_ways.specs.declared.line.Line.{Line}
use Rattle.track_ways.specs.Lines.{is_ahead, with_line, LineFits, Sweeps}
use Rattle.piece_lines.specs.Lines.{IsOn, PieceLineFits, PieceSweeps}
use Rattle.piece_lines.proofs.Again.{fits_again}

-- each net keeps its track
straight_line : (pins : Pins) (limit : ℕ) (before : NetNo → Bool) (track : NetNo → ℕ) (line : Line) (after : NetNo → Bool) → LineFits pins limit track before line after → PieceLineFits pins limit track before line after track
straight_line pins limit before track line after f = record {
  low = λ net t o. subst (λ m. m < limit) (sym (on net t o)) (f.low net o.held);
  apart = λ a b t o q. f.apart a b o.held q.held (sym (on a t o) ∙ on b t q);
  above = λ upper lower high low top bottom differ o q. let less : track lower < track upper = f.above upper lower top bottom differ o.held q.held in omega (arith, less, on upper high o, on lower low q);
  straight = λ net o turns. refl;
}
  where
    on : (net : NetNo) (t : ℕ) → IsOn pins before line after track track net t → t ≡ track net
    on net t o = by o.piece
      where
        by : ((before net ≡ true) × (t ≡ track net)) ⊎ (((before net ≡ false) ⊎ (after net ≡ true)) × (t ≡ track net)) → t ≡ track net
        by (inl (_, is)) = is
        by (inr (_, is)) = is

pub straight_sweeps : (pins : Pins) (limit : ℕ) (before : NetNo → Bool) (track : NetNo → ℕ) (lines : List Line) → Sweeps pins limit before track lines → PieceSweeps pins limit before track lines
straight_sweeps pins limit before track [] s = tt
straight_sweeps pins limit before track (line ∷ rest) (next, f, more) = (next, fits_again pins limit before line (is_ahead rest) next track next f.same (straight_line pins limit before next line (is_ahead rest) f.fits), straight_sweeps pins limit (with_line before line) next rest more)
