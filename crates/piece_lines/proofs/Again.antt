-- Of the tracks before a line those of the open nets alone count.
use Rattle.std.proofs.Common.{ℕ, ◌≡◌, ◌⊎◌, ◌&&◌, ◌||◌, ltb, not, Bool, true, false, inl, inr, sym, arith, ◌∙◌}
use Rattle.cell_num.specs.declared.net.NetNo.{NetNo}
use Rattle.cell_num.specs.declared.net.Pins.{Pins}
use Rattle.cell_num.specs.Pins.{is_rail}
use Rattle.track_ways.specs.declared.line.Line.{Line}
use Rattle.track_ways.specs.Lines.{Agrees, has_place, is_twice}
use Rattle.piece_lines.specs.Lines.{IsOn, PieceLineFits}

pub fits_again : (pins : Pins) (limit : ℕ) (before : NetNo → Bool) (line : Line) (after : NetNo → Bool) (into other out : NetNo → ℕ) → Agrees pins before (λ net. has_place line net || after net) other into → PieceLineFits pins limit into before line after out → PieceLineFits pins limit other before line after out
fits_again pins limit before line after into other out agrees f = record {
  low = λ net track o. f.low net track (on net track o);
  apart = λ a b track o q. f.apart a b track (on a track o) (on b track q);
  above = λ upper lower high low top bottom differ o q. f.above upper lower high low top bottom differ (on upper high o) (on lower low q);
  straight = λ net o turns. f.straight net o turns ∙ agrees net (further (not (is_rail pins net)) (before net) (after net) (has_place line net) o);
}
  where
    further : (r b a p : Bool) → (r && (b && a)) ≡ true → (r && (b && (p || a))) ≡ true
    further r b a p e = grind (arith, e)

    comes : (r b a p q : Bool) → (r && ((b && a) || (p && q))) ≡ true → b ≡ true → (r && (b && (p || a))) ≡ true
    comes r b a p q e h = grind (arith, e, h)

    on : (net : NetNo) (track : ℕ) → IsOn pins before line after other out net track → IsOn pins before line after into out net track
    on net track o = record { held = o.held; piece = by o.piece }
      where
        by : ((before net ≡ true) × (track ≡ other net)) ⊎ (((before net ≡ false) ⊎ (after net ≡ true)) × (track ≡ out net)) → ((before net ≡ true) × (track ≡ into net)) ⊎ (((before net ≡ false) ⊎ (after net ≡ true)) × (track ≡ out net))
        by (inl (early, is)) = inl (early, is ∙ sym (agrees net (comes (not (is_rail pins net)) (before net) (after net) (has_place line net) (before net || (after net || (is_twice line net || ltb net.0 pins.pins))) o.held early)))
        by (inr goes) = inr goes
