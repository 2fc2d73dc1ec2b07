use Rattle.std.proofs.Common.{arith, inl, inr, refl}
use Rattle.std.proofs.lemmas.Bool.{both_ways}
use Rattle.piece_lines.specs.Lines.{PieceLineFits}
use Rattle.piece_ways.proofs.Failing.{certified}
use Rattle.track_check.specs.Accepted.{limit_of}
use Rattle.track_check.specs.Refusal.{HasNoStart, IsFirstUnjustifiedBy}
use Rattle.turn_check.proofs.certify.certify.Goals as goal

pub returns-then-not-are_none-clause-rejected : goal.returns-then-not-are_none-clause-rejected
returns-then-not-are_none-clause-rejected g c = λ other name bytes read. record {
  certificate = c.args.certificate.now;
  read = read;
  at = 0;
  line_is = c.line_of.ensures;
  first = inl (λ none. both_ways c.are_none.result c.if-not-are_none.true (c.are_none.ensures.1 none), refl);
}

pub returns-in-Ok-clause-certified : goal.returns-in-Ok-clause-certified
returns-in-Ok-clause-certified g c = record {
  cycles = c.are_none.ensures.0 c.if-not-are_none.false;
  certifies = c.in-Ok.ensures.certified;
}

pub returns-in-Ok-clause-more : goal.returns-in-Ok-clause-more
returns-in-Ok-clause-more g c = λ f row r kinds is few legal.
    omega (arith, c.requires.tracks, certified (g.B.GapBound.value c.args.bound.now) c.args.pins.now f c.args.kinds.now (limit_of c.args.certificate.now) c.args.certificate.now.gaps c.args.certificate.now.lemmas (λ row s state. c.show_holds.ensures row s c.args.kinds.now c.show_limits.ensures state) kinds c.show_limits.ensures c.in-Ok.ensures.certified row r is few legal)

pub returns-in-Err-NoStart-clause-rejected : goal.returns-in-Err-NoStart-clause-rejected
returns-in-Err-NoStart-clause-rejected g c = λ other name bytes read.
    let none : HasNoStart PieceLineFits (g.B.GapBound.value c.args.bound.now) c.args.pins.now (limit_of c.args.certificate.now) c.args.kinds.now c.args.certificate.now.gaps c.args.certificate.now.lemmas = (rw c.in-Err-NoStart.field-0-is at c.in-Err-NoStart.ensures.refused) (λ e. cc) in
    record { certificate = c.args.certificate.now; read = read; cycles = c.are_none.ensures.0 c.if-not-are_none.false; none = none }

pub returns-in-Err-Unjustified-clause-rejected : goal.returns-in-Err-Unjustified-clause-rejected
returns-in-Err-Unjustified-clause-rejected g c = λ other name bytes read.
    let first : IsFirstUnjustifiedBy PieceLineFits (g.B.GapBound.value c.args.bound.now) c.args.pins.now (limit_of c.args.certificate.now) c.args.kinds.now c.args.certificate.now.lemmas c.in-Err-Unjustified.at = (rw c.in-Err-Unjustified.field-0-is at c.in-Err-Unjustified.ensures.refused) (λ e. cc) in
    record {
      certificate = c.args.certificate.now;
      read = read;
      at = c.in-Err-Unjustified.at;
      line_is = c.line_of-in-Err-Unjustified.ensures;
      first = inr (c.are_none.ensures.0 c.if-not-are_none.false, first);
    }
