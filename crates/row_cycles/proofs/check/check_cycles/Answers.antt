use Rattle.std.proofs.Common.{◌∙◌, Any, subst, sym}
use Rattle.std.proofs.lemmas.List.Elements.{All-nil}
use Rattle.std.proofs.lemmas.Bool.{both_ways}
use Rattle.row_state.specs.Start.{start_of}
use Rattle.row_cycles.specs.Above.{HasNets}
use Rattle.row_cycles.specs.Certificate.{AreJustified, CoversAll}
use Rattle.row_cycles.specs.Noted.{AreNoted, state_of}
use Rattle.row_cycles.specs.Refusal.{IsFirstUnjustified}
use Rattle.row_cycles.proofs.Noted.{noted_here}
use Rattle.row_cycles.proofs.Refuted.{bare_is_all}
use Rattle.row_cycles.proofs.check.check_cycles.Goals as goal

pub covers-requires : goal.covers-requires
covers-requires g c =
    let noted : AreNoted c.args.kinds.now c.as_slice-lemmas.result.now c.first_unjustified.new.places = rw c.in_default.is at c.in_ok-unjustified.ensures.noted in
    record { noted = noted_here state_of c.args.kinds.now c.as_slice-lemmas.result.now c.first_unjustified.new.places c.new-from.result c.new-from.ensures.numbered.code noted; nets = All-nil (HasNets 256) }

pub returns-in-Some-clause-refused : goal.returns-in-Some-clause-refused
returns-in-Some-clause-refused g c = λ other.
    let listed : IsFirstUnjustified (g.B.GapBound.value c.args.bound.now) c.args.pins.now c.args.kinds.now c.as_slice-lemmas.result.now c.in-Some.at = rw c.in-Some.is at c.in_ok-unjustified.ensures.first in
    subst (λ xs. IsFirstUnjustified (g.B.GapBound.value c.args.bound.now) c.args.pins.now c.args.kinds.now xs c.in-Some.at) c.as_slice-lemmas.ensures listed

pub returns-then-not-covers-clause-refused : goal.returns-then-not-covers-clause-refused
returns-then-not-covers-clause-refused g c = λ other.
    let listed : AreJustified (g.B.GapBound.value c.args.bound.now) c.args.pins.now c.args.kinds.now c.as_slice-lemmas.result.now = rw c.in_default.is at c.in_ok-unjustified.ensures.none in
    let justified : AreJustified (g.B.GapBound.value c.args.bound.now) c.args.pins.now c.args.kinds.now c.args.lemmas.now = subst (AreJustified (g.B.GapBound.value c.args.bound.now) c.args.pins.now c.args.kinds.now) c.as_slice-lemmas.ensures listed in
    record {
      justified = justified;
      whole = λ any. both_ways c.covers.result c.if-not-covers.true (c.covers.ensures.1 ((bare_is_all c.new-from.result.state c.args.gaps c.as_slice-lemmas.result.now).1 (subst (λ s. Any (CoversAll s c.args.gaps) c.as_slice-lemmas.result.now) (sym (c.new-from.ensures.state ∙ c.in_ok-first.ensures.state)) (subst (Any (CoversAll (start_of c.args.kinds.now) c.args.gaps)) (sym c.as_slice-lemmas.ensures) any))));
    }

pub returns-clause-certified : goal.returns-clause-certified
returns-clause-certified g c =
    let listed : AreJustified (g.B.GapBound.value c.args.bound.now) c.args.pins.now c.args.kinds.now c.as_slice-lemmas.result.now = rw c.in_default.is at c.in_ok-unjustified.ensures.none in
    let justified : AreJustified (g.B.GapBound.value c.args.bound.now) c.args.pins.now c.args.kinds.now c.args.lemmas.now = subst (AreJustified (g.B.GapBound.value c.args.bound.now) c.args.pins.now c.args.kinds.now) c.as_slice-lemmas.ensures listed in
    let some : Any (CoversAll c.new-from.result.state c.args.gaps) c.as_slice-lemmas.result.now = (bare_is_all c.new-from.result.state c.args.gaps c.as_slice-lemmas.result.now).0 (c.covers.ensures.0 c.if-not-covers.false) in
    let whole : Any (CoversAll (start_of c.args.kinds.now) c.args.gaps) c.args.lemmas.now = subst (λ s. Any (CoversAll s c.args.gaps) c.args.lemmas.now) (c.new-from.ensures.state ∙ c.in_ok-first.ensures.state) (subst (Any (CoversAll c.new-from.result.state c.args.gaps)) c.as_slice-lemmas.ensures some) in
    record { justified = justified; whole = whole }

pub returns-clause-unwired : goal.returns-clause-unwired
returns-clause-unwired g c = λ f row r kinds is few legal.
    let listed : AreJustified (g.B.GapBound.value c.args.bound.now) c.args.pins.now c.args.kinds.now c.as_slice-lemmas.result.now = rw c.in_default.is at c.in_ok-unjustified.ensures.none in
    let justified : AreJustified (g.B.GapBound.value c.args.bound.now) c.args.pins.now c.args.kinds.now c.args.lemmas.now = subst (AreJustified (g.B.GapBound.value c.args.bound.now) c.args.pins.now c.args.kinds.now) c.as_slice-lemmas.ensures listed in
    let some : Any (CoversAll c.new-from.result.state c.args.gaps) c.as_slice-lemmas.result.now = (bare_is_all c.new-from.result.state c.args.gaps c.as_slice-lemmas.result.now).0 (c.covers.ensures.0 c.if-not-covers.false) in
    let whole : Any (CoversAll (start_of c.args.kinds.now) c.args.gaps) c.args.lemmas.now = subst (λ s. Any (CoversAll s c.args.gaps) c.args.lemmas.now) (c.new-from.ensures.state ∙ c.in_ok-first.ensures.state) (subst (Any (CoversAll c.new-from.result.state c.args.gaps)) c.as_slice-lemmas.ensures some) in
    c.cycles_by_lemmas.ensures.unwired c.args.pins.now f c.args.kinds.now c.args.gaps c.args.lemmas.now kinds c.show_limits.ensures (record { justified = justified; whole = whole }) row r is few legal

pub returns-clause-lemmas : goal.returns-clause-lemmas
returns-clause-lemmas g c =
    let listed : AreJustified (g.B.GapBound.value c.args.bound.now) c.args.pins.now c.args.kinds.now c.as_slice-lemmas.result.now = rw c.in_default.is at c.in_ok-unjustified.ensures.none in
    let justified : AreJustified (g.B.GapBound.value c.args.bound.now) c.args.pins.now c.args.kinds.now c.args.lemmas.now = subst (AreJustified (g.B.GapBound.value c.args.bound.now) c.args.pins.now c.args.kinds.now) c.as_slice-lemmas.ensures listed in
    c.cycles_by_lemmas.ensures.lemmas c.args.pins.now c.args.kinds.now c.args.lemmas.now c.show_limits.ensures justified
