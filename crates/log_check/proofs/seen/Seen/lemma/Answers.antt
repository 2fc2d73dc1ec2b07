use Rattle.std.proofs.Common.{rules, ◌≡◌, ◌∷◌, [], OnOk, ap, subst, true}
use Rattle.row_state.specs.Start.{IsState}
use Rattle.bound_log.specs.declared.log.Lemma.{Lemma}
use Rattle.lemma_check.specs.Known.{noted}
use Rattle.log_check.specs.Items.{Checked, ForSeen, HasSeen, with_lemmas}
use Rattle.log_check.proofs.Items.{checked, valid_for}
use Rattle.log_check.proofs.seen.Seen.lemma.Goals as goal

pub valid_lemma-requires-clause-state : goal.valid_lemma-requires-clause-state
valid_lemma-requires-clause-state g c =
    let same : c.args.self.now ≡ checked c.self.inside.version c.self.inside.fingers c.self.inside.kinds (noted c.self.inside.known) c.self.inside.lemmas c.self.inside.unproved c.self.inside.row = search rules in
    valid_for c.args.self.now c.self.inside.version c.self.inside.fingers c.self.inside.kinds (noted c.self.inside.known) c.self.inside.lemmas c.self.inside.unproved c.self.inside.row c.args.lemma.now.state c.in_ok-own.own.state same c.self.invariant.1 c.show_limits.ensures (c.is_state.ensures.0 c.if-not-is_state.false) (ap (λ (l : Lemma). l.state) c.in_ok-own.ensures)

pub returns-then-not-is_state-clause-seen : goal.returns-then-not-is_state-clause-seen
returns-then-not-is_state-clause-seen g c = λ log seen.
    let same : c.args.self.now ≡ checked c.self.inside.version c.self.inside.fingers c.self.inside.kinds (noted c.self.inside.known) c.self.inside.lemmas c.self.inside.unproved c.self.inside.row = search rules in
    c.refuse.ensures.seen (g.B.RowBound.value c.args.bound.now) c.args.lemma.now
    (λ h. let yes : c.is_state.result ≡ true = c.is_state.ensures.1 (subst (λ (d : Checked). IsState d.kinds c.args.lemma.now.state) same h) in cc) log seen

pub returns-clause-seen : goal.returns-clause-seen
returns-clause-seen g c =
    subst (λ (l : Lemma). OnOk c.valid_lemma.result (ForSeen (g.B.RowBound.value c.args.bound.now) c.args.self.now (λ log. HasSeen (g.B.RowBound.value c.args.bound.now) c.valid_lemma.new.self (with_lemmas log (l ∷ []))))) c.in_ok-own.ensures c.valid_lemma.ensures.seen
