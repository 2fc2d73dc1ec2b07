use Rattle.std.proofs.Common.{rules, ◌≡◌, true, false}
use Rattle.std.specs.Option.{is_some}
use Rattle.row_state.specs.Start.{AreSomeKinds, IsState}
use Rattle.lemma_check.specs.Known.{best_noted, noted}
use Rattle.log_check.proofs.Justified.{code_of, justified_by, reaches_by}
use Rattle.log_check.proofs.Items.{checked, seen_more, seen_refused, seen_unproved, valid_here}
use Rattle.log_check.proofs.seen.Seen.valid_lemma.Goals as goal

pub new-at-requires : goal.new-at-requires
new-at-requires g c =
    let same : c.args.self.now ≡ checked c.self.inside.version c.self.inside.fingers c.self.inside.kinds (noted c.self.inside.known) c.self.inside.lemmas c.self.inside.unproved c.self.inside.row = search rules in
    let some : AreSomeKinds c.self.inside.kinds = search rules in
    record { state = valid_here c.args.self.now c.self.inside.version c.self.inside.fingers c.self.inside.kinds (noted c.self.inside.known) c.self.inside.lemmas c.self.inside.unproved c.self.inside.row c.args.lemma.state same c.self.invariant.1 some c.requires.state }

pub returns-then-is_some-clause-seen : goal.returns-then-is_some-clause-seen
returns-then-is_some-clause-seen g c = λ log seen.
    let same : c.args.self.now ≡ checked c.self.inside.version c.self.inside.fingers c.self.inside.kinds (noted c.self.inside.known) c.self.inside.lemmas c.self.inside.unproved c.self.inside.row = search rules in
    let is : is_some c.self.inside.unproved ≡ true = search rules in
    seen_unproved (g.B.RowBound.value c.args.bound.now) c.args.self.now c.self.inside.version c.self.inside.fingers c.self.inside.kinds (noted c.self.inside.known) c.self.inside.lemmas c.self.inside.unproved c.self.inside.row log c.args.lemma same is seen

pub returns-then-not-holds-clause-seen : goal.returns-then-not-holds-clause-seen
returns-then-not-holds-clause-seen g c = λ log seen.
    let same : c.args.self.now ≡ checked c.self.inside.version c.self.inside.fingers c.self.inside.kinds (noted c.self.inside.known) c.self.inside.lemmas c.self.inside.unproved c.self.inside.row = search rules in
    let none : is_some c.self.inside.unproved ≡ false = search rules in
    let some : AreSomeKinds c.self.inside.kinds = search rules in
    seen_refused (g.B.RowBound.value c.args.bound.now) c.args.self.now c.self.inside.version c.self.inside.fingers c.self.inside.kinds (noted c.self.inside.known) c.self.inside.lemmas c.self.inside.unproved c.self.inside.row log c.args.lemma same none some
    (λ h. let yes : c.in_ok-holds.holds ≡ true = c.in_ok-holds.ensures.reaches.1 (reaches_by (g.B.RowBound.value c.args.bound.now) c.self.inside.kinds (best_noted (noted c.self.inside.known) c.self.inside.kinds) c.new-at.result.state c.args.lemma c.new-at.ensures.state h) in cc)
    seen

pub returns-clause-seen : goal.returns-clause-seen
returns-clause-seen g c = λ log seen.
    let same : c.args.self.now ≡ checked c.self.inside.version c.self.inside.fingers c.self.inside.kinds (noted c.self.inside.known) c.self.inside.lemmas c.self.inside.unproved c.self.inside.row = search rules in
    let none : is_some c.self.inside.unproved ≡ false = search rules in
    let some : AreSomeKinds c.self.inside.kinds = search rules in
    let valid : IsState c.self.inside.kinds c.args.lemma.state = valid_here c.args.self.now c.self.inside.version c.self.inside.fingers c.self.inside.kinds (noted c.self.inside.known) c.self.inside.lemmas c.self.inside.unproved c.self.inside.row c.args.lemma.state same c.self.invariant.1 some c.requires.state in
    seen_more (g.B.RowBound.value c.args.bound.now) c.args.self.now c.self.inside.version c.self.inside.fingers c.self.inside.kinds (noted c.self.inside.known) (noted c.note_at.new.self) c.self.inside.lemmas c.self.inside.unproved c.self.inside.row log c.args.lemma same none some
    (justified_by (g.B.RowBound.value c.args.bound.now) c.self.inside.kinds (best_noted (noted c.self.inside.known) c.self.inside.kinds) c.new-at.result.state c.args.lemma c.new-at.ensures.state valid (c.in_ok-holds.ensures.reaches.0 c.if-not-holds.false))
    (c.in_ok-note_at.ensures.raised c.self.inside.kinds c.args.lemma.state valid (code_of c.self.inside.kinds c.new-at.result c.args.lemma.state c.new-at.ensures.state c.new-at.ensures.numbered))
    seen
