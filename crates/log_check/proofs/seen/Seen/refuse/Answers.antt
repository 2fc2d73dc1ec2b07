use Rattle.std.proofs.Common.{rules, ◌≡◌, true, false, subst, sym}
use Rattle.std.specs.Option.{is_some}
use Rattle.row_state.specs.Start.{AreSomeKinds, IsState}
use Rattle.lemma_check.specs.Known.{noted}
use Rattle.log_check.specs.Items.{Checked}
use Rattle.log_check.proofs.Items.{checked, seen_refused, seen_unproved}
use Rattle.log_check.proofs.seen.Seen.refuse.Goals as goal

pub returns-then-is_some-clause-seen : goal.returns-then-is_some-clause-seen
returns-then-is_some-clause-seen c = λ value lemma wrong log seen.
    let same : c.args.self.now ≡ checked c.self.inside.version c.self.inside.fingers c.self.inside.kinds (noted c.self.inside.known) c.self.inside.lemmas c.self.inside.unproved c.self.inside.row = search rules in
    let is : is_some c.self.inside.unproved ≡ true = search rules in
    seen_unproved value c.args.self.now c.self.inside.version c.self.inside.fingers c.self.inside.kinds (noted c.self.inside.known) c.self.inside.lemmas c.self.inside.unproved c.self.inside.row log lemma same is seen

pub returns-clause-seen : goal.returns-clause-seen
returns-clause-seen c = λ value lemma wrong log seen.
    let same : c.args.self.now ≡ checked c.self.inside.version c.self.inside.fingers c.self.inside.kinds (noted c.self.inside.known) c.self.inside.lemmas c.self.inside.unproved c.self.inside.row = search rules in
    let none : is_some c.self.inside.unproved ≡ false = search rules in
    let some : AreSomeKinds c.self.inside.kinds = search rules in
    seen_refused value c.args.self.now c.self.inside.version c.self.inside.fingers c.self.inside.kinds (noted c.self.inside.known) c.self.inside.lemmas c.self.inside.unproved c.self.inside.row log lemma same none some (λ h. wrong (subst (λ (d : Checked). IsState d.kinds lemma.state) (sym same) h.state)) seen
