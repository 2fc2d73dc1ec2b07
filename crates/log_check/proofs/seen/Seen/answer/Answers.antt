use Rattle.std.proofs.Common.{ℕ, rules, ◌≡◌, None, subst, sym}
use Rattle.std.proofs.lemmas.Result.{IfErr-weaker, IfOk-weaker}
use Rattle.cell_num.specs.declared.finger.Row.{Row}
use Rattle.row_state.specs.declared.kind.Kinds.{Kinds}
use Rattle.row_state.specs.declared.state.State.{State}
use Rattle.row_state.proofs.Valid.{start_valid}
use Rattle.lemma_check.specs.Known.{noted}
use Rattle.log_check.specs.Accepted.{BestPasses, IsAccepted}
use Rattle.log_check.specs.Items.{Checked, ForSeen, HasSeen}
use Rattle.log_check.specs.Refusal.{BestRefuses, Refuses}
use Rattle.log_check.proofs.Items.{answer_accepted, answer_refused, checked}
use Rattle.log_check.proofs.seen.Seen.answer.Goals as goal

pub returns-clause-refused : goal.returns-clause-refused
returns-clause-refused c =
    let same : c.args.self.now ≡ checked c.self.inside.version c.self.inside.fingers c.self.inside.kinds (noted c.self.inside.known) c.self.inside.lemmas c.self.inside.unproved c.self.inside.row = search rules in
    let none : c.self.inside.unproved ≡ None = search rules in
    IfErr-weaker c.check_best.result (BestRefuses c.self.inside.kinds c.self.inside.fingers c.in_ok-best.best c.self.inside.row) (λ fault. (value : Row → State → Kinds → ℕ) → ForSeen value c.args.self.now (λ log. Refuses value c.args.self.now.kinds c.args.self.now.fingers log fault))
    (λ fault h value log seen. answer_refused value c.args.self.now c.self.inside.version c.self.inside.fingers c.self.inside.kinds (noted c.self.inside.known) c.self.inside.lemmas c.self.inside.unproved c.self.inside.row c.in_ok-best.best fault log same none c.in_ok-best.ensures h seen)
    c.check_best.ensures.refuses

pub returns-clause-accepted : goal.returns-clause-accepted
returns-clause-accepted c =
    let same : c.args.self.now ≡ checked c.self.inside.version c.self.inside.fingers c.self.inside.kinds (noted c.self.inside.known) c.self.inside.lemmas c.self.inside.unproved c.self.inside.row = search rules in
    let none : c.self.inside.unproved ≡ None = search rules in
    IfOk-weaker c.check_best.result (BestPasses c.self.inside.kinds c.self.inside.fingers c.in_ok-best.best c.self.inside.row) (λ gaps. (value : Row → State → Kinds → ℕ) → ForSeen value c.args.self.now (λ log. IsAccepted value c.args.self.now.kinds c.args.self.now.fingers log gaps))
    (λ gaps h value log seen. subst (λ (d : Checked). IsAccepted value d.kinds d.fingers log gaps) (sym same) (answer_accepted value (checked c.self.inside.version c.self.inside.fingers c.self.inside.kinds (noted c.self.inside.known) c.self.inside.lemmas c.self.inside.unproved c.self.inside.row) c.in_ok-best.best gaps log none (start_valid c.self.inside.kinds) c.in_ok-best.ensures h (subst (λ (d : Checked). HasSeen value d log) same seen)))
    c.check_best.ensures.passes
