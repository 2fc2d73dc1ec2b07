use Rattle.std.proofs.Common.{ℕ, ◌≡◌, ◌≢◌, ◌≤◌, List, All}
use Rattle.std.proofs.lemmas.Result.{IfOk-weaker, IfErr-weaker}
use Rattle.cell_num.specs.declared.finger.Row.{Row}
use Rattle.row_model.specs.declared.column.Column.{Column}
use Rattle.row_model.specs.Arrangement.{IsArrangement}
use Rattle.row_model.specs.Gaps.{gaps_of}
use Rattle.row_state.specs.declared.kind.Kinds.{Kinds}
use Rattle.row_state.specs.declared.state.State.{State}
use Rattle.log_check.specs.declared.refused.Refused.TheVariants as because
use Rattle.log_check.specs.Accepted.{IsAccepted, IsTrueOf, Lists, WithKinds}
use Rattle.log_check.specs.Items.{ForSeen}
use Rattle.log_check.specs.Refusal.{Proves, Refuses}
use Rattle.log_check.proofs.Sound.{accepted_arranges, accepted_least, refused_low, sound}
use Rattle.log_check.proofs.seen.Seen.finish.Goals as goal

pub returns-clause-accepted : goal.returns-clause-accepted
returns-clause-accepted g c =
    IfOk-weaker c.answer.result (λ gaps. (value : Row → State → Kinds → ℕ) → ForSeen value c.args.self.now (λ log. IsAccepted value c.args.self.now.kinds c.args.self.now.fingers log gaps)) (λ gaps. ForSeen (g.B.RowBound.value c.args.bound.now) c.args.self.now (λ log. WithKinds c.args.self.now.fingers (λ k. IsAccepted (g.B.RowBound.value c.args.bound.now) k c.args.self.now.fingers log gaps)))
    (λ gaps h log seen. (c.args.self.now.kinds, c.answer.ensures.kinds, c.answer.ensures.sound, h (g.B.RowBound.value c.args.bound.now) log seen))
    c.answer.ensures.accepted

pub returns-clause-refused : goal.returns-clause-refused
returns-clause-refused g c =
    IfErr-weaker c.answer.result (λ fault. (value : Row → State → Kinds → ℕ) → ForSeen value c.args.self.now (λ log. Refuses value c.args.self.now.kinds c.args.self.now.fingers log fault)) (λ fault. fault ≢ because.NoMemory → ForSeen (g.B.RowBound.value c.args.bound.now) c.args.self.now (λ log. WithKinds c.args.self.now.fingers (λ k. Refuses (g.B.RowBound.value c.args.bound.now) k c.args.self.now.fingers log fault)))
    (λ fault h other log seen. (c.args.self.now.kinds, c.answer.ensures.kinds, c.answer.ensures.sound, h (g.B.RowBound.value c.args.bound.now) log seen))
    c.answer.ensures.refused

pub returns-clause-arranges : goal.returns-clause-arranges
returns-clause-arranges g c =
    IfOk-weaker c.answer.result (λ gaps. (value : Row → State → Kinds → ℕ) → ForSeen value c.args.self.now (λ log. IsAccepted value c.args.self.now.kinds c.args.self.now.fingers log gaps)) (λ gaps. ForSeen (g.B.RowBound.value c.args.bound.now) c.args.self.now (λ log. WithKinds c.args.self.now.fingers (λ k. Lists k log.best (λ row. IsArrangement row c.args.self.now.fingers × (gaps ≡ gaps_of row)))))
    (λ gaps h log seen. (c.args.self.now.kinds, c.answer.ensures.kinds, c.answer.ensures.sound, accepted_arranges (g.B.RowBound.value c.args.bound.now) c.args.self.now.kinds c.args.self.now.fingers log gaps (h (g.B.RowBound.value c.args.bound.now) log seen)))
    c.answer.ensures.accepted

pub returns-clause-least : goal.returns-clause-least
returns-clause-least g c =
    IfOk-weaker c.answer.result (λ gaps. (value : Row → State → Kinds → ℕ) → ForSeen value c.args.self.now (λ log. IsAccepted value c.args.self.now.kinds c.args.self.now.fingers log gaps)) (λ gaps. ForSeen (g.B.RowBound.value c.args.bound.now) c.args.self.now (λ log. (other : List Column) → IsArrangement other c.args.self.now.fingers → gaps ≤ gaps_of other))
    (λ gaps h log seen. accepted_least (g.B.RowBound.value c.args.bound.now) c.args.self.now.kinds c.args.self.now.fingers log gaps (λ row s state. g.met.B.RowBound.holds c.args.bound.now row s c.args.self.now.kinds c.answer.ensures.sound state) c.answer.ensures.kinds (h (g.B.RowBound.value c.args.bound.now) log seen))
    c.answer.ensures.accepted

pub returns-clause-low : goal.returns-clause-low
returns-clause-low g c =
    IfErr-weaker c.answer.result (λ fault. (value : Row → State → Kinds → ℕ) → ForSeen value c.args.self.now (λ log. Refuses value c.args.self.now.kinds c.args.self.now.fingers log fault)) (λ fault. ForSeen (g.B.RowBound.value c.args.bound.now) c.args.self.now (λ log. Proves (λ best. (other : List Column) → IsArrangement other c.args.self.now.fingers → best ≤ gaps_of other) fault))
    (λ fault h log seen. refused_low (g.B.RowBound.value c.args.bound.now) c.args.self.now.kinds c.args.self.now.fingers log fault (λ row s state. g.met.B.RowBound.holds c.args.bound.now row s c.args.self.now.kinds c.answer.ensures.sound state) c.answer.ensures.kinds (h (g.B.RowBound.value c.args.bound.now) log seen))
    c.answer.ensures.refused

pub returns-clause-lemmas : goal.returns-clause-lemmas
returns-clause-lemmas g c =
    IfOk-weaker c.answer.result (λ gaps. (value : Row → State → Kinds → ℕ) → ForSeen value c.args.self.now (λ log. IsAccepted value c.args.self.now.kinds c.args.self.now.fingers log gaps)) (λ gaps. ForSeen (g.B.RowBound.value c.args.bound.now) c.args.self.now (λ log. WithKinds c.args.self.now.fingers (λ k. All (IsTrueOf k) log.lemmas)))
    (λ gaps h log seen. (c.args.self.now.kinds, c.answer.ensures.kinds, c.answer.ensures.sound, sound (g.B.RowBound.value c.args.bound.now) c.args.self.now.kinds log.lemmas (λ row s state. g.met.B.RowBound.holds c.args.bound.now row s c.args.self.now.kinds c.answer.ensures.sound state) (h (g.B.RowBound.value c.args.bound.now) log seen).justified))
    c.answer.ensures.accepted
