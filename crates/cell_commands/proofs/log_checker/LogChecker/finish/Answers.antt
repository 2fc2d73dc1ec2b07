use Rattle.std.proofs.Common.{◌≢◌, ◌≤◌, List, IfOk, IfErr, subst}
use Rattle.std.proofs.lemmas.Result.{IfOk-weaker, IfErr-weaker}
use Rattle.row_model.specs.declared.column.Column.{Column}
use Rattle.row_model.specs.Arrangement.{IsArrangement}
use Rattle.row_model.specs.Gaps.{gaps_of}
use Rattle.row_state.specs.LogBounds.{log_version}
use Rattle.row_state.specs.Versions.{value_of}
use Rattle.log_check.specs.declared.refused.Refused.TheVariants as because
use Rattle.log_check.specs.Accepted.{IsAccepted, WithKinds}
use Rattle.log_check.specs.Items.{Checked, ForSeen}
use Rattle.log_check.specs.Refusal.{Refuses}
use Rattle.cell_commands.specs.LogRead.{ForSeenLog}
use Rattle.cell_commands.proofs.Versions.{by_version}
use Rattle.cell_commands.proofs.log_checker.LogChecker.finish.Goals as goal

pub returns-clause-accepted : goal.returns-clause-accepted
returns-clause-accepted c =
    let bound = c.self.inside.checker.bound in
    let seen = c.self.inside.checker.seen in
    subst (λ (s : Checked). IfOk c.finish.result (λ gaps. ForSeenLog s (λ log. WithKinds s.fingers (λ k. IsAccepted (value_of log.version) k s.fingers log gaps)))) c.self.view_is
    (IfOk-weaker c.finish.result (λ gaps. ForSeen (value_of (log_version bound)) seen (λ log. WithKinds seen.fingers (λ k. IsAccepted (value_of (log_version bound)) k seen.fingers log gaps))) (λ gaps. ForSeenLog seen (λ log. WithKinds seen.fingers (λ k. IsAccepted (value_of log.version) k seen.fingers log gaps)))
    (λ gaps h. by_version seen bound (λ v log. WithKinds seen.fingers (λ k. IsAccepted v k seen.fingers log gaps)) c.self.invariant h)
    c.finish.ensures.accepted)

pub returns-clause-refused : goal.returns-clause-refused
returns-clause-refused c =
    let bound = c.self.inside.checker.bound in
    let seen = c.self.inside.checker.seen in
    subst (λ (s : Checked). IfErr c.finish.result (λ fault. fault ≢ because.NoMemory → ForSeenLog s (λ log. WithKinds s.fingers (λ k. Refuses (value_of log.version) k s.fingers log fault)))) c.self.view_is
    (IfErr-weaker c.finish.result (λ fault. fault ≢ because.NoMemory → ForSeen (value_of (log_version bound)) seen (λ log. WithKinds seen.fingers (λ k. Refuses (value_of (log_version bound)) k seen.fingers log fault))) (λ fault. fault ≢ because.NoMemory → ForSeenLog seen (λ log. WithKinds seen.fingers (λ k. Refuses (value_of log.version) k seen.fingers log fault)))
    (λ fault h other. by_version seen bound (λ v log. WithKinds seen.fingers (λ k. Refuses v k seen.fingers log fault)) c.self.invariant (h other))
    c.finish.ensures.refused)

pub returns-clause-least : goal.returns-clause-least
returns-clause-least c =
    let bound = c.self.inside.checker.bound in
    let seen = c.self.inside.checker.seen in
    subst (λ (s : Checked). IfOk c.finish.result (λ gaps. ForSeenLog s (λ log. (other : List Column) → IsArrangement other s.fingers → gaps ≤ gaps_of other))) c.self.view_is
    (IfOk-weaker c.finish.result (λ gaps. ForSeen (value_of (log_version bound)) seen (λ log. (other : List Column) → IsArrangement other seen.fingers → gaps ≤ gaps_of other)) (λ gaps. ForSeenLog seen (λ log. (other : List Column) → IsArrangement other seen.fingers → gaps ≤ gaps_of other))
    (λ gaps h. by_version seen bound (λ v log. (other : List Column) → IsArrangement other seen.fingers → gaps ≤ gaps_of other) c.self.invariant h)
    c.finish.ensures.least)
