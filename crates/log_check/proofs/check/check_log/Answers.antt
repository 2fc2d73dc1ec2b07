use Rattle.std.proofs.Common.{◌≡◌, ◌≢◌, ◌≤◌, List, All, subst}
use Rattle.std.proofs.lemmas.Result.{IfOk-weaker, IfErr-weaker}
use Rattle.cell_num.specs.declared.finger.Fingers.{Fingers}
use Rattle.row_model.specs.declared.column.Column.{Column}
use Rattle.row_model.specs.Arrangement.{IsArrangement}
use Rattle.row_model.specs.Gaps.{gaps_of}
use Rattle.log_check.specs.declared.refused.Refused.TheVariants as because
use Rattle.log_check.specs.Accepted.{IsAccepted, IsTrueOf, Lists, WithKinds}
use Rattle.log_check.specs.Items.{ForSeen}
use Rattle.log_check.specs.Refusal.{Proves, Refuses}
use Rattle.log_check.proofs.check.check_log.Goals as goal

pub returns-clause-accepted : goal.returns-clause-accepted
returns-clause-accepted g c =
    IfOk-weaker c.finish.result (λ gaps. ForSeen (g.B.RowBound.value c.args.bound.now) c.in_ok-seen.seen (λ log. WithKinds c.in_ok-seen.seen.fingers (λ k. IsAccepted (g.B.RowBound.value c.args.bound.now) k c.in_ok-seen.seen.fingers log gaps))) (λ gaps. WithKinds c.args.fingers.now (λ k. IsAccepted (g.B.RowBound.value c.args.bound.now) k c.args.fingers.now c.args.log.now gaps))
    (λ gaps h. subst (λ (f : Fingers). WithKinds f (λ k. IsAccepted (g.B.RowBound.value c.args.bound.now) k f c.args.log.now gaps)) c.in_ok-seen.ensures.fingers (h c.args.log.now c.in_ok-seen.ensures.seen))
    c.finish.ensures.accepted

pub returns-clause-refused : goal.returns-clause-refused
returns-clause-refused g c =
    IfErr-weaker c.finish.result (λ fault. fault ≢ because.NoMemory → ForSeen (g.B.RowBound.value c.args.bound.now) c.in_ok-seen.seen (λ log. WithKinds c.in_ok-seen.seen.fingers (λ k. Refuses (g.B.RowBound.value c.args.bound.now) k c.in_ok-seen.seen.fingers log fault))) (λ fault. fault ≢ because.NoMemory → WithKinds c.args.fingers.now (λ k. Refuses (g.B.RowBound.value c.args.bound.now) k c.args.fingers.now c.args.log.now fault))
    (λ fault h other. subst (λ (f : Fingers). WithKinds f (λ k. Refuses (g.B.RowBound.value c.args.bound.now) k f c.args.log.now fault)) c.in_ok-seen.ensures.fingers (h other c.args.log.now c.in_ok-seen.ensures.seen))
    c.finish.ensures.refused

pub returns-clause-arranges : goal.returns-clause-arranges
returns-clause-arranges g c =
    IfOk-weaker c.finish.result (λ gaps. ForSeen (g.B.RowBound.value c.args.bound.now) c.in_ok-seen.seen (λ log. WithKinds c.in_ok-seen.seen.fingers (λ k. Lists k log.best (λ row. IsArrangement row c.in_ok-seen.seen.fingers × (gaps ≡ gaps_of row))))) (λ gaps. WithKinds c.args.fingers.now (λ k. Lists k c.args.log.now.best (λ row. IsArrangement row c.args.fingers.now × (gaps ≡ gaps_of row))))
    (λ gaps h. subst (λ (f : Fingers). WithKinds f (λ k. Lists k c.args.log.now.best (λ row. IsArrangement row f × (gaps ≡ gaps_of row)))) c.in_ok-seen.ensures.fingers (h c.args.log.now c.in_ok-seen.ensures.seen))
    c.finish.ensures.arranges

pub returns-clause-least : goal.returns-clause-least
returns-clause-least g c =
    IfOk-weaker c.finish.result (λ gaps. ForSeen (g.B.RowBound.value c.args.bound.now) c.in_ok-seen.seen (λ log. (other : List Column) → IsArrangement other c.in_ok-seen.seen.fingers → gaps ≤ gaps_of other)) (λ gaps. (other : List Column) → IsArrangement other c.args.fingers.now → gaps ≤ gaps_of other)
    (λ gaps h. subst (λ (f : Fingers). (other : List Column) → IsArrangement other f → gaps ≤ gaps_of other) c.in_ok-seen.ensures.fingers (h c.args.log.now c.in_ok-seen.ensures.seen))
    c.finish.ensures.least

pub returns-clause-low : goal.returns-clause-low
returns-clause-low g c =
    IfErr-weaker c.finish.result (λ fault. ForSeen (g.B.RowBound.value c.args.bound.now) c.in_ok-seen.seen (λ log. Proves (λ best. (other : List Column) → IsArrangement other c.in_ok-seen.seen.fingers → best ≤ gaps_of other) fault)) (λ fault. Proves (λ best. (other : List Column) → IsArrangement other c.args.fingers.now → best ≤ gaps_of other) fault)
    (λ fault h. subst (λ (f : Fingers). Proves (λ best. (other : List Column) → IsArrangement other f → best ≤ gaps_of other) fault) c.in_ok-seen.ensures.fingers (h c.args.log.now c.in_ok-seen.ensures.seen))
    c.finish.ensures.low

pub returns-clause-lemmas : goal.returns-clause-lemmas
returns-clause-lemmas g c =
    IfOk-weaker c.finish.result (λ gaps. ForSeen (g.B.RowBound.value c.args.bound.now) c.in_ok-seen.seen (λ log. WithKinds c.in_ok-seen.seen.fingers (λ k. All (IsTrueOf k) log.lemmas))) (λ gaps. WithKinds c.args.fingers.now (λ k. All (IsTrueOf k) c.args.log.now.lemmas))
    (λ gaps h. subst (λ (f : Fingers). WithKinds f (λ k. All (IsTrueOf k) c.args.log.now.lemmas)) c.in_ok-seen.ensures.fingers (h c.args.log.now c.in_ok-seen.ensures.seen))
    c.finish.ensures.lemmas
