use Rattle.std.proofs.Common.{ap, subst, sym, ◌∙◌, ◌+◌, ◌/◌, ◌<◌, IfSome, List}
use Rattle.cell_num.specs.declared.finger.Finger.{Finger}
use Rattle.row_state.specs.Completion.{fingers_left}
use Rattle.row_state.specs.Component.{further_trails}
use Rattle.row_state.specs.Tests.{is_odd_behind}
use Rattle.row_state.proofs.ComponentCode.{IsFound, found, odd_free, odd_open, trails_free, trails_open}
use Rattle.row_state.proofs.component.count_trails.Goals as goal

pub returns-in-None : goal.returns-in-None
returns-in-None c row =
    let fs : List Finger = fingers_left row c.args.kinds.now c.args.left.now in
    let are : IsFound c.args.nets fs c.classes-classes.result (is_odd_behind c.args.end.now c.args.kinds.now c.args.left.now) c.met_classes-met.result c.count_by_class-odd.result =
    found row c.args.kinds.now c.args.left.now c.args.nets c.classes-classes.result c.odd_behind.result (is_odd_behind c.args.end.now c.args.kinds.now c.args.left.now) c.met_classes-met.result c.count_by_class-odd.result c.requires.kinds c.classes-classes.ensures c.met_classes-met.ensures c.odd_behind.ensures c.count_by_class-odd.ensures.value in
    c.saturating_sub-in-None.ensures
    ∙ trails_free c.args.nets fs c.classes-classes.result (is_odd_behind c.args.end.now c.args.kinds.now c.args.left.now) c.met_classes-met.result c.count_by_class-odd.result c.sum_trails-in-None.result are (λ u. ap (λ e. is_odd_behind e c.args.kinds.now c.args.left.now u) c.in-None.is ∙ odd_free row c.args.kinds.now c.args.left.now u) c.sum_trails-in-None.ensures.value
    ∙ ap (λ e. further_trails c.args.nets e fs) (sym c.in-None.is)

pub returns-in-Some : goal.returns-in-Some
returns-in-Some c row =
    let fs : List Finger = fingers_left row c.args.kinds.now c.args.left.now in
    let within : c.in-Some.open.0 < c.args.nets = subst (λ e. IfSome e (λ v. v.0 < c.args.nets)) c.in-Some.is c.requires.end in
    let are : IsFound c.args.nets fs c.classes-classes.result (is_odd_behind c.args.end.now c.args.kinds.now c.args.left.now) c.met_classes-met.result c.count_by_class-odd.result =
    found row c.args.kinds.now c.args.left.now c.args.nets c.classes-classes.result c.odd_behind.result (is_odd_behind c.args.end.now c.args.kinds.now c.args.left.now) c.met_classes-met.result c.count_by_class-odd.result c.requires.kinds c.classes-classes.ensures c.met_classes-met.ensures c.odd_behind.ensures c.count_by_class-odd.ensures.value in
    ap (λ m. m / 2 + c.sum_trails.result) c.saturating_sub.ensures
    ∙ trails_open c.args.nets c.in-Some.open.0 fs c.classes-classes.result (is_odd_behind c.args.end.now c.args.kinds.now c.args.left.now) c.met_classes-met.result c.count_by_class-odd.result c.sum_trails.result within are (λ u. ap (λ e. is_odd_behind e c.args.kinds.now c.args.left.now u) c.in-Some.is ∙ odd_open row c.args.kinds.now c.args.left.now c.in-Some.open u) c.sum_trails.ensures.value
    ∙ ap (λ e. further_trails c.args.nets e fs) (sym c.in-Some.is)
