use Rattle.std.proofs.Common.{◌≡◌, ◌∙◌, subst, sym}
use Rattle.std.proofs.lemmas.Result.{err_from_is_err_and}
use Rattle.track_log.specs.declared.certificate.Course.{Course}
use Rattle.track_log.specs.declared.certificate.Course.TheVariants as course
use Rattle.track_log.specs.Reading.{course_of}
use Rattle.turn_check.specs.Courses.{IsAcceptedOf, RejectsOf}
use Rattle.turn_check.proofs.Courses.{low_not}
use Rattle.turn_check.proofs.course.check_course.Goals as goal

pub returns-in_err-proved-in-Straight-clause-none : goal.returns-in_err-proved-in-Straight-clause-none
returns-in_err-proved-in-Straight-clause-none g c =
    let p = err_from_is_err_and c.from_residual.result c.from_residual.ensures.1 in
    let is : course_of c.args.bytes.now ≡ course.Straight = sym c.course_of-course.ensures ∙ c.in-Straight.is in
    rw (p.1, p.2) (λ other low right. low_not (g.B.GapBound.value c.args.bound.now) c.args.pins.now c.args.kinds.now c.args.name.now c.args.bytes.now c.in_err-proved-in-Straight.field-0.0 c.requires.name c.show_limits.ensures other
    (subst (λ (z : Course). RejectsOf z (g.B.GapBound.value c.args.bound.now) c.args.pins.now c.args.kinds.now c.args.name.now c.args.bytes.now c.in_err-proved-in-Straight.field-0.0) (sym is) (c.in_err-proved-in-Straight.ensures.rejected other)) low right)

pub returns-in_err-proved-in-Turning-clause-none : goal.returns-in_err-proved-in-Turning-clause-none
returns-in_err-proved-in-Turning-clause-none g c =
    let p = err_from_is_err_and c.from_residual-in_err-proved-in-Turning.result c.from_residual-in_err-proved-in-Turning.ensures.1 in
    let is : course_of c.args.bytes.now ≡ course.Turning = sym c.course_of-course.ensures ∙ c.in-Turning.is in
    rw (p.1, p.2) (λ other low right. low_not (g.B.GapBound.value c.args.bound.now) c.args.pins.now c.args.kinds.now c.args.name.now c.args.bytes.now c.in_err-proved-in-Turning.field-0.0 c.requires.name c.show_limits.ensures other
    (subst (λ (z : Course). RejectsOf z (g.B.GapBound.value c.args.bound.now) c.args.pins.now c.args.kinds.now c.args.name.now c.args.bytes.now c.in_err-proved-in-Turning.field-0.0) (sym is) (c.in_err-proved-in-Turning.ensures.rejected other)) low right)

pub returns-in_ok-proved-in-Straight-clause-accepted : goal.returns-in_ok-proved-in-Straight-clause-accepted
returns-in_ok-proved-in-Straight-clause-accepted g c =
    subst (λ (z : Course). IsAcceptedOf z (g.B.GapBound.value c.args.bound.now) c.args.pins.now c.args.kinds.now c.args.name.now c.args.bytes.now c.in_ok-proved-in-Straight.proved) (sym c.in-Straight.is) c.in_ok-proved-in-Straight.ensures.accepted

pub returns-in_ok-proved-in-Turning-clause-accepted : goal.returns-in_ok-proved-in-Turning-clause-accepted
returns-in_ok-proved-in-Turning-clause-accepted g c =
    subst (λ (z : Course). IsAcceptedOf z (g.B.GapBound.value c.args.bound.now) c.args.pins.now c.args.kinds.now c.args.name.now c.args.bytes.now c.in_ok-proved-in-Turning.proved) (sym c.in-Turning.is) c.in_ok-proved-in-Turning.ensures.accepted
