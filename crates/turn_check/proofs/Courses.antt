-- What is rejected as its first line says is accepted as no text of either course.
use Rattle.std.specs.Prelude.{ℕ, ◌≢◌, List}
use Rattle.std.proofs.Common.{ap, subst, ◌∙◌}
use Rattle.cell_num.specs.declared.finger.Row.{Row}
use Rattle.cell_num.specs.declared.net.Pins.{Pins}
use Rattle.row_state.specs.declared.kind.Kinds.{Kinds}
use Rattle.row_state.specs.declared.state.State.{State}
use Rattle.row_state.specs.Start.{AreSomeKinds}
use Rattle.bound_log.specs.Fits.{IsLogName}
use Rattle.track_log.specs.declared.certificate.Course.{Course}
use Rattle.track_log.specs.declared.certificate.Course.TheVariants as course
use Rattle.track_log.specs.Reading.{course_of}
use Rattle.track_log.proofs.Whole.{course_again}
use Rattle.track_check.specs.declared.accept.TracksProved.{TracksProved}
use Rattle.track_check.specs.declared.rejected.TextRejected.{TextRejected}
use Rattle.track_check.specs.declared.rejected.TextRejected.TheVariants as because
use Rattle.track_check.proofs.NotAccepted.{not_accepted as straight_not}
use Rattle.turn_check.specs.declared.course.LowProved.{LowProved}
use Rattle.turn_check.specs.Courses.{IsAcceptedOf, IsLowAccepted, LowRejects, RejectsOf}
use Rattle.turn_check.proofs.NotAccepted.{not_accepted as turn_not}

course_not : (by : Course) (value : Row → State → Kinds → ℕ) (pins : Pins) (k : Kinds) (name bytes : List ℕ)
    (cause : TextRejected) (proved : TracksProved) → IsLogName name → AreSomeKinds k → cause ≢ because.NoMemory →
    LowRejects value pins k name bytes cause → IsAcceptedOf by value pins k name bytes proved → ⊥
course_not course.Straight value pins k name bytes cause proved is_name some other h right =
    straight_not value pins k name bytes cause is_name some other
    (subst (λ (z : Course). RejectsOf z value pins k name bytes cause)
    (ap course_of right.text ∙ course_again course.Straight name right.certificate) h) proved right
course_not course.Turning value pins k name bytes cause proved is_name some other h right =
    turn_not value pins k name bytes cause is_name some other
    (subst (λ (z : Course). RejectsOf z value pins k name bytes cause)
    (ap course_of right.text ∙ course_again course.Turning name right.certificate) h) proved right

pub low_not : (value : Row → State → Kinds → ℕ) (pins : Pins) (k : Kinds) (name bytes : List ℕ) (cause : TextRejected) →
    IsLogName name → AreSomeKinds k → cause ≢ because.NoMemory → LowRejects value pins k name bytes cause →
    (low : LowProved) → IsLowAccepted value pins k name bytes low → ⊥
low_not value pins k name bytes cause is_name some other h low right =
    course_not low.course value pins k name bytes cause low.proved is_name some other h right
