-- Texts of certificates of tracks of either course.
use Rattle.std.specs.Prelude.{ℕ, List}
use Rattle.cell_num.specs.declared.finger.Row.{Row}
use Rattle.cell_num.specs.declared.net.Pins.{Pins}
use Rattle.row_state.specs.declared.kind.Kinds.{Kinds}
use Rattle.row_state.specs.declared.state.State.{State}
use Rattle.track_log.specs.declared.certificate.Course.{Course}
use Rattle.track_log.specs.declared.certificate.Course.TheVariants as course
use Rattle.track_log.specs.Reading.{course_of}
use Rattle.track_check.specs.declared.accept.TracksProved.{TracksProved}
use Rattle.track_check.specs.declared.rejected.TextRejected.{TextRejected}
use Rattle.track_check.specs.Accepted.{IsAccepted, Rejects}
use Rattle.turn_check.specs.declared.course.LowProved.{LowProved}
use Rattle.turn_check.specs.Turning.{IsTurnAccepted, RejectsTurn}

-- the text is accepted as one of that course
abbrev pub IsAcceptedOf :
    Course → (Row → State → Kinds → ℕ) → Pins → Kinds → List ℕ → List ℕ → TracksProved → Type 0
IsAcceptedOf course.Straight = IsAccepted
IsAcceptedOf course.Turning = IsTurnAccepted

abbrev pub IsLowAccepted : (Row → State → Kinds → ℕ) → Pins → Kinds → List ℕ → List ℕ → LowProved → Type 0
IsLowAccepted value pins k name bytes low = IsAcceptedOf low.course value pins k name bytes low.proved

-- why it is rejected as one of that course
abbrev pub RejectsOf : Course → (Row → State → Kinds → ℕ) → Pins → Kinds → List ℕ → List ℕ → TextRejected → Type 0
RejectsOf course.Straight = Rejects
RejectsOf course.Turning = RejectsTurn

-- a text is of the course that its first line names
abbrev pub LowRejects : (Row → State → Kinds → ℕ) → Pins → Kinds → List ℕ → List ℕ → TextRejected → Type 0
LowRejects value pins k name bytes cause = RejectsOf (course_of bytes) value pins k name bytes cause
