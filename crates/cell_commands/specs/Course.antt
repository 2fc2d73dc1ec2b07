-- The course of the nets in a certificate of tracks, by the wiring of the cell.
use Rattle.track_log.specs.declared.certificate.Course.{Course}
use Rattle.track_log.specs.declared.certificate.Course.TheVariants as course
use Rattle.cell_inputs.specs.declared.style.Wiring.{Wiring}
use Rattle.cell_inputs.specs.declared.style.Wiring.TheVariants.{Straight, Doglegs}

abbrev pub course_by : Wiring → Course
course_by Straight = course.Straight
course_by Doglegs = course.Turning
