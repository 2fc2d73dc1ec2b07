use Rattle.std.proofs.Common.{List, ℕ, ap, ◌∙◌}
use Rattle.track_log.specs.Reading.{certificate_by, course_of}
use Rattle.track_log.proofs.Whole.{course_again, read_again_by}
use Rattle.track_log.proofs.write.write_tracks_by.Goals as goal

pub returns-clause-reads : goal.returns-clause-reads
returns-clause-reads c = λ k some fits.
    ap (λ (t : List ℕ). certificate_by c.args.course t c.args.name.now k) (c.into_vec.ensures ∙ c.in_ok-text.ensures)
    ∙ read_again_by c.args.course c.args.name.now k c.args.certificate.now c.requires.name some fits

pub returns-clause-course : goal.returns-clause-course
returns-clause-course c =
    ap course_of (c.into_vec.ensures ∙ c.in_ok-text.ensures) ∙ course_again c.args.course c.args.name.now c.args.certificate.now
