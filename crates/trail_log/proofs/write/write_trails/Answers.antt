use Rattle.std.proofs.Common.{List, ℕ, ap, ◌∙◌}
use Rattle.trail_log.specs.Reading.{trails_of}
use Rattle.trail_log.proofs.Whole.{read_again}
use Rattle.trail_log.proofs.write.write_trails.Goals as goal

pub returns-clause-reads : goal.returns-clause-reads
returns-clause-reads c = λ k some fits. ap (λ (t : List ℕ). trails_of t c.args.name.now k) (c.into_vec.ensures ∙ c.in_ok-text.ensures) ∙ read_again c.args.name.now k c.args.trails.now c.requires.name some fits
