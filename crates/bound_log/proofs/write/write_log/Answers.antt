use Rattle.std.specs.Prelude.{IsErr}
use Rattle.std.proofs.Common.{List, ℕ, ap, subst, sym, ◌∙◌}
use Rattle.bound_log.specs.Reading.{log_of}
use Rattle.bound_log.proofs.Injective.{unfit_refused}
use Rattle.bound_log.proofs.Whole.{read_again}
use Rattle.bound_log.proofs.write.write_log.Goals as goal

pub returns-clause-reads : goal.returns-clause-reads
returns-clause-reads c = λ k some fits. ap (λ (t : List ℕ). log_of t c.args.name.now k) (c.into_vec.ensures ∙ c.in_ok-text.ensures) ∙ read_again c.args.name.now k c.args.log.now c.requires.name some fits

pub returns-clause-refuses : goal.returns-clause-refuses
returns-clause-refuses c = λ k some unfit. subst (λ (t : List ℕ). IsErr (log_of t c.args.name.now k)) (sym (c.into_vec.ensures ∙ c.in_ok-text.ensures)) (unfit_refused c.args.name.now k c.args.log.now some unfit)
