use Rattle.std.proofs.Common.{Err, inl, refl}
use Rattle.call_read.specs.declared.refusal.Refusal.TheVariants.{Words}
use Rattle.call_work.proofs.commands.gather.Goals as goal

pub returns-in-None-clause-comes : goal.returns-in-None-clause-comes
returns-in-None-clause-comes g c = rw c.in-None.is (Err Words, inl refl, refl)

pub returns-in-Some-clause-comes : goal.returns-in-Some-clause-comes
returns-in-Some-clause-comes g c = rw c.in-Some.is c.gather_form.ensures.comes
