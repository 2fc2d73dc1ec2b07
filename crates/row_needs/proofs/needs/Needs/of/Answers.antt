use Rattle.std.proofs.Common.{ap, nat_eq, subst, sym, ◌∙◌}
use Rattle.std.specs.Prelude.{IfNone, IfSome}
use Rattle.std.specs.HashMap.{get}
use Rattle.row_needs.specs.Need.{IsNeed}
use Rattle.row_needs.specs.Rest.{HasRest}
use Rattle.row_needs.proofs.Bounds.{read_need, read_none, read_there}
use Rattle.row_needs.proofs.needs.Needs.of.Goals as goal

pub read-requires : goal.read-requires
read-requires c = record { few = λ rest there. (c.requires.sound c.args.at.now.state rest c.requires.numbered.valid (ap (get nat_eq c.args.self.now.rests) (sym c.requires.numbered.counts) ∙ there)).1 }

pub returns-clause-need : goal.returns-clause-need
returns-clause-need c = subst (λ o. IfSome o (IsNeed c.args.kinds.now c.args.at.now.state)) (sym c.read.ensures) (read_need c.args.kinds.now c.args.self.now c.args.at.now.state c.args.at.now.counts c.requires.numbered.counts c.requires.numbered.valid c.requires.sound)

pub returns-clause-here : goal.returns-clause-here
returns-clause-here c = subst (λ o. IfSome o (λ _. HasRest c.args.kinds.now c.args.self.now c.args.at.now.state)) (sym c.read.ensures) (read_there c.args.kinds.now c.args.self.now c.args.at.now.state c.args.at.now.counts c.requires.numbered.counts)

pub returns-clause-none : goal.returns-clause-none
returns-clause-none c = subst (λ o. IfNone o (HasRest c.args.kinds.now c.args.self.now c.args.at.now.state → ⊥)) (sym c.read.ensures) (read_none c.args.kinds.now c.args.self.now c.args.at.now.state c.args.at.now.counts c.requires.numbered.counts)
