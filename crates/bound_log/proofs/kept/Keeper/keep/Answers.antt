use Rattle.std.proofs.Common.{All, ap, subst, sym}
use Rattle.row_state.specs.declared.kind.Kinds.{Kinds}
use Rattle.row_state.specs.Candidates.{IsNumbered}
use Rattle.row_state.specs.Code.{IsCode}
use Rattle.bound_log.specs.declared.kept.Packed.{Packed}
use Rattle.bound_log.specs.Kept.{KeptSoFar}
use Rattle.bound_log.proofs.Keeping.{code_fits, code_in, codes_more, lemmas_more}
use Rattle.bound_log.proofs.kept.Keeper.keep.Goals as goal

pub invariant_of-self : goal.invariant_of-self
invariant_of-self c = subst (All (λ (y : Packed). IsCode c.self.inside.kinds (code_in y))) (sym c.in_err-push.ensures.err) c.self.invariant

pub invariant_of-self-2 : goal.invariant_of-self-2
invariant_of-self-2 c = codes_more c.args.self.now.kinds c.self.inside.kinds c.self.inside.packed c.push.new.self c.new.result c.args.at.now (ap (λ (z : KeptSoFar). z.kinds) c.self.view_is) c.requires.state c.new.ensures.state c.self.invariant c.in_ok-push.ensures.ok

pub returns-clause-ok : goal.returns-clause-ok
returns-clause-ok c = lemmas_more c.args.self.now.kinds c.self.inside.kinds c.self.inside.packed c.push.new.self c.args.self.now.lemmas c.new.result c.args.at.now c.args.bound c.args.rule (ap (λ (z : KeptSoFar). z.kinds) c.self.view_is) c.requires.state c.new.ensures.state c.new.ensures.bound c.new.ensures.rule (ap (λ (z : KeptSoFar). z.lemmas) c.self.view_is) c.in_ok-push.ensures.ok

pub new-requires-clause-state : goal.new-requires-clause-state
new-requires-clause-state c = code_fits c.self.inside.kinds c.args.at.now c.show_limits.ensures (subst (λ (z : Kinds). IsNumbered z c.args.at.now) (sym (ap (λ (z : KeptSoFar). z.kinds) c.self.view_is)) c.requires.state)
