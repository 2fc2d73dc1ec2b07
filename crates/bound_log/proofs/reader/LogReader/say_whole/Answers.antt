use Rattle.std.proofs.Common.{rules, ◌≡◌, IfOk, subst}
use Rattle.row_state.specs.declared.kind.Kinds.{Kinds}
use Rattle.bound_log.specs.Pieces.{SaidFits}
use Rattle.bound_log.proofs.Heads.{says_fit}
use Rattle.bound_log.proofs.reader.LogReader.say_whole.Goals as goal

pub returns-clause-fits : goal.returns-clause-fits
returns-clause-fits c =
    let same : c.self.inside.kinds ≡ c.args.self.now.kinds = search rules in
    subst (λ (k : Kinds). IfOk c.say_line.result (SaidFits k)) same (says_fit c.self.inside.name c.self.inside.kinds c.self.inside.place c.self.inside.number c.args.line.now c.say_line.result (search rules) c.self.invariant c.say_line.ensures.said)
