use Rattle.std.proofs.Common.{arith, sym, ◌∙◌}
use Rattle.number_trees.proofs.Tying.{none_before, more_before, all_before}
use Rattle.number_trees.proofs.tied.tied_before.Goals as goal

pub loop-earlier-init : goal.loop-earlier-init
loop-earlier-init c = none_before c.args.ties.now c.args.at

pub loop-earlier-preserved : goal.loop-earlier-preserved
loop-earlier-preserved c = more_before c.args.ties.now c.args.at c.loop-earlier.earlier c.loop-earlier.invariant (sym c.is_one_tie.ensures ∙ c.if-is_one_tie.false)

pub returns-then-is_one_tie-clause-tied : goal.returns-then-is_one_tie-clause-tied
returns-then-is_one_tie-clause-tied c = record { is = sym c.is_one_tie.ensures ∙ c.if-is_one_tie.true }

pub returns-clause-none : goal.returns-clause-none
returns-clause-none c = λ e. all_before c.args.ties.now c.args.at c.loop-earlier.earlier (omega arith) c.loop-earlier.invariant
