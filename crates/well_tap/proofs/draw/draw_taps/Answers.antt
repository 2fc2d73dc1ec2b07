use Rattle.std.proofs.lemmas.Result.{IfOk-weaker}
use Rattle.well_tap.proofs.Clauses.{obeys, as_large, same_circuit, shows_same, bodies, twelve_more, within}
use Rattle.well_tap.proofs.draw.draw_taps.Goals as goal

pub returns-clause-obeys : goal.returns-clause-obeys
returns-clause-obeys c = IfOk-weaker c.tapped.result _ _ (λ d. obeys c.args.xs.now c.args.base.now d c.requires.base c.requires.obeys) c.tapped.ensures

pub returns-clause-same : goal.returns-clause-same
returns-clause-same c = IfOk-weaker c.tapped.result _ _ (λ d. as_large c.args.xs.now c.args.base.now d c.requires.base) c.tapped.ensures

pub returns-clause-circuit : goal.returns-clause-circuit
returns-clause-circuit c = IfOk-weaker c.tapped.result _ _ (λ d. same_circuit c.args.xs.now c.args.base.now d c.requires.base) c.tapped.ensures

pub returns-clause-shows : goal.returns-clause-shows
returns-clause-shows c = IfOk-weaker c.tapped.result _ _ (λ d. shows_same c.args.xs.now c.args.base.now d c.requires.base) c.tapped.ensures

pub returns-clause-bodies : goal.returns-clause-bodies
returns-clause-bodies c = λ names pins rails. IfOk-weaker c.tapped.result _ _ (λ d is. bodies c.args.xs.now c.args.base.now d c.requires.base is names pins rails) c.tapped.ensures

pub returns-clause-count : goal.returns-clause-count
returns-clause-count c = IfOk-weaker c.tapped.result _ _ (λ d. twelve_more c.args.xs.now c.args.base.now d) c.tapped.ensures

pub returns-clause-within : goal.returns-clause-within
returns-clause-within c = λ inside. IfOk-weaker c.tapped.result _ _ (λ d. within c.args.xs.now c.args.base.now d c.requires.base c.requires.height inside) c.tapped.ensures
