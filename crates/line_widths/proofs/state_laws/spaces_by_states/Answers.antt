use Rattle.line_widths.proofs.OnPaths.{again, by_states}
use Rattle.line_widths.proofs.state_laws.spaces_by_states.Goals as goal

pub returns-clause-spaces : goal.returns-clause-spaces
returns-clause-spaces c = by_states

pub returns-clause-again : goal.returns-clause-again
returns-clause-again c = λ pins k s steps track other nets leads h. again pins track other k s steps nets leads h
