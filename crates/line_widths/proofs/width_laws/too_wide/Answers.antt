use Rattle.line_widths.proofs.Wide.{at_end, branch, needs_more, weaker, wider}
use Rattle.line_widths.proofs.width_laws.too_wide.Goals as goal

pub returns-clause-branch : goal.returns-clause-branch
returns-clause-branch c = branch

pub returns-clause-at_end : goal.returns-clause-at_end
returns-clause-at_end c = at_end

pub returns-clause-needs_more : goal.returns-clause-needs_more
returns-clause-needs_more c = needs_more

pub returns-clause-weaker : goal.returns-clause-weaker
returns-clause-weaker c = weaker

pub returns-clause-wider : goal.returns-clause-wider
returns-clause-wider c = wider
