use Rattle.line_widths.proofs.OnLines.{by_lines, parted}
use Rattle.line_widths.proofs.state_laws.spaces_by_lines.Goals as goal

pub returns-clause-spaces : goal.returns-clause-spaces
returns-clause-spaces c = by_lines

pub returns-clause-parted : goal.returns-clause-parted
returns-clause-parted c = parted
