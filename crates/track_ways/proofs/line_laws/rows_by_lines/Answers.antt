use Rattle.track_ways.proofs.Placed.{lines_placed}
use Rattle.track_ways.proofs.line_laws.rows_by_lines.Goals as goal

pub returns : goal.returns
returns c = lines_placed
