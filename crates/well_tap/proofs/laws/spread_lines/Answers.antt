use Rattle.well_tap.proofs.Drawn.{spread_rows, spread_wired}
use Rattle.well_tap.proofs.laws.spread_lines.Goals as goal

pub returns-clause-rows : goal.returns-clause-rows
returns-clause-rows c = spread_rows

pub returns-clause-wired : goal.returns-clause-wired
returns-clause-wired c = spread_wired
