use Rattle.gds_read.proofs.Rectangles.{walks_are}
use Rattle.gds_read.proofs.Covered.{cells_are}
use Rattle.gds_read.proofs.BandRuns.{runs_are, in_order}
use Rattle.gds_read.proofs.Floors.{floor_is}
use Rattle.gds_read.proofs.laws.drawn_elements.Goals as goal

pub returns-clause-walks : goal.returns-clause-walks
returns-clause-walks c = walks_are

pub returns-clause-cells : goal.returns-clause-cells
returns-clause-cells c = cells_are

pub returns-clause-runs : goal.returns-clause-runs
returns-clause-runs c = runs_are

pub returns-clause-order : goal.returns-clause-order
returns-clause-order c = in_order

pub returns-clause-label : goal.returns-clause-label
returns-clause-label c = floor_is
