use Rattle.finger_fold.proofs.Columns.{few_columns}
use Rattle.finger_fold.proofs.Counts.{some_fingers}
use Rattle.finger_fold.proofs.Sound.{sound}
use Rattle.finger_fold.proofs.folding.fold.Goals as goal

pub columns_of-count-requires : goal.columns_of-count-requires
columns_of-count-requires c = record { few = few_columns c.args.tech.now c.args.cell.now c.in_ok-fingers.fingers c.requires c.in_ok-fingers.ensures c.in_ok-few_in_rows.ensures.few_p c.in_ok-few_in_rows.ensures.few_n }

pub returns-clause-sound : goal.returns-clause-sound
returns-clause-sound c = sound c.args.tech.now c.args.cell.now c.in_ok-fingers.fingers c.show_limits.ensures c.requires c.in_ok-fingers.ensures

pub returns-clause-some : goal.returns-clause-some
returns-clause-some c = some_fingers c.args.tech.now c.args.cell.now c.in_ok-fingers.fingers c.show_limits.ensures c.requires c.in_ok-fingers.ensures
