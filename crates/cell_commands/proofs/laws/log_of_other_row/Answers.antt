use Rattle.cell_commands.proofs.Listing.{accepted_too, fits_too, lists_too, solved_too}
use Rattle.cell_commands.proofs.laws.log_of_other_row.Goals as goal

pub returns-clause-accepted : goal.returns-clause-accepted
returns-clause-accepted c = accepted_too

pub returns-clause-lists : goal.returns-clause-lists
returns-clause-lists c = lists_too

pub returns-clause-fits : goal.returns-clause-fits
returns-clause-fits c = fits_too

pub returns-clause-solved : goal.returns-clause-solved
returns-clause-solved c = solved_too
