use Rattle.cell_commands.proofs.Listing.{certified_too, trails_accepted_too, trails_fit_too, trails_list_too}
use Rattle.cell_commands.proofs.laws.trails_of_other_row.Goals as goal

pub returns-clause-accepted : goal.returns-clause-accepted
returns-clause-accepted c = trails_accepted_too

pub returns-clause-lists : goal.returns-clause-lists
returns-clause-lists c = trails_list_too

pub returns-clause-fits : goal.returns-clause-fits
returns-clause-fits c = trails_fit_too

pub returns-clause-certified : goal.returns-clause-certified
returns-clause-certified c = certified_too
