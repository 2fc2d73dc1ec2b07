use Rattle.cycle_search.proofs.asked.Asked.new.Goals as goal

pub returns-clause-sound : goal.returns-clause-sound
returns-clause-sound c = c.in_ok-below.ensures _
