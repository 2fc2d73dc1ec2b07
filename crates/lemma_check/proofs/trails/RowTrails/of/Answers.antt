use Rattle.lemma_check.proofs.trails.RowTrails.of.Goals as goal

pub returns-in-P-clause-noted : goal.returns-in-P-clause-noted
returns-in-P-clause-noted g c = record { p = c.trails_of.ensures.noted; n = c.requires.noted.n }

pub returns-in-N-clause-noted : goal.returns-in-N-clause-noted
returns-in-N-clause-noted g c = record { p = c.requires.noted.p; n = c.trails_of-in-N.ensures.noted }
