use Rattle.track_ways.proofs.Legal.{fits, legal_within}
use Rattle.track_ways.proofs.Least.{least, none_less}
use Rattle.track_ways.proofs.line_laws.legal_by_lines.Goals as goal

pub returns-clause-fits : goal.returns-clause-fits
returns-clause-fits c = λ p pins lines track trunks limit h a legal. fits p pins lines h track trunks limit a legal

pub returns-clause-legal : goal.returns-clause-legal
returns-clause-legal c = λ p pins lines track trunks limit h a f. legal_within p pins lines h track trunks limit a f

pub returns-clause-full : goal.returns-clause-full
returns-clause-full c = λ p pins lines track trunks limit h a f none. least p pins lines h track trunks limit a f none

pub returns-clause-least : goal.returns-clause-least
returns-clause-least c = λ p pins lines limit h none r l. none_less p pins lines h limit none r l
