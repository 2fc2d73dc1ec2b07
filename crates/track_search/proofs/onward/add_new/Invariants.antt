use Rattle.std.proofs.Common.{take}
use Rattle.track_search.specs.Visit.{AreAdded, AreFresh}
use Rattle.track_search.proofs.onward.add_new.Given as goal

abbrev pub invariant-loop-way : goal.invariant-loop-way
invariant-loop-way l =
    AreAdded l.known.lemmas.now l.at.state l.left l.found (take l.way-index l.found) l.fn.ways l.ways
    × AreFresh l.known.lemmas.now l.at.state l.left l.ways
