use Rattle.std.proofs.Common.{◌≡◌, take}
use Rattle.trail_search.proofs.lists.copies.Given as goal

abbrev pub invariant-loop-choice : goal.invariant-loop-choice
invariant-loop-choice l = l.all ≡ take l.choice-index l.choices
