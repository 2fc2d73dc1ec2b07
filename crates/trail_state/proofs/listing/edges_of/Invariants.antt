use Rattle.std.proofs.Common.{◌≡◌, take}
use Rattle.trail_state.specs.Fronts.{edges_of}
use Rattle.trail_state.specs.Known.{parts_of}
use Rattle.trail_state.proofs.listing.edges_of.Given as goal

abbrev pub invariant-loop-reached : goal.invariant-loop-reached
invariant-loop-reached l = l.choices ≡ edges_of (parts_of (take l.reached-index l.all))
