use Rattle.std.proofs.Common.{◌≡◌, take}
use Rattle.std.specs.List.{All}
use Rattle.lef_read.specs.Agreement.{ports_of}
use Rattle.lef_read.specs.Lookups.{ports_shown, IsClaim}
use Rattle.lef_read.proofs.claim.claims.Given as goal

abbrev pub invariant-loop-pin : goal.invariant-loop-pin
invariant-loop-pin l =
    (ports_shown l.map l.claims.items ≡ ports_of (take l.pin-index l.pins))
    × All (IsClaim l.map) l.claims.items
