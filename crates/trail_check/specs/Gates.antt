-- What is asked of the gates of a certificate before its lemmas are looked at.
use Rattle.std.specs.Prelude.{◌≡◌, Bool, List, Option, None, find}
use Rattle.cell_num.specs.declared.net.NetNo.{NetNo}
use Rattle.cell_num.specs.declared.finger.Fingers.{Fingers}
use Rattle.trail_log.specs.declared.trails.TrailCertificate.{TrailCertificate}
use Rattle.trail_state.specs.Levels.{IsOrder}
use Rattle.trail_state.specs.Pairings.{has_long_front}
use Rattle.open_gates.specs.Open.{AreOpenGates}
use Rattle.trail_check.specs.Leveled.{closed_of, open_of}

-- The order has each gate of a finger once. Each gate with half columns is filled, or left open; those that are left
-- open all have more fingers in one row. Other nets may be listed as filled too: there is nothing to fill at them.
pub record AreGates (f : Fingers) (trails : TrailCertificate) : Type 0 where
  pub order : IsOrder f trails.order
  pub opened : AreOpenGates f (open_of f trails)

-- after some column of the gate there are more different ways to pair its fingers so far than a checker lists
abbrev pub has_many_ways : Fingers → NetNo → Bool
has_many_ways f gate = has_long_front 65536 f gate.0

abbrev pub first_with_many : Fingers → List NetNo → Option NetNo
first_with_many f order = find (has_many_ways f) order

-- No gate has too many ways for a checker to list; those of a gate that is left open are not listed. What a
-- certificate proves does not depend on this.
abbrev pub HasFewWays : Fingers → TrailCertificate → Type 0
HasFewWays f trails = first_with_many f (closed_of f trails) ≡ None
