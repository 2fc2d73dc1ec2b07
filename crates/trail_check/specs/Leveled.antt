-- The gates that a certificate leaves open, and the levels of its order: these alone are its levels.
use Rattle.std.specs.Prelude.{List}
use Rattle.cell_num.specs.declared.net.NetNo.{NetNo}
use Rattle.cell_num.specs.declared.finger.Fingers.{Fingers}
use Rattle.trail_state.specs.declared.level.Level.{Level}
use Rattle.open_gates.specs.declared.gates.OpenGates.{OpenGates}
use Rattle.open_gates.specs.Leveled.{levels_in}
use Rattle.open_gates.specs.Open.{closed_in, open_in}
use Rattle.trail_log.specs.declared.trails.TrailCertificate.{TrailCertificate}

-- the gates with half columns that are not filled
abbrev pub open_of : Fingers → TrailCertificate → OpenGates
open_of f trails = open_in f trails.fill trails.order

-- the other gates of the order
abbrev pub closed_of : Fingers → TrailCertificate → List NetNo
closed_of f trails = closed_in f trails.fill trails.order

abbrev pub levels_for : Fingers → TrailCertificate → List Level
levels_for f trails = levels_in f (open_of f trails) trails.order
