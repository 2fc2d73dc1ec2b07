use Rattle.std.proofs.Common.{arith}
use Rattle.std.proofs.lemmas.Grind.{common_steps}
use Rattle.net_extract.specs.Ties.{tap_of}
use Rattle.net_extract.proofs.Labelling.{filter_map_push}
use Rattle.net_extract.proofs.body.taps.Goals as goal

pub loop-wire-preserved : goal.loop-wire-preserved
loop-wire-preserved c = grind (arith, common_steps, filter_map_push (tap_of c.args.shapes.now c.args.wells.now))
