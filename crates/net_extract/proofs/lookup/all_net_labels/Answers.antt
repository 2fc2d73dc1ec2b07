use Rattle.std.proofs.Common.{arith}
use Rattle.std.proofs.lemmas.Grind.{common_steps}
use Rattle.net_extract.specs.Lookups.{net_label_of}
use Rattle.net_extract.proofs.Labelling.{filter_map_push}
use Rattle.net_extract.proofs.lookup.all_net_labels.Goals as goal

pub loop-label-preserved : goal.loop-label-preserved
loop-label-preserved c = grind (arith, common_steps, filter_map_push (net_label_of c.args.wires.now))
