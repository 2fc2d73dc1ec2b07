use Rattle.std.proofs.Common.{refl}
use Rattle.net_extract.specs.Extraction.{IsDrawn}
use Rattle.net_extract.specs.Connections.{firsts_of}
use Rattle.net_extract.specs.Pieces.{rect_of}
use Rattle.net_extract.specs.Sides.{IsAlong}
use Rattle.net_extract.proofs.Siding.{along_drawn, no_device, if_some}
use Rattle.net_extract.proofs.device.device_in_row.Goals as goal
use Rattle.net_extract.specs.declared.side.Current.TheVariants.{Rightward, Upward}

pub returns-in-Some-clause-some : goal.returns-in-Some-clause-some
returns-in-Some-clause-some c = along_drawn c.args.map.now.deck c.args.shapes.now (firsts_of c.args.map.now.firsts.items) (rect_of c.args.gate.now) c.args.row Rightward c.in-Some.device c.requires.gate c.requires.row c.in-Some.ensures.some

pub returns-in-None-clause-some : goal.returns-in-None-clause-some
returns-in-None-clause-some c = if_some (IsAlong c.args.map.now.deck c.args.shapes.now (firsts_of c.args.map.now.firsts.items) (rect_of c.args.gate.now) c.args.row Upward) (IsDrawn c.args.map.now.deck c.args.shapes.now (firsts_of c.args.map.now.firsts.items) (rect_of c.args.gate.now)) c.device_along-in-None.result (λ d a. along_drawn c.args.map.now.deck c.args.shapes.now (firsts_of c.args.map.now.firsts.items) (rect_of c.args.gate.now) c.args.row Upward d c.requires.gate c.requires.row a) c.device_along-in-None.ensures.some

pub returns-in-None-clause-none : goal.returns-in-None-clause-none
returns-in-None-clause-none c = λ e. no_device c.args.map.now.deck c.args.shapes.now (rect_of c.args.gate.now) c.args.row c.requires.gate.proper c.requires.row (c.in-None.ensures.none refl) (c.device_along-in-None.ensures.none e)
