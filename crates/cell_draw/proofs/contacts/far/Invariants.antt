use Rattle.std.proofs.Common.{◌≡◌, drop}
use Rattle.cell_draw.specs.Layouts.{tracks_at, far}
use Rattle.cell_draw.proofs.Wirings.{far_from}
use Rattle.cell_draw.proofs.contacts.far.Given as goal

abbrev pub invariant-loop-trunk : goal.invariant-loop-trunk
invariant-loop-trunk l = far_from l.node.row l.far (tracks_at (drop l.trunk-index l.trunks) l.node.net l.node.line) ≡ far l.trunks l.node
