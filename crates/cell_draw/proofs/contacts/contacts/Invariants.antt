use Rattle.std.proofs.Common.{◌≡◌, ◌++◌, drop, filter_map}
use Rattle.cell_draw.specs.Layouts.{contact_of}
use Rattle.cell_draw.proofs.contacts.contacts.Given as goal

abbrev pub invariant-loop-node : goal.invariant-loop-node
invariant-loop-node l = l.contacts ++ filter_map (contact_of l.frame l.pins l.trunks l.xs) (drop l.node-index l.nodes) ≡ filter_map (contact_of l.frame l.pins l.trunks l.xs) l.nodes
