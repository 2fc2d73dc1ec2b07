use Rattle.std.proofs.Common.{◌≡◌, take}
use Rattle.net_extract.specs.Links.{links_in}
use Rattle.net_extract.proofs.conductor.all_links.Given as goal

abbrev pub invariant-loop-shape : goal.invariant-loop-shape
invariant-loop-shape l = l.out ≡ links_in (take l.shape-index l.shapes)
