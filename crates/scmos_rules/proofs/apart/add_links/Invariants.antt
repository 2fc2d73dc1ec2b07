use Rattle.std.proofs.Common.{◌≡◌, ◌++◌, take}
use Rattle.std.specs.List.{flat_map}
use Rattle.scmos_rules.specs.Apart.{link_of}
use Rattle.scmos_rules.proofs.apart.add_links.Given as goal

abbrev pub invariant-loop-other : goal.invariant-loop-other
invariant-loop-other l = l.links.items ≡ l.fn.links.items ++ flat_map (link_of l.part) (take l.other-index l.near)
