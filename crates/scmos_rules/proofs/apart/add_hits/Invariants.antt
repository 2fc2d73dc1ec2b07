use Rattle.std.proofs.Common.{◌≡◌, ◌++◌, take}
use Rattle.std.specs.List.{flat_map}
use Rattle.scmos_rules.specs.Apart.{hits_of}
use Rattle.scmos_rules.proofs.apart.add_hits.Given as goal

abbrev pub invariant-loop-other : goal.invariant-loop-other
invariant-loop-other l = l.out.items ≡ l.fn.out.items ++ flat_map (hits_of l.by l.labels l.part) (take l.other-index l.near)
