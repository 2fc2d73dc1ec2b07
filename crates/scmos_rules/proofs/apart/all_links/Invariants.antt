use Rattle.std.proofs.Common.{◌≡◌, ◌++◌, length}
use Rattle.scmos_rules.specs.Apart.{link_of}
use Rattle.scmos_rules.specs.Near.{near_over}
use Rattle.scmos_rules.proofs.apart.all_links.Given as goal

abbrev pub invariant-loop-rest : goal.invariant-loop-rest
invariant-loop-rest l = l.links.items ++ near_over 1 link_of l.rest ≡ near_over 1 link_of l.parts

abbrev pub decreases-loop-rest : goal.decreases-loop-rest
decreases-loop-rest l = length l.rest
