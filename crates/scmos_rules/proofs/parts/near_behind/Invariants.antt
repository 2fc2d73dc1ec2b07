use Rattle.std.proofs.Common.{◌≡◌, ◌++◌, drop}
use Rattle.scmos_rules.specs.Near.{near_from}
use Rattle.scmos_rules.proofs.parts.near_behind.Given as goal

abbrev pub invariant-loop-other : goal.invariant-loop-other
invariant-loop-other l = l.near.items ++ near_from l.by l.part (drop l.other-index l.behind) ≡ near_from l.by l.part l.behind
