use Rattle.std.proofs.Common.{◌≡◌, take}
use Rattle.std.specs.List.{filter}
use Rattle.scmos_rules.specs.Lengths.{is_wrong}
use Rattle.scmos_rules.proofs.runs.wrong_blocks.Given as goal

abbrev pub invariant-loop-block : goal.invariant-loop-block
invariant-loop-block l = l.out.items ≡ filter (is_wrong l.measure l.value) (take l.block-index l.blocks)
