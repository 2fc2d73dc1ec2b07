use Rattle.std.proofs.Common.{◌≡◌, ◌++◌}
use Rattle.std.specs.Prelude.{take}
use Rattle.std.specs.List.{flat_map}
use Rattle.track_log.specs.Text.{cycle_line}
use Rattle.track_log.proofs.write.put_cycles.Given as goal

abbrev pub invariant-loop-lemma : goal.invariant-loop-lemma
invariant-loop-lemma l = l.out ≡ l.fn.out ++ flat_map cycle_line (take l.lemma-index l.lemmas)
