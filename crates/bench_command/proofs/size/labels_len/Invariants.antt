use Rattle.std.proofs.Common.{◌≡◌, ◌≤◌, ◌*◌, take}
use Rattle.bench_command.specs.Size.{labels_size}
use Rattle.bench_command.proofs.size.labels_len.Given as goal

abbrev pub invariant-loop-label : goal.invariant-loop-label
invariant-loop-label l = (l.bytes ≡ labels_size (take l.label-index l.labels)) × (l.bytes ≤ 101 * l.label-index)
