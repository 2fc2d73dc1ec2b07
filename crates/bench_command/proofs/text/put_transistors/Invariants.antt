use Rattle.std.proofs.Common.{◌≡◌, ◌++◌, drop}
use Rattle.std.specs.List.{enumerate_from, flat_map}
use Rattle.bench_command.specs.Text.{transistor_text}
use Rattle.bench_command.proofs.text.put_transistors.Given as goal

abbrev pub invariant-transistors : goal.invariant-transistors
invariant-transistors l =
    l.out ++ flat_map transistor_text (enumerate_from l.number (drop l.number l.transistors))
    ≡ l.fn.out ++ flat_map transistor_text (enumerate_from 0 l.transistors)
