use Rattle.std.proofs.Common.{◌≡◌, ◌++◌, drop}
use Rattle.std.specs.List.{enumerate_from, flat_map}
use Rattle.bench_command.specs.Cells.{stage_transistors, transistors_of}
use Rattle.bench_command.proofs.transistor.transistors.Given as goal

abbrev pub invariant-stages : goal.invariant-stages
invariant-stages l = l.found ++ flat_map stage_transistors (enumerate_from l.place (drop l.place l.stages)) ≡ transistors_of l.stages
