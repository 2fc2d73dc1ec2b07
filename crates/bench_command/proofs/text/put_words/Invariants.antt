use Rattle.std.proofs.Common.{◌≡◌, ◌++◌, take}
use Rattle.std.specs.List.{flat_map}
use Rattle.bench_command.specs.Text.{word_text}
use Rattle.bench_command.proofs.text.put_words.Given as goal

abbrev pub invariant-loop-net : goal.invariant-loop-net
invariant-loop-net l = l.out ≡ l.fn.out ++ flat_map word_text (take l.net-index l.nets)
