use Rattle.std.proofs.Common.{◌≡◌, map, take, string_bytes}
use Rattle.cell_num.specs.Names.{lowered}
use Rattle.call_words.proofs.row.lower_all.Given as goal

abbrev pub invariant-loop-word : goal.invariant-loop-word
invariant-loop-word l = l.names ≡ map (λ word. lowered (string_bytes word)) (take l.word-index l.words)
