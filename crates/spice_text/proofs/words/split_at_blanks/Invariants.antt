use Rattle.std.proofs.Common.{◌≡◌, ◌==◌, not, map, filter, length, take}
use Rattle.cell_num.specs.Names.{lowered}
use Rattle.spice_text.proofs.words.split_at_blanks.Given as goal

abbrev pub invariant-loop-word : goal.invariant-loop-word
invariant-loop-word l = l.names ≡ map lowered (filter (λ w. not (length w == 0)) (map (λ w. w.now) (take l.word-index l.word-items)))
