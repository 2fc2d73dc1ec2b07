use Rattle.std.proofs.Common.{◌≡◌, ◌+◌, ◌≤◌, ◌++◌, length, take}
use Rattle.bound_log.specs.Text.{more_counts_text}
use Rattle.bound_log.proofs.spell.put_more_counts.Given as goal

abbrev pub invariant-loop-count : goal.invariant-loop-count
invariant-loop-count g l =
    (g.O.Out.text l.out ≡ g.O.Out.text l.fn.out ++ more_counts_text (take l.count-index l.counts))
    × (g.O.Out.room l.fn.out ≤ g.O.Out.room l.out + length (more_counts_text (take l.count-index l.counts)))
