use Rattle.std.proofs.Common.{◌≡◌, ◌≤◌, length}
use Rattle.lef_read.specs.Reading.{At, InBlock, read}
use Rattle.lef_read.specs.Drafts.{block_shown, outcome}
use Rattle.lef_read.specs.declared.block_kind.Current.TheVariants.{NoLayer}
use Rattle.lef_read.proofs.block.block.Given as goal

abbrev pub invariant-statements : goal.invariant-statements
invariant-statements l = (outcome l.fn.draft (read (At (InBlock (block_shown l.block) NoLayer)) l.fn.cursor) ≡ outcome l.draft (read (At (InBlock (block_shown l.block) l.current)) l.cursor)) × (length l.cursor ≤ length l.fn.cursor)

abbrev pub decreases-statements : goal.decreases-statements
decreases-statements l = length l.cursor
