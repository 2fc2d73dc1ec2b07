use Rattle.std.proofs.Common.{◌≡◌, ◌≤◌, ◌+◌, ◌*◌, drop}
use Rattle.gds_area.specs.Progress.{amount}
use Rattle.gds_read.specs.Flat.{row_in, copies_in, listed_in}
use Rattle.gds_read.proofs.Drawings.{with_front}
use Rattle.gds_read.proofs.Listed.{listed_behind}
use Rattle.gds_read.proofs.Copied.{row_behind, rows_behind}
use Rattle.gds_read.proofs.flat.+references.Given as goal

abbrev pub decreases-add_copies : goal.decreases-add_copies
decreases-add_copies l = 8 * l.context.now.levels + 3

abbrev pub decreases-add_copy : goal.decreases-add_copy
decreases-add_copy l = 8 * l.context.now.levels

abbrev pub decreases-add_element : goal.decreases-add_element
decreases-add_element l = 8 * l.context.now.levels + 5

abbrev pub decreases-add_elements : goal.decreases-add_elements
decreases-add_elements l = 8 * l.context.now.levels + 7

abbrev pub decreases-add_record : goal.decreases-add_record
decreases-add_record l = 8 * l.context.now.levels + 6

abbrev pub decreases-add_reference : goal.decreases-add_reference
decreases-add_reference l = 8 * l.context.now.levels + 4

abbrev pub decreases-add_row : goal.decreases-add_row
decreases-add_row l = 8 * l.context.now.levels + 2

abbrev pub invariant-add_copies-loop-row : goal.invariant-add_copies-loop-row
invariant-add_copies-loop-row l = (amount l.progress ≤ 1000000) × (rows_behind l.bytes l.context l.origin l.copies l.row l.progress ≡ with_front l.fn.progress (copies_in l.bytes l.context l.origin l.copies (amount l.fn.progress)))

abbrev pub invariant-add_elements-loop-place : goal.invariant-add_elements-loop-place
invariant-add_elements-loop-place l = (amount l.progress ≤ 1000000) × (listed_behind l.bytes l.context l.progress (drop l.place-index l.places) ≡ with_front l.fn.progress (listed_in l.bytes l.context (amount l.fn.progress) l.places))

abbrev pub invariant-add_row-loop-column : goal.invariant-add_row-loop-column
invariant-add_row-loop-column l = (amount l.progress ≤ 1000000) × (row_behind l.bytes l.context l.origin l.copies l.row l.column l.progress ≡ with_front l.fn.progress (row_in l.bytes l.context l.origin l.copies (amount l.fn.progress) l.row))
