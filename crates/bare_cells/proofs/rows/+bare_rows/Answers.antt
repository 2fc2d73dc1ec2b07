use Rattle.std.proofs.Common.{rules, ◌<◌, ◌-ℤ◌, unsigned_abs, subst, sym, ◌∙◌}
use Rattle.bare_cells.specs.Rows.{AreRowsOf}
use Rattle.bare_cells.proofs.Stretches.{alike_answer, joined_answer, narrower_left, narrower_right, part_blocks, room, wide_left, wide_right}
use Rattle.bare_cells.proofs.rows.+bare_rows.Goals as goal

pub rows_of-requires : goal.rows_of-requires
rows_of-requires t c = part_blocks c.args.columns.now c.args.first.now c.as_slice-some.result.now (c.as_slice-some.ensures.value ∙ c.in_ok-first_parts.ensures) c.requires.first

pub returns-then-is_empty : goal.returns-then-is_empty
returns-then-is_empty t c = alike_answer c.args.columns.now c.args.first.now c.args.second.now c.as_slice-more.result.now c.in_ok-filled.filled c.in_ok-partly.partly c.in_ok-closed.closed c.requires.columns c.requires.first (c.as_slice-more.ensures.value ∙ c.in_ok-second_parts.ensures) (sym c.is_empty.ensures ∙ c.if-is_empty.true) c.in_ok-filled.ensures (subst (λ rs. AreRowsOf rs c.in_ok-partly.partly) (c.as_slice-some.ensures.value ∙ c.in_ok-first_parts.ensures) c.in_ok-partly.ensures) c.in_ok-closed.ensures c.alike.result c.alike.ensures

pub halves-requires : goal.halves-requires
halves-requires t c = room c.args.columns.now c.args.second.now c.as_slice-more.result.now (c.as_slice-more.ensures.value ∙ c.in_ok-second_parts.ensures) (sym c.is_empty.ensures ∙ c.if-is_empty.false)

pub bare_rows-requires : goal.bare_rows-requires
bare_rows-requires t c =
    let less : unsigned_abs (c.halves.result.0.x2 -ℤ c.halves.result.0.x1) < unsigned_abs (c.args.columns.now.x2 -ℤ c.args.columns.now.x1) = narrower_left c.args.columns.now c.halves.result.0 c.halves.result.1 c.halves.ensures in (
      search rules,
      (
        wide_left c.args.columns.now c.halves.result.0 c.halves.result.1 c.halves.ensures,
        (
          part_blocks c.args.columns.now c.args.first.now c.as_slice-some.result.now (c.as_slice-some.ensures.value ∙ c.in_ok-first_parts.ensures) c.requires.first,
          part_blocks c.args.columns.now c.args.second.now c.as_slice-more.result.now (c.as_slice-more.ensures.value ∙ c.in_ok-second_parts.ensures) c.requires.second,
        ),
      ),
    )

pub bare_rows-requires-2 : goal.bare_rows-requires-2
bare_rows-requires-2 t c =
    let less : unsigned_abs (c.halves.result.1.x2 -ℤ c.halves.result.1.x1) < unsigned_abs (c.args.columns.now.x2 -ℤ c.args.columns.now.x1) = narrower_right c.args.columns.now c.halves.result.0 c.halves.result.1 c.halves.ensures in (
      search rules,
      (
        wide_right c.args.columns.now c.halves.result.0 c.halves.result.1 c.halves.ensures,
        (
          part_blocks c.args.columns.now c.args.first.now c.as_slice-some.result.now (c.as_slice-some.ensures.value ∙ c.in_ok-first_parts.ensures) c.requires.first,
          part_blocks c.args.columns.now c.args.second.now c.as_slice-more.result.now (c.as_slice-more.ensures.value ∙ c.in_ok-second_parts.ensures) c.requires.second,
        ),
      ),
    )

pub returns : goal.returns
returns t c = joined_answer c.args.columns.now c.halves.result.0 c.halves.result.1 c.args.first.now c.args.second.now c.as_slice-some.result.now c.as_slice-more.result.now c.in_ok-filled.filled c.in_ok-closed.closed c.in_ok-left.left c.in_ok-right.right c.halves.ensures (c.as_slice-some.ensures.value ∙ c.in_ok-first_parts.ensures) (c.as_slice-more.ensures.value ∙ c.in_ok-second_parts.ensures) c.in_ok-filled.ensures c.in_ok-closed.ensures c.in_ok-left.ensures c.in_ok-right.ensures c.joined.result c.joined.ensures
