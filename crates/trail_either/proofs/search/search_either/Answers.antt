use Rattle.std.proofs.Common.{inl, sym, ◌∙◌}
use Rattle.trail_either.proofs.Ended.{none_uneven, some_uneven}
use Rattle.trail_either.proofs.search.search_either.Goals as goal

pub search_filled-requires-clause-longer : goal.search_filled-requires-clause-longer
search_filled-requires-clause-longer c =
    inl (none_uneven c.args.fingers.now (sym c.has_half_columns.ensures ∙ c.if-not-has_half_columns.true))

pub search_pools-requires-clause-next : goal.search_pools-requires-clause-next
search_pools-requires-clause-next c =
    some_uneven c.args.fingers.now (sym c.has_half_columns.ensures ∙ c.if-not-has_half_columns.false)
