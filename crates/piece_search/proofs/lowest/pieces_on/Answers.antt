use Rattle.piece_search.proofs.lowest.pieces_on.Goals as goal

pub unreachable-requires : goal.unreachable-requires
unreachable-requires c = c.requires.some (c.in-Err-None.ensures.none c.in-Err-None.field-0-is)
