use Rattle.std.proofs.lemmas.List.Filters.{dedup_is}
use Rattle.gds_area.proofs.path.thin.Goals as goal

pub returns : goal.returns
returns c = dedup_is _ _ _ c.dedup.ensures.filtered
