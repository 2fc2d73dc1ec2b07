use Rattle.std.proofs.lemmas.List.Filters.{dedup_is}
use Rattle.box_geom.proofs.Sorting.{cuts_of}
use Rattle.box_geom.proofs.cuts.once_each.Goals as goal

pub returns : goal.returns
returns c = let is = dedup_is _ _ _ c.dedup.ensures.filtered in rw is (cuts_of c.args.values.items c.sort_unstable.new.self.items c.sort_unstable.ensures.permutation c.sort_unstable.ensures.sorted)
