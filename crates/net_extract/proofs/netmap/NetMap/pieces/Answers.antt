use Rattle.std.proofs.Common.{sym, subst, ap, ◌∙◌}
use Rattle.std.specs.List.{All}
use Rattle.box_geom.specs.Regions.{IsBlock}
use Rattle.net_extract.specs.NetMaps.{AreCellsOf, blocks_of}
use Rattle.net_extract.proofs.Extracting.{if_ok}
use Rattle.net_extract.proofs.NetMaps.{blocks_are, are_cells}
use Rattle.net_extract.proofs.netmap.NetMap.pieces.Goals as goal

pub returns-clause-blocks : goal.returns-clause-blocks
returns-clause-blocks c = if_ok _ _ c.blocks_of.result (λ bs is. subst (All IsBlock) (sym (is ∙ ap (blocks_of c.args.net c.args.layer) c.as_slice.ensures.value)) (blocks_are c.self.inside.pieces.items c.self.invariant.0 c.args.net c.args.layer)) c.blocks_of.ensures

pub returns-clause-cells : goal.returns-clause-cells
returns-clause-cells c = if_ok _ _ c.blocks_of.result (λ bs is. subst (λ m. AreCellsOf m c.args.net c.args.layer bs.items) c.self.view_is (are_cells (record { pieces = c.self.inside.pieces.items; labels = c.self.inside.labels.items; names = c.self.inside.names }) c.self.invariant.0 c.args.net c.args.layer bs.items (is ∙ ap (blocks_of c.args.net c.args.layer) c.as_slice.ensures.value))) c.blocks_of.ensures
