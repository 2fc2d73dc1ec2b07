use Rattle.std.proofs.Common.{rules, subst, sym, take}
use Rattle.std.proofs.lemmas.List.{take_all}
use Rattle.std.proofs.lemmas.List.Elements.{All-more, All-same}
use Rattle.box_geom.specs.Rectangle.{IsRectangle}
use Rattle.box_geom.proofs.Limits.{within_limits}
use Rattle.box_geom.proofs.shape.show_all_limits.Goals as goal

pub loop-shape-preserved : goal.loop-shape-preserved
loop-shape-preserved c = All-more (λ s. IsRectangle s.rect) c.args.shapes.now c.loop-shape.shape-index c.shape-item.result (search rules) c.loop-shape.invariant (subst (λ s. IsRectangle s.rect) c.shape-item.is c.show_limits.ensures)

pub returns : goal.returns
returns c = within_limits c.args.shapes.now (All-same (λ s. IsRectangle s.rect) c.args.shapes.now (take c.loop-shape.shape-index c.args.shapes.now) (sym (take_all c.loop-shape.shape-index c.args.shapes.now (search rules))) c.loop-shape.invariant)
