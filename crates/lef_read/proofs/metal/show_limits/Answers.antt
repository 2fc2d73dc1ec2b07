use Rattle.std.proofs.Common.{rules, subst, sym, take}
use Rattle.std.proofs.lemmas.List.{take_all}
use Rattle.std.proofs.lemmas.List.Elements.{All-more, All-same}
use Rattle.lef_read.specs.Lookups.{HasLimits}
use Rattle.lef_read.proofs.metal.show_limits.Goals as goal

pub loop-rect-preserved : goal.loop-rect-preserved
loop-rect-preserved c = All-more HasLimits c.args.rects.now c.loop-rect.rect-index c.rect-item.result (search rules) c.loop-rect.invariant (subst HasLimits c.rect-item.is c.show_limits.ensures)

pub returns : goal.returns
returns c = All-same HasLimits c.args.rects.now (take c.loop-rect.rect-index c.args.rects.now) (sym (take_all c.loop-rect.rect-index c.args.rects.now (search rules))) c.loop-rect.invariant
