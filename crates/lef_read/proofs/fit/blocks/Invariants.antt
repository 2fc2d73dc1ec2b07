use Rattle.std.proofs.Common.{◌≡◌, ◌∷◌, map, take}
use Rattle.std.specs.List.{All}
use Rattle.box_geom.specs.Regions.{IsBlock}
use Rattle.lef_read.specs.declared.claim.Claim.{Claim}
use Rattle.lef_read.proofs.fit.blocks.Given as goal

abbrev pub invariant-loop-claim : goal.invariant-loop-claim
invariant-loop-claim l = (l.blocks.items ≡ map (λ (c : Claim). c.block) (l.first ∷ take l.claim-index l.more)) × All IsBlock l.blocks.items
