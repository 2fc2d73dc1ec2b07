use Rattle.std.proofs.Common.{◌≡◌, ◌++◌, ◌∷◌, [], drop, flat_map}
use Rattle.cell_draw.specs.Shapes.{finger}
use Rattle.cell_draw.proofs.groups.add_fingers.Given as goal

abbrev pub invariant-loop-strip : goal.invariant-loop-strip
invariant-loop-strip l = l.out ++ flat_map (λ s. finger l.frame s ∷ []) (drop l.strip-index l.strips) ≡ l.fn.out ++ flat_map (λ s. finger l.frame s ∷ []) l.strips
