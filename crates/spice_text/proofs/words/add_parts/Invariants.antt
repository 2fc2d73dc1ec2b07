use Rattle.std.proofs.Common.{◌≡◌, ◌∷◌, map, take}
use Rattle.std.specs.List.{join_with_byte}
use Rattle.spice_text.specs.Words.{trimmed}
use Rattle.spice_text.proofs.words.add_parts.Given as goal

abbrev pub invariant-loop-part : goal.invariant-loop-part
invariant-loop-part l = l.out ≡ join_with_byte 61 (l.initial.out ∷ map trimmed (map (λ w. w.now) (take l.part-index l.parts)))
