use Rattle.std.proofs.Common.{◌≡◌, map, take}
use Rattle.tech_file.proofs.words.copies.Given as goal

abbrev pub invariant-texts : goal.invariant-texts
invariant-texts l = l.names ≡ map (λ text. text.now) (take l.text-index l.texts)
