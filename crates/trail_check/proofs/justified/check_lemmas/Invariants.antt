use Rattle.std.proofs.Common.{◌≡◌, ◌+◌, []}
use Rattle.std.specs.Prelude.{drop, take}
use Rattle.trail_check.specs.Indexed.{IsIndexOf}
use Rattle.trail_check.specs.Justified.{unproved}
use Rattle.trail_check.specs.Listed.{lemmas_listed}
use Rattle.trail_check.proofs.justified.check_lemmas.Given as goal

abbrev pub invariant-loop-listed : goal.invariant-loop-listed
invariant-loop-listed l =
    IsIndexOf l.known l.index
    × (l.line ≡ l.listed-index + 5)
    × (l.known ≡ lemmas_listed l.levels (take l.listed-index l.lines))
    × (unproved l.levels l.known l.line (lemmas_listed l.levels (drop l.listed-index l.lines)) ≡ unproved l.levels [] 5 (lemmas_listed l.levels l.lines))
