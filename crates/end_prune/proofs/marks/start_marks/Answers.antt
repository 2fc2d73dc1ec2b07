use Rattle.std.proofs.Common.{rules, ◌≡◌, Any, ap, false, length, replicate, subst, ◌∙◌}
use Rattle.end_lemmas.specs.Justified.{Says, SaysAt}
use Rattle.end_prune.proofs.Support.{start_none, start_one}
use Rattle.end_prune.proofs.marks.start_marks.Goals as goal
use Rattle.end_prune.proofs.marks.start_marks.Goals.{in-Some, in_default}

pub returns : goal.returns
returns g c =
    let none : c.in_ok-marks.marks.items ≡ replicate (length c.args.lemmas.now) false = search rules in
    elim c.match-place.branch [
      | in-Some w ↦
          start_one c.args.start.now c.args.ends c.args.lemmas.now c.in_ok-marks.marks.items c.match-place.marks.items
          w.in-Some.at none (ap (λ m. m.items) w.marks-is) c.requires.ends
          (subst (λ n. SaysAt c.args.lemmas.now 0 c.args.start.now n w.in-Some.at) c.from.ensures w.in-Some.ensures)
      | in_default w ↦
          start_none c.args.start.now c.args.ends c.args.lemmas.now c.match-place.marks.items
          (ap (λ m. m.items) w.marks-is ∙ none) c.requires.ends
          (subst (λ n. Any (Says 0 c.args.start.now n) c.args.lemmas.now → ⊥) c.from.ensures w.in_default.ensures)
    ]
