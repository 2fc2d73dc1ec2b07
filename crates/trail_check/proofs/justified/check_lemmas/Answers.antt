use Rattle.std.proofs.Common.{◌≡◌, ◌≤◌, [], None, ap, arith, length, subst, sym, take, ◌∙◌}
use Rattle.std.proofs.lemmas.List.{take_all}
use Rattle.trail_state.specs.Levels.{Ends}
use Rattle.trail_check.specs.Justified.{ends_proved, unproved}
use Rattle.trail_check.specs.Listed.{lemmas_listed}
use Rattle.trail_check.proofs.Lines.{all_proved}
use Rattle.trail_check.proofs.Sound.{ends_true}
use Rattle.trail_check.proofs.justified.check_lemmas.Goals as goal

pub returns-clause-true_of : goal.returns-clause-true_of
returns-clause-true_of c =
    let past : length c.args.lines.now ≤ c.loop-listed.listed-index = omega (arith, c.loop-listed-test.false) in
    let proved : unproved c.args.levels.now [] 5 (lemmas_listed c.args.levels.now c.args.lines.now) ≡ None =
    all_proved c.args.levels.now c.loop-listed.known c.loop-listed.line c.args.lines.now c.loop-listed.listed-index (unproved c.args.levels.now [] 5 (lemmas_listed c.args.levels.now c.args.lines.now)) c.loop-listed.invariant.3 past in
    let whole : take c.loop-listed.listed-index c.args.lines.now ≡ c.args.lines.now = take_all c.loop-listed.listed-index c.args.lines.now past in
    let ends : c.ends_proved.result ≡ ends_proved (lemmas_listed c.args.levels.now c.args.lines.now) =
    c.ends_proved.ensures
    ∙ ap ends_proved (c.as_slice-2.ensures ∙ c.loop-listed.invariant.2 ∙ ap (lemmas_listed c.args.levels.now) whole) in
    subst (Ends c.args.levels.now []) (sym ends) (ends_true c.args.levels.now (lemmas_listed c.args.levels.now c.args.lines.now) 5 proved)
