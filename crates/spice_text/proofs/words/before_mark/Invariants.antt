use Rattle.std.proofs.Common.{◌≡◌, ◌++◌, take, drop, true}
use Rattle.spice_text.specs.Physical.{without_comment}
use Rattle.spice_text.proofs.words.before_mark.Given as goal

abbrev pub invariant-loop-at : goal.invariant-loop-at
invariant-loop-at l = take l.at l.line ++ without_comment l.after_blank (drop l.at l.line) ≡ without_comment true l.line
