use Rattle.std.proofs.Common.{◌≡◌, Some, sym, subst}
use Rattle.std.proofs.lemmas.Result.{IfOk-weaker}
use Rattle.cell_num.specs.Fingers.{AreFingers}
use Rattle.fewer_fingers.specs.Fewer.{without}
use Rattle.fewer_fingers.proofs.Counts.{staying_fingers}
use Rattle.fewer_fingers.proofs.fewer.staying.Goals as goal

pub returns-in-Some-clause-fingers : goal.returns-in-Some-clause-fingers
returns-in-Some-clause-fingers c ok =
    IfOk-weaker c.without.result (λ others. others ≡ without c.in-Some.out c.args.fingers.now) AreFingers
    (λ others is. subst AreFingers (sym is) (staying_fingers c.args.fingers.now ok (Some c.in-Some.out)))
    c.without.ensures
