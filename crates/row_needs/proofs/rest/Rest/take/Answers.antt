use Rattle.std.proofs.Common.{arith, ◌≡◌}
use Rattle.row_needs.proofs.Rests.{takes_same}
use Rattle.row_needs.proofs.rest.Rest.take.Goals as goal

pub returns : goal.returns
returns c =
    let same : c.args.gaps ≡ c.args.self.now.gaps = omega (arith, c.if-gaps-self-2.false) in
    takes_same c.args.self.now c.add.new.self c.args.gaps c.args.ends same c.in_ok-add.ensures.gaps c.in_ok-add.ensures.here c.in_ok-add.ensures.kept c.in_ok-add.ensures.only
