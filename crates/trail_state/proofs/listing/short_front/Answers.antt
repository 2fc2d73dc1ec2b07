use Rattle.std.proofs.Common.{rules, ◌≡◌, ◌<◌, ◌+◌, true, subst}
use Rattle.trail_state.specs.Fronts.{columns_in, front_at, is_long_at}
use Rattle.trail_state.specs.Known.{AreKnown, parts_of}
use Rattle.trail_state.proofs.Fronts.{not_long, one_column_more, one_later}
use Rattle.trail_state.proofs.Parts.{long_none, long_some}
use Rattle.trail_state.proofs.listing.short_front.Goals as goal

pub returns-in-None-clause-long : goal.returns-in-None-clause-long
returns-in-None-clause-long c =
    let within : c.loop-at.at < columns_in c.args.gate.now = search rules in
    let on : is_long_at c.args.most c.args.gate.now c.loop-at.at ≡ true = search rules in
    long_some (is_long_at c.args.most c.args.gate.now) (columns_in c.args.gate.now) c.loop-at.at within on

pub loop-at-preserved : goal.loop-at-preserved
loop-at-preserved c =
    let is : parts_of c.in-Some.next.keys ≡ front_at c.args.gate.now (c.loop-at.at + 1) =
    one_column_more c.args.gate.now c.loop-at.at c.behind-xs.result.now (parts_of c.loop-at.front.keys) (parts_of c.in-Some.next.keys) (search rules) (search rules) (search rules) in (
      is,
      λ on. subst (λ xs. AreKnown c.args.gate.now xs c.in-Some.next.keys) (one_later c.loop-at.at c.args.gate.now.p) (search rules),
      long_none (is_long_at c.args.most c.args.gate.now) c.loop-at.at c.loop-at.invariant.2 (not_long c.args.gate.now c.args.most c.loop-at.at c.in-Some.next.keys is (search rules)),
    )
