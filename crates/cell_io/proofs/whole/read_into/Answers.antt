use Rattle.std.proofs.Common.{◌≡◌, ◌≢◌, ◌≤◌, ◌+◌, IfSome, arith, rules, subst}
use Rattle.cell_io.specs.Desk.{ReadsPart, View, told}
use Rattle.cell_io.proofs.Fronts.{may_more, took_all, took_more, took_some}
use Rattle.cell_io.proofs.whole.read_into.Goals as goal

pub pass_more-requires-clause-may : goal.pass_more-requires-clause-may
pass_more-requires-clause-may g c =
    may_more g.S.Sink.took g.S.Sink.may c.args.sink.now c.parts.sink c.parts.at c.args.most (told (g.D.Desk.view c.args.desk.now).given c.args.name.now)
    (g.met.S.Sink.left c.args.sink.now c.parts.sink) c.requires c.parts.invariant.0 c.parts.invariant.2

pub returns-then-count-eq0-clause-file : goal.returns-then-count-eq0-clause-file
returns-then-count-eq0-clause-file g c =
    let file = told (g.D.Desk.view c.args.desk.now).given c.args.name.now in
    let read : IfSome file (λ f. ReadsPart f c.parts.at c.pass_more.new.part c.in_ok-count.count) = subst (λ (v : View). IfSome (told v.given c.args.name.now) (λ f. ReadsPart f c.parts.at c.pass_more.new.part c.in_ok-count.count)) c.parts.invariant.3 c.in_ok-count.ensures.bytes in
    let none : c.in_ok-count.count ≡ 0 = search rules in
    let within : c.parts.at + c.in_ok-count.count ≤ c.args.most = omega (arith, c.in_ok-count.ensures.within, c.parts.invariant.0) in
    took_all (λ bytes. g.S.Sink.took c.args.sink.now bytes c.pass_more.new.sink) (c.parts.at + c.in_ok-count.count) c.in_ok-count.count c.args.most file none within
    (took_more g.S.Sink.took c.args.sink.now c.parts.sink c.pass_more.new.sink c.parts.at c.in_ok-count.count c.pass_more.new.part file (g.met.S.Sink.more c.args.sink.now c.parts.sink c.pass_more.new.sink) c.in_ok-count.ensures.part.1 c.in_ok-count.ensures.part.0 c.parts.invariant.2 c.in_ok-count.ensures.sink read)

pub parts-preserved : goal.parts-preserved
parts-preserved g c =
    let file = told (g.D.Desk.view c.args.desk.now).given c.args.name.now in
    let read : IfSome file (λ f. ReadsPart f c.parts.at c.pass_more.new.part c.in_ok-count.count) = subst (λ (v : View). IfSome (told v.given c.args.name.now) (λ f. ReadsPart f c.parts.at c.pass_more.new.part c.in_ok-count.count)) c.parts.invariant.3 c.in_ok-count.ensures.bytes in
    let some : c.in_ok-count.count ≢ 0 = search rules in
    let within : c.parts.at + c.in_ok-count.count ≤ c.args.most = omega (arith, c.in_ok-count.ensures.within, c.parts.invariant.0) in (
      within,
      search rules,
      took_some (λ bytes. g.S.Sink.took c.args.sink.now bytes c.pass_more.new.sink) (c.parts.at + c.in_ok-count.count) c.in_ok-count.count file some
          (took_more g.S.Sink.took c.args.sink.now c.parts.sink c.pass_more.new.sink c.parts.at c.in_ok-count.count c.pass_more.new.part file (g.met.S.Sink.more c.args.sink.now c.parts.sink c.pass_more.new.sink) c.in_ok-count.ensures.part.1 c.in_ok-count.ensures.part.0 c.parts.invariant.2 c.in_ok-count.ensures.sink read),
      search rules,
    )
