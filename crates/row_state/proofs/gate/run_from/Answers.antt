use Rattle.std.proofs.Common.{◌+◌, arith, refl, subst, sym}
use Rattle.row_state.specs.declared.kind.Kind.{Kind}
use Rattle.row_state.specs.Runs.{GatesFrom}
use Rattle.row_state.proofs.Runs.{all_behind, all_from, ends_here, left_behind, left_from}
use Rattle.row_state.proofs.gate.run_from.Goals as goal

pub loop-at-init : goal.loop-at-init
loop-at-init c = (
  λ i d l. omega (arith, c.requires.from.lower i d l),
  refl,
  refl,
  omega (arith, all_from c.args.kinds.now c.args.gate c.args.from c.requires.from),
  omega (arith, left_from c.args.kinds.now c.args.left.now c.args.gate c.args.from c.requires.from),
)

pub returns-then-kinds-at : goal.returns-then-kinds-at
returns-then-kinds-at c =
    let blank : Kind = record { gate = record { 0 = 0 }; lo = record { 0 = 0 }; hi = record { 0 = 0 }; width = 0; count = 0 } in
    let ends : GatesFrom c.args.kinds.now (c.args.gate + 1) c.loop-at.at = ends_here c.args.kinds.now c.args.gate c.args.from c.loop-at.at blank c.requires.order c.requires.from c.loop-at.auto.at c.loop-at-test.true c.loop-at.invariant.0 c.if-kinds-at.true in
    record {
      begins = subst (GatesFrom c.args.kinds.now c.args.gate) (sym c.loop-at.invariant.1) c.requires.from;
      ends = ends;
      order = omega (arith, c.loop-at.invariant.1, c.loop-at.auto.at);
      all = omega (arith, c.loop-at.invariant.3, all_behind c.args.kinds.now c.args.gate c.loop-at.at ends);
      left = omega (arith, c.loop-at.invariant.4, left_behind c.args.kinds.now c.args.left.now c.args.gate c.loop-at.at ends);
    }
