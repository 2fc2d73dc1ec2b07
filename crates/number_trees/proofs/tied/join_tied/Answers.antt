use Rattle.std.proofs.Common.{◌≡◌, ◌+◌, length, arith, refl, sym, subst}
use Rattle.number_trees.proofs.Tying.{AreUnited, none_united, more_united, first_united, united_trees}
use Rattle.number_trees.proofs.tied.join_tied.Goals as goal
use Rattle.number_trees.proofs.tied.join_tied.Goals.{in-Some, in-None}

pub loop-at-init : goal.loop-at-init
loop-at-init c = none_united c.args.parents.now.items c.args.ties.now c.requires.low

pub loop-at-preserved : goal.loop-at-preserved
loop-at-preserved c = elim c.match-tied_before.branch [
  | in-Some w ↦
      let p = w.parents-is in
      let few = c.requires.few in
      let test = c.loop-at-test.true in
      let e : c.match-tied_before.parents.items ≡ w.join.new.parents.items = cc in
      subst (AreUnited (length c.args.parents.now.items) c.args.parents.now.items c.args.ties.now (c.loop-at.at + 1)) (sym e)
      (more_united (length c.args.parents.now.items) c.args.parents.now.items c.loop-at.parents.items w.join.new.parents.items c.args.ties.now c.loop-at.at w.in-Some.earlier (omega arith) w.in-Some.ensures.earlier w.in-Some.ensures.tied c.loop-at.invariant w.join.ensures)
  | in-None w ↦
      let p = w.parents-is in
      let e : c.match-tied_before.parents.items ≡ c.loop-at.parents.items = cc in
      subst (AreUnited (length c.args.parents.now.items) c.args.parents.now.items c.args.ties.now (c.loop-at.at + 1)) (sym e)
      (first_united (length c.args.parents.now.items) c.args.parents.now.items c.loop-at.parents.items c.args.ties.now c.loop-at.at (w.in-None.ensures.none refl) c.loop-at.invariant)
]

pub returns : goal.returns
returns c = united_trees (length c.args.parents.now.items) c.args.parents.now.items c.loop-at.parents.items c.args.ties.now c.loop-at.at (omega arith) c.loop-at.invariant
