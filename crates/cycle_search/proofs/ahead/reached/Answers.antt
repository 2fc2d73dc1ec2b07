use Rattle.std.proofs.Common.{All, ap, inl, inr, refl, subst, sym, ◌∙◌, ◌++◌}
use Rattle.std.proofs.lemmas.List.Elements.{All-append}
use Rattle.track_ways.specs.Certificate.{NeedsMore}
use Rattle.row_cycles.specs.Above.{HasCycle, HasNets}
use Rattle.cycle_search.proofs.Needs.{adds_none}
use Rattle.cycle_search.proofs.ahead.reached.Goals as goal

pub returns-then-needs_more-clause-adds : goal.returns-then-needs_more-clause-adds
returns-then-needs_more-clause-adds g c = adds_none c.args.asked.now.pairs c.args.need.now

pub returns-then-needs_more-clause-none : goal.returns-then-needs_more-clause-none
returns-then-needs_more-clause-none g c = λ lemmas. inl (subst (λ s. NeedsMore (g.B.GapBound.value c.args.task.now.bound.now) c.args.task.now.kinds.now s c.args.left) c.in_ok-state.ensures.state (c.needs_more.ensures.0 c.if-needs_more.true))

pub returns-then-branch-clause-none : goal.returns-then-branch-clause-none
returns-then-branch-clause-none g c = λ lemmas. inr (inl (subst (λ ps. HasCycle (c.add_cycle.new.need ++ ps)) (c.as_slice.ensures ∙ c.in_ok-new.ensures.is) (c.in_ok-add_cycle.ensures.cycle c.if-branch.true)))

pub returns-clause-some : goal.returns-clause-some
returns-clause-some g c = record {
  numbered = c.in_ok-state.ensures.numbered;
  state = c.in_ok-state.ensures.state;
  gaps = refl;
  new = c.in_ok-new.ensures.is;
  onward = c.in_ok-onward.ensures.pairs ∙ ap (λ ps. c.args.asked.now.pairs ++ ps) (c.as_slice-2.ensures ∙ c.in_ok-new.ensures.is);
  asked = record {
    few = subst (All (HasNets c.args.task.now.kinds.now.nets)) (sym (c.in_ok-onward.ensures.pairs ∙ ap (λ ps. c.args.asked.now.pairs ++ ps) c.as_slice-2.ensures)) (All-append (HasNets c.args.task.now.kinds.now.nets) c.args.asked.now.pairs c.in_ok-new.new c.requires.asked.few c.in_ok-new.ensures.nets);
    sound = c.in_ok-onward.ensures.sound;
  };
}
