use Rattle.std.proofs.Common.{[], ◌∷◌, inl, refl}
use Rattle.cell_num.proofs.Lists.{all_one}
use Rattle.row_cycles.specs.Above.{Follows}
use Rattle.cycle_search.proofs.Needs.{adds_none, adds_some, one_leads}
use Rattle.cycle_search.proofs.ways.add_pair.Goals as goal

pub returns-then-is_same-clause-adds : goal.returns-then-is_same-clause-adds
returns-then-is_same-clause-adds c = adds_none c.args.asked.now.pairs c.args.pairs.now

pub returns-then-is_same-clause-leads : goal.returns-then-is_same-clause-leads
returns-then-is_same-clause-leads c = λ e. inl (c.is_same.ensures.0 c.if-is_same.true)

pub returns-then-not-has-clause-adds : goal.returns-then-not-has-clause-adds
returns-then-not-has-clause-adds c = adds_none c.args.asked.now.pairs c.args.pairs.now

pub returns-clause-adds : goal.returns-clause-adds
returns-clause-adds c = adds_some c.args.asked.now.pairs c.args.pairs.now c.push.new.self (_ ∷ []) c.in_ok-push.ensures.ok (all_one (Follows c.args.asked.now.pairs) _ (c.requires.sound _ (c.has.ensures.0 c.if-not-has.false)))

pub returns-clause-leads : goal.returns-clause-leads
returns-clause-leads c = λ e. one_leads c.args.pairs.now c.push.new.self c.args.upper c.args.lower _ refl refl c.in_ok-push.ensures.ok
