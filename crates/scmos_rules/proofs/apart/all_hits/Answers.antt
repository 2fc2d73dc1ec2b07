use Rattle.std.proofs.Common.{◌-◌, length, take, drop, sym, subst, ◌∙◌}
use Rattle.std.specs.List.{All}
use Rattle.std.proofs.lemmas.List.Elements.{All-take, All-drop}
use Rattle.scmos_rules.specs.Apart.{hits_of}
use Rattle.scmos_rules.specs.Near.{IsNumberedBlock, near_over}
use Rattle.scmos_rules.proofs.Nearing.{near_parts, first_part, one_more_part}
use Rattle.scmos_rules.proofs.apart.all_hits.Goals as goal

pub add_hits-requires-clause-near : goal.add_hits-requires-clause-near
add_hits-requires-clause-near c =
    subst (All (IsNumberedBlock (length c.args.labels.now))) (sym (c.as_slice.ensures.value ∙ c.in_ok-near.ensures))
    (near_parts (length c.args.labels.now) c.args.by c.part-item.result (take (length c.loop-rest.rest.now - 1) (drop 1 c.loop-rest.rest.now))
    (All-take (IsNumberedBlock (length c.args.labels.now)) (length c.loop-rest.rest.now - 1) (drop 1 c.loop-rest.rest.now) (All-drop (IsNumberedBlock (length c.args.labels.now)) 1 c.loop-rest.rest.now c.loop-rest.invariant.1)))

pub loop-rest-preserved : goal.loop-rest-preserved
loop-rest-preserved c = (
  one_more_part c.args.by (hits_of c.args.by c.args.labels.now) c.loop-rest.rest.now (take (length c.loop-rest.rest.now - 1) (drop 1 c.loop-rest.rest.now)) c.as_slice.result.now c.part-item.result c.loop-rest.out.items c.add_hits.new.out.items (near_over c.args.by (hits_of c.args.by c.args.labels.now) c.args.parts.now)
      (first_part c.loop-rest.rest.now c.part-item.result c.in-len1-up.len_at_least c.part-item.is) (c.as_slice.ensures.value ∙ c.in_ok-near.ensures) c.in_ok-add_hits.ensures c.loop-rest.invariant.0,
  All-take (IsNumberedBlock (length c.args.labels.now)) (length c.loop-rest.rest.now - 1) (drop 1 c.loop-rest.rest.now) (All-drop (IsNumberedBlock (length c.args.labels.now)) 1 c.loop-rest.rest.now c.loop-rest.invariant.1),
)
