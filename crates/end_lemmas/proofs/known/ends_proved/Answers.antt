use Rattle.std.proofs.Common.{rules, ◌≡◌, max, ◌∙◌}
use Rattle.end_lemmas.proofs.Proved.{other_more, start_more}
use Rattle.end_lemmas.proofs.known.ends_proved.Goals as goal
use Rattle.end_lemmas.proofs.known.ends_proved.Goals.{else-is_at_start, then-is_at_start}

pub loop-lemma-preserved : goal.loop-lemma-preserved
loop-lemma-preserved g c =
    elim c.if-is_at_start.branch [
      | then-is_at_start w ↦
          let more : w.max-most.result ≡ max c.loop-lemma.most c.lemma-item.result.bound = search rules in
          start_more c.args.start.now c.args.lemmas.now c.loop-lemma.lemma-index c.loop-lemma.most c.lemma-item.result
          c.is_at_start.result c.loop-lemma-test.true c.lemma-item.is c.is_at_start.ensures c.loop-lemma.invariant
          c.if-is_at_start.most (w.most-is ∙ more) w.if-is_at_start.true
      | else-is_at_start w ↦
          other_more c.args.start.now c.args.lemmas.now c.loop-lemma.lemma-index c.loop-lemma.most c.lemma-item.result
          c.is_at_start.result c.loop-lemma-test.true c.lemma-item.is c.is_at_start.ensures c.loop-lemma.invariant
          c.if-is_at_start.most w.most-is w.if-is_at_start.false
    ]
