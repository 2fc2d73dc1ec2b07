use Rattle.row_search.proofs.Keeping.{fetched}
use Rattle.row_search.proofs.whole.unpacked.Goals as goal

pub loop-at-preserved : goal.loop-at-preserved
loop-at-preserved c = fetched c.args.kept.now c.loop-at.lemmas c.push.new.self c.fetch.new.into c.loop-at.at c.loop-at.invariant c.fetch.ensures.lemma c.in_ok-push.ensures.ok
