use Rattle.std.proofs.Common.{◌≡◌, ◌+◌, take}
use Rattle.bound_log.specs.declared.log.Log.{Log}
use Rattle.lemma_check.specs.Noted.{AreNoted}
use Rattle.log_check.specs.Items.{HasSeen, with_lemmas}
use Rattle.log_check.proofs.check.add_lemmas.Given as goal

abbrev pub invariant-loop-lemma : goal.invariant-loop-lemma
invariant-loop-lemma g l =
    ((log : Log) → HasSeen (g.B.RowBound.value l.bound) l.fn.seen log → HasSeen (g.B.RowBound.value l.bound) l.seen (with_lemmas log (take l.lemma-index l.lemmas)))
    × (l.seen.lemmas ≡ l.fn.seen.lemmas + l.lemma-index)
    × (l.seen.fingers ≡ l.fn.seen.fingers)
    × (l.seen.kinds ≡ l.fn.seen.kinds)
    × AreNoted (g.B.RowBound.trails_of l.bound) l.seen.kinds l.trails
