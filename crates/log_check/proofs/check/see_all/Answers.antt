use Rattle.std.proofs.Common.{List, subst, None}
use Rattle.bound_log.specs.declared.log.Lemma.{Lemma}
use Rattle.log_check.specs.Items.{HasSeen, empty_log}
use Rattle.log_check.proofs.check.see_all.Goals as goal

pub returns-clause-seen : goal.returns-clause-seen
returns-clause-seen g c =
    c.in_ok-add_row.ensures.seen (g.B.RowBound.value c.args.bound.now) c.args.log.now.version c.args.log.now.lemmas
    (subst (λ (lemmas : List Lemma). HasSeen (g.B.RowBound.value c.args.bound.now) c.add_lemmas.new.seen (record { version = c.args.log.now.version; lemmas = lemmas; best = None })) c.as_slice.ensures
    (c.in_ok-add_lemmas.ensures.seen (empty_log c.args.log.now.version) (c.in_ok-seen.ensures.seen (g.B.RowBound.value c.args.bound.now))))

pub add_lemmas-requires-clause-noted : goal.add_lemmas-requires-clause-noted
add_lemmas-requires-clause-noted g c = c.new-trails.ensures (g.B.RowBound.trails_of c.args.bound.now) c.in_ok-seen.seen.kinds
