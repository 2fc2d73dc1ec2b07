use Rattle.std.proofs.Common.{Any, subst, sym, ◌↔◌}
use Rattle.std.specs.Prelude.{IsTrue}
use Rattle.row_cycles.specs.Certificate.{Covers}
use Rattle.row_cycles.specs.Noted.{AreNotedAt, state_of}
use Rattle.row_cycles.proofs.Noted.{noted_here}
use Rattle.cycle_search.proofs.Visited.{few_of}
use Rattle.cycle_search.proofs.progress.Progress.is_idle.Goals as goal

pub covers-requires : goal.covers-requires
covers-requires g c = record {
  noted = subst (λ ls. AreNotedAt ls c.noted-known.result.places.now c.args.at.now) (sym c.noted-known.ensures.lemmas) (subst (λ ps. AreNotedAt c.args.self.now.lemmas ps c.args.at.now) (sym c.noted-known.ensures.places) (noted_here state_of c.args.task.now.kinds.now c.args.self.now.lemmas c.args.self.now.places c.args.at.now c.requires.numbered.code c.requires.noted));
  nets = few_of c.args.task.now.kinds.now c.args.lemma.now.above c.as_slice.result.now c.show_limits.ensures c.requires.within.nets c.as_slice.ensures;
}

pub returns : goal.returns
returns g c = subst (λ ls. IsTrue c.covers.result ↔ Any (Covers c.args.at.now.state c.args.lemma.now.gaps c.args.lemma.now.above) ls) c.noted-known.ensures.lemmas
    (subst (λ ps. IsTrue c.covers.result ↔ Any (Covers c.args.at.now.state c.args.lemma.now.gaps ps) c.noted-known.result.lemmas.now) c.as_slice.ensures c.covers.ensures)
