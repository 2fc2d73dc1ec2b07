use Rattle.std.proofs.Common.{Any, ap, arith, map, reverse, ◌∙◌}
use Rattle.row_state.specs.Steps.{column_of}
use Rattle.row_cycles.specs.Certificate.{Covers}
use Rattle.cycle_search.specs.Visit.{IsFirstFree}
use Rattle.cycle_search.proofs.Free.{certificate, first_row}
use Rattle.cycle_search.proofs.Visited.{no_pairs, start_kept}
use Rattle.cycle_search.proofs.search.search_start.Goals as goal

pub visit-requires : goal.visit-requires
visit-requires g c = record {
  candidates = c.requires.candidates;
  numbered = c.requires.numbered;
  asked = record { few = no_pairs c.args.task.now.kinds.now.nets c.in_ok-asked.asked.pairs c.in_ok-asked.ensures.pairs; sound = c.in_ok-asked.ensures.sound };
  gaps = omega arith;
  kept = start_kept (g.B.GapBound.value c.args.task.now.bound.now) c.args.task.now.pins.now c.args.task.now.kinds.now c.args.task.now.gaps c.args.task.now.budget c.args.progress.now c.requires.lemmas c.requires.noted;
}

pub returns-in-Some-clause-found : goal.returns-in-Some-clause-found
returns-in-Some-clause-found g c =
    let first : IsFirstFree c.args.task.now.pins.now c.args.task.now.kinds.now c.args.first.now.state c.in_ok-asked.asked.pairs c.args.task.now.gaps (reverse c.in-Some.steps) = rw c.in-Some.is at c.in-Ok.ensures.first in
    first_row c.args.task.now.pins.now c.args.task.now.kinds.now c.args.first.now.state c.args.task.now.gaps c.in_ok-asked.asked.pairs (reverse c.in-Some.steps) c.in_ok-row.row c.show_limits.ensures c.requires.state c.in_ok-asked.ensures.pairs (c.in_ok-row.ensures ∙ ap (λ steps. map (column_of c.args.task.now.kinds.now) (reverse steps)) c.as_slice.ensures) first

pub returns-clause-none : goal.returns-clause-none
returns-clause-none g c =
    let any : Any (Covers c.args.first.now.state c.args.task.now.gaps c.in_ok-asked.asked.pairs) c.visit.new.progress.lemmas = rw c.in_default.is at c.in-Ok.ensures.none in
    certificate (g.B.GapBound.value c.args.task.now.bound.now) c.args.task.now.pins.now c.args.task.now.kinds.now c.args.first.now.state c.args.task.now.gaps c.in_ok-asked.asked.pairs c.visit.new.progress.lemmas c.requires.state c.in_ok-asked.ensures.pairs c.in-Ok.ensures.kept.kept.justified any
