use Rattle.std.proofs.Common.{◌+◌, ◌<◌, ◌≡◌, arith, drop, length, refl, sym, ◌∙◌}
use Rattle.std.proofs.lemmas.List.Elements.{All-nil}
use Rattle.std.proofs.lemmas.Option.{slice_get_past, slice_get_read}
use Rattle.end_lemmas.specs.Justified.{IsKnown, Reaches}
use Rattle.end_search.specs.Search.{lemma_of}
use Rattle.end_search.specs.Units.{path_units, units_at}
use Rattle.end_search.proofs.Choices.{IsChoice, all_reach, fewer_behind, fewer_leaf, fits_here, reach_more}
use Rattle.end_search.proofs.Kept.{further_behind, further_push, further_same, not_so, reach_kept, unknown_some}
use Rattle.end_search.proofs.Spending.{path_next, spent_behind, spent_kept, spent_none, spent_thrown, units_some}
use Rattle.end_search.proofs.visit.+visit.Goals as goal

pub returns-in_default-clause-further : goal.returns-in_default-clause-further
returns-in_default-clause-further g t c =
    further_same (g.E.EndSteps.steps c.args.steps.now) g.E.EndSteps.number_of c.args.levels.now c.args.done c.args.state.now c.args.need
    c.args.progress.now c.args.progress.now c.requires.kept refl refl

pub returns-in_default-clause-fewer : goal.returns-in_default-clause-fewer
returns-in_default-clause-fewer g t c = λ _.
    fewer_leaf (g.E.EndSteps.steps c.args.steps.now) c.args.levels.now c.args.done c.args.state.now c.args.need (slice_get_past c.args.levels.now c.args.done c.in_default.ensures.lookup.3) c.requires.need

pub returns-then-not-take-clause-further : goal.returns-then-not-take-clause-further
returns-then-not-take-clause-further g t c =
    further_same (g.E.EndSteps.steps c.args.steps.now) g.E.EndSteps.number_of c.args.levels.now c.args.done c.args.state.now c.args.need
    c.args.progress.now (record {
      lemmas = c.args.progress.now.lemmas;
      index = c.args.progress.now.index;
      left = c.take.new.left;
    }) c.requires.kept refl refl

pub returns-then-not-take-clause-path : goal.returns-then-not-take-clause-path
returns-then-not-take-clause-path g t c =
    spent_thrown (g.E.EndSteps.steps c.args.steps.now) c.args.levels.now c.args.progress.now (record {
      lemmas = c.args.progress.now.lemmas;
      index = c.args.progress.now.index;
      left = c.take.new.left;
    }) c.args.done c.in-Some.level.now c.level_units.result
    (slice_get_read c.args.levels.now (length c.args.levels.now) c.args.done c.in-Some.level.now refl
    c.in-Some.ensures.lookup.3.0 c.in-Some.ensures.lookup.1) refl (c.take.ensures.none c.if-not-take.true) c.level_units.ensures (c.take.ensures.few c.if-not-take.true)

pub loop-choice-init : goal.loop-choice-init
loop-choice-init g t c =
    let here : units_at (g.E.EndSteps.steps c.args.steps.now) c.args.levels.now c.args.done ≡ c.level_units.result =
    units_some (g.E.EndSteps.steps c.args.steps.now) c.args.levels.now c.args.done c.in-Some.level.now (slice_get_read c.args.levels.now (length c.args.levels.now) c.args.done c.in-Some.level.now refl
    c.in-Some.ensures.lookup.3.0 c.in-Some.ensures.lookup.1) ∙ sym c.level_units.ensures in (
      further_same (g.E.EndSteps.steps c.args.steps.now) g.E.EndSteps.number_of c.args.levels.now c.args.done c.args.state.now c.args.need
          c.args.progress.now (record {
            lemmas = c.args.progress.now.lemmas;
            index = c.args.progress.now.index;
            left = c.take.new.left;
          }) c.requires.kept refl refl,
      All-nil (Reaches (g.E.EndSteps.steps c.args.steps.now) c.args.progress.now.lemmas c.in-Some.level.now (lemma_of c.args.done c.args.state.now c.args.need)),
      omega (arith, here, c.take.ensures.taken c.if-not-take.false),
    )

pub loop-choice-preserved-then-knows : goal.loop-choice-preserved-then-knows
loop-choice-preserved-then-knows g t c =
    let choice : IsChoice (g.E.EndSteps.steps c.args.steps.now) c.in-Some.level.now c.args.state.now
    c.choices-choice-items.result.now c.loop-choice.choice-index c.in_ok-settled.settled.state c.in_ok-settled.settled.ends = record {
      choice = c.choice-item.result;
      within = c.loop-choice-test.true;
      is = c.choice-item.is;
      all = c.choices-choice-items.ensures;
      state = c.in_ok-settled.ensures.state;
      count = c.in_ok-settled.ensures.ends;
    } in (
      c.loop-choice.invariant.0,
      reach_more (g.E.EndSteps.steps c.args.steps.now) c.loop-choice.progress.lemmas c.in-Some.level.now c.args.done c.args.state.now c.in_ok-settled.settled.state c.args.need c.rest-rest.result c.in_ok-settled.settled.ends
          c.choices-choice-items.result.now c.loop-choice.choice-index choice c.rest-rest.ensures
          (c.knows.ensures.0 c.if-knows.true) c.loop-choice.invariant.1,
      c.loop-choice.invariant.2,
    )

pub returns-in-Fewer-clause-further : goal.returns-in-Fewer-clause-further
returns-in-Fewer-clause-further g t c =
    let choice : IsChoice (g.E.EndSteps.steps c.args.steps.now) c.in-Some.level.now c.args.state.now
    c.choices-choice-items.result.now c.loop-choice.choice-index c.in_ok-settled.settled.state c.in_ok-settled.settled.ends = record {
      choice = c.choice-item.result;
      within = c.loop-choice-test.true;
      is = c.choice-item.is;
      all = c.choices-choice-items.ensures;
      state = c.in_ok-settled.ensures.state;
      count = c.in_ok-settled.ensures.ends;
    } in
    let unknown : IsKnown c.loop-choice.progress.lemmas (c.args.done + 1) c.in_ok-settled.settled.state c.rest-rest.result → ⊥ =
    not_so c.knows.result (IsKnown c.loop-choice.progress.lemmas (c.args.done + 1) c.in_ok-settled.settled.state c.rest-rest.result) c.knows.ensures c.if-knows.false in
    let some : 0 < c.rest-rest.result = unknown_some c.loop-choice.progress.lemmas (c.args.done + 1) c.in_ok-settled.settled.state c.rest-rest.result unknown in
    further_behind (g.E.EndSteps.steps c.args.steps.now) g.E.EndSteps.number_of c.args.levels.now c.in-Some.level.now c.args.done c.args.state.now c.in_ok-settled.settled.state c.args.need c.rest-rest.result c.in_ok-settled.settled.ends
    c.choices-choice-items.result.now c.loop-choice.choice-index
    c.args.progress.now c.loop-choice.progress c.visit.new.progress (slice_get_read c.args.levels.now (length c.args.levels.now) c.args.done c.in-Some.level.now refl
    c.in-Some.ensures.lookup.3.0 c.in-Some.ensures.lookup.1) choice c.rest-rest.ensures some
    c.loop-choice.invariant.0 c.in_ok-visit.ensures.further

pub returns-in-Fewer-clause-path : goal.returns-in-Fewer-clause-path
returns-in-Fewer-clause-path g t c =
    spent_behind (g.E.EndSteps.steps c.args.steps.now) c.args.levels.now c.args.progress.now c.loop-choice.progress c.visit.new.progress
    (units_at (g.E.EndSteps.steps c.args.steps.now) c.args.levels.now c.args.done) (path_units (g.E.EndSteps.steps c.args.steps.now) (drop (c.args.done + 1) c.args.levels.now))
    (path_units (g.E.EndSteps.steps c.args.steps.now) (drop c.args.done c.args.levels.now)) c.loop-choice.invariant.2 c.in_ok-visit.ensures.path
    (omega (
      arith,
      path_next (g.E.EndSteps.steps c.args.steps.now) c.args.levels.now c.args.done c.in-Some.level.now (slice_get_read c.args.levels.now (length c.args.levels.now) c.args.done c.in-Some.level.now refl
          c.in-Some.ensures.lookup.3.0 c.in-Some.ensures.lookup.1),
    ))

pub returns-in-Fewer-clause-fewer : goal.returns-in-Fewer-clause-fewer
returns-in-Fewer-clause-fewer g t c =
    let choice : IsChoice (g.E.EndSteps.steps c.args.steps.now) c.in-Some.level.now c.args.state.now
    c.choices-choice-items.result.now c.loop-choice.choice-index c.in_ok-settled.settled.state c.in_ok-settled.settled.ends = record {
      choice = c.choice-item.result;
      within = c.loop-choice-test.true;
      is = c.choice-item.is;
      all = c.choices-choice-items.ensures;
      state = c.in_ok-settled.ensures.state;
      count = c.in_ok-settled.ensures.ends;
    } in
    λ _. fewer_behind (g.E.EndSteps.steps c.args.steps.now) c.args.levels.now c.in-Some.level.now c.args.done c.args.state.now c.in_ok-settled.settled.state c.args.need c.rest-rest.result c.in_ok-settled.settled.ends
    c.choices-choice-items.result.now c.loop-choice.choice-index (slice_get_read c.args.levels.now (length c.args.levels.now) c.args.done c.in-Some.level.now refl
    c.in-Some.ensures.lookup.3.0 c.in-Some.ensures.lookup.1) choice c.rest-rest.ensures
    (c.in_ok-visit.ensures.fewer c.in-Fewer.is)

pub returns-in-Spent-clause-further : goal.returns-in-Spent-clause-further
returns-in-Spent-clause-further g t c =
    let choice : IsChoice (g.E.EndSteps.steps c.args.steps.now) c.in-Some.level.now c.args.state.now
    c.choices-choice-items.result.now c.loop-choice.choice-index c.in_ok-settled.settled.state c.in_ok-settled.settled.ends = record {
      choice = c.choice-item.result;
      within = c.loop-choice-test.true;
      is = c.choice-item.is;
      all = c.choices-choice-items.ensures;
      state = c.in_ok-settled.ensures.state;
      count = c.in_ok-settled.ensures.ends;
    } in
    let unknown : IsKnown c.loop-choice.progress.lemmas (c.args.done + 1) c.in_ok-settled.settled.state c.rest-rest.result → ⊥ =
    not_so c.knows.result (IsKnown c.loop-choice.progress.lemmas (c.args.done + 1) c.in_ok-settled.settled.state c.rest-rest.result) c.knows.ensures c.if-knows.false in
    let some : 0 < c.rest-rest.result = unknown_some c.loop-choice.progress.lemmas (c.args.done + 1) c.in_ok-settled.settled.state c.rest-rest.result unknown in
    further_behind (g.E.EndSteps.steps c.args.steps.now) g.E.EndSteps.number_of c.args.levels.now c.in-Some.level.now c.args.done c.args.state.now c.in_ok-settled.settled.state c.args.need c.rest-rest.result c.in_ok-settled.settled.ends
    c.choices-choice-items.result.now c.loop-choice.choice-index
    c.args.progress.now c.loop-choice.progress c.visit.new.progress (slice_get_read c.args.levels.now (length c.args.levels.now) c.args.done c.in-Some.level.now refl
    c.in-Some.ensures.lookup.3.0 c.in-Some.ensures.lookup.1) choice c.rest-rest.ensures some
    c.loop-choice.invariant.0 c.in_ok-visit.ensures.further

pub returns-in-Spent-clause-path : goal.returns-in-Spent-clause-path
returns-in-Spent-clause-path g t c =
    spent_behind (g.E.EndSteps.steps c.args.steps.now) c.args.levels.now c.args.progress.now c.loop-choice.progress c.visit.new.progress
    (units_at (g.E.EndSteps.steps c.args.steps.now) c.args.levels.now c.args.done) (path_units (g.E.EndSteps.steps c.args.steps.now) (drop (c.args.done + 1) c.args.levels.now))
    (path_units (g.E.EndSteps.steps c.args.steps.now) (drop c.args.done c.args.levels.now)) c.loop-choice.invariant.2 c.in_ok-visit.ensures.path
    (omega (
      arith,
      path_next (g.E.EndSteps.steps c.args.steps.now) c.args.levels.now c.args.done c.in-Some.level.now (slice_get_read c.args.levels.now (length c.args.levels.now) c.args.done c.in-Some.level.now refl
          c.in-Some.ensures.lookup.3.0 c.in-Some.ensures.lookup.1),
    ))

pub loop-choice-preserved : goal.loop-choice-preserved
loop-choice-preserved g t c =
    let choice : IsChoice (g.E.EndSteps.steps c.args.steps.now) c.in-Some.level.now c.args.state.now
    c.choices-choice-items.result.now c.loop-choice.choice-index c.in_ok-settled.settled.state c.in_ok-settled.settled.ends = record {
      choice = c.choice-item.result;
      within = c.loop-choice-test.true;
      is = c.choice-item.is;
      all = c.choices-choice-items.ensures;
      state = c.in_ok-settled.ensures.state;
      count = c.in_ok-settled.ensures.ends;
    } in
    let unknown : IsKnown c.loop-choice.progress.lemmas (c.args.done + 1) c.in_ok-settled.settled.state c.rest-rest.result → ⊥ =
    not_so c.knows.result (IsKnown c.loop-choice.progress.lemmas (c.args.done + 1) c.in_ok-settled.settled.state c.rest-rest.result) c.knows.ensures c.if-knows.false in (
      further_push (g.E.EndSteps.steps c.args.steps.now) g.E.EndSteps.number_of c.args.levels.now c.in-Some.level.now c.args.done c.args.state.now c.in_ok-settled.settled.state c.args.need c.rest-rest.result c.in_ok-settled.settled.ends
          c.choices-choice-items.result.now c.loop-choice.choice-index
          c.args.progress.now c.loop-choice.progress c.visit.new.progress c.keep.new.progress (slice_get_read c.args.levels.now (length c.args.levels.now) c.args.done c.in-Some.level.now refl
          c.in-Some.ensures.lookup.3.0 c.in-Some.ensures.lookup.1) choice
          c.rest-rest.ensures unknown c.loop-choice.invariant.0 c.in_ok-visit.ensures.further
          (c.in_ok-visit.ensures.shown c.in-Shown.is) c.in_ok-keep.ensures.lemmas c.in_ok-keep.ensures.indexed,
      reach_kept (g.E.EndSteps.steps c.args.steps.now) g.E.EndSteps.number_of c.args.levels.now c.in-Some.level.now c.args.done c.args.state.now c.in_ok-settled.settled.state c.args.need c.rest-rest.result c.in_ok-settled.settled.ends
          c.choices-choice-items.result.now c.loop-choice.choice-index
          c.loop-choice.progress c.visit.new.progress c.keep.new.progress choice c.rest-rest.ensures
          c.in_ok-visit.ensures.further c.in_ok-keep.ensures.lemmas c.loop-choice.invariant.1,
      spent_kept (g.E.EndSteps.steps c.args.steps.now) c.args.levels.now c.args.progress.now c.loop-choice.progress c.visit.new.progress c.keep.new.progress
          (units_at (g.E.EndSteps.steps c.args.steps.now) c.args.levels.now c.args.done) (lemma_of (c.args.done + 1) c.in_ok-settled.settled.state c.rest-rest.result)
          c.loop-choice.invariant.2 (c.in_ok-visit.ensures.each c.in-Shown.is) c.in_ok-keep.ensures.lemmas c.in_ok-keep.ensures.left,
    )

pub returns-clause-shown : goal.returns-clause-shown
returns-clause-shown g t c = λ _.
    all_reach (g.E.EndSteps.steps c.args.steps.now) c.args.levels.now c.loop-choice.progress.lemmas c.in-Some.level.now c.args.done c.args.state.now c.args.need
    c.choices-choice-items.result.now c.loop-choice.choice-index (slice_get_read c.args.levels.now (length c.args.levels.now) c.args.done c.in-Some.level.now refl
    c.in-Some.ensures.lookup.3.0 c.in-Some.ensures.lookup.1)
    (fits_here (g.E.EndSteps.steps c.args.steps.now) c.args.levels.now c.in-Some.level.now c.args.done c.args.state.now (slice_get_read c.args.levels.now (length c.args.levels.now) c.args.done c.in-Some.level.now refl
    c.in-Some.ensures.lookup.3.0 c.in-Some.ensures.lookup.1) c.requires.fits)
    c.choices-choice-items.ensures c.loop-choice-test.false c.loop-choice.invariant.1

pub returns-clause-path : goal.returns-clause-path
returns-clause-path g t c =
    spent_behind (g.E.EndSteps.steps c.args.steps.now) c.args.levels.now c.args.progress.now c.loop-choice.progress c.loop-choice.progress
    (units_at (g.E.EndSteps.steps c.args.steps.now) c.args.levels.now c.args.done) 0 (path_units (g.E.EndSteps.steps c.args.steps.now) (drop c.args.done c.args.levels.now)) c.loop-choice.invariant.2
    (spent_none (g.E.EndSteps.steps c.args.steps.now) c.args.levels.now c.loop-choice.progress 0)
    (omega (
      arith,
      path_next (g.E.EndSteps.steps c.args.steps.now) c.args.levels.now c.args.done c.in-Some.level.now (slice_get_read c.args.levels.now (length c.args.levels.now) c.args.done c.in-Some.level.now refl
          c.in-Some.ensures.lookup.3.0 c.in-Some.ensures.lookup.1),
    ))
