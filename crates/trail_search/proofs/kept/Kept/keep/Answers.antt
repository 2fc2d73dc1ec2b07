use Rattle.std.proofs.Common.{◌++◌, ◌∷◌, [], List, ap, subst, ◌∙◌}
use Rattle.trail_check.specs.declared.lemma.TrailLemma.{TrailLemma}
use Rattle.trail_check.specs.Indexed.{IsIndexOf}
use Rattle.trail_search.specs.Search.{lemma_of}
use Rattle.trail_search.specs.Units.{units_of}
use Rattle.trail_search.proofs.Grown.{IsListing, further_kept, known_kept, listing}
use Rattle.trail_search.proofs.New.{stay_kept}
use Rattle.trail_search.proofs.Reached.{within_kept}
use Rattle.trail_search.proofs.Tied.{units_more}
use Rattle.trail_search.proofs.kept.Kept.keep.Goals as goal

pub returns-clause-further : goal.returns-clause-further
returns-clause-further c =
    let it : IsListing c.args.levels.now c.args.done c.args.state.now c.args.bound c.in_ok-line.line c.in_ok-lemma.lemma = listing c.args.levels.now c.as_slice-2.result.now c.args.done c.args.state.now c.as_slice.result.now c.args.bound c.in_ok-line.line c.in_ok-lemma.lemma c.requires.chained c.requires.state c.in_ok-line.ensures c.as_slice.ensures c.as_slice-2.ensures c.in_ok-lemma.ensures in
    further_kept c.args.levels.now c.args.self.now (record {
      lemmas = c.push-2.new.self;
      index = c.add.new.self;
      lines = c.push.new.self;
    }) c.in_ok-line.line c.in_ok-lemma.lemma c.args.done c.args.state.now c.args.bound
    c.requires.done c.requires.some c.requires.few c.requires.kept c.requires.state it c.requires.justified
    c.requires.new c.in_ok-push.ensures.ok c.in_ok-push-2.ensures.ok
    (subst (λ (ls : List TrailLemma). IsIndexOf (ls ++ c.in_ok-lemma.lemma ∷ []) c.add.new.self)
    c.as_slice-3.ensures c.in_ok-add.ensures)

pub returns-clause-known : goal.returns-clause-known
returns-clause-known c =
    let it : IsListing c.args.levels.now c.args.done c.args.state.now c.args.bound c.in_ok-line.line c.in_ok-lemma.lemma = listing c.args.levels.now c.as_slice-2.result.now c.args.done c.args.state.now c.as_slice.result.now c.args.bound c.in_ok-line.line c.in_ok-lemma.lemma c.requires.chained c.requires.state c.in_ok-line.ensures c.as_slice.ensures c.as_slice-2.ensures c.in_ok-lemma.ensures in
    known_kept c.args.levels.now c.args.self.now.lemmas c.push-2.new.self c.in_ok-line.line c.in_ok-lemma.lemma c.args.done c.args.state.now c.args.bound it c.in_ok-push-2.ensures.ok

pub returns-clause-others : goal.returns-clause-others
returns-clause-others c =
    let it : IsListing c.args.levels.now c.args.done c.args.state.now c.args.bound c.in_ok-line.line c.in_ok-lemma.lemma = listing c.args.levels.now c.as_slice-2.result.now c.args.done c.args.state.now c.as_slice.result.now c.args.bound c.in_ok-line.line c.in_ok-lemma.lemma c.requires.chained c.requires.state c.in_ok-line.ensures c.as_slice.ensures c.as_slice-2.ensures c.in_ok-lemma.ensures in
    stay_kept c.args.done c.args.state.now c.args.bound c.args.self.now (record { lemmas = c.push-2.new.self; index = c.add.new.self; lines = c.push.new.self }) (c.in_ok-push-2.ensures.ok ∙ ap (λ (l : TrailLemma). c.args.self.now.lemmas ++ l ∷ []) it.lemma)

pub returns-clause-within : goal.returns-clause-within
returns-clause-within c =
    let it : IsListing c.args.levels.now c.args.done c.args.state.now c.args.bound c.in_ok-line.line c.in_ok-lemma.lemma = listing c.args.levels.now c.as_slice-2.result.now c.args.done c.args.state.now c.as_slice.result.now c.args.bound c.in_ok-line.line c.in_ok-lemma.lemma c.requires.chained c.requires.state c.in_ok-line.ensures c.as_slice.ensures c.as_slice-2.ensures c.in_ok-lemma.ensures in
    within_kept c.args.levels.now c.args.done c.args.state.now c.args.bound c.args.self.now (record { lemmas = c.push-2.new.self; index = c.add.new.self; lines = c.push.new.self }) (c.in_ok-push-2.ensures.ok ∙ ap (λ (l : TrailLemma). c.args.self.now.lemmas ++ l ∷ []) it.lemma)

pub returns-clause-one : goal.returns-clause-one
returns-clause-one c =
    let it : IsListing c.args.levels.now c.args.done c.args.state.now c.args.bound c.in_ok-line.line c.in_ok-lemma.lemma = listing c.args.levels.now c.as_slice-2.result.now c.args.done c.args.state.now c.as_slice.result.now c.args.bound c.in_ok-line.line c.in_ok-lemma.lemma c.requires.chained c.requires.state c.in_ok-line.ensures c.as_slice.ensures c.as_slice-2.ensures c.in_ok-lemma.ensures in
    ap (units_of c.args.levels.now) (c.in_ok-push-2.ensures.ok ∙ ap (λ (l : TrailLemma). c.args.self.now.lemmas ++ l ∷ []) it.lemma) ∙ units_more c.args.levels.now c.args.self.now.lemmas (lemma_of c.args.done c.args.state.now c.args.bound)
