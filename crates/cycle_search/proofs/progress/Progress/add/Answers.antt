use Rattle.std.proofs.Common.{ap, sym, ◌∙◌}
use Rattle.row_state.specs.Code.{state_code}
use Rattle.row_cycles.specs.Noted.{state_of}
use Rattle.row_cycles.proofs.Noted.{noted_more}
use Rattle.cycle_search.proofs.progress.Progress.add.Goals as goal

pub returns-clause-noted : goal.returns-clause-noted
returns-clause-noted c = λ k numbered state noted.
    noted_more state_of k c.args.self.now.lemmas c.push.new.self c.args.self.now.places c.add.new.self c.args.at.now.code c.len.result c.args.lemma noted c.in_ok-push.ensures.ok
    (numbered.code ∙ ap (state_code k) (sym state)) c.len.ensures c.in_ok-add.ensures.kept c.in_ok-add.ensures.others
