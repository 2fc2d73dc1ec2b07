use Rattle.std.proofs.Common.{ap, subst, sym, ◌∙◌}
use Rattle.row_state.specs.Code.{state_code}
use Rattle.row_state.specs.Start.{IsState}
use Rattle.track_ways.specs.declared.lemma.TrackLemma.{TrackLemma}
use Rattle.row_cycles.proofs.Noted.{noted_more}
use Rattle.track_check.specs.Noted.{state_of}
use Rattle.track_search.specs.declared.known.Known.{Known}
use Rattle.track_search.proofs.Bare.{bare_more, free_same, too_few_same, part_same}
use Rattle.track_search.proofs.progress.Progress.add.Goals as goal

pub returns-clause-noted : goal.returns-clause-noted
returns-clause-noted g c = record {
  places = noted_more state_of c.args.task.now.kinds.now c.args.self.now.lemmas c.push.new.self c.args.self.now.places c.add.new.self c.args.at.now.code c.len.result c.in_ok-lemma.lemma c.requires.noted.places c.in_ok-push.ensures.ok
      (c.requires.numbered.code ∙ ap (state_code c.args.task.now.kinds.now) (sym (ap (λ (l : TrackLemma). l.state) c.in_ok-lemma.ensures))) c.len.ensures c.in_ok-add.ensures.kept c.in_ok-add.ensures.others;
  bare = bare_more c.args.task.now.kinds.now c.args.self.now.lemmas c.push.new.self c.args.self.now.known c.note.new.known c.in_ok-lemma.lemma c.args.at.now.code
      (subst (IsState c.args.task.now.kinds.now) (sym (ap (λ (l : TrackLemma). l.state) c.in_ok-lemma.ensures)) c.requires.numbered.valid)
      (c.requires.numbered.code ∙ ap (state_code c.args.task.now.kinds.now) (sym (ap (λ (l : TrackLemma). l.state) c.in_ok-lemma.ensures))) c.requires.noted.bare c.in_ok-push.ensures.ok c.in_ok-note.ensures.here c.in_ok-note.ensures.others;
  too_few = too_few_same (g.B.RowBound.value c.args.task.now.bound.now) c.args.task.now.kinds.now c.args.self.now.known c.note.new.known (part_same (λ (x : Known). x.too_few) c.args.self.now.known c.note.new.known c.args.at.now.code c.in_ok-note.ensures.too_few c.in_ok-note.ensures.others) c.requires.noted.too_few;
  free = free_same c.args.task.now.pins.now c.args.task.now.limit c.args.task.now.kinds.now c.args.self.now.known c.note.new.known (part_same (λ (x : Known). x.free) c.args.self.now.known c.note.new.known c.args.at.now.code c.in_ok-note.ensures.free c.in_ok-note.ensures.others) c.requires.noted.free;
}
