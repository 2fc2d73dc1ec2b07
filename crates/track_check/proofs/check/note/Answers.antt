use Rattle.std.proofs.Common.{◌∙◌, ap, sym}
use Rattle.row_state.specs.Code.{state_code}
use Rattle.track_ways.specs.declared.lemma.TrackLemma.{TrackLemma}
use Rattle.row_cycles.proofs.Noted.{noted_next}
use Rattle.track_check.specs.Noted.{state_of}
use Rattle.track_check.proofs.check.note.Goals as goal

pub returns : goal.returns
returns c = noted_next state_of c.args.kinds.now c.args.lemmas.now c.args.places.now c.add.new.self c.code-number.result c.args.at c.index-lemmas-at.result c.requires.within c.index-lemmas-at.is c.requires.noted
    (c.code-number.ensures.code ∙ ap (λ (lemma : TrackLemma). state_code c.args.kinds.now lemma.state) (sym c.index-lemmas-at.is)) c.in_ok-add.ensures.kept c.in_ok-add.ensures.others
