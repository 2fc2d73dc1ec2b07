use Rattle.std.proofs.Common.{◌∙◌, ap, sym}
use Rattle.row_state.specs.Code.{state_code}
use Rattle.row_cycles.specs.declared.lemma.CycleLemma.{CycleLemma}
use Rattle.row_cycles.specs.Noted.{state_of}
use Rattle.row_cycles.proofs.Noted.{noted_next}
use Rattle.row_cycles.proofs.check.note_lemma.Goals as goal

pub returns : goal.returns
returns c = noted_next state_of c.args.kinds.now c.args.lemmas.now c.args.places.now c.add.new.self c.code-number.result c.args.at c.index-lemmas-at.result c.requires.within c.index-lemmas-at.is c.requires.noted
    (c.code-number.ensures.code ∙ ap (λ (lemma : CycleLemma). state_code c.args.kinds.now lemma.state) (sym c.index-lemmas-at.is)) c.in_ok-add.ensures.kept c.in_ok-add.ensures.others
