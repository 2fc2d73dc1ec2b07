use Rattle.std.proofs.Common.{rules, ◌≡◌, length, refl}
use Rattle.end_lemmas.proofs.Found.{index_more}
use Rattle.end_lemmas.proofs.index.LemmaIndex.add.Goals as goal

pub returns : goal.returns
returns g c =
    let number : c.number-number.result ≡ g.E.EndSteps.number_of c.args.lemma.now.done c.args.lemma.now.state =
    search rules in
    index_more g.E.EndSteps.number_of c.args.lemmas.now c.args.self.now (record { places = c.note.new.places })
    c.number-number.result (length c.args.lemmas.now) c.args.lemma.now c.requires number refl
    c.in_ok-note.ensures.kept c.in_ok-note.ensures.others
