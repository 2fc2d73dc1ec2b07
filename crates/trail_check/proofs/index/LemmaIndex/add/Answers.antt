use Rattle.std.proofs.Common.{rules, ◌≡◌, length, refl}
use Rattle.trail_check.specs.Indexed.{state_number}
use Rattle.trail_check.proofs.Found.{index_more}
use Rattle.trail_check.proofs.index.LemmaIndex.add.Goals as goal

pub returns : goal.returns
returns c =
    let number : c.state_number-number.result ≡ state_number c.args.lemma.now.done c.args.lemma.now.state = search rules in
    index_more c.args.lemmas.now c.args.self.now (record { places = c.note.new.places }) c.state_number-number.result (length c.args.lemmas.now) c.args.lemma.now c.requires number refl c.in_ok-note.ensures.kept c.in_ok-note.ensures.others
