use Rattle.row_cycles.proofs.Lemmas.{cyclic_rows, lemmas_true}
use Rattle.row_cycles.proofs.Wired.{none_wired}
use Rattle.row_cycles.proofs.laws.cycles_by_lemmas.Goals as goal

pub returns-clause-lemmas : goal.returns-clause-lemmas
returns-clause-lemmas g c = λ pins k lemmas some.
    lemmas_true (g.B.GapBound.value c.args.bound.now) pins k lemmas
    (λ row s state. c.show_holds.ensures row s k some state) some

pub returns-clause-cycle : goal.returns-clause-cycle
returns-clause-cycle g c = λ pins f k gaps lemmas kinds some.
    cyclic_rows (g.B.GapBound.value c.args.bound.now) pins f k gaps lemmas
    (λ row s state. c.show_holds.ensures row s k some state) kinds some

pub returns-clause-unwired : goal.returns-clause-unwired
returns-clause-unwired g c = λ pins f k gaps lemmas kinds some.
    none_wired (g.B.GapBound.value c.args.bound.now) pins f k gaps lemmas
    (λ row s state. c.show_holds.ensures row s k some state) kinds some
