use Rattle.row_state.proofs.Emptied.{are_beyond}
use Rattle.row_state.proofs.empty.EmptyPlaces.beyond.Goals as goal

pub returns : goal.returns
returns c = λ k s some candidate possible are.
    are_beyond k s c.args.next.now c.args.self.now (record { p = c.behind_place.result; n = c.behind_place-2.result }) some candidate possible are c.behind_place.ensures c.behind_place-2.ensures
