use Rattle.std.proofs.Common.{◌≡◌, ◌≤◌, ◌-◌, vec_len}
use Rattle.cell_io.specs.Desk.{told}
use Rattle.cell_io.specs.Whole.{TookFront}
use Rattle.cell_io.proofs.whole.read_into.Given as goal

abbrev pub invariant-parts : goal.invariant-parts
invariant-parts g l =
    (l.at ≤ l.most)
    × (vec_len l.buffer ≡ 65536)
    × TookFront (λ bytes. g.S.Sink.took l.fn.sink bytes l.sink) l.at (told (g.D.Desk.view l.fn.desk).given l.name)
    × (g.D.Desk.view l.desk ≡ g.D.Desk.view l.fn.desk)

abbrev pub decreases-parts : goal.decreases-parts
decreases-parts g l = l.most - l.at
