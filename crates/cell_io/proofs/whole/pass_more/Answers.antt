use Rattle.std.proofs.Common.{length, take, arith}
use Rattle.std.proofs.lemmas.List.{length-take-le}
use Rattle.cell_io.proofs.whole.pass_more.Goals as goal

pub take-requires : goal.take-requires
take-requires g c =
    c.requires.may (length (take c.in_ok-count.count c.read_next.new.part))
    (omega (arith, length-take-le c.in_ok-count.count c.read_next.new.part c.in_ok-count.ensures.within))
