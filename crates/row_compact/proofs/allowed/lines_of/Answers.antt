use Rattle.std.proofs.Common.{◌≡◌, ◌+◌, ◌*◌, length, arith, rules}
use Rattle.row_compact.proofs.Within.{few}
use Rattle.row_compact.proofs.allowed.lines_of.Goals as goal

pub lines_of_units-requires : goal.lines_of_units-requires
lines_of_units-requires c = omega (arith, few c.args.placement.now c.requires)

pub returns-clause-few : goal.returns-clause-few
returns-clause-few c =
    let lines : c.lines_of_units.result ≡ 2 * length c.args.placement.now.units + 1 = search rules in
    omega (arith, lines, few c.args.placement.now c.requires)
