use Rattle.std.proofs.Common.{◌≡◌, ◌+◌, ◌*◌, length, arith, rules}
use Rattle.row_compact.specs.declared.distance.Distances.{Distances}
use Rattle.row_compact.specs.Entries.{entries_of}
use Rattle.row_compact.proofs.Solutions.{solutions, ascending}
use Rattle.row_compact.proofs.Within.{few}
use Rattle.row_compact.proofs.allowed.wiring_distances.Goals as goal

pub entries-requires : goal.entries-requires
entries-requires c = omega (arith, few c.args.placement.now c.requires.placement)

pub returns-clause-solutions : goal.returns-clause-solutions
returns-clause-solutions c =
    let list : c.in_ok-list.list ≡ entries_of c.args.placement.now c.args.pins.now c.args.trunks.now = search rules in
    let lines : c.lines_of-lines.result ≡ 2 * length c.args.placement.now.units + 1 = search rules in
    let d : Distances = record { lines = c.lines_of-lines.result; list = c.in_ok-list.list } in
    solutions c.args.placement.now c.args.pins.now (record { tracks = c.requires.wiring.tracks; trunks = c.args.trunks.now }) d c.requires.wiring.wiring lines list

pub returns-clause-ascending : goal.returns-clause-ascending
returns-clause-ascending c =
    let list : c.in_ok-list.list ≡ entries_of c.args.placement.now c.args.pins.now c.args.trunks.now = search rules in
    let lines : c.lines_of-lines.result ≡ 2 * length c.args.placement.now.units + 1 = search rules in
    let d : Distances = record { lines = c.lines_of-lines.result; list = c.in_ok-list.list } in
    ascending c.args.placement.now c.args.pins.now (record { tracks = c.requires.wiring.tracks; trunks = c.args.trunks.now }) d c.requires.placement c.requires.wiring.wiring lines list
