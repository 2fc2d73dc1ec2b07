use Rattle.std.proofs.Common.{rules, sym, ◌≡◌, true, false}
use Rattle.gds_record.proofs.Walks.{moves}
use Rattle.gds_read.proofs.Repeats.{twice_here, seen_first}
use Rattle.gds_read.proofs.reference.twice.Goals as goal

pub returns-then-seen : goal.returns-then-seen
returns-then-seen c =
    let yes : c.records.seen ≡ true = search rules in
    twice_here c.args.bytes.now c.args.kind c.args.from c.records.at c.in-Ok.rec c.records.seen yes (sym c.in-Ok.ensures) (search rules) (search rules) c.records.invariant.1

pub records-preserved-else-seen : goal.records-preserved-else-seen
records-preserved-else-seen c =
    let no : c.records.seen ≡ false = search rules in (
      (moves c.args.bytes.now c.records.at c.in-Ok.rec (sym c.in-Ok.ensures)).within,
      seen_first c.args.bytes.now c.args.kind c.args.from c.records.at c.in-Ok.rec c.records.seen no (sym c.in-Ok.ensures) (search rules) (search rules) c.records.invariant.1,
    )
