use Rattle.row_needs.proofs.Full.{one_more}
use Rattle.row_needs.proofs.Tables.{rests_more}
use Rattle.row_needs.proofs.needs.Needs.add.Goals as goal

pub returns-in-Ok : goal.returns-in-Ok
returns-in-Ok c = record {
  sound = rests_more c.args.kinds.now c.args.self.now (record { rests = c.insert.new.self }) c.args.at.now.state c.args.at.now.counts c.args.rest c.requires.numbered.valid c.requires.numbered.counts c.requires.sound c.requires.rest c.requires.few c.in-Ok.ensures.updates.1 c.in-Ok.ensures.updates.2;
  here = c.in-Ok.ensures.updates.1;
  others = c.in-Ok.ensures.updates.2;
  one_more = one_more _ _ _ c.in-Ok.ensures.len;
  unspent = tt;
}
