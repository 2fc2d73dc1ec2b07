use Rattle.std.proofs.Common.{Some}
use Rattle.cell_io.specs.Desk.{View, Both, ForSome, AppendedIn}
use Rattle.cell_io.proofs.Puts.{refused_so}
use Rattle.log_output.specs.Giving.{GivesSome}
use Rattle.log_output.proofs.Giving.{appended_some}
use Rattle.log_output.proofs.block.put.Goals as goal

pub returns-in-File-clause-some : goal.returns-in-File-clause-some
returns-in-File-clause-some g c =
    let before : View = g.D.Desk.view c.args.desk.now in
    let after : View = g.D.Desk.view c.append_all.new.desk in
    rw c.in-File.is
    (refused_so c.append_all.result (Both (ForSome c.args.bytes.now (AppendedIn c.in-File.name.now c.args.bytes.now)) before.made after.made) (GivesSome (Some c.in-File.name.now) c.args.bytes.now before after)
    (λ some. appended_some c.in-File.name.now c.args.bytes.now before after some c.append_all.ensures.only) c.append_all.ensures.err)
