use Rattle.std.proofs.Common.{◌≡◌, ◌⊎◌, inr}
use Rattle.cell_io.specs.Desk.{View, Both, ForSome, AppendedIn, WrittenIn}
use Rattle.cell_io.proofs.Puts.{refused_so, written_some}
use Rattle.cell_io.proofs.output.write_all.Goals as goal

pub returns-in-Ok-clause-err : goal.returns-in-Ok-clause-err
returns-in-Ok-clause-err g c =
    let before : View = g.D.Desk.view c.args.desk.now in
    let created : View = g.D.Desk.view c.create.new.self in
    let after : View = g.D.Desk.view c.append_all.new.desk in
    refused_so c.append_all.result
    (Both (ForSome c.args.bytes.now (AppendedIn c.args.name.now c.args.bytes.now)) created.made after.made)
    ((after.made ≡ before.made) ⊎ Both (ForSome c.args.bytes.now (WrittenIn c.args.name.now c.args.bytes.now)) before.made after.made)
    (λ some. inr (written_some c.args.name.now c.args.bytes.now before.made created.made after.made c.in-Ok.ensures.made some))
    c.append_all.ensures.err
