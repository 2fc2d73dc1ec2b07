use Rattle.std.proofs.Common.{inl, inr, refl, arith, rules}
use Rattle.cell_io.specs.Desk.{View, Rose}
use Rattle.call_end.specs.declared.status.Status.TheVariants as status
use Rattle.call_end.proofs.Delivered.{report_some}
use Rattle.call_end.proofs.Delivered.{rose_wider}
use Rattle.call_end.proofs.delivery.deliver.Goals as goal

pub returns-in-Err-Failed-give-clause-tells : goal.returns-in-Err-Failed-give-clause-tells
returns-in-Err-Failed-give-clause-tells g c =
    let before : View = g.D.Desk.view c.args.desk.now in
    let mid : View = g.D.Desk.view c.make_files.new.desk in
    let after : View = g.D.Desk.view c.give.new.desk in
    let rose : Rose mid.write_faults after.write_faults = search rules in
    report_some c.args.end status.WriteFault before mid after c.make_files.ensures.only c.in-Ok.ensures.all c.in-Ok.ensures.once c.give.ensures.only c.in-Err-Failed-give.ensures.some
    (inl (refl, rose_wider before.write_faults mid.write_faults after.write_faults after.write_faults c.make_files.ensures.only.writes (omega arith) rose))

pub returns-in-Err-NoMemory-give-clause-tells : goal.returns-in-Err-NoMemory-give-clause-tells
returns-in-Err-NoMemory-give-clause-tells g c =
    let before : View = g.D.Desk.view c.args.desk.now in
    let mid : View = g.D.Desk.view c.make_files.new.desk in
    let after : View = g.D.Desk.view c.give.new.desk in
    let rose : Rose mid.shorts after.shorts = search rules in
    report_some c.args.end status.NoMemory before mid after c.make_files.ensures.only c.in-Ok.ensures.all c.in-Ok.ensures.once c.give.ensures.only c.in-Err-NoMemory-give.ensures.some
    (inr (refl, rose_wider before.shorts mid.shorts after.shorts after.shorts c.make_files.ensures.only.shorts (omega arith) rose))
