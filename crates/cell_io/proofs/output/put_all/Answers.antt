use Rattle.std.proofs.Common.{◌≤◌, length, drop, arith, length-drop, take, ◌-◌, option_map}
use Rattle.std.proofs.lemmas.List.{length-take-le}
use Rattle.cell_io.proofs.Puts.{puts_rest, quiet_more}
use Rattle.cell_io.proofs.output.put_all.Goals as goal

pub parts-preserved : goal.parts-preserved
parts-preserved g c =
    let within : c.in-Ok.count ≤ length (take (length c.args.bytes.now - c.parts.at) (drop c.parts.at c.args.bytes.now)) = c.in-Ok.ensures.within in (
      omega (arith, within, length-drop c.parts.at c.args.bytes.now, length-take-le (length c.args.bytes.now - c.parts.at) (drop c.parts.at c.args.bytes.now)),
      puts_rest (option_map (λ name. name.now) c.args.file) c.args.bytes.now c.parts.at c.in-Ok.count (g.D.Desk.view c.args.desk.now) (g.D.Desk.view c.parts.desk) (g.D.Desk.view c.put_part.new.desk) c.parts.invariant.1 c.in-Ok.ensures.puts,
      quiet_more (g.D.Desk.view c.args.desk.now) (g.D.Desk.view c.parts.desk) (g.D.Desk.view c.put_part.new.desk) c.parts.invariant.2 (c.in-Ok.ensures.quiet (omega arith)),
    )
