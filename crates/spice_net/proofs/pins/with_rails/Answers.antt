use Rattle.std.proofs.Common.{rules, ◌≡◌}
use Rattle.spice_net.specs.Reader.{names_of}
use Rattle.spice_net.specs.Subcircuit.{with_rails}
use Rattle.spice_net.proofs.PinFacts.{rails_distinct}
use Rattle.spice_net.proofs.pins.with_rails.Goals as goal

pub returns-clause-distinct : goal.returns-clause-distinct
returns-clause-distinct c = λ once.
    let all : names_of c.add_rail-2.new.pins.keys ≡ with_rails c.args.tech.now c.args.lines.now (names_of c.args.pins.keys) = search rules in
    rw all (rails_distinct c.args.tech.now c.args.lines.now (names_of c.args.pins.keys) once)
