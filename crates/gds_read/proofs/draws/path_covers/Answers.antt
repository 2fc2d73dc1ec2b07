use Rattle.std.proofs.Common.{sym}
use Rattle.gds_read.specs.Elements.{inside_of}
use Rattle.gds_read.proofs.Visited.{path_covered}
use Rattle.gds_read.proofs.draws.path_covers.Goals as goal

pub returns : goal.returns
returns c = path_covered (inside_of c.args.bytes.now c.args.rec.now) c.in-Some.field-0 c.in_ok-some.some (sym c.in-Some.ensures) c.in_ok-some.ensures
