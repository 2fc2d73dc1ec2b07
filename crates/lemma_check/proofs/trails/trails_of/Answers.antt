use Rattle.std.specs.Prelude.{nat_eq}
use Rattle.std.specs.HashMap.{get}
use Rattle.std.proofs.Common.{rules, ◌≡◌, Some, sym}
use Rattle.lemma_check.proofs.Noting.{noted_more}
use Rattle.lemma_check.proofs.trails.trails_of.Goals as goal

pub returns-in-Some-clause-trails : goal.returns-in-Some-clause-trails
returns-in-Some-clause-trails g c =
    let held : get nat_eq c.args.noted.now c.row_number-number.result ≡ Some c.in-Some.trails = search rules in
    c.requires.noted c.row_number-number.result c.in-Some.trails c.args.state.now held c.requires.state (sym c.row_number-number.ensures.number)

pub returns-clause-noted : goal.returns-clause-noted
returns-clause-noted g c = noted_more (g.B.RowBound.trails_of c.args.bound.now) c.args.row c.args.kinds.now (get nat_eq c.args.noted.now) (get nat_eq c.note.new.noted) c.row_number-number.result c.trails-trails.result c.args.state.now c.requires.noted c.requires.state c.row_number-number.ensures.number c.trails-trails.ensures c.in_ok-note.ensures.noted c.in_ok-note.ensures.others
