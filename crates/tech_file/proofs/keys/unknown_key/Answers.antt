use Rattle.tech_file.proofs.Least.{first_is_least}
use Rattle.tech_file.proofs.keys.unknown_key.Goals as goal

pub returns-in-Some : goal.returns-in-Some
returns-in-Some c =
    let least = first_is_least c.first_unknown.result c.args.table.now c.first_unknown.ensures.first c.first_unknown.ensures.ordered in
    rw (c.as_str.ensures.value, least, c.in-Some.is)

pub returns-in-None : goal.returns-in-None
returns-in-None c =
    let least = first_is_least c.first_unknown.result c.args.table.now c.first_unknown.ensures.first c.first_unknown.ensures.ordered in
    rw (least, c.in-None.is)
