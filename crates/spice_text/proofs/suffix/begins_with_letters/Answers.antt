use Rattle.spice_text.proofs.Letters.{begins_is}
use Rattle.spice_text.proofs.suffix.begins_with_letters.Goals as goal

pub returns : goal.returns
returns c = begins_is c.eq_ignore_ascii_case.result c.min.result c.args.front.now c.args.text.now c.min.ensures c.eq_ignore_ascii_case.ensures.test
