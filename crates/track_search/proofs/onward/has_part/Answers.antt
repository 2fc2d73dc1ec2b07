use Rattle.std.proofs.Common.{◌↔◌, subst}
use Rattle.std.specs.Prelude.{IsTrue}
use Rattle.track_search.specs.Visit.{HasPart}
use Rattle.track_search.proofs.onward.has_part.Goals as goal

pub returns : goal.returns
returns c =
    subst (λ w. IsTrue c.lists.result ↔ HasPart w c.args.other.now) c.as_slice.ensures
    (subst (λ ts. IsTrue c.lists.result ↔ HasPart c.as_slice.result.now ts) c.as_slice-2.ensures c.lists.ensures)
