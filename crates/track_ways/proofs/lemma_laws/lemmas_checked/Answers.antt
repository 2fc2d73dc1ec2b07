use Rattle.track_ways.proofs.Checked.{justified_decided}
use Rattle.track_ways.proofs.lemma_laws.lemmas_checked.Goals as goal

pub returns : goal.returns
returns c = justified_decided
