use Rattle.track_ways.proofs.Checked.{justified_decided_by}
use Rattle.track_ways.proofs.lemma_laws.lemmas_checked_by.Goals as goal

pub returns : goal.returns
returns g c = justified_decided_by g.met.R.TrackRule.is_rule
