use Rattle.std.proofs.lemmas.Bool.Decides.{Decides-at}
use Rattle.std.specs.List.{list_all}
use Rattle.track_check.specs.Steps.{agrees}
use Rattle.track_check.proofs.Listed.{single_decides}
use Rattle.track_check.proofs.valid.are_single.Goals as goal

pub returns : goal.returns
returns c = Decides-at c.all_agree.result (list_all (λ t. list_all (agrees t) c.args.tracks.now) c.args.tracks.now) c.all_agree.ensures (single_decides c.args.tracks.now)
