use Rattle.std.proofs.lemmas.Bool.Decides.{Decides-at}
use Rattle.std.specs.List.{list_all, list_any}
use Rattle.track_check.specs.Steps.{is_track}
use Rattle.track_check.proofs.Listed.{in_decides}
use Rattle.track_check.proofs.known.lists.Goals as goal

pub returns : goal.returns
returns c = Decides-at c.all_in.result (list_all (λ t. list_any (is_track t) c.args.way.now) c.args.tracks.now) c.all_in.ensures (in_decides c.args.way.now c.args.tracks.now)
