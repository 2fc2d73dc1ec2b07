use Rattle.std.proofs.Common.{length}
use Rattle.track_ways.proofs.crowds.+none_crowded.Given as goal

abbrev pub decreases-none_crowded : goal.decreases-none_crowded
decreases-none_crowded l = length l.lines.now
