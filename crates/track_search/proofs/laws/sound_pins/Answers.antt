use Rattle.track_search.proofs.LowestFound.{have_pins}
use Rattle.track_search.proofs.laws.sound_pins.Goals as goal

pub returns : goal.returns
returns c = have_pins
