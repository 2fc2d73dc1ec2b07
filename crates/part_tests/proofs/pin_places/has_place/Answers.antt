use Rattle.std.proofs.Common.{◌≡◌, true, subst}
use Rattle.part_tests.proofs.HasPlaces.{has_line}
use Rattle.part_tests.proofs.pin_places.has_place.Goals as goal

pub returns : goal.returns
returns c e = has_line c.args.placement.now c.args.net (subst (λ b. b ≡ true) c.is_named.ensures e)
