use Rattle.std.proofs.Common.{◌≡◌, refl, arith, w32, to_z, of_z}
use Rattle.std.proofs.lemmas.Int.{to_z-of_z}
use Rattle.scmos_rules.proofs.Listing.{first_failing}
use Rattle.scmos_rules.proofs.checking.verdict.Goals as goal

pub returns-in-Some : goal.returns-in-Some
returns-in-Some c =
    let x : to_z w32 (of_z w32 c.in-Some.place.x) ≡ c.in-Some.place.x = grind (arith, to_z-of_z) in
    let y : to_z w32 (of_z w32 c.in-Some.place.y) ≡ c.in-Some.place.y = grind (arith, to_z-of_z) in
    record { rule = refl; first = first_failing c.args.deck c.args.shapes.now.rects c.args.rule c.in_ok-region.region _ _ c.in-Some.place.x c.in-Some.place.y c.in_ok-region.ensures c.in-Some.ensures.some x y }
