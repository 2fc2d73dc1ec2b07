use Rattle.std.proofs.Common.{IsPermutation, sym, subst}
use Rattle.std.specs.List.{All}
use Rattle.std.proofs.lemmas.List.Sorted.{All-permutation}
use Rattle.box_geom.specs.Regions.{IsBlock}
use Rattle.box_geom.proofs.Rising.{made_moved}
use Rattle.box_geom.proofs.bands.bands.Goals as goal

pub rising_bands-requires-clause-first : goal.rising_bands-requires-clause-first
rising_bands-requires-clause-first c = subst (All IsBlock) (sym c.as_slice.ensures.value) (All-permutation IsBlock c.args.first.now c.in_ok-a.a.items c.in_ok-a.ensures.same c.requires.first)

pub rising_bands-requires-clause-second : goal.rising_bands-requires-clause-second
rising_bands-requires-clause-second c = subst (All IsBlock) (sym c.as_slice-2.ensures.value) (All-permutation IsBlock c.args.second.now c.in_ok-b.b.items c.in_ok-b.ensures.same c.requires.second)

pub returns : goal.returns
returns c =
    made_moved c.args.operation c.args.first.now c.args.second.now c.as_slice.result.now c.as_slice-2.result.now c.in_ok-made.made.items
    (subst (IsPermutation c.args.first.now) (sym c.as_slice.ensures.value) c.in_ok-a.ensures.same)
    (subst (IsPermutation c.args.second.now) (sym c.as_slice-2.ensures.value) c.in_ok-b.ensures.same) c.in_ok-made.ensures
