-- Which rectangles of a list touch, and where one is near another with another label.
use Rattle.std.specs.Prelude.{ℕ, ◌==◌, List, [], ◌∷◌, ◌++◌, if◌then◌else◌, slice_index}
use Rattle.box_geom.specs.Rectangle.{Rectangle}
use Rattle.box_geom.specs.Comparisons.{touching}
use Rattle.box_geom.specs.Moving.{is_proper, near_part}
use Rattle.number_trees.specs.declared.linking.Link.{Link}
use Rattle.scmos_rules.specs.declared.parts.NumberedBlock.{NumberedBlock}

-- the link of two parts, where they touch
abbrev pub link_of : NumberedBlock → NumberedBlock → List Link
link_of a b = if touching a.block b.block then record { one = a.number; other = b.number } ∷ [] else []

-- the part of a within d of b
abbrev pub some_part : ℕ → Rectangle → Rectangle → List Rectangle
some_part d a b = if is_proper (near_part d a b) then near_part d a b ∷ [] else []

-- of two parts with different labels, what of each is within d of the other
abbrev pub hits_of : ℕ → List ℕ → NumberedBlock → NumberedBlock → List Rectangle
hits_of d labels a b =
    if slice_index labels a.number == slice_index labels b.number then []
    else some_part d a.block b.block ++ some_part d b.block a.block
