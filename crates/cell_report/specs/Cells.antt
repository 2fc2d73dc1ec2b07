-- The lines of a drawn cell, and of a cell that is too tall. Lengths are in grid units of half a lambda each.
use Rattle.std.specs.Prelude.{ℕ, List, [], ◌++◌, codes}
use Rattle.cell_num.specs.Lines.{count_line, pair_line}
use Rattle.track_log.specs.declared.certificate.Course.{Course}
use Rattle.track_log.specs.declared.certificate.Course.TheVariants.{Straight, Turning}

-- no least row has a legal routing on fewer tracks
abbrev pub fewest_text : ℕ → List ℕ
fewest_text fewest = count_line (codes "fewest ") fewest

-- no least row has a legal routing by pieces on fewer tracks
abbrev pub fewest_dogleg_text : ℕ → List ℕ
fewest_dogleg_text fewest = count_line (codes "fewest-dogleg ") fewest

-- the one or the other, as nets go straight or may turn
abbrev pub fewest_by : Course → ℕ → List ℕ
fewest_by Straight fewest = fewest_text fewest
fewest_by Turning fewest = fewest_dogleg_text fewest

-- the tracks of a drawn cell, the text of the line `fewest` or none, the cell's width and height
abbrev pub sizes_with : ℕ → List ℕ → ℕ → ℕ → List ℕ
sizes_with tracks fewest width height =
    count_line (codes "tracks ") tracks ++ fewest ++ pair_line (codes "size ") width (codes " ") height

-- the same without a line `fewest`
abbrev pub sizes_text : ℕ → ℕ → ℕ → List ℕ
sizes_text tracks width height = sizes_with tracks [] width height

-- the height that the cell needs, and the given one
abbrev pub tall_text : ℕ → ℕ → List ℕ
tall_text needed given = count_line (codes "needed ") needed ++ count_line (codes "given ") given
