-- The first two lines.
use Rattle.std.specs.Prelude.{ℕ, ◌≡◌, List, ◌++◌, codes}
use Rattle.std.proofs.Common.{◌∙◌, append_assoc}
use Rattle.trail_log.specs.Text.{head_lines}

-- the first two lines behind a text
pub head_behind : (out name : List ℕ) → ((out ++ codes "cellgen-trails 1\ncell ") ++ name) ++ codes "\n" ≡ out ++ head_lines name
head_behind out name = append_assoc (out ++ codes "cellgen-trails 1\ncell ") name (codes "\n") ∙ append_assoc out (codes "cellgen-trails 1\ncell ") (name ++ codes "\n")
