-- The first two lines.
use Rattle.std.specs.Prelude.{ℕ, ◌≡◌, List, ◌++◌, codes}
use Rattle.std.proofs.Common.{append_assoc}
use Rattle.order_log.specs.Text.{head_lines}

-- the first two lines behind a text
pub head_behind : (out version name : List ℕ) → (((out ++ version) ++ codes "\ncell ") ++ name) ++ codes "\n" ≡ out ++ head_lines version name
head_behind out version name = simp append_assoc
