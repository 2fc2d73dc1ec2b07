-- The first two lines.
use Rattle.std.specs.Prelude.{ℕ, ◌≡◌, List, ◌++◌, codes}
use Rattle.std.proofs.Common.{append_assoc}
use Rattle.track_log.specs.declared.certificate.Course.{Course}
use Rattle.track_log.specs.Text.{head_lines, version_line_by}

-- the first two lines after a text
pub head_apart : (out name : List ℕ) (by : Course) → (((out ++ version_line_by by) ++ codes "\ncell ") ++ name) ++ codes "\n" ≡ out ++ head_lines by name
head_apart out name by = go (version_line_by by) (codes "\ncell ") (codes "\n")
  where
    go : (version cell end : List ℕ) → (((out ++ version) ++ cell) ++ name) ++ end ≡ out ++ (((version ++ cell) ++ name) ++ end)
    go version cell end = simp append_assoc
