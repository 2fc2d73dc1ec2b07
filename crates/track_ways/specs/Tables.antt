-- Sets of nets as tables.
use Rattle.std.specs.Prelude.{ℕ, Bool, ◌<◌, List, Option, IfSome}
use Rattle.cell_num.specs.declared.net.NetNo.{NetNo}
use Rattle.row_trails.specs.Counts.{flag}
use Rattle.track_ways.specs.declared.line.Line.{Line}

abbrev pub marked : List Bool → NetNo → Bool
marked table net = flag table net.0

-- the net of a place, if there is one, has an entry in a table of this length
abbrev pub HasEntry : ℕ → Option NetNo → Type 0
HasEntry nets place = IfSome place (λ (net : NetNo). net.0 < nets)

-- all nets of the line have entries
pub record HasEntries (nets : ℕ) (line : Line) : Type 0 where
  pub p : HasEntry nets line.p
  pub n : HasEntry nets line.n
  pub gate : HasEntry nets line.gate
