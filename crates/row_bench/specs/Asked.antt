-- The words of a call of this program.
use Rattle.std.specs.Prelude.{ℕ, List, [], ◌∷◌, Option, Some, None, option_map, codes, bytes_eq, String, map}
use Rattle.std.specs.Prelude.{string_bytes, if◌then◌else◌}
use Rattle.std.specs.declared.alloc.Global.{Global}
use Rattle.row_state.specs.declared.log_bound.LogBound.{LogBound}
use Rattle.row_state.specs.declared.log_bound.LogBound.TheVariants.{One, Two}
use Rattle.row_bench.specs.declared.inputs.Asked.{Asked as Read}

-- the bound of a log's version, the names of a technology file and of a SPICE file, and a cell
pub record Call : Type 0 where
  pub bound : LogBound
  pub tech : List ℕ
  pub spice : List ℕ
  pub cell : List ℕ

abbrev pub shown : Read → Call
shown asked = record { bound = asked.bound; tech = asked.tech.now; spice = asked.spice.now; cell = asked.cell.now }

abbrev pub bound_of : List ℕ → Option LogBound
bound_of version =
    if bytes_eq version (codes "1") then Some One else if bytes_eq version (codes "2") then Some Two else None

abbrev pub call_of : List (List ℕ) → Option Call
call_of (version ∷ tech ∷ spice ∷ cell ∷ []) =
    option_map (λ bound. record { bound = bound; tech = tech; spice = spice; cell = cell }) (bound_of version)
call_of _ = None

abbrev pub asked : List (String Global) → Option Call
asked words = call_of (map string_bytes words)
