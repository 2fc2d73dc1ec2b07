-- Lines that are spread are lines of a placement.
use Rattle.std.proofs.Common.{ℕ, ◌≡◌, ◌+◌, ◌*◌, List, length, ◌∙◌, arith}
use Rattle.row_place.specs.declared.placement.Placement.{Placement}
use Rattle.row_compact.specs.Solution.{AreSpread}
use Rattle.cell_draw.specs.Sound.{AreLines}

-- those of a placement with so many
pub spread_lines : (p : Placement) (xs : List ℕ) (lines : ℕ) → lines ≡ 2 * length p.units + 1 → AreSpread lines xs → AreLines p xs
spread_lines p xs lines e s = record { lines = s.count ∙ e; first = s.first (omega (arith, e)); next = λ line short. s.next line (omega (arith, e, short)) }
