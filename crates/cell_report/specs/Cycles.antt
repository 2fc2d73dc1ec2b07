-- The lines of a cycle of nets or of pieces of nets, each of which is above the next, and the last above the first.
use Rattle.std.specs.Prelude.{ℕ, ◌+◌, nat_lt, if◌then◌else◌, List, [], ◌++◌, length, slice_get, flat_map, codes}
use Rattle.std.specs.Prelude.{decimal, Option, Some, None}
use Rattle.std.specs.List.{enumerate_from}
use Rattle.channel_route.specs.declared.ring.Ring.{Ring}
use Rattle.channel_route.specs.declared.ring.Ring.TheVariants.{OfNets, OfPieces}
use Rattle.channel_route.specs.declared.routing.Above.{Above}
use Rattle.channel_route.specs.declared.routing.WireAbove.{WireAbove}
use Rattle.cell_report.specs.Names.{name_of}

-- the place of the entry below another: the next one, or after the last the first
abbrev pub below : ℕ → ℕ → ℕ
below count at = if nat_lt (at + 1) count then at + 1 else 0

-- ---- entries of any type, by how one is reported, and by the line at which it meets the entry below

abbrev pub entry_text : {A : Type 0} → (A → List ℕ) → Option A → List ℕ
entry_text told None = []
entry_text told (Some entry) = told entry

-- an entry, and the one below it
abbrev pub pair_text : {A : Type 0} → (A → List ℕ) → List A → ℕ × A → List ℕ
pair_text told cycle numbered =
    told numbered.1 ++ codes " above " ++ entry_text told (slice_get cycle (below (length cycle) numbered.0))

-- the two, and the line at which they meet
abbrev pub above_text : {A : Type 0} → (A → List ℕ) → (A → ℕ) → List A → ℕ × A → List ℕ
above_text told line cycle numbered =
    pair_text told cycle numbered ++ codes " at line " ++ decimal (line numbered.1) ++ codes "\n"

abbrev pub cycle_text : {A : Type 0} → (A → List ℕ) → (A → ℕ) → List A → List ℕ
cycle_text told line cycle = flat_map (above_text told line cycle) (enumerate_from 0 cycle)

-- ---- nets and pieces

abbrev pub net_text : List (List ℕ) → Above → List ℕ
net_text nets above = name_of nets above.net.0

-- a piece is named by its net and its first line
abbrev pub piece_text : List (List ℕ) → WireAbove → List ℕ
piece_text nets piece = name_of nets piece.net.0 ++ codes " from line " ++ decimal piece.left

-- a line for each net of a cycle
abbrev pub nets_text : List (List ℕ) → List Above → List ℕ
nets_text nets cycle = cycle_text (net_text nets) (λ above. above.line) cycle

abbrev pub ring_text : List (List ℕ) → Ring → List ℕ
ring_text nets (OfNets cycle) = nets_text nets cycle
ring_text nets (OfPieces cycle) = cycle_text (piece_text nets) (λ piece. piece.line) cycle
