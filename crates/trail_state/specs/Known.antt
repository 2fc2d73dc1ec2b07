-- Parts of a front, each with those of its next columns that lead only to parts that earlier ones lead to too.
use Rattle.std.specs.Prelude.{ℕ, ◌<◌, ◌++◌, Bool, true, false, if◌then◌else◌, leb, List, [], ◌∷◌, Contains, drop}
use Rattle.std.specs.Prelude.{get_or, length, map, take}
use Rattle.std.specs.List.{flat_map, list_any}
use Rattle.trail_state.specs.declared.edge.Edge.{Edge}
use Rattle.trail_state.specs.declared.edge.FingerEnds.{FingerEnds}
use Rattle.trail_state.specs.declared.front.Known.{Known}
use Rattle.trail_state.specs.declared.front.Part.{Part}
use Rattle.trail_state.specs.declared.front.Reached.{Reached}
use Rattle.trail_state.specs.declared.gate.Gate.{Gate}
use Rattle.trail_state.specs.Edges.{n_edges, p_edges, pair_edges}
use Rattle.trail_state.specs.Fronts.{is_same, next_parts, paired_with, same_nets, with_column, without}
use Rattle.trail_state.specs.Sorted.{inserted}

abbrev pub parts_of : List Reached → List Part
parts_of all = map (λ (r : Reached). r.part) all

abbrev pub is_reached : Reached → Reached → Bool
is_reached r s = is_same r.part s.part

-- each part once, with what is known of it where it comes first
abbrev pub with_reached : List Reached → Reached → List Reached
with_reached all r = if list_any (is_reached r) all then all else all ++ r ∷ []

-- the part with a column of the P finger and the first of these N fingers, by the first of the edges; where there is no
-- N finger, of the P finger alone
abbrev pub known_edges : Gate → FingerEnds → List FingerEnds → Part → ℕ → List FingerEnds → List Part
known_edges gate x xs part edges [] =
    if leb (length part.left) (length xs) then with_column part part.left (take edges (p_edges gate.n_fill x)) else []
known_edges gate x xs part edges (y ∷ ys) = with_column part (without y part.left) (take edges (pair_edges x y))

abbrev pub known_alone : Gate → Part → ℕ → List FingerEnds → List Part
known_alone gate part edges [] = []
known_alone gate part edges (y ∷ ys) = with_column part ys (take edges (n_edges gate.p_fill y))

-- the part with its next column in each way that is known
abbrev pub known_parts : Gate → List FingerEnds → Part → Known → List Part
known_parts gate [] part known = known_alone gate part known.edges part.left
known_parts gate (x ∷ xs) part known =
    flat_map (paired_with x part) (take known.fingers part.left)
    ++ known_edges gate x xs part known.edges (drop known.fingers part.left)

-- a part that one of these is with its next column
pub record Before (gate : Gate) (xs : List FingerEnds) (front : List Part) (p : Part) : Type 0 where
  pub part : Part
  pub there : Contains front part
  pub next : Contains (next_parts gate xs part) p

-- earlier parts lead to the parts that are known
abbrev pub IsKnown : Gate → List FingerEnds → List Part → Reached → Type 0
IsKnown gate xs before r = (p : Part) → Contains (known_parts gate xs r.part r.known) p → Before gate xs before p

unfoldable pub AreKnown : Gate → List FingerEnds → List Reached → Type 0
AreKnown gate xs all = (i : ℕ) (d : Reached) → i < length all → IsKnown gate xs (parts_of (take i all)) (get_or all i d)

abbrev pub HasAll : List Part → List Part → Type 0
HasAll parts some = (p : Part) → Contains some p → Contains parts p

-- the part with one of the edges of a column
abbrev pub reached_by : Part → List FingerEnds → ℕ → ℕ → Edge → Reached
reached_by part left fingers edges e = record {
  part = record { edges = inserted e part.edges; left = left };
  known = record { fingers = fingers; edges = edges };
}

-- what is known of the part with each of these edges, where these parts and those with the edges before it are there
unfoldable pub AreNext : Gate → List FingerEnds → List Part → Part → List FingerEnds → ℕ → Bool → List Edge → Type 0
AreNext gate xs before part left fingers again edges = (number : ℕ) (d : Edge) → number < length edges →
    IsKnown gate xs (before ++ with_column part left (take number edges))
    (reached_by part left fingers (if again then number else 0) (get_or edges number d))

-- the next of these P fingers has the nets of the first, or there are none
abbrev pub is_again : List FingerEnds → Bool
is_again [] = true
is_again (x ∷ []) = false
is_again (x ∷ y ∷ ys) = same_nets x y

abbrev pub known_now : Bool → Reached → Known
known_now again r = if again then r.known else record { fingers = 0; edges = 0 }
