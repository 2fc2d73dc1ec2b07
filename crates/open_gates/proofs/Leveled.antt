-- The levels of an order are those of the definition, and none has many nodes.
use Rattle.std.specs.Prelude.{ℕ, ◌≡◌, ◌*◌, ◌≤◌, Bool, List, [], ◌∷◌, All, length, map}
use Rattle.std.specs.List.{filter, range_with_len}
use Rattle.std.proofs.Common.{refl, sym, ap, subst, arith, ◌∙◌}
use Rattle.std.proofs.lemmas.List.{length-map}
use Rattle.std.proofs.lemmas.List.Elements.{All-cons, All-nil}
use Rattle.std.proofs.lemmas.List.FromFn.{length-range_with_len}
use Rattle.std.proofs.lemmas.List.Sums.{count_by-le-length, length-filter}
use Rattle.cell_num.specs.declared.net.NetNo.{NetNo}
use Rattle.cell_num.specs.declared.finger.Fingers.{Fingers}
use Rattle.cell_num.specs.Fingers.{AreFingers}
use Rattle.trail_state.specs.declared.edge.Edge.{Edge}
use Rattle.trail_state.specs.declared.edge.Node.{Node}
use Rattle.trail_state.specs.Places.{node_at}
use Rattle.trail_state.specs.declared.level.Level.{Level}
use Rattle.trail_state.specs.Levels.{AreLevels}
use Rattle.trail_state.specs.Nodes.{any_can_meet, open_nodes}
use Rattle.open_gates.specs.declared.gates.OpenGates.{OpenGates}
use Rattle.open_gates.specs.Leveled.{choices_in, level_in, levels_of, merged_levels, nodes_in}
use Rattle.open_gates.specs.Listed.{HasFewNodes}
use Rattle.open_gates.specs.Merged.{is_merged_from}
use Rattle.open_gates.specs.Open.{is_merged_net}

pub are_levels : (f : Fingers) (order : List NetNo) (levels : List Level) → AreLevels f order levels → levels ≡ levels_of f order
unfolding levels_of
are_levels f [] [] is = refl
are_levels f [] (l ∷ ls) is = absurd is
are_levels f (g ∷ gs) [] is = absurd is
are_levels f (g ∷ gs) (l ∷ ls) (first, rest) =
    let later : ls ≡ levels_of f gs = are_levels f gs ls rest in
    λ i. record { now = first.now i; next = first.next i; choices = first.choices i } ∷ later i

pub levels_are : (f : Fingers) (order : List NetNo) → AreLevels f order (levels_of f order)
unfolding levels_of
levels_are f [] = tt
levels_are f (g ∷ gs) = (record { now = refl; next = refl; choices = refl }, levels_are f gs)

pub no_level : (f : Fingers) (opened : OpenGates) (order : List NetNo) → length order ≡ 0 → [] ≡ merged_levels f opened order
unfolding merged_levels
no_level f opened [] none = refl
no_level f opened (g ∷ gs) none = absurd (omega (arith, none))

pub level_is : (f : Fingers) (opened : OpenGates) (order : List NetNo) (gate : NetNo) (later : List NetNo) (now next : List Node) (choices : List (List Edge)) → order ≡ gate ∷ later → now ≡ nodes_in f opened order → next ≡ nodes_in f opened later → choices ≡ choices_in f opened gate.0 → ◌≡◌ {A = Level} (record { now = now; next = next; choices = choices }) (level_in f opened gate later)
level_is f opened order gate later now next choices first all rest chosen =
    let first_now : now ≡ nodes_in f opened (gate ∷ later) = all ∙ ap (nodes_in f opened) first in
    λ i. record { now = first_now i; next = rest i; choices = chosen i }

pub first_level : (f : Fingers) (opened : OpenGates) (gate : NetNo) (later : List NetNo) → merged_levels f opened (gate ∷ later) ≡ level_in f opened gate later ∷ merged_levels f opened later
unfolding merged_levels
first_level f opened gate later = refl

few_passing : (p : ℕ → Bool) (n : ℕ) → n ≤ 65536 → length (map node_at (filter p (range_with_len 0 n))) ≤ 65536
few_passing p n few =
    let all : List ℕ = range_with_len 0 n in
    omega (arith, few, length-map (filter p all) node_at, length-filter p all, count_by-le-length p all, length-range_with_len 0 n)

pub few_nodes : (f : Fingers) (order : List NetNo) (levels : List Level) → f.nets ≤ 256 → AreLevels f order levels → All HasFewNodes levels
few_nodes f [] [] few is = All-nil HasFewNodes
few_nodes f [] (l ∷ ls) few is = absurd is
few_nodes f (g ∷ gs) [] few is = absurd is
few_nodes f (g ∷ gs) (l ∷ ls) few (first, rest) =
    All-cons HasFewNodes l ls (omega (arith, few_passing (any_can_meet f (g ∷ gs)) (256 * f.nets) (omega (arith, few)), ap length first.now)) (few_nodes f gs ls few rest)

few_when_open : (f : Fingers) (opened : OpenGates) (order : List NetNo) → f.nets ≤ 256 → All HasFewNodes (merged_levels f opened order)
unfolding merged_levels
few_when_open f opened [] few = All-nil HasFewNodes
few_when_open f opened (g ∷ gs) few =
    All-cons HasFewNodes (level_in f opened g gs) (merged_levels f opened gs)
    (few_passing (is_merged_from opened.row (is_merged_net f opened) (open_nodes f (g ∷ gs))) (256 * f.nets) (omega (arith, few))) (few_when_open f opened gs few)

-- so are the levels where some gates are left open
pub few_merged : (f : Fingers) (opened : OpenGates) (order : List NetNo) (levels : List Level) → AreFingers f → levels ≡ merged_levels f opened order → All HasFewNodes levels
few_merged f opened order levels ok is = subst (All HasFewNodes) (sym is) (few_when_open f opened order ok.few_nets)
