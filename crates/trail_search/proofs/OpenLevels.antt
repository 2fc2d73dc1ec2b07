-- The levels of an order where gates are left open: pairs of nets, each level with the nodes of the next one.
use Rattle.std.specs.Prelude.{ℕ, zero, suc, ◌≡◌, ◌+◌, ◌*◌, ◌<◌, ◌≤◌, ◌==◌, Bool, true, false, List, [], ◌∷◌, Some, Contains, if◌then◌else◌, length, map, slice_get}
use Rattle.std.specs.List.{filter, range_with_len}
use Rattle.std.proofs.Common.{refl, sym, ap, subst, arith, ◌∙◌}
use Rattle.std.proofs.lemmas.Bool.{eqb-true}
use Rattle.std.proofs.lemmas.List.Elements.{All-cons, All-contains, All-nil}
use Rattle.std.proofs.lemmas.List.Kept.{AllPairs-filter}
use Rattle.std.proofs.lemmas.Option.{none-some, same_Some}
use Rattle.cell_num.proofs.In.{Image, in_map}
use Rattle.cell_num.proofs.Lists.{all_from_contains}
use Rattle.cell_num.proofs.Pairs.{Some', pairs_map, test_finds}
use Rattle.cell_num.specs.declared.net.NetNo.{NetNo}
use Rattle.cell_num.specs.declared.finger.Row.{Row}
use Rattle.cell_num.specs.declared.finger.Row.TheVariants.{P, N}
use Rattle.cell_num.specs.declared.finger.Fingers.{Fingers}
use Rattle.cell_num.specs.Fingers.{AreFingers}
use Rattle.trail_state.specs.declared.edge.Node.{Node}
use Rattle.trail_state.specs.declared.level.Level.{Level}
use Rattle.trail_state.specs.Levels.{IsOrder}
use Rattle.trail_state.specs.Nodes.{open_nodes}
use Rattle.trail_state.specs.Places.{node_at}
use Rattle.trail_state.proofs.Members.{Passes, passes_from}
use Rattle.open_gates.specs.declared.gates.OpenGates.{OpenGates}
use Rattle.open_gates.specs.Leveled.{choices_in, levels_in, levels_of, merged_levels, nodes_in}
use Rattle.open_gates.specs.Merged.{is_merged_from, merged, net_in, node_of}
use Rattle.open_gates.specs.Open.{is_merged_net}
use Rattle.open_gates.proofs.Law.{none_merged}
use Rattle.open_gates.proofs.Leveled.{levels_are}
use Rattle.trail_check.specs.Listed.{nodes_of}
use Rattle.trail_search.specs.Line.{AllNodes, AreNodes, IsNode}
use Rattle.trail_search.specs.Search.{AreChained}
use Rattle.trail_search.proofs.Lines.{level_nodes}
use Rattle.trail_search.proofs.Orders.{order_short, range_ascends}
use Rattle.trail_search.proofs.Proved.{are_chained, level_nodes_of, levels_short, open_are_nodes}

-- ---- merged nodes

merged_fits : (row : Row) (nets : ℕ → Bool) (most : ℕ) (v : Node) → IsNode most v → IsNode most (node_at (merged row nets v.0))
merged_fits row nets most v fits = at row (nets (net_in row v.0))
  where
    at : (r : Row) (b : Bool) → IsNode most (node_at (if b then node_of r (net_in r v.0) else v.0))
    at P true = (omega (arith, fits.0), omega (arith, fits.0))
    at N true = (omega (arith, fits.0), omega (arith, fits.1))
    at P false = fits
    at N false = fits

merged_are_nodes : (f : Fingers) (opened : OpenGates) (gates : List NetNo) → AreFingers f → AreNodes f.nets (nodes_in f opened gates)
merged_are_nodes f opened gates ok =
    let p : ℕ → Bool = is_merged_from opened.row (is_merged_net f opened) (open_nodes f gates) in
    let passing : List ℕ = filter p (range_with_len 0 (256 * f.nets)) in
    record {
      ascend = pairs_map (λ (a b : ℕ). a < b) (Contains passing) (λ (a b : Node). a.0 < b.0) node_at passing (λ a b _ _ less. less) (all_from_contains (Contains passing) passing (λ v k. k)) (AllPairs-filter (λ (a b : ℕ). a < b) p (range_with_len 0 (256 * f.nets)) (range_ascends (256 * f.nets)));
      within = all_from_contains (IsNode f.nets) (map node_at passing) at;
    }
  where
    at : (v : Node) → Contains (nodes_in f opened gates) v → IsNode f.nets v
    at v k =
        let p : ℕ → Bool = is_merged_from opened.row (is_merged_net f opened) (open_nodes f gates) in
        let i : Image node_at (filter p (range_with_len 0 (256 * f.nets))) v = in_map node_at (filter p (range_with_len 0 (256 * f.nets))) v k in
        let q : Passes p (range_with_len 0 (256 * f.nets)) i.of = passes_from p (range_with_len 0 (256 * f.nets)) i.of i.listed in
        let s : Some' (λ (w : Node). (merged opened.row (is_merged_net f opened) w.0 == i.of) ≡ true) (open_nodes f gates) = test_finds (λ (w : Node). merged opened.row (is_merged_net f opened) w.0 == i.of) (open_nodes f gates) q.passes in
        let fits : IsNode f.nets s.it = All-contains (IsNode f.nets) (open_nodes f gates) s.it (open_are_nodes f gates ok).within s.there in
        let same : merged opened.row (is_merged_net f opened) s.it.0 ≡ i.of = eqb-true (merged opened.row (is_merged_net f opened) s.it.0) i.of s.holds in
        subst (IsNode f.nets) (ap node_at same ∙ i.is) (merged_fits opened.row (is_merged_net f opened) f.nets s.it fits)

-- ---- merged levels

merged_nodes_all : (f : Fingers) (opened : OpenGates) (order : List NetNo) → AreFingers f → AllNodes f.nets (merged_levels f opened order)
unfolding merged_levels
merged_nodes_all f opened [] ok = All-nil (λ (level : Level). AreNodes f.nets level.now)
merged_nodes_all f opened (g ∷ gs) ok =
    All-cons (λ (level : Level). AreNodes f.nets level.now) (record { now = nodes_in f opened (g ∷ gs); next = nodes_in f opened gs; choices = choices_in f opened g.0 }) (merged_levels f opened gs) (merged_are_nodes f opened (g ∷ gs) ok) (merged_nodes_all f opened gs ok)

merged_many : (f : Fingers) (opened : OpenGates) (order : List NetNo) → length (merged_levels f opened order) ≡ length order
unfolding merged_levels
merged_many f opened [] = refl
merged_many f opened (g ∷ gs) = ap suc (merged_many f opened gs)

first_merged : (f : Fingers) (opened : OpenGates) (order : List NetNo) → nodes_of (slice_get (merged_levels f opened order) 0) ≡ nodes_in f opened order
unfolding merged_levels
first_merged f opened [] = sym (none_merged f opened)
first_merged f opened (g ∷ gs) = refl

next_merged : (f : Fingers) (opened : OpenGates) (order : List NetNo) (i : ℕ) (level : Level) → slice_get (merged_levels f opened order) i ≡ Some level → level.next ≡ nodes_of (slice_get (merged_levels f opened order) (i + 1))
unfolding merged_levels
next_merged f opened [] i level at = absurd (none-some level at)
next_merged f opened (g ∷ gs) zero level at = ap (λ (x : Level). x.next) (sym (same_Some (record { now = nodes_in f opened (g ∷ gs); next = nodes_in f opened gs; choices = choices_in f opened g.0 }) level at)) ∙ sym (first_merged f opened gs)
next_merged f opened (g ∷ gs) (suc i) level at =
    let e : suc i + 1 ≡ suc (i + 1) = omega arith in
    next_merged f opened gs i level at ∙ ap (λ (n : ℕ). nodes_of (slice_get (merged_levels f opened (g ∷ gs)) n)) (sym e)

-- ---- levels with open gates or without

by_none : (Q : List Level → Type 0) (f : Fingers) (opened : OpenGates) (order : List NetNo) → Q (levels_of f order) → Q (merged_levels f opened order) → Q (levels_in f opened order)
by_none Q f opened order closed of_gates = at (length opened.gates == 0)
  where
    at : (b : Bool) → Q (if b then levels_of f order else merged_levels f opened order)
    at true = closed
    at false = of_gates

pub open_all_nodes : (f : Fingers) (opened : OpenGates) (order : List NetNo) → AreFingers f → AllNodes f.nets (levels_in f opened order)
open_all_nodes f opened order ok = by_none (AllNodes f.nets) f opened order (level_nodes_of f order (levels_of f order) ok (levels_are f order)) (merged_nodes_all f opened order ok)

pub open_short : (f : Fingers) (opened : OpenGates) (order : List NetNo) (levels : List Level) → AreFingers f → IsOrder f order → levels ≡ levels_in f opened order → length levels ≤ 32
open_short f opened order levels ok is same =
    subst (λ (ls : List Level). length ls ≤ 32) (sym same) (by_none (λ ls. length ls ≤ 32) f opened order (levels_short f order (levels_of f order) ok is (levels_are f order)) (omega (arith, merged_many f opened order, order_short f order ok is)))

merged_chained : (f : Fingers) (opened : OpenGates) (order : List NetNo) → AreFingers f → AreChained (merged_levels f opened order)
merged_chained f opened order ok = record {
  ascend = λ i. (level_nodes f.nets (merged_levels f opened order) i (merged_nodes_all f opened order ok)).ascend;
  next = next_merged f opened order;
}

pub open_chained : (f : Fingers) (opened : OpenGates) (order : List NetNo) (levels : List Level) → AreFingers f → levels ≡ levels_in f opened order → AreChained levels
open_chained f opened order levels ok same = subst AreChained (sym same) (by_none AreChained f opened order (are_chained f order (levels_of f order) ok (levels_are f order)) (merged_chained f opened order ok))
