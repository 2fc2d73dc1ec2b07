-- There are no more places than open nodes.
use Rattle.std.proofs.Common.{◌≡◌, ◌+◌, ◌≤◌, List, [], ◌∷◌, Option, Some, None, length, fold, not, arith, refl, ◌∙◌, count_by}
use Rattle.std.specs.List.{cons_option, filter_map}
use Rattle.std.proofs.lemmas.List.{length-map}
use Rattle.std.proofs.lemmas.List.Sums.{count_by-le-length, length-filter}
use Rattle.trail_state.specs.declared.edge.Node.{Node}
use Rattle.trail_state.specs.declared.edge.Edge.{Edge}
use Rattle.trail_state.specs.declared.state.Place.{Place}
use Rattle.trail_state.specs.Places.{joined_place, met_place, met_places, place_or_new, with_edge, with_edges}
use Rattle.trail_state.specs.Settling.{closing_of, is_closed_trail, is_open}

few_kept : {X Y : Type 0} (h : X → Option Y) (xs : List X) → length (filter_map h xs) ≤ length xs
few_kept h [] = omega arith
few_kept {X} {Y} h (x ∷ xs) = omega (arith, at_most (h x) (filter_map h xs), few_kept h xs)
  where
    at_most : (o : Option Y) (ys : List Y) → length (cons_option o ys) ≤ 1 + length ys
    at_most None ys = omega arith
    at_most (Some y) ys = omega arith

as_many : (edges : List Edge) (t : List Place) → length (fold with_edge t edges) ≡ length t
as_many [] t = refl
as_many (e ∷ es) t = as_many es (with_edge t e) ∙ length-map t (joined_place (place_or_new t e.a.0) (place_or_new t e.b.0))

pub no_more : (nodes next : List Node) (s : List Place) (c : List Edge) → length (closing_of next (with_edges nodes s c)) ≤ length nodes
no_more nodes next s c =
    omega (arith, few_kept (λ (v : Node). met_place s c v.0) nodes, as_many c (met_places nodes s c), length-filter (λ (p : Place). not (is_open next p.node.0)) (with_edges nodes s c), count_by-le-length (λ (p : Place). not (is_open next p.node.0)) (with_edges nodes s c))

pub closing_few : (nodes next : List Node) (s : List Place) (c : List Edge) → length nodes ≤ 65536 → length (closing_of next (with_edges nodes s c)) ≤ 65536
closing_few nodes next s c few = omega (arith, few, no_more nodes next s c)

pub odd_few : (closing : List Place) → count_by (λ (p : Place). p.odd) closing ≤ length closing
odd_few closing = count_by-le-length (λ (p : Place). p.odd) closing

pub closed_few : (kept closing : List Place) → count_by (is_closed_trail kept closing) closing ≤ length closing
closed_few kept closing = count_by-le-length (is_closed_trail kept closing) closing
