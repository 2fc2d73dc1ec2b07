-- The solutions of the distances are exactly the positions that the row allows.
use Rattle.std.proofs.Common.{ℕ, zero, suc, ◌≡◌, ◌↔◌, ◌+◌, ◌*◌, ◌<◌, ◌≤◌, ◌==◌, ◌&&◌, ◌⊎◌, ltb, Bool, true, false, cond, List, [], ◌∷◌, ◌++◌, Some, None, length, inl, inr, refl, sym, ap, subst, ◌∙◌, arith, All, Contains, filter_map, slice_get}
use Rattle.std.proofs.lemmas.Bool.{and_parts, and_from, eqb-true, eq-eqb, ltb-true, lt-ltb}
use Rattle.std.proofs.lemmas.List.Elements.{All-nil, All-cons, All-head, All-tail, All-append, All-contains, Contains-append_left, Contains-append_right}
use Rattle.std.proofs.lemmas.Option.{slice_get_within}
use Rattle.cell_num.specs.declared.net.Pins.{Pins}
use Rattle.row_place.specs.declared.placement.Placement.{Placement}
use Rattle.row_place.specs.declared.placement.UnitKind.{UnitKind}
use Rattle.row_place.specs.declared.placement.UnitKind.TheVariants.{Column, Gap}
use Rattle.row_place.specs.Places.{IsPlacement}
use Rattle.cell_num.proofs.Lists.{some_same, all_from_contains, Kept, kept_from, contains_filter_map}
use Rattle.channel_route.specs.declared.routing.Trunk.{Trunk}
use Rattle.channel_route.specs.declared.routing.Routing.{Routing}
use Rattle.channel_route.specs.Wiring.{IsWiring}
use Rattle.row_compact.specs.declared.distance.Distance.{Distance}
use Rattle.row_compact.specs.declared.distance.Distances.{Distances}
use Rattle.row_compact.specs.Solution.{x_of, IsEntry, IsKept, IsSolution}
use Rattle.row_compact.specs.Allowed.{Stretch, stretch_of, stretches_of, HasContact, AreAllowed}
use Rattle.row_compact.specs.Entries.{entry, is_wide, least_in, units_from, pair_entry, pairs_of, entries_of}
use Rattle.row_compact.proofs.Decide.{wide_decides}
use Rattle.cell_num.proofs.In.{Image, in_map, contains_map, Piece, in_flat, contains_flat}
use Rattle.row_compact.proofs.Within.{wired_left}

-- the distances of a unit are kept
record KeepsUnit (xs : List ℕ) (wide : ℕ → Bool) (unit : ℕ) (kind : UnitKind) : Type 0 where
  before : x_of xs (2 * unit) + least_in kind (wide (2 * unit)) ≤ x_of xs (2 * unit + 1)
  behind : x_of xs (2 * unit + 1) + least_in kind (wide (2 * unit + 2)) ≤ x_of xs (2 * unit + 2)

units_kept : (xs : List ℕ) (wide : ℕ → Bool) (start : ℕ) (kinds : List UnitKind) → ((u : ℕ) (kind : UnitKind) → slice_get kinds u ≡ Some kind → KeepsUnit xs wide (start + u) kind) → All (IsKept xs) (units_from wide start kinds)
units_kept xs wide start [] h = All-nil (IsKept xs)
units_kept xs wide start (kind ∷ kinds) h =
    let here : ◌≡◌ {A = ℕ} (start + 0) start = omega arith in
    let k : KeepsUnit xs wide start kind = subst (λ n. KeepsUnit xs wide n kind) here (h 0 kind refl) in
    let rest : All (IsKept xs) (units_from wide (start + 1) kinds) = units_kept xs wide (start + 1) kinds (λ u z e. subst (λ n. KeepsUnit xs wide n z) (omega arith) (h (suc u) z e)) in
    All-cons (IsKept xs) (entry (2 * start) (2 * start + 1) (least_in kind (wide (2 * start)))) (entry (2 * start + 1) (2 * start + 2) (least_in kind (wide (2 * start + 2))) ∷ units_from wide (start + 1) kinds) k.before
    (All-cons (IsKept xs) (entry (2 * start + 1) (2 * start + 2) (least_in kind (wide (2 * start + 2)))) (units_from wide (start + 1) kinds) k.behind rest)

units_keep : (xs : List ℕ) (wide : ℕ → Bool) (start : ℕ) (kinds : List UnitKind) → All (IsKept xs) (units_from wide start kinds) → (u : ℕ) (kind : UnitKind) → slice_get kinds u ≡ Some kind → KeepsUnit xs wide (start + u) kind
units_keep xs wide start [] all u kind e = absurd cc
units_keep xs wide start (k ∷ ks) all u kind e = by u e (units_keep xs wide (start + 1) ks (All-tail (IsKept xs) (entry (2 * start + 1) (2 * start + 2) (least_in k (wide (2 * start + 2)))) (units_from wide (start + 1) ks) (All-tail (IsKept xs) (entry (2 * start) (2 * start + 1) (least_in k (wide (2 * start)))) (entry (2 * start + 1) (2 * start + 2) (least_in k (wide (2 * start + 2))) ∷ units_from wide (start + 1) ks) all)))
  where
    one : KeepsUnit xs wide start k
    one =
        let first : IsKept xs (entry (2 * start) (2 * start + 1) (least_in k (wide (2 * start)))) = All-head (IsKept xs) (entry (2 * start) (2 * start + 1) (least_in k (wide (2 * start)))) (entry (2 * start + 1) (2 * start + 2) (least_in k (wide (2 * start + 2))) ∷ units_from wide (start + 1) ks) all in
        let second : IsKept xs (entry (2 * start + 1) (2 * start + 2) (least_in k (wide (2 * start + 2)))) = All-head (IsKept xs) (entry (2 * start + 1) (2 * start + 2) (least_in k (wide (2 * start + 2)))) (units_from wide (start + 1) ks) (All-tail (IsKept xs) (entry (2 * start) (2 * start + 1) (least_in k (wide (2 * start)))) (entry (2 * start + 1) (2 * start + 2) (least_in k (wide (2 * start + 2))) ∷ units_from wide (start + 1) ks) all) in
        record { before = first; behind = second }

    by : (u : ℕ) → slice_get (k ∷ ks) u ≡ Some kind → ((v : ℕ) (z : UnitKind) → slice_get ks v ≡ Some z → KeepsUnit xs wide (start + 1 + v) z) → KeepsUnit xs wide (start + u) kind
    by zero e rest =
        let here : ◌≡◌ {A = ℕ} start (start + 0) = omega arith in
        subst (λ z. KeepsUnit xs wide (start + 0) z) (some_same k kind e) (subst (λ n. KeepsUnit xs wide n k) here one)
    by (suc v) e rest =
        let there : ◌≡◌ {A = ℕ} (start + 1 + v) (start + suc v) = omega arith in
        subst (λ n. KeepsUnit xs wide n kind) there (rest v kind e)

at_least : (kind : UnitKind) (wide : Bool) → 8 ≤ least_in kind wide
at_least Gap wide = omega arith
at_least Column true = omega arith
at_least Column false = omega arith

-- what pair_entry gives
record IsPair (a b : Trunk) (d : Distance) : Type 0 where
  track : a.track ≡ b.track
  apart : a.right < b.left
  is : d ≡ entry a.right b.left 14

pair_parts : (a b : Trunk) (d : Distance) → pair_entry a b ≡ Some d → IsPair a b d
pair_parts a b d e = by ((a.track == b.track) && ltb a.right b.left) refl e
  where
    by : (t : Bool) → ((a.track == b.track) && ltb a.right b.left) ≡ t → cond t (Some (entry a.right b.left 14)) None ≡ Some d → IsPair a b d
    by true is f =
        let both : ((a.track == b.track) ≡ true) × (ltb a.right b.left ≡ true) = and_parts (a.track == b.track) (ltb a.right b.left) is in
        record { track = eqb-true a.track b.track both.0; apart = ltb-true a.right b.left both.1; is = sym (some_same _ _ f) }
    by false is f = absurd cc

pair_gives : (a b : Trunk) → a.track ≡ b.track → a.right < b.left → pair_entry a b ≡ Some (entry a.right b.left 14)
pair_gives a b same apart = rw (and_from (a.track == b.track) (ltb a.right b.left) (eq-eqb a.track b.track same) (lt-ltb a.right b.left apart)) refl

-- an entry for two trunks is theirs
record FromPair (trunks : List Trunk) (d : Distance) : Type 0 where
  left : Trunk
  right : Trunk
  left_there : Contains trunks left
  right_there : Contains trunks right
  pair : IsPair left right d

from_pair : (trunks : List Trunk) (d : Distance) → Contains (pairs_of trunks) d → FromPair trunks d
from_pair trunks d there =
    let f : Piece (λ a. filter_map (pair_entry a) trunks) trunks d = in_flat (λ a. filter_map (pair_entry a) trunks) trunks d there in
    let k : Kept (pair_entry f.of) trunks d = kept_from (pair_entry f.of) trunks d f.inside in
    record { left = f.of; right = k.from; left_there = f.listed; right_there = k.there; pair = pair_parts f.of k.from d k.gives }

pair_there : (trunks : List Trunk) (a b : Trunk) → Contains trunks a → Contains trunks b → a.track ≡ b.track → a.right < b.left → Contains (pairs_of trunks) (entry a.right b.left 14)
pair_there trunks a b la lb same apart = contains_flat (λ z. filter_map (pair_entry z) trunks) trunks a (entry a.right b.left 14) la (contains_filter_map (pair_entry a) trunks b (entry a.right b.left 14) lb (pair_gives a b same apart))

record Unit_at (kinds : List UnitKind) (unit : ℕ) : Type 0 where
  kind : UnitKind
  is : slice_get kinds unit ≡ Some kind

unit_at : (kinds : List UnitKind) (unit : ℕ) → unit < length kinds → Unit_at kinds unit
unit_at [] unit short = absurd (omega (arith, short))
unit_at (k ∷ ks) zero short = record { kind = k; is = refl }
unit_at (k ∷ ks) (suc unit) short = let rest = unit_at ks unit (omega (arith, short)) in record { kind = rest.kind; is = rest.is }

half_of : (line : ℕ) → (u : ℕ) × ((line ≡ 2 * u) ⊎ (line ≡ 2 * u + 1))
half_of zero = (0, inl refl)
half_of (suc line) = next (half_of line)
  where
    next : (u : ℕ) × ((line ≡ 2 * u) ⊎ (line ≡ 2 * u + 1)) → (u : ℕ) × ((suc line ≡ 2 * u) ⊎ (suc line ≡ 2 * u + 1))
    next (u, inl e) = (u, inr (omega (arith, e)))
    next (u, inr e) = (u + 1, inl (omega (arith, e)))

-- from the solutions to the allowed positions
solution_allowed : (p : Placement) (pins : Pins) (r : Routing) (d : Distances) → IsWiring p pins r → d.lines ≡ 2 * length p.units + 1 → d.list ≡ entries_of p pins r.trunks → (xs : List ℕ) → IsSolution d xs → AreAllowed p pins (stretches_of r.trunks) xs
solution_allowed p pins r d wiring lines list xs s = record {
  lines = s.lines ∙ lines;
  first = s.first;
  next = next;
  left = left;
  right = right;
  apart = apart;
}
  where
    all : All (IsKept xs) (entries_of p pins r.trunks)
    all = subst (λ z. All (IsKept xs) z) list s.kept

    in_unit : (u : ℕ) (kind : UnitKind) → slice_get p.units u ≡ Some kind → KeepsUnit xs (is_wide pins r.trunks p.nodes) u kind
    in_unit u kind e =
        let zero_first : ◌≡◌ {A = ℕ} (0 + u) u = omega arith in
        subst (λ n. KeepsUnit xs (is_wide pins r.trunks p.nodes) n kind) zero_first (units_keep xs (is_wide pins r.trunks p.nodes) 0 p.units (front (units_from (is_wide pins r.trunks p.nodes) 0 p.units) (pairs_of r.trunks) all) u kind e)
      where
        front : (ys zs : List Distance) → All (IsKept xs) (ys ++ zs) → All (IsKept xs) ys
        front ys zs both = all_from_contains (IsKept xs) ys (λ y there. All-contains (IsKept xs) (ys ++ zs) y both (Contains-append_left ys zs y there))

    next : (line : ℕ) → line < 2 * length p.units → x_of xs line + 8 ≤ x_of xs (line + 1)
    next line short = by (half_of line)
      where
        by : (u : ℕ) × ((line ≡ 2 * u) ⊎ (line ≡ 2 * u + 1)) → x_of xs line + 8 ≤ x_of xs (line + 1)
        by (u, inl e) =
            let at : Unit_at p.units u = unit_at p.units u (omega (arith, e, short)) in
            let k : KeepsUnit xs (is_wide pins r.trunks p.nodes) u at.kind = in_unit u at.kind at.is in
            let f : ◌≡◌ {A = ℕ} (line + 1) (2 * u + 1) = omega (arith, e) in
            omega (arith, ap (λ n. x_of xs n) e, ap (λ n. x_of xs n) f, k.before, at_least at.kind (is_wide pins r.trunks p.nodes (2 * u)))
        by (u, inr e) =
            let at : Unit_at p.units u = unit_at p.units u (omega (arith, e, short)) in
            let k : KeepsUnit xs (is_wide pins r.trunks p.nodes) u at.kind = in_unit u at.kind at.is in
            let f : ◌≡◌ {A = ℕ} (line + 1) (2 * u + 2) = omega (arith, e) in
            omega (arith, ap (λ n. x_of xs n) e, ap (λ n. x_of xs n) f, k.behind, at_least at.kind (is_wide pins r.trunks p.nodes (2 * u + 2)))

    left : (unit : ℕ) → slice_get p.units unit ≡ Some Column → HasContact p pins (2 * unit) → x_of xs (2 * unit) + 11 ≤ x_of xs (2 * unit + 1)
    left unit e h =
        let k : KeepsUnit xs (is_wide pins r.trunks p.nodes) unit Column = in_unit unit Column e in
        let w : is_wide pins r.trunks p.nodes (2 * unit) ≡ true = (wide_decides p pins r wiring (2 * unit)).1 h in
        subst (λ b. x_of xs (2 * unit) + least_in Column b ≤ x_of xs (2 * unit + 1)) w k.before

    right : (unit : ℕ) → slice_get p.units unit ≡ Some Column → HasContact p pins (2 * unit + 2) → x_of xs (2 * unit + 1) + 11 ≤ x_of xs (2 * unit + 2)
    right unit e h =
        let k : KeepsUnit xs (is_wide pins r.trunks p.nodes) unit Column = in_unit unit Column e in
        let w : is_wide pins r.trunks p.nodes (2 * unit + 2) ≡ true = (wide_decides p pins r wiring (2 * unit + 2)).1 h in
        subst (λ b. x_of xs (2 * unit + 1) + least_in Column b ≤ x_of xs (2 * unit + 2)) w k.behind

    apart : (a b : Stretch) → Contains (stretches_of r.trunks) a → Contains (stretches_of r.trunks) b → a.track ≡ b.track → a.right < b.left → x_of xs a.right + 14 ≤ x_of xs b.left
    apart a b la lb same less =
        let i : Image stretch_of r.trunks a = in_map stretch_of r.trunks a la in
        let j : Image stretch_of r.trunks b = in_map stretch_of r.trunks b lb in
        let track : i.of.track ≡ j.of.track = ap (λ (z : Stretch). z.track) i.is ∙ same ∙ sym (ap (λ (z : Stretch). z.track) j.is) in
        let right' : i.of.right ≡ a.right = ap (λ (z : Stretch). z.right) i.is in
        let left' : j.of.left ≡ b.left = ap (λ (z : Stretch). z.left) j.is in
        let there : Contains (pairs_of r.trunks) (entry i.of.right j.of.left 14) = pair_there r.trunks i.of j.of i.listed j.listed track (omega (arith, right', left', less)) in
        let kept : IsKept xs (entry i.of.right j.of.left 14) = All-contains (IsKept xs) (entries_of p pins r.trunks) (entry i.of.right j.of.left 14) all (Contains-append_right (units_from (is_wide pins r.trunks p.nodes) 0 p.units) (pairs_of r.trunks) (entry i.of.right j.of.left 14) there) in
        omega (arith, kept, ap (λ n. x_of xs n) right', ap (λ n. x_of xs n) left')

-- and back
allowed_solution : (p : Placement) (pins : Pins) (r : Routing) (d : Distances) → IsWiring p pins r → d.lines ≡ 2 * length p.units + 1 → d.list ≡ entries_of p pins r.trunks → (xs : List ℕ) → AreAllowed p pins (stretches_of r.trunks) xs → IsSolution d xs
allowed_solution p pins r d wiring lines list xs a = record {
  lines = a.lines ∙ sym lines;
  first = a.first;
  kept = subst (λ z. All (IsKept xs) z) (sym list) (All-append (IsKept xs) (units_from (is_wide pins r.trunks p.nodes) 0 p.units) (pairs_of r.trunks) (units_kept xs (is_wide pins r.trunks p.nodes) 0 p.units in_unit) (all_from_contains (IsKept xs) (pairs_of r.trunks) pair));
}
  where
    before : (u : ℕ) (kind : UnitKind) (w : Bool) → is_wide pins r.trunks p.nodes (2 * u) ≡ w → slice_get p.units u ≡ Some kind → x_of xs (2 * u) + least_in kind w ≤ x_of xs (2 * u + 1)
    before u Column true e is = a.left u is ((wide_decides p pins r wiring (2 * u)).0 e)
    before u Column false e is = a.next (2 * u) (omega (arith, slice_get_within p.units u Column is))
    before u Gap w e is = a.next (2 * u) (omega (arith, slice_get_within p.units u Gap is))

    further_on : (u : ℕ) → 2 * u + 1 < 2 * length p.units → x_of xs (2 * u + 1) + 8 ≤ x_of xs (2 * u + 2)
    further_on u short =
        let e : ◌≡◌ {A = ℕ} (2 * u + 1 + 1) (2 * u + 2) = omega arith in
        omega (arith, a.next (2 * u + 1) short, ap (λ n. x_of xs n) e)

    behind : (u : ℕ) (kind : UnitKind) (w : Bool) → is_wide pins r.trunks p.nodes (2 * u + 2) ≡ w → slice_get p.units u ≡ Some kind → x_of xs (2 * u + 1) + least_in kind w ≤ x_of xs (2 * u + 2)
    behind u Column true e is = a.right u is ((wide_decides p pins r wiring (2 * u + 2)).0 e)
    behind u Column false e is = further_on u (omega (arith, slice_get_within p.units u Column is))
    behind u Gap w e is = further_on u (omega (arith, slice_get_within p.units u Gap is))

    in_unit : (u : ℕ) (kind : UnitKind) → slice_get p.units u ≡ Some kind → KeepsUnit xs (is_wide pins r.trunks p.nodes) (0 + u) kind
    in_unit u kind e =
        let zero_first : ◌≡◌ {A = ℕ} u (0 + u) = omega arith in
        subst (λ n. KeepsUnit xs (is_wide pins r.trunks p.nodes) n kind) zero_first (record { before = before u kind (is_wide pins r.trunks p.nodes (2 * u)) refl e; behind = behind u kind (is_wide pins r.trunks p.nodes (2 * u + 2)) refl e })

    pair : (d : Distance) → Contains (pairs_of r.trunks) d → IsKept xs d
    pair d there =
        let f : FromPair r.trunks d = from_pair r.trunks d there in
        subst (λ z. IsKept xs z) (sym f.pair.is) (a.apart (stretch_of f.left) (stretch_of f.right) (contains_map stretch_of r.trunks f.left f.left_there) (contains_map stretch_of r.trunks f.right f.right_there) f.pair.track f.pair.apart)

pub solutions : (p : Placement) (pins : Pins) (r : Routing) (d : Distances) → IsWiring p pins r → d.lines ≡ 2 * length p.units + 1 → d.list ≡ entries_of p pins r.trunks → (xs : List ℕ) → IsSolution d xs ↔ AreAllowed p pins (stretches_of r.trunks) xs
solutions p pins r d wiring lines list xs = (solution_allowed p pins r d wiring lines list xs, allowed_solution p pins r d wiring lines list xs)

-- entries ascend, within the lines
modest : (kind : UnitKind) (wide : Bool) → least_in kind wide ≤ 1000
modest Gap wide = omega arith
modest Column true = omega arith
modest Column false = omega arith

units_ascend : (lines : ℕ) (wide : ℕ → Bool) (start : ℕ) (kinds : List UnitKind) → 2 * (start + length kinds) < lines → All (IsEntry lines) (units_from wide start kinds)
units_ascend lines wide start [] short = All-nil (IsEntry lines)
units_ascend lines wide start (kind ∷ kinds) short =
    All-cons (IsEntry lines) (entry (2 * start) (2 * start + 1) (least_in kind (wide (2 * start)))) (entry (2 * start + 1) (2 * start + 2) (least_in kind (wide (2 * start + 2))) ∷ units_from wide (start + 1) kinds) (record { ascends = omega arith; within = omega (arith, short); modest = modest kind (wide (2 * start)) })
    (All-cons (IsEntry lines) (entry (2 * start + 1) (2 * start + 2) (least_in kind (wide (2 * start + 2)))) (units_from wide (start + 1) kinds) (record { ascends = omega arith; within = omega (arith, short); modest = modest kind (wide (2 * start + 2)) })
    (units_ascend lines wide (start + 1) kinds (omega (arith, short))))

pub ascending : (p : Placement) (pins : Pins) (r : Routing) (d : Distances) → IsPlacement p → IsWiring p pins r → d.lines ≡ 2 * length p.units + 1 → d.list ≡ entries_of p pins r.trunks → All (IsEntry d.lines) d.list
ascending p pins r d is wiring lines list = subst (λ z. All (IsEntry d.lines) z) (sym list) (All-append (IsEntry d.lines) (units_from (is_wide pins r.trunks p.nodes) 0 p.units) (pairs_of r.trunks) (units_ascend d.lines (is_wide pins r.trunks p.nodes) 0 p.units (omega (arith, lines))) (all_from_contains (IsEntry d.lines) (pairs_of r.trunks) pair))
  where
    pair : (z : Distance) → Contains (pairs_of r.trunks) z → IsEntry d.lines z
    pair z there =
        let f : FromPair r.trunks z = from_pair r.trunks z there in
        let last : f.right.left ≤ 2 * length p.units = wired_left p pins r is wiring f.right f.right_there in
        let apart : f.left.right < f.right.left = f.pair.apart in
        subst (λ e. IsEntry d.lines e) (sym f.pair.is) (record { ascends = apart; within = omega (arith, last, lines); modest = omega arith })
