-- The trunks of a net that hold a line, and which of them a place's metal2 and its via are for.
use Rattle.std.proofs.Common.{ℕ, zero, suc, ◌≡◌, ◌==◌, ◌&&◌, ◌<◌, ◌≤◌, ltb, leb, min, max, true, false, List, [], ◌∷◌, Option, Some, None, fold, inl, inr, ◌⊎◌, refl, sym, subst, ◌∙◌, arith, All, Contains, filter}
use Rattle.std.specs.List.{list_any, reduce}
use Rattle.std.proofs.lemmas.Bool.{cases_Bool, cases_lt, eqb-true, leb-true, le-leb, ltb-true, and_parts, and_from}
use Rattle.std.proofs.lemmas.List.Elements.{All-contains}
use Rattle.std.proofs.Math.Nat.{le-max_left, le-max_right, max-le, min-le_left, min-le_right, le-min}
use Rattle.cell_num.specs.declared.net.NetNo.{NetNo}
use Rattle.cell_num.specs.declared.finger.Row.{Row}
use Rattle.cell_num.specs.declared.finger.Row.TheVariants.{P, N}
use Rattle.cell_num.proofs.In.{Image, in_map, contains_map}
use Rattle.cell_num.proofs.Lists.{some_same, contains_none, contains_one, contains_cons, contains_here, contains_there}
use Rattle.cell_num.proofs.Pairs.{Some', test_finds}
use Rattle.row_model.proofs.Decide.{net_decides}
use Rattle.row_place.specs.declared.placement.NodePlace.{NodePlace}
use Rattle.channel_route.specs.declared.routing.Trunk.{Trunk}
use Rattle.channel_route.specs.Routing.{holds_line}
use Rattle.channel_route.specs.Wiring.{HoldsLine}
use Rattle.box_geom.proofs.Filters.{IsKept, in_filter, contains_filter}
use Rattle.cell_draw.specs.Laid.{GoesTo}
use Rattle.cell_draw.specs.Layouts.{holds, tracks_at, farther, far, begins_before}

-- ---- the test on a trunk
pub it_holds : (net : NetNo) (line : ℕ) (t : Trunk) → t.net ≡ net → HoldsLine t line → holds net line t ≡ true
it_holds net line t of on = and_from (t.net.0 == net.0) (holds_line line t) ((net_decides t.net net).1 of) (and_from (leb t.left line) (leb line t.right) (le-leb t.left line on.begins) (le-leb line t.right on.ends))

pub holds_it : (net : NetNo) (line : ℕ) (t : Trunk) → holds net line t ≡ true → (t.net ≡ net) × HoldsLine t line
holds_it net line t e =
    let both = and_parts (t.net.0 == net.0) (holds_line line t) e in
    let ends = and_parts (leb t.left line) (leb line t.right) both.1 in
    ((net_decides t.net net).0 both.0, record { begins = leb-true t.left line ends.0; ends = leb-true line t.right ends.1 })

-- ---- the farthest of some tracks
record IsFarthest (row : Row) (tracks : List ℕ) (k : ℕ) : Type 0 where
  there : Contains tracks k
  most : (j : ℕ) → Contains tracks j → GoesTo row k j

pub goes_to : (row : Row) (y : ℕ) → GoesTo row y y
goes_to N y = omega arith
goes_to P y = omega arith

goes_on : (row : Row) (a b c : ℕ) → GoesTo row a b → GoesTo row b c → GoesTo row a c
goes_on N a b c h k = omega (arith, h, k)
goes_on P a b c h k = omega (arith, h, k)

farther_goes : (row : Row) (a b : ℕ) → GoesTo row (farther row a b) a × GoesTo row (farther row a b) b
farther_goes N a b = (le-max_left a b, le-max_right a b)
farther_goes P a b = (min-le_left a b, min-le_right a b)

farther_one : (row : Row) (a b : ℕ) → (farther row a b ≡ a) ⊎ (farther row a b ≡ b)
farther_one N a b = elim (cases_lt a b) [
  | inl less ↦ let most : max a b ≤ b = max-le (omega (arith, less)) (omega arith) in inr (omega (arith, most, le-max_right a b))
  | inr more ↦ let most : max a b ≤ a = max-le (omega arith) (omega (arith, more)) in inl (omega (arith, most, le-max_left a b))
]
farther_one P a b = elim (cases_lt a b) [
  | inl less ↦ let least : a ≤ min a b = le-min (omega arith) (omega (arith, less)) in inl (omega (arith, least, min-le_left a b))
  | inr more ↦ let least : b ≤ min a b = le-min (omega (arith, more)) (omega arith) in inr (omega (arith, least, min-le_right a b))
]

folded : (row : Row) (x : ℕ) (xs : List ℕ) → IsFarthest row (x ∷ xs) (fold (farther row) x xs)
folded row x [] = record { there = contains_here x []; most = λ j c. subst (λ z. GoesTo row x z) (contains_one x j c) (goes_to row x) }
folded row x (y ∷ ys) =
    let both : ℕ = farther row x y in
    let rest : IsFarthest row (both ∷ ys) (fold (farther row) both ys) = folded row both ys in
    let k : ℕ = fold (farther row) both ys in
    let one : GoesTo row k both = rest.most both (contains_here both ys) in
    record {
      there = elim (contains_cons both ys k rest.there) [
        | inl same ↦ elim (farther_one row x y) [
          | inl e ↦ subst (λ z. Contains (x ∷ y ∷ ys) z) (sym e ∙ same) (contains_here x (y ∷ ys))
          | inr e ↦ subst (λ z. Contains (x ∷ y ∷ ys) z) (sym e ∙ same) (contains_there x (y ∷ ys) y (contains_here y ys))
        ]
        | inr late ↦ contains_there x (y ∷ ys) k (contains_there y ys k late)
      ];
      most = λ j c. elim (contains_cons x (y ∷ ys) j c) [
        | inl same ↦ subst (λ z. GoesTo row k z) same (goes_on row k both x one (farther_goes row x y).0)
        | inr more ↦ elim (contains_cons y ys j more) [
          | inl same ↦ subst (λ z. GoesTo row k z) same (goes_on row k both y one (farther_goes row x y).1)
          | inr late ↦ rest.most j (contains_there both ys j late)
        ]
      ];
    }

reduced : (row : Row) (tracks : List ℕ) (k : ℕ) → reduce (farther row) tracks ≡ Some k → IsFarthest row tracks k
reduced row [] k e = absurd cc
reduced row (x ∷ xs) k e = subst (λ z. IsFarthest row (x ∷ xs) z) (some_same (fold (farther row) x xs) k e) (folded row x xs)

none_reduced : (row : Row) (tracks : List ℕ) → reduce (farther row) tracks ≡ None → (k : ℕ) → Contains tracks k → ⊥
none_reduced row [] e k c = contains_none k c
none_reduced row (x ∷ xs) e k c = absurd cc

-- the farthest of some tracks and of one that is known
abbrev pub far_from : Row → Option ℕ → List ℕ → Option ℕ
far_from row None tracks = reduce (farther row) tracks
far_from row (Some k) tracks = Some (fold (farther row) k tracks)

pub far_ends : (row : Row) (known : Option ℕ) → far_from row known [] ≡ known
far_ends row None = refl
far_ends row (Some k) = refl

-- ---- the farthest track at a place
-- A trunk of the place's net that holds its line is on the track, and none is on one that is farther.
pub record IsFar (trunks : List Trunk) (node : NodePlace) (k : ℕ) : Type 0 where
  pub trunk : Trunk
  pub listed : Contains trunks trunk
  pub of : trunk.net ≡ node.net
  pub on : HoldsLine trunk node.line
  pub track : trunk.track ≡ k
  pub most : (u : Trunk) → Contains trunks u → u.net ≡ node.net → HoldsLine u node.line → GoesTo node.row k u.track

held_track : (trunks : List Trunk) (net : NetNo) (line : ℕ) (u : Trunk) → Contains trunks u → u.net ≡ net → HoldsLine u line → Contains (tracks_at trunks net line) u.track
held_track trunks net line u there of on = contains_map (λ (t : Trunk). t.track) (filter (holds net line) trunks) u (contains_filter (holds net line) trunks u there (it_holds net line u of on))

pub is_far : (trunks : List Trunk) (node : NodePlace) (k : ℕ) → far trunks node ≡ Some k → IsFar trunks node k
is_far trunks node k e =
    let f : IsFarthest node.row (tracks_at trunks node.net node.line) k = reduced node.row (tracks_at trunks node.net node.line) k e in
    let i : Image (λ (t : Trunk). t.track) (filter (holds node.net node.line) trunks) k = in_map (λ (t : Trunk). t.track) (filter (holds node.net node.line) trunks) k f.there in
    let q : IsKept (holds node.net node.line) trunks i.of = in_filter (holds node.net node.line) trunks i.of i.listed in
    let h = holds_it node.net node.line i.of q.passes in
    record {
      trunk = i.of;
      listed = q.listed;
      of = h.0;
      on = h.1;
      track = i.is;
      most = λ u there of on. f.most u.track (held_track trunks node.net node.line u there of on);
    }

pub far_low : (trunks : List Trunk) (node : NodePlace) (k : ℕ) → All (λ (u : Trunk). u.track ≤ 1000) trunks → far trunks node ≡ Some k → k ≤ 1000
far_low trunks node k low e =
    let is : IsFar trunks node k = is_far trunks node k e in
    omega (arith, is.track, All-contains (λ (u : Trunk). u.track ≤ 1000) trunks is.trunk low is.listed)

pub none_far : (trunks : List Trunk) (node : NodePlace) (t : Trunk) → Contains trunks t → t.net ≡ node.net → HoldsLine t node.line → far trunks node ≡ None → ⊥
none_far trunks node t there of on e = none_reduced node.row (tracks_at trunks node.net node.line) e t.track (held_track trunks node.net node.line t there of on)

-- ---- the trunk that has the via
-- of the trunks of a net on a track that hold a line the one that begins first
pub record BeginsFirst (trunks : List Trunk) (t : Trunk) (line : ℕ) : Type 0 where
  pub trunk : Trunk
  pub listed : Contains trunks trunk
  pub net : trunk.net ≡ t.net
  pub track : trunk.track ≡ t.track
  pub on : HoldsLine trunk line
  pub none_before : list_any (begins_before trunk line) trunks ≡ false

begins_within : (trunks : List Trunk) (line n : ℕ) (t : Trunk) → t.left < n → Contains trunks t → HoldsLine t line → BeginsFirst trunks t line
begins_within trunks line zero t less there on = absurd (omega (arith, less))
begins_within trunks line (suc n) t less there on = elim (cases_Bool (list_any (begins_before t line) trunks)) [
  | inl some ↦
      let u : Some' (λ (v : Trunk). begins_before t line v ≡ true) trunks = test_finds (begins_before t line) trunks some in
      let both = and_parts (holds t.net line u.it && (u.it.track == t.track)) (ltb u.it.left t.left) u.holds in
      let more = and_parts (holds t.net line u.it) (u.it.track == t.track) both.0 in
      let held = holds_it t.net line u.it more.0 in
      let left : u.it.left < t.left = ltb-true u.it.left t.left both.1 in
      let first : BeginsFirst trunks u.it line = begins_within trunks line n u.it (omega (arith, left, less)) u.there held.1 in
      record { trunk = first.trunk; listed = first.listed; net = first.net ∙ held.0; track = first.track ∙ eqb-true u.it.track t.track more.1; on = first.on; none_before = first.none_before }
  | inr none ↦ record { trunk = t; listed = there; net = refl; track = refl; on = on; none_before = none }
]

pub begins_first : (trunks : List Trunk) (line : ℕ) (t : Trunk) → Contains trunks t → HoldsLine t line → BeginsFirst trunks t line
begins_first trunks line t = begins_within trunks line (suc t.left) t (omega arith)
