-- Each part of a front is built of columns: so each listed choice is one, and each choice is listed.
use Rattle.std.proofs.Common.{ℕ, zero, suc, ◌≡◌, ◌+◌, ◌≤◌, ◌<◌, ◌==◌, Bool, true, false, leb, if◌then◌else◌, List, [], ◌∷◌, ◌++◌, length, drop, Option, Some, None, map, append-nil, refl, sym, ap, subst, arith, ◌∙◌, ◌↔◌, inl, inr, All, Contains, IsPermutation}
use Rattle.std.specs.List.{cons_option, filter, range_with_len, zip}
use Rattle.std.proofs.lemmas.Bool.{cases_Bool, cases_eq, eqb-true, leb-true}
use Rattle.std.proofs.lemmas.List.{length-map}
use Rattle.std.proofs.lemmas.List.Elements.{All-cons, All-nil, Contains-append_right}
use Rattle.std.proofs.lemmas.List.Sorted.{Contains-permutation, IsPermutation-append_right, IsPermutation-cons, IsPermutation-map, IsPermutation-middle, IsPermutation-refl, IsPermutation-sym, IsPermutation-trans, length_permutation}
use Rattle.std.proofs.lemmas.List.Sums.{length-filter}
use Rattle.cell_num.specs.declared.net.NetNo.{NetNo}
use Rattle.cell_num.specs.declared.finger.Row.TheVariants.{P, N}
use Rattle.cell_num.specs.declared.finger.Finger.{Finger}
use Rattle.cell_num.specs.declared.finger.Fingers.{Fingers}
use Rattle.cell_num.specs.Fingers.{AreFingers}
use Rattle.cell_num.proofs.In.{Image, Piece, in_flat, in_map}
use Rattle.cell_num.proofs.Lists.{contains_cons, contains_here, contains_none, contains_one}
use Rattle.row_model.specs.declared.column.Placed.{Placed}
use Rattle.row_model.specs.declared.column.Column.{Column}
use Rattle.row_model.specs.Arrangement.{IsArrangement, IsColumn, IsPlaced}
use Rattle.row_model.specs.Gaps.{left_net, right_net}
use Rattle.trail_state.specs.declared.edge.Edge.{Edge}
use Rattle.trail_state.specs.declared.edge.FingerEnds.{FingerEnds}
use Rattle.trail_state.specs.Edges.{edge_of, n_edges, p_edges, pair_edges}
use Rattle.trail_state.specs.Sorted.{inserted, inserted_permutes}
use Rattle.trail_state.specs.declared.front.Part.{Part}
use Rattle.trail_state.specs.Fronts as fronts
use Rattle.trail_state.specs.Fronts.{alone, columns_in, front_at, n_alone, next_parts, paired, paired_with, with_column, without}
use Rattle.trail_state.specs.Choices.{HasChoice, IsChoice, fingers_on, is_on}
use Rattle.trail_state.specs.Nodes.{is_net_in}
use Rattle.trail_state.specs.Pairings.{choices_of, gate_of, nets_at, nets_in}
use Rattle.trail_state.proofs.Chosen.{Drawn, IsDrawn, column_at, drawn_zip, edge_at}
use Rattle.trail_state.proofs.Grouped.{columns_of_gate}
use Rattle.trail_state.proofs.Held.{finger_of_place, row_fingers}
use Rattle.trail_state.proofs.Law.{zip_columns, zip_drawn, zip_edges}
use Rattle.trail_state.specs.Known.{Before}
use Rattle.trail_state.proofs.Listed.{append_from, front_from, nets_uncons, one_taken}
use Rattle.trail_state.proofs.Members.{passes_from}
use Rattle.trail_state.proofs.Paired.{Listed, drop_more}
use Rattle.trail_state.proofs.Picked.{gate_listed}

-- a finger with these nets, and the others
record Taken (y : FingerEnds) (rs : List Finger) : Type 0 where
  pub it : Finger
  pub rest : List Finger
  pub nets : nets_at it ≡ y
  pub all : IsPermutation rs (it ∷ rest)

taken : (y : FingerEnds) (rs : List Finger) → Contains (map nets_at rs) y → Taken y rs
taken y [] c = absurd (contains_none y c)
taken y (r ∷ rs) c = elim (contains_cons (nets_at r) (map nets_at rs) y c) [
  | inl same ↦ record { it = r; rest = rs; nets = same; all = IsPermutation-refl (r ∷ rs) }
  | inr there ↦
      let t : Taken y rs = taken y rs there in
      record {
        it = t.it;
        rest = r ∷ t.rest;
        nets = t.nets;
        all = IsPermutation-trans (r ∷ rs) (r ∷ t.it ∷ t.rest) (t.it ∷ r ∷ t.rest) (IsPermutation-cons r rs (t.it ∷ t.rest) t.all) (IsPermutation-middle (r ∷ []) t.it t.rest);
      }
]

left_taken : (y : FingerEnds) (rs : List Finger) (t : Taken y rs) (left others : List FingerEnds) → IsPermutation (map nets_at rs) left → IsPermutation left (y ∷ others) → IsPermutation (map nets_at t.rest) others
left_taken y rs t left others is all =
    let first : IsPermutation (map nets_at rs) (y ∷ map nets_at t.rest) = subst (λ v. IsPermutation (map nets_at rs) (v ∷ map nets_at t.rest)) t.nets (IsPermutation-map nets_at rs (t.it ∷ t.rest) t.all) in
    nets_uncons y (map nets_at t.rest) others
    (IsPermutation-trans (y ∷ map nets_at t.rest) (map nets_at rs) (y ∷ others)
    (IsPermutation-sym (map nets_at rs) (y ∷ map nets_at t.rest) first)
    (IsPermutation-trans (map nets_at rs) left (y ∷ others) is all))

moved : (o : Option Finger) (xs ys : List Finger) → IsPermutation (xs ++ cons_option o ys) (cons_option o xs ++ ys)
moved None xs ys = IsPermutation-refl (xs ++ ys)
moved (Some x) xs ys = IsPermutation-middle xs x ys

more_moved : (o : Option Finger) (all done left rest : List Finger) → IsPermutation all (done ++ left) → IsPermutation left (cons_option o rest) → IsPermutation all (cons_option o done ++ rest)
more_moved o all done left rest is take =
    IsPermutation-trans all (done ++ left) (cons_option o done ++ rest) is
    (IsPermutation-trans (done ++ left) (done ++ cons_option o rest) (cons_option o done ++ rest) (IsPermutation-append_right done left (cons_option o rest) take) (moved o done rest))

-- columns that have the edges of the part; `rest` are the P fingers that stand in none
record Built (f : Fingers) (g : ℕ) (rest : List Finger) (part : Part) (k : ℕ) : Type 0 where
  pub zs : List Drawn
  pub n_rest : List Finger
  pub drawn : All (IsDrawn f) zs
  pub columns : All IsColumn (map column_at zs)
  pub p : IsPermutation (fingers_on g f).p (row_fingers P zs ++ rest)
  pub n : IsPermutation (fingers_on g f).n (row_fingers N zs ++ n_rest)
  pub left : IsPermutation (map nets_at n_rest) part.left
  pub edges : IsPermutation (map edge_at zs) part.edges
  pub many : length zs ≡ k
  pub p_few : length rest + k ≤ columns_in (gate_of f g)
  pub n_few : length part.left + k ≤ columns_in (gate_of f g)

grown : (f : Fingers) (g : ℕ) (rest : List Finger) (part : Part) (k : ℕ) (b : Built f g rest part k) (z : Drawn) (p_rest n_rest : List Finger) (left : List FingerEnds) → IsDrawn f z → IsColumn z.0 → IsPermutation rest (cons_option (finger_of_place P z) p_rest) → IsPermutation b.n_rest (cons_option (finger_of_place N z) n_rest) → IsPermutation (map nets_at n_rest) left → length p_rest + suc k ≤ columns_in (gate_of f g) → length left + suc k ≤ columns_in (gate_of f g) → Built f g p_rest (record { edges = inserted z.1 part.edges; left = left }) (suc k)
grown f g rest part k b z p_rest n_rest left drawn column p n nets p_few n_few = record {
  zs = z ∷ b.zs;
  n_rest = n_rest;
  drawn = All-cons (IsDrawn f) z b.zs drawn b.drawn;
  columns = All-cons IsColumn z.0 (map column_at b.zs) column b.columns;
  p = more_moved (finger_of_place P z) (fingers_on g f).p (row_fingers P b.zs) rest p_rest b.p p;
  n = more_moved (finger_of_place N z) (fingers_on g f).n (row_fingers N b.zs) b.n_rest n_rest b.n n;
  left = nets;
  edges = IsPermutation-trans (z.1 ∷ map edge_at b.zs) (z.1 ∷ part.edges) (inserted z.1 part.edges) (IsPermutation-cons z.1 (map edge_at b.zs) part.edges b.edges) (inserted_permutes z.1 part.edges);
  many = ap suc b.many;
  p_few = p_few;
  n_few = n_few;
}

abbrev standing : Bool → Finger → Placed
standing flipped x = record { finger = x; flipped = flipped }

-- ---- a finger of the gate

on_gate_is : (g : ℕ) (fs all done rest : List Finger) (x : Finger) → all ≡ filter (λ (y : Finger). y.gate.0 == g) fs → IsPermutation all (done ++ rest) → Contains rest x → x.gate.0 ≡ g
on_gate_is g fs all done rest x is perm there =
    let here : Contains all x = Contains-permutation (done ++ rest) all x (IsPermutation-sym all (done ++ rest) perm) (Contains-append_right done rest x there) in
    let listed : Contains (filter (λ (y : Finger). y.gate.0 == g) fs) x = subst (λ l. Contains l x) is here in
    eqb-true x.gate.0 g (passes_from (λ (y : Finger). y.gate.0 == g) fs x listed).passes

one_gate : (g : ℕ) (x y : Finger) → x.gate.0 ≡ g → y.gate.0 ≡ g → x.gate ≡ y.gate
one_gate g x y of_x of_y = let same : x.gate.0 ≡ y.gate.0 = of_x ∙ sym of_y in λ i. record { 0 = same i }

-- ---- a column of two fingers

-- the second finger so turned that the column has the edge
record Turned (q r : Finger) (e : Edge) : Type 0 where
  pub flipped : Bool
  pub placed : IsPlaced (standing flipped r)
  pub edge : e ≡ edge_of q.lo.0 (left_net (standing flipped r)).0 q.hi.0 (right_net (standing flipped r)).0

turned : (q r : Finger) (e : Edge) → Contains (pair_edges (nets_at q) (nets_at r)) e → Turned q r e
turned q r e c = elim (contains_cons (edge_of q.lo.0 r.lo.0 q.hi.0 r.hi.0) (edge_of q.lo.0 r.hi.0 q.hi.0 r.lo.0 ∷ []) e c) [
  | inl same ↦ record { flipped = false; placed = λ one. refl; edge = sym same }
  | inr rest ↦ unlike (contains_one (edge_of q.lo.0 r.hi.0 q.hi.0 r.lo.0) e rest)
]
  where
    unlike : edge_of q.lo.0 r.hi.0 q.hi.0 r.lo.0 ≡ e → Turned q r e
    unlike same = elim (cases_eq r.lo.0 r.hi.0) [
      | inl one ↦ record {
        flipped = false;
        placed = λ loop. refl;
        edge = sym same ∙ ap (λ v. edge_of q.lo.0 v q.hi.0 r.lo.0) (sym one) ∙ ap (λ v. edge_of q.lo.0 r.lo.0 q.hi.0 v) one;
      }
      | inr two ↦ record { flipped = true; placed = λ loop. absurd (two (ap (λ (n : NetNo). n.0) loop)); edge = sym same }
    ]

pair_built : (f : Fingers) (g : ℕ) (q : Finger) (qs : List Finger) (part : Part) (k : ℕ) → Built f g (q ∷ qs) part k → (y : FingerEnds) → Contains part.left y → (e : Edge) → Contains (pair_edges (nets_at q) y) e → Built f g qs (record { edges = inserted e part.edges; left = without y part.left }) (suc k)
pair_built f g q qs part k b y there e c =
    let all : IsPermutation part.left (y ∷ without y part.left) = one_taken y part.left there in
    let t : Taken y b.n_rest = taken y b.n_rest (Contains-permutation part.left (map nets_at b.n_rest) y (IsPermutation-sym (map nets_at b.n_rest) part.left b.left) there) in
    let u : Turned q t.it e = turned q t.it e (subst (λ v. Contains (pair_edges (nets_at q) v) e) (sym t.nets) c) in
    let of_q : q.gate.0 ≡ g = on_gate_is g f.p (fingers_on g f).p (row_fingers P b.zs) (q ∷ qs) q refl b.p (contains_here q qs) in
    let of_r : t.it.gate.0 ≡ g = on_gate_is g f.n (fingers_on g f).n (row_fingers N b.zs) b.n_rest t.it refl b.n (Contains-permutation (t.it ∷ t.rest) b.n_rest t.it (IsPermutation-sym b.n_rest (t.it ∷ t.rest) t.all) (contains_here t.it t.rest)) in
    let column : Column = record { p = Some (standing false q); n = Some (standing u.flipped t.it) } in
    let fewer : length (y ∷ without y part.left) ≡ length part.left = length_permutation part.left (y ∷ without y part.left) all in
    grown f g (q ∷ qs) part k b (column, e) qs t.rest (without y part.left) u.edge (one_gate g q t.it of_q of_r, λ one. refl, u.placed) (IsPermutation-refl (q ∷ qs)) t.all
    (left_taken y b.n_rest t part.left (without y part.left) b.left all)
    (omega (arith, b.p_few))
    (omega (arith, b.n_few, fewer))

-- ---- a column of one finger

filling : (fs : List Finger) (nets v : ℕ) → Contains (nets_in fs nets) v → is_net_in fs v ≡ true
filling fs nets v c = (passes_from (is_net_in fs) (range_with_len 0 nets) v c).passes

alone_built : (f : Fingers) (g : ℕ) (q : Finger) (qs : List Finger) (part : Part) (k : ℕ) → Built f g (q ∷ qs) part k → length part.left ≤ length qs → (e : Edge) → Contains (p_edges (gate_of f g).n_fill (nets_at q)) e → Built f g qs (record { edges = inserted e part.edges; left = part.left }) (suc k)
alone_built f g q qs part k b few e c =
    let nets : List ℕ = nets_in f.n f.nets in
    let l : Piece (λ u. map (λ v. edge_of q.lo.0 u q.hi.0 v) nets) nets e = in_flat (λ u. map (λ v. edge_of q.lo.0 u q.hi.0 v) nets) nets e c in
    let r : Image (λ v. edge_of q.lo.0 l.of q.hi.0 v) nets e = in_map (λ v. edge_of q.lo.0 l.of q.hi.0 v) nets e l.inside in
    let column : Column = record { p = Some (standing false q); n = None } in
    grown f g (q ∷ qs) part k b (column, e) qs b.n_rest part.left (l.of, r.of, filling f.n f.nets l.of l.listed, filling f.n f.nets r.of r.listed, sym r.is) (λ one. refl) (IsPermutation-refl (q ∷ qs)) (IsPermutation-refl b.n_rest) b.left
    (omega (arith, b.p_few))
    (omega (arith, b.p_few, few))

n_built : (f : Fingers) (g : ℕ) (part : Part) (k : ℕ) → Built f g [] part k → (y : FingerEnds) (ys : List FingerEnds) → part.left ≡ y ∷ ys → (e : Edge) → Contains (n_edges (gate_of f g).p_fill y) e → Built f g [] (record { edges = inserted e part.edges; left = ys }) (suc k)
n_built f g part k b y ys is e c =
    let all : IsPermutation part.left (y ∷ ys) = subst (IsPermutation part.left) is (IsPermutation-refl part.left) in
    let there : Contains part.left y = subst (λ l. Contains l y) (sym is) (contains_here y ys) in
    let t : Taken y b.n_rest = taken y b.n_rest (Contains-permutation part.left (map nets_at b.n_rest) y (IsPermutation-sym (map nets_at b.n_rest) part.left b.left) there) in
    let nets : List ℕ = nets_in f.p f.nets in
    let edge : Contains (n_edges nets (nets_at t.it)) e = subst (λ v. Contains (n_edges nets v) e) (sym t.nets) c in
    let l : Piece (λ u. map (λ v. edge_of u t.it.lo.0 v t.it.hi.0) nets) nets e = in_flat (λ u. map (λ v. edge_of u t.it.lo.0 v t.it.hi.0) nets) nets e edge in
    let r : Image (λ v. edge_of l.of t.it.lo.0 v t.it.hi.0) nets e = in_map (λ v. edge_of l.of t.it.lo.0 v t.it.hi.0) nets e l.inside in
    let column : Column = record { p = None; n = Some (standing false t.it) } in
    grown f g [] part k b (column, e) [] t.rest ys (l.of, r.of, filling f.p f.nets l.of l.listed, filling f.p f.nets r.of r.listed, sym r.is) (λ one. refl) (IsPermutation-refl []) t.all
    (left_taken y b.n_rest t part.left ys b.left all)
    (omega (arith, b.n_few, ap length is))
    (omega (arith, b.n_few, ap length is))

-- ---- a part with its next column

next_built : (f : Fingers) (g : ℕ) (rest : List Finger) (part it : Part) (k : ℕ) → Built f g rest part k → Contains (next_parts (gate_of f g) (map nets_at rest) part) it → Built f g (drop 1 rest) it (suc k)
next_built f g [] part it k b c = by_left part.left refl c
  where
    by_left : (left : List FingerEnds) → part.left ≡ left → Contains (n_alone (gate_of f g) part left) it → Built f g [] it (suc k)
    by_left [] is there = absurd (contains_none it there)
    by_left (y ∷ ys) is there =
        let i : Image (λ (e : Edge). let p : Part = record { edges = inserted e part.edges; left = ys } in p) (n_edges (gate_of f g).p_fill y) it = in_map (λ (e : Edge). let p : Part = record { edges = inserted e part.edges; left = ys } in p) (n_edges (gate_of f g).p_fill y) it there in
        subst (λ (v : Part). Built f g [] v (suc k)) i.is (n_built f g part k b y ys is i.of i.listed)
next_built f g (q ∷ qs) part it k b c = elim (append_from (paired (nets_at q) part) (alone (gate_of f g) (nets_at q) (map nets_at qs) part) it c) [
  | inl there ↦ of_pair there
  | inr there ↦ elim (cases_Bool (leb (length part.left) (length (map nets_at qs)))) [
    | inl few ↦ of_alone (omega (arith, leb-true (length part.left) (length (map nets_at qs)) few, length-map qs nets_at)) (subst (λ l. Contains l it) (ap (λ b. if b then with_column part part.left (p_edges (gate_of f g).n_fill (nets_at q)) else []) few) there)
    | inr many ↦ absurd (contains_none it (subst (λ l. Contains l it) (ap (λ b. if b then with_column part part.left (p_edges (gate_of f g).n_fill (nets_at q)) else []) many) there))
  ]
]
  where
    of_pair : Contains (paired (nets_at q) part) it → Built f g qs it (suc k)
    of_pair there =
        let y : Piece (paired_with (nets_at q) part) part.left it = in_flat (paired_with (nets_at q) part) part.left it there in
        let i : Image (λ (e : Edge). let p : Part = record { edges = inserted e part.edges; left = without y.of part.left } in p) (pair_edges (nets_at q) y.of) it = in_map (λ (e : Edge). let p : Part = record { edges = inserted e part.edges; left = without y.of part.left } in p) (pair_edges (nets_at q) y.of) it y.inside in
        subst (λ (v : Part). Built f g qs v (suc k)) i.is (pair_built f g q qs part k b y.of y.listed i.of i.listed)

    of_alone : length part.left ≤ length qs → Contains (with_column part part.left (p_edges (gate_of f g).n_fill (nets_at q))) it → Built f g qs it (suc k)
    of_alone few there =
        let i : Image (λ (e : Edge). let p : Part = record { edges = inserted e part.edges; left = part.left } in p) (p_edges (gate_of f g).n_fill (nets_at q)) it = in_map (λ (e : Edge). let p : Part = record { edges = inserted e part.edges; left = part.left } in p) (p_edges (gate_of f g).n_fill (nets_at q)) it there in
        subst (λ (v : Part). Built f g qs v (suc k)) i.is (alone_built f g q qs part k b few i.of i.listed)

map_drop : (k : ℕ) (xs : List Finger) → drop k (map nets_at xs) ≡ map nets_at (drop k xs)
map_drop zero xs = refl
map_drop (suc k) [] = refl
map_drop (suc k) (x ∷ xs) = map_drop k xs

start_built : (f : Fingers) (g : ℕ) → Built f g (fingers_on g f).p (record { edges = []; left = (gate_of f g).n }) 0
start_built f g = record {
  zs = [];
  n_rest = (fingers_on g f).n;
  drawn = All-nil (IsDrawn f);
  columns = All-nil IsColumn;
  p = IsPermutation-refl (fingers_on g f).p;
  n = IsPermutation-refl (fingers_on g f).n;
  left = IsPermutation-refl (gate_of f g).n;
  edges = IsPermutation-refl [];
  many = refl;
  p_few = omega (arith, length-map (fingers_on g f).p nets_at);
  n_few = omega arith;
}

front_built : (f : Fingers) (g k : ℕ) (part : Part) → Contains (front_at (gate_of f g) k) part → Built f g (drop k (fingers_on g f).p) part k
front_built f g zero part c = subst (λ (v : Part). Built f g (fingers_on g f).p v 0) (contains_one (record { edges = []; left = (gate_of f g).n }) part c) (start_built f g)
front_built f g (suc k) part c =
    let b : Before (gate_of f g) (drop k (gate_of f g).p) (front_at (gate_of f g) k) part = front_from (gate_of f g) (drop k (gate_of f g).p) (front_at (gate_of f g) k) part c in
    subst (λ l. Built f g l part (suc k)) (drop_more k (fingers_on g f).p)
    (next_built f g (drop k (fingers_on g f).p) b.part part k (front_built f g k b.part b.there) (subst (λ xs. Contains (next_parts (gate_of f g) xs b.part) part) (map_drop k (fingers_on g f).p) b.next))

-- ---- choices

none_left : (xs : List Finger) → length xs ≡ 0 → xs ≡ []
none_left [] h = refl
none_left (x ∷ xs) h = absurd (omega (arith, h))

all_stand : (all done rest : List Finger) → rest ≡ [] → IsPermutation all (done ++ rest) → IsPermutation all done
all_stand all done rest none h = subst (IsPermutation all) (ap (λ l. done ++ l) none ∙ append-nil done) h

built_is : (f : Fingers) (g : ℕ) → g < f.nets → (part : Part) → Built f g (drop (columns_in (gate_of f g)) (fingers_on g f).p) part (columns_in (gate_of f g)) → IsChoice f g part.edges
built_is f g within part b =
    let p_none : drop (columns_in (gate_of f g)) (fingers_on g f).p ≡ [] = none_left (drop (columns_in (gate_of f g)) (fingers_on g f).p) (omega (arith, b.p_few)) in
    let n_none : b.n_rest ≡ [] = none_left b.n_rest (omega (arith, b.n_few, length-map b.n_rest nets_at, length_permutation (map nets_at b.n_rest) part.left b.left)) in
    record {
      columns = map column_at b.zs;
      arranges = record {
        columns = b.columns;
        p = all_stand (fingers_on g f).p (row_fingers P b.zs) (drop (columns_in (gate_of f g)) (fingers_on g f).p) p_none b.p;
        n = all_stand (fingers_on g f).n (row_fingers N b.zs) b.n_rest n_none b.n;
        fewest = omega (arith, b.many, length-map b.zs column_at, columns_of_gate f g within, length-filter (is_on g) f.p, length-filter (is_on g) f.n, length-map (fingers_on g f).p nets_at, length-map (fingers_on g f).n nets_at);
      };
      edges = map edge_at b.zs;
      filled = drawn_zip f b.zs b.drawn;
      listed = b.edges;
    }

listed_is : (f : Fingers) (g : ℕ) → g < f.nets → (choice : List Edge) → Contains (choices_of f g) choice → IsChoice f g choice
unfolding fronts.choices_of
listed_is f g within choice there =
    let i : Image (λ (p : Part). p.edges) (front_at (gate_of f g) (columns_in (gate_of f g))) choice = in_map (λ (p : Part). p.edges) (front_at (gate_of f g) (columns_in (gate_of f g))) choice there in
    subst (IsChoice f g) i.is (built_is f g within i.of (front_built f g (columns_in (gate_of f g)) i.of i.listed))

is_listed : (f : Fingers) → AreFingers f → (g : ℕ) → g < f.nets → (choice : List Edge) → IsChoice f g choice → HasChoice (choices_of f g) choice
is_listed f ok g within choice h =
    let columns : map column_at (zip h.columns h.edges) ≡ h.columns = zip_columns f h.columns h.edges h.filled in
    let l : Listed (choices_of f g) (zip h.columns h.edges) [] = gate_listed f g ok within (zip h.columns h.edges) (subst (λ cs. IsArrangement cs (fingers_on g f)) (sym columns) h.arranges) (zip_drawn f h.columns h.edges h.filled) in
    let edges : map edge_at (zip h.columns h.edges) ++ [] ≡ h.edges = append-nil (map edge_at (zip h.columns h.edges)) ∙ zip_edges f h.columns h.edges h.filled in
    record {
      it = l.choice;
      there = l.there;
      same = IsPermutation-trans choice h.edges l.choice (IsPermutation-sym h.edges choice h.listed) (subst (λ es. IsPermutation es l.choice) edges l.same);
    }

pub all_choices : (f : Fingers) → AreFingers f → (g : ℕ) → g < f.nets → (choice : List Edge) → IsChoice f g choice ↔ HasChoice (choices_of f g) choice
all_choices f ok g within choice = (is_listed f ok g within choice, back)
  where
    back : HasChoice (choices_of f g) choice → IsChoice f g choice
    back h =
        let is : IsChoice f g h.it = listed_is f g within h.it h.there in
        record {
          columns = is.columns;
          arranges = is.arranges;
          edges = is.edges;
          filled = is.filled;
          listed = IsPermutation-trans is.edges h.it choice is.listed (IsPermutation-sym choice h.it h.same);
        }
