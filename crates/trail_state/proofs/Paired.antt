-- Columns that arrange the fingers of a gate are one of the listed choices, up to the order of their edges.
use Rattle.std.proofs.Common.{ℕ, zero, suc, ◌≡◌, ◌+◌, ◌≤◌, Bool, true, false, leb, if◌then◌else◌, max, List, [], ◌∷◌, ◌++◌, length, length-append, drop, Option, Some, None, map, refl, sym, ap, subst, arith, ◌∙◌, inl, inr, All, Contains, IsPermutation}
use Rattle.std.proofs.lemmas.Bool.{cases_Bool, le-leb, leb-false, leb-true}
use Rattle.std.proofs.lemmas.List.Elements.{All-head, All-tail, Contains-append_left, Contains-append_right}
use Rattle.std.proofs.lemmas.List.Sorted.{All-permutation, Contains-permutation, IsPermutation-append_left, IsPermutation-append_right, IsPermutation-map, IsPermutation-middle, IsPermutation-refl, IsPermutation-sym, IsPermutation-trans, length_permutation}
use Rattle.cell_num.specs.declared.finger.Row.TheVariants.{P, N}
use Rattle.cell_num.specs.declared.finger.Finger.{Finger}
use Rattle.cell_num.specs.declared.finger.Fingers.{Fingers}
use Rattle.cell_num.proofs.In.{contains_flat, contains_map}
use Rattle.cell_num.proofs.Lists.{contains_here, contains_there}
use Rattle.row_model.specs.declared.column.Placed.{Placed}
use Rattle.trail_state.specs.declared.edge.Edge.{Edge}
use Rattle.trail_state.specs.declared.edge.FingerEnds.{FingerEnds}
use Rattle.trail_state.specs.Edges.{edge_between, edge_of, n_edges, p_edges, pair_edges, pair_node}
use Rattle.trail_state.specs.Sorted.{inserted, inserted_permutes}
use Rattle.trail_state.specs.declared.front.Part.{Part}
use Rattle.trail_state.specs.declared.gate.Gate.{Gate}
use Rattle.trail_state.specs.Fronts.{alone, edges_of, front_at, n_alone, next_parts, paired, with_column, without}
use Rattle.trail_state.proofs.Listed.{front_has, nets_uncons, one_taken}
use Rattle.trail_state.specs.Choices.{IsEdgeOf}
use Rattle.trail_state.proofs.Chosen.{Drawn, IsDrawn, edge_at}
use Rattle.trail_state.proofs.Held.{Holder, apart, few_nets, holder, left_apart, row_nets}
use Rattle.trail_state.specs.Nodes.{is_net_in}
use Rattle.trail_state.specs.Pairings.{nets_at}
use Rattle.trail_state.proofs.Walks.{ordered}

pub turned_edge : (l r : ℕ) → edge_between l r ≡ edge_between r l
turned_edge l r = elim (cases_Bool (leb l r)) [
  | inl low ↦ elim (cases_Bool (leb r l)) [
    | inl also ↦ let same : l ≡ r = omega (arith, leb-true l r low, leb-true r l also) in ap (λ v. edge_between l v) (sym same) ∙ ap (λ v. edge_between v l) same
    | inr high ↦ ap (λ b. ordered b l r) low ∙ sym (ap (λ b. ordered b r l) high)
  ]
  | inr high ↦ ap (λ b. ordered b l r) high ∙ sym (ap (λ b. ordered b r l) (le-leb r l (omega (arith, leb-false l r high))))
]

turned : (a b c d : ℕ) → edge_of a b c d ≡ edge_of c d a b
turned a b c d = turned_edge (pair_node a b) (pair_node c d)

abbrev net_left : Bool → Finger → ℕ
net_left b x = (if b then x.hi else x.lo).0

abbrev net_right : Bool → Finger → ℕ
net_right b x = (if b then x.lo else x.hi).0

alike_there : (x y : Finger) → Contains (pair_edges (nets_at x) (nets_at y)) (edge_of x.lo.0 y.lo.0 x.hi.0 y.hi.0)
alike_there x y = contains_here (edge_of x.lo.0 y.lo.0 x.hi.0 y.hi.0) (edge_of x.lo.0 y.hi.0 x.hi.0 y.lo.0 ∷ [])

unlike_there : (x y : Finger) → Contains (pair_edges (nets_at x) (nets_at y)) (edge_of x.lo.0 y.hi.0 x.hi.0 y.lo.0)
unlike_there x y = contains_there (edge_of x.lo.0 y.lo.0 x.hi.0 y.hi.0) (edge_of x.lo.0 y.hi.0 x.hi.0 y.lo.0 ∷ []) (edge_of x.lo.0 y.hi.0 x.hi.0 y.lo.0) (contains_here (edge_of x.lo.0 y.hi.0 x.hi.0 y.lo.0) [])

pair_there : (x y : Finger) (a b : Bool) → Contains (pair_edges (nets_at x) (nets_at y)) (edge_of (net_left a x) (net_left b y) (net_right a x) (net_right b y))
pair_there x y false false = alike_there x y
pair_there x y false true = unlike_there x y
pair_there x y true false = subst (Contains (pair_edges (nets_at x) (nets_at y))) (turned x.lo.0 y.hi.0 x.hi.0 y.lo.0) (unlike_there x y)
pair_there x y true true = subst (Contains (pair_edges (nets_at x) (nets_at y))) (turned x.lo.0 y.lo.0 x.hi.0 y.hi.0) (alike_there x y)

p_plain : (nets : List ℕ) (x : FingerEnds) (l r : ℕ) → Contains nets l → Contains nets r → Contains (p_edges nets x) (edge_of x.lo l x.hi r)
p_plain nets x l r cl cr = contains_flat (λ u. map (λ v. edge_of x.lo u x.hi v) nets) nets l (edge_of x.lo l x.hi r) cl (contains_map (λ v. edge_of x.lo l x.hi v) nets r cr)

p_there : (nets : List ℕ) (x : Finger) (a : Bool) (l r : ℕ) → Contains nets l → Contains nets r → Contains (p_edges nets (nets_at x)) (edge_of (net_left a x) l (net_right a x) r)
p_there nets x false l r cl cr = p_plain nets (nets_at x) l r cl cr
p_there nets x true l r cl cr = subst (Contains (p_edges nets (nets_at x))) (turned x.lo.0 r x.hi.0 l) (p_plain nets (nets_at x) r l cr cl)

n_plain : (nets : List ℕ) (y : FingerEnds) (l r : ℕ) → Contains nets l → Contains nets r → Contains (n_edges nets y) (edge_of l y.lo r y.hi)
n_plain nets y l r cl cr = contains_flat (λ u. map (λ v. edge_of u y.lo v y.hi) nets) nets l (edge_of l y.lo r y.hi) cl (contains_map (λ v. edge_of l y.lo v y.hi) nets r cr)

n_there : (nets : List ℕ) (y : Finger) (b : Bool) (l r : ℕ) → Contains nets l → Contains nets r → Contains (n_edges nets (nets_at y)) (edge_of l (net_left b y) r (net_right b y))
n_there nets y false l r cl cr = n_plain nets (nets_at y) l r cl cr
n_there nets y true l r cl cr = subst (Contains (n_edges nets (nets_at y))) (turned r y.lo.0 l y.hi.0) (n_plain nets (nets_at y) r l cr cl)

drawn_as : (f : Fingers) (z : Drawn) (p n : Option Placed) → z.0.p ≡ p → z.0.n ≡ n → IsDrawn f z → IsEdgeOf f p n z.1
drawn_as f z p n is_p is_n h = subst (λ o. IsEdgeOf f p o z.1) is_n (subst (λ o. IsEdgeOf f o z.0.n z.1) is_p h)

paired_edge : (f : Fingers) (z : Drawn) (x y : Placed) → z.0.p ≡ Some x → z.0.n ≡ Some y → IsDrawn f z → Contains (pair_edges (nets_at x.finger) (nets_at y.finger)) z.1
paired_edge f z x y is_x is_y drawn = subst (Contains (pair_edges (nets_at x.finger) (nets_at y.finger))) (sym (drawn_as f z (Some x) (Some y) is_x is_y drawn)) (pair_there x.finger y.finger x.flipped y.flipped)

-- columns with edges that arrange fingers with these nets, as few as they allow
pub record Arranged (f : Fingers) (xs ys : List FingerEnds) (zs : List Drawn) : Type 0 where
  pub drawn : All (IsDrawn f) zs
  pub p : IsPermutation xs (row_nets P zs)
  pub n : IsPermutation ys (row_nets N zs)
  pub fewest : length zs ≡ max (length xs) (length ys)

-- a listed choice that has the edges of the columns and these
pub record Listed (lists : List (List Edge)) (zs : List Drawn) (edges : List Edge) : Type 0 where
  pub choice : List Edge
  pub there : Contains lists choice
  pub same : IsPermutation (map edge_at zs ++ edges) choice

edge_moved : (before behind : List Drawn) (z : Drawn) (zs : List Drawn) (edges : List Edge) → zs ≡ before ++ z ∷ behind → IsPermutation (map edge_at zs ++ edges) (map edge_at (before ++ behind) ++ inserted z.1 edges)
edge_moved before behind z zs edges is =
    let rest : List Edge = map edge_at (before ++ behind) in
    let first : IsPermutation (map edge_at zs) (z.1 ∷ rest) = subst (λ l. IsPermutation (map edge_at l) (z.1 ∷ rest)) (sym is) (IsPermutation-map edge_at (before ++ z ∷ behind) (z ∷ (before ++ behind)) (IsPermutation-middle before z behind)) in
    let moved : IsPermutation (z.1 ∷ (rest ++ edges)) (rest ++ z.1 ∷ edges) = IsPermutation-sym (rest ++ z.1 ∷ edges) (z.1 ∷ (rest ++ edges)) (IsPermutation-middle rest z.1 edges) in
    IsPermutation-trans (map edge_at zs ++ edges) (z.1 ∷ (rest ++ edges)) (rest ++ inserted z.1 edges)
    (IsPermutation-append_left edges (map edge_at zs) (z.1 ∷ rest) first)
    (IsPermutation-trans (z.1 ∷ (rest ++ edges)) (rest ++ z.1 ∷ edges) (rest ++ inserted z.1 edges) moved (IsPermutation-append_right rest (z.1 ∷ edges) (inserted z.1 edges) (inserted_permutes z.1 edges)))

pub drop_more : {X : Type 0} (at : ℕ) (xs : List X) → drop 1 (drop at xs) ≡ drop (suc at) xs
drop_more zero xs = refl
drop_more (suc at) [] = refl
drop_more (suc at) (x ∷ xs) = drop_more at xs

-- the nets that fill empty places are listed
module _ (f : Fingers) (gate : Gate) (fill_p : (v : ℕ) → is_net_in f.p v ≡ true → Contains gate.p_fill v) (fill_n : (v : ℕ) → is_net_in f.n v ≡ true → Contains gate.n_fill v) where
  p_alone_edge : (z : Drawn) (x : Placed) → z.0.p ≡ Some x → z.0.n ≡ None → IsDrawn f z → Contains (p_edges gate.n_fill (nets_at x.finger)) z.1
  p_alone_edge z x is none drawn =
      let (u, v, u_in, v_in, same) = drawn_as f z (Some x) None is none drawn in
      subst (Contains (p_edges gate.n_fill (nets_at x.finger))) (sym same) (p_there gate.n_fill x.finger x.flipped u v (fill_n u u_in) (fill_n v v_in))

  n_alone_edge : (z : Drawn) (y : Placed) → z.0.p ≡ None → z.0.n ≡ Some y → IsDrawn f z → Contains (n_edges gate.p_fill (nets_at y.finger)) z.1
  n_alone_edge z y none is drawn =
      let (u, v, u_in, v_in, same) = drawn_as f z None (Some y) none is drawn in
      subst (Contains (n_edges gate.p_fill (nets_at y.finger))) (sym same) (n_there gate.p_fill y.finger y.flipped u v (fill_p u u_in) (fill_p v v_in))

  -- the part with one of the columns, which some of its next parts is
  record Longer (xs : List FingerEnds) (part : Part) (zs : List Drawn) : Type 0 where
    pub it : Part
    pub rest : List Drawn
    pub there : Contains (next_parts gate xs part) it
    pub arranged : Arranged f (drop 1 xs) it.left rest
    pub edges : IsPermutation (map edge_at zs ++ part.edges) (map edge_at rest ++ it.edges)
    pub fewer : length zs ≡ 1 + length rest

  with_one : (part : Part) (left : List FingerEnds) (edges : List Edge) (e : Edge) → Contains edges e → Contains (with_column part left edges) (record { edges = inserted e part.edges; left = left })
  with_one part left edges e there = contains_map (λ (d : Edge). let p : Part = record { edges = inserted d part.edges; left = left } in p) edges e there

  drawn_all : (zs before behind : List Drawn) (z : Drawn) → zs ≡ before ++ z ∷ behind → All (IsDrawn f) zs → All (IsDrawn f) (z ∷ (before ++ behind))
  drawn_all zs before behind z is all = All-permutation (IsDrawn f) (before ++ z ∷ behind) (z ∷ (before ++ behind)) (IsPermutation-middle before z behind) (subst (All (IsDrawn f)) is all)

  many : (zs before behind : List Drawn) (z : Drawn) → zs ≡ before ++ z ∷ behind → length zs ≡ 1 + length (before ++ behind)
  many zs before behind z is = omega (arith, ap length is, length-append before (z ∷ behind), length-append before behind)

  p_longer : (x : FingerEnds) (xs : List FingerEnds) (part : Part) (zs : List Drawn) → Arranged f (x ∷ xs) part.left zs → Longer (x ∷ xs) part zs
  p_longer x xs part zs h =
      let k : Holder P x zs = holder P x zs (Contains-permutation (x ∷ xs) (row_nets P zs) x h.p (contains_here x xs)) in
      at_place k k.at.0.n refl
    where
      drawn : (k : Holder P x zs) → All (IsDrawn f) (k.at ∷ (k.before ++ k.behind))
      drawn k = drawn_all zs k.before k.behind k.at k.is h.drawn

      p_rest : (k : Holder P x zs) → IsPermutation xs (row_nets P (k.before ++ k.behind))
      p_rest k = nets_uncons x xs (row_nets P (k.before ++ k.behind)) (subst (λ u. IsPermutation (x ∷ xs) (u ∷ row_nets P (k.before ++ k.behind))) k.nets (apart P (x ∷ xs) zs k.before k.behind k.at (Some k.placed) h.p k.is k.place))

      longer : (k : Holder P x zs) (left : List FingerEnds) → IsPermutation left (row_nets N (k.before ++ k.behind)) → length (k.before ++ k.behind) ≡ max (length xs) (length left) → Contains (next_parts gate (x ∷ xs) part) (record { edges = inserted k.at.1 part.edges; left = left }) → Longer (x ∷ xs) part zs
      longer k left n few there = record {
        it = record { edges = inserted k.at.1 part.edges; left = left };
        rest = k.before ++ k.behind;
        there = there;
        arranged = record { drawn = All-tail (IsDrawn f) k.at (k.before ++ k.behind) (drawn k); p = p_rest k; n = n; fewest = few };
        edges = edge_moved k.before k.behind k.at zs part.edges k.is;
        fewer = many zs k.before k.behind k.at k.is;
      }

      at_place : (k : Holder P x zs) (o : Option Placed) → k.at.0.n ≡ o → Longer (x ∷ xs) part zs
      at_place k (Some y) is =
          let left : List FingerEnds = without (nets_at y.finger) part.left in
          let n : Contains part.left (nets_at y.finger) × IsPermutation left (row_nets N (k.before ++ k.behind)) = left_apart N part.left zs k.before k.behind k.at y h.n k.is is in
          let edge : Contains (pair_edges x (nets_at y.finger)) k.at.1 = subst (λ u. Contains (pair_edges u (nets_at y.finger)) k.at.1) k.nets (paired_edge f k.at k.placed y k.place is (All-head (IsDrawn f) k.at (k.before ++ k.behind) (drawn k))) in
          let it : Part = record { edges = inserted k.at.1 part.edges; left = left } in
          let fewer : length part.left ≡ length (nets_at y.finger ∷ left) = sym (length_permutation part.left (nets_at y.finger ∷ left) (one_taken (nets_at y.finger) part.left n.0)) in
          longer k left n.1 (omega (arith, h.fewest, many zs k.before k.behind k.at k.is, fewer))
          (Contains-append_left (paired x part) (alone gate x xs part) it
          (contains_flat (λ u. with_column part (without u part.left) (pair_edges x u)) part.left (nets_at y.finger) it n.0 (with_one part left (pair_edges x (nets_at y.finger)) k.at.1 edge)))
      at_place k None is =
          let n : IsPermutation part.left (row_nets N (k.before ++ k.behind)) = apart N part.left zs k.before k.behind k.at None h.n k.is is in
          let less : length part.left ≤ length (k.before ++ k.behind) = omega (arith, length_permutation part.left (row_nets N (k.before ++ k.behind)) n, few_nets N (k.before ++ k.behind)) in
          let few : length part.left ≤ length xs = omega (arith, less, h.fewest, many zs k.before k.behind k.at k.is) in
          let edge : Contains (p_edges gate.n_fill x) k.at.1 = subst (λ u. Contains (p_edges gate.n_fill u) k.at.1) k.nets (p_alone_edge k.at k.placed k.place is (All-head (IsDrawn f) k.at (k.before ++ k.behind) (drawn k))) in
          let it : Part = record { edges = inserted k.at.1 part.edges; left = part.left } in
          let may : alone gate x xs part ≡ with_column part part.left (p_edges gate.n_fill x) = ap (λ b. if b then with_column part part.left (p_edges gate.n_fill x) else []) (le-leb (length part.left) (length xs) few) in
          longer k part.left n (omega (arith, h.fewest, many zs k.before k.behind k.at k.is, few))
          (Contains-append_right (paired x part) (alone gate x xs part) it (subst (λ l. Contains l it) (sym may) (with_one part part.left (p_edges gate.n_fill x) k.at.1 edge)))

  n_longer : (y : FingerEnds) (ys : List FingerEnds) (part : Part) (zs : List Drawn) → part.left ≡ y ∷ ys → Arranged f [] (y ∷ ys) zs → Longer [] part zs
  n_longer y ys part zs left h =
      let k : Holder N y zs = holder N y zs (Contains-permutation (y ∷ ys) (row_nets N zs) y h.n (contains_here y ys)) in
      at_place k k.at.0.p refl
    where
      -- a row without fingers has empty places alone
      at_place : (k : Holder N y zs) (o : Option Placed) → k.at.0.p ≡ o → Longer [] part zs
      at_place k (Some x) is = absurd (omega (arith, length_permutation [] (nets_at x.finger ∷ row_nets P (k.before ++ k.behind)) (apart P [] zs k.before k.behind k.at (Some x) h.p k.is is)))
      at_place k None is =
          let drawn : All (IsDrawn f) (k.at ∷ (k.before ++ k.behind)) = drawn_all zs k.before k.behind k.at k.is h.drawn in
          let edge : Contains (n_edges gate.p_fill y) k.at.1 = subst (λ u. Contains (n_edges gate.p_fill u) k.at.1) k.nets (n_alone_edge k.at k.placed is k.place (All-head (IsDrawn f) k.at (k.before ++ k.behind) drawn)) in
          let it : Part = record { edges = inserted k.at.1 part.edges; left = ys } in
          record {
            it = it;
            rest = k.before ++ k.behind;
            there = subst (λ l. Contains (n_alone gate part l) it) (sym left) (with_one part ys (n_edges gate.p_fill y) k.at.1 edge);
            arranged = record {
              drawn = All-tail (IsDrawn f) k.at (k.before ++ k.behind) drawn;
              p = apart P [] zs k.before k.behind k.at None h.p k.is is;
              n = nets_uncons y ys (row_nets N (k.before ++ k.behind)) (subst (λ u. IsPermutation (y ∷ ys) (u ∷ row_nets N (k.before ++ k.behind))) k.nets (apart N (y ∷ ys) zs k.before k.behind k.at (Some k.placed) h.n k.is k.place));
              fewest = omega (arith, h.fewest, many zs k.before k.behind k.at k.is);
            };
            edges = edge_moved k.before k.behind k.at zs part.edges k.is;
            fewer = many zs k.before k.behind k.at k.is;
          }

  longer : (xs left : List FingerEnds) (part : Part) (zs : List Drawn) (k : ℕ) → part.left ≡ left → Arranged f xs left zs → length zs ≡ suc k → Longer xs part zs
  longer [] [] part zs k is h some = absurd (omega (arith, h.fewest, some))
  longer [] (y ∷ ys) part zs k is h some = n_longer y ys part zs is h
  longer (x ∷ xs) left part zs k is h some = p_longer x xs part zs (subst (λ l. Arranged f (x ∷ xs) l zs) (sym is) h)

  -- the columns that a part lacks are added, one by one
  pub parts_listed : (k at n : ℕ) (part : Part) (zs : List Drawn) → length zs ≡ k → n ≡ at + k → Contains (front_at gate at) part → Arranged f (drop at gate.p) part.left zs → Listed (edges_of (front_at gate n)) zs part.edges
  parts_listed zero at n part [] many is there h =
      let same : at ≡ n = omega (arith, is) in
      record { choice = part.edges; there = subst (λ i. Contains (edges_of (front_at gate i)) part.edges) same (contains_map (λ (p : Part). p.edges) (front_at gate at) part there); same = IsPermutation-refl part.edges }
  parts_listed zero at n part (z ∷ zs) many is there h = absurd (omega (arith, many))
  parts_listed (suc k) at n part zs many is there h =
      let l : Longer (drop at gate.p) part zs = longer (drop at gate.p) part.left part zs k refl h many in
      let rest : Listed (edges_of (front_at gate n)) l.rest l.it.edges = parts_listed k (suc at) n l.it l.rest (omega (arith, many, l.fewer)) (omega (arith, is)) (front_has gate (drop at gate.p) (front_at gate at) part l.it there l.there) (subst (λ xs. Arranged f xs l.it.left l.rest) (drop_more at gate.p) l.arranged) in
      record {
        choice = rest.choice;
        there = rest.there;
        same = IsPermutation-trans (map edge_at zs ++ part.edges) (map edge_at l.rest ++ l.it.edges) rest.choice l.edges rest.same;
      }
