-- The front of a gate has each way to put fingers of the other row beside some of the row's fingers, and no other.
use Rattle.std.proofs.Common.{◌≡◌, true, if◌then◌else◌, List, [], ◌∷◌, ◌++◌, fold, map, refl, sym, ap, subst, arith}
use Rattle.std.proofs.Common.{inl, inr, ◌⊎◌, All, Contains, IsPermutation}
use Rattle.std.specs.List.{list_any}
use Rattle.std.proofs.lemmas.Bool.{cases_Bool}
use Rattle.std.proofs.lemmas.List.Elements.{All-cons, All-head, All-nil, All-tail, Contains-append_left}
use Rattle.std.proofs.lemmas.List.Elements.{Contains-append_right}
use Rattle.std.proofs.lemmas.List.Sorted.{All-permutation, Contains-permutation, IsPermutation-append_left}
use Rattle.std.proofs.lemmas.List.Sorted.{IsPermutation-append_right, IsPermutation-cons, IsPermutation-map}
use Rattle.std.proofs.lemmas.List.Sorted.{IsPermutation-middle, IsPermutation-refl, IsPermutation-sym}
use Rattle.std.proofs.lemmas.List.Sorted.{IsPermutation-trans, length_permutation}
use Rattle.cell_num.specs.declared.finger.Row.{Row}
use Rattle.cell_num.proofs.In.{Image, Piece, contains_flat, contains_map, in_flat, in_map}
use Rattle.cell_num.proofs.Lists.{contains_cons, contains_here, contains_none, contains_one, contains_there}
use Rattle.cell_num.proofs.Pairs.{Some', test_finds}
use Rattle.trail_state.specs.declared.edge.Edge.{Edge}
use Rattle.trail_state.specs.declared.edge.FingerEnds.{FingerEnds}
use Rattle.trail_state.specs.Fronts.{without}
use Rattle.trail_state.specs.Sorted.{inserted, inserted_permutes}
use Rattle.trail_state.proofs.Listed.{append_from, nets_uncons, one_taken}
use Rattle.trail_halves.specs.declared.choice.OpenChoice.{OpenChoice}
use Rattle.trail_pools.specs.Choices.{beside, beside_one, column_edges, next_front, with_all, with_new}
use Rattle.trail_halves.specs.Same.{choice_decides, is_same}

-- ---- each choice once

new_there : (cs : List OpenChoice) (c : OpenChoice) → Contains (with_new cs c) c
new_there cs c = elim (cases_Bool (list_any (is_same c) cs)) [
  | inl known ↦
      let s : Some' (λ d. is_same c d ≡ true) cs = test_finds (is_same c) cs known in
      subst (λ l. Contains l c) (sym (ap (λ b. if b then cs else cs ++ c ∷ []) known))
      (subst (Contains cs) (sym ((choice_decides c s.it).0 s.holds)) s.there)
  | inr fresh ↦
      subst (λ l. Contains l c) (sym (ap (λ b. if b then cs else cs ++ c ∷ []) fresh))
      (Contains-append_right cs (c ∷ []) c (contains_here c []))
]

new_keeps : (cs : List OpenChoice) (d c : OpenChoice) → Contains cs c → Contains (with_new cs d) c
new_keeps cs d c there = elim (cases_Bool (list_any (is_same d) cs)) [
  | inl known ↦ subst (λ l. Contains l c) (sym (ap (λ b. if b then cs else cs ++ d ∷ []) known)) there
  | inr fresh ↦
      subst (λ l. Contains l c) (sym (ap (λ b. if b then cs else cs ++ d ∷ []) fresh))
      (Contains-append_left cs (d ∷ []) c there)
]

all_kept : (more cs : List OpenChoice) (c : OpenChoice) → Contains cs c → Contains (with_all cs more) c
all_kept [] cs c there = there
all_kept (d ∷ more) cs c there = all_kept more (with_new cs d) c (new_keeps cs d c there)

each_there : (more cs : List OpenChoice) (c : OpenChoice) → Contains more c → Contains (with_all cs more) c
each_there [] cs c there = absurd (contains_none c there)
each_there (d ∷ more) cs c there = elim (contains_cons d more c there) [
  | inl same ↦ all_kept more (with_new cs d) c (subst (Contains (with_new cs d)) same (new_there cs d))
  | inr rest ↦ each_there more (with_new cs d) c rest
]

new_from : (cs : List OpenChoice) (d c : OpenChoice) → Contains (with_new cs d) c → Contains cs c ⊎ (d ≡ c)
new_from cs d c there = elim (cases_Bool (list_any (is_same d) cs)) [
  | inl known ↦ inl (subst (λ l. Contains l c) (ap (λ b. if b then cs else cs ++ d ∷ []) known) there)
  | inr fresh ↦ elim (append_from cs (d ∷ []) c
      (subst (λ l. Contains l c) (ap (λ b. if b then cs else cs ++ d ∷ []) fresh) there)) [
        | inl old ↦ inl old
        | inr one ↦ inr (contains_one d c one)
      ]
]

all_from : (more cs : List OpenChoice) (c : OpenChoice) → Contains (with_all cs more) c → Contains cs c ⊎ Contains more c
all_from [] cs c there = inl there
all_from (d ∷ more) cs c there = elim (all_from more (with_new cs d) c there) [
  | inl old ↦ elim (new_from cs d c old) [
    | inl before ↦ inl before
    | inr same ↦ inr (subst (Contains (d ∷ more)) same (contains_here d more))
  ]
  | inr later ↦ inr (contains_there d more c later)
]

module _ (r : Row) (y : FingerEnds) where
  abbrev behind : List OpenChoice → List OpenChoice → List OpenChoice
  behind cs front = fold (λ (all : List OpenChoice) (c : OpenChoice). with_all all (beside r y c)) cs front

  front_kept : (front cs : List OpenChoice) (c : OpenChoice) → Contains cs c → Contains (behind cs front) c
  front_kept [] cs c there = there
  front_kept (d ∷ front) cs c there =
      front_kept front (with_all cs (beside r y d)) c (all_kept (beside r y d) cs c there)

  each_behind : (front cs : List OpenChoice) (b c : OpenChoice) → Contains front b → Contains (beside r y b) c
      → Contains (behind cs front) c
  each_behind [] cs b c there more = absurd (contains_none b there)
  each_behind (d ∷ front) cs b c there more = elim (contains_cons d front b there) [
    | inl same ↦
        front_kept front (with_all cs (beside r y d)) c
        (each_there (beside r y d) cs c (subst (λ (v : OpenChoice). Contains (beside r y v) c) (sym same) more))
    | inr rest ↦ each_behind front (with_all cs (beside r y d)) b c rest more
  ]

  -- a choice of the front that this one is with the finger beside a half edge
  record Before (front : List OpenChoice) (c : OpenChoice) : Type 0 where
    pub choice : OpenChoice
    pub there : Contains front choice
    pub next : Contains (beside r y choice) c

  each_from : (front cs : List OpenChoice) (c : OpenChoice) → Contains (behind cs front) c → Contains cs c ⊎ Before front c
  each_from [] cs c there = inl there
  each_from (d ∷ front) cs c there = elim (each_from front (with_all cs (beside r y d)) c there) [
    | inl old ↦ elim (all_from (beside r y d) cs c old) [
      | inl before ↦ inl before
      | inr next ↦ inr (record { choice = d; there = contains_here d front; next = next })
    ]
    | inr b ↦ inr (record { choice = b.choice; there = contains_there d front b.choice b.there; next = b.next })
  ]

  front_has : (front : List OpenChoice) (b c : OpenChoice) → Contains front b → Contains (beside r y b) c
      → Contains (next_front r front y) c
  front_has front b c there more = each_behind front [] b c there more

  front_from : (front : List OpenChoice) (c : OpenChoice) → Contains (next_front r front y) c → Before front c
  front_from front c there = elim (each_from front [] c there) [
    | inl none ↦ absurd (contains_none c none)
    | inr b ↦ b
  ]

-- ---- columns of two fingers

-- two fingers in one column, by the nets at their ends, and the column's edge
pub record Pair : Type 0 where
  pub x : FingerEnds
  pub y : FingerEnds
  pub e : Edge

abbrev pub x_of : Pair → FingerEnds
x_of p = p.x

abbrev pub y_of : Pair → FingerEnds
y_of p = p.y

abbrev pub e_of : Pair → Edge
e_of p = p.e

abbrev pub IsPair : Row → Pair → Type 0
IsPair r p = Contains (column_edges r p.x p.y) p.e

record Split (y : FingerEnds) (pairs : List Pair) : Type 0 where
  pub before : List Pair
  pub at : Pair
  pub behind : List Pair
  pub is : pairs ≡ before ++ at ∷ behind
  pub has : at.y ≡ y

split : (y : FingerEnds) (pairs : List Pair) → Contains (map y_of pairs) y → Split y pairs
split y [] c = absurd (contains_none y c)
split y (p ∷ ps) c = elim (contains_cons p.y (map y_of ps) y c) [
  | inl same ↦ record { before = []; at = p; behind = ps; is = refl; has = same }
  | inr rest ↦
      let s : Split y ps = split y ps rest in
      record { before = p ∷ s.before; at = s.at; behind = s.behind; is = ap (λ l. p ∷ l) s.is; has = s.has }
]

-- the edge of a column put in its place
edge_moved : (pairs rest : List Pair) (p : Pair) (edges : List Edge) → IsPermutation pairs (p ∷ rest)
    → IsPermutation (map e_of pairs ++ edges) (map e_of rest ++ inserted p.e edges)
edge_moved pairs rest p edges is =
    let others : List Edge = map e_of rest in
    IsPermutation-trans (map e_of pairs ++ edges) (p.e ∷ (others ++ edges)) (others ++ inserted p.e edges)
    (IsPermutation-append_left edges (map e_of pairs) (p.e ∷ others) (IsPermutation-map e_of pairs (p ∷ rest) is))
    (IsPermutation-trans (p.e ∷ (others ++ edges)) (others ++ p.e ∷ edges) (others ++ inserted p.e edges)
    (IsPermutation-sym (others ++ p.e ∷ edges) (p.e ∷ (others ++ edges)) (IsPermutation-middle others p.e edges))
    (IsPermutation-append_right others (p.e ∷ edges) (inserted p.e edges) (inserted_permutes p.e edges)))

-- a listed choice that has these edges and half edges
pub record Found (choices : List OpenChoice) (es : List Edge) (hs : List FingerEnds) : Type 0 where
  pub it : OpenChoice
  pub there : Contains choices it
  pub edges : IsPermutation es it.edges
  pub halves : IsPermutation hs it.halves

module _ (r : Row) (hs : List FingerEnds) where
  pub found : (ys : List FingerEnds) (front : List OpenChoice) (c : OpenChoice) (pairs : List Pair) → Contains front c
      → IsPermutation c.halves (map x_of pairs ++ hs) → IsPermutation ys (map y_of pairs) → All (IsPair r) pairs
      → Found (fold (next_front r) front ys) (map e_of pairs ++ c.edges) hs
  found [] front c [] there xs_are ys_are are = record {
    it = c;
    there = there;
    edges = IsPermutation-refl c.edges;
    halves = IsPermutation-sym c.halves hs xs_are;
  }
  found [] front c (p ∷ ps) there xs_are ys_are are =
      absurd (omega (arith, length_permutation [] (p.y ∷ map y_of ps) ys_are))
  found (y ∷ ys) front c pairs there xs_are ys_are are =
      let s : Split y pairs =
      split y pairs (Contains-permutation (y ∷ ys) (map y_of pairs) y ys_are (contains_here y ys)) in
      let p : Pair = s.at in
      let rest : List Pair = s.before ++ s.behind in
      let parted : IsPermutation pairs (p ∷ rest) =
      subst (λ l. IsPermutation l (p ∷ rest)) (sym s.is) (IsPermutation-middle s.before p s.behind) in
      let all : IsPermutation c.halves (p.x ∷ (map x_of rest ++ hs)) =
      IsPermutation-trans c.halves (map x_of pairs ++ hs) (p.x ∷ (map x_of rest ++ hs)) xs_are
      (IsPermutation-append_left hs (map x_of pairs) (p.x ∷ map x_of rest)
      (IsPermutation-map x_of pairs (p ∷ rest) parted)) in
      let x_there : Contains c.halves p.x =
      Contains-permutation (p.x ∷ (map x_of rest ++ hs)) c.halves p.x
      (IsPermutation-sym c.halves (p.x ∷ (map x_of rest ++ hs)) all) (contains_here p.x (map x_of rest ++ hs)) in
      let left : List FingerEnds = without p.x c.halves in
      let xs_left : IsPermutation left (map x_of rest ++ hs) =
      nets_uncons p.x left (map x_of rest ++ hs)
      (IsPermutation-trans (p.x ∷ left) c.halves (p.x ∷ (map x_of rest ++ hs))
      (IsPermutation-sym c.halves (p.x ∷ left) (one_taken p.x c.halves x_there)) all) in
      let ys_left : IsPermutation ys (map y_of rest) =
      nets_uncons y ys (map y_of rest)
      (subst (λ v. IsPermutation (y ∷ ys) (v ∷ map y_of rest)) s.has
      (IsPermutation-trans (y ∷ ys) (map y_of pairs) (p.y ∷ map y_of rest) ys_are
      (IsPermutation-map y_of pairs (p ∷ rest) parted))) in
      let now : All (IsPair r) (p ∷ rest) = All-permutation (IsPair r) pairs (p ∷ rest) parted are in
      let edge : Contains (column_edges r p.x y) p.e =
      subst (λ v. Contains (column_edges r p.x v) p.e) s.has (All-head (IsPair r) p rest now) in
      let next : OpenChoice = record { edges = inserted p.e c.edges; halves = left } in
      let in_beside : Contains (beside r y c) next =
      contains_flat (beside_one r y c) c.halves p.x next x_there
      (contains_map (λ (e : Edge). let d : OpenChoice = record { edges = inserted e c.edges; halves = left } in d)
      (column_edges r p.x y) p.e edge) in
      let f : Found (fold (next_front r) (next_front r front y) ys) (map e_of rest ++ next.edges) hs =
      found ys (next_front r front y) next rest (front_has r y front c next there in_beside) xs_left ys_left
      (All-tail (IsPair r) p rest now) in
      record {
        it = f.it;
        there = f.there;
        edges =
            IsPermutation-trans (map e_of pairs ++ c.edges) (map e_of rest ++ next.edges) f.it.edges
            (edge_moved pairs rest p c.edges parted) f.edges;
        halves = f.halves;
      }

-- the columns by which a choice of a front becomes this one
pub record Made (r : Row) (front : List OpenChoice) (ys : List FingerEnds) (it : OpenChoice) : Type 0 where
  pub choice : OpenChoice
  pub there : Contains front choice
  pub pairs : List Pair
  pub are : All (IsPair r) pairs
  pub fingers : map y_of pairs ≡ ys
  pub halves : IsPermutation choice.halves (map x_of pairs ++ it.halves)
  pub edges : IsPermutation (map e_of pairs ++ choice.edges) it.edges

module _ (r : Row) where
  -- the first of the columns
  first_made : (y : FingerEnds) (ys : List FingerEnds) (front : List OpenChoice) (b it : OpenChoice)
      (m : Made r (next_front r front y) ys it) → Contains front b → Contains (beside r y b) m.choice
      → Made r front (y ∷ ys) it
  first_made y ys front b it m there next =
      let x : Piece (beside_one r y b) b.halves m.choice = in_flat (beside_one r y b) b.halves m.choice next in
      let left : List FingerEnds = without x.of b.halves in
      let i : Image (λ (e : Edge). let d : OpenChoice = record { edges = inserted e b.edges; halves = left } in d)
      (column_edges r x.of y) m.choice =
      in_map (λ (e : Edge). let d : OpenChoice = record { edges = inserted e b.edges; halves = left } in d)
      (column_edges r x.of y) m.choice x.inside in
      let p : Pair = record { x = x.of; y = y; e = i.of } in
      let halves_are : left ≡ m.choice.halves = ap (λ (d : OpenChoice). d.halves) i.is in
      let edges_are : inserted i.of b.edges ≡ m.choice.edges = ap (λ (d : OpenChoice). d.edges) i.is in
      let xs_left : IsPermutation left (map x_of m.pairs ++ it.halves) =
      subst (λ l. IsPermutation l (map x_of m.pairs ++ it.halves)) (sym halves_are) m.halves in
      let es_left : IsPermutation (map e_of m.pairs ++ inserted i.of b.edges) it.edges =
      subst (λ l. IsPermutation (map e_of m.pairs ++ l) it.edges) (sym edges_are) m.edges in
      record {
        choice = b;
        there = there;
        pairs = p ∷ m.pairs;
        are = All-cons (IsPair r) p m.pairs i.listed m.are;
        fingers = ap (λ l. y ∷ l) m.fingers;
        halves =
            IsPermutation-trans b.halves (x.of ∷ left) (x.of ∷ (map x_of m.pairs ++ it.halves))
            (one_taken x.of b.halves x.listed) (IsPermutation-cons x.of left (map x_of m.pairs ++ it.halves) xs_left);
        edges =
            IsPermutation-trans (map e_of (p ∷ m.pairs) ++ b.edges) (map e_of m.pairs ++ inserted i.of b.edges) it.edges
            (edge_moved (p ∷ m.pairs) m.pairs p b.edges (IsPermutation-refl (p ∷ m.pairs))) es_left;
      }

  pub made : (ys : List FingerEnds) (front : List OpenChoice) (it : OpenChoice)
      → Contains (fold (next_front r) front ys) it → Made r front ys it
  made [] front it there = record {
    choice = it;
    there = there;
    pairs = [];
    are = All-nil (IsPair r);
    fingers = refl;
    halves = IsPermutation-refl it.halves;
    edges = IsPermutation-refl it.edges;
  }
  made (y ∷ ys) front it there =
      let m : Made r (next_front r front y) ys it = made ys (next_front r front y) it there in
      let b : Before r y front m.choice = front_from r y front m.choice m.there in
      first_made y ys front b.choice it m b.there b.next
