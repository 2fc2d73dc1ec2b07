-- The computed constraints are exactly those of the definition.
use Rattle.std.proofs.Common.{ℕ, ◌≡◌, ◌≢◌, ◌≤◌, ◌==◌, ◌&&◌, leb, not, Bool, true, false, cond, List, [], ◌∷◌, inl, inr, refl, sym, ap, subst, arith, All, AllPairs, Contains, flat_map}
use Rattle.std.specs.Bool.{⊤}
use Rattle.std.proofs.lemmas.Bool.{cases_Bool, and_parts, and_from, eqb-true, eq-eqb, leb-true, le-leb}
use Rattle.std.proofs.lemmas.List.Elements.{All-nil, All-contains}
use Rattle.cell_num.specs.declared.net.NetNo.{NetNo}
use Rattle.cell_num.specs.declared.finger.Row.{Row}
use Rattle.cell_num.specs.declared.finger.Row.TheVariants.{P, N}
use Rattle.row_model.proofs.Decide.{net_decides}
use Rattle.row_place.specs.declared.placement.NodePlace.{NodePlace}
use Rattle.row_place.specs.declared.placement.Placement.{Placement}
use Rattle.row_place.specs.Places.{StandsBefore, IsPlacement}
use Rattle.cell_num.proofs.Lists.{contains_none, contains_one, contains_here, all_imply, all_one, all_from_contains}
use Rattle.channel_route.specs.declared.wire.Wire.{Wire}
use Rattle.channel_route.specs.declared.constraint.Constraint.{Constraint}
use Rattle.channel_route.specs.Graph.{AreDistinct}
use Rattle.channel_route.specs.Turn.{IsNoLater, AreInOrder}
use Rattle.channel_route.specs.Wires.{holds_place, stands_over, is_over, between, under, pairs_over, over, constraints_of}
use Rattle.cell_num.proofs.In.{Piece, in_flat, contains_flat}
use Rattle.cell_num.proofs.Pairs.{pairs_none, pairs_one, pairs_flat, pairs_differ}

-- the line lies between the ends of the wire, or at one of them
abbrev pub Holds : Wire → ℕ → Type 0
Holds w line = (w.left ≤ line) × (line ≤ w.right)

-- the wires of a constraint, and the places at which the net of the one stands over that of the other
pub record IsPairOver (wires : List Wire) (nodes : List NodePlace) (c : Constraint) : Type 0 where
  pub upper : Wire
  pub upper_there : Contains wires upper
  pub upper_key : upper.key ≡ c.upper
  pub upper_holds : Holds upper c.line
  pub lower : Wire
  pub lower_there : Contains wires lower
  pub lower_key : lower.key ≡ c.lower
  pub lower_holds : Holds lower c.line
  pub p : Contains nodes (record { row = P; line = c.line; net = upper.net })
  pub n : Contains nodes (record { row = N; line = c.line; net = lower.net })
  pub differ : upper.net ≢ lower.net

-- a list that stands where a test holds
when_there : {X : Type 0} (b : Bool) (ys : List X) (y : X) → Contains (cond b ys []) y → (b ≡ true) × Contains ys y
when_there true ys y h = (refl, h)
when_there false ys y h = absurd (contains_none y h)

when_holds : {X : Type 0} (b : Bool) (ys : List X) (y : X) → b ≡ true → Contains ys y → Contains (cond b ys []) y
when_holds {X} b ys y e h = subst (λ (t : Bool). Contains (cond t ys []) y) (sym e) h

when_all : {X : Type 0} (Q : X → Type 0) (b : Bool) (ys : List X) → (b ≡ true → All Q ys) → All Q (cond b ys [])
when_all Q true ys h = h refl
when_all Q false ys h = All-nil Q

when_pairs : {X : Type 0} (R : X → X → Type 0) (b : Bool) (ys : List X) → AllPairs R ys → AllPairs R (cond b ys [])
when_pairs R true ys h = h
when_pairs R false ys h = pairs_none R

rows_over : (p n : Row) → stands_over p n ≡ true → (p ≡ P) × (n ≡ N)
rows_over P N e = (refl, refl)
rows_over P P e = absurd cc
rows_over N P e = absurd cc
rows_over N N e = absurd cc

pub record Parts (p n : NodePlace) : Type 0 where
  pub p_row : p.row ≡ P
  pub n_row : n.row ≡ N
  pub line : p.line ≡ n.line
  pub differ : p.net ≢ n.net

over_parts : (p n : NodePlace) → is_over p n ≡ true → Parts p n
over_parts p n e =
    let d : ((stands_over p.row n.row && (p.line == n.line)) ≡ true) × (not (p.net.0 == n.net.0) ≡ true) = and_parts _ _ e in
    let f : (stands_over p.row n.row ≡ true) × ((p.line == n.line) ≡ true) = and_parts _ _ d.0 in
    let rows : (p.row ≡ P) × (n.row ≡ N) = rows_over p.row n.row f.0 in
    record { p_row = rows.0; n_row = rows.1; line = eqb-true p.line n.line f.1; differ = λ same. other d.1 (eq-eqb p.net.0 n.net.0 (ap (λ (m : NetNo). m.0) same)) }
  where
    other : not (p.net.0 == n.net.0) ≡ true → (p.net.0 == n.net.0) ≡ true → ⊥
    other f g = let wrong : not (p.net.0 == n.net.0) ≡ false = rw g refl in cc

holds_parts : (node : NodePlace) (w : Wire) → holds_place node w ≡ true → (w.net ≡ node.net) × Holds w node.line
holds_parts node w e =
    let a : (((w.net.0 == node.net.0) && leb w.left node.line) ≡ true) × (leb node.line w.right ≡ true) = and_parts _ _ e in
    let b : ((w.net.0 == node.net.0) ≡ true) × (leb w.left node.line ≡ true) = and_parts _ _ a.0 in
    ((net_decides w.net node.net).0 b.0, (leb-true w.left node.line b.1, leb-true node.line w.right a.1))

holds_from : (node : NodePlace) (w : Wire) → w.net ≡ node.net → Holds w node.line → holds_place node w ≡ true
holds_from node w net h = and_from _ _ (and_from _ _ (eq-eqb w.net.0 node.net.0 (ap (λ (m : NetNo). m.0) net)) (le-leb w.left node.line h.0)) (le-leb node.line w.right h.1)

-- both ways
pub pair_is : (wires : List Wire) (nodes : List NodePlace) (c : Constraint) → Contains (constraints_of wires nodes) c → IsPairOver wires nodes c
pair_is wires nodes c there =
    let p : Piece (λ p. flat_map (over wires p) nodes) nodes c = in_flat (λ p. flat_map (over wires p) nodes) nodes c there in
    let n : Piece (over wires p.of) nodes c = in_flat (over wires p.of) nodes c p.inside in
    let place = when_there (is_over p.of n.of) (pairs_over wires p.of n.of) c n.inside in
    let u : Piece (λ upper. cond (holds_place p.of upper) (under wires n.of upper) []) wires c = in_flat (λ upper. cond (holds_place p.of upper) (under wires n.of upper) []) wires c place.1 in
    let upper = when_there (holds_place p.of u.of) (under wires n.of u.of) c u.inside in
    let l : Piece (λ lower. cond (holds_place n.of lower) (between n.of.line u.of lower ∷ []) []) wires c = in_flat (λ lower. cond (holds_place n.of lower) (between n.of.line u.of lower ∷ []) []) wires c upper.1 in
    let lower = when_there (holds_place n.of l.of) (between n.of.line u.of l.of ∷ []) c l.inside in
    told p.of n.of u.of l.of p.listed n.listed (over_parts p.of n.of place.0) u.listed l.listed (holds_parts p.of u.of upper.0) (holds_parts n.of l.of lower.0) lower.1
  where
    built : (p n : NodePlace) (u l : Wire) → Contains nodes p → Contains nodes n → Parts p n → Contains wires u → Contains wires l → (u.net ≡ p.net) × Holds u p.line → (l.net ≡ n.net) × Holds l n.line → IsPairOver wires nodes (between n.line u l)
    built p n u l hp hn parts hu hl hold_u hold_l = record {
      upper = u;
      upper_there = hu;
      upper_key = refl;
      upper_holds = subst (λ line. Holds u line) parts.line hold_u.1;
      lower = l;
      lower_there = hl;
      lower_key = refl;
      lower_holds = hold_l.1;
      p = subst (λ m. Contains nodes (record { row = P; line = n.line; net = m })) (sym hold_u.0) (subst (λ line. Contains nodes (record { row = P; line = line; net = p.net })) parts.line (subst (λ r. Contains nodes (record { row = r; line = p.line; net = p.net })) parts.p_row hp));
      n = subst (λ m. Contains nodes (record { row = N; line = n.line; net = m })) (sym hold_l.0) (subst (λ r. Contains nodes (record { row = r; line = n.line; net = n.net })) parts.n_row hn);
      differ = λ same. parts.differ (let a : u.net ≡ p.net = hold_u.0 in let b : l.net ≡ n.net = hold_l.0 in let c : u.net ≡ l.net = same in cc);
    }

    told : (p n : NodePlace) (u l : Wire) → Contains nodes p → Contains nodes n → Parts p n → Contains wires u → Contains wires l → (u.net ≡ p.net) × Holds u p.line → (l.net ≡ n.net) × Holds l n.line → Contains (between n.line u l ∷ []) c → IsPairOver wires nodes c
    told p n u l hp hn parts hu hl hold_u hold_l is = subst (λ z. IsPairOver wires nodes z) (contains_one (between n.line u l) c is) (built p n u l hp hn parts hu hl hold_u hold_l)

pub pair_there : (wires : List Wire) (nodes : List NodePlace) (u l : Wire) (line : ℕ) → Contains wires u → Contains wires l → Contains nodes (record { row = P; line = line; net = u.net }) → Contains nodes (record { row = N; line = line; net = l.net }) → u.net ≢ l.net → Holds u line → Holds l line → Contains (constraints_of wires nodes) (between line u l)
pair_there wires nodes u l line hu hl hp hn differ hold_u hold_l =
    let top : NodePlace = record { row = P; line = line; net = u.net } in
    let bottom : NodePlace = record { row = N; line = line; net = l.net } in
    let is : is_over top bottom ≡ true = and_from _ _ (and_from _ _ refl (eq-eqb line line refl)) (not_same u.net l.net differ) in
    let below : Contains (under wires bottom u) (between line u l) = contains_flat (λ lower. cond (holds_place bottom lower) (between line u lower ∷ []) []) wires l (between line u l) hl (when_holds (holds_place bottom l) (between line u l ∷ []) (between line u l) (holds_from bottom l refl hold_l) (contains_here (between line u l) [])) in
    let pair : Contains (pairs_over wires top bottom) (between line u l) = contains_flat (λ upper. cond (holds_place top upper) (under wires bottom upper) []) wires u (between line u l) hu (when_holds (holds_place top u) (under wires bottom u) (between line u l) (holds_from top u refl hold_u) below) in
    contains_flat (λ p. flat_map (over wires p) nodes) nodes top (between line u l) hp (contains_flat (over wires top) nodes bottom (between line u l) hn (when_holds (is_over top bottom) (pairs_over wires top bottom) (between line u l) is pair))
  where
    not_same : (a b : NetNo) → a ≢ b → not (a.0 == b.0) ≡ true
    not_same a b differ =
        elim (cases_Bool (a.0 == b.0)) [
          | inl same ↦ absurd (differ ((net_decides a b).0 same))
          | inr other ↦ rw other refl
        ]

-- at one line
abbrev AtLine : ℕ → Constraint → Type 0
AtLine line c = c.line ≡ line

-- wires of one net are in order of key
abbrev pub KeysAscend : List Wire → Type 0
KeysAscend wires = AllPairs (λ a b. a.net ≡ b.net → a.key ≤ b.key) wires

-- the constraints of one wire, those of a pair of places, those of one place, all
under_all : (wires : List Wire) (n : NodePlace) (u : Wire) → All (λ c. (c.upper ≡ u.key) × AtLine n.line c) (under wires n u)
under_all wires n u = all_from_contains (λ c. (c.upper ≡ u.key) × AtLine n.line c) (under wires n u) (λ c there.
    let l : Piece (λ lower. cond (holds_place n lower) (between n.line u lower ∷ []) []) wires c = in_flat (λ lower. cond (holds_place n lower) (between n.line u lower ∷ []) []) wires c there in
    let lower = when_there (holds_place n l.of) (between n.line u l.of ∷ []) c l.inside in
    let is : between n.line u l.of ≡ c = contains_one (between n.line u l.of) c lower.1 in
    (ap (λ (d : Constraint). d.upper) (sym is), ap (λ (d : Constraint). d.line) (sym is)))

under_order : (wires : List Wire) (n : NodePlace) (u : Wire) → KeysAscend wires → AllPairs IsNoLater (under wires n u)
under_order wires n u up =
    pairs_flat (λ (a b : Wire). a.net ≡ b.net → a.key ≤ b.key) (λ _. ⊤) IsNoLater (λ (l : Wire) (c : Constraint). (l.net ≡ n.net) × (c ≡ between n.line u l)) (λ lower. cond (holds_place n lower) (between n.line u lower ∷ []) []) wires
    (λ l _. when_all (λ (c : Constraint). (l.net ≡ n.net) × (c ≡ between n.line u l)) (holds_place n l) (between n.line u l ∷ []) (λ e. all_one (λ (c : Constraint). (l.net ≡ n.net) × (c ≡ between n.line u l)) (between n.line u l) ((holds_parts n l e).0, refl)))
    (λ l _. when_pairs IsNoLater (holds_place n l) (between n.line u l ∷ []) (pairs_one IsNoLater (between n.line u l)))
    (λ x y a b _ _ ascend ha hb. step x y a b ascend ha hb) (λ k d short. tt) up
  where
    step : (x y : Wire) (a b : Constraint) → (x.net ≡ y.net → x.key ≤ y.key) → (x.net ≡ n.net) × (a ≡ between n.line u x) → (y.net ≡ n.net) × (b ≡ between n.line u y) → IsNoLater a b
    step x y a b ascend (xn, ea) (yn, eb) = subst (λ c. IsNoLater c b) (sym ea) (subst (λ c. IsNoLater (between n.line u x) c) (sym eb) (inr (refl, λ _. ascend (let f : x.net ≡ n.net = xn in let g : y.net ≡ n.net = yn in cc))))

pairs_all : (wires : List Wire) (p n : NodePlace) → All (AtLine n.line) (pairs_over wires p n)
pairs_all wires p n = all_from_contains (AtLine n.line) (pairs_over wires p n) (λ c there.
    let u : Piece (λ upper. cond (holds_place p upper) (under wires n upper) []) wires c = in_flat (λ upper. cond (holds_place p upper) (under wires n upper) []) wires c there in
    let upper = when_there (holds_place p u.of) (under wires n u.of) c u.inside in
    (under_there wires n u.of c upper.1).1)
  where
    under_there : (wires : List Wire) (n : NodePlace) (u : Wire) (c : Constraint) → Contains (under wires n u) c → (c.upper ≡ u.key) × AtLine n.line c
    under_there wires n u c there = All-contains (λ (d : Constraint). (d.upper ≡ u.key) × AtLine n.line d) (under wires n u) c (under_all wires n u) there

pairs_order : (wires : List Wire) (p n : NodePlace) → AreDistinct wires → KeysAscend wires → AllPairs IsNoLater (pairs_over wires p n)
pairs_order wires p n one up =
    pairs_flat (λ (a b : Wire). a.key ≢ b.key) (λ _. ⊤) IsNoLater (λ (u : Wire) (c : Constraint). (c.upper ≡ u.key) × AtLine n.line c) (λ upper. cond (holds_place p upper) (under wires n upper) []) wires
    (λ u _. when_all (λ (c : Constraint). (c.upper ≡ u.key) × AtLine n.line c) (holds_place p u) (under wires n u) (λ _. under_all wires n u))
    (λ u _. when_pairs IsNoLater (holds_place p u) (under wires n u) (under_order wires n u up))
    (λ x y a b _ _ differ ha hb. step x y a b differ ha hb) (λ k d short. tt) (pairs_differ (λ (w : Wire). w.key) wires one)
  where
    step : (x y : Wire) (a b : Constraint) → x.key ≢ y.key → (a.upper ≡ x.key) × AtLine n.line a → (b.upper ≡ y.key) × AtLine n.line b → IsNoLater a b
    step x y a b differ (ua, la) (ub, lb) = inr (omega (arith, la, lb), λ same. absurd (differ (omega (arith, ua, ub, same))))

-- a place and the constraints at its line, as the upper or the lower one
abbrev AtPlace : Row → NodePlace → Constraint → Type 0
AtPlace row node c = (node.row ≡ row) × AtLine node.line c

over_all : (wires : List Wire) (p n : NodePlace) → All (λ c. AtPlace N n c × AtPlace P p c) (over wires p n)
over_all wires p n = when_all (λ (c : Constraint). AtPlace N n c × AtPlace P p c) (is_over p n) (pairs_over wires p n) (λ e.
    let parts : Parts p n = over_parts p n e in
    all_imply (AtLine n.line) (λ (c : Constraint). AtPlace N n c × AtPlace P p c) (pairs_over wires p n) (λ c at. ((parts.n_row, at), (parts.p_row, omega (arith, at, parts.line)))) (pairs_all wires p n))

in_order_behind : (row : Row) (x y : NodePlace) (a b : Constraint) → StandsBefore x y → (x.row ≡ row) × AtLine x.line a → (y.row ≡ row) × AtLine y.line b → IsNoLater a b
in_order_behind row x y a b (inl less) ha hb = inl (omega (arith, less, ha.1, hb.1))
in_order_behind row x y a b (inr (_, xn, yp)) ha hb = absurd (let e : x.row ≡ row = ha.0 in let f : y.row ≡ row = hb.0 in let g : x.row ≡ N = xn in let h : y.row ≡ P = yp in cc)

place_order : (p : Placement) → IsPlacement p → (wires : List Wire) → AreDistinct wires → KeysAscend wires → (top : NodePlace) → AllPairs IsNoLater (flat_map (over wires top) p.nodes)
place_order p is wires one up top =
    pairs_flat StandsBefore (λ _. ⊤) IsNoLater (λ (n : NodePlace) (c : Constraint). AtPlace N n c) (over wires top) p.nodes
    (λ n _. all_imply (λ (c : Constraint). AtPlace N n c × AtPlace P top c) (AtPlace N n) (over wires top n) (λ c both. both.0) (over_all wires top n))
    (λ n _. when_pairs IsNoLater (is_over top n) (pairs_over wires top n) (pairs_order wires top n one up))
    (λ x y a b _ _ before ha hb. in_order_behind N x y a b before ha hb) (λ k d short. tt) is.node_order

-- they are in order of line, as the node places are
pub in_order : (p : Placement) → IsPlacement p → (wires : List Wire) → AreDistinct wires → KeysAscend wires → AreInOrder (constraints_of wires p.nodes)
in_order p is wires one up =
    pairs_flat StandsBefore (λ _. ⊤) IsNoLater (λ (top : NodePlace) (c : Constraint). AtPlace P top c) (λ top. flat_map (over wires top) p.nodes) p.nodes
    (λ top _. all_from_contains (AtPlace P top) (flat_map (over wires top) p.nodes) (λ c there.
    let n : Piece (over wires top) p.nodes c = in_flat (over wires top) p.nodes c there in
    (All-contains (λ (d : Constraint). AtPlace N n.of d × AtPlace P top d) (over wires top n.of) c (over_all wires top n.of) n.inside).1))
    (λ top _. place_order p is wires one up top)
    (λ x y a b _ _ before ha hb. in_order_behind P x y a b before ha hb) (λ k d short. tt) is.node_order
