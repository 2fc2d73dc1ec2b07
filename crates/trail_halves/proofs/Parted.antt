-- The columns of a choice parted: those with a finger of the row alone are half edges, which their edges fill.
use Rattle.std.proofs.Common.{ℕ, ◌≡◌, ◌==◌, ◌<◌, Bool, true, false, if◌then◌else◌, List, [], ◌∷◌, ◌++◌}
use Rattle.std.proofs.Common.{Option, Some, None, option_map, refl, sym, ap, subst, arith, ◌∙◌, inl, inr, ◌⊎◌, Contains}
use Rattle.std.proofs.Common.{IsPermutation}
use Rattle.std.specs.List.{cons_option, filter, filter_map}
use Rattle.std.proofs.lemmas.List.Sorted.{Contains-permutation, IsPermutation-cons, IsPermutation-middle}
use Rattle.std.proofs.lemmas.List.Sorted.{IsPermutation-refl, IsPermutation-sym, IsPermutation-trans}
use Rattle.cell_num.specs.declared.finger.Row.{Row}
use Rattle.cell_num.specs.declared.finger.Row.TheVariants.{P, N}
use Rattle.cell_num.specs.declared.finger.Finger.{Finger}
use Rattle.cell_num.specs.declared.finger.Fingers.{Fingers}
use Rattle.cell_num.specs.Fingers.{AreFingers}
use Rattle.cell_num.proofs.Lists.{contains_filter_map, contains_here, contains_there, some_same}
use Rattle.row_model.specs.declared.column.Placed.{Placed}
use Rattle.row_model.specs.declared.column.Column.{Column}
use Rattle.row_model.specs.Arrangement.{IsArrangement, fingers_in, place}
use Rattle.row_model.specs.Gaps.{left_net, right_net}
use Rattle.trail_state.specs.declared.edge.Edge.{Edge}
use Rattle.trail_state.specs.declared.edge.FingerEnds.{FingerEnds}
use Rattle.trail_state.specs.Choices.{AreEdgesOf, IsEdgeOf, fingers_on}
use Rattle.trail_state.specs.Edges.{edge_between, pair_node}
use Rattle.trail_state.specs.Nodes.{is_net_in}
use Rattle.trail_state.specs.Pairings.{nets_at}
use Rattle.trail_state.proofs.Members.{Passes, filter_off, filter_on, passes_from}
use Rattle.trail_state.proofs.Opened.{in_net, left_has, net_small, right_has}
use Rattle.open_gates.specs.Merged.{net_in}
use Rattle.trail_check.proofs.Edges.{of_edge}
use Rattle.trail_halves.specs.Halves.{AreFilled, Fills}
use Rattle.trail_halves.specs.Open.{half_in, half_of, is_filled, is_none, row_of}

-- an edge between two nodes of the finger's nets, whichever of them is on the left
fills_between : (r : Row) (x : Placed) (u v : ℕ) → net_in r u ≡ (left_net x).0 → net_in r v ≡ (right_net x).0
    → Fills r (nets_at x.finger) (edge_between u v)
fills_between r x u v left right = by x.flipped refl
  where
    Between : ℕ → ℕ → Type 0
    Between a b =
        ((net_in r a ≡ x.finger.lo.0) × (net_in r b ≡ x.finger.hi.0))
        ⊎ ((net_in r a ≡ x.finger.hi.0) × (net_in r b ≡ x.finger.lo.0))

    by : (b : Bool) → x.flipped ≡ b → Between (edge_between u v).a.0 (edge_between u v).b.0
    by true e =
        let l : net_in r u ≡ x.finger.hi.0 = left ∙ ap (λ (b : Bool). (if b then x.finger.hi else x.finger.lo).0) e in
        let k : net_in r v ≡ x.finger.lo.0 = right ∙ ap (λ (b : Bool). (if b then x.finger.lo else x.finger.hi).0) e in
        of_edge Between u v (inr (l, k)) (inl (k, l))
    by false e =
        let l : net_in r u ≡ x.finger.lo.0 = left ∙ ap (λ (b : Bool). (if b then x.finger.hi else x.finger.lo).0) e in
        let k : net_in r v ≡ x.finger.hi.0 = right ∙ ap (λ (b : Bool). (if b then x.finger.lo else x.finger.hi).0) e in
        of_edge Between u v (inl (l, k)) (inr (k, l))

high_net : (p n : ℕ) → n < 256 → net_in P (pair_node p n) ≡ p
high_net p n small = omega (arith, small)

low_net : (p n : ℕ) → n < 256 → net_in N (pair_node p n) ≡ n
low_net p n small = omega (arith, small)

kept_none : {X Y : Type 0} (h : X → Option Y) (x : X) (xs : List X) → h x ≡ None →
    filter_map h (x ∷ xs) ≡ filter_map h xs
kept_none h x xs e = ap (λ o. cons_option o (filter_map h xs)) e

kept_some : {X Y : Type 0} (h : X → Option Y) (x : X) (y : Y) (xs : List X) → h x ≡ Some y → filter_map h (x ∷ xs)
    ≡ y ∷ filter_map h xs
kept_some h x y xs e = ap (λ o. cons_option o (filter_map h xs)) e

-- the finger of a half edge
pub record Alone (place other : Option Placed) (half : FingerEnds) : Type 0 where
  pub it : Placed
  pub stands : place ≡ Some it
  pub none : other ≡ None
  pub is : nets_at it.finger ≡ half

alone : (x y : Option Placed) (half : FingerEnds) → half_of x y ≡ Some half → Alone x y half
alone None y half e = absurd cc
alone (Some x) (Some y) half e = absurd cc
alone (Some x) None half e = record { it = x; stands = refl; none = refl; is = some_same (nets_at x.finger) half e }

abbrev pub other_row : Row → Row
other_row P = N
other_row N = P

pub alone_in : (s : Row) (c : Column) (half : FingerEnds) → half_in s c ≡ Some half
    → Alone (place s c) (place (other_row s) c) half
alone_in P c half e = alone c.p c.n half e
alone_in N c half e = alone c.n c.p half e

pub stands_there : (s : Row) (columns : List Column) (f : Fingers) → IsArrangement columns f → (c : Column) (x : Placed)
    → Contains columns c → place s c ≡ Some x → Contains (row_of s f) x.finger
stands_there P columns f arranges c x there is =
    Contains-permutation (fingers_in P columns) f.p x.finger (IsPermutation-sym f.p (fingers_in P columns) arranges.p)
    (contains_filter_map (λ (d : Column). option_map (λ (y : Placed). y.finger) (place P d)) columns c x.finger there
    (ap (option_map (λ (y : Placed). y.finger)) is))
stands_there N columns f arranges c x there is =
    Contains-permutation (fingers_in N columns) f.n x.finger (IsPermutation-sym f.n (fingers_in N columns) arranges.n)
    (contains_filter_map (λ (d : Column). option_map (λ (y : Placed). y.finger) (place N d)) columns c x.finger there
    (ap (option_map (λ (y : Placed). y.finger)) is))

pub on_row : (s : Row) (f : Fingers) (g : ℕ) (x : Finger) → Contains (row_of s (fingers_on g f)) x
    → Passes (λ (y : Finger). y.gate.0 == g) (row_of s f) x
on_row P f g x there = passes_from (λ (y : Finger). y.gate.0 == g) f.p x there
on_row N f g x there = passes_from (λ (y : Finger). y.gate.0 == g) f.n x there

module _ (f : Fingers) (ok : AreFingers f) where
  n_small : (x : ℕ) → is_net_in f.n x ≡ true → x < 256
  n_small x e = net_small N f.nets f.n x ok.n ok.few_nets e

  -- the nets of an N place
  abbrev pub IsSmall : Option Placed → Type 0
  IsSmall o = (x : Placed) → o ≡ Some x → ((left_net x).0 < 256) × ((right_net x).0 < 256)

  fills_p : (x y : Option Placed) (e : Edge) (half : FingerEnds) → Alone x y half → IsEdgeOf f x y e → Fills P half e
  fills_p x y e half a k =
      let of_one : IsEdgeOf f (Some a.it) None e =
      subst (λ o. IsEdgeOf f (Some a.it) o e) a.none (subst (λ o. IsEdgeOf f o y e) a.stands k) in
      subst (λ h. Fills P h e) a.is
      (subst (λ d. Fills P (nets_at a.it.finger) d) (sym of_one.4)
      (fills_between P a.it (pair_node (left_net a.it).0 of_one.0) (pair_node (right_net a.it).0 of_one.1)
      (high_net (left_net a.it).0 of_one.0 (n_small of_one.0 of_one.2))
      (high_net (right_net a.it).0 of_one.1 (n_small of_one.1 of_one.3))))

  fills_n : (x y : Option Placed) (e : Edge) (half : FingerEnds) → IsSmall y → Alone y x half → IsEdgeOf f x y e
      → Fills N half e
  fills_n x y e half small a k =
      let of_one : IsEdgeOf f None (Some a.it) e =
      subst (λ o. IsEdgeOf f o (Some a.it) e) a.none (subst (λ o. IsEdgeOf f x o e) a.stands k) in
      let nets : ((left_net a.it).0 < 256) × ((right_net a.it).0 < 256) = small a.it a.stands in
      subst (λ h. Fills N h e) a.is
      (subst (λ d. Fills N (nets_at a.it.finger) d) (sym of_one.4)
      (fills_between N a.it (pair_node of_one.0 (left_net a.it).0) (pair_node of_one.1 (right_net a.it).0)
      (low_net of_one.0 (left_net a.it).0 nets.0) (low_net of_one.1 (right_net a.it).0 nets.1)))

  fills_in : (s : Row) (c : Column) (e : Edge) (half : FingerEnds) → IsSmall c.n → half_in s c ≡ Some half
      → IsEdgeOf f c.p c.n e → Fills s half e
  fills_in P c e half small is k = fills_p c.p c.n e half (alone_in P c half is) k
  fills_in N c e half small is k = fills_n c.p c.n e half small (alone_in N c half is) k

  pub columns_small : (g : ℕ) (columns : List Column) → IsArrangement columns (fingers_on g f) → (c : Column)
      → Contains columns c → IsSmall c.n
  columns_small g columns arranges c there x is =
      let mine : Contains f.n x.finger =
      (on_row N f g x.finger (stands_there N columns (fingers_on g f) arranges c x there is)).there in (
        n_small (left_net x).0 (in_net f.n (left_net x).0 x.finger mine (left_has x)),
        n_small (right_net x).0 (in_net f.n (right_net x).0 x.finger mine (right_has x)),
      )

  module _ (r : Row) where
    -- the edges of columns, with those apart that fill half edges
    pub record Parted (cs : List Column) (es : List Edge) : Type 0 where
      pub rest : List Edge
      pub rest_are : AreEdgesOf f (filter (is_filled r) cs) rest
      pub filled : List Edge
      pub fills : AreFilled r (filter_map (half_in r) cs) filled
      pub same : IsPermutation (rest ++ filled) es

    part_more : (c : Column) (cs : List Column) (e : Edge) (es : List Edge) → IsSmall c.n → IsEdgeOf f c.p c.n e
        → Parted cs es → Parted (c ∷ cs) (e ∷ es)
    part_more c cs e es small drawn more = by (half_in r c) refl
      where
        by : (o : Option FingerEnds) → half_in r c ≡ o → Parted (c ∷ cs) (e ∷ es)
        by None is = record {
          rest = e ∷ more.rest;
          rest_are =
              subst (λ l. AreEdgesOf f l (e ∷ more.rest)) (sym (filter_on (is_filled r) c cs (ap is_none is)))
              (drawn, more.rest_are);
          filled = more.filled;
          fills = subst (λ l. AreFilled r l more.filled) (sym (kept_none (half_in r) c cs is)) more.fills;
          same = IsPermutation-cons e (more.rest ++ more.filled) es more.same;
        }
        by (Some half) is = record {
          rest = more.rest;
          rest_are =
              subst (λ l. AreEdgesOf f l more.rest) (sym (filter_off (is_filled r) c cs (ap is_none is))) more.rest_are;
          filled = e ∷ more.filled;
          fills =
              subst (λ l. AreFilled r l (e ∷ more.filled)) (sym (kept_some (half_in r) c half cs is))
              (fills_in r c e half small is drawn, more.fills);
          same =
              IsPermutation-trans (more.rest ++ e ∷ more.filled) (e ∷ (more.rest ++ more.filled)) (e ∷ es)
              (IsPermutation-middle more.rest e more.filled)
              (IsPermutation-cons e (more.rest ++ more.filled) es more.same);
        }

    pub parted : (cs : List Column) (es : List Edge) → ((c : Column) → Contains cs c → IsSmall c.n) → AreEdgesOf f cs es
        → Parted cs es
    parted [] [] small h =
        record { rest = []; rest_are = tt; filled = []; fills = tt; same = IsPermutation-refl {X = Edge} [] }
    parted [] (e ∷ es) small h = absurd h
    parted (c ∷ cs) [] small h = absurd h
    parted (c ∷ cs) (e ∷ es) small h =
        part_more c cs e es (small c (contains_here c cs)) h.0
        (parted cs es (λ d k. small d (contains_there c cs d k)) h.1)
