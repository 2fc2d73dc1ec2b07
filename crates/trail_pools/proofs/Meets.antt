-- What an open choice of a gate meets, its gate can meet.
use Rattle.std.proofs.Common.{ℕ, ◌≡◌, ◌*◌, ◌<◌, ◌==◌, ◌&&◌, ◌||◌, Bool, true, false, not, ltb, Some, None, refl, ap}
use Rattle.std.proofs.Common.{subst, arith, ◌∙◌, inl, inr, Contains}
use Rattle.std.specs.List.{filter, filter_map}
use Rattle.std.proofs.lemmas.Bool.{and_from, and_parts, cases_Bool, eq-eqb, eqb-true, lt-ltb, ltb-true, not_from_false}
use Rattle.std.proofs.lemmas.Bool.{or_left, or_right}
use Rattle.std.proofs.lemmas.List.Elements.{All-contains}
use Rattle.std.proofs.lemmas.List.Sorted.{Contains-permutation, IsPermutation-refl, IsPermutation-sym}
use Rattle.cell_num.specs.declared.finger.Row.{Row}
use Rattle.cell_num.specs.declared.finger.Row.TheVariants.{P, N}
use Rattle.cell_num.specs.declared.finger.Finger.{Finger}
use Rattle.cell_num.specs.declared.finger.Fingers.{Fingers}
use Rattle.cell_num.specs.Fingers.{AreFingers, IsFinger, on_gate}
use Rattle.cell_num.proofs.Lists.{Kept, contains_none, kept_from}
use Rattle.cell_num.proofs.Pairs.{Some', test_finds, test_there}
use Rattle.row_model.specs.declared.column.Placed.{Placed}
use Rattle.row_model.specs.declared.column.Column.{Column}
use Rattle.row_model.specs.Arrangement.{place}
use Rattle.trail_state.specs.declared.edge.Edge.{Edge}
use Rattle.trail_state.specs.declared.edge.FingerEnds.{FingerEnds}
use Rattle.trail_state.specs.Choices.{IsEdgeOf, fingers_on}
use Rattle.trail_state.specs.Nodes.{can_meet, has_net, is_net_on}
use Rattle.trail_state.specs.Places.{is_end, is_met}
use Rattle.trail_state.proofs.Members.{Passes, passes_from}
use Rattle.trail_state.proofs.Opened.{Beside, beside, met_can}
use Rattle.open_gates.specs.Open.{fingers_at, fingers_beside}
use Rattle.trail_halves.specs.declared.choice.OpenChoice.{OpenChoice}
use Rattle.trail_halves.specs.Open.{ArePools, IsHalfOpen, IsOpenChoice, half_in, is_filled, row_of}
use Rattle.trail_halves.proofs.Parted.{Alone, alone_in, on_row, other_row, stands_there}
use Rattle.trail_pools.specs.Meeting.{ends_free, meets_node, net_beside, stays_open}
use Rattle.trail_pools.proofs.Columns.{fewer, full_beside, on_net}
use Rattle.trail_pools.proofs.Completed.{Completed, completed}

module _ (f : Fingers) (ok : AreFingers f) (r : Row) (counted pool : ℕ → Bool) (g : ℕ) (within : g < f.nets)
    (c : OpenChoice) (choice : IsOpenChoice f r counted g c) where
  more_fingers : stays_open f r counted g ≡ true
      → on_gate g (row_of (other_row r) f) < on_gate g (row_of r f)
  more_fingers e =
      let more : ltb (on_gate g (fingers_beside r f)) (on_gate g (fingers_at r f)) ≡ true =
      (and_parts (counted g) (ltb (on_gate g (fingers_beside r f)) (on_gate g (fingers_at r f))) e).1 in
      by r (ltb-true (on_gate g (fingers_beside r f)) (on_gate g (fingers_at r f)) more)
    where
      by : (s : Row) → on_gate g (fingers_beside s f) < on_gate g (fingers_at s f)
          → on_gate g (row_of (other_row s) f) < on_gate g (row_of s f)
      by P less = less
      by N less = less

  filled_gate : counted g ≡ false → stays_open f r counted g ≡ false
  filled_gate out = ap (λ b. b && ltb (on_gate g (fingers_beside r f)) (on_gate g (fingers_at r f))) out

  filled_meets : counted g ≡ false → (v : ℕ) → is_met c.edges v ≡ true
      → (meets_node f r counted g v ≡ true) × (v < 256 * f.nets)
  filled_meets out v met =
      let can : (can_meet f g v ≡ true) × (v < 256 * f.nets) = met_can f g ok within c.edges (choice.1 out).0 v met in (
        and_from (can_meet f g v)
            (not (stays_open f r counted g) || is_net_on (fingers_beside r f) g (net_beside r v)) can.0
            (or_left (not (stays_open f r counted g)) (is_net_on (fingers_beside r f) g (net_beside r v))
            (not_from_false (stays_open f r counted g) (filled_gate out))),
        can.1,
      )

  half_meets : IsHalfOpen f r g c → (v : ℕ) → is_met c.edges v ≡ true
      → (meets_node f r counted g v ≡ true) × (v < 256 * f.nets)
  half_meets h v met =
      let s : Some' (λ e. is_end v e ≡ true) c.edges = test_finds (is_end v) c.edges met in
      let listed : Contains h.edges s.it =
      Contains-permutation c.edges h.edges s.it (IsPermutation-sym h.edges c.edges h.listed) s.there in
      let all : Completed f h.columns h.edges = completed f r h.columns h.edges h.filled in
      let can : (can_meet f g v ≡ true) × (v < 256 * f.nets) =
      met_can f g ok within all.all (record {
        columns = h.columns;
        arranges = h.arranges;
        edges = all.all;
        filled = all.are;
        listed = IsPermutation-refl all.all;
      }) v (test_there (is_end v) all.all s.it (all.more s.it listed) s.holds) in
      let b : Beside (λ (d : Column) (e : Edge). IsEdgeOf f d.p d.n e) (filter (is_filled r) h.columns) s.it =
      beside (λ (d : Column) (e : Edge). IsEdgeOf f d.p d.n e) (filter (is_filled r) h.columns) h.edges s.it h.filled
      listed in
      let column : Passes (is_filled r) h.columns b.it = passes_from (is_filled r) h.columns b.it b.there in
      let net : (not (stays_open f r counted g) || is_net_on (fingers_beside r f) g (net_beside r v)) ≡ true =
      elim (cases_Bool (stays_open f r counted g)) [
        | inl on ↦ or_right (not (stays_open f r counted g))
            (is_net_on (fingers_beside r f) g (net_beside r v))
            (full_beside f ok g within h.columns h.arranges r b.it s.it v (more_fingers on) column.there column.passes
            b.holds s.holds)
        | inr off ↦ or_left (not (stays_open f r counted g))
            (is_net_on (fingers_beside r f) g (net_beside r v)) (not_from_false (stays_open f r counted g) off)
      ] in (
        and_from (can_meet f g v)
            (not (stays_open f r counted g) || is_net_on (fingers_beside r f) g (net_beside r v)) can.0 net,
        can.1,
      )

  -- the nodes of its edges
  pub edges_meet : (v : ℕ) → is_met c.edges v ≡ true
      → (meets_node f r counted g v ≡ true) × (v < 256 * f.nets)
  edges_meet v met = elim (cases_Bool (counted g)) [
    | inl on ↦ half_meets (choice.0 on) v met
    | inr out ↦ filled_meets out v met
  ]

  -- a net at an end of a half edge
  pub record IsFree (net : ℕ) : Type 0 where
    pub below : net < 256 * f.nets
    pub is_pool : pool net ≡ true
    pub ends : ends_free f r counted g net ≡ true

  module _ (pools : ArePools f r counted pool) where
    is_finger : (x : Finger) → Contains (row_of r f) x → (x.lo.0 < 256 * f.nets) × (x.hi.0 < 256 * f.nets)
    is_finger x there = by r there
      where
        of : (s : Row) → IsFinger s f.nets x → (x.lo.0 < 256 * f.nets) × (x.hi.0 < 256 * f.nets)
        of s is = (omega (arith, is.order, is.ends), omega (arith, is.ends))

        by : (s : Row) → Contains (row_of s f) x → (x.lo.0 < 256 * f.nets) × (x.hi.0 < 256 * f.nets)
        by P k = of P (All-contains (IsFinger P f.nets) f.p x ok.p k)
        by N k = of N (All-contains (IsFinger N f.nets) f.n x ok.n k)

    half_ends_free : counted g ≡ true → (h : IsHalfOpen f r g c) → (half : FingerEnds) → Contains c.halves half
        → IsFree half.lo × IsFree half.hi
    half_ends_free on h half k =
        let listed : Contains (filter_map (half_in r) h.columns) half =
        Contains-permutation c.halves (filter_map (half_in r) h.columns) half
        (IsPermutation-sym (filter_map (half_in r) h.columns) c.halves h.halves) k in
        let kept : Kept (half_in r) h.columns half = kept_from (half_in r) h.columns half listed in
        let a : Alone (place r kept.from) (place (other_row r) kept.from) half = alone_in r kept.from half kept.gives in
        let mine : Passes (λ (y : Finger). y.gate.0 == g) (row_of r f) a.it.finger =
        on_row r f g a.it.finger
        (stands_there r h.columns (fingers_on g f) h.arranges kept.from a.it kept.there a.stands) in
        let has_pools : (pool a.it.finger.lo.0 ≡ true) × (pool a.it.finger.hi.0 ≡ true) =
        All-contains
        (λ (x : Finger). counted x.gate.0 ≡ true → (pool x.lo.0 ≡ true) × (pool x.hi.0 ≡ true)) (row_of r f)
        a.it.finger pools mine.there (ap counted (eqb-true a.it.finger.gate.0 g mine.passes) ∙ on) in
        let small : (a.it.finger.lo.0 < 256 * f.nets) × (a.it.finger.hi.0 < 256 * f.nets) =
        is_finger a.it.finger mine.there in
        subst (λ (e : FingerEnds). IsFree e.lo × IsFree e.hi) a.is (
          free kept.from a.it a.it.finger.lo.0 kept.there a.stands a.none small.0 has_pools.0
              (or_left (a.it.finger.lo.0 == a.it.finger.lo.0) (a.it.finger.hi.0 == a.it.finger.lo.0)
              (eq-eqb a.it.finger.lo.0 a.it.finger.lo.0 refl)),
          free kept.from a.it a.it.finger.hi.0 kept.there a.stands a.none small.1 has_pools.1
              (or_right (a.it.finger.lo.0 == a.it.finger.hi.0) (a.it.finger.hi.0 == a.it.finger.hi.0)
              (eq-eqb a.it.finger.hi.0 a.it.finger.hi.0 refl)),
        )
      where
        open_gate : (s : Row) → on_gate g (row_of (other_row s) f) < on_gate g (row_of s f)
            → (counted g && ltb (on_gate g (fingers_beside s f)) (on_gate g (fingers_at s f))) ≡ true
        open_gate P less =
            and_from (counted g) (ltb (on_gate g f.n) (on_gate g f.p)) on (lt-ltb (on_gate g f.n) (on_gate g f.p) less)
        open_gate N less =
            and_from (counted g) (ltb (on_gate g f.p) (on_gate g f.n)) on (lt-ltb (on_gate g f.p) (on_gate g f.n) less)

        turned : (s : Row) → on_gate g (row_of (other_row s) f) < on_gate g (row_of (other_row (other_row s)) f)
            → on_gate g (row_of (other_row s) f) < on_gate g (row_of s f)
        turned P less = less
        turned N less = less

        at_row : (s : Row) (net : ℕ) → is_net_on (row_of s f) g net ≡ true → is_net_on (fingers_at s f) g net ≡ true
        at_row P net e = e
        at_row N net e = e

        free : (d : Column) (x : Placed) (net : ℕ) → Contains h.columns d → place r d ≡ Some x
            → place (other_row r) d ≡ None → net < 256 * f.nets → pool net ≡ true → has_net net x.finger ≡ true
            → IsFree net
        free d x net there stands none below is has = record {
          below = below;
          is_pool = is;
          ends = and_from (stays_open f r counted g) (is_net_on (fingers_at r f) g net)
              (open_gate r (turned r (fewer f ok g within h.columns h.arranges (other_row r) d there none)))
              (at_row r net (on_net f ok g within h.columns h.arranges r d x net there stands has));
        }

    -- the nets of its half edges
    pub halves_free : (half : FingerEnds) → Contains c.halves half → IsFree half.lo × IsFree half.hi
    halves_free half k = elim (cases_Bool (counted g)) [
      | inl on ↦ half_ends_free on (choice.0 on) half k
      | inr out ↦ absurd (contains_none half (subst (λ l. Contains l half) (choice.1 out).1 k))
    ]
