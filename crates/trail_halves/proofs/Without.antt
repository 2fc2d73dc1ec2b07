-- Without pools and half edges the ends are those of the edges.
use Rattle.std.proofs.Common.{ℕ, zero, suc, ◌≡◌, ◌*◌, ◌<◌, ◌≤◌, ◌==◌, ◌&&◌, Bool, true, false, not, if◌then◌else◌}
use Rattle.std.proofs.Common.{List, [], ◌∷◌, map, refl, sym, ap, arith, ◌∙◌, inl, inr, append-nil}
use Rattle.std.proofs.lemmas.Bool.{and_left, and_right, cases_eq, eqb-true, false_from_ne_true}
use Rattle.std.proofs.lemmas.Bool.{le-ltb, lt-ltb}
use Rattle.std.proofs.lemmas.List.Elements.{All-contains}
use Rattle.cell_num.specs.Fingers.{sum_below}
use Rattle.cell_num.specs.declared.finger.Row.{Row}
use Rattle.cell_num.proofs.Pairs.{Some', test_finds}
use Rattle.row_trails.specs.Trails.{size}
use Rattle.trail_state.specs.declared.edge.Edge.{Edge}
use Rattle.trail_check.specs.Graph as graphs
use Rattle.trail_check.specs.Graph.{class_of, ends_of, has_edge, is_odd}
use Rattle.trail_check.proofs.Edges.{class_le}
use Rattle.trail_halves.specs.Halves.{AreBelow, edge_placed, half_ends, is_even_class, links, place_ends}

abbrev bit : Bool → ℕ
bit b = if b then 1 else 0

-- a sum of numbers that are 1 in the set, and 0 from n on
module _ (n : ℕ) (f : ℕ → ℕ) (set : ℕ → Bool) (low : (k : ℕ) → k < n → f k ≡ bit (set k))
    (high : (k : ℕ) → n ≤ k → f k ≡ 0) where
  within : (m : ℕ) → m ≤ n → sum_below f m ≡ size m set
  within zero l = refl
  within (suc m) l = omega (arith, within m (omega (arith, l)), low m (omega (arith, l)))

  pub sum_is : (m : ℕ) → n ≤ m → sum_below f m ≡ size n set
  sum_is zero l = let none : n ≡ 0 = omega (arith, l) in ap (λ k. size k set) (sym none)
  sum_is (suc m) l = elim (cases_eq n (suc m)) [
    | inl e ↦ within (suc m) (omega (arith, e)) ∙ ap (λ k. size k set) (sym e)
    | inr other ↦ omega (arith, sum_is m (omega (arith, l, other)), high m (omega (arith, l, other)))
  ]

bits : (n : ℕ) (set : ℕ → Bool) → sum_below (λ k. bit (set k)) n ≡ size n set
bits zero set = refl
bits (suc n) set = omega (arith, bits n set)

-- a set without numbers from n on
size_is : (n m : ℕ) (whole set : ℕ → Bool) → n ≤ m → ((k : ℕ) → k < n → whole k ≡ set k)
    → ((k : ℕ) → n ≤ k → whole k ≡ false) → size m whole ≡ size n set
size_is n m whole set l low high =
    sym (bits m whole) ∙ sum_is n (λ k. bit (whole k)) set (λ k j. ap bit (low k j)) (λ k j. ap bit (high k j)) m l

module _ (n : ℕ) (r : Row) (edges : List Edge) (below : AreBelow n edges) where
  abbrev none : ℕ → Bool
  none net = false

  abbrev ends_at : ℕ → ℕ
  ends_at = place_ends n r none edges []

  as_placed : (es : List Edge) → map (edge_placed n r none) es ≡ es
  as_placed [] = refl
  as_placed (e ∷ es) = ap (λ ds. e ∷ ds) (as_placed es)

  links_are : links n r none edges [] ≡ edges
  links_are = append-nil (map (edge_placed n r none) edges) ∙ as_placed edges

  ends_low : (p : ℕ) → p < n → ends_at p ≡ bit (is_odd edges p)
  ends_low p l = rw (lt-ltb p n l) refl

  ends_high : (p : ℕ) → n ≤ p → ends_at p ≡ 0
  ends_high p l = rw (le-ltb p n l) refl

  some_end : (b : Bool) → not (bit b == 0) ≡ b
  some_end true = refl
  some_end false = refl

  odd_in : (h : ℕ) → size (2 * n) (λ p. (class_of edges p == h) && not (ends_at p == 0))
      ≡ size n (λ v. (class_of edges v == h) && is_odd edges v)
  odd_in h =
      size_is n (2 * n) (λ p. (class_of edges p == h) && not (ends_at p == 0))
      (λ v. (class_of edges v == h) && is_odd edges v) (omega arith)
      (λ p l. ap (λ x. (class_of edges p == h) && not (x == 0)) (ends_low p l)
      ∙ ap (λ b. (class_of edges p == h) && b) (some_end (is_odd edges p)))
      (λ p l. and_right (class_of edges p == h) (not (ends_at p == 0)) (ap (λ x. not (x == 0)) (ends_high p l)))

  even_is : (h : ℕ) → is_even_class n r none edges [] h ≡ graphs.is_even_class n edges h
  even_is h =
      ap (λ es. has_edge es h && (size (2 * n) (λ p. (class_of es p == h) && not (ends_at p == 0)) == 0)) links_are
      ∙ ap (λ x. has_edge edges h && (x == 0)) (odd_in h)

  -- the name of a class is one of its nodes
  none_beyond : (h : ℕ) → n ≤ h → graphs.is_even_class n edges h ≡ false
  none_beyond h far =
      and_left (has_edge edges h) (size n (λ v. (class_of edges v == h) && is_odd edges v) == 0)
      (false_from_ne_true (has_edge edges h) (λ has. no_edge (test_finds (λ (e : Edge). class_of edges e.a.0 == h)
      edges has)))
    where
      no_edge : Some' (λ (e : Edge). (class_of edges e.a.0 == h) ≡ true) edges → ⊥
      no_edge f = omega (
        arith,
        far,
        class_le edges f.it.a.0,
        eqb-true (class_of edges f.it.a.0) h f.holds,
        (All-contains (λ (e : Edge). (e.a.0 < n) × (e.b.0 < n)) edges f.it below f.there).0,
      )

  pub half_ends_are : half_ends n r none edges [] ≡ ends_of n edges
  unfolding half_ends ends_of
  half_ends_are =
      let odd : sum_below ends_at (2 * n) ≡ size n (is_odd edges) =
      sum_is n ends_at (is_odd edges) ends_low ends_high (2 * n) (omega arith) in
      let even : size (2 * n) (is_even_class n r none edges []) ≡ size n (graphs.is_even_class n edges) =
      size_is n (2 * n) (is_even_class n r none edges []) (graphs.is_even_class n edges) (omega arith)
      (λ h l. even_is h) (λ h l. even_is h ∙ none_beyond h l) in
      omega (arith, odd, even)
