-- No other node is odd after edges than those that were odd and the ends of the edges.
use Rattle.std.specs.Prelude.{ℕ, zero, suc, ◌≡◌, ◌+◌, ◌<◌, ◌≤◌, ◌==◌, ◌&&◌, ◌||◌, Bool, true, false, cond, if◌then◌else◌, ltb, List, [], ◌∷◌, fold, length, map}
use Rattle.std.specs.List.{filter, list_any, range_with_len}
use Rattle.std.proofs.Common.{refl, sym, ap, arith, ◌∙◌, inl, inr}
use Rattle.std.proofs.lemmas.Bool.{cases_Bool, cases_eq, eq-eqb, lt-ltb, ltb-true, ne_eqb}
use Rattle.cell_num.specs.declared.finger.Row.{Row}
use Rattle.trail_state.specs.declared.edge.Edge.{Edge}
use Rattle.trail_state.specs.declared.edge.Node.{Node}
use Rattle.trail_state.specs.Places.{differ, node_at}
use Rattle.trail_state.specs.Settling.{is_open}
use Rattle.trail_state.proofs.Blocks.{none_pass}
use Rattle.trail_state.proofs.Unions.{merged, merged_tests}
use Rattle.open_gates.specs.Merged.{net_in}
use Rattle.trail_check.specs.Graph.{is_odd}
use Rattle.trail_pools.specs.Stepping.{candidates, is_odd_pooled, odd_pooled, with_below, with_ends_of}
use Rattle.trail_pools.proofs.NodesMet.{picked}
use Rattle.trail_pools.proofs.Placed.{eq_turned}
use Rattle.trail_pools.proofs.Turned.{few_pooled, one_more}

-- ---- numbers in a row that pass a test

filter_same : (p q : ℕ → Bool) (a k : ℕ) → ((v : ℕ) → v < a + k → p v ≡ q v)
    → filter p (range_with_len a k) ≡ filter q (range_with_len a k)
filter_same p q a zero same = refl
filter_same p q a (suc k) same =
    let here : p a ≡ q a = same a (omega arith) in
    let rest : filter p (range_with_len (a + 1) k) ≡ filter q (range_with_len (a + 1) k) =
    filter_same p q (a + 1) k (λ v h. same v (omega (arith, h))) in
    λ i. cond (here i) (a ∷ rest i) (rest i)

one_passes : (x a k : ℕ) → a ≤ x → x < a + k → filter (λ v. x == v) (range_with_len a k) ≡ x ∷ []
one_passes x a zero low high = absurd (omega (arith, low, high))
one_passes x a (suc k) low high =
    elim (cases_eq x a) [
      | inl same ↦
          let none : filter (λ v. x == v) (range_with_len (a + 1) k) ≡ [] =
          none_pass (λ v. x == v) (a + 1) k (λ v h. ne_eqb x v (λ e. omega (arith, h, e, same))) in
          rw (eq-eqb x a same, none) (ap (λ n. n ∷ []) (sym same))
      | inr other ↦ rw (ne_eqb x a other) (one_passes x (a + 1) k (omega (arith, low, other)) (omega (arith, high)))
    ]

-- ---- nodes below a number

module _ (n : ℕ) where
  abbrev nodes : (ℕ → Bool) → List Node
  nodes p = map node_at (filter p (range_with_len 0 n))

  same_nodes : (p q : ℕ → Bool) → ((v : ℕ) → v < n → p v ≡ q v) → nodes p ≡ nodes q
  same_nodes p q same = ap (map node_at) (filter_same p q 0 n (λ v h. same v (omega (arith, h))))

  or_none : (b c : Bool) → c ≡ false → b ≡ (b || c)
  or_none true c off = refl
  or_none false c off = sym off

  or_or : (a b c : Bool) → ((a || b) || c) ≡ (a || (b || c))
  or_or true b c = refl
  or_or false b c = refl

  one_node : (x : Node) → x.0 < n → x ∷ [] ≡ nodes (λ v. x.0 == v)
  one_node x within = sym (ap (map node_at) (one_passes x.0 0 n (omega arith) (omega (arith, within))))

  below_are : (p : ℕ → Bool) (x : Node) → with_below n (nodes p) x ≡ nodes (λ v. p v || (x.0 == v))
  below_are p x =
      elim (cases_Bool (ltb x.0 n)) [
        | inl on ↦
            ap (λ b. if b then merged (nodes p) (x ∷ []) else nodes p) on
            ∙ ap (merged (nodes p)) (one_node x (ltb-true x.0 n on))
            ∙ merged_tests p (λ v. x.0 == v) 0 n
        | inr off ↦
            ap (λ b. if b then merged (nodes p) (x ∷ []) else nodes p) off
            ∙ same_nodes p (λ v. p v || (x.0 == v))
            (λ v h. or_none (p v) (x.0 == v) (ne_eqb x.0 v (λ e. above off (omega (arith, h, e)))))
      ]
    where
      above : ltb x.0 n ≡ false → x.0 < n → ⊥
      above off within = clash off (lt-ltb x.0 n within)
        where
          clash : ltb x.0 n ≡ false → ltb x.0 n ≡ true → ⊥
          clash e f = cc

  all_below : (p : ℕ → Bool) (odd : List Node)
      → fold (with_below n) (nodes p) odd ≡ nodes (λ v. p v || is_open odd v)
  all_below p [] = same_nodes p (λ v. p v || false) (λ v h. or_none (p v) false refl)
  all_below p (x ∷ xs) =
      ap (λ l. fold (with_below n) l xs) (below_are p x)
      ∙ all_below (λ v. p v || (x.0 == v)) xs
      ∙ same_nodes (λ v. (p v || (x.0 == v)) || is_open xs v) (λ v. p v || is_open (x ∷ xs) v)
      (λ v h. or_or (p v) (x.0 == v) (is_open xs v))

  abbrev has_end : ℕ → Edge → Bool
  has_end v e = (e.a.0 == v) || (e.b.0 == v)

  ends_are : (p : ℕ → Bool) (e : Edge) → with_ends_of n (nodes p) e ≡ nodes (λ v. p v || has_end v e)
  ends_are p e =
      ap (λ l. with_below n l e.b) (below_are p e.a)
      ∙ below_are (λ v. p v || (e.a.0 == v)) e.b
      ∙ same_nodes (λ v. (p v || (e.a.0 == v)) || (e.b.0 == v)) (λ v. p v || has_end v e)
      (λ v h. or_or (p v) (e.a.0 == v) (e.b.0 == v))

  all_ends : (p : ℕ → Bool) (edges : List Edge)
      → fold (with_ends_of n) (nodes p) edges ≡ nodes (λ v. p v || list_any (has_end v) edges)
  all_ends p [] = same_nodes p (λ v. p v || false) (λ v h. or_none (p v) false refl)
  all_ends p (e ∷ es) =
      ap (λ l. fold (with_ends_of n) l es) (ends_are p e)
      ∙ all_ends (λ v. p v || has_end v e) es
      ∙ same_nodes (λ v. (p v || has_end v e) || list_any (has_end v) es) (λ v. p v || list_any (has_end v) (e ∷ es))
      (λ v h. or_or (p v) (has_end v e) (list_any (has_end v) es))

  abbrev is_candidate : List Node → List Edge → ℕ → Bool
  is_candidate odd edges v = is_open odd v || list_any (has_end v) edges

  candidates_are : (odd : List Node) (edges : List Edge) → candidates n odd edges ≡ nodes (is_candidate odd edges)
  candidates_are odd edges =
      ap (λ l. fold (with_ends_of n) (fold (with_below n) l odd) edges)
      (sym (ap (map node_at) (none_pass (λ v. false) 0 n (λ v _. refl))))
      ∙ ap (λ l. fold (with_ends_of n) l edges) (all_below (λ v. false) odd)
      ∙ all_ends (is_open odd) edges

-- ---- odd nodes are among them

or_parts : (b c : Bool) → (b || c) ≡ false → (b ≡ false) × (c ≡ false)
or_parts true c h = absurd cc
or_parts false c h = (refl, h)

never_odd : (n v : ℕ) (edges : List Edge) → list_any (has_end n v) edges ≡ false → is_odd edges v ≡ false
never_odd n v [] h = refl
never_odd n v (e ∷ es) h =
    let parts : (has_end n v e ≡ false) × (list_any (has_end n v) es ≡ false) =
    or_parts (has_end n v e) (list_any (has_end n v) es) h in
    let ends : ((e.a.0 == v) ≡ false) × ((e.b.0 == v) ≡ false) = or_parts (e.a.0 == v) (e.b.0 == v) parts.0 in
    one_more v e es
    ∙ ap (λ b. differ (differ b (v == e.b.0)) (is_odd es v)) (eq_turned v e.a.0 ∙ ends.0)
    ∙ ap (λ b. differ (differ false b) (is_odd es v)) (eq_turned v e.b.0 ∙ ends.1)
    ∙ never_odd n v es parts.1

module _ (r : Row) (pool : ℕ → Bool) (odd : List Node) (edges : List Edge) (n : ℕ) where
  among : (v : ℕ) → is_odd_pooled r pool odd edges v
      ≡ (is_candidate n odd edges v && is_odd_pooled r pool odd edges v)
  among v =
      elim (cases_Bool (is_candidate n odd edges v)) [
        | inl on ↦ sym (ap (λ b. b && is_odd_pooled r pool odd edges v) on)
        | inr off ↦
            let parts : (is_open odd v ≡ false) × (list_any (has_end n v) edges ≡ false) =
            or_parts (is_open odd v) (list_any (has_end n v) edges) off in
            even (pool (net_in r v)) (is_open odd v) (is_odd edges v) parts.0 (never_odd n v edges parts.1)
            ∙ sym (ap (λ b. b && is_odd_pooled r pool odd edges v) off)
      ]
    where
      even : (p a b : Bool) → a ≡ false → b ≡ false → (p && differ a b) ≡ false
      even true a b off none = (λ i. differ (off i) (none i))
      even false a b off none = refl

  numbers_of : (xs : List ℕ) → map (λ (w : Node). w.0) (map node_at xs) ≡ xs
  numbers_of [] = refl
  numbers_of (x ∷ xs) = ap (λ l. x ∷ l) (numbers_of xs)

  pub all_among : (nodes : List Node) (all : List ℕ) → nodes ≡ candidates n odd edges
      → all ≡ map (λ (w : Node). w.0) (filter (λ (w : Node). is_odd_pooled r pool odd edges w.0) nodes)
      → all ≡ odd_pooled r pool odd edges n
  all_among nodes all are is =
      is
      ∙ ap (λ l. map (λ (w : Node). w.0) (filter (λ (w : Node). is_odd_pooled r pool odd edges w.0) l))
      (are ∙ candidates_are n odd edges)
      ∙ ap (map (λ (w : Node). w.0))
      (picked (is_odd_pooled r pool odd edges) (is_candidate n odd edges) (is_odd_pooled r pool odd edges)
      (range_with_len 0 n) among)
      ∙ numbers_of (filter (is_odd_pooled r pool odd edges) (range_with_len 0 n))

  pub few_among : (nodes : List Node) (all : List ℕ) → nodes ≡ candidates n odd edges
      → all ≡ map (λ (w : Node). w.0) (filter (λ (w : Node). is_odd_pooled r pool odd edges w.0) nodes)
      → length all ≤ n
  few_among nodes all are is = few_pooled (is_odd_pooled r pool odd edges) n all (all_among nodes all are is)
