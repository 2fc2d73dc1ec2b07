-- Two edges in their places, and two fingers taken out: the same in either order.
use Rattle.std.proofs.Common.{ℕ, suc, ◌≡◌, ◌<◌, ◌+◌, ◌==◌, ◌&&◌, Bool, true, false, not, cond, ltb, List, [], ◌∷◌, ◌++◌, append_assoc, append-nil, drop, length, take, refl, sym, ap, subst, arith, ◌∙◌, inl, inr, ◌⊎◌, Contains}
use Rattle.std.specs.List.{filter, position_or_len}
use Rattle.std.proofs.lemmas.Bool.{and_from, and_parts, both_ways, cases_Bool, eq-eqb, eqb-true, lt-ltb, ltb-false, ltb-true, not_from_false, not_from_true, or_cases, or_left, or_parts, or_right}
use Rattle.std.proofs.lemmas.List.Elements.{filter-append}
use Rattle.std.proofs.lemmas.List.Sorted.{length_permutation}
use Rattle.cell_num.proofs.Lists.{contains_cons, contains_here, contains_none, contains_there}
use Rattle.trail_state.specs.declared.edge.Edge.{Edge}
use Rattle.trail_state.specs.declared.edge.FingerEnds.{FingerEnds}
use Rattle.trail_state.specs.Fronts.{same_nets, without}
use Rattle.trail_state.specs.Same.{edge_decides, nets_same}
use Rattle.trail_state.specs.Sorted.{inserted, is_below}
use Rattle.trail_state.proofs.Listed.{one_taken}
use Rattle.trail_state.proofs.Members.{filter_off, filter_on}

-- ---- edges in their places

filters_swap : {X : Type 0} (p q : X → Bool) (xs : List X) → filter p (filter q xs) ≡ filter q (filter p xs)
filters_swap p q [] = refl
filters_swap p q (x ∷ xs) = elim (cases_Bool (p x)) [
  | inl p_on ↦ elim (cases_Bool (q x)) [
    | inl q_on ↦ ap (filter p) (filter_on q x xs q_on) ∙ filter_on p x (filter q xs) p_on ∙ ap (λ l. x ∷ l) (filters_swap p q xs) ∙ sym (ap (filter q) (filter_on p x xs p_on) ∙ filter_on q x (filter p xs) q_on)
    | inr q_off ↦ ap (filter p) (filter_off q x xs q_off) ∙ filters_swap p q xs ∙ sym (ap (filter q) (filter_on p x xs p_on) ∙ filter_off q x (filter p xs) q_off)
  ]
  | inr p_off ↦ elim (cases_Bool (q x)) [
    | inl q_on ↦ ap (filter p) (filter_on q x xs q_on) ∙ filter_off p x (filter q xs) p_off ∙ filters_swap p q xs ∙ sym (ap (filter q) (filter_off p x xs p_off))
    | inr q_off ↦ ap (filter p) (filter_off q x xs q_off) ∙ filters_swap p q xs ∙ sym (ap (filter q) (filter_off p x xs p_off))
  ]
]

none_pass : {X : Type 0} (p q : X → Bool) → ((x : X) → q x ≡ true → p x ≡ false) → (xs : List X) → filter p (filter q xs) ≡ []
none_pass p q off [] = refl
none_pass p q off (x ∷ xs) = elim (cases_Bool (q x)) [
  | inl on ↦ ap (filter p) (filter_on q x xs on) ∙ filter_off p x (filter q xs) (off x on) ∙ none_pass p q off xs
  | inr none ↦ ap (filter p) (filter_off q x xs none) ∙ none_pass p q off xs
]

IsLower : Edge → Edge → Type 0
IsLower d e = (d.a.0 < e.a.0) ⊎ ((d.a.0 ≡ e.a.0) × (d.b.0 < e.b.0))

lower : (e d : Edge) → is_below e d ≡ true → IsLower d e
unfolding IsLower
lower e d h = elim (or_cases (ltb d.a.0 e.a.0) ((d.a.0 == e.a.0) && ltb d.b.0 e.b.0) h) [
  | inl first ↦ inl (ltb-true d.a.0 e.a.0 first)
  | inr second ↦ let parts : ((d.a.0 == e.a.0) ≡ true) × (ltb d.b.0 e.b.0 ≡ true) = and_parts (d.a.0 == e.a.0) (ltb d.b.0 e.b.0) second in
      inr (eqb-true d.a.0 e.a.0 parts.0, ltb-true d.b.0 e.b.0 parts.1)
]

below : (e d : Edge) → IsLower d e → is_below e d ≡ true
unfolding IsLower
below e d (inl first) = or_left (ltb d.a.0 e.a.0) ((d.a.0 == e.a.0) && ltb d.b.0 e.b.0) (lt-ltb d.a.0 e.a.0 first)
below e d (inr second) = or_right (ltb d.a.0 e.a.0) ((d.a.0 == e.a.0) && ltb d.b.0 e.b.0) (and_from (d.a.0 == e.a.0) (ltb d.b.0 e.b.0) (eq-eqb d.a.0 e.a.0 second.0) (lt-ltb d.b.0 e.b.0 second.1))

lower_trans : (c d e : Edge) → IsLower c d → IsLower d e → IsLower c e
unfolding IsLower
lower_trans c d e (inl h) (inl k) = inl (omega (arith, h, k))
lower_trans c d e (inl h) (inr k) = inl (omega (arith, h, k.0))
lower_trans c d e (inr h) (inl k) = inl (omega (arith, h.0, k))
lower_trans c d e (inr h) (inr k) = inr (omega (arith, h.0, k.0), omega (arith, h.1, k.1))

lower_never : (d e : Edge) → IsLower d e → IsLower e d → ⊥
unfolding IsLower
lower_never d e (inl h) (inl k) = omega (arith, h, k)
lower_never d e (inl h) (inr k) = omega (arith, h, k.0)
lower_never d e (inr h) (inl k) = omega (arith, h.0, k)
lower_never d e (inr h) (inr k) = omega (arith, h.1, k.1)

-- neither is lower: they are one edge
not_lower : (d e : Edge) → is_below e d ≡ false → is_below d e ≡ false → d ≡ e
not_lower d e h k =
    let down : (ltb d.a.0 e.a.0 ≡ false) × (((d.a.0 == e.a.0) && ltb d.b.0 e.b.0) ≡ false) = or_parts (ltb d.a.0 e.a.0) ((d.a.0 == e.a.0) && ltb d.b.0 e.b.0) h in
    let up : (ltb e.a.0 d.a.0 ≡ false) × (((e.a.0 == d.a.0) && ltb e.b.0 d.b.0) ≡ false) = or_parts (ltb e.a.0 d.a.0) ((e.a.0 == d.a.0) && ltb e.b.0 d.b.0) k in
    let a : d.a.0 ≡ e.a.0 = omega (arith, ltb-false d.a.0 e.a.0 down.0, ltb-false e.a.0 d.a.0 up.0) in
    let b : d.b.0 ≡ e.b.0 = omega (arith, ltb-false d.b.0 e.b.0 (second d.a.0 e.a.0 d.b.0 e.b.0 a down.1), ltb-false e.b.0 d.b.0 (second e.a.0 d.a.0 e.b.0 d.b.0 (sym a) up.1)) in
    (edge_decides d e).0 (and_from (d.a.0 == e.a.0) (d.b.0 == e.b.0) (eq-eqb d.a.0 e.a.0 a) (eq-eqb d.b.0 e.b.0 b))
  where
    second : (m n i j : ℕ) → m ≡ n → ((m == n) && ltb i j) ≡ false → ltb i j ≡ false
    second m n i j same off = sym (ap (λ b. b && ltb i j) (eq-eqb m n same)) ∙ off

abbrev over : Edge → Edge → Bool
over e d = not (is_below e d)

-- the edges with both, where one is below the other
both_in : (d e : Edge) (ds : List Edge) → is_below d e ≡ true → inserted d (inserted e ds) ≡ inserted e (inserted d ds)
both_in d e ds on =
    let is_low : IsLower e d = lower d e on in
    let off : is_below e d ≡ false = elim (cases_Bool (is_below e d)) [ inl both ↦ absurd (lower_never d e (lower e d both) is_low) | inr none ↦ none ] in
    let low_e : List Edge = filter (is_below e) ds in
    let high_e : List Edge = filter (over e) ds in
    let low_d : List Edge = filter (is_below d) ds in
    let high_d : List Edge = filter (over d) ds in
    let first : filter (is_below d) (low_e ++ e ∷ high_e) ≡ filter (is_below d) low_e ++ e ∷ filter (is_below d) high_e =
    filter-append (is_below d) low_e (e ∷ high_e) ∙ ap (λ l. filter (is_below d) low_e ++ l) (filter_on (is_below d) e high_e on) in
    let last : filter (over d) (low_e ++ e ∷ high_e) ≡ filter (over d) high_e =
    filter-append (over d) low_e (e ∷ high_e)
    ∙ ap (λ l. l ++ filter (over d) (e ∷ high_e)) (none_pass (over d) (is_below e) (λ x h. not_from_true (is_below d x) (below d x (lower_trans x e d (lower e x h) is_low))) ds)
    ∙ filter_off (over d) e high_e (not_from_true (is_below d e) on) in
    let start : filter (is_below e) (low_d ++ d ∷ high_d) ≡ filter (is_below e) low_d =
    filter-append (is_below e) low_d (d ∷ high_d)
    ∙ ap (λ l. filter (is_below e) low_d ++ l) (filter_off (is_below e) d high_d off ∙ none_pass (is_below e) (over d) (not_under is_low) ds)
    ∙ append-nil (filter (is_below e) low_d) in
    let end : filter (over e) (low_d ++ d ∷ high_d) ≡ filter (over e) low_d ++ d ∷ filter (over e) high_d =
    filter-append (over e) low_d (d ∷ high_d) ∙ ap (λ l. filter (over e) low_d ++ l) (filter_on (over e) d high_d (not_from_false (is_below e d) off)) in
    let left : inserted d (inserted e ds) ≡ (filter (is_below d) low_e ++ e ∷ filter (is_below d) high_e) ++ d ∷ filter (over d) high_e =
    ap (λ l. l ++ d ∷ filter (over d) (low_e ++ e ∷ high_e)) first ∙ ap (λ l. (filter (is_below d) low_e ++ e ∷ filter (is_below d) high_e) ++ d ∷ l) last in
    let right : inserted e (inserted d ds) ≡ filter (is_below e) low_d ++ e ∷ (filter (over e) low_d ++ d ∷ filter (over e) high_d) =
    ap (λ l. l ++ e ∷ filter (over e) (low_d ++ d ∷ high_d)) start ∙ ap (λ l. filter (is_below e) low_d ++ e ∷ l) end in
    left ∙ append_assoc (filter (is_below d) low_e) (e ∷ filter (is_below d) high_e) (d ∷ filter (over d) high_e)
    ∙ ap (λ l. l ++ e ∷ (filter (is_below d) high_e ++ d ∷ filter (over d) high_e)) (filters_swap (is_below d) (is_below e) ds)
    ∙ ap (λ l. filter (is_below e) low_d ++ e ∷ (l ++ d ∷ filter (over d) high_e)) (filters_swap (is_below d) (over e) ds)
    ∙ ap (λ l. filter (is_below e) low_d ++ e ∷ (filter (over e) low_d ++ d ∷ l)) (filters_swap (over d) (over e) ds)
    ∙ sym right
  where
    not_under : IsLower e d → (x : Edge) → over d x ≡ true → is_below e x ≡ false
    not_under is_low x h = elim (cases_Bool (is_below e x)) [
      | inl under ↦ absurd (both_ways (over d x) (not_from_true (is_below d x) (below d x (lower_trans x e d (lower e x under) is_low))) h)
      | inr none ↦ none
    ]

pub inserts_swap : (d e : Edge) (ds : List Edge) → inserted d (inserted e ds) ≡ inserted e (inserted d ds)
inserts_swap d e ds = elim (cases_Bool (is_below d e)) [
  | inl on ↦ both_in d e ds on
  | inr off ↦ elim (cases_Bool (is_below e d)) [
    | inl other ↦ sym (both_in e d ds other)
    | inr none ↦ let same : d ≡ e = not_lower d e none off in ap (λ x. inserted x (inserted e ds)) same ∙ ap (λ x. inserted e (inserted x ds)) (sym same)
  ]
]

-- ---- fingers taken out

without_on : (y z : FingerEnds) (zs : List FingerEnds) → same_nets y z ≡ true → without y (z ∷ zs) ≡ zs
without_on y z zs h =
    ap (λ b. take (cond (not b) (1 + position_or_len (same_nets y) zs) 0) (z ∷ zs) ++ drop (cond (not b) (1 + position_or_len (same_nets y) zs) 0 + 1) (z ∷ zs)) h

without_off : (y z : FingerEnds) (zs : List FingerEnds) → same_nets y z ≡ false → without y (z ∷ zs) ≡ z ∷ without y zs
without_off y z zs h =
    let n : ℕ = position_or_len (same_nets y) zs in
    let one : 1 + n ≡ suc n = omega arith in
    let two : 1 + n + 1 ≡ suc (n + 1) = omega arith in
    ap (λ b. take (cond (not b) (1 + n) 0) (z ∷ zs) ++ drop (cond (not b) (1 + n) 0 + 1) (z ∷ zs)) h
    ∙ ap (λ k. take k (z ∷ zs) ++ drop (1 + n + 1) (z ∷ zs)) one ∙ ap (λ k. take (suc n) (z ∷ zs) ++ drop k (z ∷ zs)) two

pub takes_swap : (y z : FingerEnds) (left : List FingerEnds) → without y (without z left) ≡ without z (without y left)
takes_swap y z [] = refl
takes_swap y z (w ∷ ws) = elim (cases_Bool (same_nets y w)) [
  | inl y_on ↦ elim (cases_Bool (same_nets z w)) [
    | inl z_on ↦ let same : y ≡ z = nets_same y w y_on ∙ sym (nets_same z w z_on) in ap (λ x. without x (without z (w ∷ ws))) same ∙ ap (λ x. without z (without x (w ∷ ws))) (sym same)
    | inr z_off ↦ ap (without y) (without_off z w ws z_off) ∙ without_on y w (without z ws) y_on ∙ sym (ap (without z) (without_on y w ws y_on))
  ]
  | inr y_off ↦ elim (cases_Bool (same_nets z w)) [
    | inl z_on ↦ ap (without y) (without_on z w ws z_on) ∙ sym (ap (without z) (without_off y w ws y_off) ∙ without_on z w (without y ws) z_on)
    | inr z_off ↦
        ap (without y) (without_off z w ws z_off) ∙ without_off y w (without z ws) y_off ∙ ap (λ l. w ∷ l) (takes_swap y z ws)
        ∙ sym (ap (without z) (without_off y w ws y_off) ∙ without_off z w (without y ws) z_off)
  ]
]

-- a finger with other nets stays
pub other_stays : (y z : FingerEnds) (left : List FingerEnds) → Contains left z → same_nets y z ≡ false → Contains (without y left) z
other_stays y z [] there off = absurd (contains_none z there)
other_stays y z (w ∷ ws) there off = elim (cases_Bool (same_nets y w)) [
  | inl on ↦ elim (contains_cons w ws z there) [
    | inl same ↦ absurd (both_ways (same_nets y z) off (sym (ap (same_nets y) same) ∙ on))
    | inr rest ↦ subst (λ l. Contains l z) (sym (without_on y w ws on)) rest
  ]
  | inr none ↦ subst (λ l. Contains l z) (sym (without_off y w ws none)) (elim (contains_cons w ws z there) [
    | inl same ↦ subst (Contains (w ∷ without y ws)) same (contains_here w (without y ws))
    | inr rest ↦ contains_there w (without y ws) z (other_stays y z ws rest off)
  ])
]

-- one less
pub one_shorter : (y : FingerEnds) (left : List FingerEnds) → Contains left y → length left ≡ length (without y left) + 1
one_shorter y left there = omega (arith, length_permutation left (y ∷ without y left) (one_taken y left there))
