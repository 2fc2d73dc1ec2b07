-- Trails of which no two meet: which ends they have, and which nodes they share.
use Rattle.std.proofs.Common.{ℕ, ◌≡◌, ◌+◌, ◌<◌, ◌==◌, ◌||◌, ◌&&◌, Bool, true, false, List, [], ◌∷◌, length, refl}
use Rattle.std.proofs.Common.{sym, ap, subst, arith, ◌∙◌, inl, inr, ◌⊎◌, All, AllPairs, Contains}
use Rattle.std.proofs.lemmas.Bool.{and_from, both_ways, eq-eqb, eqb-true, false_from_ne_true, ne_eqb, or_cases, or_left}
use Rattle.std.proofs.lemmas.Bool.{or_parts, or_right}
use Rattle.std.proofs.lemmas.List.Elements.{All-append, All-contains, All-nil}
use Rattle.cell_num.proofs.Lists.{contains_cons, contains_here, contains_none, contains_there}
use Rattle.cell_num.proofs.Pairs.{Some', pairs_head, pairs_tail, test_finds, test_there}
use Rattle.trail_check.proofs.Steps.{IsEven, Runs, Step, bit, degree, degree_append, is_at, is_on, runs_even}
use Rattle.trail_check.proofs.Joins.{Trail, have_end, is_closed, meet, share}
use Rattle.trail_check.proofs.Apart.{AreApart, walk}

-- two elements of a list are one, or one is after the other
pub pairs_either : {X : Type 0} (R : X → X → Type 0) (xs : List X) (a b : X) → AllPairs R xs → Contains xs a
    → Contains xs b → (a ≡ b) ⊎ (R a b ⊎ R b a)
pairs_either R [] a b pairs in_a in_b = absurd (contains_none a in_a)
pairs_either {X} R (x ∷ xs) a b pairs in_a in_b =
    elim (contains_cons x xs a in_a) [
      | inl x_a ↦ elim (contains_cons x xs b in_b) [
        | inl x_b ↦ inl (sym x_a ∙ x_b)
        | inr later ↦ inr (inl (subst (λ y. R y b) x_a (All-contains (R x) xs b (pairs_head R x xs pairs) later)))
      ]
      | inr a_later ↦ elim (contains_cons x xs b in_b) [
        | inl x_b ↦ inr (inr (subst (λ y. R y a) x_b (All-contains (R x) xs a (pairs_head R x xs pairs) a_later)))
        | inr b_later ↦ pairs_either R xs a b (pairs_tail R x xs pairs) a_later b_later
      ]
    ]

pub bit_on : (b : Bool) → b ≡ true → bit b ≡ 1
bit_on b e = rw e refl

pub bit_off : (b : Bool) → b ≡ false → bit b ≡ 0
bit_off b e = rw e refl

-- both ends of a walk are on it
pub first_on : (u z : ℕ) (w : List Step) → Runs u z w → 0 < length w → is_on w u ≡ true
first_on u z [] h some = absurd (omega (arith, some))
first_on u z ((l, r) ∷ w) h some =
    or_left (is_at u (l, r)) (is_on w u) (or_left (l == u) (r == u) (eq-eqb l u (sym h.0)))

last_on : (u z : ℕ) (w : List Step) → Runs u z w → 0 < length w → is_on w z ≡ true
last_on u z [] h some = absurd (omega (arith, some))
last_on u z ((l, r) ∷ []) h some = or_left (is_at z (l, r)) false (or_right (l == z) (r == z) (eq-eqb r z h.1))
last_on u z ((l, r) ∷ s ∷ w) h some =
    or_right (is_at z (l, r)) (is_on (s ∷ w) z) (last_on r z (s ∷ w) h.1 (omega arith))

abbrev pub has_end : Trail → ℕ → Bool
has_end t v = (t.first == v) || (t.last == v)

pub end_on : (t : Trail) (v : ℕ) → has_end t v ≡ true → is_on t.steps v ≡ true
end_on t v h = elim (or_cases (t.first == v) (t.last == v) h) [
  | inl a ↦ subst (λ u. is_on t.steps u ≡ true) (eqb-true t.first v a) (first_on t.first t.last t.steps t.runs t.some)
  | inr b ↦ subst (λ u. is_on t.steps u ≡ true) (eqb-true t.last v b) (last_on t.first t.last t.steps t.runs t.some)
]

pub ends_of : Trail → ℕ → ℕ
ends_of t v = bit (t.first == v) + bit (t.last == v)

pub no_ends : (t : Trail) (v : ℕ) → has_end t v ≡ false → ends_of t v ≡ 0
unfolding ends_of
no_ends t v h =
    let parts : ((t.first == v) ≡ false) × ((t.last == v) ≡ false) = or_parts (t.first == v) (t.last == v) h in
    omega (arith, bit_off (t.first == v) parts.0, bit_off (t.last == v) parts.1)

pub closed_ends : (t : Trail) (v : ℕ) → t.first ≡ t.last → IsEven (ends_of t v)
unfolding ends_of
closed_ends t v e = (
  bit (t.first == v),
  let same : bit (t.first == v) ≡ bit (t.last == v) = ap (λ u. bit (u == v)) e in omega
      (arith, same),
)

open_ends : (t : Trail) (v : ℕ) → is_closed t ≡ false → has_end t v ≡ true → ends_of t v ≡ 1
unfolding ends_of
open_ends t v unclosed h =
    let differ : t.first ≡ t.last → ⊥ = λ e. both_ways (is_closed t) unclosed (eq-eqb t.first t.last e) in
    elim (or_cases (t.first == v) (t.last == v) h) [
      | inl a ↦
          let first : t.first ≡ v = eqb-true t.first v a in
          let not_last : bit (t.last == v) ≡ 0 =
          bit_off (t.last == v) (ne_eqb t.last v (λ e. differ (first ∙ sym e))) in
          omega (arith, bit_on (t.first == v) a, not_last)
      | inr b ↦
          let last : t.last ≡ v = eqb-true t.last v b in
          let not_first : bit (t.first == v) ≡ 0 =
          bit_off (t.first == v) (ne_eqb t.first v (λ e. differ (e ∙ sym last))) in
          omega (arith, bit_on (t.last == v) b, not_first)
    ]

abbrev pub ends : List Trail → ℕ → ℕ
ends [] v = 0
ends (t ∷ ts) v = ends_of t v + ends ts v

pub walk_even : (ts : List Trail) (v : ℕ) → IsEven (degree (walk ts) v + ends ts v)
unfolding ends_of
walk_even [] v = (0, omega arith)
walk_even (t ∷ ts) v =
    let here : IsEven (degree t.steps v + bit (t.first == v) + bit (t.last == v)) =
    runs_even t.first t.last t.steps v t.runs in
    let rest : IsEven (degree (walk ts) v + ends ts v) = walk_even ts v in
    (here.0 + rest.0, omega (arith, here.1, rest.1, degree_append t.steps (walk ts) v))

-- trails that do not meet have no common end
pub no_common : (s t : Trail) (v : ℕ) → meet s t ≡ false → has_end s v ≡ true → has_end t v ≡ true → ⊥
no_common s t v apart a b =
    both_ways (have_end s t) (or_parts (have_end s t) (is_closed s && share s t)
    (or_parts (have_end s t || (is_closed s && share s t)) (is_closed t && share s t) apart).0).0
    (elim (or_cases (s.first == v) (s.last == v) a) [
      | inl sf ↦ elim (or_cases (t.first == v) (t.last == v) b) [
        | inl tf ↦ or_left ((s.first == t.first) || (s.first == t.last) || (s.last == t.first)) (s.last == t.last)
            (or_left ((s.first == t.first) || (s.first == t.last)) (s.last == t.first)
            (or_left (s.first == t.first) (s.first == t.last)
            (eq-eqb s.first t.first (eqb-true s.first v sf ∙ sym (eqb-true t.first v tf)))))
        | inr tl ↦ or_left ((s.first == t.first) || (s.first == t.last) || (s.last == t.first)) (s.last == t.last)
            (or_left ((s.first == t.first) || (s.first == t.last)) (s.last == t.first)
            (or_right (s.first == t.first) (s.first == t.last)
            (eq-eqb s.first t.last (eqb-true s.first v sf ∙ sym (eqb-true t.last v tl)))))
      ]
      | inr sl ↦ elim (or_cases (t.first == v) (t.last == v) b) [
        | inl tf ↦ or_left ((s.first == t.first) || (s.first == t.last) || (s.last == t.first)) (s.last == t.last)
            (or_right ((s.first == t.first) || (s.first == t.last)) (s.last == t.first)
            (eq-eqb s.last t.first (eqb-true s.last v sl ∙ sym (eqb-true t.first v tf))))
        | inr tl ↦ or_right ((s.first == t.first) || (s.first == t.last) || (s.last == t.first)) (s.last == t.last)
            (eq-eqb s.last t.last (eqb-true s.last v sl ∙ sym (eqb-true t.last v tl)))
      ]
    ])

-- and where one of them is closed, no common node
pub no_shared : (s t : Trail) (v : ℕ) → share s t ≡ false → is_on s.steps v ≡ true → is_on t.steps v ≡ true → ⊥
no_shared s t v none a b =
    let f : Some' (λ (x : Step). is_at v x ≡ true) s.steps = test_finds (is_at v) s.steps a in
    both_ways (share s t) none (test_there (λ (x : Step). is_on t.steps x.0 || is_on t.steps x.1) s.steps f.it f.there
    (elim (or_cases (f.it.0 == v) (f.it.1 == v) f.holds) [
      | inl l ↦ or_left (is_on t.steps f.it.0) (is_on t.steps f.it.1) (ap (is_on t.steps) (eqb-true f.it.0 v l) ∙ b)
      | inr r ↦ or_right (is_on t.steps f.it.0) (is_on t.steps f.it.1) (ap (is_on t.steps) (eqb-true f.it.1 v r) ∙ b)
    ]))

pub first_shares : (s t : Trail) → meet s t ≡ false → is_closed s ≡ true → share s t ≡ false
first_shares s t apart closed =
    let part : (is_closed s && share s t) ≡ false =
    (or_parts (have_end s t) (is_closed s && share s t)
    (or_parts (have_end s t || (is_closed s && share s t)) (is_closed t && share s t) apart).0).1 in
    false_from_ne_true (share s t) (λ e. both_ways (is_closed s && share s t) part
    (and_from (is_closed s) (share s t) closed e))

pub second_shares : (s t : Trail) → meet s t ≡ false → is_closed t ≡ true → share s t ≡ false
second_shares s t apart closed =
    let part : (is_closed t && share s t) ≡ false =
    (or_parts (have_end s t || (is_closed s && share s t)) (is_closed t && share s t) apart).1 in
    false_from_ne_true (share s t) (λ e. both_ways (is_closed t && share s t) part
    (and_from (is_closed t) (share s t) closed e))

no_others : (v : ℕ) (ts : List Trail) → ((t : Trail) → Contains ts t → has_end t v ≡ false) → ends ts v ≡ 0
no_others v [] none = refl
no_others v (t ∷ ts) none =
    omega (arith, no_ends t v (none t (contains_here t ts)), no_others v ts (λ s k. none s (contains_there t ts s k)))

abbrev pub Apart : Trail → Trail → Type 0
Apart s t = meet s t ≡ false

-- an end of an open trail is an end once
pub one_end : (ts : List Trail) (t : Trail) (v : ℕ) → AreApart ts → Contains ts t → is_closed t ≡ false
    → has_end t v ≡ true → ends ts v ≡ 1
one_end [] t v apart there unclosed end = absurd (contains_none t there)
one_end (s ∷ ts) t v apart there unclosed end =
    elim (contains_cons s ts t there) [
      | inl same ↦
          let one : ends_of s v ≡ 1 = ap (λ x. ends_of x v) same ∙ open_ends t v unclosed end in
          let mine : has_end s v ≡ true = ap (λ x. has_end x v) same ∙ end in
          let none : ends ts v ≡ 0 =
          no_others v ts (λ r k. false_from_ne_true (has_end r v)
          (λ e. no_common s r v (All-contains (Apart s) ts r (pairs_head Apart s ts apart) k) mine e)) in
          omega (arith, one, none)
      | inr later ↦
          let none : ends_of s v ≡ 0 =
          no_ends s v (false_from_ne_true (has_end s v)
          (λ e. no_common s t v (All-contains (Apart s) ts t (pairs_head Apart s ts apart) later) e end)) in
          omega (arith, none, one_end ts t v (pairs_tail Apart s ts apart) later unclosed end)
    ]

pub sum_even : (v : ℕ) (ts : List Trail) → ((t : Trail) → Contains ts t → IsEven (ends_of t v)) → IsEven (ends ts v)
sum_even v [] h = (0, omega arith)
sum_even v (t ∷ ts) h =
    let here : IsEven (ends_of t v) = h t (contains_here t ts) in
    let rest : IsEven (ends ts v) = sum_even v ts (λ s k. h s (contains_there t ts s k)) in
    (here.0 + rest.0, omega (arith, here.1, rest.1))

pub all_walk : (P : Step → Type 0) (ts : List Trail) → ((t : Trail) → Contains ts t → All P t.steps) → All P (walk ts)
all_walk P [] h = All-nil P
all_walk P (t ∷ ts) h =
    All-append P t.steps (walk ts) (h t (contains_here t ts)) (all_walk P ts (λ s k. h s (contains_there t ts s k)))

-- the labels give both ends of each step one label
abbrev pub AreLabels : (ℕ → ℕ) → List Step → Type 0
AreLabels label w = All (λ (s : Step). label s.0 ≡ label s.1) w

abbrev pub AreChained : List Step → ℕ → ℕ → Type 0
AreChained w u v = (label : ℕ → ℕ) → AreLabels label w → label u ≡ label v
