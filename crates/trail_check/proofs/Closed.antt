-- Trails of which no two meet: the ends of the open ones are odd nodes, and each closed one is a class without odd
-- nodes.
use Rattle.std.proofs.Common.{ℕ, ◌≡◌, ◌≢◌, ◌+◌, ◌*◌, ◌==◌, Bool, true, false, List, [], ◌∷◌, ◌-◌, if◌then◌else◌, length}
use Rattle.std.proofs.Common.{length-append, refl, sym, subst, arith, ◌∙◌, inl, inr, ◌⊎◌, All, AllPairs, Contains}
use Rattle.std.specs.List.{flat_map}
use Rattle.std.proofs.lemmas.Bool.{both_ways, cases_Bool, eq-eqb, eqb-true, false_from_ne_true, or_left, or_right}
use Rattle.std.proofs.lemmas.List.Elements.{All-nil, Contains-append_left, Contains-append_right}
use Rattle.cell_num.proofs.Lists.{all_flat, all_from_contains, all_imply, all_one, all_two, contains_cons}
use Rattle.cell_num.proofs.Lists.{contains_none}
use Rattle.cell_num.proofs.Pairs.{Some', pairs_flat, pairs_none, pairs_one, pairs_two, test_finds, test_there}
use Rattle.trail_check.proofs.Steps.{IsEven, Step, bit, degree, is_at, is_on}
use Rattle.trail_check.proofs.Joins.{Trail, is_closed}
use Rattle.trail_check.proofs.Apart.{AreApart, walk}
use Rattle.trail_check.proofs.Ends.{Apart, AreChained, AreLabels, all_walk, bit_off, bit_on, closed_ends, end_on, ends}
use Rattle.trail_check.proofs.Ends.{ends_of, first_on, first_shares, has_end, no_common, no_ends, no_shared, one_end}
use Rattle.trail_check.proofs.Ends.{pairs_either, second_shares, sum_even, walk_even}

module _ (ts : List Trail) (apart : AreApart ts) where
  -- another trail has no node of a closed one
  others : (t s : Trail) (v : ℕ) → Contains ts t → is_closed t ≡ true → Contains ts s → is_on t.steps v ≡ true → (s ≡ t)
      ⊎ (is_on s.steps v ≡ false)
  others t s v in_t closed in_s on =
      elim (pairs_either Apart ts s t apart in_s in_t) [
        | inl same ↦ inl same
        | inr either ↦ inr (false_from_ne_true (is_on s.steps v) (λ e. elim either [
          | inl s_t ↦ no_shared s t v (second_shares s t s_t closed) e on
          | inr t_s ↦ no_shared t s v (first_shares t s t_s closed) on e
        ]))
      ]

  -- the end of an open trail is odd
  pub odd_end : (t : Trail) (v : ℕ) → Contains ts t → is_closed t ≡ false → has_end t v ≡ true
      → IsEven (degree (walk ts) v + 1)
  odd_end t v there unclosed end =
      let all : IsEven (degree (walk ts) v + ends ts v) = walk_even ts v in
      (all.0, omega (arith, all.1, one_end ts t v apart there unclosed end))

  -- each node of a closed trail is even
  pub even_on : (t : Trail) (v : ℕ) → Contains ts t → is_closed t ≡ true → is_on t.steps v ≡ true
      → IsEven (degree (walk ts) v)
  even_on t v there closed on =
      let each : (s : Trail) → Contains ts s → IsEven (ends_of s v) = λ s k. elim (others t s v there closed k on) [
        | inl same ↦ subst (λ x. IsEven (ends_of x v)) (sym same) (closed_ends t v (eqb-true t.first t.last closed))
        | inr off ↦ (
          0,
          omega (
            arith,
            no_ends s v
                (false_from_ne_true (has_end s v) (λ e. both_ways (is_on s.steps v) off (end_on s v e))),
          ),
        )
      ] in
      let sum : IsEven (ends ts v) = sum_even v ts each in
      let all : IsEven (degree (walk ts) v + ends ts v) = walk_even ts v in
      (all.0 - sum.0, omega (arith, all.1, sum.1))

  -- what is chained with a node of a closed trail is on it
  pub stays_on : (t : Trail) (u v : ℕ) → Contains ts t → is_closed t ≡ true → is_on t.steps u ≡ true
      → AreChained (walk ts) u v → is_on t.steps v ≡ true
  stays_on t u v there closed on chained =
      let label : ℕ → ℕ = λ x. bit (is_on t.steps x) in
      let labels : AreLabels (λ x. bit (is_on t.steps x)) (walk ts) =
      all_walk (λ (s : Step). bit (is_on t.steps s.0) ≡ bit (is_on t.steps s.1)) ts
      (λ s k. all_from_contains (λ (a : Step). bit (is_on t.steps a.0) ≡ bit (is_on t.steps a.1)) s.steps
      (λ a l. alike s a k l)) in
      let same : bit (is_on t.steps u) ≡ bit (is_on t.steps v) = chained (λ x. bit (is_on t.steps x)) labels in
      elim (cases_Bool (is_on t.steps v)) [
        | inl e ↦ e
        | inr off ↦ absurd (omega (arith, same, bit_on (is_on t.steps u) on, bit_off (is_on t.steps v) off))
      ]
    where
      left_on : (s : Trail) (a : Step) → Contains s.steps a → is_on s.steps a.0 ≡ true
      left_on s a l = test_there (is_at a.0) s.steps a l (or_left (a.0 == a.0) (a.1 == a.0) (eq-eqb a.0 a.0 refl))

      right_on : (s : Trail) (a : Step) → Contains s.steps a → is_on s.steps a.1 ≡ true
      right_on s a l = test_there (is_at a.1) s.steps a l (or_right (a.0 == a.1) (a.1 == a.1) (eq-eqb a.1 a.1 refl))

      carried : (s : Trail) (x y : ℕ) → Contains ts s → is_on s.steps x ≡ true → is_on s.steps y ≡ true
          → is_on t.steps x ≡ true → is_on t.steps y ≡ true
      carried s x y k on_x on_y here = elim (others t s x there closed k here) [
        | inl same ↦ subst (λ z. is_on z.steps y ≡ true) same on_y
        | inr off ↦ absurd (both_ways (is_on s.steps x) off on_x)
      ]

      alike : (s : Trail) (a : Step) → Contains ts s → Contains s.steps a
          → bit (is_on t.steps a.0) ≡ bit (is_on t.steps a.1)
      alike s a k l = elim (cases_Bool (is_on t.steps a.0)) [
        | inl e ↦ bit_on (is_on t.steps a.0) e
            ∙ sym (bit_on (is_on t.steps a.1) (carried s a.0 a.1 k (left_on s a l) (right_on s a l) e))
        | inr off ↦ bit_off (is_on t.steps a.0) off
            ∙ sym (bit_off (is_on t.steps a.1)
            (false_from_ne_true (is_on t.steps a.1)
            (λ e. both_ways (is_on t.steps a.0) off (carried s a.1 a.0 k (right_on s a l) (left_on s a l) e))))
      ]

  -- the ends of the open trails
  abbrev pub ends_open : Trail → List ℕ
  ends_open t = if is_closed t then [] else t.first ∷ t.last ∷ []

  abbrev IsEnd : Trail → ℕ → Type 0
  IsEnd t v = (is_closed t ≡ false) × (has_end t v ≡ true)

  ends_are : (t : Trail) → All (IsEnd t) (ends_open t)
  ends_are t = by (is_closed t) refl
    where
      by : (b : Bool) → is_closed t ≡ b → All (IsEnd t) (if b then [] else t.first ∷ t.last ∷ [])
      by true e = All-nil (IsEnd t)
      by false e =
          all_two (IsEnd t) t.first t.last
          (e, or_left (t.first == t.first) (t.last == t.first) (eq-eqb t.first t.first refl))
          (e, or_right (t.first == t.last) (t.last == t.last) (eq-eqb t.last t.last refl))

  two_differ : (t : Trail) → AllPairs (λ (a b : ℕ). a ≢ b) (ends_open t)
  two_differ t = by (is_closed t) refl
    where
      by : (b : Bool) → is_closed t ≡ b → AllPairs (λ (a b : ℕ). a ≢ b) (if b then [] else t.first ∷ t.last ∷ [])
      by true e = pairs_none (λ (a b : ℕ). a ≢ b)
      by false e =
          pairs_two (λ (a b : ℕ). a ≢ b) t.first t.last (λ same. both_ways (is_closed t) e (eq-eqb t.first t.last same))

  all_in : All (Contains ts) ts
  all_in = all_from_contains (Contains ts) ts (λ t k. k)

  pub ends_differ : AllPairs (λ (a b : ℕ). a ≢ b) (flat_map ends_open ts)
  ends_differ =
      pairs_flat Apart (Contains ts) (λ (a b : ℕ). a ≢ b) IsEnd ends_open ts (λ t k. ends_are t) (λ t k. two_differ t)
      (λ s t a b k l parted end_s end_t same. no_common s t a parted end_s.1
      (subst (λ v. has_end t v ≡ true) (sym same) end_t.1)) all_in apart

  pub ends_odd : All (λ (v : ℕ). IsEven (degree (walk ts) v + 1)) (flat_map ends_open ts)
  ends_odd =
      all_flat (Contains ts) (λ (v : ℕ). IsEven (degree (walk ts) v + 1)) ends_open ts
      (λ t k. all_imply (IsEnd t) (λ (v : ℕ). IsEven (degree (walk ts) v + 1)) (ends_open t)
      (λ v end. odd_end t v k end.0 end.1) (ends_are t)) all_in

  -- nodes of one class are chained
  module _ (class : ℕ → ℕ) (chained : (u v : ℕ) → class u ≡ class v → AreChained (walk ts) u v) where
    -- the classes of the closed trails
    abbrev pub classes_closed : Trail → List ℕ
    classes_closed t = if is_closed t then class t.first ∷ [] else []

    record IsClass (t : Trail) (h : ℕ) : Type 0 where
      pub closed : is_closed t ≡ true
      pub is : class t.first ≡ h

    class_is : (t : Trail) → All (IsClass t) (classes_closed t)
    class_is t = by (is_closed t) refl
      where
        by : (b : Bool) → is_closed t ≡ b → All (IsClass t) (if b then class t.first ∷ [] else [])
        by true e = all_one (IsClass t) (class t.first) (record { closed = e; is = refl })
        by false e = All-nil (IsClass t)

    one_class : (t : Trail) → AllPairs (λ (a b : ℕ). a ≢ b) (classes_closed t)
    one_class t = by (is_closed t)
      where
        by : (b : Bool) → AllPairs (λ (a b : ℕ). a ≢ b) (if b then class t.first ∷ [] else [])
        by true = pairs_one (λ (a b : ℕ). a ≢ b) (class t.first)
        by false = pairs_none (λ (a b : ℕ). a ≢ b)

    begins : (t : Trail) → is_on t.steps t.first ≡ true
    begins t = first_on t.first t.last t.steps t.runs t.some

    pub classes_differ : AllPairs (λ (a b : ℕ). a ≢ b) (flat_map classes_closed ts)
    classes_differ =
        pairs_flat Apart (Contains ts) (λ (a b : ℕ). a ≢ b) IsClass classes_closed ts (λ t k. class_is t)
        (λ t k. one_class t)
        (λ s t a b k l parted of_s of_t same. no_shared s t t.first (first_shares s t parted of_s.closed)
        (stays_on s s.first t.first k of_s.closed (begins s)
        (chained s.first t.first (of_s.is ∙ same ∙ sym of_t.is))) (begins t)) all_in apart

    -- in the class of a closed trail each node is even, and there is a step
    pub record IsClosed (h : ℕ) : Type 0 where
      pub node : ℕ
      pub is : class node ≡ h
      pub met : is_on (walk ts) node ≡ true
      pub even : (v : ℕ) → class v ≡ h → IsEven (degree (walk ts) v)

    on_walk : (ss : List Trail) (t : Trail) (v : ℕ) → Contains ss t → is_on t.steps v ≡ true → is_on (walk ss) v ≡ true
    on_walk ss t v k on =
        let f : Some' (λ (x : Step). is_at v x ≡ true) t.steps = test_finds (is_at v) t.steps on in
        test_there (is_at v) (walk ss) f.it (step_there ss t f.it k f.there) f.holds
      where
        step_there : (ss : List Trail) (t : Trail) (a : Step) → Contains ss t → Contains t.steps a
            → Contains (walk ss) a
        step_there [] t a k l = absurd (contains_none t k)
        step_there (s ∷ ss) t a k l = elim (contains_cons s ss t k) [
          | inl same ↦ Contains-append_left s.steps (walk ss) a (subst (λ x. Contains x.steps a) (sym same) l)
          | inr later ↦ Contains-append_right s.steps (walk ss) a (step_there ss t a later l)
        ]

    pub classes_closed_are : All IsClosed (flat_map classes_closed ts)
    classes_closed_are =
        all_flat (Contains ts) IsClosed classes_closed ts
        (λ t k. all_imply (IsClass t) IsClosed (classes_closed t) (λ h of. record {
          node = t.first;
          is = of.is;
          met = on_walk ts t t.first k (begins t);
          even =
              λ v e. even_on t v k of.closed (stays_on t t.first v k of.closed (begins t)
              (chained t.first v (of.is ∙ sym e)));
        }) (class_is t)) all_in

    -- each trail has two ends or one class
    pub two_each : (ss : List Trail) → length (flat_map ends_open ss) + 2 * length
        (flat_map classes_closed ss) ≡ 2 * length ss
    two_each [] = omega arith
    two_each (t ∷ ss) =
        let here : length (ends_open t) + 2 * length (classes_closed t) ≡ 2 = by (is_closed t) in
        omega (
          arith,
          here,
          two_each ss,
          length-append (ends_open t) (flat_map ends_open ss),
          length-append
              (classes_closed t) (flat_map classes_closed ss),
        )
      where
        by : (b : Bool) → length (if b then [] else t.first ∷ t.last ∷ []) + 2 * length
            (if b then class t.first ∷ [] else []) ≡ 2
        by true = omega arith
        by false = omega arith
