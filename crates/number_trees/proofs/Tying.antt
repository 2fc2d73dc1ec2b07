-- Numbers of one tie come into one tree.
use Rattle.std.proofs.Common.{◌≡◌, ℕ, ◌+◌, ◌<◌, ◌≤◌, ◌==◌, true, false, Option, Some, None, List, length, get_or, arith, refl, sym, subst, ap, ◌∙◌, inl, inr}
use Rattle.std.proofs.lemmas.List.{get_or_past}
use Rattle.std.proofs.lemmas.Bool.{cases_eq, cases_lt, eq-eqb, ne_eqb}
use Rattle.number_trees.proofs.Chains.{none, one, joined}
use Rattle.number_trees.specs.Classes.{AreKin, InTree, AreLow, IsJoined, AreSound, AreTrees, Keeps, IsTried}
use Rattle.number_trees.specs.Ties.{is_one_tie, HaveOneTie, InTreeOrTied}
use Rattle.number_trees.proofs.Classing.{GoesBack}
use Rattle.number_trees.proofs.Forests.{joining_is, tree_back, up_tree}

pub eq_of_eqb : (a b : ℕ) → (a == b) ≡ true → a ≡ b
eq_of_eqb a b e = elim (cases_eq a b) [ inl same ↦ same | inr ne ↦ absurd (let f : (a == b) ≡ false = ne_eqb a b ne in cc (sym f ∙ e)) ]

-- ---- one tie
pub record OneTie (a b : Option ℕ) : Type 0 where
  pub tie : ℕ
  pub first : a ≡ Some tie
  pub other : b ≡ Some tie

pub one_tie : (a b : Option ℕ) → is_one_tie a b ≡ true → OneTie a b
one_tie (Some a) (Some b) e = record { tie = a; first = refl; other = ap (λ z. Some z) (sym (eq_of_eqb a b e)) }
one_tie (Some a) None e = absurd (cc e)
one_tie None (Some b) e = absurd (cc e)
one_tie None None e = absurd (cc e)

pub of_one_tie : (t : ℕ) (a b : Option ℕ) → a ≡ Some t → b ≡ Some t → is_one_tie a b ≡ true
of_one_tie t a b e f = rw (e, f) (eq-eqb t t refl)

abbrev tie_at : List (Option ℕ) → ℕ → Option ℕ
tie_at ties i = get_or ties i None

pub one_back : (ties : List (Option ℕ)) (i j : ℕ) → HaveOneTie ties i j → HaveOneTie ties j i
one_back ties i j h = let o = one_tie (tie_at ties i) (tie_at ties j) h.is in record { is = of_one_tie o.tie (tie_at ties j) (tie_at ties i) o.other o.first }

some_same : (a b : ℕ) (o : Option ℕ) → o ≡ Some a → o ≡ Some b → a ≡ b
some_same a b o e f = cc

one_both : (ties : List (Option ℕ)) (i j k : ℕ) → HaveOneTie ties i j → HaveOneTie ties i k → HaveOneTie ties j k
one_both ties i j k h g =
    let o = one_tie (tie_at ties i) (tie_at ties j) h.is in
    let p = one_tie (tie_at ties i) (tie_at ties k) g.is in
    let same : p.tie ≡ o.tie = some_same p.tie o.tie (tie_at ties i) p.first o.first in
    record { is = of_one_tie o.tie (tie_at ties j) (tie_at ties k) o.other (subst (λ t. tie_at ties k ≡ Some t) same p.other) }

none_past : (ties : List (Option ℕ)) (i t : ℕ) → tie_at ties i ≡ Some t → length ties ≤ i → ⊥
none_past ties i t e past = let p : tie_at ties i ≡ None = get_or_past ties i None past in absurd cc

tie_below : (ties : List (Option ℕ)) (i t : ℕ) → tie_at ties i ≡ Some t → i < length ties
tie_below ties i t e = elim (cases_lt i (length ties)) [ inl l ↦ l | inr past ↦ absurd (none_past ties i t e past) ]

pub one_below : (ties : List (Option ℕ)) (i j : ℕ) → HaveOneTie ties i j → (i < length ties) × (j < length ties)
one_below ties i j h = let o = one_tie (tie_at ties i) (tie_at ties j) h.is in (tie_below ties i o.tie o.first, tie_below ties j o.tie o.other)

-- ---- an earlier number of the tie
pub none_before : (ties : List (Option ℕ)) (at : ℕ) (k : ℕ) → k < 0 → HaveOneTie ties at k → ⊥
none_before ties at k l h = absurd (omega (arith, l))

pub more_before : (ties : List (Option ℕ)) (at n : ℕ) → ((k : ℕ) → k < n → HaveOneTie ties at k → ⊥) → is_one_tie (tie_at ties at) (tie_at ties n) ≡ false → (k : ℕ) → k < n + 1 → HaveOneTie ties at k → ⊥
more_before ties at n was out k l h = elim (cases_eq k n) [
  | inl e ↦ (let t : is_one_tie (tie_at ties at) (tie_at ties n) ≡ true = subst (λ z. is_one_tie (tie_at ties at) (tie_at ties z) ≡ true) e h.is in absurd (cc (sym out ∙ t)))
  | inr ne ↦ was k (omega (arith, l, ne)) h
]

pub all_before : (ties : List (Option ℕ)) (at n : ℕ) → at ≤ n → ((k : ℕ) → k < n → HaveOneTie ties at k → ⊥) → (k : ℕ) → k < at → HaveOneTie ties at k → ⊥
all_before ties at n all was k l h = was k (omega (arith, all, l)) h

-- ---- all numbers below one are in the trees of their ties
pub record AreUnited (n : ℕ) (old : List ℕ) (ties : List (Option ℕ)) (k : ℕ) (now : List ℕ) : Type 0 where
  pub sound : AreSound n (InTreeOrTied old ties) now
  pub keeps : Keeps old now
  pub joined : (i j : ℕ) → i < k → j < k → HaveOneTie ties i j → InTree now i j

united_back : (old : List ℕ) (ties : List (Option ℕ)) → GoesBack (InTreeOrTied old ties)
united_back old ties i j (inl t) = inl (tree_back old i j t)
united_back old ties i j (inr h) = inr (one_back ties i j h)

pub none_united : (old : List ℕ) (ties : List (Option ℕ)) → AreLow old → AreUnited (length old) old ties 0 old
none_united old ties lows = record {
  sound = record {
    count = refl;
    low = lows.low;
    reach = λ i l. one (InTreeOrTied old ties) i (get_or old i 0) (inl (up_tree old i i l (none (AreKin old) i i refl)));
  };
  keeps = record { kept = λ i j t. t };
  joined = λ i j l m h. absurd (omega (arith, l));
}

pub more_united : (n : ℕ) (old now made : List ℕ) (ties : List (Option ℕ)) (at k : ℕ) → at < n → k < at → HaveOneTie ties at k → AreUnited n old ties at now → IsJoined at k now made → AreUnited n old ties (at + 1) made
more_united n old now made ties at k la lk tied was q = record {
  sound = t.sound;
  keeps = record { kept = λ i j o. t.keeps.kept i j (was.keeps.kept i j o) };
  joined = all;
}
  where
    R : ℕ → ℕ → Type 0
    R = InTreeOrTied old ties

    t : IsTried n (InTreeOrTied old ties) (InTreeOrTied old ties) at k now made
    t = joining_is n (InTreeOrTied old ties) (InTreeOrTied old ties) (united_back old ties) at k now made la (omega (arith, la, lk)) (inr tied) was.sound q

    here : (j : ℕ) → j < at → HaveOneTie ties at j → InTree made at j
    here j l h = joined (AreKin made) at k j (t.joined (inr tied)) (t.keeps.kept k j (was.joined k j lk l (one_both ties at k j tied h)))

    all : (i j : ℕ) → i < at + 1 → j < at + 1 → HaveOneTie ties i j → InTree made i j
    all i j l m h = elim (cases_eq i at) [
      | inl e ↦ elim (cases_eq j at) [
        | inl f ↦ none (AreKin made) i j (e ∙ sym f)
        | inr nf ↦ subst (λ z. InTree made z j) (sym e) (here j (omega (arith, m, nf)) (subst (λ z. HaveOneTie ties z j) e h))
      ]
      | inr ne ↦ elim (cases_eq j at) [
        | inl f ↦ subst (λ z. InTree made i z) (sym f) (tree_back made at i (here i (omega (arith, l, ne)) (one_back ties i at (subst (λ z. HaveOneTie ties i z) f h))))
        | inr nf ↦ t.keeps.kept i j (was.joined i j (omega (arith, l, ne)) (omega (arith, m, nf)) h)
      ]
    ]

-- a number that no earlier one is tied to
pub first_united : (n : ℕ) (old now : List ℕ) (ties : List (Option ℕ)) (at : ℕ) → ((k : ℕ) → k < at → HaveOneTie ties at k → ⊥) → AreUnited n old ties at now → AreUnited n old ties (at + 1) now
first_united n old now ties at alone was = record {
  sound = was.sound;
  keeps = was.keeps;
  joined = λ i j l m h. elim (cases_eq i at) [
    | inl e ↦ elim (cases_eq j at) [
      | inl f ↦ none (AreKin now) i j (e ∙ sym f)
      | inr nf ↦ absurd (alone j (omega (arith, m, nf)) (subst (λ z. HaveOneTie ties z j) e h))
    ]
    | inr ne ↦ elim (cases_eq j at) [
      | inl f ↦ absurd (alone i (omega (arith, l, ne)) (one_back ties i at (subst (λ z. HaveOneTie ties i z) f h)))
      | inr nf ↦ was.joined i j (omega (arith, l, ne)) (omega (arith, m, nf)) h
    ]
  ];
}

pub united_trees : (n : ℕ) (old now : List ℕ) (ties : List (Option ℕ)) (k : ℕ) → length ties ≤ k → AreUnited n old ties k now → AreTrees n (InTreeOrTied old ties) now
united_trees n old now ties k all is = record { sound = is.sound; joined = each }
  where
    each : (i j : ℕ) → InTreeOrTied old ties i j → InTree now i j
    each i j (inl t) = is.keeps.kept i j t
    each i j (inr h) = let b = one_below ties i j h in let l = b.0 in let m = b.1 in is.joined i j (omega (arith, all, l)) (omega (arith, all, m)) h
