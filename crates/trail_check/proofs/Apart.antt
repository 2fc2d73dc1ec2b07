-- Any edges are those of some trails of which no two meet.
use Rattle.std.proofs.Common.{ℕ, zero, suc, ◌≡◌, ◌≤◌, Bool, true, false, List, [], ◌∷◌, ◌++◌, append_assoc}
use Rattle.std.proofs.Common.{length, length-append, refl, sym, ap, subst, arith, ◌∙◌, inl, inr, AllPairs}
use Rattle.std.proofs.Common.{IsPermutation}
use Rattle.std.specs.List.{list_any}
use Rattle.std.proofs.lemmas.Bool.{cases_Bool, or_cases}
use Rattle.std.proofs.lemmas.List.Kept.{AllPairs-cons}
use Rattle.std.proofs.lemmas.List.Sorted.{IsPermutation-append_comm, IsPermutation-append_left}
use Rattle.std.proofs.lemmas.List.Sorted.{IsPermutation-append_right, IsPermutation-refl}
use Rattle.std.proofs.lemmas.List.Sorted.{IsPermutation-trans}
use Rattle.cell_num.proofs.Lists.{all_from_contains}
use Rattle.cell_num.proofs.Pairs.{pairs_none, pairs_without, test_fails}
use Rattle.trail_check.proofs.Steps.{Step, edges, edges_append}
use Rattle.trail_check.proofs.Joins.{Joined, Trail, edges_in, join, meet}

-- no trail meets a later one
abbrev pub AreApart : List Trail → Type 0
AreApart ts = AllPairs (λ (s t : Trail). meet s t ≡ false) ts

-- all steps of the trails
abbrev pub walk : List Trail → List Step
walk [] = []
walk (t ∷ ts) = t.steps ++ walk ts

-- the first element that passes, with those around it
record At {X : Type 0} (p : X → Bool) (xs : List X) : Type 0 where
  pub before : List X
  pub it : X
  pub after : List X
  pub is : xs ≡ before ++ it ∷ after
  pub passes : p it ≡ true

at : {X : Type 0} (p : X → Bool) (xs : List X) → list_any p xs ≡ true → At p xs
at p [] h = absurd cc
at {X} p (x ∷ xs) h = elim (or_cases (p x) (list_any p xs) h) [
  | inl here ↦ record { before = []; it = x; after = xs; is = refl; passes = here }
  | inr later ↦ more (at p xs later)
]
  where
    more : At p xs → At p (x ∷ xs)
    more a = record { before = x ∷ a.before; it = a.it; after = a.after; is = ap (λ l. x ∷ l) a.is; passes = a.passes }

walk_append : (ss ts : List Trail) → walk (ss ++ ts) ≡ walk ss ++ walk ts
walk_append [] ts = refl
walk_append (s ∷ ss) ts = ap (λ w. s.steps ++ w) (walk_append ss ts) ∙ sym (append_assoc s.steps (walk ss) (walk ts))

module _ {X : Type 0} (edge : ℕ → ℕ → X) (alike : (l r : ℕ) → edge l r ≡ edge r l) where
  abbrev all : List Trail → List X
  all ts = edges edge alike (walk ts)

  all_cons : (t : Trail) (ts : List Trail) → all (t ∷ ts) ≡ edges_in edge alike t ++ all ts
  all_cons t ts = edges_append edge alike t.steps (walk ts)

  all_append : (ss ts : List Trail) → all (ss ++ ts) ≡ all ss ++ all ts
  all_append ss ts = ap (edges edge alike) (walk_append ss ts) ∙ edges_append edge alike (walk ss) (walk ts)

  -- the trail in the middle first
  to_front : (ss : List Trail) (t : Trail) (ts : List Trail) → IsPermutation (all (ss ++ t ∷ ts))
      (edges_in edge alike t ++ all (ss ++ ts))
  to_front ss t ts =
      let a : List X = all ss in
      let e : List X = edges_in edge alike t in
      let b : List X = all ts in
      let left : all (ss ++ t ∷ ts) ≡ (a ++ e) ++ b =
      all_append ss (t ∷ ts) ∙ ap (λ w. a ++ w) (all_cons t ts) ∙ sym (append_assoc a e b) in
      let right : e ++ all (ss ++ ts) ≡ (e ++ a) ++ b =
      ap (λ w. e ++ w) (all_append ss ts) ∙ sym (append_assoc e a b) in
      subst (λ l. IsPermutation l (e ++ all (ss ++ ts))) (sym left)
      (subst (IsPermutation ((a ++ e) ++ b)) (sym right)
      (IsPermutation-append_left b (a ++ e) (e ++ a) (IsPermutation-append_comm a e)))

  -- trails with these edges
  pub record Settled (es : List X) : Type 0 where
    pub trails : List Trail
    pub apart : AreApart trails
    pub same : IsPermutation es (edges edge alike (walk trails))

  -- a trail that meets none
  alone : (ts : List Trail) (t : Trail) → list_any (meet t) ts ≡ false → AreApart ts
      → Settled (edges_in edge alike t ++ all ts)
  alone ts t none apart = record {
    trails = t ∷ ts;
    apart =
        AllPairs-cons (λ (a b : Trail). meet a b ≡ false) t ts
        (all_from_contains (λ (b : Trail). meet t b ≡ false) ts (λ b k. test_fails (meet t) ts b none k)) apart;
    same =
        subst (IsPermutation (edges_in edge alike t ++ all ts)) (sym (all_cons t ts))
        (IsPermutation-refl (edges_in edge alike t ++ all ts));
  }

  -- a trail that meets one, where the two as one are settled among the others
  met : (ts : List Trail) (t : Trail) (a : At (meet t) ts)
      → ((j : Trail) → Settled (edges_in edge alike j ++ all (a.before ++ a.after)))
      → Settled (edges_in edge alike t ++ all ts)
  met ts t a among =
      let j : Joined edge alike t a.it = join edge alike t a.it a.passes in
      let rest : List Trail = a.before ++ a.after in
      let inner : Settled (edges_in edge alike j.it ++ all rest) = among j.it in
      let e : List X = edges_in edge alike t in
      let x : List X = edges_in edge alike a.it in
      let front : IsPermutation (all ts) (x ++ all rest) =
      subst (λ l. IsPermutation (all l) (x ++ all rest)) (sym a.is) (to_front a.before a.it a.after) in
      let first : IsPermutation (e ++ all ts) ((e ++ x) ++ all rest) =
      subst (IsPermutation (e ++ all ts)) (sym (append_assoc e x (all rest)))
      (IsPermutation-append_right e (all ts) (x ++ all rest) front) in
      let both : IsPermutation ((e ++ x) ++ all rest) (edges_in edge alike j.it ++ all rest) =
      IsPermutation-append_left (all rest) (e ++ x) (edges_in edge alike j.it) j.same in
      record {
        trails = inner.trails;
        apart = inner.apart;
        same = IsPermutation-trans (e ++ all ts) ((e ++ x) ++ all rest) (edges edge alike (walk inner.trails)) first
            (IsPermutation-trans ((e ++ x) ++ all rest) (edges_in edge alike j.it ++ all rest)
            (edges edge alike (walk inner.trails)) both inner.same);
      }

  shorter : (ts : List Trail) (t : Trail) (a : At (meet t) ts) → length ts ≡ suc (length (a.before ++ a.after))
  shorter ts t a =
      omega (arith, ap length a.is, length-append a.before (a.it ∷ a.after), length-append a.before a.after)

  -- a trail more, joined to each one that it meets
  insert : (n : ℕ) (ts : List Trail) (t : Trail) → length ts ≤ n → AreApart ts
      → Settled (edges_in edge alike t ++ all ts)
  insert zero ts t few apart =
      elim (cases_Bool (list_any (meet t) ts)) [
        | inl some ↦ absurd (omega (arith, few, shorter ts t (at (meet t) ts some)))
        | inr none ↦ alone ts t none apart
      ]
  insert (suc n) ts t few apart =
      elim (cases_Bool (list_any (meet t) ts)) [
        | inl some ↦
            let a : At (meet t) ts = at (meet t) ts some in
            met ts t a (λ j. insert n (a.before ++ a.after) j (omega (arith, few, shorter ts t a))
            (pairs_without (λ (s r : Trail). meet s r ≡ false) a.before a.it a.after (subst AreApart a.is apart)))
        | inr none ↦ alone ts t none apart
      ]

  abbrev single : Step → Trail
  single s = record { first = s.0; last = s.1; steps = s ∷ []; runs = (refl, refl); some = omega arith }

  pub settle : (w : List Step) → Settled (edges edge alike w)
  settle [] = record {
    trails = [];
    apart = pairs_none (λ (s t : Trail). meet s t ≡ false);
    same = IsPermutation-refl [];
  }
  settle (s ∷ w) =
      let rest : Settled (edges edge alike w) = settle w in
      let e : X = edge s.0 s.1 in
      let more : Settled (e ∷ all rest.trails) =
      insert (length rest.trails) rest.trails (single s) (omega arith) rest.apart in
      record {
        trails = more.trails;
        apart = more.apart;
        same =
            IsPermutation-trans (e ∷ edges edge alike w) (e ∷ all rest.trails) (edges edge alike (walk more.trails))
            (IsPermutation-append_right (e ∷ []) (edges edge alike w) (all rest.trails) rest.same) more.same;
      }
