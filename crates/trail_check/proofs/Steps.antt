-- Walks as lists of steps from node to node, and the edges that they pass.
use Rattle.std.proofs.Common.{ℕ, ◌≡◌, ◌+◌, ◌*◌, ◌==◌, ◌||◌, Bool, true, false, cond, List, [], ◌∷◌, ◌++◌}
use Rattle.std.proofs.Common.{refl, sym, ap, subst, arith, ◌∙◌, inl, inr, IsPermutation}
use Rattle.std.specs.List.{list_any}
use Rattle.std.proofs.lemmas.Bool.{both_ways, eqb-true, or_cases}
use Rattle.std.proofs.lemmas.List.Sorted.{IsPermutation-cons, IsPermutation-refl, IsPermutation-sym}
use Rattle.std.proofs.lemmas.List.Sorted.{IsPermutation-to_front, IsPermutation-trans}

-- from a node to a node
abbrev pub Step : Type 0
Step = ℕ × ℕ

-- each step begins where the one before it ends: from u to z
abbrev pub Runs : ℕ → ℕ → List Step → Type 0
Runs u z [] = u ≡ z
Runs u z ((l, r) ∷ w) = (u ≡ l) × Runs r z w

pub runs_append : (u v z : ℕ) (w x : List Step) → Runs u v w → Runs v z x → Runs u z (w ++ x)
runs_append u v z [] x h k = subst (λ a. Runs a z x) (sym h) k
runs_append u v z ((l, r) ∷ w) x h k = (h.0, runs_append r v z w x h.1 k)

-- the same edges, from the last one to the first
abbrev pub turned : List Step → List Step
turned [] = []
turned ((l, r) ∷ w) = turned w ++ (r, l) ∷ []

pub runs_turned : (u z : ℕ) (w : List Step) → Runs u z w → Runs z u (turned w)
runs_turned u z [] h = sym h
runs_turned u z ((l, r) ∷ w) h = runs_append z r u (turned w) ((r, l) ∷ []) (runs_turned r z w h.1) (refl, sym h.0)

abbrev pub is_at : ℕ → Step → Bool
is_at v s = (s.0 == v) || (s.1 == v)

abbrev pub is_on : List Step → ℕ → Bool
is_on w v = list_any (is_at v) w

-- two parts of a walk, before a node and after it
pub record Cut (u z v : ℕ) (w : List Step) : Type 0 where
  pub before : List Step
  pub after : List Step
  pub is : w ≡ before ++ after
  pub to : Runs u v before
  pub from : Runs v z after

pub cut_at : (v u z : ℕ) (w : List Step) → Runs u z w → is_on w v ≡ true → Cut u z v w
cut_at v u z [] h on = absurd (both_ways false refl on)
cut_at v u z ((l, r) ∷ w) h on =
    elim (or_cases (is_at v (l, r)) (is_on w v) on) [
      | inl here ↦ elim (or_cases (l == v) (r == v) here) [
        | inl at_l ↦ let same : l ≡ v =
            eqb-true l v at_l in record {
              before = [];
              after = (l, r) ∷ w;
              is = refl;
              to = h.0
                  ∙ same;
              from = (sym same, h.1);
            }
        | inr at_r ↦ let same : r ≡ v =
            eqb-true r v at_r in record {
              before = (l, r) ∷ [];
              after = w;
              is = refl;
              to = (h.0, same);
              from = subst
                  (λ a. Runs a z w) same h.1;
            }
      ]
      | inr later ↦
          let rest : Cut r z v w = cut_at v r z w h.1 later in
          record {
            before = (l, r) ∷ rest.before;
            after = rest.after;
            is = ap (λ x. (l, r) ∷ x) rest.is;
            to =
                (h.0, rest.to);
            from = rest.from;
          }
    ]

-- how many ends of steps meet the node
abbrev pub bit : Bool → ℕ
bit b = cond b 1 0

abbrev pub ends_at : ℕ → Step → ℕ
ends_at v s = bit (s.0 == v) + bit (s.1 == v)

abbrev pub degree : List Step → ℕ → ℕ
degree [] v = 0
degree (s ∷ w) v = ends_at v s + degree w v

pub degree_append : (w x : List Step) (v : ℕ) → degree (w ++ x) v ≡ degree w v + degree x v
degree_append [] x v = omega arith
degree_append (s ∷ w) x v = omega (arith, degree_append w x v)

abbrev pub IsEven : ℕ → Type 0
IsEven n = (m : ℕ) × (n ≡ 2 * m)

-- a walk meets each node an even number of times, but for its two ends
pub runs_even : (u z : ℕ) (w : List Step) (v : ℕ) → Runs u z w → IsEven (degree w v + bit (u == v) + bit (z == v))
runs_even u z [] v h =
    (bit (u == v), let same : bit (u == v) ≡ bit (z == v) = ap (λ a. bit (a == v)) h in omega (arith, same))
runs_even u z ((l, r) ∷ w) v h =
    let rest : IsEven (degree w v + bit (r == v) + bit (z == v)) = runs_even r z w v h.1 in
    let same : bit (u == v) ≡ bit (l == v) = ap (λ a. bit (a == v)) h.0 in
    (rest.0 + bit (u == v), omega (arith, rest.1, same))

-- an edge between two nodes, whichever is first
module _ {X : Type 0} (edge : ℕ → ℕ → X) (alike : (l r : ℕ) → edge l r ≡ edge r l) where
  abbrev pub edges : List Step → List X
  edges [] = []
  edges ((l, r) ∷ w) = edge l r ∷ edges w

  pub edges_append : (w x : List Step) → edges (w ++ x) ≡ edges w ++ edges x
  edges_append [] x = refl
  edges_append ((l, r) ∷ w) x = ap (λ es. edge l r ∷ es) (edges_append w x)

  pub edges_turned : (w : List Step) → IsPermutation (edges w) (edges (turned w))
  edges_turned [] = IsPermutation-refl []
  edges_turned ((l, r) ∷ w) =
      let back : edges (turned w ++ (r, l) ∷ []) ≡ edges (turned w) ++ edge l r ∷ [] =
      edges_append (turned w) ((r, l) ∷ []) ∙ ap (λ e. edges (turned w) ++ e ∷ []) (alike r l) in
      subst (IsPermutation (edge l r ∷ edges w)) (sym back)
      (IsPermutation-trans (edge l r ∷ edges w) (edge l r ∷ edges (turned w)) (edges (turned w) ++ edge l r ∷ [])
      (IsPermutation-cons (edge l r) (edges w) (edges (turned w)) (edges_turned w))
      (IsPermutation-sym (edges (turned w) ++ edge l r ∷ []) (edge l r ∷ edges (turned w))
      (IsPermutation-to_front (edges (turned w)) (edge l r))))
