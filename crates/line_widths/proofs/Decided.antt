-- What can be decided: a fact holds or does not.
use Rattle.std.proofs.Common.{ℕ, ◌≡◌, ◌<◌, ◌⊎◌, List, [], ◌∷◌, inl, inr, subst, sym, arith, Contains}
use Rattle.std.proofs.lemmas.Bool.{cases_eq, cases_lt}
use Rattle.cell_num.proofs.Lists.{contains_none, contains_cons, contains_here, contains_there}
use Rattle.cell_num.proofs.Pairs.{Some'}

abbrev pub Decided : Type 0 → Type 0
Decided A = A ⊎ (A → ⊥)

pub both : {A B : Type 0} → Decided A → Decided B → Decided (A × B)
both (inl a) (inl b) = inl (a, b)
both (inl a) (inr other) = inr (λ h. other h.1)
both (inr other) b = inr (λ h. other h.0)

pub either : {A B : Type 0} → Decided A → Decided B → Decided (A ⊎ B)
either (inl a) b = inl (inl a)
either (inr other) (inl b) = inl (inr b)
either {A} {B} (inr a) (inr b) = inr neither
  where
    neither : A ⊎ B → ⊥
    neither (inl h) = a h
    neither (inr h) = b h

pub none_of : {A : Type 0} → Decided A → Decided (A → ⊥)
none_of (inl a) = inr (λ h. h a)
none_of (inr other) = inl other

pub same : (m n : ℕ) → Decided (m ≡ n)
same m n = elim (cases_eq m n) [ inl e ↦ inl e | inr other ↦ inr (λ e. other e) ]

pub less : (m n : ℕ) → Decided (m < n)
less m n = elim (cases_lt m n) [ inl h ↦ inl h | inr high ↦ inr (λ h. omega (arith, h, high)) ]

-- some element of a list has the property
pub one_of : {X : Type 0} (P : X → Type 0) → ((x : X) → Decided (P x)) → (xs : List X) → Decided (Some' P xs)
one_of P each [] = inr (λ s. contains_none s.it s.there)
one_of {X} P each (x ∷ xs) = go (each x) (one_of P each xs)
  where
    go : Decided (P x) → Decided (Some' P xs) → Decided (Some' P (x ∷ xs))
    go (inl here) rest = inl (record { it = x; there = contains_here x xs; holds = here })
    go (inr other) (inl s) = inl (record { it = s.it; there = contains_there x xs s.it s.there; holds = s.holds })
    go (inr other) (inr none) = inr (λ s. at s.it s.holds (contains_cons x xs s.it s.there))
      where
        at : (y : X) → P y → (x ≡ y) ⊎ Contains xs y → ⊥
        at y holds (inl e) = other (subst P (sym e) holds)
        at y holds (inr there) = none (record { it = y; there = there; holds = holds })
