-- What the place of the first element that passes says.
use Rattle.std.proofs.Common.{ℕ, ◌≡◌, ◌<◌, ◌≤◌, Bool, cond, List, length, sym, ap, ◌∙◌, inl, inr}
use Rattle.std.specs.Prelude.{nat_lt, Option, Some, None, position}
use Rattle.std.specs.List.{position_or_len}
use Rattle.std.proofs.lemmas.Bool.{cases_Bool, ltb-true, ltb-false}

some_is : (x y : ℕ) → ◌≡◌ {A = Option ℕ} (Some x) (Some y) → x ≡ y
some_is x y e = cc

not_both : (y : ℕ) → ◌≡◌ {A = Option ℕ} (Some y) None → ⊥
not_both y e = absurd cc

pub found : {X : Type 0} (p : X → Bool) (xs : List X) (i : ℕ) → position p xs ≡ Some i → (position_or_len p xs < length xs) × (position_or_len p xs ≡ i)
found p xs i e = elim (cases_Bool (nat_lt (position_or_len p xs) (length xs))) [
  | inl lt ↦ (ltb-true (position_or_len p xs) (length xs) lt, some_is (position_or_len p xs) i (sym (ap (λ (b : Bool). cond b (Some (position_or_len p xs)) None) lt) ∙ e))
  | inr ge ↦ absurd (not_both i (sym e ∙ ap (λ (b : Bool). cond b (Some (position_or_len p xs)) None) ge))
]

pub missing : {X : Type 0} (p : X → Bool) (xs : List X) → position p xs ≡ None → length xs ≤ position_or_len p xs
missing p xs e = elim (cases_Bool (nat_lt (position_or_len p xs) (length xs))) [
  | inl lt ↦ absurd (not_both (position_or_len p xs) (sym (ap (λ (b : Bool). cond b (Some (position_or_len p xs)) None) lt) ∙ e))
  | inr ge ↦ ltb-false (position_or_len p xs) (length xs) ge
]
