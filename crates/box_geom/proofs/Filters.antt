-- What a filter keeps.
use Rattle.std.proofs.Common.{◌≡◌, List, [], ◌∷◌, Bool, true, false, cond, inl, inr, refl, sym, subst, true≢false, ◌∙◌, ap}
use Rattle.std.specs.List.{Contains, filter}
use Rattle.cell_num.proofs.Lists.{contains_none, contains_cons, contains_here, contains_there}

pub contains_filter : {X : Type 0} (p : X → Bool) (xs : List X) (x : X) → Contains xs x → p x ≡ true → Contains (filter p xs) x
contains_filter p [] x c e = c
contains_filter {X} p (z ∷ zs) x c e = step (p z) refl (λ d. contains_filter p zs x d e)
  where
    step : (b : Bool) → p z ≡ b → (Contains zs x → Contains (filter p zs) x) → Contains (cond b (z ∷ filter p zs) (filter p zs)) x
    step true q rest = elim (contains_cons z zs x c) [ inl same ↦ subst (Contains (z ∷ filter p zs)) same (contains_here z (filter p zs)) | inr d ↦ contains_there z (filter p zs) x (rest d) ]
    step false q rest = elim (contains_cons z zs x c) [ inl same ↦ absurd (true≢false (sym (ap p same ∙ e) ∙ q)) | inr d ↦ rest d ]

-- an element that a filter keeps
pub record IsKept {X : Type 0} (p : X → Bool) (xs : List X) (x : X) : Type 0 where
  pub listed : Contains xs x
  pub passes : p x ≡ true

pub in_filter : {X : Type 0} (p : X → Bool) (xs : List X) (x : X) → Contains (filter p xs) x → IsKept p xs x
in_filter p [] x c = absurd (contains_none x c)
in_filter {X} p (z ∷ zs) x c = step (p z) refl (λ d. in_filter p zs x d) c
  where
    step : (b : Bool) → p z ≡ b → (Contains (filter p zs) x → IsKept p zs x) → Contains (cond b (z ∷ filter p zs) (filter p zs)) x → IsKept p (z ∷ zs) x
    step true q rest d = elim (contains_cons z (filter p zs) x d) [ inl same ↦ record { listed = subst (Contains (z ∷ zs)) same (contains_here z zs); passes = ap p (sym same) ∙ q } | inr k ↦ (let r = rest k in record { listed = contains_there z zs x r.listed; passes = r.passes }) ]
    step false q rest d = let r = rest d in record { listed = contains_there z zs x r.listed; passes = r.passes }
