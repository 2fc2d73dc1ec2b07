-- What a loop over a list shows, and what a Bool answers.
use Rattle.std.proofs.Common.{ℕ, ◌≡◌, ◌+◌, ◌<◌, ◌≤◌, ◌↔◌, Bool, true, false, List, length, get_or, take, take_all, refl, sym, subst, All, Any}
use Rattle.std.specs.Prelude.{IsTrue}
use Rattle.std.proofs.lemmas.Bool.{both_ways}
use Rattle.std.proofs.lemmas.List.Elements.{All-contains, All-get_or, All-more}
use Rattle.cell_num.proofs.Pairs.{Some', some_from_any}

pub yes_from : {P : Type 0} → P → IsTrue true ↔ P
yes_from h = ((λ _. h), (λ _. refl))

pub no_from : {P : Type 0} → (P → ⊥) → IsTrue false ↔ P
no_from none = ((λ e. absurd (both_ways false refl e)), (λ h. absurd (none h)))

-- an item of the list, as the loop names it
pub any_here : {X : Type 0} (P : X → Type 0) (xs : List X) (i : ℕ) (x : X) → x ≡ get_or xs i x → i < length xs → P x → Any P xs
any_here P xs i x is within h = (i, x, within, sym is, h)

pub all_here : {X : Type 0} (P : X → Type 0) (xs : List X) (i : ℕ) (x : X) → x ≡ get_or xs i x → i < length xs → All P xs → P x
all_here P xs i x is within all = subst P (sym is) (All-get_or P xs i x within all)

pub one_more : {X : Type 0} (P : X → Type 0) (xs : List X) (i : ℕ) (x : X) → x ≡ get_or xs i x → i < length xs → All P (take i xs) → P x → All P (take (i + 1) xs)
one_more P xs i x is within all h = All-more P xs i x within all (subst P is h)

pub none_any : {X : Type 0} (P : X → Type 0) (xs : List X) (i : ℕ) → length xs ≤ i → All (λ x. P x → ⊥) (take i xs) → Any P xs → ⊥
none_any P xs i past none any =
    let found : Some' P xs = some_from_any P xs any in
    All-contains (λ x. P x → ⊥) xs found.it (subst (All (λ x. P x → ⊥)) (take_all i xs past) none) found.there found.holds

pub all_end : {X : Type 0} (P : X → Type 0) (xs : List X) (i : ℕ) → length xs ≤ i → All P (take i xs) → All P xs
all_end P xs i past all = subst (All P) (take_all i xs past) all
