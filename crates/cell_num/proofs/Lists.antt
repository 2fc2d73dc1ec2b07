-- Membership in lists by recursion, and facts on all items of lists that are put together.
use Rattle.std.proofs.Common.{ℕ, zero, suc, ◌≡◌, ◌⊎◌, List, [], ◌∷◌, Option, Some, None, inl, inr, refl, sym, ap, subst, arith, All, Contains, map, filter_map, option_to_list, slice_get}
use Rattle.std.specs.List.{cons_option, flat_map}
use Rattle.std.proofs.lemmas.List.Elements.{All-nil, All-cons, All-contains, All-head, All-tail, All-append, Contains-append_right, Contains-append_cases}
use Rattle.std.proofs.lemmas.Option.{slice_get_within, get_or_from_slice_get}

pub some_same : {X : Type 0} (a b : X) → Some a ≡ Some b → a ≡ b
some_same a b e = cc

pub contains_one : {X : Type 0} (y x : X) → Contains (y ∷ []) x → y ≡ x
contains_one y x h = All-contains (λ z. y ≡ z) (y ∷ []) x (All-cons (λ z. y ≡ z) y [] refl (All-nil _)) h

pub contains_none : {X : Type 0} (x : X) → Contains [] x → ⊥
contains_none x h = All-contains (λ z. ⊥) [] x (All-nil _) h

pub contains_cons : {X : Type 0} (y : X) (ys : List X) (x : X) → Contains (y ∷ ys) x → (y ≡ x) ⊎ Contains ys x
contains_cons y ys x h =
    elim (Contains-append_cases (y ∷ []) ys x h) [ inl one ↦ inl (contains_one y x one) | inr rest ↦ inr rest ]

pub contains_here : {X : Type 0} (x : X) (xs : List X) → Contains (x ∷ xs) x
contains_here x xs = (0, omega arith, refl)

pub contains_there : {X : Type 0} (y : X) (xs : List X) (x : X) → Contains xs x → Contains (y ∷ xs) x
contains_there y xs x h = Contains-append_right (y ∷ []) xs x h

-- what stands at a place
pub contains_get : {X : Type 0} (xs : List X) (at : ℕ) (x : X) → slice_get xs at ≡ Some x → Contains xs x
contains_get [] at x h = absurd cc
contains_get (y ∷ ys) zero x h = subst (λ z. Contains (z ∷ ys) x) (sym (some_same y x h)) (contains_here x ys)
contains_get (y ∷ ys) (suc at) x h = contains_there y ys x (contains_get ys at x h)

pub contains_option : {X : Type 0} (o : Option X) (x : X) → Contains (option_to_list o) x → o ≡ Some x
contains_option None x h = absurd (contains_none x h)
contains_option (Some y) x h = ap (λ z. Some z) (contains_one y x h)

-- where each element of a list is there, P holds of all
pub all_from_contains : {X : Type 0} (P : X → Type 0) (xs : List X) → ((x : X) → Contains xs x → P x) → All P xs
all_from_contains P [] h = All-nil P
all_from_contains P (x ∷ xs) h = All-cons P x xs (h x (contains_here x xs)) (all_from_contains P xs (λ y there. h y (contains_there x xs y there)))

-- an element of what `filter_map` gives, and where it is from
pub record Kept {X Y : Type 0} (h : X → Option Y) (xs : List X) (y : Y) : Type 0 where
  pub from : X
  pub there : Contains xs from
  pub gives : h from ≡ Some y

pub kept_more : {X Y : Type 0} (h : X → Option Y) (x : X) (xs : List X) (y : Y) → Kept h xs y → Kept h (x ∷ xs) y
kept_more h x xs y k = record { from = k.from; there = contains_there x xs k.from k.there; gives = k.gives }

pub kept_from : {X Y : Type 0} (h : X → Option Y) (xs : List X) (y : Y) → Contains (filter_map h xs) y → Kept h xs y
kept_from h [] y c = absurd (contains_none y c)
kept_from {X} {Y} h (x ∷ xs) y c = at (h x) refl (λ there. kept_more h x xs y (kept_from h xs y there))
  where
    at : (o : Option Y) → h x ≡ o → (Contains (filter_map h xs) y → Kept h (x ∷ xs) y) → Kept h (x ∷ xs) y
    at None e rest = rest (subst (λ o. Contains (cons_option o (filter_map h xs)) y) e c)
    at (Some z) e rest =
        elim (contains_cons z (filter_map h xs) y (subst (λ o. Contains (cons_option o (filter_map h xs)) y) e c)) [
          | inl same ↦ record { from = x; there = contains_here x xs; gives = subst (λ w. h x ≡ Some w) same e }
          | inr there ↦ rest there
        ]

pub contains_filter_map : {X Y : Type 0} (h : X → Option Y) (xs : List X) (x : X) (y : Y) → Contains xs x → h x ≡ Some y → Contains (filter_map h xs) y
contains_filter_map h [] x y there gives = absurd (contains_none x there)
contains_filter_map {X} {Y} h (z ∷ zs) x y there gives =
    elim (contains_cons z zs x there) [
      | inl same ↦ subst (λ o. Contains (cons_option o (filter_map h zs)) y) (sym (subst (λ w. h w ≡ Some y) (sym same) gives)) (contains_here y (filter_map h zs))
      | inr rest ↦ more (h z) (contains_filter_map h zs x y rest gives)
    ]
  where
    more : (o : Option Y) → Contains (filter_map h zs) y → Contains (cons_option o (filter_map h zs)) y
    more None c = c
    more (Some w) c = contains_there w (filter_map h zs) y c

pub all_imply : {X : Type 0} (P Q : X → Type 0) (xs : List X) → ((x : X) → P x → Q x) → All P xs → All Q xs
all_imply P Q xs f h i d l = f _ (h i d l)

pub all_at : {X : Type 0} (P : X → Type 0) (xs : List X) (i : ℕ) (x : X) → All P xs → slice_get xs i ≡ Some x → P x
all_at P xs i x h is = rw (sym (get_or_from_slice_get xs i x x is)) (h i x (slice_get_within xs i x is))

pub all_one : {X : Type 0} (P : X → Type 0) (x : X) → P x → All P (x ∷ [])
all_one P x h = All-cons P x [] h (All-nil P)

pub all_two : {X : Type 0} (P : X → Type 0) (x y : X) → P x → P y → All P (x ∷ y ∷ [])
all_two P x y h i = All-cons P x (y ∷ []) h (All-cons P y [] i (All-nil P))

pub all_map : {X Y : Type 0} (P : X → Type 0) (Q : Y → Type 0) (g : X → Y) (xs : List X) → ((x : X) → P x → Q (g x)) → All P xs → All Q (map g xs)
all_map P Q g [] f h = All-nil Q
all_map P Q g (x ∷ xs) f h = All-cons Q (g x) (map g xs) (f x (All-head P x xs h)) (all_map P Q g xs f (All-tail P x xs h))

pub all_flat : {X Y : Type 0} (Q : X → Type 0) (P : Y → Type 0) (g : X → List Y) (xs : List X) → ((x : X) → Q x → All P (g x)) → All Q xs → All P (flat_map g xs)
all_flat Q P g [] f h = All-nil P
all_flat Q P g (x ∷ xs) f h = All-append P (g x) (flat_map g xs) (f x (All-head Q x xs h)) (all_flat Q P g xs f (All-tail Q x xs h))
