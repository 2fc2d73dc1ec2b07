-- Membership that computes to equations, and members of lists that are put together.
use Rattle.std.proofs.Common.{◌≡◌, List, [], ◌∷◌, ◌++◌, map, inl, inr, ◌⊎◌, refl, sym, subst}
use Rattle.std.specs.List.{Contains, flat_map}
use Rattle.std.proofs.lemmas.List.Elements.{Contains-append_cases, Contains-append_left, Contains-append_right}
use Rattle.cell_num.proofs.Lists.{contains_none, contains_cons, contains_here, contains_there}

-- an element of a map is the image of one
pub record Image {X Y : Type 0} (f : X → Y) (xs : List X) (y : Y) : Type 0 where
  pub of : X
  pub listed : Contains xs of
  pub is : f of ≡ y

pub in_map : {X Y : Type 0} (f : X → Y) (xs : List X) (y : Y) → Contains (map f xs) y → Image f xs y
in_map f [] y c = absurd (contains_none y c)
in_map f (x ∷ xs) y c =
    elim (contains_cons (f x) (map f xs) y c) [
      | inl e ↦ record { of = x; listed = contains_here x xs; is = e }
      | inr r ↦ let i = in_map f xs y r in record { of = i.of; listed = contains_there x xs i.of i.listed; is = i.is }
    ]

pub contains_map : {X Y : Type 0} (f : X → Y) (xs : List X) (x : X) → Contains xs x → Contains (map f xs) (f x)
contains_map f [] x c = absurd (contains_none x c)
contains_map f (z ∷ xs) x c =
    elim (contains_cons z xs x c) [
      | inl e ↦ subst (λ w. Contains (f z ∷ map f xs) (f w)) e (contains_here (f z) (map f xs))
      | inr r ↦ contains_there (f z) (map f xs) (f x) (contains_map f xs x r)
    ]

-- an element of a flat_map stands in the piece of one
pub record Piece {X Y : Type 0} (f : X → List Y) (xs : List X) (y : Y) : Type 0 where
  pub of : X
  pub listed : Contains xs of
  pub inside : Contains (f of) y

pub in_flat : {X Y : Type 0} (f : X → List Y) (xs : List X) (y : Y) → Contains (flat_map f xs) y → Piece f xs y
in_flat f [] y c = absurd (contains_none y c)
in_flat f (x ∷ xs) y c =
    elim (Contains-append_cases (f x) (flat_map f xs) y c) [
      | inl here ↦ record { of = x; listed = contains_here x xs; inside = here }
      | inr r ↦ let i = in_flat f xs y r in record { of = i.of; listed = contains_there x xs i.of i.listed; inside = i.inside }
    ]

pub contains_flat : {X Y : Type 0} (f : X → List Y) (xs : List X) (x : X) (y : Y) → Contains xs x → Contains (f x) y → Contains (flat_map f xs) y
contains_flat f [] x y c d = absurd (contains_none x c)
contains_flat f (z ∷ xs) x y c d =
    elim (contains_cons z xs x c) [
      | inl e ↦ Contains-append_left (f z) (flat_map f xs) y (subst (λ w. Contains (f w) y) (sym e) d)
      | inr r ↦ Contains-append_right (f z) (flat_map f xs) y (contains_flat f xs x y r d)
    ]

-- membership that computes: an equation for each element
abbrev pub In : {X : Type 0} → List X → X → Type 0
In [] z = ⊥
In (x ∷ xs) z = (x ≡ z) ⊎ In xs z

pub contains_in : {X : Type 0} (xs : List X) (z : X) → Contains xs z → In xs z
contains_in [] z c = contains_none z c
contains_in (x ∷ xs) z c = elim (contains_cons x xs z c) [ inl e ↦ inl e | inr r ↦ inr (contains_in xs z r) ]

pub in_contains : {X : Type 0} (xs : List X) (z : X) → In xs z → Contains xs z
in_contains [] z i = absurd i
in_contains (x ∷ xs) z (inl e) = subst (λ w. Contains (x ∷ xs) w) e (contains_here x xs)
in_contains (x ∷ xs) z (inr r) = contains_there x xs z (in_contains xs z r)

pub in_append : {X : Type 0} (xs ys : List X) (z : X) → In (xs ++ ys) z → In xs z ⊎ In ys z
in_append [] ys z i = inr i
in_append (x ∷ xs) ys z (inl e) = inl (inl e)
in_append (x ∷ xs) ys z (inr r) = elim (in_append xs ys z r) [ inl a ↦ inl (inr a) | inr b ↦ inr b ]

-- an element of a flat_map is in the piece of one
pub record From {X Y : Type 0} (f : X → List Y) (xs : List X) (y : Y) : Type 0 where
  pub of : X
  pub listed : In xs of
  pub inside : In (f of) y

pub in_pieces : {X Y : Type 0} (f : X → List Y) (xs : List X) (y : Y) → In (flat_map f xs) y → From f xs y
in_pieces f [] y i = absurd i
in_pieces f (x ∷ xs) y i =
    elim (in_append (f x) (flat_map f xs) y i) [
      | inl here ↦ record { of = x; listed = inl refl; inside = here }
      | inr r ↦ let p = in_pieces f xs y r in record { of = p.of; listed = inr p.listed; inside = p.inside }
    ]
