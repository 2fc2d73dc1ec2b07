-- How many elements lists have that are put together of pieces.
use Rattle.std.specs.Prelude.{◌≡◌, ◌+◌, ◌≤◌, List, [], ◌∷◌, length, Option, Some, None, filter_map}
use Rattle.std.specs.List.{cons_option, flat_map}
use Rattle.std.proofs.Common.{refl, arith, length-append}

-- the pieces of two lists over the same elements are as many
pub flat_same : {X Y : Type 0} (f g : X → List Y) (xs : List X) → ((x : X) → length (f x) ≡ length (g x)) → length (flat_map f xs) ≡ length (flat_map g xs)
flat_same f g [] each = refl
flat_same f g (x ∷ xs) each = omega (arith, length-append (f x) (flat_map f xs), length-append (g x) (flat_map g xs), each x, flat_same f g xs each)

-- a piece for each element
pub flat_single : {X Y : Type 0} (f : X → Y) (xs : List X) → length (flat_map (λ x. f x ∷ []) xs) ≡ length xs
flat_single f [] = refl
flat_single f (x ∷ xs) = omega (arith, flat_single f xs)

-- the pieces of an element that may be there
abbrev pub pieces : {Y Z : Type 0} → (Y → List Z) → Option Y → List Z
pieces f None = []
pieces f (Some y) = f y

in_front : {Y Z : Type 0} (f : Y → List Z) (o : Option Y) (ys : List Y) → length (flat_map f (cons_option o ys)) ≡ length (pieces f o) + length (flat_map f ys)
in_front f None ys = omega arith
in_front f (Some y) ys = length-append (f y) (flat_map f ys)

-- the same of elements that may be there
pub kept_same : {X Y Z : Type 0} (k l : X → Option Y) (f g : Y → List Z) (xs : List X) → ((x : X) → length (pieces f (k x)) ≡ length (pieces g (l x))) → length (flat_map f (filter_map k xs)) ≡ length (flat_map g (filter_map l xs))
kept_same k l f g [] each = refl
kept_same k l f g (x ∷ xs) each = omega (arith, in_front f (k x) (filter_map k xs), in_front g (l x) (filter_map l xs), each x, kept_same k l f g xs each)

one_more : {Y : Type 0} (o : Option Y) (ys : List Y) → length (cons_option o ys) ≤ 1 + length ys
one_more None ys = omega arith
one_more (Some y) ys = omega arith

-- at most as many are there
pub kept_few : {X Y : Type 0} (k : X → Option Y) (xs : List X) → length (filter_map k xs) ≤ length xs
kept_few k [] = omega arith
kept_few k (x ∷ xs) = omega (arith, one_more (k x) (filter_map k xs), kept_few k xs)
