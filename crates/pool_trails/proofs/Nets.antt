-- The test of two lists of nets decides whether they are equal.
use Rattle.std.specs.Prelude.{◌≡◌, ◌↔◌, true, IsTrue, List, [], ◌∷◌}
use Rattle.std.specs.Cmp.Lexicographic.{pointwise}
use Rattle.std.proofs.Common.{refl, subst}
use Rattle.std.proofs.lemmas.Bool.{and_from, and_parts, eq-eqb, eqb-true}
use Rattle.cell_num.specs.declared.net.NetNo.{NetNo}
use Rattle.pool_trails.specs.Inner.{same_net}

net_is : (a b : NetNo) → same_net a b ≡ true → a ≡ b
net_is a b h = let same : a.0 ≡ b.0 = eqb-true a.0 b.0 h in λ i. record { 0 = same i }

nets_are : (xs ys : List NetNo) → pointwise same_net xs ys ≡ true → xs ≡ ys
nets_are [] [] h = refl
nets_are [] (y ∷ ys) h = absurd cc
nets_are (x ∷ xs) [] h = absurd cc
nets_are (x ∷ xs) (y ∷ ys) h =
    let both : (same_net x y ≡ true) × (pointwise same_net xs ys ≡ true) =
    and_parts (same_net x y) (pointwise same_net xs ys) h in
    let first : x ≡ y = net_is x y both.0 in
    let rest : xs ≡ ys = nets_are xs ys both.1 in
    λ i. first i ∷ rest i

one_list : (xs : List NetNo) → pointwise same_net xs xs ≡ true
one_list [] = refl
one_list (x ∷ xs) = and_from (same_net x x) (pointwise same_net xs xs) (eq-eqb x.0 x.0 refl) (one_list xs)

pub nets_decide : (xs ys : List NetNo) → IsTrue (pointwise same_net xs ys) ↔ (xs ≡ ys)
nets_decide xs ys = (
  λ yes. nets_are xs ys yes,
  λ same. subst (λ (zs : List NetNo). pointwise same_net xs zs ≡ true) same (one_list xs),
)
