-- The test of two states decides whether they are equal.
use Rattle.std.specs.Prelude.{◌≡◌, ◌↔◌, ◌==◌, ◌&&◌, Bool, true, false, IsTrue, List, [], ◌∷◌}
use Rattle.std.specs.Cmp.Lexicographic.{pointwise}
use Rattle.std.proofs.Common.{refl, subst}
use Rattle.std.proofs.Math.Bool.{beq}
use Rattle.std.proofs.lemmas.Bool.{and_from, and_parts, eq-eqb, eqb-true}
use Rattle.trail_state.specs.declared.edge.Node.{Node}
use Rattle.trail_state.specs.declared.state.Place.{Place}
use Rattle.trail_check.specs.Justified.{same_place, same_state}
use Rattle.trail_check.proofs.Sound.{state_is}
use Rattle.trail_pools.specs.declared.state.Balance.{Balance}
use Rattle.trail_pools.specs.declared.state.PoolState.{PoolState}
use Rattle.pool_check.specs.Same.{is_same, same_balance, same_node}

module _ {X : Type 0} (eq : X → X → Bool) where
  lists_are : ((a b : X) → eq a b ≡ true → a ≡ b) → (xs ys : List X) → pointwise eq xs ys ≡ true → xs ≡ ys
  lists_are is [] [] h = refl
  lists_are is [] (y ∷ ys) h = absurd cc
  lists_are is (x ∷ xs) [] h = absurd cc
  lists_are is (x ∷ xs) (y ∷ ys) h =
      let both : (eq x y ≡ true) × (pointwise eq xs ys ≡ true) = and_parts (eq x y) (pointwise eq xs ys) h in
      let first : x ≡ y = is x y both.0 in
      let rest : xs ≡ ys = lists_are is xs ys both.1 in
      λ i. first i ∷ rest i

  one_list : ((a : X) → eq a a ≡ true) → (xs : List X) → pointwise eq xs xs ≡ true
  one_list one [] = refl
  one_list one (x ∷ xs) = and_from (eq x x) (pointwise eq xs xs) (one x) (one_list one xs)

-- ---- nodes, balances and places

node_is : (a b : Node) → same_node a b ≡ true → a ≡ b
node_is a b h = let same : a.0 ≡ b.0 = eqb-true a.0 b.0 h in λ i. record { 0 = same i }

balance_is : (a b : Balance) → same_balance a b ≡ true → a ≡ b
balance_is a b h =
    let one : (((a.net == b.net) && (a.waiting == b.waiting)) ≡ true) × ((a.free == b.free) ≡ true) =
    and_parts ((a.net == b.net) && (a.waiting == b.waiting)) (a.free == b.free) h in
    let two : ((a.net == b.net) ≡ true) × ((a.waiting == b.waiting) ≡ true) =
    and_parts (a.net == b.net) (a.waiting == b.waiting) one.0 in
    let net : a.net ≡ b.net = eqb-true a.net b.net two.0 in
    let waiting : a.waiting ≡ b.waiting = eqb-true a.waiting b.waiting two.1 in
    let free : a.free ≡ b.free = eqb-true a.free b.free one.1 in
    λ i. record { net = net i; waiting = waiting i; free = free i }

one_balance : (a : Balance) → same_balance a a ≡ true
one_balance a =
    and_from ((a.net == a.net) && (a.waiting == a.waiting)) (a.free == a.free)
    (and_from (a.net == a.net) (a.waiting == a.waiting) (eq-eqb a.net a.net refl) (eq-eqb a.waiting a.waiting refl))
    (eq-eqb a.free a.free refl)

one_flag : (b : Bool) → beq b b ≡ true
one_flag true = refl
one_flag false = refl

one_place : (a : Place) → same_place a a ≡ true
one_place a =
    and_from ((a.node.0 == a.node.0) && (a.class.0 == a.class.0) && beq a.odd a.odd) (beq a.flagged a.flagged)
    (and_from ((a.node.0 == a.node.0) && (a.class.0 == a.class.0)) (beq a.odd a.odd)
    (and_from (a.node.0 == a.node.0) (a.class.0 == a.class.0) (eq-eqb a.node.0 a.node.0 refl)
    (eq-eqb a.class.0 a.class.0 refl))
    (one_flag a.odd))
    (one_flag a.flagged)

-- ---- states

state_same : (a b : PoolState) → is_same a b ≡ true → a ≡ b
state_same a b h =
    let one : ((same_state a.places b.places && pointwise same_node a.odd b.odd) ≡ true)
    × (pointwise same_balance a.balances b.balances ≡ true) =
    and_parts (same_state a.places b.places && pointwise same_node a.odd b.odd)
    (pointwise same_balance a.balances b.balances) h in
    let two : (same_state a.places b.places ≡ true) × (pointwise same_node a.odd b.odd ≡ true) =
    and_parts (same_state a.places b.places) (pointwise same_node a.odd b.odd) one.0 in
    let places : a.places ≡ b.places = state_is a.places b.places two.0 in
    let odd : a.odd ≡ b.odd = lists_are same_node node_is a.odd b.odd two.1 in
    let balances : a.balances ≡ b.balances = lists_are same_balance balance_is a.balances b.balances one.1 in
    λ i. record { places = places i; odd = odd i; balances = balances i }

one_state : (a : PoolState) → is_same a a ≡ true
one_state a =
    and_from (same_state a.places a.places && pointwise same_node a.odd a.odd)
    (pointwise same_balance a.balances a.balances)
    (and_from (same_state a.places a.places) (pointwise same_node a.odd a.odd)
    (one_list same_place one_place a.places)
    (one_list same_node (λ (v : Node). eq-eqb v.0 v.0 refl) a.odd))
    (one_list same_balance one_balance a.balances)

pub same_decides : (a b : PoolState) → IsTrue (is_same a b) ↔ (a ≡ b)
same_decides a b = (state_same a b, λ e. subst (λ (s : PoolState). is_same a s ≡ true) e (one_state a))
