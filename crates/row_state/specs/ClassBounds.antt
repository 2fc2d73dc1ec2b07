-- One finger more in front of a row: what it does to a sum over the classes that is at least the bound.
-- Of a class with a finger the sum takes half of its odd nets, rounded up: so no parity matters.
use Rattle.std.proofs.Common.{ℕ, ◌≡◌, ◌+◌, ◌/◌, ◌<◌, ◌≤◌, Bool, true, false, ◌==◌, if◌then◌else◌, max, min, refl, sym}
use Rattle.std.proofs.Common.{ap, arith, ◌∙◌, inl, inr}
use Rattle.std.proofs.lemmas.Bool.{cases_eq, eq-eqb, ne_eqb}
use Rattle.cell_num.specs.Fingers.{sum_below}
use Rattle.row_trails.specs.Counts.{fewest_trails, size_in}
use Rattle.row_trails.specs.Trails.{toggle}
use Rattle.row_state.specs.Chained.{joined_a}
use Rattle.row_state.specs.Classes.{joined}
use Rattle.row_state.specs.ClassSizes.{joined_not_high, size_in_alike, size_in_both, size_in_other, size_in_stays}
use Rattle.row_state.specs.ClassSizes.{size_in_toggle, size_in_twice}
use Rattle.row_state.specs.ClassSums.{but, but_other, rest, rest_le, sum_low, sum_pair}

-- at least the trails of a class that has so many odd nets
pub closed : Bool → ℕ → ℕ
closed has m = if has then max 1 ((m + 1) / 2) else 0

pub closed_low : (has : Bool) (m k : ℕ) → (has ≡ false → m ≡ 0) → k ≤ m + 1 → k / 2 ≤ closed has m
unfolding closed
closed_low true m k none few = omega (arith, few)
closed_low false m k none few = omega (arith, few, none refl)

closed_pair : (has : Bool) (m k : ℕ) → (has ≡ false → m ≡ 0) → (m + k) / 2 ≤ k / 2 + closed has m
unfolding closed
closed_pair true m k none = omega arith
closed_pair false m k none = omega (arith, none refl)

closed_high : (has : Bool) (m k : ℕ) → m ≤ k + 1 → closed has m ≤ k / 2 + 1
unfolding closed
closed_high true m k few = omega (arith, few)
closed_high false m k few = omega arith

pub closed_none : (has : Bool) (m : ℕ) → has ≡ false → closed has m ≡ 0
unfolding closed
closed_none has m e = rw e refl

pub closed_same : (has has' : Bool) (m m' : ℕ) → has ≡ has' → m ≡ m' → closed has m ≡ closed has' m'
closed_same has has' m m' e f = rw (e, f) refl

pub trails_low : (has : Bool) (m : ℕ) → fewest_trails has m ≤ closed has m
unfolding closed
trails_low true m = omega arith
trails_low false m = omega arith

-- the classes of n nets, those of them that have a finger, and the odd nets
pub record Classes : Type 0 where
  pub class : ℕ → ℕ
  pub has : ℕ → Bool
  pub odd : ℕ → Bool

-- of a walk that may begin in any class
unfoldable pub free_at : ℕ → Classes → ℕ → ℕ
free_at n k h = closed (k.has h) (size_in n k.class k.odd h)

-- of a walk that goes on from the open end v
pub open_at : ℕ → Classes → ℕ → ℕ → ℕ
open_at n k v h = if h == k.class v then size_in n k.class (toggle v k.odd) h / 2 else free_at n k h

pub open_here : (n : ℕ) (k : Classes) (v h : ℕ) → h ≡ k.class v → open_at n k v h
    ≡ size_in n k.class (toggle v k.odd) h / 2
unfolding open_at
open_here n k v h e = rw (eq-eqb h (k.class v) e) refl

pub open_other : (n : ℕ) (k : Classes) (v h : ℕ) → (h ≡ k.class v → ⊥) → open_at n k v h ≡ free_at n k h
unfolding open_at
open_other n k v h other = rw (ne_eqb h (k.class v) other) refl

-- only a class with a finger has odd nets
abbrev pub IsEven : ℕ → Classes → Type 0
IsEven n k = (h : ℕ) → k.has h ≡ false → size_in n k.class k.odd h ≡ 0

-- The classes k with a finger from l to r more: the classes a of l and b of r are one now.
pub record IsJoined (n l r : ℕ) (k more : Classes) : Type 0 where
  pub even : IsEven n k
  pub l_net : k.class l < n
  pub r_net : k.class r < n
  pub class : (u : ℕ) → more.class u ≡ joined (k.class l) (k.class r) (k.class u)
  pub other : (h : ℕ) → (h ≡ k.class l → ⊥) → (h ≡ k.class r → ⊥) → more.has h ≡ k.has h
  pub high : (k.class l ≡ k.class r → ⊥) → more.has (max (k.class l) (k.class r)) ≡ false
  pub odd : more.odd ≡ toggle l (toggle r k.odd)

pub free_is : (n : ℕ) (k : Classes) (h : ℕ) → free_at n k h ≡ closed (k.has h) (size_in n k.class k.odd h)
unfolding free_at
free_is n k h = refl

-- outside of a and b all stays
odd_stays : (n l r : ℕ) (k more : Classes) (h : ℕ) → IsJoined n l r k more → (h ≡ k.class l → ⊥) → (h ≡ k.class r → ⊥)
    → size_in n more.class more.odd h ≡ size_in n k.class k.odd h
odd_stays n l r k more h j not_a not_b =
    ap (λ o. size_in n more.class o h) j.odd
    ∙ size_in_stays n (k.class l) (k.class r) h k.class more.class (toggle l (toggle r k.odd)) j.class not_a not_b
    ∙ size_in_other n k.class (toggle r k.odd) h l (λ e. not_a (sym e))
    ∙ size_in_other n k.class k.odd h r (λ e. not_b (sym e))

free_stays : (n l r : ℕ) (k more : Classes) (h : ℕ) → IsJoined n l r k more → (h ≡ k.class l → ⊥) → (h ≡ k.class r → ⊥)
    → free_at n more h ≡ free_at n k h
unfolding free_at
free_stays n l r k more h j not_a not_b =
    closed_same (more.has h) (k.has h) (size_in n more.class more.odd h) (size_in n k.class k.odd h)
    (j.other h not_a not_b) (odd_stays n l r k more h j not_a not_b)

open_stays : (n l r v : ℕ) (k more : Classes) (h : ℕ) → IsJoined n l r k more → (h ≡ k.class l → ⊥)
    → (h ≡ k.class r → ⊥) → open_at n more v h ≤ free_at n k h
unfolding free_at
open_stays n l r v k more h j not_a not_b = elim (cases_eq h (more.class v)) [
  | inl e ↦
      let few : size_in n more.class (toggle v more.odd) h ≤ size_in n k.class k.odd h + 1 =
      omega (arith, size_in_toggle n more.class more.odd h v, odd_stays n l r k more h j not_a not_b) in
      omega (
        arith,
        open_here n more v h e,
        closed_low (k.has h) (size_in n k.class k.odd h)
            (size_in n more.class (toggle v more.odd) h) (j.even h) few,
      )
  | inr other ↦ omega (arith, open_other n more v h other, free_stays n l r k more h j not_a not_b)
]

free_high : (n l r : ℕ) (k more : Classes) → IsJoined n l r k more → (k.class l ≡ k.class r → ⊥)
    → free_at n more (max (k.class l) (k.class r)) ≡ 0
unfolding free_at
free_high n l r k more j differ = closed_none (more.has (max (k.class l) (k.class r)))
    (size_in n more.class more.odd (max (k.class l) (k.class r))) (j.high differ)

open_high : (n l r v : ℕ) (k more : Classes) → IsJoined n l r k more → (k.class l ≡ k.class r → ⊥)
    → open_at n more v (max (k.class l) (k.class r)) ≡ 0
open_high n l r v k more j differ = elim (cases_eq (max (k.class l) (k.class r)) (more.class v)) [
  | inl e ↦ absurd (joined_not_high (k.class l) (k.class r) (k.class v) differ (sym (j.class v) ∙ sym e))
  | inr other ↦ open_other n more v (max (k.class l) (k.class r)) other ∙ free_high n l r k more j differ
]

-- the odd nets of the joined class behind the finger, with its right end as the open one
behind_right : ℕ → ℕ → ℕ → Classes → Classes → ℕ
behind_right n l r k more = size_in n more.class (toggle r k.odd) (min (k.class l) (k.class r))

-- the sum behind the finger is at least this
sum_behind : (n l r : ℕ) (k more : Classes) → IsJoined n l r k more
    → behind_right n l r k more / 2 + rest (free_at n k) (k.class l) (k.class r) n ≤ sum_below (open_at n k r) n
unfolding behind_right
sum_behind n l r k more j =
    let a : ℕ = k.class l in
    let b : ℕ = k.class r in
    let pair : sum_below (open_at n k r) n ≡ open_at n k r b + but (open_at n k r) b a + rest (open_at n k r) a b n =
    sum_pair (open_at n k r) n a b j.l_net j.r_net in
    let behind : rest (free_at n k) a b n ≤ rest (open_at n k r) a b n =
    rest_le (free_at n k) (open_at n k r) n a b (λ h not_a not_b. omega (arith, open_other n k r h not_b)) in
    let here : open_at n k r b ≡ size_in n k.class (toggle r k.odd) b / 2 = open_here n k r b refl in
    elim (cases_eq a b) [
      | inl e ↦
          let low : min a b ≡ b = omega (arith, e) in
          let same : size_in n more.class (toggle r k.odd) (min a b) ≡ size_in n k.class (toggle r k.odd) b =
          size_in_alike n a b (min a b) k.class more.class (toggle r k.odd) j.class e
          ∙ ap (size_in n k.class (toggle r k.odd)) low in
          omega (arith, pair, behind, here, same)
      | inr differ ↦
          let both : size_in n more.class (toggle r k.odd) (min a b)
          ≡ size_in n k.class (toggle r k.odd) a + size_in n k.class (toggle r k.odd) b =
          size_in_both n a b k.class more.class (toggle r k.odd) j.class differ in
          let left : size_in n k.class (toggle r k.odd) a ≡ size_in n k.class k.odd a =
          size_in_other n k.class k.odd a r (λ e. differ (sym e)) in
          let there : but (open_at n k r) b a ≡ closed (k.has a) (size_in n k.class k.odd a) =
          but_other (open_at n k r) b a differ ∙ open_other n k r a differ ∙ free_is n k a in
          omega (
            arith,
            pair,
            behind,
            here,
            both,
            left,
            there,
            closed_pair (k.has a) (size_in n k.class k.odd a) (size_in n k.class (toggle r k.odd) b) (j.even a),
          )
    ]

-- a walk that goes on from the finger's left end costs nothing
open_left : (n l r : ℕ) (k more : Classes) → IsJoined n l r k more → open_at n more l (min (k.class l) (k.class r))
    ≡ behind_right n l r k more / 2
unfolding behind_right
open_left n l r k more j =
    let low : min (k.class l) (k.class r) ≡ more.class l = sym (j.class l ∙ joined_a (k.class l) (k.class r)) in
    let same : size_in n more.class (toggle l more.odd) (min (k.class l) (k.class r))
    ≡ size_in n more.class (toggle r k.odd) (min (k.class l) (k.class r)) =
    ap (λ o. size_in n more.class (toggle l o) (min (k.class l) (k.class r))) j.odd
    ∙ size_in_twice n more.class (toggle r k.odd) (min (k.class l) (k.class r)) l in
    open_here n more l (min (k.class l) (k.class r)) low ∙ ap (λ m. m / 2) same

odd_more : (n l r : ℕ) (k more : Classes) → IsJoined n l r k more
    → size_in n more.class more.odd (min (k.class l) (k.class r)) ≤ behind_right n l r k more + 1
unfolding behind_right
odd_more n l r k more j =
    omega (
      arith,
      ap (λ o. size_in n more.class o (min (k.class l) (k.class r))) j.odd,
      size_in_toggle n more.class (toggle r k.odd) (min (k.class l) (k.class r)) l,
    )

-- any other costs one
free_low : (n l r : ℕ) (k more : Classes) → IsJoined n l r k more → free_at n more (min (k.class l) (k.class r))
    ≤ behind_right n l r k more / 2 + 1
unfolding free_at
free_low n l r k more j =
    closed_high (more.has (min (k.class l) (k.class r))) (size_in n more.class more.odd (min (k.class l) (k.class r)))
    (behind_right n l r k more) (odd_more n l r k more j)

open_low : (n l r v : ℕ) (k more : Classes) → IsJoined n l r k more → open_at n more v (min (k.class l) (k.class r))
    ≤ behind_right n l r k more / 2 + 1
open_low n l r v k more j = elim (cases_eq (min (k.class l) (k.class r)) (more.class v)) [
  | inl e ↦ omega (
    arith,
    open_here n more v (min (k.class l) (k.class r)) e,
    size_in_toggle n more.class more.odd (min (k.class l) (k.class r)) v,
    odd_more n l r k more j,
  )
  | inr other ↦ omega (arith, open_other n more v (min (k.class l) (k.class r)) other, free_low n l r k more j)
]

sum_open : (n l r v : ℕ) (k more : Classes) → IsJoined n l r k more → sum_below (open_at n more v) n
    ≤ open_at n more v (min (k.class l) (k.class r)) + rest (free_at n k) (k.class l) (k.class r) n
sum_open n l r v k more j =
    sum_low (open_at n more v) (free_at n k) n (k.class l) (k.class r) j.l_net j.r_net
    (λ h not_a not_b. open_stays n l r v k more h j not_a not_b) (λ differ. open_high n l r v k more j differ)

sum_free : (n l r : ℕ) (k more : Classes) → IsJoined n l r k more → sum_below (free_at n more) n
    ≤ free_at n more (min (k.class l) (k.class r)) + rest (free_at n k) (k.class l) (k.class r) n
sum_free n l r k more j =
    sum_low (free_at n more) (free_at n k) n (k.class l) (k.class r) j.l_net j.r_net
    (λ h not_a not_b. omega (arith, free_stays n l r k more h j not_a not_b))
    (λ differ. free_high n l r k more j differ)

pub goes_on : (n l r : ℕ) (k more : Classes) → IsJoined n l r k more → sum_below (open_at n more l) n
    ≤ sum_below (open_at n k r) n
goes_on n l r k more j = omega (arith, sum_open n l r l k more j, open_left n l r k more j, sum_behind n l r k more j)

pub breaks : (n l r v : ℕ) (k more : Classes) → IsJoined n l r k more → sum_below (open_at n more v) n
    ≤ sum_below (open_at n k r) n + 1
breaks n l r v k more j = omega (arith, sum_open n l r v k more j, open_low n l r v k more j, sum_behind n l r k more j)

pub begins : (n l r : ℕ) (k more : Classes) → IsJoined n l r k more → sum_below (free_at n more) n
    ≤ sum_below (open_at n k r) n + 1
begins n l r k more j = omega (arith, sum_free n l r k more j, free_low n l r k more j, sum_behind n l r k more j)
