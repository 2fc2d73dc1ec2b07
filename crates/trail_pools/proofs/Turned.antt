-- Odd nodes are turned edge by edge.
use Rattle.std.proofs.Common.{ℕ, ◌≡◌, ◌+◌, ◌%◌, ◌≤◌, ◌==◌, Bool, true, false, if◌then◌else◌, List, [], ◌∷◌, length}
use Rattle.std.proofs.Common.{fold, refl, sym, ap, arith, ◌∙◌}
use Rattle.std.specs.List.{filter, range_with_len}
use Rattle.std.proofs.lemmas.List.FromFn.{length-range_with_len}
use Rattle.std.proofs.lemmas.List.Sums.{count_by-le-length, length-filter, sum_by-cons}
use Rattle.trail_state.specs.declared.edge.Edge.{Edge}
use Rattle.trail_state.specs.declared.edge.Node.{Node}
use Rattle.trail_state.specs.Places.{differ}
use Rattle.trail_state.specs.Settling.{is_open}
use Rattle.trail_check.specs.Closing.{turned}
use Rattle.trail_check.specs.Graph.{degree, is_odd}
use Rattle.trail_pools.proofs.Placed.{parity_sum}

abbrev ends_at : ℕ → Edge → ℕ
ends_at v e = (if v == e.a.0 then 1 else 0) + (if v == e.b.0 then 1 else 0)

bits : (x y : Bool) → (((if x then 1 else 0) + (if y then 1 else 0)) % 2 == 1) ≡ differ x y
bits true true = refl
bits true false = refl
bits false true = refl
bits false false = refl

pub one_more : (v : ℕ) (e : Edge) (es : List Edge)
    → is_odd (e ∷ es) v ≡ differ (differ (v == e.a.0) (v == e.b.0)) (is_odd es v)
one_more v e es =
    ap (λ k. k % 2 == 1) (sum_by-cons (ends_at v) e es) ∙ parity_sum (ends_at v e) (degree es v)
    ∙ ap (λ b. differ b (is_odd es v)) (bits (v == e.a.0) (v == e.b.0))

regrouped : (a b c : Bool) → differ (differ a b) c ≡ differ a (differ b c)
regrouped true true true = refl
regrouped true true false = refl
regrouped true false c = refl
regrouped false b c = refl

unturned : (b : Bool) → b ≡ differ b false
unturned true = refl
unturned false = refl

turned_all : (v : ℕ) (b : Bool) (es : List Edge) → fold (turned v) b es ≡ differ b (is_odd es v)
turned_all v b [] = unturned b
turned_all v b (e ∷ es) =
    turned_all v (turned v b e) es ∙ regrouped b (differ (v == e.a.0) (v == e.b.0)) (is_odd es v)
    ∙ ap (differ b) (sym (one_more v e es))

pub turned_is : (odd : List Node) (es : List Edge) (v : ℕ) (b : Bool) → b ≡ is_open odd v
    → fold (turned v) b es ≡ differ (is_open odd v) (is_odd es v)
turned_is odd es v b is = turned_all v b es ∙ ap (λ c. differ c (is_odd es v)) is

-- no more than all numbers below n pass
pub few_pooled : (p : ℕ → Bool) (n : ℕ) (vs : List ℕ) → vs ≡ filter p (range_with_len 0 n) → length vs ≤ n
few_pooled p n vs is =
    omega (
      arith,
      ap length is,
      length-filter p (range_with_len 0 n),
      count_by-le-length p (range_with_len 0 n),
      length-range_with_len 0 n,
    )

pub few_left : {X : Type 0} (p : X → Bool) (xs ys : List X) → ys ≡ filter p xs → length ys ≤ length xs
few_left p xs ys is = omega (arith, ap length is, length-filter p xs, count_by-le-length p xs)
