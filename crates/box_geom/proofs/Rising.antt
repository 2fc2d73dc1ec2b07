-- Rectangles in the order of their lower sides, and those that a row goes through, from row to row upward.
use Rattle.std.proofs.Common.{◌≡◌, ◌↔◌, ℕ, suc, ◌+◌, ◌<◌, ◌≤◌, ℤ, ◌≤ℤ◌, ◌<ℤ◌, List, [], ◌∷◌, ◌++◌, length, Bool, true, false, cond, int_lt, int_le, get_or, arith, inl, inr, ◌⊎◌, refl, sym, subst, ap, ◌∙◌, true≢false, IsPermutation, take, drop}
use Rattle.std.specs.List.{All, AllWithin, Contains, filter}
use Rattle.std.specs.List.Sorted.{IsSortedByKey, IsPartitionedBy, IsPartitionPoint}
use Rattle.std.specs.Ordering.{is_lt, int_cmp}
use Rattle.std.proofs.lemmas.Bool.{cases_eq}
use Rattle.std.proofs.lemmas.Int.{ints}
use Rattle.std.proofs.lemmas.List.{append-nil, get_or-take, get_or-drop, length-take, length-drop, take-append-drop}
use Rattle.std.proofs.lemmas.List.Elements.{All-nil, All-head, All-tail, All-append, All-contains, filter-append}
use Rattle.std.proofs.lemmas.List.Kept.{AllPairs-cons}
use Rattle.std.proofs.lemmas.List.Sorted.{Contains-permutation, IsPermutation-sym}
use Rattle.cell_num.proofs.Lists.{all_from_contains, all_imply, contains_cons}
use Rattle.cell_num.proofs.Pairs.{pairs_none, pairs_one, pairs_head, pairs_tail}
use Rattle.box_geom.specs.Rectangle.{Rectangle, Covers}
use Rattle.box_geom.specs.Regions.{IsBlock, Follows, AreBanded}
use Rattle.box_geom.specs.Standing.{stands_at, ends_above, AreRising, IsAdvanced, IsUpTo}
use Rattle.box_geom.specs.Banding.{AreMadeOf}
use Rattle.box_geom.specs.declared.sweep.Operation.{Operation}
use Rattle.box_geom.proofs.Spans.{within_decides}
use Rattle.box_geom.proofs.Sweeps.{meant_like}

abbrev pub lower : Rectangle → ℤ
lower r = r.y1

abbrev NoHigher : Rectangle → Rectangle → Type 0
NoHigher a b = a.y1 ≤ℤ b.y1

in_turn : (a b : Rectangle) → is_lt (int_cmp b.y1 a.y1) ≡ false → a.y1 ≤ℤ b.y1
in_turn a b q = by (int_lt b.y1 a.y1) refl
  where
    by : (t : Bool) → int_lt b.y1 a.y1 ≡ t → a.y1 ≤ℤ b.y1
    by true e = absurd (cc (first e))
      where
        first : int_lt b.y1 a.y1 ≡ true → is_lt (int_cmp b.y1 a.y1) ≡ true
        first h = rw h refl
    by false e = omega (arith, ints)

tail_sorted : (r : Rectangle) (rs : List Rectangle) → IsSortedByKey lower int_cmp (r ∷ rs) → IsSortedByKey lower int_cmp rs
tail_sorted r rs up k d low lt = let q : suc k + 1 ≡ suc (k + 1) = omega arith in subst (λ j. is_lt (int_cmp (lower (get_or (r ∷ rs) j d)) (lower (get_or rs k d))) ≡ false) q (up (suc k) d (omega arith) (omega arith))

pub rising_of : (rs : List Rectangle) → IsSortedByKey lower int_cmp rs → AreRising rs
rising_of [] up = pairs_none NoHigher
rising_of (r ∷ []) up = pairs_one NoHigher r
rising_of (r ∷ s ∷ ss) up =
    let rest : AreRising (s ∷ ss) = rising_of (s ∷ ss) (tail_sorted r (s ∷ ss) up) in
    let next : r.y1 ≤ℤ s.y1 = in_turn r s (up 0 r (omega arith) (omega arith)) in
    AllPairs-cons NoHigher r (s ∷ ss) (all_from_contains (NoHigher r) (s ∷ ss) (λ t c. later next rest t (contains_cons s ss t c))) rest
  where
    later : r.y1 ≤ℤ s.y1 → AreRising (s ∷ ss) → (t : Rectangle) → (s ≡ t) ⊎ Contains ss t → NoHigher r t
    later next rest t (inl e) = subst (NoHigher r) e next
    later next rest t (inr c) = let h = All-contains (NoHigher s) ss t (pairs_head NoHigher s ss rest) c in omega (arith, ints)

-- those that begin at a row or below stand before the others
pub parted : (y : ℤ) (rs : List Rectangle) → AreRising rs → IsPartitionedBy (λ (r : Rectangle). int_le r.y1 y) rs
parted y rs rising i j d le lt e =
    elim (cases_eq i j) [
      | inl same ↦ subst (λ k. int_le (get_or rs k d).y1 y ≡ true) (sym same) e
      | inr other ↦
          let h : (get_or rs i d).y1 ≤ℤ (get_or rs j d).y1 = rising i j d (omega arith) lt in
          let k : (get_or rs i d).y1 ≤ℤ y = omega (arith, ints) in
          grind (arith, ints)
    ]

pub rest_rising : (old rest : List Rectangle) → AreRising (old ++ rest) → AreRising rest
rest_rising [] rest rising = rising
rest_rising (r ∷ rs) rest rising = rest_rising rs rest (pairs_tail NoHigher r (rs ++ rest) rising)

-- the rectangles of a region are in this order
no_higher : (a b : Rectangle) → IsBlock a → Follows a b → a.y1 ≤ℤ b.y1
no_higher a b real (inl up) = let h = real.proper.high in omega (arith, ints)
no_higher a b real (inr (low, high, right)) = omega (arith, ints)

pub banded_rising : (rs : List Rectangle) → AreBanded rs → AreRising rs
banded_rising rs b i j d lt within = no_higher (get_or rs i d) (get_or rs j d) (b.blocks i d (omega arith)) (b.order i j d lt within)

-- the two parts of a list at the count of those that begin at a row or below
abbrev IsLow : ℤ → Rectangle → Type 0
IsLow y r = r.y1 ≤ℤ y

abbrev IsHigh : ℤ → Rectangle → Type 0
IsHigh y r = y <ℤ r.y1

abbrev pub begins_by : ℤ → Rectangle → Bool
begins_by y r = int_le r.y1 y

pub low_part : (y : ℤ) (rs : List Rectangle) (n : ℕ) → n ≤ length rs → AllWithin (λ (r : Rectangle). begins_by y r ≡ true) rs 0 n → All (IsLow y) (take n rs)
low_part y rs n le all k d lt = subst (IsLow y) (sym (get_or-take n rs k d (inside k lt))) (let e : int_le (get_or rs k d).y1 y ≡ true = all k d (omega arith) (inside k lt) in omega (arith, ints))
  where
    inside : (k : ℕ) → k < length (take n rs) → k < n
    inside k lt = omega (arith, lt, le, length-take n rs)

pub high_part : (y : ℤ) (rs : List Rectangle) (n : ℕ) → n ≤ length rs → AllWithin (λ (r : Rectangle). begins_by y r ≡ false) rs n (length rs) → All (IsHigh y) (drop n rs)
high_part y rs n le all k d lt = subst (IsHigh y) (sym (get_or-drop n rs k d)) (let e : int_le (get_or rs (n + k) d).y1 y ≡ false = all (n + k) d (omega arith) (inside k lt) in omega (arith, ints))
  where
    inside : (k : ℕ) → k < length (drop n rs) → n + k < length rs
    inside k lt = omega (arith, lt, le, length-drop n rs)

-- ---- what stands
alike : (a b : Bool) → (a ≡ true → b ≡ true) → (b ≡ true → a ≡ true) → a ≡ b
alike true b f g = sym (f refl)
alike false true f g = g refl
alike false false f g = refl

stands_none : (y : ℤ) (rs : List Rectangle) → All (IsHigh y) rs → filter (stands_at y) rs ≡ []
stands_none y [] all = refl
stands_none y (r ∷ rs) all = by (stands_at y r) refl (stands_none y rs (All-tail (IsHigh y) r rs all))
  where
    by : (b : Bool) → stands_at y r ≡ b → filter (stands_at y) rs ≡ [] → cond b (r ∷ filter (stands_at y) rs) (filter (stands_at y) rs) ≡ []
    by true e rest = let w = (within_decides r.y1 r.y2 y).0 e in let h = All-head (IsHigh y) r rs all in let l = w.0 in absurd (omega (arith, ints))
    by false e rest = rest

stands_higher : (y z : ℤ) → y ≤ℤ z → (rs : List Rectangle) → All (IsLow y) rs → filter (ends_above z) (filter (stands_at y) rs) ≡ filter (stands_at z) rs
stands_higher y z up [] all = refl
stands_higher y z up (r ∷ rs) all = by (stands_at y r) refl (stands_higher y z up rs (All-tail (IsLow y) r rs all)) (All-head (IsLow y) r rs all)
  where
    by : (b : Bool) → stands_at y r ≡ b → filter (ends_above z) (filter (stands_at y) rs) ≡ filter (stands_at z) rs → r.y1 ≤ℤ y → filter (ends_above z) (cond b (r ∷ filter (stands_at y) rs) (filter (stands_at y) rs)) ≡ cond (stands_at z r) (r ∷ filter (stands_at z) rs) (filter (stands_at z) rs)
    by true e rest low = both (ends_above z r) (stands_at z r) same
      where
        same : ends_above z r ≡ stands_at z r
        same = alike (ends_above z r) (stands_at z r) (λ h. (within_decides r.y1 r.y2 z).1 (omega (arith, ints), omega (arith, ints))) (λ h. let w = ((within_decides r.y1 r.y2 z).0 h).1 in grind (arith, ints))

        both : (a b : Bool) → a ≡ b → cond a (r ∷ filter (ends_above z) (filter (stands_at y) rs)) (filter (ends_above z) (filter (stands_at y) rs)) ≡ cond b (r ∷ filter (stands_at z) rs) (filter (stands_at z) rs)
        both true true q = ap (λ xs. r ∷ xs) rest
        both false false q = rest
        both true false q = absurd (true≢false q)
        both false true q = absurd (true≢false (sym q))
    by false e rest low = over (stands_at z r) refl
      where
        over : (b : Bool) → stands_at z r ≡ b → filter (ends_above z) (filter (stands_at y) rs) ≡ cond b (r ∷ filter (stands_at z) rs) (filter (stands_at z) rs)
        over true q = let w = ((within_decides r.y1 r.y2 z).0 q).1 in absurd (true≢false (sym ((within_decides r.y1 r.y2 y).1 (low, omega (arith, ints))) ∙ e))
        over false q = rest

pub none_begun : (all : List Rectangle) (y : ℤ) → IsUpTo all all [] y
none_begun all y = record { old = []; whole = refl; begun = All-nil (IsLow y); kept = λ z up. refl }

pub up_higher : (all rest standing : List Rectangle) (y z : ℤ) → y ≤ℤ z → IsUpTo all rest standing y → IsUpTo all rest standing z
up_higher all rest standing y z le u = record {
  old = u.old;
  whole = u.whole;
  begun = all_imply (IsLow y) (IsLow z) u.old (λ r l. omega (arith, ints)) u.begun;
  kept = λ w up. u.kept w (omega (arith, ints));
}

pub up_rising : (all rest standing : List Rectangle) (y : ℤ) → AreRising all → IsUpTo all rest standing y → AreRising rest
up_rising all rest standing y rising u = rest_rising u.old rest (subst AreRising u.whole rising)

-- what stands among those that began
began : (all rest standing new after : List Rectangle) (y : ℤ) → (u : IsUpTo all rest standing y) → (s : IsAdvanced rest standing y new after) → new ≡ filter (stands_at y) (u.old ++ s.begun)
began all rest standing new after y u s = s.made ∙ ap (λ xs. xs ++ filter (stands_at y) s.begun) (u.kept y (omega (arith, ints))) ∙ sym (filter-append (stands_at y) u.old s.begun)

append_three : (xs ys zs : List Rectangle) → xs ++ (ys ++ zs) ≡ (xs ++ ys) ++ zs
append_three [] ys zs = refl
append_three (x ∷ xs) ys zs = ap (λ ws. x ∷ ws) (append_three xs ys zs)

pub up_to_next : (all rest standing new after : List Rectangle) (y : ℤ) → IsUpTo all rest standing y → IsAdvanced rest standing y new after → IsUpTo all after new y
up_to_next all rest standing new after y u s = record {
  old = u.old ++ s.begun;
  whole = u.whole ∙ ap (λ xs. u.old ++ xs) s.whole ∙ append_three u.old s.begun after;
  begun = low;
  kept = λ z up. ap (filter (ends_above z)) (began all rest standing new after y u s) ∙ stands_higher y z up (u.old ++ s.begun) low;
}
  where
    low : All (IsLow y) (u.old ++ s.begun)
    low = All-append (IsLow y) u.old s.begun u.begun s.low

pub standing_here : (all rest standing new after : List Rectangle) (y : ℤ) → IsUpTo all rest standing y → IsAdvanced rest standing y new after → new ≡ filter (stands_at y) all
unfolding up_to_next
standing_here all rest standing new after y u s =
    let next = up_to_next all rest standing new after y u s in
    began all rest standing new after y u s
    ∙ sym (append-nil (filter (stands_at y) (u.old ++ s.begun)))
    ∙ ap (λ xs. filter (stands_at y) (u.old ++ s.begun) ++ xs) (sym (stands_none y after s.high))
    ∙ sym (filter-append (stands_at y) (u.old ++ s.begun) after)
    ∙ ap (filter (stands_at y)) (sym next.whole)

pub advanced_is : (rest standing dropped new begun after : List Rectangle) (y : ℤ) (n : ℕ) → n ≤ length rest → IsPartitionPoint (λ r. begins_by y r ≡ true) (λ r. begins_by y r ≡ false) rest n → begun ≡ take n rest → after ≡ drop n rest → dropped ≡ filter (ends_above y) standing → new ≡ dropped ++ filter (stands_at y) begun → IsAdvanced rest standing y new after
advanced_is rest standing dropped new begun after y n le parts front back gone add = record {
  begun = begun;
  whole = sym (take-append-drop n rest) ∙ ap (λ xs. xs ++ drop n rest) (sym front) ∙ ap (λ xs. begun ++ xs) (sym back);
  low = subst (All (IsLow y)) (sym front) (low_part y rest n le parts.0);
  high = subst (All (IsHigh y)) (sym back) (high_part y rest n le parts.1);
  made = add ∙ ap (λ xs. xs ++ filter (stands_at y) begun) gone;
}

-- one row further up
pub one_row_up : (all rest standing new after : List Rectangle) (y z : ℤ) → y ≤ℤ z → IsUpTo all rest standing y → IsAdvanced rest standing y new after → IsUpTo all after new z
one_row_up all rest standing new after y z le u s = up_higher all after new y z le (up_to_next all rest standing new after y u s)

-- ---- the order of a list plays no part
covers_moved : (xs ys : List Rectangle) (x y : ℤ) → IsPermutation xs ys → Covers xs x y → Covers ys x y
covers_moved xs ys x y p c = record { rect = c.rect; listed = Contains-permutation xs ys c.rect p c.listed; holds = c.holds }

pub made_moved : (op : Operation) (a b p q made : List Rectangle) → IsPermutation a p → IsPermutation b q → AreMadeOf op p q made → AreMadeOf op a b made
made_moved op a b p q made ap' bq m = record {
  banded = m.banded;
  same = λ x y. (λ c. meant_like op _ _ _ _ (first x y) (second x y) ((m.same x y).0 c), λ n. (m.same x y).1 (meant_like op _ _ _ _ ((first x y).1, (first x y).0) ((second x y).1, (second x y).0) n));
}
  where
    first : (x y : ℤ) → Covers p x y ↔ Covers a x y
    first x y = (covers_moved p a x y (IsPermutation-sym a p ap'), covers_moved a p x y ap')

    second : (x y : ℤ) → Covers q x y ↔ Covers b x y
    second x y = (covers_moved q b x y (IsPermutation-sym b q bq), covers_moved b q x y bq)
