-- The search for near parts misses none: of two near parts of a set, one is found behind the other.
use Rattle.std.proofs.Common.{◌≡◌, ℕ, zero, suc, ◌+◌, ◌-◌, ◌<◌, ◌≤◌, ℤ, pos, ◌≤ℤ◌, ◌<ℤ◌, ◌+ℤ◌, ◌-ℤ◌, List, [], ◌∷◌, ◌++◌, length, Bool, true, false, if◌then◌else◌, ◌||◌, int_lt, nat_lt, unsigned_abs, slice_get, Some, get_or, take, drop, arith, inl, inr, ◌⊎◌, refl, sym, subst, ap, ◌∙◌}
use Rattle.std.specs.Bool.{Decides}
use Rattle.std.specs.List.{All, AllPairs, flat_map}
use Rattle.std.proofs.lemmas.Int.{ints, by_lt_z}
use Rattle.std.proofs.lemmas.Bool.Decides.{Decides-and, Decides-or, Decides-ltb, Decides-like}
use Rattle.std.proofs.lemmas.List.{drop_more, take_all}
use Rattle.std.proofs.lemmas.List.Elements.{All-contains}
use Rattle.std.proofs.lemmas.List.Kept.{AllPairs-cons}
use Rattle.std.proofs.lemmas.Option.{slice_get_within}
use Rattle.cell_num.proofs.In.{In, contains_in, in_contains, in_append, in_pieces}
use Rattle.cell_num.proofs.Lists.{some_same, contains_get, all_from_contains}
use Rattle.cell_num.proofs.Pairs.{pairs_none, pairs_head, pairs_tail}
use Rattle.box_geom.specs.Rectangle.{Rectangle}
use Rattle.box_geom.specs.Regions.{IsBlock, AreBanded}
use Rattle.box_geom.proofs.Rising.{banded_rising}
use Rattle.box_geom.proofs.Spans.{int_lt_decides}
use Rattle.scmos_rules.specs.Near.{closer, close_upward, close_across, some_close, numbered, near_from, near_over, IsNumberedBlock}
use Rattle.scmos_rules.specs.declared.parts.NumberedBlock.{NumberedBlock}

-- the gap in x and the gap in y are below d, with the second one behind
pub record AreClose (d : ℕ) (a b : Rectangle) : Type 0 where
  pub left : b.x1 <ℤ (a.x2 +ℤ pos d)
  pub right : a.x1 <ℤ (b.x2 +ℤ pos d)
  pub low : b.y1 <ℤ (a.y2 +ℤ pos d)
  pub high : a.y1 <ℤ (b.y2 +ℤ pos d)

pub flip_close : (d : ℕ) (a b : Rectangle) → AreClose d a b → AreClose d b a
flip_close d a b c = record { left = c.right; right = c.left; low = c.high; high = c.low }

closer_decides : (d : ℕ) (end begin : ℤ) → Decides (closer d end begin) (begin <ℤ (end +ℤ pos d))
unfolding closer
closer_decides d end begin = Decides-like (int_lt begin end || nat_lt (unsigned_abs (begin -ℤ end)) d) there back (Decides-or (int_lt begin end) (nat_lt (unsigned_abs (begin -ℤ end)) d) (int_lt_decides begin end) (Decides-ltb (unsigned_abs (begin -ℤ end)) d))
  where
    there : (begin <ℤ end) ⊎ (unsigned_abs (begin -ℤ end) < d) → begin <ℤ (end +ℤ pos d)
    there (inl h) = omega (arith, ints)
    there (inr h) = omega (arith, ints)

    back : begin <ℤ (end +ℤ pos d) → (begin <ℤ end) ⊎ (unsigned_abs (begin -ℤ end) < d)
    back h = by_lt_z begin end (λ less. inl less) (λ most. inr (omega (arith, ints)))

across_close : (d : ℕ) (a b : Rectangle) → AreClose d a b → close_across d a b ≡ true
across_close d a b c = (Decides-and (closer d a.x2 b.x1) (closer d b.x2 a.x1) (closer_decides d a.x2 b.x1) (closer_decides d b.x2 a.x1)).1 (c.left, c.right)

abbrev NoHigher : NumberedBlock → NumberedBlock → Type 0
NoHigher a b = a.block.y1 ≤ℤ b.block.y1

-- parts in the order of their lower sides
abbrev pub AreUp : List NumberedBlock → Type 0
AreUp ps = AllPairs NoHigher ps

-- ---- the parts behind one
abbrev pub Within : {X : Type 0} → List X → List X → Type 0
Within {X} xs ys = (x : X) → In xs x → In ys x

pub put_left : {X : Type 0} (xs ys : List X) → Within xs (xs ++ ys)
put_left [] ys x i = absurd i
put_left (z ∷ zs) ys x (inl e) = inl e
put_left (z ∷ zs) ys x (inr i) = inr (put_left zs ys x i)

pub put_right : {X : Type 0} (xs ys : List X) → Within ys (xs ++ ys)
put_right [] ys x i = i
put_right (z ∷ zs) ys x i = inr (put_right zs ys x i)

close_in : (d : ℕ) (a c b : NumberedBlock) → In (some_close d a c) b → c ≡ b
close_in d a c b i = by (close_across d a.block c.block) i
  where
    by : (t : Bool) → In (if t then c ∷ [] else []) b → c ≡ b
    by true (inl e) = e
    by true (inr none') = absurd none'
    by false none' = absurd none'

pub near_in : (d : ℕ) (a : NumberedBlock) (bs : List NumberedBlock) (b : NumberedBlock) → In (near_from d a bs) b → In bs b
near_in d a [] b i = i
near_in d a (c ∷ cs) b i = by (close_upward d a.block c.block) (near_in d a cs b) i
  where
    by : (t : Bool) → (In (near_from d a cs) b → In cs b) → In (if t then some_close d a c ++ near_from d a cs else []) b → (c ≡ b) ⊎ In cs b
    by true rest j = elim (in_append (some_close d a c) (near_from d a cs) b j) [ inl k ↦ inl (close_in d a c b k) | inr k ↦ inr (rest k) ]
    by false rest j = absurd j

close_there : (d : ℕ) (a b : NumberedBlock) → AreClose d a.block b.block → In (some_close d a b) b
close_there d a b close = by (close_across d a.block b.block) refl
  where
    by : (t : Bool) → close_across d a.block b.block ≡ t → In (if t then b ∷ [] else []) b
    by true e = inl refl
    by false e = absurd (let t : close_across d a.block b.block ≡ true = across_close d a.block b.block close in cc (t, e))

near_found : (d : ℕ) (a : NumberedBlock) (bs : List NumberedBlock) (b : NumberedBlock) → AreUp bs → In bs b → AreClose d a.block b.block → In (near_from d a bs) b
near_found d a [] b up i close = absurd i
near_found d a (c ∷ cs) b up i close = by (close_upward d a.block c.block) refl (λ j. near_found d a cs b (pairs_tail NoHigher c cs up) j close) i
  where
    low : (closer d a.block.y2 c.block.y1 ≡ false) → c.block.y1 ≤ℤ b.block.y1 → ⊥
    low e le = let l = close.low in let t : closer d a.block.y2 c.block.y1 ≡ true = (closer_decides d a.block.y2 c.block.y1).1 (omega (arith, ints)) in cc (t, e)

    by : (t : Bool) → close_upward d a.block c.block ≡ t → (In cs b → In (near_from d a cs) b) → (c ≡ b) ⊎ In cs b → In (if t then some_close d a c ++ near_from d a cs else []) b
    by true e rest (inl same) = put_left (some_close d a c) (near_from d a cs) b (subst (λ z. In (some_close d a z) b) (sym same) (close_there d a b close))
    by true e rest (inr j) = put_right (some_close d a c) (near_from d a cs) b (rest j)
    by false e rest (inl same) = absurd (low e (subst (λ (z : NumberedBlock). c.block.y1 ≤ℤ z.block.y1) same (omega (arith, ints))))
    by false e rest (inr j) = absurd (low e (All-contains (NoHigher c) cs b (pairs_head NoHigher c cs up) (in_contains cs b j)))

-- one more part behind
pub near_step : (d : ℕ) (a : NumberedBlock) (bs : List NumberedBlock) (i : ℕ) (b : NumberedBlock) → i < length bs → b ≡ get_or bs i b → close_upward d a.block b.block ≡ true → near_from d a (drop i bs) ≡ some_close d a b ++ near_from d a (drop (i + 1) bs)
near_step d a bs i b lt is e = subst (λ z. near_from d a z ≡ some_close d a b ++ near_from d a (drop (i + 1) bs)) (sym (drop_more bs i b lt ∙ ap (λ z. z ∷ drop (i + 1) bs) (sym is))) (rw e refl)

pub near_end : (d : ℕ) (a : NumberedBlock) (bs : List NumberedBlock) (i : ℕ) (b : NumberedBlock) → i < length bs → b ≡ get_or bs i b → close_upward d a.block b.block ≡ false → near_from d a (drop i bs) ≡ []
near_end d a bs i b lt is e = subst (λ z. near_from d a z ≡ []) (sym (drop_more bs i b lt ∙ ap (λ z. z ∷ drop (i + 1) bs) (sym is))) (rw e refl)

-- ---- all pairs
pub record IsPair {X : Type 0} (f : NumberedBlock → NumberedBlock → List X) (ps : List NumberedBlock) (x : X) : Type 0 where
  pub one : NumberedBlock
  pub other : NumberedBlock
  pub one_in : In ps one
  pub other_in : In ps other
  pub inside : In (f one other) x

pub pair_of : {X : Type 0} (d : ℕ) (f : NumberedBlock → NumberedBlock → List X) (ps : List NumberedBlock) (x : X) → In (near_over d f ps) x → IsPair f ps x
pair_of d f [] x i = absurd i
pair_of d f (a ∷ rest) x i =
    elim (in_append (flat_map (f a) (near_from d a rest)) (near_over d f rest) x i) [
      | inl here ↦ let p = in_pieces (f a) (near_from d a rest) x here in record { one = a; other = p.of; one_in = inl refl; other_in = inr (near_in d a rest p.of p.listed); inside = p.inside }
      | inr more ↦ let p = pair_of d f rest x more in record { one = p.one; other = p.other; one_in = inr p.one_in; other_in = inr p.other_in; inside = p.inside }
    ]

in_flat : {X Y : Type 0} (f : X → List Y) (xs : List X) (z : X) → In xs z → Within (f z) (flat_map f xs)
in_flat f [] z i y j = absurd i
in_flat f (x ∷ xs) z (inl e) y j = put_left (f x) (flat_map f xs) y (subst (λ w. In (f w) y) (sym e) j)
in_flat f (x ∷ xs) z (inr i) y j = put_right (f x) (flat_map f xs) y (in_flat f xs z i y j)

pub pair_found : {X : Type 0} (d : ℕ) (f : NumberedBlock → NumberedBlock → List X) (ps : List NumberedBlock) (a b : NumberedBlock) → AreUp ps → In ps a → In ps b → AreClose d a.block b.block → (a ≡ b) ⊎ (Within (f a b) (near_over d f ps) ⊎ Within (f b a) (near_over d f ps))
pair_found d f [] a b up i j close = absurd i
pair_found d f (p ∷ ps) a b up (inl e) (inl g) close = inl (sym e ∙ g)
pair_found {X} d f (p ∷ ps) a b up (inl e) (inr j) close = inr (inl found)
  where
    found : Within (f a b) (near_over d f (p ∷ ps))
    found x k = put_left (flat_map (f p) (near_from d p ps)) (near_over d f ps) x (in_flat (f p) (near_from d p ps) b (near_found d p ps b (pairs_tail NoHigher p ps up) j (subst (λ (z : NumberedBlock). AreClose d z.block b.block) (sym e) close)) x (subst (λ z. In (f z b) x) (sym e) k))
pair_found {X} d f (p ∷ ps) a b up (inr i) (inl g) close = inr (inr found)
  where
    found : Within (f b a) (near_over d f (p ∷ ps))
    found x k = put_left (flat_map (f p) (near_from d p ps)) (near_over d f ps) x (in_flat (f p) (near_from d p ps) a (near_found d p ps a (pairs_tail NoHigher p ps up) i (subst (λ (z : NumberedBlock). AreClose d z.block a.block) (sym g) (flip_close d a.block b.block close))) x (subst (λ z. In (f z a) x) (sym g) k))
pair_found d f (p ∷ ps) a b up (inr i) (inr j) close =
    elim (pair_found d f ps a b (pairs_tail NoHigher p ps up) i j close) [
      | inl e ↦ inl e
      | inr (inl w) ↦ inr (inl (λ x k. put_right (flat_map (f p) (near_from d p ps)) (near_over d f ps) x (w x k)))
      | inr (inr w) ↦ inr (inr (λ x k. put_right (flat_map (f p) (near_from d p ps)) (near_over d f ps) x (w x k)))
    ]

-- ---- numbers are places in the list
pub record IsAt (k : ℕ) (rs : List Rectangle) (p : NumberedBlock) : Type 0 where
  pub at : ℕ
  pub number : p.number ≡ k + at
  pub is : slice_get rs at ≡ Some p.block

pub number_at : (k : ℕ) (rs : List Rectangle) (p : NumberedBlock) → In (numbered k rs) p → IsAt k rs p
number_at k [] p i = absurd i
number_at k (r ∷ rs) p (inl e) = subst (IsAt k (r ∷ rs)) e (record { at = 0; number = omega arith; is = refl })
number_at k (r ∷ rs) p (inr i) = let a = number_at (k + 1) rs p i in record { at = suc a.at; number = (let e = a.number in omega arith); is = a.is }

abbrev pub part_at : ℕ → Rectangle → NumberedBlock
part_at n r = record { number = n; block = r }

pub numbered_there : (k : ℕ) (rs : List Rectangle) (at : ℕ) (r : Rectangle) (n : ℕ) → slice_get rs at ≡ Some r → n ≡ k + at → In (numbered k rs) (part_at n r)
numbered_there k [] at r n is e = absurd (cc is)
numbered_there k (q ∷ qs) zero r n is e = let f : k ≡ n = omega arith in let g : q ≡ r = some_same q r is in inl (ap (λ m. record { number = m; block = q }) f ∙ ap (λ z. record { number = n; block = z }) g)
numbered_there k (q ∷ qs) (suc at) r n is e = inr (numbered_there (k + 1) qs at r n is (omega arith))

abbrev Lower : Rectangle → Rectangle → Type 0
Lower a b = a.y1 ≤ℤ b.y1

up_numbered : (k : ℕ) (rs : List Rectangle) → AllPairs Lower rs → AreUp (numbered k rs)
up_numbered k [] up = pairs_none NoHigher
up_numbered k (r ∷ rs) up = AllPairs-cons NoHigher (record { number = k; block = r }) (numbered (k + 1) rs) (all_from_contains (NoHigher (record { number = k; block = r })) (numbered (k + 1) rs) (λ p c. later p (number_at (k + 1) rs p (contains_in (numbered (k + 1) rs) p c)))) (up_numbered (k + 1) rs (pairs_tail Lower r rs up))
  where
    later : (p : NumberedBlock) → IsAt (k + 1) rs p → r.y1 ≤ℤ p.block.y1
    later p a = All-contains (Lower r) rs p.block (pairs_head Lower r rs up) (contains_get rs a.at p.block a.is)

pub parts_up : (rs : List Rectangle) → AreBanded rs → AreUp (numbered 0 rs)
parts_up rs b = up_numbered 0 rs (banded_rising rs b)

pub length_numbered : (k : ℕ) (rs : List Rectangle) → length (numbered k rs) ≡ length rs
length_numbered k [] = refl
length_numbered k (r ∷ rs) = omega (arith, length_numbered (k + 1) rs)

pub are_parts : (rs : List Rectangle) (n : ℕ) → AreBanded rs → n ≡ length rs → All (IsNumberedBlock n) (numbered 0 rs)
are_parts rs n banded e = all_from_contains (IsNumberedBlock n) (numbered 0 rs) (λ p c. part p (number_at 0 rs p (contains_in (numbered 0 rs) p c)))
  where
    part : (p : NumberedBlock) → IsAt 0 rs p → IsNumberedBlock n p
    part p a = let w = slice_get_within rs a.at p.block a.is in let m = a.number in record { number = omega arith; block = All-contains IsBlock rs p.block banded.blocks (contains_get rs a.at p.block a.is) }

pub near_parts : (n d : ℕ) (a : NumberedBlock) (bs : List NumberedBlock) → All (IsNumberedBlock n) bs → All (IsNumberedBlock n) (near_from d a bs)
near_parts n d a bs all = all_from_contains (IsNumberedBlock n) (near_from d a bs) (λ p c. All-contains (IsNumberedBlock n) bs p all (in_contains bs p (near_in d a bs p (contains_in (near_from d a bs) p c))))

-- the first part, and those behind it
pub first_part : (rest : List NumberedBlock) (a : NumberedBlock) → 1 ≤ length rest → a ≡ get_or rest 0 a → rest ≡ a ∷ take (length rest - 1) (drop 1 rest)
first_part [] a some is = absurd (omega (arith, some))
first_part (b ∷ bs) a some is = let e : length bs ≤ length (b ∷ bs) - 1 = omega arith in ap (λ z. z ∷ bs) (sym is) ∙ ap (λ zs. a ∷ zs) (sym (take_all (length (b ∷ bs) - 1) bs e))

-- one part after the other
pub append_three : {X : Type 0} (xs ys zs : List X) → (xs ++ ys) ++ zs ≡ xs ++ (ys ++ zs)
append_three [] ys zs = refl
append_three (x ∷ xs) ys zs = ap (λ ws. x ∷ ws) (append_three xs ys zs)

pub one_more_part : {X : Type 0} (d : ℕ) (f : NumberedBlock → NumberedBlock → List X) (rest behind near : List NumberedBlock) (a : NumberedBlock) (old new all : List X) → rest ≡ a ∷ behind → near ≡ near_from d a behind → new ≡ old ++ flat_map (f a) near → old ++ near_over d f rest ≡ all → new ++ near_over d f behind ≡ all
one_more_part d f rest behind near a old new all r n e done =
    ap (λ z. z ++ near_over d f behind) (e ∙ ap (λ z. old ++ flat_map (f a) z) n)
    ∙ append_three old (flat_map (f a) (near_from d a behind)) (near_over d f behind)
    ∙ ap (λ z. old ++ near_over d f z) (sym r)
    ∙ done
