-- The tracks of a way in order of their nets are its tracks, each net before the next.
use Rattle.std.proofs.Common.{ℕ, Bool, true, false, cond, ◌≡◌, ◌⊎◌, ◌<◌, ◌==◌, ◌∙◌, List, [], ◌∷◌, Option, Some, None, inl, inr, refl, ap, subst, arith, filter_map, Contains}
use Rattle.std.specs.List.{AllPairs, cons_option, find, range_with_len}
use Rattle.std.proofs.lemmas.Bool.{and_from, eq-eqb, eqb-true, lt-ltb}
use Rattle.std.proofs.lemmas.List.Elements.{All-contains}
use Rattle.std.proofs.lemmas.List.FromFn.{get_or-range_with_len, length-range_with_len}
use Rattle.std.proofs.lemmas.List.Kept.{AllPairs-cons}
use Rattle.cell_num.proofs.Lists.{Kept, all_from_contains, contains_cons, contains_filter_map, contains_here, contains_none, contains_there, kept_from, some_same}
use Rattle.cell_num.proofs.Pairs.{pairs_head, pairs_none, pairs_tail}
use Rattle.trail_log.specs.Order.{increases}
use Rattle.track_log.specs.Line.{track_rank}
use Rattle.track_ways.specs.declared.track.NetTrack.{NetTrack}
use Rattle.track_ways.specs.Tracks.{IsSingle}
use Rattle.track_ways.proofs.Complete.{in_range, net_same}
use Rattle.track_check.proofs.Listed.{same_track}
use Rattle.track_search.specs.InOrder.{in_order, track_in}

pub range_below : (n x : ℕ) → Contains (range_with_len 0 n) x → x < n
range_below n x there =
    let low : there.0 < n = omega (arith, there.1, length-range_with_len 0 n) in
    omega (arith, low, there.2, get_or-range_with_len 0 n there.0 x low)

range_ascends : (n : ℕ) → AllPairs (λ (a b : ℕ). a < b) (range_with_len 0 n)
range_ascends n i j d less short =
    let low : j < n = omega (arith, short, length-range_with_len 0 n) in
    omega (arith, less, get_or-range_with_len 0 n i d (omega (arith, less, low)), get_or-range_with_len 0 n j d low)

-- what `find` finds
record Found {X : Type 0} (p : X → Bool) (xs : List X) (x : X) : Type 0 where
  pub there : Contains xs x
  pub holds : p x ≡ true

find_is : {X : Type 0} (p : X → Bool) (xs : List X) (x : X) → find p xs ≡ Some x → Found p xs x
find_is p [] x e = absurd cc
find_is {X} p (y ∷ ys) x e = go (p y) refl e (λ later. find_is p ys x later)
  where
    go : (b : Bool) → p y ≡ b → cond b (Some y) (find p ys) ≡ Some x → (find p ys ≡ Some x → Found p ys x) → Found p (y ∷ ys) x
    go true h at more =
        let same : y ≡ x = some_same y x at in
        record { there = subst (Contains (y ∷ ys)) same (contains_here y ys); holds = subst (λ z. p z ≡ true) same h }
    go false h at more = let f : Found p ys x = more at in record { there = contains_there y ys x f.there; holds = f.holds }

record Finds {X : Type 0} (p : X → Bool) (xs : List X) : Type 0 where
  pub it : X
  pub is : find p xs ≡ Some it

finds : {X : Type 0} (p : X → Bool) (xs : List X) (x : X) → Contains xs x → p x ≡ true → Finds p xs
finds p [] x there e = absurd (contains_none x there)
finds {X} p (y ∷ ys) x there e = go (p y) refl (contains_cons y ys x there) (λ later. finds p ys x later e)
  where
    go : (b : Bool) → p y ≡ b → (y ≡ x) ⊎ Contains ys x → (Contains ys x → Finds p ys) → Finds p (y ∷ ys)
    go true h at more = record { it = y; is = ap (λ (b : Bool). cond b (Some y) (find p ys)) h }
    go false h (inl same) more = absurd (let no' : p x ≡ false = subst (λ z. p z ≡ false) same h in cc)
    go false h (inr later) more = let f : Finds p ys = more later in record { it = f.it; is = ap (λ (b : Bool). cond b (Some y) (find p ys)) h ∙ f.is }

-- pairs of what `filter_map` gives
pairs_filter_map : {X Y : Type 0} (S : X → X → Type 0) (R : Y → Y → Type 0) (h : X → Option Y) (xs : List X) → ((x z : X) (y w : Y) → S x z → h x ≡ Some y → h z ≡ Some w → R y w) → AllPairs S xs → AllPairs R (filter_map h xs)
pairs_filter_map S R h [] step pairs = pairs_none R
pairs_filter_map {X} {Y} S R h (x ∷ xs) step pairs = go (h x) refl (pairs_filter_map S R h xs step (pairs_tail S x xs pairs))
  where
    go : (o : Option Y) → h x ≡ o → AllPairs R (filter_map h xs) → AllPairs R (cons_option o (filter_map h xs))
    go None e rest = rest
    go (Some y) e rest = AllPairs-cons R y (filter_map h xs) (all_from_contains (R y) (filter_map h xs) (λ w there.
        let k : Kept h xs w = kept_from h xs w there in
        step x k.from y w (All-contains (S x) xs k.from (pairs_head S x xs pairs) k.there) e k.gives)) rest

-- what is listed in order, and where it is from
pub record From (nets : ℕ) (way : List NetTrack) (t : NetTrack) : Type 0 where
  pub there : Contains way t
  pub low : t.net.0 < nets

net_found : (way : List NetTrack) (net : ℕ) (t : NetTrack) → track_in way net ≡ Some t → t.net.0 ≡ net
net_found way net t e =
    let f : Found (λ (u : NetTrack). u.net.0 == net) way t = find_is (λ (u : NetTrack). u.net.0 == net) way t e in
    eqb-true t.net.0 net f.holds

pub in_order_from : (nets : ℕ) (way : List NetTrack) (t : NetTrack) → Contains (in_order nets way) t → From nets way t
in_order_from nets way t there =
    let k : Kept (track_in way) (range_with_len 0 nets) t = kept_from (track_in way) (range_with_len 0 nets) t there in
    let f : Found (λ (u : NetTrack). u.net.0 == k.from) way t = find_is (λ (u : NetTrack). u.net.0 == k.from) way t k.gives in
    record { there = f.there; low = omega (arith, range_below nets k.from k.there, net_found way k.from t k.gives) }

pub in_order_to : (nets : ℕ) (way : List NetTrack) (t : NetTrack) → IsSingle way → t.net.0 < nets → Contains way t → Contains (in_order nets way) t
in_order_to nets way t one low there =
    let f : Finds (λ (u : NetTrack). u.net.0 == t.net.0) way = finds (λ (u : NetTrack). u.net.0 == t.net.0) way t there (eq-eqb t.net.0 t.net.0 refl) in
    let is : Found (λ (u : NetTrack). u.net.0 == t.net.0) way f.it = find_is (λ (u : NetTrack). u.net.0 == t.net.0) way f.it f.is in
    let net : f.it.net.0 ≡ t.net.0 = eqb-true f.it.net.0 t.net.0 is.holds in
    let same : f.it ≡ t = same_track f.it t (net_same f.it.net t.net net) (one f.it t is.there there net) in
    contains_filter_map (track_in way) (range_with_len 0 nets) t.net.0 t (in_range nets t.net.0 low) (f.is ∙ ap (λ (z : NetTrack). Some z) same)

-- numbers of which each is less than the next
pub increases_from : {A : Type 0} (rank : A → ℕ) (xs : List A) → AllPairs (λ a b. rank a < rank b) xs → increases rank xs ≡ true
increases_from rank [] h = refl
increases_from rank (x ∷ []) h = refl
increases_from {A} rank (x ∷ y ∷ ys) h =
    let first : rank x < rank y = All-contains (λ (b : A). rank x < rank b) (y ∷ ys) y (pairs_head (λ (a b : A). rank a < rank b) x (y ∷ ys) h) (contains_here y ys) in
    and_from _ _ (lt-ltb (rank x) (rank y) first) (increases_from rank (y ∷ ys) (pairs_tail (λ (a b : A). rank a < rank b) x (y ∷ ys) h))

pub in_order_increases : (nets : ℕ) (way : List NetTrack) → increases track_rank (in_order nets way) ≡ true
in_order_increases nets way =
    increases_from track_rank (in_order nets way) (pairs_filter_map (λ (a b : ℕ). a < b) (λ (t u : NetTrack). t.net.0 < u.net.0) (track_in way) (range_with_len 0 nets)
    (λ x z t u less first second. omega (arith, less, net_found way x t first, net_found way z u second)) (range_ascends nets))
