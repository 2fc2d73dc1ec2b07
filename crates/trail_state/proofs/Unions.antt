-- The nodes that pass one test or another are those of both lists merged.
use Rattle.std.proofs.Common.{ℕ, suc, zero, ◌≡◌, ◌+◌, ◌*◌, ◌<◌, ◌||◌, Bool, true, false, cond, List, [], ◌∷◌, ◌++◌, None, Some, length, get_or, map, take, refl, sym, ap, arith, ◌∙◌}
use Rattle.std.specs.Cmp.{nat_cmp_is}
use Rattle.std.specs.declared.cmp.Ordering.TheVariants.{Less, Equal, Greater}
use Rattle.std.specs.List.{filter, range_with_len}
use Rattle.std.specs.Set.{sorted_merge}
use Rattle.std.proofs.lemmas.List.{take_more}
use Rattle.std.proofs.lemmas.List.Folds.{list_any-append}
use Rattle.cell_num.specs.declared.net.NetNo.{NetNo}
use Rattle.cell_num.specs.declared.finger.Fingers.{Fingers}
use Rattle.trail_state.specs.declared.edge.Node.{Node}
use Rattle.trail_state.specs.Places.{node_at}
use Rattle.trail_state.specs.Levels.{AreLevels, StopsAt, first_long, first_now}
use Rattle.trail_state.specs.declared.level.Level.{Level}
use Rattle.trail_state.specs.declared.level.LevelStop.{LevelStop}
use Rattle.trail_state.specs.declared.level.LevelStop.TheVariants as stop
use Rattle.trail_state.specs.Nodes.{any_can_meet, can_meet, node_cmp, nodes_of, open_nodes}
use Rattle.trail_state.specs.Pairings.{has_long_front}
use Rattle.trail_state.proofs.Blocks.{none_pass}

abbrev pub nodes_from : (ℕ → Bool) → ℕ → ℕ → List Node
nodes_from p a n = map node_at (filter p (range_with_len a n))

abbrev pub merged : List Node → List Node → List Node
merged xs ys = sorted_merge node_cmp true xs ys

-- the nodes begin behind this number
abbrev BeginBehind : ℕ → List Node → Type 0
BeginBehind x [] = Unit {0}
BeginBehind x (y ∷ ys) = x < y.0

begin_behind : (p : ℕ → Bool) (x a n : ℕ) → x < a → BeginBehind x (nodes_from p a n)
begin_behind p x a zero less = tt
begin_behind p x a (suc n) less = at (p a) (begin_behind p x (a + 1) n (omega (arith, less)))
  where
    at : (b : Bool) → BeginBehind x (nodes_from p (a + 1) n) → BeginBehind x (map node_at (cond b (a ∷ filter p (range_with_len (a + 1) n)) (filter p (range_with_len (a + 1) n))))
    at true rest = less
    at false rest = rest

alone : (xs : List Node) → merged xs [] ≡ xs
alone [] = refl
alone (x ∷ xs) = refl

first_goes : (x : ℕ) (xs ys : List Node) → BeginBehind x ys → merged (node_at x ∷ xs) ys ≡ node_at x ∷ merged xs ys
first_goes x xs [] less = ap (λ l. node_at x ∷ l) (sym (alone xs))
first_goes x xs (y ∷ ys) less = rw (sym (nat_cmp_is x y.0 Less less)) refl

second_goes : (y : ℕ) (xs ys : List Node) → BeginBehind y xs → merged xs (node_at y ∷ ys) ≡ node_at y ∷ merged xs ys
second_goes y [] ys less = refl
second_goes y (x ∷ xs) ys less = rw (sym (nat_cmp_is x.0 y Greater less)) refl

both_go : (x : ℕ) (xs ys : List Node) → merged (node_at x ∷ xs) (node_at x ∷ ys) ≡ node_at x ∷ merged xs ys
both_go x xs ys = rw (sym (nat_cmp_is x x Equal refl)) refl

pub merged_tests : (p q : ℕ → Bool) (a n : ℕ) → merged (nodes_from p a n) (nodes_from q a n) ≡ nodes_from (λ v. p v || q v) a n
merged_tests p q a zero = refl
merged_tests p q a (suc n) = at (p a) (q a) (merged_tests p q (a + 1) n)
  where
    at : (b c : Bool) → merged (nodes_from p (a + 1) n) (nodes_from q (a + 1) n) ≡ nodes_from (λ v. p v || q v) (a + 1) n
        → merged (map node_at (cond b (a ∷ filter p (range_with_len (a + 1) n)) (filter p (range_with_len (a + 1) n)))) (map node_at (cond c (a ∷ filter q (range_with_len (a + 1) n)) (filter q (range_with_len (a + 1) n))))
        ≡ map node_at (cond (b || c) (a ∷ filter (λ v. p v || q v) (range_with_len (a + 1) n)) (filter (λ v. p v || q v) (range_with_len (a + 1) n)))
    at true true rest = both_go a (nodes_from p (a + 1) n) (nodes_from q (a + 1) n) ∙ ap (λ l. node_at a ∷ l) rest
    at true false rest = first_goes a (nodes_from p (a + 1) n) (nodes_from q (a + 1) n) (begin_behind q a (a + 1) n (omega arith)) ∙ ap (λ l. node_at a ∷ l) rest
    at false true rest = second_goes a (nodes_from p (a + 1) n) (nodes_from q (a + 1) n) (begin_behind p a (a + 1) n (omega arith)) ∙ ap (λ l. node_at a ∷ l) rest
    at false false rest = rest

-- the nodes of one gate more, which stands first
pub gate_first : (f : Fingers) (gate : NetNo) (later : List NetNo) → merged (nodes_of f gate.0) (open_nodes f later) ≡ open_nodes f (gate ∷ later)
gate_first f gate later = merged_tests (can_meet f gate.0) (any_can_meet f later) 0 (256 * f.nets)

-- one that stands last
pub gate_last : (f : Fingers) (gates : List NetNo) (gate : NetNo) → merged (nodes_of f gate.0) (open_nodes f gates) ≡ open_nodes f (gates ++ gate ∷ [])
gate_last f gates gate =
    merged_tests (can_meet f gate.0) (any_can_meet f gates) 0 (256 * f.nets)
    ∙ λ i. map node_at (filter (λ v. either v i) (range_with_len 0 (256 * f.nets)))
  where
    turned : (a b : Bool) → (a || b) ≡ (b || (a || false))
    turned true true = refl
    turned true false = refl
    turned false true = refl
    turned false false = refl

    either : (v : ℕ) → (can_meet f gate.0 v || any_can_meet f gates v) ≡ any_can_meet f (gates ++ gate ∷ []) v
    either v = turned (can_meet f gate.0 v) (any_can_meet f gates v) ∙ sym (list_any-append (λ (g : NetNo). can_meet f g.0 v) gates (gate ∷ []))

-- the loop over the gates
pub one_gate_more : (f : Fingers) (gates : List NetNo) (i : ℕ) (d gate : NetNo) (now next : List Node) → i < length gates → gate ≡ get_or gates i d → now ≡ open_nodes f (take i gates) → next ≡ merged (nodes_of f gate.0) now → next ≡ open_nodes f (take (i + 1) gates)
one_gate_more f gates i d gate now next less is so_far merges =
    merges ∙ ap (merged (nodes_of f gate.0)) so_far ∙ gate_last f (take i gates) gate ∙ ap (λ g. open_nodes f (take i gates ++ g ∷ [])) is ∙ ap (open_nodes f) (sym (take_more gates i d less))

pub no_gates : (f : Fingers) → open_nodes f [] ≡ []
no_gates f = ap (map node_at) (none_pass (λ v. false) 0 (256 * f.nets) (λ v _. refl))

-- the first level has the nodes of the whole order
pub first_is : (f : Fingers) (order : List NetNo) (levels : List Level) → AreLevels f order levels → first_now levels ≡ open_nodes f order
first_is f [] [] are = sym (no_gates f)
first_is f (g ∷ gs) (l ∷ ls) are = are.0.now
first_is f [] (l ∷ ls) are = absurd are
first_is f (g ∷ gs) [] are = absurd are

-- ---- the first gate with too many ways

pub none_long : (most : ℕ) (f : Fingers) (order : List NetNo) → length order ≡ 0 → first_long most f order ≡ None
none_long most f [] none = refl
none_long most f (g ∷ gs) none = absurd (omega (arith, none))

pub long_first : (most : ℕ) (f : Fingers) (gate : NetNo) (later : List NetNo) → has_long_front most f gate.0 ≡ true → first_long most f (gate ∷ later) ≡ Some gate
long_first most f gate later on = ap (λ b. cond b (Some gate) (first_long most f later)) on

pub long_later : (most : ℕ) (f : Fingers) (gate : NetNo) (later : List NetNo) → has_long_front most f gate.0 ≡ false → first_long most f (gate ∷ later) ≡ first_long most f later
long_later most f gate later off = ap (λ b. cond b (Some gate) (first_long most f later)) off

pub stops_later : (most : ℕ) (f : Fingers) (gate : NetNo) (later : List NetNo) (why : LevelStop) → has_long_front most f gate.0 ≡ false → StopsAt most f later why → StopsAt most f (gate ∷ later) why
stops_later most f gate later (stop.Long other) off first = long_later most f gate later off ∙ first
stops_later most f gate later stop.NoMemory off done = tt
