-- Nets are marked that are touched.
use Rattle.std.proofs.Common.{ℕ, ◌≡◌, ◌+◌, ◌<◌, ◌==◌, ◌||◌, Bool, true, false, cond, ltb, List, replicate, inl, inr, refl, sym, ap, subst, arith, ◌∙◌}
use Rattle.std.proofs.lemmas.Bool.{cases_eq, lt-ltb}
use Rattle.cell_num.specs.declared.finger.Row.TheVariants.{P, N}
use Rattle.row_trails.specs.Counts.{flag}
use Rattle.row_state.specs.declared.kind.Kind.{Kind}
use Rattle.row_state.specs.declared.kind.Kinds.{Kinds}
use Rattle.row_state.specs.declared.state.State.{State}
use Rattle.track_ways.proofs.LineParts.{same_tests}
use Rattle.track_ways.proofs.Tables.{none_marked}
use Rattle.track_ways.specs.Lines.{is_net}
use Rattle.track_ways.specs.States.{is_still_ahead, touched_here, touched_left}
use Rattle.track_ways.specs.Tables.{marked}
use Rattle.track_ways.specs.Ways.{net_of}
use Rattle.track_check.specs.Touches.{counted_if, kind_touches, row_touches}
use Rattle.track_check.proofs.Counting.{row_touched}

or_false : (b : Bool) → (b || false) ≡ b
or_false true = refl
or_false false = refl

or_three : (a b c : Bool) → ((a || b) || c) ≡ (a || (b || c))
or_three true b c = refl
or_three false b c = refl

or_four : (a b c d : Bool) → (((a || b) || c) || d) ≡ (a || ((b || c) || d))
or_four true b c d = refl
or_four false b c d = refl

-- a sum is some where one of its parts is
or_sum : (m n : ℕ) → (ltb 0 m || ltb 0 n) ≡ ltb 0 (m + n)
or_sum m n = elim (cases_eq m 0) [
  | inl e ↦
      let none : ltb 0 m ≡ false = ap (λ z. ltb 0 z) e in
      let sum : n ≡ m + n = omega (arith, e) in
      ap (λ b. b || ltb 0 n) none ∙ ap (λ z. ltb 0 z) sum
  | inr ne ↦
      let some : ltb 0 m ≡ true = lt-ltb 0 m (omega (arith, ne)) in
      let whole : ltb 0 (m + n) ≡ true = lt-ltb 0 (m + n) (omega (arith, ne)) in
      ap (λ b. b || ltb 0 n) some ∙ sym whole
]

-- ---- one kind

if_none : (b : Bool) → counted_if b 0 ≡ 0
if_none true = refl
if_none false = refl

none_touched : (a b c : Bool) → ltb 0 (counted_if a 0 + counted_if b 0 + counted_if c 0) ≡ false
none_touched a b c =
    let none : counted_if a 0 + counted_if b 0 + counted_if c 0 ≡ 0 = omega (arith, if_none a, if_none b, if_none c) in
    ap (λ z. ltb 0 z) none

some_touched : (a b c : Bool) (n : ℕ) → 0 < n → ((a || b) || c) ≡ ltb 0 (counted_if a n + counted_if b n + counted_if c n)
some_touched true b c n some = sym (lt-ltb 0 (n + counted_if b n + counted_if c n) (omega (arith, some)))
some_touched false true c n some = sym (lt-ltb 0 (0 + n + counted_if c n) (omega (arith, some)))
some_touched false false true n some = sym (lt-ltb 0 (0 + 0 + n) (omega (arith, some)))
some_touched false false false n some = refl

-- no finger is left
pub kind_untouched : (old : Bool) (u : ℕ) (k : Kind) (count : ℕ) → count ≡ 0 → old ≡ (old || ltb 0 (kind_touches u (k, count)))
kind_untouched old u k count none =
    let here : ltb 0 (kind_touches u (k, count)) ≡ false = subst (λ n. ltb 0 (kind_touches u (k, n)) ≡ false) (sym none) (none_touched (k.lo.0 == u) (k.hi.0 == u) (k.gate.0 == u)) in
    sym (or_false old) ∙ ap (λ b. old || b) (sym here)

pub kind_touched : (old one two three : Bool) (u : ℕ) (k : Kind) (count : ℕ) → (count ≡ 0 → ⊥) → one ≡ (old || (k.lo.0 == u)) → two ≡ (one || (k.hi.0 == u)) → three ≡ (two || (k.gate.0 == u)) → three ≡ (old || ltb 0 (kind_touches u (k, count)))
kind_touched old one two three u k count some first second third =
    let positive : 0 < count = omega (arith, some) in
    third
    ∙ ap (λ b. b || (k.gate.0 == u)) (second ∙ ap (λ b. b || (k.hi.0 == u)) first)
    ∙ or_four old (k.lo.0 == u) (k.hi.0 == u) (k.gate.0 == u)
    ∙ ap (λ b. old || b) (some_touched (k.lo.0 == u) (k.hi.0 == u) (k.gate.0 == u) count positive)

-- ---- the kinds of a row, of which the rest is to come

pub marked_on : (old new all : Bool) (here rest whole : ℕ) → new ≡ (old || ltb 0 here) → whole ≡ here + rest → (old || ltb 0 whole) ≡ all → (new || ltb 0 rest) ≡ all
marked_on old new all here rest whole is sum before =
    ap (λ b. b || ltb 0 rest) is
    ∙ or_three old (ltb 0 here) (ltb 0 rest)
    ∙ ap (λ b. old || b) (or_sum here rest)
    ∙ ap (λ n. old || ltb 0 n) (sym sum)
    ∙ before

pub marked_done : (new all : Bool) (rest : ℕ) → rest ≡ 0 → (new || ltb 0 rest) ≡ all → new ≡ all
marked_done new all rest none before = sym (or_false new) ∙ ap (λ n. new || ltb 0 n) (sym none) ∙ before

-- ---- both rows and both ends

pub none_at : (u : ℕ) → flag (replicate 256 false) u ≡ false
none_at u = ap (λ test. test (net_of u)) none_marked

ends_touched : (a b : Bool) → (a || b) ≡ ltb 0 (cond a 1 0 + cond b 1 0)
ends_touched true true = refl
ends_touched true false = refl
ends_touched false true = refl
ends_touched false false = refl

parts_touched : (p n ends : ℕ) (a b : Bool) → (a || b) ≡ ltb 0 ends → ((((false || ltb 0 p) || ltb 0 n) || a) || b) ≡ ltb 0 ((p + n) + ends)
parts_touched p n ends a b is =
    or_three (ltb 0 p || ltb 0 n) a b
    ∙ ap (λ z. z || (a || b)) (or_sum p n)
    ∙ ap (λ z. ltb 0 (p + n) || z) is
    ∙ or_sum (p + n) ends

pub all_marked : (k : Kinds) (s : State) (table : List Bool) → ((u : ℕ) → flag table u ≡ ((((false || ltb 0 (row_touches k.p s.p_left u)) || ltb 0 (row_touches k.n s.n_left u)) || is_net s.p_end (net_of u)) || is_net s.n_end (net_of u))) → marked table ≡ is_still_ahead k s
all_marked k s table each = same_tests (marked table) (is_still_ahead k s) (λ net.
    let sum : (row_touches k.p s.p_left net.0 + row_touches k.n s.n_left net.0) + touched_here s net ≡ touched_left k s net + touched_here s net = omega (arith, row_touched P k.p s.p_left net, row_touched N k.n s.n_left net) in
    each net.0
    ∙ parts_touched (row_touches k.p s.p_left net.0) (row_touches k.n s.n_left net.0) (touched_here s net) (is_net s.p_end net) (is_net s.n_end net) (ends_touched (is_net s.p_end net) (is_net s.n_end net))
    ∙ ap (λ z. ltb 0 z) sum)
