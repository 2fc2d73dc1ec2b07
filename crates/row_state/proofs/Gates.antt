-- The gates that have kinds, one after the other.
use Rattle.std.specs.Prelude.{ℕ, zero, suc, ◌≡◌, ◌+◌, ◌*◌, ◌<◌, ◌≤◌, Bool, true, ◌&&◌, min, List, length, get_or, slice_get, Option, Some, None, AllPairs}
use Rattle.std.proofs.Common.{refl, sym, ap, subst, arith, ◌∙◌, inl, inr}
use Rattle.std.proofs.lemmas.Bool.{cases_lt}
use Rattle.std.proofs.lemmas.Option.{get_or_from_slice_get, none-some, same_Some, slice_get-get_or, slice_get_within}
use Rattle.cell_num.proofs.Lists.{all_at}
use Rattle.cell_num.specs.Fingers.{sum_below}
use Rattle.cell_num.specs.declared.finger.Row.{Row}
use Rattle.cell_num.specs.declared.finger.Row.TheVariants.{P, N}
use Rattle.row_state.specs.declared.gate.Cursor.{Cursor}
use Rattle.row_state.specs.declared.kind.Kind.{Kind}
use Rattle.row_state.specs.declared.kind.Kinds.{Kinds}
use Rattle.row_state.specs.declared.state.State.{State}
use Rattle.row_state.specs.Order.{KindBefore}
use Rattle.row_state.specs.Runs.{GatesFrom, IsCursor, IsLast, IsNext}
use Rattle.row_state.specs.Start.{AreSomeKinds, IsKind, counts_of}
use Rattle.row_state.specs.Tests.{empty_test, gate_left, keeps_lead, leads_below, lower_gate}
use Rattle.row_state.proofs.Runs.{begins_here, begins_last, first_gates, left_behind, left_from}

pub cursor_at_first : (k : Kinds) → IsCursor k (record { gate = 0; p = 0; n = 0 })
cursor_at_first k = record { p = first_gates k.p; n = first_gates k.n; gate = omega arith }

-- the kinds of a higher gate begin here too, where the next kind's gate is not lower
later : (kinds : List Kind) (at gate next : ℕ) → AllPairs KindBefore kinds → GatesFrom kinds gate at → gate ≤ next → ((x : Kind) → slice_get kinds at ≡ Some x → next ≤ x.gate.0) → GatesFrom kinds next at
later kinds at gate next order h le here =
    let blank : Kind = record { gate = record { 0 = 0 }; lo = record { 0 = 0 }; hi = record { 0 = 0 }; width = 0; count = 0 } in
    let lower : (i : ℕ) (d : Kind) → i < at → (get_or kinds i d).gate.0 < next = λ i d l. omega (arith, h.lower i d l, le) in
    elim (cases_lt at (length kinds)) [
      | inl l ↦ begins_here kinds next at blank order l lower (here (get_or kinds at blank) (slice_get-get_or kinds at blank l))
      | inr l ↦ begins_last kinds next at (omega (arith, l, h.within)) lower
    ]

-- the next kind has no lower gate
gate_from : (kinds : List Kind) (at gate : ℕ) (x : Kind) → GatesFrom kinds gate at → slice_get kinds at ≡ Some x → gate ≤ x.gate.0
gate_from kinds at gate x h is =
    let same : get_or kinds at x ≡ x = get_or_from_slice_get kinds at x x is in
    subst (λ (y : Kind). gate ≤ y.gate.0) same (h.rest at x (omega arith) (slice_get_within kinds at x is))

next_cases : (k : Kinds) (cursor : Cursor) (next : ℕ) (a b : Option Kind) → AreSomeKinds k → IsCursor k cursor → slice_get k.p cursor.p ≡ a → slice_get k.n cursor.n ≡ b → lower_gate a b ≡ Some next → IsNext k cursor next
next_cases k cursor next (Some a) (Some b) some h p n is =
    let e : min a.gate.0 b.gate.0 ≡ next = same_Some (min a.gate.0 b.gate.0) next is in
    let a_kind : IsKind k.nets a = all_at (IsKind k.nets) k.p cursor.p a some.p p in
    let from : cursor.gate ≤ next = omega (arith, e, gate_from k.p cursor.p cursor.gate a h.p p, gate_from k.n cursor.n cursor.gate b h.n n) in
    record {
      p = later k.p cursor.p cursor.gate next some.p_order h.p from (λ x q. let same : a ≡ x = same_Some a x (sym p ∙ q) in omega (arith, e, ap (λ (y : Kind). y.gate.0) same));
      n = later k.n cursor.n cursor.gate next some.n_order h.n from (λ x q. let same : b ≡ x = same_Some b x (sym n ∙ q) in omega (arith, e, ap (λ (y : Kind). y.gate.0) same));
      from = from;
      below = omega (arith, e, a_kind.gate);
    }
next_cases k cursor next (Some a) None some h p n is =
    let e : a.gate.0 ≡ next = same_Some a.gate.0 next is in
    let a_kind : IsKind k.nets a = all_at (IsKind k.nets) k.p cursor.p a some.p p in
    let from : cursor.gate ≤ next = omega (arith, e, gate_from k.p cursor.p cursor.gate a h.p p) in
    record {
      p = later k.p cursor.p cursor.gate next some.p_order h.p from (λ x q. let same : a ≡ x = same_Some a x (sym p ∙ q) in omega (arith, e, ap (λ (y : Kind). y.gate.0) same));
      n = later k.n cursor.n cursor.gate next some.n_order h.n from (λ x q. absurd (none-some x (sym n ∙ q)));
      from = from;
      below = omega (arith, e, a_kind.gate);
    }
next_cases k cursor next None (Some b) some h p n is =
    let e : b.gate.0 ≡ next = same_Some b.gate.0 next is in
    let b_kind : IsKind k.nets b = all_at (IsKind k.nets) k.n cursor.n b some.n n in
    let from : cursor.gate ≤ next = omega (arith, e, gate_from k.n cursor.n cursor.gate b h.n n) in
    record {
      p = later k.p cursor.p cursor.gate next some.p_order h.p from (λ x q. absurd (none-some x (sym p ∙ q)));
      n = later k.n cursor.n cursor.gate next some.n_order h.n from (λ x q. let same : b ≡ x = same_Some b x (sym n ∙ q) in omega (arith, e, ap (λ (y : Kind). y.gate.0) same));
      from = from;
      below = omega (arith, e, b_kind.gate);
    }
next_cases k cursor next None None some h p n is = absurd (none-some next is)

pub next_is : (k : Kinds) (cursor : Cursor) (next : ℕ) → AreSomeKinds k → IsCursor k cursor → lower_gate (slice_get k.p cursor.p) (slice_get k.n cursor.n) ≡ Some next → IsNext k cursor next
next_is k cursor next some h is = next_cases k cursor next (slice_get k.p cursor.p) (slice_get k.n cursor.n) some h refl refl is

last_cases : (k : Kinds) (cursor : Cursor) (a b : Option Kind) → AreSomeKinds k → IsCursor k cursor → slice_get k.p cursor.p ≡ a → slice_get k.n cursor.n ≡ b → lower_gate a b ≡ None → IsLast k cursor
last_cases k cursor (Some a) (Some b) some h p n is = absurd (none-some (min a.gate.0 b.gate.0) (sym is))
last_cases k cursor (Some a) None some h p n is = absurd (none-some a.gate.0 (sym is))
last_cases k cursor None (Some b) some h p n is = absurd (none-some b.gate.0 (sym is))
last_cases k cursor None None some h p n is =
    record {
      p = later k.p cursor.p cursor.gate k.nets some.p_order h.p h.gate (λ x q. absurd (none-some x (sym p ∙ q)));
      n = later k.n cursor.n cursor.gate k.nets some.n_order h.n h.gate (λ x q. absurd (none-some x (sym n ∙ q)));
    }

pub last_is : (k : Kinds) (cursor : Cursor) → AreSomeKinds k → IsCursor k cursor → lower_gate (slice_get k.p cursor.p) (slice_get k.n cursor.n) ≡ None → IsLast k cursor
last_is k cursor some h is = last_cases k cursor (slice_get k.p cursor.p) (slice_get k.n cursor.n) some h refl refl is

-- a gate between has no fingers
none_between : (kinds : List Kind) (counts : List ℕ) (at from to gate : ℕ) → GatesFrom kinds from at → GatesFrom kinds to at → from ≤ gate → gate < to → gate_left kinds counts gate ≡ 0
none_between kinds counts at from to gate a b above below =
    let here : GatesFrom kinds gate at = record { within = a.within; lower = λ i d l. omega (arith, a.lower i d l, above); rest = λ i d l m. omega (arith, b.rest i d l m, below) } in
    let behind : GatesFrom kinds (gate + 1) at = record { within = a.within; lower = λ i d l. omega (arith, a.lower i d l, above); rest = λ i d l m. omega (arith, b.rest i d l m, below) } in
    sym (left_from kinds counts gate at here) ∙ left_behind kinds counts gate at behind

sum_to : (f : ℕ → ℕ) (from to : ℕ) → from ≤ to → ((g : ℕ) → from ≤ g → g < to → f g ≡ 0) → sum_below f to ≡ sum_below f from
sum_to f from zero le none = let e : zero ≡ from = omega (arith, le) in ap (sum_below f) e
sum_to f from (suc n) le none = elim (cases_lt n from) [
  | inl l ↦ let e : suc n ≡ from = omega (arith, le, l) in ap (sum_below f) e
  | inr l ↦ omega (arith, sum_to f from n l (λ g a b. none g a (omega (arith, b))), none n l (omega arith))
]

-- no place is empty on such gates
empty_between : (row : Row) (k : Kinds) (s : State) (cursor : Cursor) (to : ℕ) → IsCursor k cursor → GatesFrom k.p to cursor.p → GatesFrom k.n to cursor.n → cursor.gate ≤ to → sum_below (empty_test row s k) to ≡ sum_below (empty_test row s k) cursor.gate
empty_between P k s cursor to h p n le = sum_to (empty_test P s k) cursor.gate to le (λ g a b. omega (arith, none_between k.n s.n_left cursor.n cursor.gate to g h.n n a b))
empty_between N k s cursor to h p n le = sum_to (empty_test N s k) cursor.gate to le (λ g a b. omega (arith, none_between k.p s.p_left cursor.p cursor.gate to g h.p p a b))

pub empty_next : (row : Row) (k : Kinds) (s : State) (cursor : Cursor) (gate : ℕ) → IsCursor k cursor → IsNext k cursor gate → sum_below (empty_test row s k) (gate + 1) ≡ sum_below (empty_test row s k) cursor.gate + empty_test row s k gate
empty_next row k s cursor gate h next =
    let e : gate + 1 ≡ suc gate = omega arith in
    ap (sum_below (empty_test row s k)) e ∙ ap (λ n. n + empty_test row s k gate) (empty_between row k s cursor gate h next.p next.n next.from)

pub empty_last : (row : Row) (k : Kinds) (s : State) (cursor : Cursor) → IsCursor k cursor → IsLast k cursor → sum_below (empty_test row s k) k.nets ≡ sum_below (empty_test row s k) cursor.gate
empty_last row k s cursor h last = empty_between row k s cursor k.nets h last.p last.n h.gate

-- such gates keep their leads
lead_between : (k : Kinds) (s : State) (cursor : Cursor) (to gate : ℕ) → IsCursor k cursor → GatesFrom k.p to cursor.p → GatesFrom k.n to cursor.n → cursor.gate ≤ gate → gate < to → keeps_lead k s gate ≡ true
lead_between k s cursor to gate h p n above below =
    rw (none_between k.p (counts_of k.p) cursor.p cursor.gate to gate h.p p above below, none_between k.n (counts_of k.n) cursor.n cursor.gate to gate h.n n above below, none_between k.p s.p_left cursor.p cursor.gate to gate h.p p above below, none_between k.n s.n_left cursor.n cursor.gate to gate h.n n above below) refl

leads_to : (k : Kinds) (s : State) (from to : ℕ) → from ≤ to → ((g : ℕ) → from ≤ g → g < to → keeps_lead k s g ≡ true) → leads_below k s to ≡ leads_below k s from
leads_to k s from zero le kept = let e : zero ≡ from = omega (arith, le) in ap (leads_below k s) e
leads_to k s from (suc n) le kept = elim (cases_lt n from) [
  | inl l ↦ let e : suc n ≡ from = omega (arith, le, l) in ap (leads_below k s) e
  | inr l ↦ rw (kept n l (omega arith)) (leads_to k s from n l (λ g a b. kept g a (omega (arith, b))))
]

pub leads_next : (k : Kinds) (s : State) (cursor : Cursor) (gate : ℕ) → IsCursor k cursor → IsNext k cursor gate → leads_below k s (gate + 1) ≡ (keeps_lead k s gate && leads_below k s cursor.gate)
leads_next k s cursor gate h next =
    let e : gate + 1 ≡ suc gate = omega arith in
    ap (leads_below k s) e ∙ ap (λ b. keeps_lead k s gate && b) (leads_to k s cursor.gate gate next.from (λ g a b. lead_between k s cursor gate g h next.p next.n a b))

pub leads_last : (k : Kinds) (s : State) (cursor : Cursor) → IsCursor k cursor → IsLast k cursor → leads_below k s k.nets ≡ leads_below k s cursor.gate
leads_last k s cursor h last = leads_to k s cursor.gate k.nets h.gate (λ g a b. lead_between k s cursor k.nets g h last.p last.n a b)

-- the loops over the gates
pub empty_step : (row : Row) (k : Kinds) (s : State) (cursor next : Cursor) (gate empty here : ℕ) → IsCursor k cursor → IsNext k cursor gate → next.gate ≡ gate + 1 → here ≡ empty_test row s k gate → here ≤ 64 → (empty ≡ sum_below (empty_test row s k) cursor.gate) × (empty ≤ 64 * cursor.gate) → (empty + here ≡ sum_below (empty_test row s k) next.gate) × (empty + here ≤ 64 * next.gate)
empty_step row k s cursor next gate empty here h more at is few before =
    let sum : sum_below (empty_test row s k) next.gate ≡ sum_below (empty_test row s k) cursor.gate + empty_test row s k gate = ap (sum_below (empty_test row s k)) at ∙ empty_next row k s cursor gate h more in
    (omega (arith, sum, is, before.0), omega (arith, before.1, few, at, more.from))

pub leads_step : (k : Kinds) (s : State) (cursor next : Cursor) (gate : ℕ) (here kept now : Bool) → IsCursor k cursor → IsNext k cursor gate → next.gate ≡ gate + 1 → here ≡ keeps_lead k s gate → kept ≡ leads_below k s cursor.gate → now ≡ (here && kept) → now ≡ leads_below k s next.gate
leads_step k s cursor next gate here kept now h more at is before e =
    e ∙ ap (λ b. b && kept) is ∙ ap (λ b. keeps_lead k s gate && b) before ∙ sym (leads_next k s cursor gate h more) ∙ sym (ap (leads_below k s) at)
