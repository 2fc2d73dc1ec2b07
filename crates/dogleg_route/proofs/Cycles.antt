-- Where the trunks have no cycle the pieces have none: the nets of a cycle of pieces are a closed walk over
-- nets, and where it comes back to a net for the first time there is a cycle.
use Rattle.std.proofs.Common.{ℕ, ◌≡◌, ◌≢◌, ◌≤◌, ◌++◌, ◌==◌, Bool, true, false, List, [], ◌∷◌, map, drop, take, inl, inr, refl, sym, ap, subst, arith, All, Contains}
use Rattle.std.proofs.lemmas.Bool.{cases_lt, eqb-true, eq-eqb}
use Rattle.std.proofs.lemmas.List.Elements.{All-nil, All-cons, Contains-append_left}
use Rattle.cell_num.specs.declared.net.Pins.{Pins}
use Rattle.cell_num.proofs.Lists.{contains_here, contains_there, all_imply}
use Rattle.cell_num.proofs.Pairs.{Some', test_finds, test_there, OneEach, one_each_push}
use Rattle.row_place.specs.declared.placement.Placement.{Placement}
use Rattle.row_place.specs.Trunks.{IsAbove}
use Rattle.channel_route.specs.declared.routing.Above.{Above}
use Rattle.channel_route.specs.declared.routing.WireAbove.{WireAbove}
use Rattle.channel_route.specs.Cycle.{nets, by_number, HasNoCycle}
use Rattle.channel_route.specs.Turn.{passes, IsTurn}
use Rattle.channel_route.specs.Walk.{next_key, IsWalk, IsKeyCycleBelow}
use Rattle.channel_route.proofs.TrunkChannel.{net_of}
use Rattle.channel_route.proofs.Turns.{walk_push, turn_ends, rotated_at}
use Rattle.dogleg_route.specs.PieceCycles.{IsWalkDown, HasNoPieceCycle}

-- an element with the least number
least_in : {X : Type 0} (key : X → ℕ) (x : X) (xs : List X) → Some' (λ y. All (λ a. key y ≤ key a) (x ∷ xs)) (x ∷ xs)
least_in key x [] = record { it = x; there = contains_here x []; holds = All-cons (λ a. key x ≤ key a) x [] (omega arith) (All-nil (λ a. key x ≤ key a)) }
least_in {X} key x (y ∷ ys) = by (least_in key y ys)
  where
    by : Some' (λ z. All (λ a. key z ≤ key a) (y ∷ ys)) (y ∷ ys) → Some' (λ z. All (λ a. key z ≤ key a) (x ∷ y ∷ ys)) (x ∷ y ∷ ys)
    by r =
        elim (cases_lt (key x) (key r.it)) [
          | inl less ↦ record { it = x; there = contains_here x (y ∷ ys); holds = All-cons (λ a. key x ≤ key a) x (y ∷ ys) (omega arith) (all_imply (λ a. key r.it ≤ key a) (λ a. key x ≤ key a) (y ∷ ys) (λ a e. omega (arith, e, less)) r.holds) }
          | inr most ↦ record { it = r.it; there = contains_there x (y ∷ ys) r.it r.there; holds = All-cons (λ a. key r.it ≤ key a) x (y ∷ ys) most r.holds }
        ]

-- nets above each other, as numbers
abbrev Over : Placement → Pins → ℕ → ℕ → ℕ → Type 0
Over p pins = by_number (IsAbove p pins)

differ : (p : Placement) (pins : Pins) (upper lower line : ℕ) → Over p pins upper lower line → upper ≢ lower
differ p pins upper lower line over e = over.differ (ap net_of e)

-- a turn holds a cycle
no_turn : (p : Placement) (pins : Pins) → HasNoCycle p pins → (start : ℕ) (turn : List Above) → IsTurn nets (Over p pins) start turn → ⊥
no_turn p pins none start [] t = t
no_turn p pins none start (x ∷ xs) t = at least.there
  where
    least : Some' (λ (y : Above). All (λ (a : Above). y.net.0 ≤ a.net.0) (x ∷ xs)) (x ∷ xs)
    least = least_in (λ (a : Above). a.net.0) x xs

    never : (cycle : List Above) → IsKeyCycleBelow nets (Over p pins) start cycle → ⊥
    never [] c = c
    never (f ∷ r) c = none (f ∷ r) c.0

    at : Contains (x ∷ xs) least.it → ⊥
    at (k, short, is) = never (drop k (x ∷ xs) ++ take k (x ∷ xs)) (rotated_at nets (Over p pins) start (x ∷ xs) k least.it short (differ p pins) t (subst (λ (y : Above). All (λ (a : Above). y.net.0 ≤ a.net.0) (x ∷ xs)) (sym is) least.holds))

-- a walk over different nets that comes back to one of them
back_at : (p : Placement) (pins : Pins) → HasNoCycle p pins → (path : List Above) (here : ℕ) → IsWalk nets (Over p pins) path here → OneEach (λ (a : Above). a.net.0) path → passes nets path here ≡ true → ⊥
back_at p pins none path here walk one passed = at s.there
  where
    s : Some' (λ (a : Above). (a.net.0 == here) ≡ true) path
    s = test_finds (λ (a : Above). a.net.0 == here) path passed

    at : Contains path s.it → ⊥
    at (k, short, is) =
        no_turn p pins none (next_key nets path here) (drop k path)
        (turn_ends nets (Over p pins) path here (next_key nets path here) k s.it short (subst (λ (a : Above). a.net.0 ≡ here) (sym is) (eqb-true s.it.net.0 here s.holds)) walk one refl)

-- a walk over different nets goes on until it comes back
goes_on : (p : Placement) (pins : Pins) → HasNoCycle p pins → (rest path : List Above) (here back : ℕ) → IsWalk nets (Over p pins) path here → OneEach (λ (a : Above). a.net.0) path → Some' (λ (a : Above). a.net.0 ≡ back) path → next_key nets rest back ≡ here → IsWalk nets (Over p pins) rest back → ⊥
goes_on p pins none [] path here back walk one home begins more =
    back_at p pins none path here walk one (test_there (λ (a : Above). a.net.0 == here) path home.it home.there (eq-eqb home.it.net.0 here (omega (arith, home.holds, begins))))
goes_on p pins none (a ∷ rest) path here back walk one home begins more =
    by (passes nets path here) refl (λ new next. goes_on p pins none rest (path ++ a ∷ []) (next_key nets rest back) back next (one_each_push (λ (z : Above). z.net.0) path a one new) (record { it = home.it; there = Contains-append_left path (a ∷ []) home.it home.there; holds = home.holds }) refl more.1)
  where
    by : (b : Bool) → passes nets path here ≡ b → (passes nets path a.net.0 ≡ false → IsWalk nets (Over p pins) (path ++ a ∷ []) (next_key nets rest back) → ⊥) → ⊥
    by true passed further = back_at p pins none path here walk one passed
    by false new further =
        further (subst (λ n. passes nets path n ≡ false) (sym begins) new) (walk_push nets (Over p pins) path a (next_key nets rest back) (subst (λ n. IsWalk nets (Over p pins) path n) (sym begins) walk) more.0)

abbrev net_entry : WireAbove → Above
net_entry e = record { net = e.net; line = e.line }

walk_nets : (p : Placement) (pins : Pins) (walk : List WireAbove) (back : WireAbove) → IsWalkDown p pins walk back → IsWalk nets (Over p pins) (map net_entry walk) back.net.0
walk_nets p pins [] back h = tt
walk_nets p pins (a ∷ []) back h = (h.0.over, tt)
walk_nets p pins (a ∷ b ∷ more) back h = (h.0.over, walk_nets p pins (b ∷ more) back h.1)

pub no_piece_cycle : (p : Placement) (pins : Pins) → HasNoCycle p pins → HasNoPieceCycle p pins
no_piece_cycle p pins none [] c = c
no_piece_cycle p pins none (first ∷ rest) c =
    goes_on p pins none (map net_entry rest) (net_entry first ∷ []) (next_key nets (map net_entry rest) first.net.0) first.net.0 (walk.0, tt) (one_each_push (λ (a : Above). a.net.0) [] (net_entry first) (λ n. omega arith) refl) (record { it = net_entry first; there = contains_here (net_entry first) []; holds = refl }) refl walk.1
  where
    walk : IsWalk nets (Over p pins) (map net_entry (first ∷ rest)) first.net.0
    walk = walk_nets p pins (first ∷ rest) first c.above
