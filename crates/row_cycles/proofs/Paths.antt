-- Paths from a net down to others: put together, and over other pairs.
use Rattle.std.proofs.Common.{◌++◌, List, [], ◌∷◌, All, Contains, inl, inr}
use Rattle.std.proofs.lemmas.List.Elements.{All-contains, Contains-append_cases, Contains-append_left, Contains-append_right}
use Rattle.cell_num.specs.declared.net.NetNo.{NetNo}
use Rattle.cell_num.proofs.Lists.{all_from_contains}
use Rattle.row_cycles.specs.declared.above.NetAbove.{NetAbove}
use Rattle.row_cycles.specs.Above.{Follows, HasCycle, IsAbove, LeadsDown, over}

-- one path after another
pub leads_joined : (above : List NetAbove) (upper : NetNo) (first : List NetNo) (net : NetNo) (second : List NetNo)
    (lower : NetNo) → LeadsDown above upper first net → LeadsDown above net second lower
    → LeadsDown above upper (first ++ net ∷ second) lower
leads_joined above upper [] net second lower h more = (h, more)
leads_joined above upper (next ∷ first) net second lower h more =
    (h.0, leads_joined above next first net second lower h.1 more)

pub above_joined : (above : List NetAbove) (upper net lower : NetNo)
    → IsAbove above upper net → IsAbove above net lower → IsAbove above upper lower
above_joined above upper net lower (first, h) (second, more) =
    (first ++ net ∷ second, leads_joined above upper first net second lower h more)

-- a pair is a path
pub one_above : (above : List NetAbove) (a : NetAbove) → Contains above a → Follows above a
one_above above a there = ([], there)

-- the first pair of a path, and the last one
pub first_pair : (above : List NetAbove) (upper : NetNo) (between : List NetNo) (lower : NetNo)
    → LeadsDown above upper between lower → (next : NetNo) × Contains above (over upper next)
first_pair above upper [] lower h = (lower, h)
first_pair above upper (net ∷ between) lower h = (net, h.0)

pub last_pair : (above : List NetAbove) (upper : NetNo) (between : List NetNo) (lower : NetNo)
    → LeadsDown above upper between lower → (last : NetNo) × Contains above (over last lower)
last_pair above upper [] lower h = (upper, h)
last_pair above upper (net ∷ between) lower h = last_pair above net between lower h.1

-- where each pair follows from others, so does each path
pub leads_through : (xs ys : List NetAbove) (upper : NetNo) (between : List NetNo) (lower : NetNo)
    → ((a : NetAbove) → Contains xs a → Follows ys a) → LeadsDown xs upper between lower → IsAbove ys upper lower
leads_through xs ys upper [] lower each h = each (over upper lower) h
leads_through xs ys upper (net ∷ between) lower each h =
    above_joined ys upper net lower (each (over upper net) h.0) (leads_through xs ys net between lower each h.1)

pub above_through : (xs ys : List NetAbove) (upper lower : NetNo)
    → ((a : NetAbove) → Contains xs a → Follows ys a) → IsAbove xs upper lower → IsAbove ys upper lower
above_through xs ys upper lower each (between, h) = leads_through xs ys upper between lower each h

pub cycle_through : (xs ys : List NetAbove)
    → ((a : NetAbove) → Contains xs a → Follows ys a) → HasCycle xs → HasCycle ys
cycle_through xs ys each (net, h) = (net, above_through xs ys net net each h)

-- the same where all pairs are among the others
pub above_more : (xs ys : List NetAbove) (upper lower : NetNo)
    → ((a : NetAbove) → Contains xs a → Contains ys a) → IsAbove xs upper lower → IsAbove ys upper lower
above_more xs ys upper lower each h = above_through xs ys upper lower (λ a there. one_above ys a (each a there)) h

pub cycle_more : (xs ys : List NetAbove)
    → ((a : NetAbove) → Contains xs a → Contains ys a) → HasCycle xs → HasCycle ys
cycle_more xs ys each h = cycle_through xs ys (λ a there. one_above ys a (each a there)) h

-- pairs that follow from others follow from more
pub follows_through : (xs ys pairs : List NetAbove)
    → ((a : NetAbove) → Contains xs a → Follows ys a) → All (Follows xs) pairs → All (Follows ys) pairs
follows_through xs ys pairs each h = all_from_contains (Follows ys) pairs
    (λ a there. above_through xs ys a.upper a.lower each (All-contains (Follows xs) pairs a h there))

pub follows_more : (xs ys pairs : List NetAbove)
    → ((a : NetAbove) → Contains xs a → Contains ys a) → All (Follows xs) pairs → All (Follows ys) pairs
follows_more xs ys pairs each h = follows_through xs ys pairs (λ a there. one_above ys a (each a there)) h

-- pairs that follow, and some more on both sides
pub follows_beside : (xs ys more : List NetAbove) → All (Follows ys) xs
    → (a : NetAbove) → Contains (xs ++ more) a → Follows (ys ++ more) a
follows_beside xs ys more h a there = elim (Contains-append_cases xs more a there) [
  | inl first ↦ above_more ys (ys ++ more) a.upper a.lower (λ b in'. Contains-append_left ys more b in')
      (All-contains (Follows ys) xs a h first)
  | inr second ↦ one_above (ys ++ more) a (Contains-append_right ys more a second)
]

pub cycle_beside : (xs ys more : List NetAbove) → All (Follows ys) xs → HasCycle (xs ++ more) → HasCycle (ys ++ more)
cycle_beside xs ys more h cycle = cycle_through (xs ++ more) (ys ++ more) (follows_beside xs ys more h) cycle
