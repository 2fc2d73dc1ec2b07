-- Each net of a cycle stands above one and below one, so it has node places in both rows.
use Rattle.std.proofs.Common.{ℕ, suc, List, [], ◌∷◌, ap, arith}
use Rattle.cell_num.specs.declared.net.NetNo.{NetNo}
use Rattle.cell_num.specs.declared.net.Pins.{Pins}
use Rattle.row_place.specs.declared.placement.Placement.{Placement}
use Rattle.row_place.specs.Trunks.{IsAbove}
use Rattle.channel_route.specs.Cycle.{nets, by_number, HasNoCycle, IsInBothRows, HasOneInBothRows}
use Rattle.channel_route.specs.Walk.{Entries, next_key, IsWalk}
use Rattle.channel_route.proofs.TrunkChannel.{net_of}

-- the last of a walk
last_over : {X : Type 0} (named : Entries X) (Over : ℕ → ℕ → ℕ → Type 0) (a : X) (more : List X) (back : ℕ) → IsWalk named Over (a ∷ more) back → (upper : ℕ) × (line : ℕ) × Over upper back line
last_over named Over a [] back h = (named.key a, named.line a, h.0)
last_over named Over a (b ∷ more) back h = last_over named Over b more back h.1

crosses : (p : Placement) (pins : Pins) (upper net lower : NetNo) (up down : ℕ) → IsAbove p pins upper net up → IsAbove p pins net lower down → IsInBothRows p pins net
crosses p pins upper net lower up down above below = record { trunk = below.upper_trunk; p_line = down; p = below.p; n_line = up; n = above.n }

pub no_cycle : (p : Placement) (pins : Pins) → HasOneInBothRows p pins → HasNoCycle p pins
no_cycle p pins one [] c = c
no_cycle p pins one (a ∷ []) c = omega (arith, c.two)
no_cycle p pins one (a ∷ b ∷ more) c =
    let last = last_over nets (by_number (IsAbove p pins)) a (b ∷ more) a.net.0 c.above in
    c.differ 0 (suc 0) a (omega arith) (omega arith)
    (ap (λ (n : NetNo). n.0) (one a.net b.net (crosses p pins (net_of last.0) a.net b.net last.1 a.line last.2 c.above.0) (crosses p pins a.net b.net (net_of (next_key nets more a.net.0)) a.line b.line c.above.0 c.above.1.0)))
