-- The nets at the ends of the fingers of one gate.
use Rattle.std.proofs.Common.{ℕ, ◌≡◌, ◌==◌, ◌&&◌, ◌||◌, Bool, true, false, cond, List, [], ◌∷◌, refl, ap}
use Rattle.std.specs.List.{filter, range_with_len}
use Rattle.cell_num.specs.declared.finger.Finger.{Finger}
use Rattle.trail_state.specs.Choices.{is_on}
use Rattle.trail_state.specs.Nodes.{has_net, is_end_in, is_net_on}

ends_on : (fs : List Finger) (g v : ℕ) → is_end_in (filter (is_on g) fs) v ≡ is_net_on fs g v
ends_on [] g v = refl
ends_on (x ∷ xs) g v = at (x.gate.0 == g) (ends_on xs g v)
  where
    at : (b : Bool) → is_end_in (filter (is_on g) xs) v ≡ is_net_on xs g v → is_end_in (cond b (x ∷ filter (is_on g) xs) (filter (is_on g) xs)) v ≡ ((b && has_net v x) || is_net_on xs g v)
    at true rest = ap (λ b. has_net v x || b) rest
    at false rest = rest

pub nets_on_same : (fs : List Finger) (g nets : ℕ) → filter (is_end_in (filter (is_on g) fs)) (range_with_len 0 nets) ≡ filter (is_net_on fs g) (range_with_len 0 nets)
nets_on_same fs g nets = λ i. filter (λ v. ends_on fs g v i) (range_with_len 0 nets)
