-- What gates can meet where half columns of counted gates stay open, and the levels of an order with these places.
use Rattle.std.specs.Prelude.{ℕ, ◌≡◌, ◌-◌, ◌*◌, ◌/◌, ◌%◌, ◌==◌, ◌&&◌, ◌||◌, Bool, not, if◌then◌else◌, ltb, List, []}
use Rattle.std.specs.Prelude.{◌∷◌, All, map}
use Rattle.std.specs.List.{filter, list_any, range_with_len}
use Rattle.cell_num.specs.declared.net.NetNo.{NetNo}
use Rattle.cell_num.specs.declared.finger.Row.{Row}
use Rattle.cell_num.specs.declared.finger.Row.TheVariants.{P, N}
use Rattle.cell_num.specs.declared.finger.Fingers.{Fingers}
use Rattle.cell_num.specs.Fingers.{on_gate}
use Rattle.trail_state.specs.Nodes.{can_meet, is_net_on}
use Rattle.trail_state.specs.Places.{node_at}
use Rattle.open_gates.specs.Merged.{net_in}
use Rattle.open_gates.specs.Open.{fingers_at, fingers_beside}
use Rattle.trail_halves.specs.declared.choice.OpenChoice.{OpenChoice}
use Rattle.trail_halves.specs.Open.{IsOpenChoice}
use Rattle.trail_pools.specs.declared.level.PoolLevel.{PoolLevel}
use Rattle.trail_pools.specs.Levels.{IsListed}
use Rattle.trail_pools.specs.declared.level.OpenPlaces.{OpenPlaces}

-- the node's net in the other row
abbrev pub net_beside : Row → ℕ → ℕ
net_beside P v = v % 256
net_beside N v = v / 256

module _ (f : Fingers) (r : Row) (counted : ℕ → Bool) where
  -- the gate has half columns with a finger of the row, and they stay open
  abbrev pub stays_open : ℕ → Bool
  stays_open gate = counted gate && ltb (on_gate gate (fingers_beside r f)) (on_gate gate (fingers_at r f))

  -- A node that a column of the gate can have at an end. Where half columns stay open, the others are full.
  abbrev pub meets_node : ℕ → ℕ → Bool
  meets_node gate v =
      can_meet f gate v && (not (stays_open gate) || is_net_on (fingers_beside r f) gate (net_beside r v))

  -- a net that a half column that stays open can have at an end
  abbrev pub ends_free : ℕ → ℕ → Bool
  ends_free gate net = stays_open gate && is_net_on (fingers_at r f) gate net

  -- some of the gates can
  abbrev pub any_meets : List NetNo → ℕ → Bool
  any_meets gates v = list_any (λ (g : NetNo). meets_node g.0 v) gates

  abbrev pub any_ends_free : List NetNo → ℕ → Bool
  any_ends_free gates net = list_any (λ (g : NetNo). ends_free g.0 net) gates

  -- nets of the row whose nodes are pools
  module _ (pool : ℕ → Bool) where
    -- a pool with a node that some of the gates can meet, or at whose net one of them can end free
    abbrev pub is_open_pool : List NetNo → ℕ → Bool
    is_open_pool gates net =
        pool net && (list_any (λ v. (net_in r v == net) && any_meets gates v) (range_with_len 0 (256 * f.nets))
        || any_ends_free gates net)

    -- places below 256 * nets are nodes in no pool, and the others pools
    abbrev pub is_open_place : List NetNo → ℕ → Bool
    is_open_place gates p =
        if ltb p (256 * f.nets) then not (pool (net_in r p)) && any_meets gates p
        else is_open_pool gates (p - 256 * f.nets)

    -- a node of a pool
    abbrev pub is_pool_node : List NetNo → ℕ → Bool
    is_pool_node gates v = pool (net_in r v) && any_meets gates v

    -- all that some of the gates can meet, in ascending order
    abbrev pub open_from : List NetNo → OpenPlaces
    open_from gates = record {
      places = map node_at (filter (is_open_place gates) (range_with_len 0 (2 * (256 * f.nets))));
      nodes = map node_at (filter (is_pool_node gates) (range_with_len 0 (256 * f.nets)));
    }

    -- the level of a gate: what it and later gates can meet, what later gates can, and all its choices
    pub record IsOpenLevel (gate : NetNo) (later : List NetNo) (level : PoolLevel) : Type 0 where
      pub now : level.now ≡ open_from (gate ∷ later)
      pub next : level.next ≡ open_from later
      pub are : All (IsOpenChoice f r counted gate.0) level.choices
      pub all_choices : (c : OpenChoice) → IsOpenChoice f r counted gate.0 c → IsListed level.choices c

    abbrev pub AreOpenLevels : List NetNo → List PoolLevel → Type 0
    AreOpenLevels [] [] = Unit {0}
    AreOpenLevels (g ∷ gs) (l ∷ ls) = IsOpenLevel g gs l × AreOpenLevels gs ls
    AreOpenLevels _ _ = ⊥
