-- Whether a wire finds room on a track.
use Rattle.std.proofs.Common.{◌≡◌, ◌<◌, ◌≤◌, ◌⊎◌, ◌==◌, ◌&&◌, ◌||◌, not, ltb, Bool, true, false, List, Some, inl, inr, refl, arith, Contains}
use Rattle.std.proofs.lemmas.Bool.{cases_Bool, cases_order, and_parts, ltb-true, lt-ltb, eq-eqb, eqb-true}
use Rattle.channel_route.specs.declared.wire.Wire.{Wire}
use Rattle.channel_route.specs.declared.constraint.Constraint.{Constraint}
use Rattle.channel_route.specs.Graph.{has_key, waits, starts_behind}
use Rattle.cell_num.proofs.Pairs.{Some', test_finds, test_fails}
use Rattle.row_model.proofs.Decide.{net_decides}

-- a wire begins behind another one, or where it ends and is of its net
or_cases : (a b : Bool) → (a || b) ≡ true → (a ≡ true) ⊎ (b ≡ true)
or_cases a b e =
    elim (cases_Bool a) [
      | inl yes' ↦ inl yes'
      | inr no' ↦ inr (grind (arith, no', e))
    ]

or_fails : (a b : Bool) → (a || b) ≡ false → (a ≡ false) × (b ≡ false)
or_fails a b e = grind (arith, e)

-- where the next wire begins
pub begins_at : (last w : Wire) → starts_behind (Some last) w ≡ true → (last.right < w.left) ⊎ ((last.right ≡ w.left) × (last.net ≡ w.net))
begins_at last w e =
    elim (or_cases (ltb last.right w.left) ((last.right == w.left) && (last.net.0 == w.net.0)) e) [
      | inl far ↦ inl (ltb-true last.right w.left far)
      | inr near ↦ let parts : ((last.right == w.left) ≡ true) × ((last.net.0 == w.net.0) ≡ true) = and_parts _ _ near in inr (eqb-true last.right w.left parts.0, (net_decides last.net w.net).0 parts.1)
    ]

-- a wire that does not
pub not_behind : (last w : Wire) → starts_behind (Some last) w ≡ false → (w.left ≤ last.right) × ((last.right ≡ w.left) → (last.net ≡ w.net) → ⊥)
not_behind last w e =
    let parts : (ltb last.right w.left ≡ false) × (((last.right == w.left) && (last.net.0 == w.net.0)) ≡ false) = or_fails _ _ e in
    (reached parts.0, λ same net. both parts.1 (eq-eqb last.right w.left same) ((net_decides last.net w.net).1 net))
  where
    reached : ltb last.right w.left ≡ false → w.left ≤ last.right
    reached f =
        elim (cases_order last.right w.left) [
          | inl same ↦ omega (arith, same)
          | inr other ↦ elim other [
            | inl less ↦ absurd (let wrong : ltb last.right w.left ≡ true = lt-ltb last.right w.left less in cc)
            | inr more ↦ omega (arith, more)
          ]
        ]

    both : ((last.right == w.left) && (last.net.0 == w.net.0)) ≡ false → (last.right == w.left) ≡ true → (last.net.0 == w.net.0) ≡ true → ⊥
    both f a b = let wrong : ((last.right == w.left) && (last.net.0 == w.net.0)) ≡ true = rw a (rw b refl) in cc

pub room_parts : (a b : Bool) → (not a && b) ≡ true → (a ≡ false) × (b ≡ true)
room_parts a b e = grind (arith, e)

pub no_room : (a b : Bool) → (not a && b) ≡ false → (a ≡ true) ⊎ (b ≡ false)
no_room a b e =
    elim (cases_Bool a) [
      | inl held ↦ inl held
      | inr not_held ↦ inr (grind (arith, not_held, e))
    ]

-- a wire that does not wait stands above no wire that is left
pub not_waiting : (left : List Wire) (cs : List Constraint) (w : Wire) (c : Constraint) → waits left cs w ≡ false → Contains cs c → c.upper ≡ w.key → has_key left c.lower ≡ false
not_waiting left cs w c e there upper = go (test_fails (λ (z : Constraint). (z.upper == w.key) && has_key left z.lower) cs c e there)
  where
    same : (c.upper == w.key) ≡ true
    same = eq-eqb c.upper w.key upper

    go : ((c.upper == w.key) && has_key left c.lower) ≡ false → has_key left c.lower ≡ false
    go f = grind (arith, same, f)

-- what a waiting wire waits for
pub record WaitsFor (left : List Wire) (cs : List Constraint) (w : Wire) : Type 0 where
  pub constraint : Constraint
  pub there : Contains cs constraint
  pub upper : constraint.upper ≡ w.key
  pub lower : Wire
  pub left_there : Contains left lower
  pub is : lower.key ≡ constraint.lower

pub waiting : (left : List Wire) (cs : List Constraint) (w : Wire) → waits left cs w ≡ true → WaitsFor left cs w
waiting left cs w e =
    let c : Some' (λ (z : Constraint). ((z.upper == w.key) && has_key left z.lower) ≡ true) cs = test_finds (λ (z : Constraint). (z.upper == w.key) && has_key left z.lower) cs e in
    let parts : ((c.it.upper == w.key) ≡ true) × (has_key left c.it.lower ≡ true) = and_parts _ _ c.holds in
    let x : Some' (λ (z : Wire). (z.key == c.it.lower) ≡ true) left = test_finds (λ (z : Wire). z.key == c.it.lower) left parts.1 in
    record { constraint = c.it; there = c.there; upper = eqb-true c.it.upper w.key parts.0; lower = x.it; left_there = x.there; is = eqb-true x.it.key c.it.lower x.holds }
