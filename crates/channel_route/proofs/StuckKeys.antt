-- The wires that are left are those that can not be placed.
use Rattle.std.proofs.Common.{ℕ, zero, suc, ◌≡◌, ◌<◌, ◌⊎◌, ◌++◌, ◌==◌, Bool, true, List, [], ◌∷◌, map, length, get_or, inl, inr, refl, sym, ap, subst, arith, All, Contains}
use Rattle.std.proofs.lemmas.Bool.{and_parts, eqb-true}
use Rattle.std.proofs.lemmas.List.Elements.{All-contains, Contains-append_right, Contains-append_cases}
use Rattle.std.proofs.lemmas.List.Sorted.{Contains-permutation, IsPermutation-sym}
use Rattle.cell_num.proofs.In.{Image, in_map}
use Rattle.cell_num.proofs.Lists.{contains_cons}
use Rattle.cell_num.proofs.Pairs.{Some', test_finds, test_there, one_each_same, pairs_head}
use Rattle.channel_route.specs.declared.wire.Wire.{Wire}
use Rattle.channel_route.specs.declared.wire.PlacedWire.{PlacedWire}
use Rattle.channel_route.specs.declared.constraint.Constraint.{Constraint}
use Rattle.channel_route.specs.Graph.{wire_of, IsBefore, AreDistinct, HasWireBelow, IsFilled, has_key, waits}
use Rattle.channel_route.specs.Turn.{IsOver, leads}
use Rattle.channel_route.proofs.Turns.{waits_there, key_there}

-- the key is in a set of keys of which each stands above another one of the set
pub record IsStuckKey (cs : List Constraint) (key : ℕ) : Type 0 where
  pub set : ℕ → Bool
  pub there : set key ≡ true
  pub each : (k : ℕ) → set k ≡ true → (lower : ℕ) × (line : ℕ) × IsOver cs k lower line × (set lower ≡ true)

-- the wires that are left, each of which stands above another one
pub record AreLeft (wires left : List Wire) (cs : List Constraint) (placed : List PlacedWire) (tracks : ℕ) : Type 0 where
  pub filled : IsFilled wires cs placed left tracks
  pub stuck : All (λ w. waits left cs w ≡ true) left

pub left_wire : (wires left : List Wire) (cs : List Constraint) (placed : List PlacedWire) (tracks : ℕ) → AreLeft wires left cs placed tracks → (w : Wire) → Contains left w → Contains wires w
left_wire wires left cs placed tracks h w there = Contains-permutation (map wire_of placed ++ left) wires w (IsPermutation-sym wires (map wire_of placed ++ left) h.filled.part.all) (Contains-append_right (map wire_of placed) left w there)

pub stuck_left : (wires left : List Wire) (cs : List Constraint) (placed : List PlacedWire) (tracks : ℕ) → AreLeft wires left cs placed tracks → (key : ℕ) → has_key left key ≡ true → IsStuckKey cs key
stuck_left wires left cs placed tracks h key there = record { set = has_key left; there = there; each = each }
  where
    each : (k : ℕ) → has_key left k ≡ true → (lower : ℕ) × (line : ℕ) × IsOver cs k lower line × (has_key left lower ≡ true)
    each k inside =
        let c : Some' (λ (c : Constraint). leads left k c ≡ true) cs = test_finds (leads left k) cs (waits_there left cs k h.stuck inside) in
        let parts : ((c.it.upper == k) ≡ true) × (has_key left c.it.lower ≡ true) = and_parts _ _ c.holds in
        (c.it.lower, c.it.line, subst (λ m. IsOver cs m c.it.lower c.it.line) (eqb-true c.it.upper k parts.0) c.there, parts.1)

-- a wire on a track stands above placed ones alone, so it is not stuck
not_placed : (wires left : List Wire) (cs : List Constraint) (placed : List PlacedWire) (tracks : ℕ) → AreLeft wires left cs placed tracks → (key : ℕ) (s : IsStuckKey cs key) (n : ℕ) (t : PlacedWire) → Contains placed t → s.set t.wire.key ≡ true → t.track < n → ⊥
not_placed wires left cs placed tracks h key s zero t there inside less = omega (arith, less)
not_placed wires left cs placed tracks h key s (suc n) t there inside less =
    let (lower, line, over, also) = s.each t.wire.key inside in
    let c : Constraint = record { upper = t.wire.key; lower = lower; line = line } in
    let b : HasWireBelow placed lower t.track = h.filled.part.above t there c over refl in
    not_placed wires left cs placed tracks h key s n b.one b.there (subst (λ m. s.set m ≡ true) (sym b.is) also) (omega (arith, less, b.low))

pub left_stuck : (wires left : List Wire) (cs : List Constraint) (placed : List PlacedWire) (tracks : ℕ) → AreLeft wires left cs placed tracks → (key : ℕ) → has_key wires key ≡ true → IsStuckKey cs key → has_key left key ≡ true
left_stuck wires left cs placed tracks h key wired s = by (Contains-append_cases (map wire_of placed) left w.it (Contains-permutation wires (map wire_of placed ++ left) w.it h.filled.part.all w.there))
  where
    w : Some' (λ (w : Wire). (w.key == key) ≡ true) wires
    w = test_finds (λ (w : Wire). w.key == key) wires wired

    by : Contains (map wire_of placed) w.it ⊎ Contains left w.it → has_key left key ≡ true
    by (inr there) = test_there (λ (z : Wire). z.key == key) left w.it there w.holds
    by (inl there) =
        let t : Image wire_of placed w.it = in_map wire_of placed w.it there in
        let same : t.of.wire.key ≡ key = subst (λ m. t.of.wire.key ≡ m) (eqb-true w.it.key key w.holds) (ap (λ (z : Wire). z.key) t.is) in
        absurd (not_placed wires left cs placed tracks h key s (suc t.of.track) t.of t.listed (subst (λ m. s.set m ≡ true) (sym same) s.there) (omega arith))

-- the first wire that is left is the first that can not be placed
pub first_left : (wires left : List Wire) (cs : List Constraint) (placed : List PlacedWire) (tracks : ℕ) → AreLeft wires left cs placed tracks → AreDistinct wires → (d : Wire) → 0 < length left → (w : Wire) → Contains wires w → IsStuckKey cs w.key → (get_or left 0 d ≡ w) ⊎ IsBefore (get_or left 0 d) w
first_left wires [] cs placed tracks h one d some w there s = absurd (omega (arith, some))
first_left wires (x ∷ xs) cs placed tracks h one d some w there s =
    let z : Some' (λ (z : Wire). (z.key == w.key) ≡ true) (x ∷ xs) = test_finds (λ (z : Wire). z.key == w.key) (x ∷ xs) (left_stuck wires (x ∷ xs) cs placed tracks h w.key (wired w there) s) in
    let same : z.it ≡ w = one_each_same (λ (v : Wire). v.key) wires z.it w one (left_wire wires (x ∷ xs) cs placed tracks h z.it z.there) there (eqb-true z.it.key w.key z.holds) in
    subst (λ v. (x ≡ v) ⊎ IsBefore x v) same (elim (contains_cons x xs z.it z.there) [
      | inl first ↦ inl first
      | inr more ↦ inr (All-contains (IsBefore x) xs z.it (pairs_head IsBefore x xs h.filled.part.order) more)
    ])
  where
    wired : (w : Wire) → Contains wires w → has_key wires w.key ≡ true
    wired w there = key_there wires w there
