-- What a filled channel is: each wire on one track, above those that it has to be, and on the least track
-- that is free for it.
use Rattle.std.proofs.Common.{ℕ, ◌≡◌, ◌≢◌, ◌<◌, ◌≤◌, ◌++◌, ◌==◌, Bool, cond, List, [], ◌∷◌, map, inl, inr, refl, sym, subst, arith, Contains, count_by, append-nil}
use Rattle.std.proofs.lemmas.List.Elements.{All-contains}
use Rattle.std.proofs.lemmas.List.Sorted.{Contains-permutation, IsPermutation-sym}
use Rattle.cell_num.proofs.Lists.{contains_here, contains_there}
use Rattle.cell_num.proofs.In.{Image, in_map, contains_map}
use Rattle.cell_num.proofs.Permutations.{count_cons}
use Rattle.cell_num.specs.declared.finger.Row.TheVariants.{P, N}
use Rattle.cell_num.proofs.Pairs.{Some', some_from_any, OneEach, one_each_permutation, one_each_same}
use Rattle.row_place.specs.declared.placement.NodePlace.{NodePlace}
use Rattle.channel_route.specs.declared.wire.Wire.{Wire}
use Rattle.channel_route.specs.declared.wire.PlacedWire.{PlacedWire}
use Rattle.channel_route.specs.declared.constraint.Constraint.{Constraint}
use Rattle.channel_route.specs.Routing.{AreApart}
use Rattle.channel_route.specs.Graph.{wire_of, trunk_of, IsBefore, IsChannel, IsHeld, IsBlocked, HasWireBelow, IsFilled}
use Rattle.channel_route.specs.Turn.{IsOver}
use Rattle.channel_route.specs.Wires.{constraints_of}
use Rattle.channel_route.proofs.ConstraintsOf.{Holds, pair_there}

-- all wires of a channel on their tracks
pub record IsFull (wires : List Wire) (cs : List Constraint) (placed : List PlacedWire) (tracks : ℕ) : Type 0 where
  pub channel : IsChannel wires cs
  pub filled : IsFilled wires cs placed [] tracks

-- on the track the wire would stand above each that it has to, and would share no line with an earlier one
-- of another net
pub record IsFreeWire (cs : List Constraint) (placed : List PlacedWire) (t : PlacedWire) (track : ℕ) : Type 0 where
  pub above : (b : PlacedWire) → Contains placed b → (line : ℕ) → IsOver cs t.wire.key b.wire.key line → b.track < track
  pub clear : (o : PlacedWire) → Contains placed o → o.track ≡ track → IsBefore o.wire t.wire → o.wire.net ≢ t.wire.net → AreApart (trunk_of o) (trunk_of t)

pub count_map : {X Y : Type 0} (f : X → Y) (p : Y → Bool) (xs : List X) → count_by p (map f xs) ≡ count_by (λ x. p (f x)) xs
count_map f p [] = refl
count_map f p (x ∷ xs) = omega (arith, count_cons p (f x) (map f xs), count_cons (λ x. p (f x)) x xs, count_map f p xs)

-- the wires on tracks are the wires of the channel
pub placed_wire : (wires : List Wire) (cs : List Constraint) (placed : List PlacedWire) (tracks : ℕ) → IsFull wires cs placed tracks → (t : PlacedWire) → Contains placed t → Contains wires t.wire
placed_wire wires cs placed tracks h t there =
    let mapped : Contains (map wire_of placed ++ []) t.wire = subst (λ ws. Contains ws t.wire) (sym (append-nil (map wire_of placed))) (contains_map wire_of placed t there) in
    Contains-permutation (map wire_of placed ++ []) wires t.wire (IsPermutation-sym wires (map wire_of placed ++ []) h.filled.part.all) mapped

pub wire_placed : (wires : List Wire) (cs : List Constraint) (placed : List PlacedWire) (tracks : ℕ) → IsFull wires cs placed tracks → (w : Wire) → Contains wires w → Some' (λ (t : PlacedWire). t.wire ≡ w) placed
wire_placed wires cs placed tracks h w there =
    let mapped : Contains (map wire_of placed) w = subst (λ ws. Contains ws w) (append-nil (map wire_of placed)) (Contains-permutation wires (map wire_of placed ++ []) w h.filled.part.all there) in
    let of : Image wire_of placed w = in_map wire_of placed w mapped in
    record { it = of.of; there = of.listed; holds = of.is }

pub one_each_placed : (wires : List Wire) (cs : List Constraint) (placed : List PlacedWire) (tracks : ℕ) → IsFull wires cs placed tracks → OneEach (λ (t : PlacedWire). t.wire.key) placed
one_each_placed wires cs placed tracks h n =
    let whole : count_by (λ (w : Wire). w.key == n) (map wire_of placed ++ []) ≤ 1 = one_each_permutation (λ (w : Wire). w.key) wires (map wire_of placed ++ []) h.filled.part.all h.channel.distinct n in
    let mapped : count_by (λ (w : Wire). w.key == n) (map wire_of placed) ≤ 1 = subst (λ ws. count_by (λ (w : Wire). w.key == n) ws ≤ 1) (append-nil (map wire_of placed)) whole in
    omega (arith, mapped, count_map wire_of (λ (w : Wire). w.key == n) placed)

pub same_placed : (wires : List Wire) (cs : List Constraint) (placed : List PlacedWire) (tracks : ℕ) → IsFull wires cs placed tracks → (a b : PlacedWire) → Contains placed a → Contains placed b → a.wire.key ≡ b.wire.key → a ≡ b
same_placed wires cs placed tracks h a b ha hb e = one_each_same (λ (t : PlacedWire). t.wire.key) placed a b (one_each_placed wires cs placed tracks h) ha hb e

pub ascends : (wires : List Wire) (cs : List Constraint) (placed : List PlacedWire) (tracks : ℕ) → IsFull wires cs placed tracks → (t : PlacedWire) → Contains placed t → t.wire.left ≤ t.wire.right
ascends wires cs placed tracks h t there = All-contains (λ (w : Wire). w.left ≤ w.right) wires t.wire h.channel.spans (placed_wire wires cs placed tracks h t there)

-- lists with one element a number, by a number that is the same for each
pub one_each_like : {X : Type 0} (f g : X → ℕ) (xs : List X) → ((x : X) → Contains xs x → f x ≡ g x) → OneEach f xs → OneEach g xs
one_each_like f g xs same one n = omega (arith, one n, count_like f g xs n same)
  where
    count_like : {X : Type 0} (f g : X → ℕ) (xs : List X) (n : ℕ) → ((x : X) → Contains xs x → f x ≡ g x) → count_by (λ x. g x == n) xs ≡ count_by (λ x. f x == n) xs
    count_like f g [] n same = refl
    count_like f g (x ∷ xs) n same =
        let head : ◌≡◌ {A = ℕ} (cond (g x == n) 1 0) (cond (f x == n) 1 0) = rw (same x (contains_here x xs)) refl in
        omega (arith, head, count_cons (λ y. g y == n) x xs, count_cons (λ y. f y == n) x xs, count_like f g xs n (λ y there. same y (contains_there x xs y there)))

-- a wire is above each that a constraint puts below it
tracks_above : (wires : List Wire) (cs : List Constraint) (placed : List PlacedWire) (tracks : ℕ) → IsFull wires cs placed tracks → (a b : PlacedWire) → Contains placed a → Contains placed b → (line : ℕ) → IsOver cs a.wire.key b.wire.key line → b.track < a.track
tracks_above wires cs placed tracks h a b ha hb line over =
    let low : HasWireBelow placed b.wire.key a.track = h.filled.part.above a ha (record { upper = a.wire.key; lower = b.wire.key; line = line }) over refl in
    subst (λ (t : PlacedWire). t.track < a.track) (same_placed wires cs placed tracks h low.one b low.there hb low.is) low.low

-- where the net of one stands over that of the other at a line that both hold
pub above_at : (wires : List Wire) (nodes : List NodePlace) (placed : List PlacedWire) (tracks : ℕ) → IsFull wires (constraints_of wires nodes) placed tracks → (a b : PlacedWire) → Contains placed a → Contains placed b → (line : ℕ) → Contains nodes (record { row = P; line = line; net = a.wire.net }) → Contains nodes (record { row = N; line = line; net = b.wire.net }) → a.wire.net ≢ b.wire.net → Holds a.wire line → Holds b.wire line → b.track < a.track
above_at wires nodes placed tracks h a b ha hb line top bottom differ hold_a hold_b =
    tracks_above wires (constraints_of wires nodes) placed tracks h a b ha hb line
    (pair_there wires nodes a.wire b.wire line (placed_wire wires (constraints_of wires nodes) placed tracks h a ha) (placed_wire wires (constraints_of wires nodes) placed tracks h b hb) top bottom differ hold_a hold_b)

-- no wire could stand lower
pub not_lower : (wires : List Wire) (cs : List Constraint) (placed : List PlacedWire) (tracks : ℕ) → IsFull wires cs placed tracks → (t : PlacedWire) → Contains placed t → (track : ℕ) → track < t.track → IsFreeWire cs placed t track → ⊥
not_lower wires cs placed tracks h t there track below free = blocked (h.filled.part.tight t there track below)
  where
    apart : (o : PlacedWire) → IsBefore o.wire t.wire → t.wire.left ≤ o.wire.right → AreApart (trunk_of o) (trunk_of t) → ⊥
    apart o (inl e) r (inl f) = omega (arith, r, f)
    apart o (inr (e, _)) r (inl f) = omega (arith, r, f)
    apart o (inl e) r (inr f) = omega (arith, e, f, ascends wires cs placed tracks h t there)
    apart o (inr (e, _)) r (inr f) = omega (arith, e, f, ascends wires cs placed tracks h t there)

    held : (k : IsHeld cs placed t.wire track) → Some' (λ (w : Wire). w.key ≡ k.constraint.lower) wires → ⊥
    held k w =
        let b : Some' (λ (b : PlacedWire). b.wire ≡ w.it) placed = wire_placed wires cs placed tracks h w.it w.there in
        let key : b.it.wire.key ≡ k.constraint.lower = subst (λ (z : Wire). z.key ≡ k.constraint.lower) (sym b.holds) w.holds in
        let over : IsOver cs t.wire.key b.it.wire.key k.constraint.line = subst (λ n. IsOver cs t.wire.key n k.constraint.line) (sym key) (subst (λ n. IsOver cs n k.constraint.lower k.constraint.line) k.upper k.there) in
        omega (arith, k.not_below b.it b.there key, free.above b.it b.there k.constraint.line over)

    blocked : IsBlocked cs placed t.wire track → ⊥
    blocked (inl c) = apart c.one c.before c.reaches (free.clear c.one c.there c.on c.before c.other)
    blocked (inr k) = held k (some_from_any (λ (w : Wire). w.key ≡ k.constraint.lower) wires (h.channel.lower k.constraint k.there))
