-- One track is filled in a sweep over the wires that are left.
use Rattle.std.proofs.Common.{ℕ, ◌≡◌, ◌≢◌, ◌+◌, ◌<◌, ◌≤◌, ◌++◌, ◌==◌, true, false, List, [], ◌∷◌, Option, Some, None, map, inl, inr, refl, sym, ap, subst, arith, AllPairs, Any, Contains, IsPermutation, append-nil}
use Rattle.std.specs.Bool.{⊤}
use Rattle.std.proofs.lemmas.Bool.{cases_order, eq-eqb}
use Rattle.std.proofs.lemmas.List.{append_assoc, map-append}
use Rattle.std.proofs.lemmas.List.Elements.{All-contains, Contains-append_left, Contains-append_right, Contains-append_cases, Contains-push, Contains-push_cases}
use Rattle.std.proofs.lemmas.List.Sorted.{IsPermutation-append_right, IsPermutation-middle, IsPermutation-sym, IsPermutation-trans, Contains-permutation}
use Rattle.cell_num.proofs.In.{Image, in_map, contains_map}
use Rattle.cell_num.proofs.Lists.{contains_none, contains_here, contains_there}
use Rattle.channel_route.specs.declared.wire.PlacedWire.{PlacedWire}
use Rattle.channel_route.specs.declared.wire.Wire.{Wire}
use Rattle.channel_route.specs.declared.constraint.Constraint.{Constraint}
use Rattle.channel_route.specs.Routing.{AreApart}
use Rattle.channel_route.specs.Graph.{wire_of, trunk_of, IsBefore, IsChannel, IsCrossed, IsHeld, IsBlocked, HasWireBelow, IsPartial, IsFilled, has_key, waits, starts_behind, has_room}
use Rattle.cell_num.proofs.Pairs.{Some', some_from_any, any_at, any_append_left, test_there, pairs_without, pairs_behind, OneEach, one_each_permutation, parts_differ}
use Rattle.channel_route.proofs.Room.{begins_at, not_behind, room_parts, no_room, not_waiting, WaitsFor, waiting}

-- lines that a track is filled to
abbrev pub Reaches : Option Wire → ℕ → Type 0
Reaches None line = ⊥
Reaches (Some last) line = line ≤ last.right

-- the wire that a track is filled to
abbrev pub HasLast : List PlacedWire → ℕ → Option Wire → Type 0
HasLast trunks track None = ⊤
HasLast trunks track (Some last) = (t : PlacedWire) × Contains trunks t × (t.track ≡ track) × (t.wire ≡ last)

-- between two wires of a sweep over `left`
pub record IsSweep (wires : List Wire) (constraints : List Constraint) (left : List Wire) (trunks : List PlacedWire) (still rest : List Wire) (track : ℕ) (reach : Option Wire) : Type 0 where
  pub part : IsPartial wires constraints trunks (still ++ rest) track
  pub low : (t : PlacedWire) → Contains trunks t → t.track ≤ track
  pub skipped : (w : Wire) → Contains still w → IsBlocked constraints trunks w track
  pub on : (t : PlacedWire) → Contains trunks t → t.track ≡ track → Reaches reach t.wire.right × ((w : Wire) → Contains rest w → IsBefore (wire_of t) w)
  pub last : HasLast trunks track reach
  pub settled : (b : PlacedWire) → Contains trunks b → (x : Wire) → Contains left x → b.wire.key ≡ x.key → track ≤ b.track
  pub below : (c : Constraint) → Contains constraints c → has_key left c.lower ≡ false → HasWireBelow trunks c.lower track

-- more trunks on this track or a higher one change nothing below
crossed_push : (trunks : List PlacedWire) (new : PlacedWire) (w : Wire) (i : ℕ) → IsCrossed trunks w i → IsCrossed (trunks ++ new ∷ []) w i
crossed_push trunks new w i h = record { one = h.one; there = Contains-append_left trunks (new ∷ []) h.one h.there; on = h.on; before = h.before; other = h.other; reaches = h.reaches }

held_push : (cs : List Constraint) (trunks : List PlacedWire) (new : PlacedWire) (w : Wire) (i : ℕ) → i ≤ new.track → IsHeld cs trunks w i → IsHeld cs (trunks ++ new ∷ []) w i
held_push cs trunks new w i high h = record {
  constraint = h.constraint;
  there = h.there;
  upper = h.upper;
  not_below = λ b there is. elim (Contains-push_cases trunks new b there) [ inl old ↦ h.not_below b old is | inr same ↦ subst (λ (z : PlacedWire). i ≤ z.track) same high ];
}

blocked_push : (cs : List Constraint) (trunks : List PlacedWire) (new : PlacedWire) (w : Wire) (i : ℕ) → i ≤ new.track → IsBlocked cs trunks w i → IsBlocked cs (trunks ++ new ∷ []) w i
blocked_push cs trunks new w i high (inl crossed) = inl (crossed_push trunks new w i crossed)
blocked_push cs trunks new w i high (inr held) = inr (held_push cs trunks new w i high held)

below_push : (trunks : List PlacedWire) (new : PlacedWire) (key : ℕ) (i : ℕ) → HasWireBelow trunks key i → HasWireBelow (trunks ++ new ∷ []) key i
below_push trunks new key i h = record { one = h.one; there = Contains-append_left trunks (new ∷ []) h.one h.there; is = h.is; low = h.low }

-- the first sweep over what is left
pub begun : (wires : List Wire) (cs : List Constraint) (left : List Wire) (trunks : List PlacedWire) (track : ℕ) → IsChannel wires cs → IsFilled wires cs trunks left track → IsSweep wires cs left trunks [] left track None
begun wires cs left trunks track channel filled = record {
  part = filled.part;
  low = λ t there. omega (arith, filled.low t there);
  skipped = λ w there. absurd (contains_none w there);
  on = λ t there e. absurd (omega (arith, filled.low t there, e));
  last = tt;
  settled = λ b b_there x x_there e. absurd (parts_differ (λ (w : Wire). w.key) (map wire_of trunks) left (wire_of b) x distinct (contains_map wire_of trunks b b_there) x_there e);
  below = λ c there none. lower c there none (some_from_any (λ (w : Wire). w.key ≡ c.lower) wires (channel.lower c there));
}
  where
    distinct : OneEach (λ (w : Wire). w.key) (map wire_of trunks ++ left)
    distinct = one_each_permutation (λ (w : Wire). w.key) wires (map wire_of trunks ++ left) filled.part.all channel.distinct

    lower : (c : Constraint) → Contains cs c → has_key left c.lower ≡ false → Some' (λ (w : Wire). w.key ≡ c.lower) wires → HasWireBelow trunks c.lower track
    lower c there none found =
        elim (Contains-append_cases (map wire_of trunks) left found.it (Contains-permutation wires (map wire_of trunks ++ left) found.it filled.part.all found.there)) [
          | inl old ↦
              let of : Image wire_of trunks found.it = in_map wire_of trunks found.it old in
              record { one = of.of; there = of.listed; is = subst (λ (w : Wire). w.key ≡ c.lower) (sym of.is) found.holds; low = filled.low of.of of.listed }
          | inr still ↦ absurd (let there' : has_key left c.lower ≡ true = test_there (λ (w : Wire). w.key == c.lower) left found.it still (eq-eqb found.it.key c.lower found.holds) in cc)
        ]

-- wires that were put, and those that are left, are wires of the channel
put_there : (wires left : List Wire) (trunks : List PlacedWire) → IsPermutation wires (map wire_of trunks ++ left) → (t : PlacedWire) → Contains trunks t → Contains wires t.wire
put_there wires left trunks all t there = Contains-permutation (map wire_of trunks ++ left) wires t.wire (IsPermutation-sym wires (map wire_of trunks ++ left) all) (Contains-append_left (map wire_of trunks) left t.wire (contains_map wire_of trunks t there))

left_there : (wires left : List Wire) (trunks : List PlacedWire) → IsPermutation wires (map wire_of trunks ++ left) → (w : Wire) → Contains left w → Contains wires w
left_there wires left trunks all w there = Contains-permutation (map wire_of trunks ++ left) wires w (IsPermutation-sym wires (map wire_of trunks ++ left) all) (Contains-append_right (map wire_of trunks) left w there)

-- a wire that finds no room
pub skip : (wires : List Wire) (cs : List Constraint) (left : List Wire) (trunks : List PlacedWire) (still : List Wire) (w : Wire) (rest : List Wire) (track : ℕ) (reach : Option Wire) → IsChannel wires cs → IsSweep wires cs left trunks still (w ∷ rest) track reach → has_room left cs reach w ≡ false → IsSweep wires cs left trunks (still ++ w ∷ []) rest track reach
skip wires cs left trunks still w rest track reach channel s full = record {
  part = subst (λ ws. IsPartial wires cs trunks ws track) (sym (append_assoc still (w ∷ []) rest)) s.part;
  low = s.low;
  skipped = λ x there. elim (Contains-push_cases still w x there) [ inl old ↦ s.skipped x old | inr same ↦ subst (λ z. IsBlocked cs trunks z track) same blocked ];
  on = λ t there e. ((s.on t there e).0, λ x behind. (s.on t there e).1 x (contains_there w rest x behind));
  last = s.last;
  settled = s.settled;
  below = s.below;
}
  where
    mine : Contains wires w
    mine = left_there wires (still ++ w ∷ rest) trunks s.part.all w (Contains-append_right still (w ∷ rest) w (contains_here w rest))

    -- the last wire of the track is in the way, and is of another net
    crossed : (t : PlacedWire) → Contains trunks t → t.track ≡ track → IsBefore t.wire w → (w.left ≤ t.wire.right) × ((t.wire.right ≡ w.left) → (t.wire.net ≡ w.net) → ⊥) → IsCrossed trunks w track
    crossed t there on before near = record {
      one = t;
      there = there;
      on = on;
      before = before;
      other = λ net. let ends : t.wire.right ≤ w.left = channel.stacked t.wire w (put_there wires (still ++ w ∷ rest) trunks s.part.all t there) mine net before in near.1 (omega (arith, ends, near.0)) net;
      reaches = near.0;
    }

    reached : (r : Option Wire) → HasLast trunks track r → starts_behind r w ≡ false → ((t : PlacedWire) → Contains trunks t → t.track ≡ track → IsBefore (wire_of t) w) → IsCrossed trunks w track
    reached None last e before = absurd cc
    reached (Some l) last e before = crossed last.0 last.1 last.2 (before last.0 last.1 last.2) (not_behind last.0.wire w (subst (λ z. starts_behind (Some z) w ≡ false) (sym last.3) e))

    blocked : IsBlocked cs trunks w track
    blocked =
        elim (no_room (waits left cs w) (starts_behind reach w) full) [
          | inl held ↦
              let for : WaitsFor left cs w = waiting left cs w held in
              inr (record { constraint = for.constraint; there = for.there; upper = for.upper; not_below = λ b there is. s.settled b there for.lower for.left_there (let e : b.wire.key ≡ for.constraint.lower = is in let f : for.lower.key ≡ for.constraint.lower = for.is in cc) })
          | inr near ↦ inl (reached reach s.last near (λ t there e. (s.on t there e).1 w (contains_here w rest)))
        ]

-- a wire that is put on the track
pub put : (wires : List Wire) (cs : List Constraint) (left : List Wire) (trunks : List PlacedWire) (still : List Wire) (w : Wire) (rest : List Wire) (track : ℕ) (reach : Option Wire) → IsChannel wires cs → IsSweep wires cs left trunks still (w ∷ rest) track reach → has_room left cs reach w ≡ true → IsSweep wires cs left (trunks ++ (let t : PlacedWire = record { wire = w; track = track } in t) ∷ []) still rest track (Some w)
put wires cs left trunks still w rest track reach channel s room = record {
  part = record {
    all = subst (λ ws. IsPermutation wires ws) moved (IsPermutation-trans wires (map wire_of trunks ++ (still ++ w ∷ rest)) (map wire_of trunks ++ (w ∷ (still ++ rest))) s.part.all (IsPermutation-append_right (map wire_of trunks) (still ++ w ∷ rest) (w ∷ (still ++ rest)) (IsPermutation-middle still w rest)));
    order = pairs_without IsBefore still w rest s.part.order;
    full = λ i below. any_append_left (λ (t : PlacedWire). t.track ≡ i) trunks (new ∷ []) (s.part.full i below);
    apart = apart;
    above = above;
    tight = tight;
    blocked = λ x there i below. blocked_push cs trunks new x i (omega (arith, below)) (s.part.blocked x (still_there x there) i below);
  };
  low = λ t there. elim (Contains-push_cases trunks new t there) [ inl old ↦ s.low t old | inr same ↦ subst (λ (z : PlacedWire). z.track ≤ track) same (omega arith) ];
  skipped = λ x there. blocked_push cs trunks new x track (omega arith) (s.skipped x there);
  on = on;
  last = (new, Contains-push trunks new, refl, refl);
  settled = λ b there x x_there e. elim (Contains-push_cases trunks new b there) [ inl old ↦ s.settled b old x x_there e | inr same ↦ subst (λ (z : PlacedWire). track ≤ z.track) same (omega arith) ];
  below = λ c there none. below_push trunks new c.lower track (s.below c there none);
}
  where
    new : PlacedWire
    new = record { wire = w; track = track }

    free : (waits left cs w ≡ false) × (starts_behind reach w ≡ true)
    free = room_parts (waits left cs w) (starts_behind reach w) room

    moved : map wire_of trunks ++ (w ∷ (still ++ rest)) ≡ map wire_of (trunks ++ new ∷ []) ++ (still ++ rest)
    moved = rw (map-append wire_of trunks (new ∷ [])) (sym (append_assoc (map wire_of trunks) (w ∷ []) (still ++ rest)))

    still_there : (x : Wire) → Contains (still ++ rest) x → Contains (still ++ w ∷ rest) x
    still_there x there = elim (Contains-append_cases still rest x there) [ inl before ↦ Contains-append_left still (w ∷ rest) x before | inr behind ↦ Contains-append_right still (w ∷ rest) x (contains_there w rest x behind) ]

    span : w.left ≤ w.right
    span = All-contains (λ (z : Wire). z.left ≤ z.right) wires w channel.spans (Contains-permutation (map wire_of trunks ++ (still ++ w ∷ rest)) wires w (IsPermutation-sym wires (map wire_of trunks ++ (still ++ w ∷ rest)) s.part.all) (Contains-append_right (map wire_of trunks) (still ++ w ∷ rest) w (Contains-append_right still (w ∷ rest) w (contains_here w rest))))

    ascends : (t : PlacedWire) → Contains trunks t → t.wire.left ≤ t.wire.right
    ascends t there = All-contains (λ (z : Wire). z.left ≤ z.right) wires t.wire channel.spans (put_there wires (still ++ w ∷ rest) trunks s.part.all t there)

    -- a wire that stood on the track ends where the new one begins, or before
    ends : (t : PlacedWire) → Contains trunks t → t.track ≡ track → t.wire.right ≤ w.left
    ends t there e = by reach (s.on t there e).0 free.1
      where
        by : (r : Option Wire) → Reaches r t.wire.right → starts_behind r w ≡ true → t.wire.right ≤ w.left
        by None h b = absurd h
        by (Some last) h b = elim (begins_at last w b) [ inl far ↦ omega (arith, h, far) | inr (near, net) ↦ omega (arith, h, near) ]

    -- and one of another net before it
    before : (t : PlacedWire) → Contains trunks t → t.track ≡ track → t.wire.net ≢ w.net → t.wire.right < w.left
    before t there e differ = by reach s.last (s.on t there e).0 free.1
      where
        short : (l : PlacedWire) → Contains trunks l → l.track ≡ track → t.wire.right ≤ l.wire.right → l.wire.right ≡ w.left → AreApart (trunk_of t) (trunk_of l) → t.wire.right < w.left
        short l lt on h near (inl less) = omega (arith, less, near, ascends l lt)
        short l lt on h near (inr more) = absurd (omega (arith, more, h, ascends t there))

        by : (r : Option Wire) → HasLast trunks track r → Reaches r t.wire.right → starts_behind r w ≡ true → t.wire.right < w.left
        by None last h b = absurd h
        by (Some z) last h b = elim (begins_at z w b) [
          | inl far ↦ omega (arith, h, far)
          | inr (near, net) ↦
              let is : last.0.wire ≡ z = last.3 in
              let ends' : last.0.wire.right ≡ z.right = ap (λ (x : Wire). x.right) is in
              let of : last.0.wire.net ≡ z.net = ap (λ (x : Wire). x.net) is in
              short last.0 last.1 last.2 (omega (arith, h, ends')) (omega (arith, ends', near)) (s.part.apart t last.0 there last.1 (λ same. differ (let a : t.wire.net ≡ last.0.wire.net = same in let b : last.0.wire.net ≡ z.net = of in let c : z.net ≡ w.net = net in cc)) (let a : t.track ≡ track = e in let b : last.0.track ≡ track = last.2 in cc))
        ]

    apart : (a b : PlacedWire) → Contains (trunks ++ new ∷ []) a → Contains (trunks ++ new ∷ []) b → a.wire.net ≢ b.wire.net → a.track ≡ b.track → AreApart (trunk_of a) (trunk_of b)
    apart a b ha hb differ e =
        elim (Contains-push_cases trunks new a ha) [
          | inl a_old ↦ elim (Contains-push_cases trunks new b hb) [
            | inl b_old ↦ s.part.apart a b a_old b_old differ e
            | inr b_new ↦ inl (subst (λ (z : PlacedWire). a.track ≡ z.track → a.wire.net ≢ z.wire.net → a.wire.right < z.wire.left) b_new (λ f d. before a a_old f d) e differ)
          ]
          | inr a_new ↦ elim (Contains-push_cases trunks new b hb) [
            | inl b_old ↦ inr (subst (λ (z : PlacedWire). z.track ≡ b.track → z.wire.net ≢ b.wire.net → b.wire.right < z.wire.left) a_new (λ f d. before b b_old (sym f) (λ g. d (sym g))) e differ)
            | inr b_new ↦ absurd (differ (ap (λ (z : PlacedWire). z.wire.net) (let same : a ≡ b = cc in same)))
          ]
        ]

    above : (t : PlacedWire) → Contains (trunks ++ new ∷ []) t → (c : Constraint) → Contains cs c → c.upper ≡ t.wire.key → HasWireBelow (trunks ++ new ∷ []) c.lower t.track
    above t there c c_there upper =
        elim (Contains-push_cases trunks new t there) [
          | inl old ↦ below_push trunks new c.lower t.track (s.part.above t old c c_there upper)
          | inr same ↦ subst (λ (z : PlacedWire). c.upper ≡ z.wire.key → HasWireBelow (trunks ++ new ∷ []) c.lower z.track) same (λ up. below_push trunks new c.lower track (s.below c c_there (not_waiting left cs w c free.0 c_there up))) upper
        ]

    tight : (t : PlacedWire) → Contains (trunks ++ new ∷ []) t → (i : ℕ) → i < t.track → IsBlocked cs (trunks ++ new ∷ []) (wire_of t) i
    tight t there i below =
        elim (Contains-push_cases trunks new t there) [
          | inl old ↦ blocked_push cs trunks new (wire_of t) i (omega (arith, below, s.low t old)) (s.part.tight t old i below)
          | inr same ↦ subst (λ (z : PlacedWire). i < z.track → IsBlocked cs (trunks ++ new ∷ []) (wire_of z) i) same (λ less. blocked_push cs trunks new w i (omega (arith, less)) (s.part.blocked w (Contains-append_right still (w ∷ rest) w (contains_here w rest)) i less)) below
        ]

    on : (t : PlacedWire) → Contains (trunks ++ new ∷ []) t → t.track ≡ track → Reaches (Some w) t.wire.right × ((x : Wire) → Contains rest x → IsBefore (wire_of t) x)
    on t there e =
        elim (Contains-push_cases trunks new t there) [
          | inl old ↦ (omega (arith, ends t old e, span), λ x behind. (s.on t old e).1 x (contains_there w rest x behind))
          | inr same ↦ subst (λ (z : PlacedWire). Reaches (Some w) z.wire.right × ((x : Wire) → Contains rest x → IsBefore (wire_of z) x)) same (omega arith, λ x behind. pairs_behind IsBefore still w rest x s.part.order behind)
        ]

-- the track is full where a trunk was put on it
pub ended : (wires : List Wire) (cs : List Constraint) (left : List Wire) (trunks : List PlacedWire) (still : List Wire) (track : ℕ) (reach : Wire) → IsSweep wires cs left trunks still [] track (Some reach) → IsFilled wires cs trunks still (track + 1)
ended wires cs left trunks still track reach s = record {
  part = record {
    all = subst (λ ws. IsPermutation wires (map wire_of trunks ++ ws)) (append-nil still) s.part.all;
    order = subst (λ ws. AllPairs IsBefore ws) (append-nil still) s.part.order;
    full = λ i below. elim (cases_order i track) [
      | inl same ↦ subst (λ n. Any (λ (t : PlacedWire). t.track ≡ n) trunks) (sym same) (any_at (λ (t : PlacedWire). t.track ≡ track) trunks s.last.0 s.last.1 s.last.2)
      | inr other ↦ elim other [ inl less ↦ s.part.full i less | inr more ↦ absurd (omega (arith, below, more)) ]
    ];
    apart = s.part.apart;
    above = s.part.above;
    tight = s.part.tight;
    blocked = λ w there i below. elim (cases_order i track) [
      | inl same ↦ subst (λ n. IsBlocked cs trunks w n) (sym same) (s.skipped w there)
      | inr other ↦ elim other [ inl less ↦ s.part.blocked w (subst (λ ws. Contains ws w) (sym (append-nil still)) there) i less | inr more ↦ absurd (omega (arith, below, more)) ]
    ];
  };
  low = λ t there. omega (arith, s.low t there);
}
