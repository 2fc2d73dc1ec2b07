-- A wire fits beside others exactly where each of them allows it.
use Rattle.std.proofs.Common.{◌≡◌, ◌≢◌, ◌<◌, ◌++◌, ◌==◌, ◌&&◌, ◌||◌, not, ltb, Bool, true, false, List, inl, inr, refl, ap, Contains}
use Rattle.std.specs.List.{list_all}
use Rattle.std.proofs.lemmas.Bool.{cases_Bool, and_parts, and_from, or_cases, or_left, or_right, eqb-true, eq-eqb, ltb-true, lt-ltb}
use Rattle.std.proofs.lemmas.List.Elements.{All-contains, Contains-append_left}
use Rattle.std.proofs.lemmas.List.Sums.{AllPass-from_list_all, list_all-from_AllPass}
use Rattle.cell_num.specs.declared.net.NetNo.{NetNo}
use Rattle.cell_num.proofs.Lists.{all_from_contains}
use Rattle.channel_route.specs.declared.constraint.Constraint.{Constraint}
use Rattle.channel_route.specs.declared.wire.PlacedWire.{PlacedWire}
use Rattle.channel_route.specs.Graph.{trunk_of}
use Rattle.channel_route.specs.Routing.{AreApart}
use Rattle.channel_route.proofs.TrunkChannel.{net_of}
use Rattle.first_route.specs.Ways.{are_apart, is_clear, is_over, concerns, is_kept, fits}

-- a test that all elements pass, one by one
pub each_passes : {X : Type 0} (p : X → Bool) (xs : List X) (x : X) → list_all p xs ≡ true → Contains xs x → p x ≡ true
each_passes p xs x h there = All-contains (λ x. p x ≡ true) xs x (AllPass-from_list_all p xs h) there

pub all_pass : {X : Type 0} (p : X → Bool) (xs : List X) → ((x : X) → Contains xs x → p x ≡ true) → list_all p xs ≡ true
all_pass p xs h = list_all-from_AllPass p xs (all_from_contains (λ x. p x ≡ true) xs h)

-- what a wire that is placed asks of another one
pub record Allows (constraints : List Constraint) (t o : PlacedWire) : Type 0 where
  pub apart : t.wire.net ≢ o.wire.net → t.track ≡ o.track → AreApart (trunk_of t) (trunk_of o)
  pub below : (c : Constraint) → Contains constraints c → c.upper ≡ t.wire.key → c.lower ≡ o.wire.key → o.track < t.track
  pub above : (c : Constraint) → Contains constraints c → c.upper ≡ o.wire.key → c.lower ≡ t.wire.key → t.track < o.track

not_or : (a b : Bool) → a ≡ true → (not a || b) ≡ true → b ≡ true
not_or true b e h = h
not_or false b e h = absurd cc

or_not : (a b : Bool) → (a ≡ true → b ≡ true) → (not a || b) ≡ true
or_not true b h = h refl
or_not false b h = refl

net_same : (a b : NetNo) → (a.0 == b.0) ≡ true → a ≡ b
net_same a b e = ap net_of (eqb-true a.0 b.0 e)

apart_is : (t o : PlacedWire) → are_apart t.wire o.wire ≡ true → AreApart (trunk_of t) (trunk_of o)
apart_is t o h =
    elim (or_cases (ltb t.wire.right o.wire.left) (ltb o.wire.right t.wire.left) h) [
      | inl before ↦ inl (ltb-true t.wire.right o.wire.left before)
      | inr after' ↦ inr (ltb-true o.wire.right t.wire.left after')
    ]

apart_from : (t o : PlacedWire) → AreApart (trunk_of t) (trunk_of o) → are_apart t.wire o.wire ≡ true
apart_from t o (inl before) = or_left (ltb t.wire.right o.wire.left) (ltb o.wire.right t.wire.left) (lt-ltb t.wire.right o.wire.left before)
apart_from t o (inr after') = or_right (ltb t.wire.right o.wire.left) (ltb o.wire.right t.wire.left) (lt-ltb o.wire.right t.wire.left after')

clear_is : (t o : PlacedWire) → is_clear t o ≡ true → t.wire.net ≢ o.wire.net → t.track ≡ o.track → AreApart (trunk_of t) (trunk_of o)
clear_is t o h differ same =
    elim (or_cases (t.wire.net.0 == o.wire.net.0) (are_apart t.wire o.wire) (not_or (t.track == o.track) ((t.wire.net.0 == o.wire.net.0) || are_apart t.wire o.wire) (eq-eqb t.track o.track same) h)) [
      | inl one ↦ absurd (differ (net_same t.wire.net o.wire.net one))
      | inr apart ↦ apart_is t o apart
    ]

clear_from : (t o : PlacedWire) → (t.wire.net ≢ o.wire.net → t.track ≡ o.track → AreApart (trunk_of t) (trunk_of o)) → is_clear t o ≡ true
clear_from t o h = or_not (t.track == o.track) ((t.wire.net.0 == o.wire.net.0) || are_apart t.wire o.wire) (λ same.
    elim (cases_Bool (t.wire.net.0 == o.wire.net.0)) [
      | inl one ↦ or_left (t.wire.net.0 == o.wire.net.0) (are_apart t.wire o.wire) one
      | inr other ↦ or_right (t.wire.net.0 == o.wire.net.0) (are_apart t.wire o.wire) (apart_from t o (h (differ other) (eqb-true t.track o.track same)))
    ])
  where
    differ : (t.wire.net.0 == o.wire.net.0) ≡ false → t.wire.net ≢ o.wire.net
    differ other one = let same : (t.wire.net.0 == o.wire.net.0) ≡ true = eq-eqb t.wire.net.0 o.wire.net.0 (ap (λ (n : NetNo). n.0) one) in cc

over_is : (c : Constraint) (u l : PlacedWire) → is_over c u l ≡ true → c.upper ≡ u.wire.key → c.lower ≡ l.wire.key → l.track < u.track
over_is c u l h eu el =
    ltb-true l.track u.track (not_or ((c.upper == u.wire.key) && (c.lower == l.wire.key)) (ltb l.track u.track) (and_from (c.upper == u.wire.key) (c.lower == l.wire.key) (eq-eqb c.upper u.wire.key eu) (eq-eqb c.lower l.wire.key el)) h)

over_from : (c : Constraint) (u l : PlacedWire) → (c.upper ≡ u.wire.key → c.lower ≡ l.wire.key → l.track < u.track) → is_over c u l ≡ true
over_from c u l h = or_not ((c.upper == u.wire.key) && (c.lower == l.wire.key)) (ltb l.track u.track) (λ both.
    let parts : ((c.upper == u.wire.key) ≡ true) × ((c.lower == l.wire.key) ≡ true) = and_parts (c.upper == u.wire.key) (c.lower == l.wire.key) both in
    lt-ltb l.track u.track (h (eqb-true c.upper u.wire.key parts.0) (eqb-true c.lower l.wire.key parts.1)))

-- the order of two wires, as one constraint asks
abbrev pairs_stand : Constraint → PlacedWire → PlacedWire → Bool
pairs_stand c t o = is_over c t o && is_over c o t

kept_pair : (placed : List PlacedWire) (t : PlacedWire) (c : Constraint) (o : PlacedWire) → is_kept placed t c ≡ true → Contains placed o → concerns c t ≡ true → (is_over c t o ≡ true) × (is_over c o t ≡ true)
kept_pair placed t c o h there mine =
    and_parts (is_over c t o) (is_over c o t) (each_passes (pairs_stand c t) placed o (not_or (concerns c t) (list_all (pairs_stand c t) placed) mine h) there)

-- both ways
pub fits_is : (cs : List Constraint) (placed : List PlacedWire) (t : PlacedWire) → fits cs placed t ≡ true → (o : PlacedWire) → Contains placed o → Allows cs t o
fits_is cs placed t h o there =
    let parts : (list_all (is_clear t) placed ≡ true) × (list_all (is_kept placed t) cs ≡ true) = and_parts (list_all (is_clear t) placed) (list_all (is_kept placed t) cs) h in
    record {
      apart = clear_is t o (each_passes (is_clear t) placed o parts.0 there);
      below = λ c hc eu el. over_is c t o (kept_pair placed t c o (each_passes (is_kept placed t) cs c parts.1 hc) there (or_left (c.upper == t.wire.key) (c.lower == t.wire.key) (eq-eqb c.upper t.wire.key eu))).0 eu el;
      above = λ c hc eu el. over_is c o t (kept_pair placed t c o (each_passes (is_kept placed t) cs c parts.1 hc) there (or_right (c.upper == t.wire.key) (c.lower == t.wire.key) (eq-eqb c.lower t.wire.key el))).1 eu el;
    }

pub fits_from : (cs : List Constraint) (placed : List PlacedWire) (t : PlacedWire) → ((o : PlacedWire) → Contains placed o → Allows cs t o) → fits cs placed t ≡ true
fits_from cs placed t h =
    and_from (list_all (is_clear t) placed) (list_all (is_kept placed t) cs) (all_pass (is_clear t) placed (λ o there. clear_from t o (h o there).apart))
    (all_pass (is_kept placed t) cs (λ c hc. or_not (concerns c t) (list_all (pairs_stand c t) placed) (λ _. all_pass (pairs_stand c t) placed (λ o there.
    and_from (is_over c t o) (is_over c o t) (over_from c t o ((h o there).below c hc)) (over_from c o t ((h o there).above c hc))))))

-- beside fewer wires
pub fits_fewer : (cs : List Constraint) (placed more : List PlacedWire) (t : PlacedWire) → fits cs (placed ++ more) t ≡ true → fits cs placed t ≡ true
fits_fewer cs placed more t h = fits_from cs placed t (λ o there. fits_is cs (placed ++ more) t h o (Contains-append_left placed more o there))
