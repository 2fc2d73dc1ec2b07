-- Where there is a way, the wires that are left can fill the empty tracks, and each of them fits on some track.
use Rattle.std.proofs.Common.{ℕ, zero, suc, ◌≡◌, ◌≢◌, ◌<◌, ◌≤◌, ◌+◌, ◌++◌, ◌==◌, leb, cond, Bool, true, false, List, [], ◌∷◌, length, inl, inr, refl, sym, subst, arith, Any, Contains}
use Rattle.std.specs.List.{list_all, range_with_len}
use Rattle.std.proofs.lemmas.Bool.{cases_Bool, cases_eq, cases_lt, and_parts, and_from, eqb-true, eq-eqb, leb-true, le-leb}
use Rattle.std.proofs.lemmas.List.Elements.{Contains-append_left, Contains-push_cases}
use Rattle.cell_num.proofs.Lists.{contains_here, contains_there, contains_cons, contains_none}
use Rattle.cell_num.proofs.Pairs.{Some', some_from_any, any_at, test_finds, test_there}
use Rattle.channel_route.specs.declared.constraint.Constraint.{Constraint}
use Rattle.channel_route.specs.declared.wire.Wire.{Wire}
use Rattle.channel_route.specs.declared.wire.PlacedWire.{PlacedWire}
use Rattle.first_route.specs.Ways.{on_track, fits, is_used, empty_tracks, has_track, is_open, AreFull, Go, Fails}
use Rattle.first_route.proofs.Fitting.{all_pass, fits_fewer}

-- numbers in a row
in_range : (a n x : ℕ) → a ≤ x → x < a + n → Contains (range_with_len a n) x
in_range a zero x low high = absurd (omega (arith, low, high))
in_range a (suc n) x low high =
    elim (cases_eq a x) [
      | inl same ↦ subst (λ (z : ℕ). Contains (range_with_len a (suc n)) z) same (contains_here a (range_with_len (a + 1) n))
      | inr other ↦ contains_there a (range_with_len (a + 1) n) x (in_range (a + 1) n x (omega (arith, low, other)) (omega (arith, high)))
    ]

-- no more tracks are empty than there are
pub few_empty : (tracks : ℕ) (placed : List PlacedWire) → empty_tracks tracks placed ≤ tracks
few_empty zero placed = omega arith
few_empty (suc track) placed = let one : cond (is_used placed track) 0 1 ≤ 1 = at_most (is_used placed track) in omega (arith, one, few_empty track placed)
  where
    at_most : (b : Bool) → cond b 0 1 ≤ 1
    at_most true = omega arith
    at_most false = omega arith

used_is : (placed : List PlacedWire) (track : ℕ) → is_used placed track ≡ true → Any (λ t. t.track ≡ track) placed
used_is placed track h =
    let t : Some' (λ (t : PlacedWire). (t.track == track) ≡ true) placed = test_finds (λ (t : PlacedWire). t.track == track) placed h in
    any_at (λ (t : PlacedWire). t.track ≡ track) placed t.it t.there (eqb-true t.it.track track t.holds)

is_used_at : (placed : List PlacedWire) (track : ℕ) → Any (λ t. t.track ≡ track) placed → is_used placed track ≡ true
is_used_at placed track any =
    let t : Some' (λ (t : PlacedWire). t.track ≡ track) placed = some_from_any (λ (t : PlacedWire). t.track ≡ track) placed any in
    test_there (λ (t : PlacedWire). t.track == track) placed t.it t.there (eq-eqb t.it.track track t.holds)

-- full tracks are those of which none is empty
pub full_empty : (tracks : ℕ) (placed : List PlacedWire) → AreFull tracks placed → empty_tracks tracks placed ≡ 0
full_empty zero placed full = refl
full_empty (suc track) placed full =
    let here : ◌≡◌ {A = ℕ} (cond (is_used placed track) 0 1) 0 = rw (is_used_at placed track (full track (omega arith))) refl in
    let rest : empty_tracks track placed ≡ 0 = full_empty track placed (λ i less. full i (omega (arith, less))) in
    omega (arith, here, rest)

pub empty_full : (tracks : ℕ) (placed : List PlacedWire) → empty_tracks tracks placed ≡ 0 → AreFull tracks placed
empty_full zero placed none i less = absurd (omega (arith, less))
empty_full (suc track) placed none i less =
    elim (cases_eq i track) [
      | inl same ↦ elim (cases_Bool (is_used placed track)) [
        | inl used ↦ subst (λ (z : ℕ). Any (λ (t : PlacedWire). t.track ≡ z) placed) (sym same) (used_is placed track used)
        | inr empty ↦ absurd (let one : ◌≡◌ {A = ℕ} (cond (is_used placed track) 0 1) 1 = rw empty refl in omega (arith, none, one))
      ]
      | inr other ↦ empty_full track placed (omega (arith, none)) i (omega (arith, less, other))
    ]

-- one more wire fills one track at most
used_too : (placed : List PlacedWire) (t : PlacedWire) (track : ℕ) → is_used placed track ≡ true → is_used (placed ++ t ∷ []) track ≡ true
used_too placed t track h =
    let u : Some' (λ (u : PlacedWire). (u.track == track) ≡ true) placed = test_finds (λ (u : PlacedWire). u.track == track) placed h in
    test_there (λ (u : PlacedWire). u.track == track) (placed ++ t ∷ []) u.it (Contains-append_left placed (t ∷ []) u.it u.there) u.holds

used_before : (placed : List PlacedWire) (t : PlacedWire) (track : ℕ) → t.track ≢ track → is_used (placed ++ t ∷ []) track ≡ true → is_used placed track ≡ true
used_before placed t track other h =
    let u : Some' (λ (u : PlacedWire). (u.track == track) ≡ true) (placed ++ t ∷ []) = test_finds (λ (u : PlacedWire). u.track == track) (placed ++ t ∷ []) h in
    elim (Contains-push_cases placed t u.it u.there) [
      | inl there ↦ test_there (λ (u : PlacedWire). u.track == track) placed u.it there u.holds
      | inr same ↦ absurd (other (subst (λ (z : PlacedWire). z.track ≡ track) (sym same) (eqb-true u.it.track track u.holds)))
    ]

-- as many are empty below the track, and one less above it
empty_above : (tracks : ℕ) (placed : List PlacedWire) (t : PlacedWire) → empty_tracks tracks placed ≤ empty_tracks tracks (placed ++ t ∷ []) + 1
empty_above tracks placed t = elim (cases_lt t.track tracks) [ inl less ↦ below tracks less | inr not_less ↦ let same : empty_tracks tracks placed ≤ empty_tracks tracks (placed ++ t ∷ []) = beyond tracks not_less in omega (arith, same) ]
  where
    more : (a b : Bool) → (b ≡ true → a ≡ true) → cond a 0 1 ≤ cond b 0 1
    more a true h = rw (h refl) (omega arith)
    more true false h = omega arith
    more false false h = omega arith

    beyond : (n : ℕ) → n ≤ t.track → empty_tracks n placed ≤ empty_tracks n (placed ++ t ∷ [])
    beyond zero h = omega arith
    beyond (suc n) h =
        let here : cond (is_used placed n) 0 1 ≤ cond (is_used (placed ++ t ∷ []) n) 0 1 = more (is_used placed n) (is_used (placed ++ t ∷ []) n) (used_before placed t n (λ e. omega (arith, e, h))) in
        omega (arith, here, beyond n (omega (arith, h)))

    one : (b : Bool) → cond b 0 1 ≤ 1
    one true = omega arith
    one false = omega arith

    below : (n : ℕ) → t.track < n → empty_tracks n placed ≤ empty_tracks n (placed ++ t ∷ []) + 1
    below zero h = absurd (omega (arith, h))
    below (suc n) h =
        elim (cases_eq t.track n) [
          | inl same ↦ omega (arith, one (is_used placed n), beyond n (omega (arith, same)))
          | inr other ↦
              let here : cond (is_used placed n) 0 1 ≤ cond (is_used (placed ++ t ∷ []) n) 0 1 = more (is_used placed n) (is_used (placed ++ t ∷ []) n) (used_before placed t n other) in
              omega (arith, here, below n (omega (arith, h, other)))
        ]

goes_few : (cs : List Constraint) (tracks : ℕ) (placed : List PlacedWire) (left : List Wire) (way : List ℕ) → Go cs tracks placed left way → empty_tracks tracks placed ≤ length left
goes_few cs tracks placed [] [] g = omega (arith, full_empty tracks placed g)
goes_few cs tracks placed [] (x ∷ way) g = absurd g
goes_few cs tracks placed (w ∷ left) [] g = absurd g
goes_few cs tracks placed (w ∷ left) (x ∷ way) g = omega (arith, goes_few cs tracks (placed ++ on_track w x ∷ []) left way g.2, empty_above tracks placed (on_track w x))

has_on : (cs : List Constraint) (tracks : ℕ) (placed : List PlacedWire) (w : Wire) (track : ℕ) → track < tracks → fits cs placed (on_track w track) ≡ true → has_track cs tracks placed w ≡ true
has_on cs tracks placed w track less fit = test_there (λ (k : ℕ). fits cs placed (on_track w k)) (range_with_len 0 tracks) track (in_range 0 tracks track (omega arith) (omega (arith, less))) fit

has_fewer : (cs : List Constraint) (tracks : ℕ) (placed more : List PlacedWire) (w : Wire) → has_track cs tracks (placed ++ more) w ≡ true → has_track cs tracks placed w ≡ true
has_fewer cs tracks placed more w h =
    let k : Some' (λ (k : ℕ). fits cs (placed ++ more) (on_track w k) ≡ true) (range_with_len 0 tracks) = test_finds (λ (k : ℕ). fits cs (placed ++ more) (on_track w k)) (range_with_len 0 tracks) h in
    test_there (λ (k : ℕ). fits cs placed (on_track w k)) (range_with_len 0 tracks) k.it k.there (fits_fewer cs placed more (on_track w k.it) k.holds)

goes_each : (cs : List Constraint) (tracks : ℕ) (placed : List PlacedWire) (left : List Wire) (way : List ℕ) → Go cs tracks placed left way → (w : Wire) → Contains left w → has_track cs tracks placed w ≡ true
goes_each cs tracks placed [] [] g w there = absurd (contains_none w there)
goes_each cs tracks placed [] (x ∷ way) g w there = absurd g
goes_each cs tracks placed (u ∷ left) [] g w there = absurd g
goes_each cs tracks placed (u ∷ left) (x ∷ way) g w there =
    elim (contains_cons u left w there) [
      | inl same ↦ subst (λ (z : Wire). has_track cs tracks placed z ≡ true) same (has_on cs tracks placed u x g.0 g.1)
      | inr rest ↦ has_fewer cs tracks placed (on_track u x ∷ []) w (goes_each cs tracks (placed ++ on_track u x ∷ []) left way g.2 w rest)
    ]

pub open_where : (cs : List Constraint) (tracks : ℕ) (placed : List PlacedWire) (left : List Wire) (way : List ℕ) → Go cs tracks placed left way → is_open cs tracks placed left ≡ true
open_where cs tracks placed left way g =
    and_from (leb (empty_tracks tracks placed) (length left)) (list_all (has_track cs tracks placed) left)
    (le-leb (empty_tracks tracks placed) (length left) (goes_few cs tracks placed left way g)) (all_pass (has_track cs tracks placed) left (goes_each cs tracks placed left way g))

-- where it is not open, there is no way
pub closed_fails : (cs : List Constraint) (tracks : ℕ) (placed : List PlacedWire) (left : List Wire) → is_open cs tracks placed left ≡ false → Fails cs tracks placed left
closed_fails cs tracks placed left closed way g = let open' : is_open cs tracks placed left ≡ true = open_where cs tracks placed left way g in cc

-- where none is left, every track has a wire
pub open_full : (cs : List Constraint) (tracks : ℕ) (placed : List PlacedWire) → is_open cs tracks placed [] ≡ true → AreFull tracks placed
open_full cs tracks placed h =
    let parts : (leb (empty_tracks tracks placed) 0 ≡ true) × (list_all (has_track cs tracks placed) [] ≡ true) = and_parts (leb (empty_tracks tracks placed) 0) (list_all (has_track cs tracks placed) []) h in
    empty_full tracks placed (omega (arith, leb-true (empty_tracks tracks placed) 0 parts.0))
