-- Each track of some nets in turn, before those of the others are listed.
use Rattle.std.proofs.Common.{ℕ, ◌≡◌, ◌≤◌, ◌++◌, ◌&&◌, not, Bool, true, List, [], ◌∷◌, length, refl, sym, ap}
use Rattle.std.proofs.Common.{subst}
use Rattle.std.proofs.Common.{arith, Contains, filter, ◌∙◌}
use Rattle.std.specs.List.{flat_map}
use Rattle.std.proofs.lemmas.Bool.{and_from, and_parts, both_ways}
use Rattle.std.proofs.lemmas.List.Concat.{flat_map-append, flat_map-cons}
use Rattle.std.proofs.lemmas.List.FromFn.{length-map-range_with_len}
use Rattle.std.proofs.lemmas.List.Sums.{count_by-le-length, length-filter}
use Rattle.cell_num.specs.declared.net.NetNo.{NetNo}
use Rattle.cell_num.specs.declared.net.Pins.{Pins}
use Rattle.cell_num.proofs.Lists.{contains_here, contains_there}
use Rattle.track_ways.specs.declared.line.Line.{Line}
use Rattle.track_ways.specs.declared.track.NetTrack.{NetTrack}
use Rattle.track_ways.specs.Fillings.{each_listed, is_there, keeps, kept}
use Rattle.track_ways.specs.Lines.{is_held}
use Rattle.track_ways.specs.Tracks.{Listed}
use Rattle.track_ways.specs.Ways.{fills, is_listed, missing, net_of, nets_below, test_beside, ways_beside}
use Rattle.track_ways.proofs.Listing.{filter_flat}

pub flat_flat : {X Y Z : Type 0} (g : Y → List Z) (f : X → List Y) (xs : List X) → flat_map g (flat_map f xs) ≡
    flat_map (λ x. flat_map g (f x)) xs
flat_flat g f [] = refl
flat_flat g f (x ∷ xs) =
    ap (flat_map g) (flat_map-cons f x xs) ∙ flat_map-append g (f x) (flat_map f xs) ∙ ap (λ ys. flat_map g (f x) ++
    ys) (flat_flat g f xs)
    ∙ sym (flat_map-cons (λ x. flat_map g (f x)) x xs)

-- the same pieces of all elements
pub flat_same : {X Y : Type 0} (f g : X → List Y) (xs : List X) → ((x : X) → Contains xs x → f x ≡ g x) → flat_map f
    xs ≡ flat_map g xs
flat_same f g [] same = refl
flat_same f g (x ∷ xs) same =
    flat_map-cons f x xs ∙ ap (λ ys. ys ++ flat_map f xs) (same x (contains_here x xs))
    ∙ ap (λ ys. g x ++ ys) (flat_same f g xs (λ y there. same y (contains_there x xs y there))) ∙ sym (flat_map-cons g
    x xs)

pub flat_each : {X : Type 0} (xs : List X) → xs ≡ flat_map (λ x. x ∷ []) xs
flat_each [] = refl
flat_each (x ∷ xs) = ap (λ ys. x ∷ ys) (flat_each xs) ∙ sym (flat_map-cons (λ x. x ∷ []) x xs)

-- where the nets get their tracks one by one, no net is left
pub beside_filled : (limit : ℕ) (line : Line) (nets : List NetNo) (tracks : List NetTrack) → ways_beside limit line []
    nets tracks ≡ flat_map (λ more. ways_beside limit line [] [] more) (fills limit nets tracks)
beside_filled limit line nets tracks =
    ap (filter (test_beside limit line [])) (flat_each (fills limit nets tracks))
    ∙ filter_flat (test_beside limit line []) (λ more. more ∷ []) (fills limit nets tracks)

-- ---- the nets without a track

listed_still : (tracks : List NetTrack) (net : NetNo) → Listed tracks net → is_listed tracks net ≡ true
listed_still tracks net l = subst (λ (n : NetNo). is_listed tracks n ≡ true) l.is (is_there tracks l.it l.there)

not_twice : (b : Bool) → not b ≡ true → b ≡ true → ⊥
not_twice b n y = both_ways (not b) (ap not y) n

-- a net that has got its track is not missing
pub not_missing : (pins : Pins) (limit : ℕ) (nets : List NetNo) (before : NetNo → Bool) (line : Line) (after : NetNo →
    Bool) (some : List NetNo) (tracks more : List NetTrack) (net : NetNo)
    → (Contains (missing pins before line after nets tracks) net → Contains some net) → Contains (fills limit some
    tracks) more → Contains (missing pins before line after nets more) net → ⊥
not_missing pins limit nets before line after some tracks more net within filled missing' =
    let still : Contains nets net × ((is_held pins before line after net && not (is_listed more net)) ≡ true) = kept
    (λ net. is_held pins before line after net && not (is_listed more net)) nets net missing' in
    let parts : (is_held pins before line after net ≡ true) × (not (is_listed more net) ≡ true) = and_parts (is_held
    pins before line after net) (not (is_listed more net)) still.1 in
    let has : Listed more net = each_listed limit some tracks more net filled (λ none. within (keeps (λ net. is_held
    pins before line after net && not (is_listed tracks net)) nets net still.0
    (and_from (is_held pins before line after net) (not (is_listed tracks net)) parts.0 (ap not none)))) in
    not_twice (is_listed more net) parts.1 (listed_still more net has)

pub missing_few : (pins : Pins) (nets : ℕ) (before : NetNo → Bool) (line : Line) (after : NetNo → Bool) (tracks : List
    NetTrack) → length (missing pins before line after (nets_below nets) tracks) ≤ nets
missing_few pins nets before line after tracks =
    omega (
      arith,
      length-filter (λ net. is_held pins before line after net && not (is_listed tracks net)) (nets_below nets),
      count_by-le-length (λ net. is_held pins before line after net && not (is_listed tracks net)) (nets_below nets),
      length-map-range_with_len net_of 0 nets,
    )
