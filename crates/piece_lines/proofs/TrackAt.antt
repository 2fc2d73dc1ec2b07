-- The track of a net after a line, in a list of pieces.
use Rattle.std.proofs.Common.{ℕ, ◌≡◌, ◌<◌, ◌≤◌, ◌⊎◌, ◌==◌, ◌&&◌, ◌||◌, leb, ltb, Bool, true, false, cond, List, [], ◌∷◌, inl, inr, refl, subst, arith, AllPairs, Contains}
use Rattle.std.proofs.lemmas.Bool.{cases_Bool, and_parts, and_from, or_left, or_right, or_cases, eq-eqb, eqb-true, ltb-true, lt-ltb, leb-true, le-leb}
use Rattle.std.proofs.lemmas.List.Elements.{All-contains}
use Rattle.cell_num.specs.declared.net.NetNo.{NetNo}
use Rattle.cell_num.specs.declared.net.Pins.{Pins}
use Rattle.cell_num.proofs.Lists.{contains_none, contains_cons, contains_here, contains_there}
use Rattle.cell_num.proofs.Pairs.{pairs_head, pairs_tail}
use Rattle.row_place.specs.declared.placement.Placement.{Placement}
use Rattle.channel_route.specs.declared.routing.Trunk.{Trunk}
use Rattle.dogleg_route.specs.Pieces.{IsPiece}
use Rattle.dogleg_route.specs.Routings.{StandsEarlier}
use Rattle.dogleg_route.proofs.Marks.{IsStacked, stacked}

-- it begins at the line, or holds it and goes on
abbrev pub goes_after : ℕ → Trunk → Bool
goes_after line t = leb t.left line && ((t.left == line) || ltb line t.right)

abbrev pub track_at : List Trunk → ℕ → NetNo → ℕ
track_at [] line net = 0
track_at (t ∷ list) line net = cond ((t.net.0 == net.0) && goes_after line t) t.track (track_at list line net)

pub goes_after_beginning : (line : ℕ) (t : Trunk) → t.left ≡ line → goes_after line t ≡ true
goes_after_beginning line t e = and_from _ _ (le-leb t.left line (omega (arith, e))) (or_left _ _ (eq-eqb t.left line e))

pub goes_after_within : (line : ℕ) (t : Trunk) → t.left ≤ line → line < t.right → goes_after line t ≡ true
goes_after_within line t low high = and_from _ _ (le-leb t.left line low) (or_right (t.left == line) _ (lt-ltb line t.right high))

record Goes (line : ℕ) (t : Trunk) : Type 0 where
  pub low : t.left ≤ line
  pub beyond : (t.left ≡ line) ⊎ (line < t.right)

goes : (line : ℕ) (t : Trunk) → goes_after line t ≡ true → Goes line t
goes line t e =
    let w : (leb t.left line ≡ true) × (((t.left == line) || ltb line t.right) ≡ true) = and_parts _ _ e in
    record { low = leb-true t.left line w.0; beyond = elim (or_cases _ _ w.1) [ inl b ↦ inl (eqb-true t.left line b) | inr h ↦ inr (ltb-true line t.right h) ] }

-- a piece that begins before another one of its net does not go on where that one does
other : (p : Placement) (pins : Pins) (line : ℕ) (x t : Trunk) → IsPiece p pins x.net x.left x.right → IsPiece p pins t.net t.left t.right → StandsEarlier x t → goes_after line t ≡ true → ((x.net.0 == t.net.0) && goes_after line x) ≡ true → ⊥
other p pins line x t px pt (inl less) after e = let w : (x.net.0 == t.net.0) ≡ true = (and_parts _ _ e).0 in omega (arith, less, eqb-true x.net.0 t.net.0 w)
other p pins line x t px pt (inr (same, less)) after e =
    let w : goes_after line x ≡ true = (and_parts (x.net.0 == t.net.0) (goes_after line x) e).1 in
    let g : Goes line x = goes line x w in
    let h : Goes line t = goes line t after in
    let s : IsStacked x.right t.left t.right = stacked p pins t.net x.left x.right t.left t.right (subst (λ n. IsPiece p pins n x.left x.right) same px) pt less in
    no g h s g.beyond
  where
    no : Goes line x → Goes line t → IsStacked x.right t.left t.right → (x.left ≡ line) ⊎ (line < x.right) → ⊥
    no g h s (inl b) = omega (arith, b, less, h.low)
    no g h s (inr b) = omega (arith, b, s.ends, h.low)

pub track_at_is : (p : Placement) (pins : Pins) (list : List Trunk) → ((t : Trunk) → Contains list t → IsPiece p pins t.net t.left t.right) → AllPairs StandsEarlier list → (line : ℕ) (t : Trunk) → Contains list t → goes_after line t ≡ true → track_at list line t.net ≡ t.track
track_at_is p pins [] each order line t there after = absurd (contains_none t there)
track_at_is p pins (x ∷ list) each order line t there after =
    elim (contains_cons x list t there) [
      | inl same ↦ subst (λ z. goes_after line z ≡ true → track_at (x ∷ list) line z.net ≡ z.track) same first after
      | inr rest ↦ later rest (cases_Bool ((x.net.0 == t.net.0) && goes_after line x)) (track_at_is p pins list (λ z at. each z (contains_there x list z at)) (pairs_tail StandsEarlier x list order) line t rest after)
    ]
  where
    first : goes_after line x ≡ true → track_at (x ∷ list) line x.net ≡ x.track
    first e = let w : ((x.net.0 == x.net.0) && goes_after line x) ≡ true = and_from _ _ (eq-eqb x.net.0 x.net.0 refl) e in rw w refl

    later : Contains list t → (((x.net.0 == t.net.0) && goes_after line x) ≡ true) ⊎ (((x.net.0 == t.net.0) && goes_after line x) ≡ false) → track_at list line t.net ≡ t.track → track_at (x ∷ list) line t.net ≡ t.track
    later rest (inl e) same = absurd (other p pins line x t (each x (contains_here x list)) (each t there) (All-contains (StandsEarlier x) list t (pairs_head StandsEarlier x list order) rest) after e)
    later rest (inr e) same = rw e same
