-- All cuts in order, and numbered.
use Rattle.std.proofs.Common.{ℕ, ◌≡◌, ◌≢◌, ◌+◌, ◌*◌, ◌<◌, ◌≤◌, ◌⊎◌, true, false, List, [], ◌∷◌, length, inl, inr, refl, sym, ap, subst, arith, All, AllPairs, Any, Contains, get_or, IsPermutation, IsSorted}
use Rattle.std.specs.Ordering.{is_lt}
use Rattle.std.proofs.lemmas.Bool.{cases_order}
use Rattle.std.proofs.lemmas.Nat.{mul-le}
use Rattle.std.proofs.lemmas.List.Elements.{All-contains}
use Rattle.std.proofs.lemmas.List.Kept.{AllPairs-cons}
use Rattle.std.proofs.lemmas.List.Sorted.{All-permutation, Contains-permutation, length_permutation}
use Rattle.cell_num.specs.declared.net.NetNo.{NetNo}
use Rattle.cell_num.specs.declared.net.Pins.{Pins}
use Rattle.cell_num.proofs.In.{Piece, in_flat, contains_flat}
use Rattle.cell_num.proofs.Lists.{contains_none, contains_cons, contains_here, contains_there, all_imply, all_from_contains}
use Rattle.cell_num.proofs.Pairs.{Some', any_at, one_each_permutation, pairs_none, pairs_tail, pairs_head, pairs_flat, pairs_differ, pairs_from_sorted}
use Rattle.row_place.specs.declared.placement.NodePlace.{NodePlace}
use Rattle.row_place.specs.declared.placement.Placement.{Placement}
use Rattle.row_place.specs.Places.{IsPlacement}
use Rattle.row_place.specs.Trunks.{lines_of}
use Rattle.row_place.proofs.Bounds.{few_nodes}
use Rattle.row_compact.proofs.Within.{few, net_line}
use Rattle.channel_route.specs.declared.wire.Wire.{Wire}
use Rattle.channel_route.specs.Wires.{IsWire, AreWires}
use Rattle.channel_route.proofs.NetWires.{cmp_less}
use Rattle.channel_route.proofs.TrunkChannel.{is_wire, wire_of_net}
use Rattle.dogleg_route.specs.declared.cut.Stretch.{Stretch}
use Rattle.dogleg_route.specs.Cuts.{stretch, cuts_of, all_cuts, stretch_cmp, wire_at, numbered_from}
use Rattle.dogleg_route.specs.Pieces.{IsPiece}
use Rattle.dogleg_route.specs.PieceWires.{IsPieceWire, IsBetween, ComesBefore, ArePieceWires}
use Rattle.dogleg_route.proofs.Cutting.{IsCut, Rises, above_left, sound, rising, complete, begun}
use Rattle.dogleg_route.proofs.Holding.{HeldBy, piece_at}
use Rattle.dogleg_route.proofs.Marks.{mark_place}
use Rattle.dogleg_route.proofs.Sorting.{cmp_same, one_each_from_pairs}

-- ---- all cuts
-- a stretch that is a piece
pub record IsPieceStretch (p : Placement) (pins : Pins) (s : Stretch) : Type 0 where
  pub piece : IsPiece p pins s.net s.left s.right
  pub low : s.left < 1000

low_line : (p : Placement) → IsPlacement p → (net : NetNo) (line : ℕ) → Contains (lines_of p net) line → line < 1000
low_line p is net line there = omega (arith, net_line p is net line there, few p is)

of_wire : (p : Placement) (pins : Pins) → IsPlacement p → (w : Wire) (s : Stretch) → IsCut p pins w w.left s → IsPieceStretch p pins s
of_wire p pins is w s c = record {
  piece = subst (λ n. IsPiece p pins n s.left s.right) (sym c.of) c.piece;
  low = low_line p is w.net s.left (mark_place p w.net s.left c.piece.begins);
}

all_sound : (p : Placement) (pins : Pins) (wires : List Wire) → IsPlacement p → AreWires p pins wires → All (IsPieceStretch p pins) (all_cuts p.nodes wires)
all_sound p pins wires is h = all_from_contains (IsPieceStretch p pins) (all_cuts p.nodes wires) (λ s there.
    let w : Piece (cuts_of p.nodes) wires s = in_flat (cuts_of p.nodes) wires s there in
    of_wire p pins is w.of s (All-contains (IsCut p pins w.of w.of.left) (cuts_of p.nodes w.of) s (sound p pins w.of w.of.left p.nodes (begun p pins w.of is (is_wire p pins wires h w.of w.listed))) w.inside))

abbrev over : NetNo → ℕ → ℕ → Stretch
over net left right = record { left = left; right = right; net = net }

all_complete : (p : Placement) (pins : Pins) (wires : List Wire) → IsPlacement p → AreWires p pins wires → (net : NetNo) (l r : ℕ) → IsPiece p pins net l r → Contains (all_cuts p.nodes wires) (over net l r)
all_complete p pins wires is h net l r piece =
    let w : Some' (λ (w : Wire). w.net ≡ net) wires = wire_of_net p pins wires h net piece.trunk in
    let wire : IsWire p pins w.it = is_wire p pins wires h w.it w.there in
    let mine : IsPiece p pins w.it.net l r = subst (λ n. IsPiece p pins n l r) (sym w.holds) piece in
    let cut : Contains (cuts_of p.nodes w.it) (stretch w.it l r) = complete p pins w.it w.it.left p.nodes l r (begun p pins w.it is wire) mine (above_left p pins w.it l wire (mark_place p w.it.net l mine.begins)) in
    subst (λ n. Contains (all_cuts p.nodes wires) (over n l r)) w.holds (contains_flat (cuts_of p.nodes) wires w.it (stretch w.it l r) w.there cut)

-- a number for each net and first line
abbrev name : Stretch → ℕ
name s = 1000 * s.net.0 + s.left

differ : (s t : Stretch) → s.left < 1000 → t.left < 1000 → (s.net.0 ≢ t.net.0) ⊎ (s.left ≢ t.left) → name s ≢ name t
differ s t low high (inl nets) e = nets (omega (arith, low, high, e))
differ s t low high (inr lines) e = lines (omega (arith, low, high, e))

-- the cuts of a wire, with its net
pub record IsOf (w : Wire) (s : Stretch) : Type 0 where
  pub of : s.net ≡ w.net
  pub low : s.left < 1000

names_differ : (p : Placement) (pins : Pins) (wires : List Wire) → IsPlacement p → AreWires p pins wires → AllPairs (λ a b. name a ≢ name b) (all_cuts p.nodes wires)
names_differ p pins wires is h =
    pairs_flat (λ (a b : Wire). a.key ≢ b.key) (IsWire p pins) (λ (a b : Stretch). name a ≢ name b) IsOf (cuts_of p.nodes) wires
    (λ w wire. of_all w wire) (λ w wire. within w wire) (λ v w s t iv iw keys ps pt. across v w s t iv iw keys ps pt) h.found.each (pairs_differ (λ (w : Wire). w.key) wires h.found.distinct)
  where
    of_all : (w : Wire) → IsWire p pins w → All (IsOf w) (cuts_of p.nodes w)
    of_all w wire = all_imply (IsCut p pins w w.left) (IsOf w) (cuts_of p.nodes w) (λ s c. record { of = c.of; low = low_line p is w.net s.left (mark_place p w.net s.left c.piece.begins) }) (sound p pins w w.left p.nodes (begun p pins w is wire))

    within : (w : Wire) → IsWire p pins w → AllPairs (λ (a b : Stretch). name a ≢ name b) (cuts_of p.nodes w)
    within w wire i j d less short =
        let up : Rises (get_or (cuts_of p.nodes w) i d) (get_or (cuts_of p.nodes w) j d) = rising p pins w w.left p.nodes (begun p pins w is wire) i j d less short in
        let a : IsOf w (get_or (cuts_of p.nodes w) i d) = of_all w wire i d (omega (arith, less, short)) in
        let b : IsOf w (get_or (cuts_of p.nodes w) j d) = of_all w wire j d short in
        differ (get_or (cuts_of p.nodes w) i d) (get_or (cuts_of p.nodes w) j d) a.low b.low (inr (λ e. omega (arith, up, e)))

    across : (v w : Wire) (s t : Stretch) → IsWire p pins v → IsWire p pins w → v.key ≢ w.key → IsOf v s → IsOf w t → name s ≢ name t
    across v w s t iv iw keys ps pt = differ s t ps.low pt.low (inl (λ e. keys (omega (arith, e, iv.key, iw.key, ap (λ (n : NetNo). n.0) ps.of, ap (λ (n : NetNo). n.0) pt.of))))

-- ---- in order
pub record IsBeforeStretch (a b : Stretch) : Type 0 where
  pub lines : (a.left < b.left) ⊎ ((a.left ≡ b.left) × ((a.right < b.right) ⊎ ((a.right ≡ b.right) × (a.net.0 < b.net.0))))

before_trans : (a b c : Stretch) → IsBeforeStretch a b → IsBeforeStretch b c → IsBeforeStretch a c
before_trans a b c x y = record { lines = by x.lines y.lines }
  where
    by : (a.left < b.left) ⊎ ((a.left ≡ b.left) × ((a.right < b.right) ⊎ ((a.right ≡ b.right) × (a.net.0 < b.net.0)))) → (b.left < c.left) ⊎ ((b.left ≡ c.left) × ((b.right < c.right) ⊎ ((b.right ≡ c.right) × (b.net.0 < c.net.0)))) → (a.left < c.left) ⊎ ((a.left ≡ c.left) × ((a.right < c.right) ⊎ ((a.right ≡ c.right) × (a.net.0 < c.net.0))))
    by (inl e) (inl f) = inl (omega (arith, e, f))
    by (inl e) (inr (f, _)) = inl (omega (arith, e, f))
    by (inr (e, _)) (inl f) = inl (omega (arith, e, f))
    by (inr (e, inl g)) (inr (f, inl h)) = inr (omega (arith, e, f), inl (omega (arith, g, h)))
    by (inr (e, inl g)) (inr (f, inr (h, _))) = inr (omega (arith, e, f), inl (omega (arith, g, h)))
    by (inr (e, inr (g, _))) (inr (f, inl h)) = inr (omega (arith, e, f), inl (omega (arith, g, h)))
    by (inr (e, inr (g, m))) (inr (f, inr (h, n))) = inr (omega (arith, e, f), inr (omega (arith, g, h), omega (arith, m, n)))

before_from_cmp : (a b : Stretch) → is_lt (stretch_cmp b a) ≡ false → name a ≢ name b → IsBeforeStretch a b
before_from_cmp a b e names = record { lines = left (cases_order a.left b.left) }
  where
    wrong_left : b.left < a.left → ⊥
    wrong_left h = let lt : is_lt (stretch_cmp b a) ≡ true = rw (cmp_less b.left a.left h) refl in cc

    wrong_right : a.left ≡ b.left → b.right < a.right → ⊥
    wrong_right same h = let lt : is_lt (stretch_cmp b a) ≡ true = rw (cmp_same b.left a.left (sym same)) (rw (cmp_less b.right a.right h) refl) in cc

    wrong_net : a.left ≡ b.left → a.right ≡ b.right → b.net.0 < a.net.0 → ⊥
    wrong_net same one h = let lt : is_lt (stretch_cmp b a) ≡ true = rw (cmp_same b.left a.left (sym same)) (rw (cmp_same b.right a.right (sym one)) (rw (cmp_less b.net.0 a.net.0 h) refl)) in cc

    net : a.left ≡ b.left → a.right ≡ b.right → (a.net.0 ≡ b.net.0) ⊎ ((a.net.0 < b.net.0) ⊎ (b.net.0 < a.net.0)) → a.net.0 < b.net.0
    net same one (inl twice) = absurd (names (omega (arith, same, twice)))
    net same one (inr (inl less)) = less
    net same one (inr (inr more)) = absurd (wrong_net same one more)

    right : a.left ≡ b.left → (a.right ≡ b.right) ⊎ ((a.right < b.right) ⊎ (b.right < a.right)) → (a.right < b.right) ⊎ ((a.right ≡ b.right) × (a.net.0 < b.net.0))
    right same (inl one) = inr (one, net same one (cases_order a.net.0 b.net.0))
    right same (inr (inl less)) = inl less
    right same (inr (inr more)) = absurd (wrong_right same more)

    left : (a.left ≡ b.left) ⊎ ((a.left < b.left) ⊎ (b.left < a.left)) → (a.left < b.left) ⊎ ((a.left ≡ b.left) × ((a.right < b.right) ⊎ ((a.right ≡ b.right) × (a.net.0 < b.net.0))))
    left (inl same) = inr (same, right same (cases_order a.right b.right))
    left (inr (inl less)) = inl less
    left (inr (inr more)) = absurd (wrong_left more)

-- ---- numbered
pub record IsNumbered (key : ℕ) (ss : List Stretch) (w : Wire) : Type 0 where
  pub s : Stretch
  pub there : Contains ss s
  pub low : key ≤ w.key
  pub is : wire_at w.key s ≡ w

numbered_is : (key : ℕ) (ss : List Stretch) (w : Wire) → Contains (numbered_from key ss) w → IsNumbered key ss w
numbered_is key [] w there = absurd (contains_none w there)
numbered_is key (s ∷ more) w there =
    elim (contains_cons (wire_at key s) (numbered_from (key + 1) more) w there) [
      | inl same ↦ subst (λ z. IsNumbered key (s ∷ more) z) same (record { s = s; there = contains_here s more; low = omega arith; is = refl })
      | inr rest ↦ further (numbered_is (key + 1) more w rest)
    ]
  where
    further : IsNumbered (key + 1) more w → IsNumbered key (s ∷ more) w
    further n = record { s = n.s; there = contains_there s more n.s n.there; low = omega (arith, n.low); is = n.is }

numbered_there : (key : ℕ) (ss : List Stretch) (s : Stretch) → Contains ss s → Some' (λ (w : Wire). wire_at w.key s ≡ w) (numbered_from key ss)
numbered_there key [] s there = absurd (contains_none s there)
numbered_there key (x ∷ more) s there =
    elim (contains_cons x more s there) [
      | inl same ↦ record { it = wire_at key x; there = contains_here (wire_at key x) (numbered_from (key + 1) more); holds = subst (λ z. wire_at key z ≡ wire_at key x) same refl }
      | inr rest ↦ further (numbered_there (key + 1) more s rest)
    ]
  where
    further : Some' (λ (w : Wire). wire_at w.key s ≡ w) (numbered_from (key + 1) more) → Some' (λ (w : Wire). wire_at w.key s ≡ w) (numbered_from key (x ∷ more))
    further w = record { it = w.it; there = contains_there (wire_at key x) (numbered_from (key + 1) more) w.it w.there; holds = w.holds }

numbered_order : (key : ℕ) (ss : List Stretch) → AllPairs IsBeforeStretch ss → AllPairs ComesBefore (numbered_from key ss)
numbered_order key [] h = pairs_none ComesBefore
numbered_order key (s ∷ more) h =
    AllPairs-cons ComesBefore (wire_at key s) (numbered_from (key + 1) more)
    (all_from_contains (ComesBefore (wire_at key s)) (numbered_from (key + 1) more) (λ w there.
    let n : IsNumbered (key + 1) more w = numbered_is (key + 1) more w there in
    let before : IsBeforeStretch s n.s = All-contains (IsBeforeStretch s) more n.s (pairs_head IsBeforeStretch s more h) n.there in
    subst (λ z. ComesBefore (wire_at key s) z) n.is (record { lines = before.lines; keys = omega (arith, n.low) })))
    (numbered_order (key + 1) more (pairs_tail IsBeforeStretch s more h))

between : (wires : List Wire) (net : NetNo) (l r : ℕ) → Some' (λ (w : Wire). wire_at w.key (over net l r) ≡ w) wires → Some' (IsBetween net l r) wires
between wires net l r w = record {
  it = w.it;
  there = w.there;
  holds = record { of = ap (λ (z : Wire). z.net) (sym w.holds); begins = ap (λ (z : Wire). z.left) (sym w.holds); ends = ap (λ (z : Wire). z.right) (sym w.holds) };
}

-- ---- the wires of the pieces
pub piece_wires : (p : Placement) (pins : Pins) (trunks : List Wire) (sorted : List Stretch) → IsPlacement p → AreWires p pins trunks → IsPermutation (all_cuts p.nodes trunks) sorted → IsSorted stretch_cmp sorted → ArePieceWires p pins (numbered_from 0 sorted)
piece_wires p pins trunks sorted is h moved order = record {
  each = all_from_contains (IsPieceWire p pins) wires (λ w there.
      let n : IsNumbered 0 sorted w = numbered_is 0 sorted w there in
      let s : IsPieceStretch p pins n.s = All-contains (IsPieceStretch p pins) sorted n.s (All-permutation (IsPieceStretch p pins) (all_cuts p.nodes trunks) sorted moved (all_sound p pins trunks is h)) n.there in
      subst (λ (z : Wire). IsPiece p pins z.net z.left z.right) n.is s.piece);
  all = λ net l r piece. of_piece net l r piece;
  nets = λ net has.
      let t : Some' (λ (w : Wire). w.net ≡ net) trunks = wire_of_net p pins trunks h net has in
      let begins : Contains (lines_of p net) t.it.left = subst (λ n. Contains (lines_of p n) t.it.left) t.holds (is_wire p pins trunks h t.it t.there).span.begins in
      let held : HeldBy p pins net t.it.left = piece_at p pins net t.it.left has begins in
      let w : Some' (IsBetween net held.left held.right) wires = wire_of_piece net held.left held.right held.piece in
      any_at (λ (v : Wire). v.net ≡ net) wires w.it w.there w.holds.of;
  order = numbered_order 0 sorted (pairs_from_sorted (λ a b. is_lt (stretch_cmp a b)) name IsBeforeStretch before_trans before_from_cmp sorted order (one_each_permutation name (all_cuts p.nodes trunks) sorted moved (one_each_from_pairs name (all_cuts p.nodes trunks) (names_differ p pins trunks is h))));
}
  where
    wires : List Wire
    wires = numbered_from 0 sorted

    of_stretch : (net : NetNo) (l r : ℕ) → Contains (all_cuts p.nodes trunks) (over net l r) → Some' (λ (w : Wire). wire_at w.key (over net l r) ≡ w) wires
    of_stretch net l r there = numbered_there 0 sorted (over net l r) (Contains-permutation (all_cuts p.nodes trunks) sorted (over net l r) moved there)

    wire_of_piece : (net : NetNo) (l r : ℕ) → IsPiece p pins net l r → Some' (IsBetween net l r) wires
    wire_of_piece net l r piece = between wires net l r (of_stretch net l r (all_complete p pins trunks is h net l r piece))

    of_piece : (net : NetNo) (l r : ℕ) → IsPiece p pins net l r → Any (IsBetween net l r) wires
    of_piece net l r piece = let w : Some' (IsBetween net l r) wires = wire_of_piece net l r piece in any_at (IsBetween net l r) wires w.it w.there w.holds

-- ---- how many
few_cuts : (wires nodes stretches : ℕ) → wires ≤ 1024 → nodes ≤ 128 → stretches ≤ wires * (nodes + 1) → stretches ≤ 1000000
few_cuts wires nodes stretches few low h = omega (arith, h, mul-le wires (nodes + 1) 1024 129 few (omega (arith, low)))

pub few_sorted : (p : Placement) (trunks lent : List Wire) (nodes : List NodePlace) (cuts sorted shown : List Stretch) → IsPlacement p → lent ≡ trunks → nodes ≡ p.nodes → shown ≡ sorted → length trunks ≤ 1024 → length cuts ≤ length lent * (length nodes + 1) → IsPermutation cuts sorted → length shown ≤ 1000000
few_sorted p trunks lent nodes cuts sorted shown is one two three few many moved =
    let low : length nodes ≤ 128 = omega (arith, few_nodes p is, ap length two) in
    let less : length lent ≤ 1024 = omega (arith, few, ap length one) in
    omega (arith, few_cuts (length lent) (length nodes) (length cuts) less low many, length_permutation cuts sorted moved, ap length three)

pub few_wires : (key : ℕ) (ss : List Stretch) → length (numbered_from key ss) ≡ length ss
few_wires key [] = refl
few_wires key (s ∷ more) = omega (arith, few_wires (key + 1) more)
