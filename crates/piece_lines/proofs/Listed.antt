-- The pieces of a placement as a list, net by net and line by line.
use Rattle.std.proofs.Common.{ℕ, zero, suc, ◌≡◌, ◌+◌, ◌<◌, ◌⊎◌, ◌++◌, Bool, true, List, [], ◌∷◌, Option, Some, None, length, inl, inr, refl, sym, ap, subst, arith, AllPairs, Any, Contains}
use Rattle.std.proofs.lemmas.Bool.{cases_lt, eq-eqb}
use Rattle.std.proofs.lemmas.List.Elements.{Contains-append_cases, Contains-append_left, Contains-append_right}
use Rattle.cell_num.specs.declared.net.NetNo.{NetNo}
use Rattle.cell_num.specs.declared.net.Pins.{Pins}
use Rattle.cell_num.proofs.Lists.{all_from_contains, contains_here, contains_none, contains_one}
use Rattle.cell_num.proofs.Pairs.{Some', some_from_any, any_at, pairs_none, pairs_one, pairs_append}
use Rattle.row_model.proofs.Decide.{net_decides}
use Rattle.row_place.specs.declared.placement.Placement.{Placement}
use Rattle.row_place.specs.Trunks.{lines_of, HasPins, HasTrunk}
use Rattle.channel_route.specs.declared.routing.Trunk.{Trunk}
use Rattle.dogleg_route.specs.Pieces.{IsPiece}
use Rattle.dogleg_route.specs.Routings.{GoesOver, StandsEarlier}
use Rattle.dogleg_route.proofs.Marks.{mark_place, one_right}
use Rattle.dogleg_route.proofs.Holding.{HeldBy, piece_at}
use Rattle.track_ways.specs.declared.line.Line.{Line}
use Rattle.track_ways.specs.Lines.{is_net, has_place, is_ahead}
use Rattle.track_ways.specs.Ways.{net_of}
use Rattle.track_ways.specs.Channel.{AreLinesOf}
use Rattle.track_ways.proofs.Places.{at_line, line_at, some_is_net, place_row}
use Rattle.piece_lines.specs.Lines.{PieceSweeps}
use Rattle.piece_lines.specs.Within.{ArePiecesWithin}
use Rattle.piece_lines.proofs.Begins.{Begins, begins}
use Rattle.piece_lines.proofs.Kept.{ArePieces, within}
use Rattle.piece_lines.proofs.SweptAt.{Outs, each_of_sweeps}

abbrev the_piece : (ℕ → NetNo → ℕ) → NetNo → ℕ → ℕ → Trunk
the_piece of net l r = record { net = net; left = l; right = r; track = of l net }

abbrev listed : {p : Placement} {pins : Pins} → (ℕ → NetNo → ℕ) → (net : NetNo) (l : ℕ) → Begins p pins net l → List Trunk
listed of net l (inl (r, piece)) = the_piece of net l r ∷ []
listed of net l (inr none) = []

-- the pieces of a net that begin before a line
abbrev net_pieces : (p : Placement) (pins : Pins) (lines : List Line) → AreLinesOf p lines → (ℕ → NetNo → ℕ) → NetNo → ℕ → List Trunk
net_pieces p pins lines h of net zero = []
net_pieces p pins lines h of net (suc l) = net_pieces p pins lines h of net l ++ listed of net l (begins p pins lines h net l)

-- those of the nets below a number
abbrev pieces_below : (p : Placement) (pins : Pins) (lines : List Line) → AreLinesOf p lines → (ℕ → NetNo → ℕ) → ℕ → List Trunk
pieces_below p pins lines h of zero = []
pieces_below p pins lines h of (suc n) = pieces_below p pins lines h of n ++ net_pieces p pins lines h of (net_of n) (length lines)

-- what is listed
record IsListed (p : Placement) (pins : Pins) (of : ℕ → NetNo → ℕ) (t : Trunk) : Type 0 where
  pub piece : IsPiece p pins t.net t.left t.right
  pub track : t.track ≡ of t.left t.net

at_one : {p : Placement} {pins : Pins} (of : ℕ → NetNo → ℕ) (net : NetNo) (l : ℕ) (d : Begins p pins net l) (t : Trunk) → Contains (listed of net l d) t → (t.net ≡ net) × (t.left ≡ l) × IsListed p pins of t
at_one {p} {pins} of net l (inl (r, piece)) t there = subst (λ (z : Trunk). (z.net ≡ net) × (z.left ≡ l) × IsListed p pins of z) (contains_one (the_piece of net l r) t there) (refl, refl, record { piece = piece; track = refl })
at_one of net l (inr none) t there = absurd (contains_none t there)

of_net : (p : Placement) (pins : Pins) (lines : List Line) (h : AreLinesOf p lines) (of : ℕ → NetNo → ℕ) (net : NetNo) (n : ℕ) (t : Trunk) → Contains (net_pieces p pins lines h of net n) t → (t.net ≡ net) × (t.left < n) × IsListed p pins of t
of_net p pins lines h of net zero t there = absurd (contains_none t there)
of_net p pins lines h of net (suc l) t there = elim (Contains-append_cases (net_pieces p pins lines h of net l) (listed of net l (begins p pins lines h net l)) t there) [
  | inl early ↦ let e = of_net p pins lines h of net l t early in (e.0, omega (arith, e.1), e.2)
  | inr here ↦ let e = at_one of net l (begins p pins lines h net l) t here in (e.0, omega (arith, e.1), e.2)
]

of_all : (p : Placement) (pins : Pins) (lines : List Line) (h : AreLinesOf p lines) (of : ℕ → NetNo → ℕ) (n : ℕ) (t : Trunk) → Contains (pieces_below p pins lines h of n) t → (t.net.0 < n) × IsListed p pins of t
of_all p pins lines h of zero t there = absurd (contains_none t there)
of_all p pins lines h of (suc n) t there = elim (Contains-append_cases (pieces_below p pins lines h of n) (net_pieces p pins lines h of (net_of n) (length lines)) t there) [
  | inl early ↦ let e = of_all p pins lines h of n t early in (omega (arith, e.0), e.1)
  | inr here ↦ let e = of_net p pins lines h of (net_of n) (length lines) t here in let is : t.net.0 ≡ n = ap (λ (m : NetNo). m.0) e.0 in (omega (arith, is), e.2)
]

-- and each piece is
one_there : {p : Placement} {pins : Pins} (of : ℕ → NetNo → ℕ) (net : NetNo) (l r : ℕ) (d : Begins p pins net l) → IsPiece p pins net l r → Contains (listed of net l d) (the_piece of net l r)
one_there {p} {pins} of net l r (inl (s, other)) piece = subst (λ m. Contains (the_piece of net l s ∷ []) (the_piece of net l m)) (one_right p pins net l s r other piece) (contains_here (the_piece of net l s) [])
one_there of net l r (inr none) piece = absurd (none r piece)

net_there : (p : Placement) (pins : Pins) (lines : List Line) (h : AreLinesOf p lines) (of : ℕ → NetNo → ℕ) (net : NetNo) (n l r : ℕ) → l < n → IsPiece p pins net l r → Contains (net_pieces p pins lines h of net n) (the_piece of net l r)
net_there p pins lines h of net zero l r less piece = absurd (omega (arith, less))
net_there p pins lines h of net (suc n) l r less piece = elim (cases_lt l n) [
  | inl early ↦ Contains-append_left (net_pieces p pins lines h of net n) (listed of net n (begins p pins lines h net n)) (the_piece of net l r) (net_there p pins lines h of net n l r early piece)
  | inr back ↦ Contains-append_right (net_pieces p pins lines h of net n) (listed of net n (begins p pins lines h net n)) (the_piece of net l r) (here (omega (arith, back, less)))
]
  where
    here : n ≡ l → Contains (listed of net n (begins p pins lines h net n)) (the_piece of net l r)
    here is = subst (λ m. Contains (listed of net m (begins p pins lines h net m)) (the_piece of net l r)) (sym is) (one_there of net l r (begins p pins lines h net l) piece)

all_there : (p : Placement) (pins : Pins) (lines : List Line) (h : AreLinesOf p lines) (of : ℕ → NetNo → ℕ) (n : ℕ) (net : NetNo) (l r : ℕ) → net.0 < n → l < length lines → IsPiece p pins net l r → Contains (pieces_below p pins lines h of n) (the_piece of net l r)
all_there p pins lines h of zero net l r less short piece = absurd (omega (arith, less))
all_there p pins lines h of (suc n) net l r less short piece = elim (cases_lt net.0 n) [
  | inl early ↦ Contains-append_left (pieces_below p pins lines h of n) (net_pieces p pins lines h of (net_of n) (length lines)) (the_piece of net l r) (all_there p pins lines h of n net l r early short piece)
  | inr back ↦ Contains-append_right (pieces_below p pins lines h of n) (net_pieces p pins lines h of (net_of n) (length lines)) (the_piece of net l r) (subst (λ m. Contains (net_pieces p pins lines h of m (length lines)) (the_piece of net l r)) (same (omega (arith, back, less))) (net_there p pins lines h of net (length lines) l r short piece))
]
  where
    same : net.0 ≡ n → net ≡ net_of n
    same e = (net_decides net (net_of n)).0 (eq-eqb net.0 n e)

-- in order
net_order : (p : Placement) (pins : Pins) (lines : List Line) (h : AreLinesOf p lines) (of : ℕ → NetNo → ℕ) (net : NetNo) (n : ℕ) → AllPairs StandsEarlier (net_pieces p pins lines h of net n)
net_order p pins lines h of net zero = pairs_none StandsEarlier
net_order p pins lines h of net (suc l) =
    pairs_append StandsEarlier (net_pieces p pins lines h of net l) (listed of net l (begins p pins lines h net l)) (net_order p pins lines h of net l) (one (begins p pins lines h net l))
    (all_from_contains _ (net_pieces p pins lines h of net l) (λ a at. all_from_contains (StandsEarlier a) (listed of net l (begins p pins lines h net l)) (λ b also. earlier a b (of_net p pins lines h of net l a at) (at_one of net l (begins p pins lines h net l) b also))))
  where
    one : (d : Begins p pins net l) → AllPairs StandsEarlier (listed of net l d)
    one (inl (r, piece)) = pairs_one StandsEarlier (the_piece of net l r)
    one (inr none) = pairs_none StandsEarlier

    earlier : (a b : Trunk) → (a.net ≡ net) × (a.left < l) × IsListed p pins of a → (b.net ≡ net) × (b.left ≡ l) × IsListed p pins of b → StandsEarlier a b
    earlier a b x y = inr (subst (λ m. a.net ≡ m) (sym y.0) x.0, omega (arith, x.1, y.1))

all_order : (p : Placement) (pins : Pins) (lines : List Line) (h : AreLinesOf p lines) (of : ℕ → NetNo → ℕ) (n : ℕ) → AllPairs StandsEarlier (pieces_below p pins lines h of n)
all_order p pins lines h of zero = pairs_none StandsEarlier
all_order p pins lines h of (suc n) =
    pairs_append StandsEarlier (pieces_below p pins lines h of n) (net_pieces p pins lines h of (net_of n) (length lines)) (all_order p pins lines h of n) (net_order p pins lines h of (net_of n) (length lines))
    (all_from_contains _ (pieces_below p pins lines h of n) (λ a at. all_from_contains (StandsEarlier a) (net_pieces p pins lines h of (net_of n) (length lines)) (λ b also. earlier a b (of_all p pins lines h of n a at).0 (of_net p pins lines h of (net_of n) (length lines) b also).0)))
  where
    earlier : (a b : Trunk) → a.net.0 < n → b.net ≡ net_of n → StandsEarlier a b
    earlier a b less is = let e : b.net.0 ≡ n = ap (λ (m : NetNo). m.0) is in inl (omega (arith, less, e))

-- a number above those of the nets with places at lines
above_net : Option NetNo → ℕ
above_net None = 0
above_net (Some net) = suc net.0

abbrev above_nets : List Line → ℕ
above_nets [] = 0
above_nets (line ∷ lines) = above_net line.p + above_net line.n + above_net line.gate + above_nets lines

is_below : (o : Option NetNo) (net : NetNo) → is_net o net ≡ true → net.0 < above_net o
unfolding above_net
is_below o net e = subst (λ (q : Option NetNo). net.0 < above_net q) (sym (some_is_net o net e)) (omega arith)

below_nets : (lines : List Line) (k : ℕ) (net : NetNo) → at_line lines k (λ line. has_place line net) ≡ true → net.0 < above_nets lines
below_nets [] k net e = absurd cc
below_nets (line ∷ lines) (suc k) net e = omega (arith, below_nets lines k net e)
below_nets (line ∷ lines) zero net e = by (place_row line net e)
  where
    by : (is_net line.p net ≡ true) ⊎ ((is_net line.n net ≡ true) ⊎ (is_net line.gate net ≡ true)) → net.0 < above_nets (line ∷ lines)
    by (inl p) = omega (arith, is_below line.p net p)
    by (inr (inl n)) = omega (arith, is_below line.n net n)
    by (inr (inr gate)) = omega (arith, is_below line.gate net gate)

within_lines : (lines : List Line) (k : ℕ) (f : Line → Bool) → at_line lines k f ≡ true → k < length lines
within_lines [] k f e = absurd cc
within_lines (line ∷ lines) zero f e = omega arith
within_lines (line ∷ lines) (suc k) f e = omega (arith, within_lines lines k f e)

some_element : (xs : List ℕ) → 0 < length xs → (x : ℕ) × Contains xs x
some_element [] less = absurd (omega (arith, less))
some_element (x ∷ xs) less = (x, contains_here x xs)

record Pieces (p : Placement) (pins : Pins) (of : ℕ → NetNo → ℕ) : Type 0 where
  pub list : List Trunk
  pub are : ArePieces p pins of list

all_pieces : (p : Placement) (pins : Pins) (lines : List Line) → AreLinesOf p lines → HasPins p pins → (of : ℕ → NetNo → ℕ) → Pieces p pins of
all_pieces p pins lines h pinned of = record {
  list = list;
  are = record {
    nets = λ net. (λ trunk. named net trunk, λ any. trunk_named net (some_from_any (λ (t : Trunk). t.net ≡ net) list any));
    pieces = λ net l r. (λ piece. any_at (GoesOver net l r) list (the_piece of net l r) (there net l r piece) (record { of = refl; begins = refl; ends = refl }), λ any. piece_named net l r (some_from_any (GoesOver net l r) list any));
    order = all_order p pins lines h of (above_nets lines);
    tracks = all_from_contains (λ (t : Trunk). t.track ≡ of t.left t.net) list (λ t at. (is t at).track);
  };
}
  where
    list : List Trunk
    list = pieces_below p pins lines h of (above_nets lines)

    is : (t : Trunk) → Contains list t → IsListed p pins of t
    is t at = (of_all p pins lines h of (above_nets lines) t at).1

    there : (net : NetNo) (l r : ℕ) → IsPiece p pins net l r → Contains list (the_piece of net l r)
    there net l r piece =
        let e : at_line lines l (λ line. has_place line net) ≡ true = line_at p lines h net l (mark_place p net l piece.begins) in
        all_there p pins lines h of (above_nets lines) net l r (below_nets lines l net e) (within_lines lines l (λ line. has_place line net) e) piece

    place : (net : NetNo) → HasTrunk p pins net → 0 < length (lines_of p net)
    place net trunk = elim trunk.1 [ inl two ↦ omega (arith, two) | inr pin ↦ pinned net pin trunk.0 ]

    named : (net : NetNo) → HasTrunk p pins net → Any (λ (t : Trunk). t.net ≡ net) list
    named net trunk =
        let some = some_element (lines_of p net) (place net trunk) in
        let b : HeldBy p pins net some.0 = piece_at p pins net some.0 trunk some.1 in
        any_at (λ (t : Trunk). t.net ≡ net) list (the_piece of net b.left b.right) (there net b.left b.right b.piece) refl

    trunk_named : (net : NetNo) → Some' (λ (t : Trunk). t.net ≡ net) list → HasTrunk p pins net
    trunk_named net s = subst (λ n. HasTrunk p pins n) s.holds (is s.it s.there).piece.trunk

    piece_named : (net : NetNo) (l r : ℕ) → Some' (GoesOver net l r) list → IsPiece p pins net l r
    piece_named net l r s =
        subst (λ n. IsPiece p pins n l r) s.holds.of (subst (λ m. IsPiece p pins s.it.net m r) s.holds.begins (subst (λ m. IsPiece p pins s.it.net s.it.left m) s.holds.ends (is s.it s.there).piece))

-- and tracks through the lines put them on tracks within the limit
pub record Within (p : Placement) (pins : Pins) (limit : ℕ) : Type 0 where
  pub list : List Trunk
  pub are : ArePiecesWithin p pins limit list

pub pieces_of_sweeps : (p : Placement) (pins : Pins) (lines : List Line) → AreLinesOf p lines → HasPins p pins → (limit : ℕ) (track : NetNo → ℕ) → PieceSweeps pins limit (is_ahead []) track lines → Within p pins limit
pieces_of_sweeps p pins lines h pinned limit track s =
    let o : Outs pins limit (is_ahead []) track lines = each_of_sweeps pins limit (is_ahead []) track lines s in
    let a : Pieces p pins o.outs = all_pieces p pins lines h pinned o.outs in
    record { list = a.list; are = within p pins lines h limit track o.outs o.each a.list a.are }
