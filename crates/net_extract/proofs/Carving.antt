-- Pieces that are cut cover what is left, and what they have in common.
use Rattle.std.proofs.Common.{◌≡◌, ℤ, int_lt, Bool, true, false, if◌then◌else◌, List, [], ◌∷◌, ◌++◌, map, fold, arith, inl, inr, refl, sym, subst, ap, ◌∙◌}
use Rattle.std.specs.Bool.{Decides}
use Rattle.std.specs.List.{All, Contains, flat_map}
use Rattle.std.proofs.lemmas.Int.{ints, clamps, by_lt_z}
use Rattle.std.proofs.lemmas.Bool.Decides.{Decides-and, Decides-like}
use Rattle.std.proofs.lemmas.List.Elements.{All-contains, Contains-append_cases, Contains-append_left, Contains-append_right}
use Rattle.cell_num.proofs.Lists.{contains_none, contains_one, contains_here, all_from_contains}
use Rattle.cell_num.proofs.In.{in_flat, contains_flat, in_map, contains_map}
use Rattle.box_geom.specs.Rectangle.{Rectangle, IsProper, IsRectangle, Holds, Covers}
use Rattle.box_geom.specs.Layers.{same_layer}
use Rattle.box_geom.specs.declared.shape.Shape.{Shape}
use Rattle.box_geom.specs.declared.layer.Layer.{Layer}
use Rattle.box_geom.specs.declared.layer.Layer.TheVariants.{Well, Active, Poly as PolyLayer, Metal1 as Metal1Layer, Metal2 as Metal2Layer}
use Rattle.box_geom.proofs.Spans.{int_lt_decides}
use Rattle.scmos_rules.specs.Layout.{On, Gate}
use Rattle.net_extract.specs.Nets.{Are}
use Rattle.net_extract.specs.Bonds.{AreDrawn}
use Rattle.net_extract.specs.Pieces.{rect_of, rects_in, piece_of}
use Rattle.net_extract.specs.GateNets.{ArePolyOf}
use Rattle.net_extract.specs.Meetings.{sharing_cell}
use Rattle.net_extract.specs.Cuts.{is_some_piece, kept, left_part, right_part, low_part, high_part, around, carved, carved_once, left_of_piece, shapes_on, cut_all, common_part, shared_part, shared_once, shared_all, drawn_once, drawn_all, p_diffusion_in, n_diffusion_in, pieces_in, gates_in, poly_of}
use Rattle.net_extract.specs.declared.piece.Conductor.{Conductor}
use Rattle.net_extract.specs.declared.piece.Conductor.TheVariants.{PDiffusion, NDiffusion, Poly, Metal1, Metal2}
use Rattle.net_extract.specs.declared.piece.Piece.{Piece}
use Rattle.net_extract.proofs.Covering.{cover_none, cover_first, cover_later, cover_split}
use Rattle.net_extract.proofs.Finding.{shows, shown}
use Rattle.net_extract.proofs.Linking.{cells_meet, cell_decides}
use Rattle.net_extract.proofs.Listing.{listed_of, of_listed}

-- a piece of the list holds the cell
pub record Has (ps : List Piece) (x y : ℤ) : Type 0 where
  pub piece : Piece
  pub listed : Contains ps piece
  pub holds : Holds (rect_of piece) x y

some_decides : (p : Piece) → Decides (is_some_piece p) (IsProper (rect_of p))
some_decides p = Decides-like (is_some_piece p) (λ h. record { wide = h.0; high = h.1 }) (λ h. (h.wide, h.high)) (Decides-and (int_lt p.left p.right) (int_lt p.low p.top) (int_lt_decides p.left p.right) (int_lt_decides p.low p.top))

-- what is kept of a piece
pub record IsKept (p q : Piece) : Type 0 where
  pub same : p ≡ q
  pub proper : IsProper (rect_of p)

pub of_kept : (p q : Piece) → Contains (kept p) q → IsKept p q
of_kept p q c = by (is_some_piece p) (some_decides p) c
  where
    by : (b : Bool) → Decides b (IsProper (rect_of p)) → Contains (if b then p ∷ [] else []) q → IsKept p q
    by true d k = record { same = contains_one p q k; proper = d.0 refl }
    by false d k = absurd (contains_none q k)

to_kept : (p : Piece) (x y : ℤ) → Holds (rect_of p) x y → Contains (kept p) p
to_kept p x y h = let t = (some_decides p).1 (record { wide = omega (arith, ints); high = omega (arith, ints) }) in rw t (contains_here p [])

-- ---- around a rectangle
pub record IsAround (r : Rectangle) (p q : Piece) : Type 0 where
  pub kind : q.kind ≡ p.kind
  pub proper : IsProper (rect_of q)
  pub inside : (x y : ℤ) → Holds (rect_of q) x y → Holds (rect_of p) x y
  pub outside : (x y : ℤ) → Holds (rect_of q) x y → Holds r x y → ⊥

around_is : (r : Rectangle) (p q : Piece) → Contains (around r p) q → IsAround r p q
around_is r p q c = elim (Contains-append_cases (kept (left_part p r)) (kept (right_part p r) ++ (kept (low_part p r) ++ kept (high_part p r))) q c) [
  | inl one ↦ (let k = of_kept (left_part p r) q one in subst (IsAround r p) k.same (record { kind = refl; proper = k.proper; inside = λ x y h. omega (arith, ints, clamps); outside = λ x y h g. omega (arith, ints, clamps) }))
  | inr c1 ↦ elim (Contains-append_cases (kept (right_part p r)) (kept (low_part p r) ++ kept (high_part p r)) q c1) [
    | inl two ↦ (let k = of_kept (right_part p r) q two in subst (IsAround r p) k.same (record { kind = refl; proper = k.proper; inside = λ x y h. omega (arith, ints, clamps); outside = λ x y h g. omega (arith, ints, clamps) }))
    | inr c2 ↦ elim (Contains-append_cases (kept (low_part p r)) (kept (high_part p r)) q c2) [
      | inl three ↦ (let k = of_kept (low_part p r) q three in subst (IsAround r p) k.same (record { kind = refl; proper = k.proper; inside = λ x y h. omega (arith, ints, clamps); outside = λ x y h g. omega (arith, ints, clamps) }))
      | inr four ↦ (let k = of_kept (high_part p r) q four in subst (IsAround r p) k.same (record { kind = refl; proper = k.proper; inside = λ x y h. omega (arith, ints, clamps); outside = λ x y h g. omega (arith, ints, clamps) }))
    ]
  ]
]

-- a cell of the piece that the rectangle does not hold
around_has : (r : Rectangle) (p : Piece) (x y : ℤ) → Holds (rect_of p) x y → (Holds r x y → ⊥) → Has (around r p) x y
around_has r p x y h out =
    by_lt_z x r.x1
    (λ l. let k : Holds (rect_of (left_part p r)) x y = omega (arith, ints, clamps) in
    record { piece = left_part p r; listed = Contains-append_left (kept (left_part p r)) (kept (right_part p r) ++ (kept (low_part p r) ++ kept (high_part p r))) (left_part p r) (to_kept (left_part p r) x y k); holds = k })
    (λ l. by_lt_z x r.x2
    (λ m. by_lt_z y r.y1
    (λ u. let k : Holds (rect_of (low_part p r)) x y = omega (arith, ints, clamps) in
    record { piece = low_part p r; listed = Contains-append_right (kept (left_part p r)) (kept (right_part p r) ++ (kept (low_part p r) ++ kept (high_part p r))) (low_part p r) (Contains-append_right (kept (right_part p r)) (kept (low_part p r) ++ kept (high_part p r)) (low_part p r) (Contains-append_left (kept (low_part p r)) (kept (high_part p r)) (low_part p r) (to_kept (low_part p r) x y k))); holds = k })
    (λ u. by_lt_z y r.y2
    (λ v. absurd (out (record { left = l; right = m; low = u; high = v })))
    (λ v. let k : Holds (rect_of (high_part p r)) x y = omega (arith, ints, clamps) in
    record { piece = high_part p r; listed = Contains-append_right (kept (left_part p r)) (kept (right_part p r) ++ (kept (low_part p r) ++ kept (high_part p r))) (high_part p r) (Contains-append_right (kept (right_part p r)) (kept (low_part p r) ++ kept (high_part p r)) (high_part p r) (Contains-append_right (kept (low_part p r)) (kept (high_part p r)) (high_part p r) (to_kept (high_part p r) x y k))); holds = k })))
    (λ m. let k : Holds (rect_of (right_part p r)) x y = omega (arith, ints, clamps) in
    record { piece = right_part p r; listed = Contains-append_right (kept (left_part p r)) (kept (right_part p r) ++ (kept (low_part p r) ++ kept (high_part p r))) (right_part p r) (Contains-append_left (kept (right_part p r)) (kept (low_part p r) ++ kept (high_part p r)) (right_part p r) (to_kept (right_part p r) x y k)); holds = k }))

-- ---- lists of pieces of one kind
pub record ArePieces (k : Conductor) (P : ℤ → ℤ → Type 0) (ps : List Piece) : Type 0 where
  pub kinds : (p : Piece) → Contains ps p → p.kind ≡ k
  pub proper : (p : Piece) → Contains ps p → IsProper (rect_of p)
  pub sound : (x y : ℤ) → Has ps x y → P x y
  pub all : (x y : ℤ) → P x y → Has ps x y

pub pieces_like : (k : Conductor) (P Q : ℤ → ℤ → Type 0) (ps : List Piece) → ((x y : ℤ) → P x y → Q x y) → ((x y : ℤ) → Q x y → P x y) → ArePieces k P ps → ArePieces k Q ps
pieces_like k P Q ps f g a = record { kinds = a.kinds; proper = a.proper; sound = λ x y h. f x y (a.sound x y h); all = λ x y q. a.all x y (g x y q) }

-- two rectangles without a cell in common
apart : (a b : Rectangle) → sharing_cell a b ≡ false → (x y : ℤ) → Holds a x y → Holds b x y → ⊥
apart a b e x y h g = let t : sharing_cell a b ≡ true = (cell_decides a b).1 (cells_meet a b x y h g) in absurd (cc (sym e ∙ t))

carved_is : (r : Rectangle) (p q : Piece) → IsProper (rect_of p) → Contains (carved r p) q → IsAround r p q
carved_is r p q proper c = by (sharing_cell (rect_of p) r) refl c
  where
    by : (b : Bool) → sharing_cell (rect_of p) r ≡ b → Contains (if b then around r p else p ∷ []) q → IsAround r p q
    by true e d = around_is r p q d
    by false e d = subst (IsAround r p) (contains_one p q d) (record { kind = refl; proper = proper; inside = λ x y h. h; outside = λ x y h g. apart (rect_of p) r e x y h g })

carved_has : (r : Rectangle) (p : Piece) (x y : ℤ) → Holds (rect_of p) x y → (Holds r x y → ⊥) → Has (carved r p) x y
carved_has r p x y h out = by (sharing_cell (rect_of p) r)
  where
    by : (b : Bool) → Has (if b then around r p else p ∷ []) x y
    by true = around_has r p x y h out
    by false = record { piece = p; listed = contains_here p []; holds = h }

-- parts of a piece, whose cells are those of the piece in a set
abbrev Parts : Piece → (ℤ → ℤ → Type 0) → List Piece → Type 0
Parts p P ps = ArePieces p.kind (λ x y. P x y × Holds (rect_of p) x y) ps

-- parts of a piece without one more shape
carved_are : (p : Piece) (P : ℤ → ℤ → Type 0) (ps : List Piece) (s : Shape) → Parts p P ps → Parts p (λ x y. P x y × (Holds s.rect x y → ⊥)) (carved_once p ps s)
carved_are p P ps s a = by (sharing_cell (rect_of p) s.rect) refl
  where
    by : (b : Bool) → sharing_cell (rect_of p) s.rect ≡ b → Parts p (λ x y. P x y × (Holds s.rect x y → ⊥)) (if b then flat_map (carved s.rect) ps else ps)
    by true e = record {
      kinds = λ q c. let i = in_flat (carved s.rect) ps q c in (carved_is s.rect i.of q (a.proper i.of i.listed) i.inside).kind ∙ a.kinds i.of i.listed;
      proper = λ q c. let i = in_flat (carved s.rect) ps q c in (carved_is s.rect i.of q (a.proper i.of i.listed) i.inside).proper;
      sound = λ x y h.
          let i = in_flat (carved s.rect) ps h.piece h.listed in
          let r = carved_is s.rect i.of h.piece (a.proper i.of i.listed) i.inside in
          let t = a.sound x y (record { piece = i.of; listed = i.listed; holds = r.inside x y h.holds }) in
          ((t.0, λ g. r.outside x y h.holds g), t.1);
      all = λ x y q.
          let h = a.all x y (q.0.0, q.1) in
          let r = carved_has s.rect h.piece x y h.holds q.0.1 in
          record { piece = r.piece; listed = contains_flat (carved s.rect) ps h.piece r.piece h.listed r.listed; holds = r.holds };
    }
    by false e = record {
      kinds = a.kinds;
      proper = a.proper;
      sound = λ x y h. let t = a.sound x y h in ((t.0, λ g. apart (rect_of p) s.rect e x y t.1 g), t.1);
      all = λ x y q. a.all x y (q.0.0, q.1);
    }

abbrev rects : List Shape → List Rectangle
rects ss = map (λ (z : Shape). z.rect) ss

parts_are : (p : Piece) (P : ℤ → ℤ → Type 0) (ps : List Piece) (ss : List Shape) → Parts p P ps → Parts p (λ x y. P x y × (Covers (rects ss) x y → ⊥)) (fold (carved_once p) ps ss)
parts_are p P ps [] a = pieces_like p.kind (λ x y. P x y × Holds (rect_of p) x y) (λ x y. (P x y × (Covers [] x y → ⊥)) × Holds (rect_of p) x y) ps (λ x y q. ((q.0, λ c. cover_none x y c), q.1)) (λ x y q. (q.0.0, q.1)) a
parts_are p P ps (s ∷ ss) a =
    pieces_like p.kind (λ x y. ((P x y × (Holds s.rect x y → ⊥)) × (Covers (rects ss) x y → ⊥)) × Holds (rect_of p) x y) (λ x y. (P x y × (Covers (s.rect ∷ rects ss) x y → ⊥)) × Holds (rect_of p) x y) (fold (carved_once p) (carved_once p ps s) ss)
    (λ x y q. ((q.0.0.0, λ c. elim (cover_split s.rect (rects ss) x y c) [ inl h ↦ q.0.0.1 h | inr later ↦ q.0.1 later ]), q.1))
    (λ x y q. (((q.0.0, λ h. q.0.1 (cover_first s.rect (rects ss) x y h)), λ c. q.0.1 (cover_later s.rect (rects ss) x y c)), q.1))
    (parts_are p (λ x y. P x y × (Holds s.rect x y → ⊥)) (carved_once p ps s) ss (carved_are p P ps s a))

-- what is left of a piece
piece_left : (ss : List Shape) (p : Piece) → IsProper (rect_of p) → ArePieces p.kind (λ x y. Holds (rect_of p) x y × (Covers (rects ss) x y → ⊥)) (left_of_piece ss p)
piece_left ss p proper =
    pieces_like p.kind (λ x y. (Holds (rect_of p) x y × (Covers (rects ss) x y → ⊥)) × Holds (rect_of p) x y) (λ x y. Holds (rect_of p) x y × (Covers (rects ss) x y → ⊥)) (left_of_piece ss p)
    (λ x y q. q.0) (λ x y q. (q, q.0))
    (parts_are p (Holds (rect_of p)) (p ∷ []) ss (record {
      kinds = λ q c. ap (λ (z : Piece). z.kind) (sym (contains_one p q c));
      proper = λ q c. subst (λ (z : Piece). IsProper (rect_of z)) (contains_one p q c) proper;
      sound = λ x y h. let here : Holds (rect_of p) x y = subst (λ (z : Piece). Holds (rect_of z) x y) (sym (contains_one p h.piece h.listed)) h.holds in (here, here);
      all = λ x y q. record { piece = p; listed = contains_here p []; holds = q.1 };
    }))

pub cut_are : (k : Conductor) (P : ℤ → ℤ → Type 0) (layer : Layer) (ps : List Piece) (ss : List Shape) → ArePieces k P ps → ArePieces k (λ x y. P x y × (On layer ss x y → ⊥)) (cut_all layer ps ss)
cut_are k P layer ps ss a = record {
  kinds = λ q c. let i = in_flat left ps q c in (left_are i.of i.listed).kinds q i.inside ∙ a.kinds i.of i.listed;
  proper = λ q c. let i = in_flat left ps q c in (left_are i.of i.listed).proper q i.inside;
  sound = λ x y h.
      let i = in_flat left ps h.piece h.listed in
      let t = (left_are i.of i.listed).sound x y (record { piece = h.piece; listed = i.inside; holds = h.holds }) in
      (a.sound x y (record { piece = i.of; listed = i.listed; holds = t.0 }), t.1);
  all = λ x y q.
      let h = a.all x y q.0 in
      let r = (left_are h.piece h.listed).all x y (h.holds, q.1) in
      record { piece = r.piece; listed = contains_flat left ps h.piece r.piece h.listed r.listed; holds = r.holds };
}
  where
    left : Piece → List Piece
    left = left_of_piece (shapes_on layer ss)

    left_are : (p : Piece) → Contains ps p → ArePieces p.kind (λ x y. Holds (rect_of p) x y × (On layer ss x y → ⊥)) (left_of_piece (shapes_on layer ss) p)
    left_are p c = piece_left (shapes_on layer ss) p (a.proper p c)

record IsShared (r : Rectangle) (p q : Piece) : Type 0 where
  pub kind : q.kind ≡ p.kind
  pub proper : IsProper (rect_of q)
  pub inside : (x y : ℤ) → Holds (rect_of q) x y → Holds (rect_of p) x y
  pub within : (x y : ℤ) → Holds (rect_of q) x y → Holds r x y

shared_is : (r : Rectangle) (p q : Piece) → Contains (shared_part r p) q → IsShared r p q
shared_is r p q c = let k = of_kept (common_part p r) q c in subst (IsShared r p) k.same (record { kind = refl; proper = k.proper; inside = λ x y h. omega (arith, ints, clamps); within = λ x y h. omega (arith, ints, clamps) })

-- a piece that a shape of the layer shares
pub record FromShape (layer : Layer) (ps : List Piece) (ss : List Shape) (q : Piece) : Type 0 where
  pub shape : Shape
  pub there : Contains ss shape
  pub on : same_layer shape.layer layer ≡ true
  pub of : Piece
  pub listed : Contains ps of
  pub inside : Contains (shared_part shape.rect of) q

pub from_shape : (layer : Layer) (ps : List Piece) (ss : List Shape) (q : Piece) → Contains (shared_all layer ps ss) q → FromShape layer ps ss q
from_shape layer ps ss q c = let i = in_flat (shared_once layer ps) ss q c in by i.of i.listed (same_layer i.of.layer layer) refl i.inside
  where
    by : (z : Shape) → Contains ss z → (b : Bool) → same_layer z.layer layer ≡ b → Contains (if b then flat_map (shared_part z.rect) ps else []) q → FromShape layer ps ss q
    by z there true e d = let i = in_flat (shared_part z.rect) ps q d in record { shape = z; there = there; on = e; of = i.of; listed = i.listed; inside = i.inside }
    by z there false e d = absurd (contains_none q d)

pub shared_are : (k : Conductor) (P : ℤ → ℤ → Type 0) (layer : Layer) (ps : List Piece) (ss : List Shape) → ArePieces k P ps → ArePieces k (λ x y. P x y × On layer ss x y) (shared_all layer ps ss)
shared_are k P layer ps ss a = record {
  kinds = λ q c. let f = from_shape layer ps ss q c in (shared_is f.shape.rect f.of q f.inside).kind ∙ a.kinds f.of f.listed;
  proper = λ q c. let f = from_shape layer ps ss q c in (shared_is f.shape.rect f.of q f.inside).proper;
  sound = λ x y h. let f = from_shape layer ps ss h.piece h.listed in let r = shared_is f.shape.rect f.of h.piece f.inside in (a.sound x y (record { piece = f.of; listed = f.listed; holds = r.inside x y h.holds }), shown ss layer f.shape x y f.there f.on (r.within x y h.holds));
  all = λ x y q.
      let h = a.all x y q.0 in
      let w = shows ss layer x y q.1 in
      let g = w.holds in
      let hh = h.holds in
      let k : Holds (rect_of (common_part h.piece w.shape.rect)) x y = omega (arith, ints, clamps) in
      let one : Contains (flat_map (shared_part w.shape.rect) ps) (common_part h.piece w.shape.rect) = contains_flat (shared_part w.shape.rect) ps h.piece (common_part h.piece w.shape.rect) h.listed (to_kept (common_part h.piece w.shape.rect) x y k) in
      let here : Contains (shared_once layer ps w.shape) (common_part h.piece w.shape.rect) = rw w.on one in
      record { piece = common_part h.piece w.shape.rect; listed = contains_flat (shared_once layer ps) ss w.shape (common_part h.piece w.shape.rect) w.listed here; holds = k };
}

-- a piece that is a shape of the layer
pub record FromDrawn (k : Conductor) (layer : Layer) (ss : List Shape) (q : Piece) : Type 0 where
  pub shape : Shape
  pub there : Contains ss shape
  pub on : same_layer shape.layer layer ≡ true
  pub is : piece_of k shape.rect ≡ q

pub from_drawn : (k : Conductor) (layer : Layer) (ss : List Shape) (q : Piece) → Contains (drawn_all k layer ss) q → FromDrawn k layer ss q
from_drawn k layer ss q c = let i = in_flat (drawn_once k layer) ss q c in by i.of i.listed (same_layer i.of.layer layer) refl i.inside
  where
    by : (z : Shape) → Contains ss z → (b : Bool) → same_layer z.layer layer ≡ b → Contains (if b then piece_of k z.rect ∷ [] else []) q → FromDrawn k layer ss q
    by z there true e d = record { shape = z; there = there; on = e; is = contains_one (piece_of k z.rect) q d }
    by z there false e d = absurd (contains_none q d)

pub drawn_are : (k : Conductor) (layer : Layer) (ss : List Shape) → All (λ (z : Shape). IsProper z.rect) ss → ArePieces k (On layer ss) (drawn_all k layer ss)
drawn_are k layer ss proper = record {
  kinds = λ q c. let f = from_drawn k layer ss q c in sym (ap (λ (p : Piece). p.kind) f.is);
  proper = λ q c. let f = from_drawn k layer ss q c in subst (λ (p : Piece). IsProper (rect_of p)) f.is (All-contains (λ (z : Shape). IsProper z.rect) ss f.shape proper f.there);
  sound = λ x y h. let f = from_drawn k layer ss h.piece h.listed in shown ss layer f.shape x y f.there f.on (subst (λ (p : Piece). Holds (rect_of p) x y) (sym f.is) h.holds);
  all = λ x y on.
      let w = shows ss layer x y on in
      let here : Contains (drawn_once k layer w.shape) (piece_of k w.shape.rect) = rw w.on (contains_here (piece_of k w.shape.rect) []) in
      record { piece = piece_of k w.shape.rect; listed = contains_flat (drawn_once k layer) ss w.shape (piece_of k w.shape.rect) w.listed here; holds = w.holds };
}

-- ---- two lists of pieces together
pub record Split (s : List Shape) (ps : List Piece) : Type 0 where
  pub proper : (p : Piece) → Contains ps p → IsProper (rect_of p)
  pub sound : (p : Piece) → Contains ps p → (x y : ℤ) → Holds (rect_of p) x y → Are s p.kind x y

split_of : (s : List Shape) (k : Conductor) (ps : List Piece) → ArePieces k (Are s k) ps → Split s ps
split_of s k ps a = record { proper = a.proper; sound = λ p c x y h. subst (λ j. Are s j x y) (sym (a.kinds p c)) (a.sound x y (record { piece = p; listed = c; holds = h })) }

split_both : (s : List Shape) (ps qs : List Piece) → Split s ps → Split s qs → Split s (ps ++ qs)
split_both s ps qs a b = record {
  proper = λ p c. elim (Contains-append_cases ps qs p c) [ inl l ↦ a.proper p l | inr r ↦ b.proper p r ];
  sound = λ p c x y h. elim (Contains-append_cases ps qs p c) [ inl l ↦ a.sound p l x y h | inr r ↦ b.sound p r x y h ];
}

has_left : (ps qs : List Piece) (k : Conductor) (x y : ℤ) → Covers (rects_in ps k) x y → Covers (rects_in (ps ++ qs) k) x y
has_left ps qs k x y c = let l = listed_of ps k c.rect c.listed in record { rect = c.rect; listed = subst (Contains (rects_in (ps ++ qs) k)) l.rect (of_listed (ps ++ qs) l.piece k (Contains-append_left ps qs l.piece l.listed) l.kind); holds = c.holds }

in_kind : (k : Conductor) (P : ℤ → ℤ → Type 0) (qs : List Piece) → ArePieces k P qs → (x y : ℤ) → P x y → (ps : List Piece) → Covers (rects_in (ps ++ qs) k) x y
in_kind k P qs a x y p ps = let h = a.all x y p in record { rect = rect_of h.piece; listed = of_listed (ps ++ qs) h.piece k (Contains-append_right ps qs h.piece h.listed) ((a.kinds h.piece h.listed)); holds = h.holds }

first_kind : (k : Conductor) (P : ℤ → ℤ → Type 0) (qs : List Piece) → ArePieces k P qs → (x y : ℤ) → P x y → Covers (rects_in qs k) x y
first_kind k P qs a x y p = let h = a.all x y p in record { rect = rect_of h.piece; listed = of_listed qs h.piece k h.listed ((a.kinds h.piece h.listed)); holds = h.holds }

p_are : (s : List Shape) → All (λ (z : Shape). IsProper z.rect) s → ArePieces PDiffusion (Are s PDiffusion) (p_diffusion_in s)
p_are s proper =
    pieces_like PDiffusion (λ x y. (On Active s x y × On Well s x y) × (On PolyLayer s x y → ⊥)) (Are s PDiffusion) (p_diffusion_in s)
    (λ x y q. ((q.0.0, q.1), q.0.1)) (λ x y q. ((q.0.0, q.1), q.0.1))
    (cut_are PDiffusion (λ x y. On Active s x y × On Well s x y) PolyLayer (shared_all Well (drawn_all PDiffusion Active s) s) s (shared_are PDiffusion (On Active s) Well (drawn_all PDiffusion Active s) s (drawn_are PDiffusion Active s proper)))

n_are : (s : List Shape) → All (λ (z : Shape). IsProper z.rect) s → ArePieces NDiffusion (Are s NDiffusion) (n_diffusion_in s)
n_are s proper =
    pieces_like NDiffusion (λ x y. (On Active s x y × (On Well s x y → ⊥)) × (On PolyLayer s x y → ⊥)) (Are s NDiffusion) (n_diffusion_in s)
    (λ x y q. ((q.0.0, q.1), q.0.1)) (λ x y q. ((q.0.0, q.1), q.0.1))
    (cut_are NDiffusion (λ x y. On Active s x y × (On Well s x y → ⊥)) PolyLayer (cut_all Well (drawn_all NDiffusion Active s) s) s (cut_are NDiffusion (On Active s) Well (drawn_all NDiffusion Active s) s (drawn_are NDiffusion Active s proper)))

pub pieces_drawn : (s : List Shape) → All (λ (z : Shape). IsProper z.rect) s → AreDrawn s (rects_in (pieces_in s))
pieces_drawn s proper = record { covered = covered; conducts = conducts; proper = λ k. all_from_contains IsProper (rects_in (pieces_in s) k) (λ r c. let l = listed_of (pieces_in s) k r c in subst IsProper l.rect (whole.proper l.piece l.listed)) }
  where
    ps : List Piece
    ps = p_diffusion_in s

    ns : List Piece
    ns = n_diffusion_in s

    os : List Piece
    os = drawn_all Poly PolyLayer s

    ms : List Piece
    ms = drawn_all Metal1 Metal1Layer s

    ts : List Piece
    ts = drawn_all Metal2 Metal2Layer s

    pa : ArePieces PDiffusion (Are s PDiffusion) (p_diffusion_in s)
    pa = p_are s proper

    na : ArePieces NDiffusion (Are s NDiffusion) (n_diffusion_in s)
    na = n_are s proper

    oa : ArePieces Poly (On PolyLayer s) (drawn_all Poly PolyLayer s)
    oa = drawn_are Poly PolyLayer s proper

    ma : ArePieces Metal1 (On Metal1Layer s) (drawn_all Metal1 Metal1Layer s)
    ma = drawn_are Metal1 Metal1Layer s proper

    ta : ArePieces Metal2 (On Metal2Layer s) (drawn_all Metal2 Metal2Layer s)
    ta = drawn_are Metal2 Metal2Layer s proper

    whole : Split s (pieces_in s)
    whole = split_both s (((ps ++ ns) ++ os) ++ ms) ts (split_both s ((ps ++ ns) ++ os) ms (split_both s (ps ++ ns) os (split_both s ps ns (split_of s PDiffusion ps pa) (split_of s NDiffusion ns na)) (split_of s Poly os oa)) (split_of s Metal1 ms ma)) (split_of s Metal2 ts ta)

    covered : (k : Conductor) (x y : ℤ) → Are s k x y → Covers (rects_in (pieces_in s) k) x y
    covered PDiffusion x y a = has_left (((ps ++ ns) ++ os) ++ ms) ts PDiffusion x y (has_left ((ps ++ ns) ++ os) ms PDiffusion x y (has_left (ps ++ ns) os PDiffusion x y (has_left ps ns PDiffusion x y (first_kind PDiffusion (Are s PDiffusion) ps pa x y a))))
    covered NDiffusion x y a = has_left (((ps ++ ns) ++ os) ++ ms) ts NDiffusion x y (has_left ((ps ++ ns) ++ os) ms NDiffusion x y (has_left (ps ++ ns) os NDiffusion x y (in_kind NDiffusion (Are s NDiffusion) ns na x y a ps)))
    covered Poly x y a = has_left (((ps ++ ns) ++ os) ++ ms) ts Poly x y (has_left ((ps ++ ns) ++ os) ms Poly x y (in_kind Poly (On PolyLayer s) os oa x y a (ps ++ ns)))
    covered Metal1 x y a = has_left (((ps ++ ns) ++ os) ++ ms) ts Metal1 x y (in_kind Metal1 (On Metal1Layer s) ms ma x y a ((ps ++ ns) ++ os))
    covered Metal2 x y a = in_kind Metal2 (On Metal2Layer s) ts ta x y a (((ps ++ ns) ++ os) ++ ms)

    conducts : (k : Conductor) (x y : ℤ) → Covers (rects_in (pieces_in s) k) x y → Are s k x y
    conducts k x y c = let l = listed_of (pieces_in s) k c.rect c.listed in subst (λ j. Are s j x y) l.kind (whole.sound l.piece l.listed x y (subst (λ r. Holds r x y) (sym l.rect) c.holds))

-- ---- gates
gates_are : (s : List Shape) → All (λ (z : Shape). IsProper z.rect) s → ArePieces Poly (Gate s) (gates_in s)
gates_are s proper = shared_are Poly (On Active s) PolyLayer (drawn_all Poly Active s) s (drawn_are Poly Active s proper)

poly_drawn : (P : ℤ → ℤ → Type 0) (ps : List Piece) → ArePieces Poly P ps → ArePolyOf P (map poly_of ps)
poly_drawn P ps are = record {
  poly = λ x y. (
    λ on. let w = shows (map poly_of ps) PolyLayer x y on in let i = in_map poly_of ps w.shape w.listed in are.sound x y (record { piece = i.of; listed = i.listed; holds = subst (λ (z : Shape). Holds z.rect x y) (sym i.is) w.holds }),
    λ c. let h = are.all x y c in shown (map poly_of ps) PolyLayer (poly_of h.piece) x y (contains_map poly_of ps h.piece h.listed) refl h.holds,
  );
  only = λ z c. let i = in_map poly_of ps z c in sym (ap (λ (w : Shape). w.layer) i.is);
}

pub gates_drawn : (s : List Shape) → All (λ (z : Shape). IsProper z.rect) s → ArePolyOf (Gate s) (map poly_of (gates_in s))
gates_drawn s proper = poly_drawn (Gate s) (gates_in s) (gates_are s proper)

-- the well drawn in poly
pub wells_drawn : (s : List Shape) → All (λ (z : Shape). IsProper z.rect) s → ArePolyOf (On Well s) (map poly_of (drawn_all Poly Well s))
wells_drawn s proper = poly_drawn (On Well s) (drawn_all Poly Well s) (drawn_are Poly Well s proper)

pub all_wells_limited : (s : List Shape) → All (λ (z : Shape). IsRectangle z.rect) s → All (λ (p : Piece). IsRectangle (rect_of p)) (drawn_all Poly Well s)
all_wells_limited s limits = all_from_contains (λ (p : Piece). IsRectangle (rect_of p)) (drawn_all Poly Well s) (λ p c. let f = from_drawn Poly Well s p c in subst (λ (q : Piece). IsRectangle (rect_of q)) f.is (All-contains (λ (z : Shape). IsRectangle z.rect) s f.shape limits f.there))

-- gates lie within the limits
gate_limits : (s : List Shape) → All (λ (z : Shape). IsRectangle z.rect) s → (p : Piece) → Contains (gates_in s) p → IsRectangle (rect_of p)
gate_limits s limits p c =
    let f = from_shape PolyLayer (drawn_all Poly Active s) s p c in
    let g = from_drawn Poly Active s f.of f.listed in
    let k = of_kept (common_part f.of f.shape.rect) p f.inside in
    let a : IsRectangle f.shape.rect = All-contains (λ (z : Shape). IsRectangle z.rect) s f.shape limits f.there in
    let b : IsRectangle (rect_of f.of) = subst (λ (q : Piece). IsRectangle (rect_of q)) g.is (All-contains (λ (z : Shape). IsRectangle z.rect) s g.shape limits g.there) in
    subst (λ (q : Piece). IsRectangle (rect_of q)) k.same (record {
      proper = k.proper;
      left = (let l = a.left in let m = b.left in omega (arith, ints, clamps));
      right = (let l = a.right in let m = b.right in omega (arith, ints, clamps));
      low = (let l = a.low in let m = b.low in omega (arith, ints, clamps));
      top = (let l = a.top in let m = b.top in omega (arith, ints, clamps));
    })

pub all_gates_limited : (s : List Shape) → All (λ (z : Shape). IsRectangle z.rect) s → All (λ (p : Piece). IsRectangle (rect_of p)) (gates_in s)
all_gates_limited s limits = all_from_contains (λ (p : Piece). IsRectangle (rect_of p)) (gates_in s) (gate_limits s limits)

pub proper_of_limits : (s : List Shape) → All (λ (z : Shape). IsRectangle z.rect) s → All (λ (z : Shape). IsProper z.rect) s
proper_of_limits s limits = all_from_contains (λ (z : Shape). IsProper z.rect) s (λ z c. (All-contains (λ (w : Shape). IsRectangle w.rect) s z limits c).proper)

pub gate_shapes_proper : (ps : List Piece) → All (λ (p : Piece). IsRectangle (rect_of p)) ps → All (λ (z : Shape). IsProper z.rect) (map poly_of ps)
gate_shapes_proper ps limits = all_from_contains (λ (z : Shape). IsProper z.rect) (map poly_of ps) (λ z c. let i = in_map poly_of ps z c in subst (λ (w : Shape). IsProper w.rect) i.is (All-contains (λ (p : Piece). IsRectangle (rect_of p)) ps i.of limits i.listed).proper)
