-- Two conductor cells are in one net exactly where rectangles that hold them are bonded.
use Rattle.std.proofs.Common.{◌≡◌, ◌↔◌, ℕ, zero, suc, List, inl, inr, refl, sym, subst, ap}
use Rattle.std.specs.List.{Contains}
use Rattle.box_geom.specs.Rectangle.{Rectangle, Holds, Covers}
use Rattle.box_geom.specs.Touching.{Cell, Touch}
use Rattle.box_geom.specs.Chains.{Steps, Chain, Linked}
use Rattle.box_geom.specs.declared.shape.Shape.{Shape}
use Rattle.scmos_rules.specs.declared.rules.Deck.{Deck}
use Rattle.scmos_rules.specs.Conditions.{Joint}
use Rattle.number_trees.proofs.Chains.{none, one, joined}
use Rattle.scmos_rules.proofs.Chains.{inside, cells_of_chain}
use Rattle.net_extract.specs.Nets.{Site, Meets, along, through, tied, Wired, SameNet}
use Rattle.net_extract.specs.declared.piece.Conductor.{Conductor}
use Rattle.net_extract.specs.Bonds.{AreDrawn, Bond, touching, joining, tying, Bonded, IsPieceOf, IsIn}
use Rattle.net_extract.specs.declared.piece.Piece.{Piece}
use Rattle.net_extract.specs.Pieces.{rect_of, piece_of}

abbrev site : Conductor → Cell → Site
site k c = record { kind = k; cell = c }

-- ---- from cells to rectangles
bond_of : (deck : Deck) (s : List Shape) (a b : Site) (p q : Rectangle) → Holds p a.cell.x a.cell.y → Holds q b.cell.x b.cell.y → Meets deck s a b → Bond deck s (piece_of a.kind p) (piece_of b.kind q)
bond_of deck s a b p q h k (along e edge) = touching e (record { one = a.cell; other = b.cell; in_a = h; in_b = k; meet = inr edge })
bond_of deck s a b p q h k (tied e t) = tying e (record { x = a.cell.x; y = a.cell.y; u = b.cell.x; v = b.cell.y; in_p = h; in_q = k; tied = t })
bond_of deck s a b p q h k (through e t) = joining (record { x = a.cell.x; y = a.cell.y; in_p = h; in_q = subst (λ (c : Cell). Holds q c.x c.y) (sym e) k; through = t })

-- two pieces with a cell in common
share : (deck : Deck) (s : List Shape) (rs : Conductor → List Rectangle) (a b : Site) (p q : Rectangle) → IsPieceOf rs (piece_of a.kind p) → IsPieceOf rs (piece_of b.kind q) → Holds p a.cell.x a.cell.y → Holds q b.cell.x b.cell.y → a ≡ b → Chain (Bonded deck s rs) (piece_of a.kind p) (piece_of b.kind q)
share deck s rs a b p q lp lq h k e =
    let same : Holds q a.cell.x a.cell.y = subst (λ (z : Site). Holds q z.cell.x z.cell.y) (sym e) k in
    let touch : Touch p q = record { one = a.cell; other = a.cell; in_a = h; in_b = same; meet = inl refl } in
    one (Bonded deck s rs) (piece_of a.kind p) (piece_of b.kind q) (record { from = lp; to = lq; bond = touching (ap (λ (z : Site). z.kind) e) touch })

pieces_of_steps : (deck : Deck) (s : List Shape) (rs : Conductor → List Rectangle) → AreDrawn s rs → (n : ℕ) (a b : Site) (p q : Rectangle) → IsPieceOf rs (piece_of a.kind p) → IsPieceOf rs (piece_of b.kind q) → Holds p a.cell.x a.cell.y → Holds q b.cell.x b.cell.y → Steps (Wired deck s) n a b → Chain (Bonded deck s rs) (piece_of a.kind p) (piece_of b.kind q)
pieces_of_steps deck s rs d zero a b p q lp lq h k e = share deck s rs a b p q lp lq h k e
pieces_of_steps deck s rs d (suc n) a b p q lp lq h k (m, w, r) =
    let c : Covers (rs m.kind) m.cell.x m.cell.y = d.covered m.kind m.cell.x m.cell.y w.to in
    let first : Bonded deck s rs (piece_of a.kind p) (piece_of m.kind c.rect) = record { from = lp; to = c.listed; bond = bond_of deck s a m p c.rect h c.holds w.meets } in
    let rest : Chain (Bonded deck s rs) (piece_of m.kind c.rect) (piece_of b.kind q) = pieces_of_steps deck s rs d n m b c.rect q c.listed lq c.holds k r in
    joined (Bonded deck s rs) (piece_of a.kind p) (piece_of m.kind c.rect) (piece_of b.kind q) (one (Bonded deck s rs) (piece_of a.kind p) (piece_of m.kind c.rect) first) rest

-- ---- from rectangles to cells
pub carried_steps : {X Y : Type 0} (S : X → X → Type 0) (T : Y → Y → Type 0) (f : X → Y) → ((a b : X) → S a b → T (f a) (f b)) → (n : ℕ) (a b : X) → Steps S n a b → Chain T (f a) (f b)
carried_steps S T f step zero a b e = none T (f a) (f b) (ap f e)
carried_steps S T f step (suc n) a b (m, s, r) = joined T (f a) (f m) (f b) (one T (f a) (f m) (step a m s)) (carried_steps S T f step n m b r)

lifted : (deck : Deck) (s : List Shape) (rs : Conductor → List Rectangle) → AreDrawn s rs → (k : Conductor) (a b : Cell) → Chain (Linked (Covers (rs k))) a b → Chain (Wired deck s) (site k a) (site k b)
lifted deck s rs d k a b c = carried_steps (Linked (Covers (rs k))) (Wired deck s) (site k) (λ x y l. record { from = d.conducts k x.x x.y l.from; to = d.conducts k y.x y.y l.to; meets = along refl l.edge }) c.count a b c.steps

-- within one kind, from one rectangle to one that it touches
across : (deck : Deck) (s : List Shape) (rs : Conductor → List Rectangle) → AreDrawn s rs → (k : Conductor) (p q : Rectangle) → Contains (rs k) p → Contains (rs k) q → Touch p q → (a b : Cell) → Holds p a.x a.y → Holds q b.x b.y → Chain (Wired deck s) (site k a) (site k b)
across deck s rs d k p q lp lq touch a b h g = lifted deck s rs d k a b (cells_of_chain (rs k) p q lp (one (Joint (rs k)) p q (record { from = lp; to = lq; touch = touch })) a.x a.y b.x b.y h g)

within : (deck : Deck) (s : List Shape) (rs : Conductor → List Rectangle) → AreDrawn s rs → (k : Conductor) (p : Rectangle) → Contains (rs k) p → (a b : Cell) → Holds p a.x a.y → Holds p b.x b.y → Chain (Wired deck s) (site k a) (site k b)
within deck s rs d k p lp a b h g = lifted deck s rs d k a b (inside (rs k) p lp a.x a.y b.x b.y h g)

-- over one bond to some cell of the next piece
record Over (deck : Deck) (s : List Shape) (k : Conductor) (a : Cell) (q : Piece) : Type 0 where
  pub at : Cell
  pub holds : Holds (rect_of q) at.x at.y
  pub chain : Chain (Wired deck s) (site k a) (site q.kind at)

over : (deck : Deck) (s : List Shape) (rs : Conductor → List Rectangle) → AreDrawn s rs → (p q : Piece) → IsPieceOf rs p → IsPieceOf rs q → (a : Cell) → Holds (rect_of p) a.x a.y → Bond deck s p q → Over deck s p.kind a q
over deck s rs d p q lp lq a h (touching e t) =
    let mine : Contains (rs p.kind) (rect_of q) = subst (λ k. Contains (rs k) (rect_of q)) (sym e) lq in
    let c : Chain (Wired deck s) (site p.kind a) (site p.kind t.other) = across deck s rs d p.kind (rect_of p) (rect_of q) lp mine t a t.other h t.in_b in
    record { at = t.other; holds = t.in_b; chain = subst (λ k. Chain (Wired deck s) (site p.kind a) (site k t.other)) e c }
over deck s rs d p q lp lq a h (joining z) =
    let there : Chain (Wired deck s) (site p.kind a) (site p.kind (record { x = z.x; y = z.y })) = within deck s rs d p.kind (rect_of p) lp a (record { x = z.x; y = z.y }) h z.in_p in
    let w : Wired deck s (site p.kind (record { x = z.x; y = z.y })) (site q.kind (record { x = z.x; y = z.y })) = record { from = d.conducts p.kind z.x z.y (record { rect = (rect_of p); listed = lp; holds = z.in_p }); to = d.conducts q.kind z.x z.y (record { rect = (rect_of q); listed = lq; holds = z.in_q }); meets = through refl z.through } in
    record { at = record { x = z.x; y = z.y }; holds = z.in_q; chain = joined (Wired deck s) (site p.kind a) (site p.kind (record { x = z.x; y = z.y })) (site q.kind (record { x = z.x; y = z.y })) there (one (Wired deck s) _ _ w) }
over deck s rs d p q lp lq a h (tying e z) =
    let there : Chain (Wired deck s) (site p.kind a) (site p.kind (record { x = z.x; y = z.y })) = within deck s rs d p.kind (rect_of p) lp a (record { x = z.x; y = z.y }) h z.in_p in
    let w : Wired deck s (site p.kind (record { x = z.x; y = z.y })) (site q.kind (record { x = z.u; y = z.v })) = record { from = d.conducts p.kind z.x z.y (record { rect = (rect_of p); listed = lp; holds = z.in_p }); to = d.conducts q.kind z.u z.v (record { rect = (rect_of q); listed = lq; holds = z.in_q }); meets = tied e z.tied } in
    record { at = record { x = z.u; y = z.v }; holds = z.in_q; chain = joined (Wired deck s) (site p.kind a) (site p.kind (record { x = z.x; y = z.y })) (site q.kind (record { x = z.u; y = z.v })) there (one (Wired deck s) _ _ w) }

cells_of_pieces : (deck : Deck) (s : List Shape) (rs : Conductor → List Rectangle) → AreDrawn s rs → (n : ℕ) (p q : Piece) → IsPieceOf rs p → Steps (Bonded deck s rs) n p q → (a b : Cell) → Holds (rect_of p) a.x a.y → Holds (rect_of q) b.x b.y → Chain (Wired deck s) (site p.kind a) (site q.kind b)
cells_of_pieces deck s rs d zero p q lp e a b h k = subst (λ (z : Piece). Holds (rect_of z) b.x b.y → Chain (Wired deck s) (site p.kind a) (site z.kind b)) e (λ g. within deck s rs d p.kind (rect_of p) lp a b h g) k
cells_of_pieces deck s rs d (suc n) p q lp (m, j, r) a b h k =
    let o : Over deck s p.kind a m = over deck s rs d p m j.from j.to a h j.bond in
    joined (Wired deck s) (site p.kind a) (site m.kind o.at) (site q.kind b) o.chain (cells_of_pieces deck s rs d n m q j.to r o.at b o.holds k)

-- the law for cells named by their parts' kinds
held_net : (deck : Deck) (s : List Shape) (rs : Conductor → List Rectangle) → AreDrawn s rs → (p q : Piece) → IsPieceOf rs p → IsPieceOf rs q → (a b : Cell) → Holds (rect_of p) a.x a.y → Holds (rect_of q) b.x b.y → SameNet deck s (site p.kind a) (site q.kind b) ↔ Chain (Bonded deck s rs) p q
held_net deck s rs d p q lp lq a b h k = (
  λ c. pieces_of_steps deck s rs d c.chain.count (site p.kind a) (site q.kind b) (rect_of p) (rect_of q) lp lq h k c.chain.steps,
  λ c. record { conducts = d.conducts p.kind a.x a.y (record { rect = (rect_of p); listed = lp; holds = h }); chain = cells_of_pieces deck s rs d c.count p q lp c.steps a b h k },
)

pub one_net : (deck : Deck) (s : List Shape) (rs : Conductor → List Rectangle) (p q : Piece) (a b : Site) → AreDrawn s rs → IsPieceOf rs p → IsPieceOf rs q → IsIn p a → IsIn q b → SameNet deck s a b ↔ Chain (Bonded deck s rs) p q
one_net deck s rs p q a b d lp lq ip iq =
    subst (λ k. SameNet deck s (site k a.cell) b ↔ Chain (Bonded deck s rs) p q) ip.kind
    (subst (λ k. SameNet deck s (site p.kind a.cell) (site k b.cell) ↔ Chain (Bonded deck s rs) p q) iq.kind
    (held_net deck s rs d p q lp lq a.cell b.cell ip.holds iq.holds))
