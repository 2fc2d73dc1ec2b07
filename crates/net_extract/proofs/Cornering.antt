-- The corners of pieces lie on sides of shapes.
use Rattle.std.proofs.Common.{◌≡◌, ℕ, zero, suc, ◌*◌, ◌==◌, ◌≤◌, ℤ, Bool, true, false, if◌then◌else◌, List, [], ◌∷◌, ◌++◌, map, fold, length, get_or, arith, refl, sym, subst, inl, inr, IsPermutation, length-append}
use Rattle.std.specs.Int.{int_max, int_min}
use Rattle.std.specs.List.{Contains, flat_map}
use Rattle.std.proofs.lemmas.Bool.{cases_eq}
use Rattle.std.proofs.lemmas.Int.{ints, clamps, by_lt_z}
use Rattle.std.proofs.lemmas.List.Elements.{Contains-append_cases}
use Rattle.std.proofs.lemmas.List.Sorted.{Contains-permutation, IsPermutation-sym}
use Rattle.cell_num.proofs.Lists.{contains_one, contains_here, contains_there}
use Rattle.cell_num.proofs.In.{in_flat, contains_flat, in_map}
use Rattle.box_geom.specs.Rectangle.{Rectangle}
use Rattle.box_geom.specs.Layers.{same_layer}
use Rattle.box_geom.specs.declared.shape.Shape.{Shape}
use Rattle.box_geom.specs.declared.layer.Layer.{Layer}
use Rattle.box_geom.specs.declared.layer.Layer.TheVariants.{Well, Active, Poly as PolyLayer, Metal1 as Metal1Layer, Metal2 as Metal2Layer}
use Rattle.scmos_rules.specs.declared.rules.Deck.{Deck}
use Rattle.net_extract.specs.Corners.{HasSides, HasCorner, HaveFewSides, HaveFewCorners}
use Rattle.net_extract.specs.Cuts.{kept, left_part, right_part, low_part, high_part, around, carved, carved_once, left_of_piece, shapes_on, cut_all, common_part, shared_all, drawn_all, p_diffusion_in, n_diffusion_in, pieces_in, gates_in, poly_of}
use Rattle.net_extract.specs.Meetings.{sharing_cell}
use Rattle.net_extract.specs.Connections.{blank, heads_below}
use Rattle.net_extract.specs.Pieces.{rect_of}
use Rattle.net_extract.specs.declared.piece.Conductor.{Conductor}
use Rattle.net_extract.specs.declared.piece.Conductor.TheVariants.{PDiffusion, NDiffusion, Poly, Metal1, Metal2}
use Rattle.net_extract.specs.declared.piece.Piece.{Piece}
use Rattle.net_extract.proofs.Apart.{in_filter}
use Rattle.net_extract.proofs.Carving.{of_kept, from_shape, from_drawn}
use Rattle.net_extract.proofs.Counting.{few_firsts}
use Rattle.net_extract.proofs.Numbering.{head_of}
use Rattle.net_extract.proofs.Wiring.{AreSet, heads_ascend, listed_at}

greater_in : (xs : List ℤ) (a b : ℤ) → Contains xs a → Contains xs b → Contains xs (int_max a b)
greater_in xs a b ca cb =
    by_lt_z a b
    (λ l. let e : b ≡ int_max a b = omega (arith, ints, clamps) in subst (Contains xs) e cb)
    (λ l. let e : a ≡ int_max a b = omega (arith, ints, clamps) in subst (Contains xs) e ca)

less_in : (xs : List ℤ) (a b : ℤ) → Contains xs a → Contains xs b → Contains xs (int_min a b)
less_in xs a b ca cb =
    by_lt_z a b
    (λ l. let e : a ≡ int_min a b = omega (arith, ints, clamps) in subst (Contains xs) e ca)
    (λ l. let e : b ≡ int_min a b = omega (arith, ints, clamps) in subst (Contains xs) e cb)

abbrev AllSides : List ℤ → List ℤ → List Shape → Type 0
AllSides xs ys ss = (z : Shape) → Contains ss z → HasSides xs ys z.rect

abbrev AllCorners : List ℤ → List ℤ → List Piece → Type 0
AllCorners xs ys ps = (p : Piece) → Contains ps p → HasCorner xs ys p

around_corners : (xs ys : List ℤ) (r : Rectangle) (p : Piece) → HasSides xs ys r → HasCorner xs ys p → AllCorners xs ys (around r p)
around_corners xs ys r p s h q c = elim (Contains-append_cases (kept (left_part p r)) (kept (right_part p r) ++ (kept (low_part p r) ++ kept (high_part p r))) q c) [
  | inl one ↦ subst (HasCorner xs ys) (of_kept (left_part p r) q one).same (record { left = h.left; low = h.low })
  | inr c1 ↦ elim (Contains-append_cases (kept (right_part p r)) (kept (low_part p r) ++ kept (high_part p r)) q c1) [
    | inl two ↦ subst (HasCorner xs ys) (of_kept (right_part p r) q two).same (record { left = greater_in xs p.left r.x2 h.left s.right; low = h.low })
    | inr c2 ↦ elim (Contains-append_cases (kept (low_part p r)) (kept (high_part p r)) q c2) [
      | inl three ↦ subst (HasCorner xs ys) (of_kept (low_part p r) q three).same (record { left = greater_in xs p.left r.x1 h.left s.left; low = h.low })
      | inr four ↦ subst (HasCorner xs ys) (of_kept (high_part p r) q four).same (record { left = greater_in xs p.left r.x1 h.left s.left; low = greater_in ys p.low r.y2 h.low s.high })
    ]
  ]
]

carved_corners : (xs ys : List ℤ) (r : Rectangle) (p : Piece) → HasSides xs ys r → HasCorner xs ys p → AllCorners xs ys (carved r p)
carved_corners xs ys r p s h q c = by (sharing_cell (rect_of p) r) c
  where
    by : (b : Bool) → Contains (if b then around r p else p ∷ []) q → HasCorner xs ys q
    by true d = around_corners xs ys r p s h q d
    by false d = subst (HasCorner xs ys) (contains_one p q d) h

once_corners : (xs ys : List ℤ) (p : Piece) (ps : List Piece) (z : Shape) → HasSides xs ys z.rect → AllCorners xs ys ps → AllCorners xs ys (carved_once p ps z)
once_corners xs ys p ps z s h q c = by (sharing_cell (rect_of p) z.rect) c
  where
    by : (b : Bool) → Contains (if b then flat_map (carved z.rect) ps else ps) q → HasCorner xs ys q
    by true d = let i = in_flat (carved z.rect) ps q d in carved_corners xs ys z.rect i.of s (h i.of i.listed) q i.inside
    by false d = h q d

fold_corners : (xs ys : List ℤ) (p : Piece) (ps : List Piece) (ss : List Shape) → AllSides xs ys ss → AllCorners xs ys ps → AllCorners xs ys (fold (carved_once p) ps ss)
fold_corners xs ys p ps [] s h = h
fold_corners xs ys p ps (z ∷ zs) s h = fold_corners xs ys p (carved_once p ps z) zs (λ w c. s w (contains_there z zs w c)) (once_corners xs ys p ps z (s z (contains_here z zs)) h)

cut_corners : (xs ys : List ℤ) (layer : Layer) (ps : List Piece) (ss : List Shape) → AllSides xs ys ss → AllCorners xs ys ps → AllCorners xs ys (cut_all layer ps ss)
cut_corners xs ys layer ps ss s h q c =
    let i = in_flat (left_of_piece (shapes_on layer ss)) ps q c in
    fold_corners xs ys i.of (i.of ∷ []) (shapes_on layer ss) (λ z d. s z (in_filter (λ (w : Shape). same_layer w.layer layer) ss z d)) (λ p d. subst (HasCorner xs ys) (contains_one i.of p d) (h i.of i.listed)) q i.inside

shared_corners : (xs ys : List ℤ) (layer : Layer) (ps : List Piece) (ss : List Shape) → AllSides xs ys ss → AllCorners xs ys ps → AllCorners xs ys (shared_all layer ps ss)
shared_corners xs ys layer ps ss s h q c =
    let f = from_shape layer ps ss q c in
    let a = h f.of f.listed in
    let b = s f.shape f.there in
    subst (HasCorner xs ys) (of_kept (common_part f.of f.shape.rect) q f.inside).same (record { left = greater_in xs f.of.left f.shape.rect.x1 a.left b.left; low = greater_in ys f.of.low f.shape.rect.y1 a.low b.low })

drawn_corners : (xs ys : List ℤ) (k : Conductor) (layer : Layer) (ss : List Shape) → AllSides xs ys ss → AllCorners xs ys (drawn_all k layer ss)
drawn_corners xs ys k layer ss s q c = let f = from_drawn k layer ss q c in let a = s f.shape f.there in subst (HasCorner xs ys) f.is (record { left = a.left; low = a.low })

both_corners : (xs ys : List ℤ) (ps qs : List Piece) → AllCorners xs ys ps → AllCorners xs ys qs → AllCorners xs ys (ps ++ qs)
both_corners xs ys ps qs a b p c = elim (Contains-append_cases ps qs p c) [ inl l ↦ a p l | inr r ↦ b p r ]

pieces_corners : (s : List Shape) → HaveFewSides s → HaveFewCorners (pieces_in s)
pieces_corners s h = record { xs = h.xs; ys = h.ys; few = h.few; corners = whole }
  where
    ps : List Piece
    ps = p_diffusion_in s

    ns : List Piece
    ns = n_diffusion_in s

    os : List Piece
    os = drawn_all Poly PolyLayer s

    ms : List Piece
    ms = drawn_all Metal1 Metal1Layer s

    ts : List Piece
    ts = drawn_all Metal2 Metal2Layer s

    pc : AllCorners h.xs h.ys (p_diffusion_in s)
    pc = cut_corners h.xs h.ys PolyLayer (shared_all Well (drawn_all PDiffusion Active s) s) s h.sides (shared_corners h.xs h.ys Well (drawn_all PDiffusion Active s) s h.sides (drawn_corners h.xs h.ys PDiffusion Active s h.sides))

    nc : AllCorners h.xs h.ys (n_diffusion_in s)
    nc = cut_corners h.xs h.ys PolyLayer (cut_all Well (drawn_all NDiffusion Active s) s) s h.sides (cut_corners h.xs h.ys Well (drawn_all NDiffusion Active s) s h.sides (drawn_corners h.xs h.ys NDiffusion Active s h.sides))

    whole : AllCorners h.xs h.ys (pieces_in s)
    whole = both_corners h.xs h.ys (((ps ++ ns) ++ os) ++ ms) ts (both_corners h.xs h.ys ((ps ++ ns) ++ os) ms (both_corners h.xs h.ys (ps ++ ns) os (both_corners h.xs h.ys ps ns pc nc) (drawn_corners h.xs h.ys Poly PolyLayer s h.sides)) (drawn_corners h.xs h.ys Metal1 Metal1Layer s h.sides)) (drawn_corners h.xs h.ys Metal2 Metal2Layer s h.sides)

pub sorted_corners : (s : List Shape) (ps qs : List Piece) → HaveFewSides s → ps ≡ pieces_in s → IsPermutation ps qs → HaveFewCorners qs
sorted_corners s ps qs few e m =
    let h : HaveFewCorners ps = subst HaveFewCorners (sym e) (pieces_corners s few) in
    record { xs = h.xs; ys = h.ys; few = h.few; corners = λ p c. h.corners p (Contains-permutation qs ps p (IsPermutation-sym ps qs m) c) }

-- gates are bounded by sides of the drawing
pub gates_sides : (s : List Shape) → HaveFewSides s → HaveFewSides (map poly_of (gates_in s))
gates_sides s h = record { xs = h.xs; ys = h.ys; few = h.few; sides = λ z c. let i = in_map poly_of (gates_in s) z c in subst (λ (w : Shape). HasSides h.xs h.ys w.rect) i.is (bounded i.of i.listed) }
  where
    bounded : (p : Piece) → Contains (gates_in s) p → HasSides h.xs h.ys (rect_of p)
    bounded p c =
        let f = from_shape PolyLayer (drawn_all Poly Active s) s p c in
        let g = from_drawn Poly Active s f.of f.listed in
        let b = h.sides f.shape f.there in
        let a : HasSides h.xs h.ys (rect_of f.of) = subst (λ (q : Piece). HasSides h.xs h.ys (rect_of q)) g.is (h.sides g.shape g.there) in
        subst (λ (q : Piece). HasSides h.xs h.ys (rect_of q)) (of_kept (common_part f.of f.shape.rect) p f.inside).same (record {
          left = greater_in h.xs f.of.left f.shape.rect.x1 a.left b.left;
          right = less_in h.xs f.of.right f.shape.rect.x2 a.right b.right;
          low = greater_in h.ys f.of.low f.shape.rect.y1 a.low b.low;
          high = less_in h.ys f.of.top f.shape.rect.y2 a.high b.high;
        })

pub wells_sides : (s : List Shape) → HaveFewSides s → HaveFewSides (map poly_of (drawn_all Poly Well s))
wells_sides s h = record {
  xs = h.xs;
  ys = h.ys;
  few = h.few;
  sides = λ z c.
      let i = in_map poly_of (drawn_all Poly Well s) z c in
      let f = from_drawn Poly Well s i.of i.listed in
      subst (λ (w : Shape). HasSides h.xs h.ys w.rect) i.is (subst (λ (q : Piece). HasSides h.xs h.ys (rect_of q)) f.is (h.sides f.shape f.there));
}

-- ---- the sides of 10,000 shapes
abbrev across_of : Shape → List ℤ
across_of z = z.rect.x1 ∷ z.rect.x2 ∷ []

abbrev upward_of : Shape → List ℤ
upward_of z = z.rect.y1 ∷ z.rect.y2 ∷ []

twice : (f : Shape → List ℤ) → ((z : Shape) → length (f z) ≡ 2) → (ss : List Shape) → length (flat_map f ss) ≡ 2 * length ss
twice f e [] = refl
twice f e (z ∷ zs) = let a = e z in let r = twice f e zs in let l = length-append (f z) (flat_map f zs) in omega (arith, a, r, l)

pub few_sides : (s : List Shape) → length s ≤ 10000 → HaveFewSides s
few_sides s few = record {
  xs = flat_map across_of s;
  ys = flat_map upward_of s;
  few = record { across = (let t = twice across_of (λ z. refl) s in omega (arith, t, few)); upward = (let t = twice upward_of (λ z. refl) s in omega (arith, t, few)) };
  sides = λ z c. record {
    left = contains_flat across_of s z z.rect.x1 c (contains_here z.rect.x1 (z.rect.x2 ∷ []));
    right = contains_flat across_of s z z.rect.x2 c (contains_there z.rect.x1 (z.rect.x2 ∷ []) z.rect.x2 (contains_here z.rect.x2 []));
    low = contains_flat upward_of s z z.rect.y1 c (contains_here z.rect.y1 (z.rect.y2 ∷ []));
    high = contains_flat upward_of s z z.rect.y2 c (contains_there z.rect.y1 (z.rect.y2 ∷ []) z.rect.y2 (contains_here z.rect.y2 []));
  };
}

-- ---- the first pieces of all nets
pub few_heads : (deck : Deck) (s : List Shape) (ps : List Piece) (ls : List ℕ) → AreSet deck s ps ls → HaveFewCorners ps → length (heads_below ps ls (length ps)) ≤ 2000000000
few_heads deck s ps ls z h =
    few_firsts (heads_below ps ls (length ps)) (heads_ascend deck s ps ls z (length ps) (omega arith)) (record {
      xs = h.xs;
      ys = h.ys;
      few = h.few;
      corners = λ p c. let i = head_of ps ls (length ps) p c in subst (HasCorner h.xs h.ys) i.is (h.corners (get_or ps i.at blank) (listed_at ps i.at i.below));
    })

-- no fewer at more pieces
pub heads_fewer : (ps : List Piece) (ls : List ℕ) (k n : ℕ) → k ≤ n → length (heads_below ps ls k) ≤ length (heads_below ps ls n)
heads_fewer ps ls k zero le = let e : ◌≡◌ {A = ℕ} k zero = omega (arith, le) in subst (λ z. length (heads_below ps ls z) ≤ length (heads_below ps ls zero)) (sym e) (omega arith)
heads_fewer ps ls k (suc n) le =
    elim (cases_eq k (suc n)) [
      | inl e ↦ subst (λ z. length (heads_below ps ls z) ≤ length (heads_below ps ls (suc n))) (sym e) (omega arith)
      | inr ne ↦
          let r = heads_fewer ps ls k n (omega (arith, le, ne)) in
          let e = length-append (heads_below ps ls n) (if get_or ls n 0 == n then get_or ps n blank ∷ [] else []) in
          let grown : length (heads_below ps ls k) ≤ length (heads_below ps ls n ++ (if get_or ls n 0 == n then get_or ps n blank ∷ [] else [])) = omega (arith, r, e) in
          grown
    ]
