-- The order of first cells.
use Rattle.std.proofs.Common.{◌≡◌, ℕ, zero, suc, ◌+◌, ◌<◌, ◌≤◌, ℤ, ◌<ℤ◌, false, List, length, get_or, arith, refl, sym, subst, IsSorted}
use Rattle.std.specs.declared.cmp.Ordering.{Ordering}
use Rattle.std.specs.declared.cmp.Ordering.TheVariants.{Less, Equal, Greater}
use Rattle.std.specs.Ordering.{int_cmp, nat_cmp, ordering_then, is_lt, MatchOrdering}
use Rattle.std.proofs.lemmas.Int.{ints}
use Rattle.std.proofs.lemmas.Cmp.{int_ranked, ranked}
use Rattle.box_geom.specs.Touching.{Cell}
use Rattle.box_geom.specs.declared.shape.Shape.{Shape}
use Rattle.net_extract.specs.Nets.{Site, Are, Conducts}
use Rattle.net_extract.specs.Numbering.{rank, NotBehind}
use Rattle.net_extract.specs.Bonds.{IsIn}
use Rattle.net_extract.specs.Pieces.{place, corner_of, piece_cmp}
use Rattle.net_extract.specs.declared.piece.Conductor.{Conductor}
use Rattle.net_extract.specs.declared.piece.Conductor.TheVariants.{PDiffusion, NDiffusion, Poly, Metal1, Metal2}
use Rattle.net_extract.specs.declared.piece.Piece.{Piece}

pub not_behind_self : (a : Site) → NotBehind a a
not_behind_self a = record { row = omega (arith, ints); column = λ h. omega (arith, ints); layer = λ h k. omega arith }

pub not_behind_both : (a b c : Site) → NotBehind a b → NotBehind b c → NotBehind a c
not_behind_both a b c ab bc =
    let r = ab.row in
    let q = bc.row in
    record {
      row = omega (arith, ints);
      column = λ h. let f = ab.column (omega (arith, ints)) in let g = bc.column (omega (arith, ints)) in omega (arith, ints);
      layer = λ h k.
          let f = ab.column (omega (arith, ints)) in
          let g = bc.column (omega (arith, ints)) in
          let l = ab.layer (omega (arith, ints)) (omega (arith, ints)) in
          let m = bc.layer (omega (arith, ints)) (omega (arith, ints)) in
          omega (arith, l, m);
    }

-- the corner of a piece does not come behind any cell of it
pub corner_first : (p : Piece) (a : Site) → IsIn p a → NotBehind (corner_of p) a
corner_first p a i =
    let h = i.holds in
    record { row = omega (arith, ints); column = λ u. omega (arith, ints); layer = λ u v. subst (λ k. rank p.kind ≤ rank k) i.kind (omega arith) }

pub site_same : (a b : Site) → a.kind ≡ b.kind → a.cell ≡ b.cell → a ≡ b
site_same a b e f = subst (λ k. a ≡ record { kind = k; cell = b.cell }) e (subst (λ c. a ≡ record { kind = a.kind; cell = c }) f refl)

-- two conductor cells in one place whose layers are one are of one kind
same_kind : (s : List Shape) (x y : ℤ) (k l : Conductor) → Are s k x y → Are s l x y → rank k ≡ rank l → k ≡ l
same_kind s x y PDiffusion PDiffusion a b e = refl
same_kind s x y PDiffusion NDiffusion a b e = absurd (b.1 a.1)
same_kind s x y PDiffusion Poly a b e = absurd (omega (arith, e))
same_kind s x y PDiffusion Metal1 a b e = absurd (omega (arith, e))
same_kind s x y PDiffusion Metal2 a b e = absurd (omega (arith, e))
same_kind s x y NDiffusion PDiffusion a b e = absurd (a.1 b.1)
same_kind s x y NDiffusion NDiffusion a b e = refl
same_kind s x y NDiffusion Poly a b e = absurd (omega (arith, e))
same_kind s x y NDiffusion Metal1 a b e = absurd (omega (arith, e))
same_kind s x y NDiffusion Metal2 a b e = absurd (omega (arith, e))
same_kind s x y Poly PDiffusion a b e = absurd (omega (arith, e))
same_kind s x y Poly NDiffusion a b e = absurd (omega (arith, e))
same_kind s x y Poly Poly a b e = refl
same_kind s x y Poly Metal1 a b e = absurd (omega (arith, e))
same_kind s x y Poly Metal2 a b e = absurd (omega (arith, e))
same_kind s x y Metal1 PDiffusion a b e = absurd (omega (arith, e))
same_kind s x y Metal1 NDiffusion a b e = absurd (omega (arith, e))
same_kind s x y Metal1 Poly a b e = absurd (omega (arith, e))
same_kind s x y Metal1 Metal1 a b e = refl
same_kind s x y Metal1 Metal2 a b e = absurd (omega (arith, e))
same_kind s x y Metal2 PDiffusion a b e = absurd (omega (arith, e))
same_kind s x y Metal2 NDiffusion a b e = absurd (omega (arith, e))
same_kind s x y Metal2 Poly a b e = absurd (omega (arith, e))
same_kind s x y Metal2 Metal1 a b e = absurd (omega (arith, e))
same_kind s x y Metal2 Metal2 a b e = refl

cell_same : (a b : Cell) → a.x ≡ b.x → a.y ≡ b.y → a ≡ b
cell_same a b e f = subst (λ x. a ≡ record { x = x; y = b.y }) e (subst (λ y. a ≡ record { x = a.x; y = y }) f refl)

-- two conductor cells neither of which comes behind the other are one
pub same_site : (s : List Shape) (a b : Site) → Conducts s a → Conducts s b → NotBehind a b → NotBehind b a → a ≡ b
same_site s a b ca cb ab ba =
    let r = ab.row in
    let q = ba.row in
    let y : a.cell.y ≡ b.cell.y = omega (arith, ints) in
    let f = ab.column q in
    let g = ba.column r in
    let x : a.cell.x ≡ b.cell.x = omega (arith, ints) in
    let l = ab.layer q g in
    let m = ba.layer r f in
    let same : rank a.kind ≡ rank b.kind = omega (arith, l, m) in
    let cells : a.cell ≡ b.cell = cell_same a.cell b.cell x y in
    let there : Are s b.kind a.cell.x a.cell.y = subst (λ (z : Cell). Are s b.kind z.x z.y) (sym cells) cb in
    let kinds : a.kind ≡ b.kind = same_kind s a.cell.x a.cell.y a.kind b.kind ca there same in
    site_same a b kinds cells

rank_order : (a b : Conductor) → place a ≤ place b → rank a ≤ rank b
rank_order PDiffusion PDiffusion l = omega arith
rank_order PDiffusion NDiffusion l = omega arith
rank_order PDiffusion Poly l = omega arith
rank_order PDiffusion Metal1 l = omega arith
rank_order PDiffusion Metal2 l = omega arith
rank_order NDiffusion PDiffusion l = omega arith
rank_order NDiffusion NDiffusion l = omega arith
rank_order NDiffusion Poly l = omega arith
rank_order NDiffusion Metal1 l = omega arith
rank_order NDiffusion Metal2 l = omega arith
rank_order Poly PDiffusion l = absurd (omega (arith, l))
rank_order Poly NDiffusion l = absurd (omega (arith, l))
rank_order Poly Poly l = omega arith
rank_order Poly Metal1 l = omega arith
rank_order Poly Metal2 l = omega arith
rank_order Metal1 PDiffusion l = absurd (omega (arith, l))
rank_order Metal1 NDiffusion l = absurd (omega (arith, l))
rank_order Metal1 Poly l = absurd (omega (arith, l))
rank_order Metal1 Metal1 l = omega arith
rank_order Metal1 Metal2 l = omega arith
rank_order Metal2 PDiffusion l = absurd (omega (arith, l))
rank_order Metal2 NDiffusion l = absurd (omega (arith, l))
rank_order Metal2 Poly l = absurd (omega (arith, l))
rank_order Metal2 Metal1 l = absurd (omega (arith, l))
rank_order Metal2 Metal2 l = omega arith

-- ---- a list in the order of pieces
step_layer : (s t : Piece) → s.low ≡ t.low → s.left ≡ t.left → is_lt (ordering_then (nat_cmp (place t.kind) (place s.kind)) (ordering_then (int_cmp t.top s.top) (int_cmp t.right s.right))) ≡ false → NotBehind (corner_of s) (corner_of t)
step_layer s t el ef e = by (nat_cmp (place t.kind) (place s.kind)) (ranked (place t.kind) (place s.kind) (nat_cmp (place t.kind) (place s.kind)) refl) e
  where
    from : place s.kind ≤ place t.kind → NotBehind (corner_of s) (corner_of t)
    from le = record { row = omega (arith, ints); column = λ u. omega (arith, ints); layer = λ u v. rank_order s.kind t.kind le }

    by : (r : Ordering) → MatchOrdering r (place t.kind < place s.kind) (place t.kind ≡ place s.kind) (place s.kind < place t.kind) → is_lt (ordering_then r (ordering_then (int_cmp t.top s.top) (int_cmp t.right s.right))) ≡ false → NotBehind (corner_of s) (corner_of t)
    by Less m f = absurd (cc f)
    by Equal m f = from (omega (arith, m))
    by Greater m f = from (omega (arith, m))

step_column : (s t : Piece) → s.low ≡ t.low → is_lt (ordering_then (int_cmp t.left s.left) (ordering_then (nat_cmp (place t.kind) (place s.kind)) (ordering_then (int_cmp t.top s.top) (int_cmp t.right s.right)))) ≡ false → NotBehind (corner_of s) (corner_of t)
step_column s t el e = by (int_cmp t.left s.left) (int_ranked t.left s.left (int_cmp t.left s.left) refl) e
  where
    by : (r : Ordering) → MatchOrdering r (t.left <ℤ s.left) (t.left ≡ s.left) (s.left <ℤ t.left) → is_lt (ordering_then r (ordering_then (nat_cmp (place t.kind) (place s.kind)) (ordering_then (int_cmp t.top s.top) (int_cmp t.right s.right)))) ≡ false → NotBehind (corner_of s) (corner_of t)
    by Less m f = absurd (cc f)
    by Equal m f = step_layer s t el (sym m) f
    by Greater m f = record { row = omega (arith, ints); column = λ u. omega (arith, ints); layer = λ u v. absurd (omega (arith, ints)) }

step_order : (s t : Piece) → is_lt (piece_cmp t s) ≡ false → NotBehind (corner_of s) (corner_of t)
step_order s t e = by (int_cmp t.low s.low) (int_ranked t.low s.low (int_cmp t.low s.low) refl) e
  where
    by : (r : Ordering) → MatchOrdering r (t.low <ℤ s.low) (t.low ≡ s.low) (s.low <ℤ t.low) → is_lt (ordering_then r (ordering_then (int_cmp t.left s.left) (ordering_then (nat_cmp (place t.kind) (place s.kind)) (ordering_then (int_cmp t.top s.top) (int_cmp t.right s.right))))) ≡ false → NotBehind (corner_of s) (corner_of t)
    by Less m f = absurd (cc f)
    by Equal m f = step_column s t (sym m) f
    by Greater m f = record { row = omega (arith, ints); column = λ u. absurd (omega (arith, ints)); layer = λ u v. absurd (omega (arith, ints)) }

ordered_from : (ps : List Piece) (d : Piece) → IsSorted piece_cmp ps → (m i : ℕ) → i + m < length ps → NotBehind (corner_of (get_or ps i d)) (corner_of (get_or ps (i + m) d))
ordered_from ps d up zero i l = let e : ◌≡◌ {A = ℕ} i (i + 0) = omega arith in subst (λ z. NotBehind (corner_of (get_or ps i d)) (corner_of (get_or ps z d))) e (not_behind_self (corner_of (get_or ps i d)))
ordered_from ps d up (suc m) i l =
    let e : ◌≡◌ {A = ℕ} (i + m + 1) (i + suc m) = omega arith in
    let here : NotBehind (corner_of (get_or ps (i + m) d)) (corner_of (get_or ps (i + m + 1) d)) = step_order (get_or ps (i + m) d) (get_or ps (i + m + 1) d) (up (i + m) d (omega arith) (omega (arith, l))) in
    subst (λ z. NotBehind (corner_of (get_or ps i d)) (corner_of (get_or ps z d))) e (not_behind_both (corner_of (get_or ps i d)) (corner_of (get_or ps (i + m) d)) (corner_of (get_or ps (i + m + 1) d)) (ordered_from ps d up m i (omega (arith, l))) here)

record Reach (i j : ℕ) : Type 0 where
  pub by : ℕ
  pub is : i + by ≡ j

reach_of : (i j : ℕ) → i ≤ j → Reach i j
reach_of zero j l = record { by = j; is = omega arith }
reach_of (suc i) zero l = absurd (omega arith)
reach_of (suc i) (suc j) l = let r = reach_of i j (omega arith) in let e = r.is in record { by = r.by; is = omega (arith, e) }

pub ordered : (ps : List Piece) (d : Piece) → IsSorted piece_cmp ps → (i j : ℕ) → i ≤ j → j < length ps → NotBehind (corner_of (get_or ps i d)) (corner_of (get_or ps j d))
ordered ps d up i j le l =
    let r = reach_of i j le in
    let e = r.is in
    subst (λ z. NotBehind (corner_of (get_or ps i d)) (corner_of (get_or ps z d))) e (ordered_from ps d up r.by i (omega (arith, e, l)))
