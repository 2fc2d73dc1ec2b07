-- The places of a list, and the cells of a row that stand in them.
use Rattle.std.proofs.Common.{◌≡◌, ℕ, ◌+◌, ◌≤◌, ◌<◌, ℤ, pos, List, [], ◌∷◌, length, drop, arith, inl, inr, ◌⊎◌, refl}
use Rattle.std.specs.List.{Contains}
use Rattle.std.proofs.lemmas.Int.{ints, by_lt_z}
use Rattle.cell_num.proofs.Lists.{contains_none, contains_cons, contains_here, contains_there}
use Rattle.scmos_rules.proofs.Rails.{IsColumn}
use Rattle.row_abut.specs.Row.{Standing, standing_behind}
use Rattle.row_abut.specs.declared.cell.RowCell.{RowCell}
use Rattle.row_abut.specs.Measures.{CHANNEL_ROOM, LEAST_INNER}

-- one place for each item; equality of places needs no proof about proofs
abbrev pub Place : {X : Type 0} → List X → Type 0
Place [] = ⊥
Place (x ∷ xs) = Unit {0} ⊎ Place xs

abbrev pub at : {X : Type 0} (xs : List X) → Place xs → X
at [] i = absurd i
at (x ∷ xs) (inl u) = x
at (x ∷ xs) (inr i) = at xs i

pub at_listed : {X : Type 0} (xs : List X) (i : Place xs) → Contains xs (at xs i)
at_listed [] i = absurd i
at_listed (x ∷ xs) (inl u) = contains_here x xs
at_listed (x ∷ xs) (inr i) = contains_there x xs (at xs i) (at_listed xs i)

-- a place of an item
pub record PlaceOf {X : Type 0} (xs : List X) (x : X) : Type 0 where
  pub place : Place xs
  pub is : at xs place ≡ x

pub place_of : {X : Type 0} (xs : List X) (x : X) → Contains xs x → PlaceOf xs x
place_of [] x c = absurd (contains_none x c)
place_of {X} (y ∷ ys) x c = elim (contains_cons y ys x c) [
  | inl e ↦ record { place = inl tt; is = e }
  | inr l ↦ let r = place_of ys x l in record { place = inr r.place; is = r.is }
]

-- ---- cells in their places
abbrev pub right_end : Standing → ℕ
right_end s = s.x + s.cell.drawing.width

-- where the whole row ends
abbrev pub row_end : ℕ → List RowCell → ℕ
row_end x [] = x
row_end x (c ∷ cs) = row_end (x + c.drawing.width) cs

pub cell_listed : (k x : ℕ) (cells : List RowCell) (i : Place (standing_behind k x cells)) → Contains cells (at (standing_behind k x cells) i).cell
cell_listed k x [] i = absurd i
cell_listed k x (c ∷ cs) (inl u) = contains_here c cs
cell_listed k x (c ∷ cs) (inr i) = contains_there c cs (at (standing_behind (k + 1) (x + c.drawing.width) cs) i).cell (cell_listed (k + 1) (x + c.drawing.width) cs i)

-- every cell is wide
abbrev pub AreWide : List RowCell → Type 0
AreWide cells = (c : RowCell) → Contains cells c → 1 ≤ c.drawing.width

wide_tail : (c : RowCell) (cs : List RowCell) → AreWide (c ∷ cs) → AreWide cs
wide_tail c cs a d l = a d (contains_there c cs d l)

pub end_behind : (x : ℕ) (cells : List RowCell) → x ≤ row_end x cells
end_behind x [] = omega arith
end_behind x (c ∷ cs) = let r = end_behind (x + c.drawing.width) cs in omega (arith, r)

pub within : (k x : ℕ) (cells : List RowCell) (i : Place (standing_behind k x cells)) → (x ≤ (at (standing_behind k x cells) i).x) × (right_end (at (standing_behind k x cells) i) ≤ row_end x cells)
within k x [] i = absurd i
within k x (c ∷ cs) (inl u) = (omega arith, end_behind (x + c.drawing.width) cs)
within k x (c ∷ cs) (inr i) = let r = within (k + 1) (x + c.drawing.width) cs i in let low = r.0 in (omega (arith, low), r.1)

pub filled : (k x : ℕ) (cells : List RowCell) (z : ℤ) → IsColumn (pos x) (pos (row_end x cells)) z → (i : Place (standing_behind k x cells)) × IsColumn (pos (at (standing_behind k x cells) i).x) (pos (right_end (at (standing_behind k x cells) i))) z
filled k x [] z c = absurd (omega (arith, ints))
filled k x (d ∷ cs) z c =
    by_lt_z z (pos (x + d.drawing.width))
    (λ l. (inl tt, record { left = c.left; right = l }))
    (λ r. let f = filled (k + 1) (x + d.drawing.width) cs z (record { left = r; right = c.right }) in (inr f.0, f.1))

-- ---- which stand apart
-- the N edge of each stands far enough below the P edge of the other
pub record Fit (a b : RowCell) : Type 0 where
  pub first : a.edges.n + CHANNEL_ROOM ≤ b.edges.p
  pub second : b.edges.n + CHANNEL_ROOM ≤ a.edges.p

abbrev pub AreFitting : List RowCell → Type 0
AreFitting [] = Unit {0}
AreFitting (c ∷ []) = Unit {0}
AreFitting (c ∷ d ∷ cs) = Fit c d × AreFitting (d ∷ cs)

-- all but the last are so wide that they keep apart what stands on their two sides
abbrev pub AreInner : List RowCell → Type 0
AreInner [] = Unit {0}
AreInner (c ∷ []) = Unit {0}
AreInner (c ∷ d ∷ cs) = (LEAST_INNER ≤ c.drawing.width) × AreInner (d ∷ cs)

-- a stands to the left of b: they fit, or another cell stands between
pub record IsLeftOf (a b : Standing) : Type 0 where
  pub order : right_end a ≤ b.x
  pub room : Fit a.cell b.cell ⊎ (right_end a + LEAST_INNER ≤ b.x)

fitting_tail : (c : RowCell) (cs : List RowCell) → AreFitting (c ∷ cs) → AreFitting cs
fitting_tail c [] f = tt
fitting_tail c (d ∷ cs) f = f.1

inner_tail : (c : RowCell) (cs : List RowCell) → AreInner (c ∷ cs) → AreInner cs
inner_tail c [] f = tt
inner_tail c (d ∷ cs) f = f.1

-- what stands behind the first cell
first_left : (k x : ℕ) (c : RowCell) (cs : List RowCell) → AreFitting (c ∷ cs) → AreInner cs → (j : Place (standing_behind (k + 1) (x + c.drawing.width) cs)) → IsLeftOf (record { number = k; x = x; cell = c }) (at (standing_behind (k + 1) (x + c.drawing.width) cs) j)
first_left k x c [] f w j = absurd j
first_left k x c (d ∷ cs) f w (inl u) = record { order = omega arith; room = inl f.0 }
first_left k x c (d ∷ []) f w (inr j) = absurd j
first_left k x c (d ∷ e ∷ cs) f w (inr j) =
    let r = (within (k + 1 + 1) (x + c.drawing.width + d.drawing.width) (e ∷ cs) j).0 in
    let wide = w.0 in
    record { order = omega (arith, r, wide); room = inr (omega (arith, r, wide)) }

abbrev pub AreOrdered : {X : Type 0} → (X → X → Type 0) → X → X → Type 0
AreOrdered R i j = (i ≡ j) ⊎ (R i j ⊎ R j i)

pub ordered : (k x : ℕ) (cells : List RowCell) → AreFitting cells → AreInner (drop 1 cells) → (i j : Place (standing_behind k x cells)) → AreOrdered (λ (p q : Place (standing_behind k x cells)). IsLeftOf (at (standing_behind k x cells) p) (at (standing_behind k x cells) q)) i j
ordered k x [] f w i j = absurd i
ordered k x (c ∷ cs) f w (inl u) (inl v) = let e = same u v in inl (cc e)
  where
    same : (p q : Unit {0}) → p ≡ q
    same p q = refl
ordered k x (c ∷ cs) f w (inl u) (inr j) = inr (inl (first_left k x c cs f w j))
ordered k x (c ∷ cs) f w (inr i) (inl v) = inr (inr (first_left k x c cs f w i))
ordered k x (c ∷ cs) f w (inr i) (inr j) = elim (ordered (k + 1) (x + c.drawing.width) cs (fitting_tail c cs f) (rest cs w) i j) [ inl e ↦ inl (cc e) | inr o ↦ inr o ]
  where
    rest : (ds : List RowCell) → AreInner ds → AreInner (drop 1 ds)
    rest [] a = tt
    rest (d ∷ ds) a = inner_tail d ds a

-- ---- the numbers of cells
pub number_below : (k x : ℕ) (cells : List RowCell) (i : Place (standing_behind k x cells)) → ((at (standing_behind k x cells) i).number < k + length cells) × (k ≤ (at (standing_behind k x cells) i).number)
number_below k x [] i = absurd i
number_below k x (c ∷ cs) (inl u) = (omega arith, omega arith)
number_below k x (c ∷ cs) (inr i) = let r = number_below (k + 1) (x + c.drawing.width) cs i in let most = r.0 in let least = r.1 in (omega (arith, most), omega (arith, least))

pub same_number : (k x : ℕ) (cells : List RowCell) (i j : Place (standing_behind k x cells)) → (at (standing_behind k x cells) i).number ≡ (at (standing_behind k x cells) j).number → i ≡ j
same_number k x [] i j e = absurd i
same_number k x (c ∷ cs) (inl u) (inl v) e = let f = same u v in cc f
  where
    same : (p q : Unit {0}) → p ≡ q
    same p q = refl
same_number k x (c ∷ cs) (inl u) (inr j) e = absurd (let least = (number_below (k + 1) (x + c.drawing.width) cs j).1 in omega (arith, least, e))
same_number k x (c ∷ cs) (inr i) (inl v) e = absurd (let least = (number_below (k + 1) (x + c.drawing.width) cs i).1 in omega (arith, least, e))
same_number k x (c ∷ cs) (inr i) (inr j) e = let f = same_number (k + 1) (x + c.drawing.width) cs i j e in cc f
