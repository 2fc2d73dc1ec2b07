-- What comes first is one.
use Rattle.std.proofs.Common.{◌≡◌, ℤ, ◌≤ℤ◌, List, [], ◌∷◌, ◌++◌, arith, sym, subst, ◌∙◌}
use Rattle.std.specs.List.{All, Contains}
use Rattle.std.proofs.lemmas.Int.{ints}
use Rattle.std.proofs.lemmas.List.Elements.{All-contains, All-head, All-tail, Contains-append_right}
use Rattle.cell_num.proofs.Lists.{contains_here}
use Rattle.box_geom.specs.Regions.{IsFirst}
use Rattle.lef_read.specs.Differences.{IsFirstNot}

same_head : {X : Type 0} (x y : X) (xs ys : List X) → x ∷ xs ≡ y ∷ ys → x ≡ y
same_head x y xs ys e = cc

same_tail : {X : Type 0} (x y : X) (xs ys : List X) → x ∷ xs ≡ y ∷ ys → xs ≡ ys
same_tail x y xs ys e = cc

one_split : {X : Type 0} (P : X → Type 0) (b a c d : List X) (x y : X) → b ++ x ∷ a ≡ c ++ y ∷ d → All P b → All P c → (P x → ⊥) → (P y → ⊥) → x ≡ y
one_split P [] a [] d x y e pb pc nx ny = same_head x y a d e
one_split P [] a (z ∷ c) d x y e pb pc nx ny = absurd (nx (subst P (sym (same_head x z a (c ++ y ∷ d) e)) (All-head P z c pc)))
one_split P (z ∷ b) a [] d x y e pb pc nx ny = absurd (ny (subst P (same_head z y (b ++ x ∷ a) d e) (All-head P z b pb)))
one_split P (z ∷ b) a (w ∷ c) d x y e pb pc nx ny = one_split P b a c d x y (same_tail z w (b ++ x ∷ a) (c ++ y ∷ d) e) (All-tail P z b pb) (All-tail P w c pc) nx ny

pub one_first : {X : Type 0} (P : X → Type 0) (xs : List X) (x y : X) → IsFirstNot P xs x → IsFirstNot P xs y → x ≡ y
one_first P xs x y f g = one_split P f.before f.after g.before g.after x y (sym f.split ∙ g.split) f.fine g.fine f.fails g.fails

-- where something fails of an item, it does not hold of all
pub not_all : {X : Type 0} (P : X → Type 0) (xs : List X) (x : X) → IsFirstNot P xs x → All P xs → ⊥
not_all P xs x f all = f.fails (All-contains P xs x all (subst (λ ys. Contains ys x) (sym f.split) (Contains-append_right f.before (x ∷ f.after) x (contains_here x f.after))))

pub one_cell : (P : ℤ → ℤ → Type 0) (x y s t : ℤ) → IsFirst P x y → IsFirst P s t → (x ≡ s) × (y ≡ t)
one_cell P x y s t f g =
    let a = f.first s t g.covered in
    let b = g.first x y f.covered in
    let row : y ≡ t = order_same y t a.row b.row in
    (order_same x s (a.column (b.row)) (b.column (a.row)), row)
  where
    order_same : (m n : ℤ) → m ≤ℤ n → n ≤ℤ m → m ≡ n
    order_same m n le ge = omega (arith, ints)
