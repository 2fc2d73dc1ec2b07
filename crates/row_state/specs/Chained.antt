-- Two nets are of one class where they are chained, and each class has the name of its least net.
use Rattle.std.proofs.Common.{ℕ, ◌≡◌, ◌≤◌, max, min, List, [], ◌∷◌, refl, sym, ap, arith, ◌∙◌, inl, inr, IsPermutation}
use Rattle.std.proofs.lemmas.Bool.{cases_eq, cases_lt, eq-eqb, ne_eqb}
use Rattle.std.proofs.lemmas.List.Elements.{All-cons, All-head, All-nil, All-tail, All-weaker}
use Rattle.std.proofs.lemmas.List.Sorted.{All-permutation, IsPermutation-sym}
use Rattle.cell_num.specs.declared.finger.Finger.{Finger}
use Rattle.row_state.specs.Classes.{AreChained, IsLabelling, joined, least_chained}

pub joined_high : (a b u : ℕ) → u ≡ max a b → joined a b u ≡ min a b
joined_high a b u e = rw (eq-eqb u (max a b) e) refl

pub joined_other : (a b u : ℕ) → (u ≡ max a b → ⊥) → joined a b u ≡ u
joined_other a b u other = rw (ne_eqb u (max a b) other) refl

-- both classes have the lower name
pub joined_a : (a b : ℕ) → joined a b a ≡ min a b
joined_a a b = elim (cases_eq a (max a b)) [
  | inl e ↦ joined_high a b a e
  | inr other ↦ let low : a ≡ min a b = omega (arith, other) in joined_other a b a other ∙ low
]

pub joined_b : (a b : ℕ) → joined a b b ≡ min a b
joined_b a b = elim (cases_eq b (max a b)) [
  | inl e ↦ joined_high a b b e
  | inr other ↦ let low : b ≡ min a b = omega (arith, other) in joined_other a b b other ∙ low
]

joined_le : (a b u : ℕ) → joined a b u ≤ u
joined_le a b u = elim (cases_eq u (max a b)) [
  | inl e ↦ let low : joined a b u ≡ min a b = joined_high a b u e in omega (arith, low, e)
  | inr other ↦ let same : joined a b u ≡ u = joined_other a b u other in omega (arith, same)
]

pub joined_turned : (a b u : ℕ) → joined a b u ≡ joined b a u
joined_turned a b u =
    let high : max a b ≡ max b a = omega arith in
    let low : min a b ≡ min b a = omega arith in
    elim (cases_eq u (max a b)) [
      | inl e ↦ joined_high a b u e ∙ low ∙ sym (joined_high b a u (e ∙ high))
      | inr other ↦ joined_other a b u other ∙ sym (joined_other b a u (λ e. other (e ∙ sym high)))
    ]

-- labels that agree at both classes agree at a net and its class's name
label_low : (label : ℕ → ℕ) (a b : ℕ) → label a ≡ label b → label (min a b) ≡ label (max a b)
label_low label a b same = elim (cases_lt a b) [
  | inl less ↦
      let low : min a b ≡ a = omega (arith, less) in
      let high : b ≡ max a b = omega (arith, less) in
      ap label low ∙ same ∙ ap label high
  | inr more ↦
      let low : min a b ≡ b = omega (arith, more) in
      let high : a ≡ max a b = omega (arith, more) in
      ap label low ∙ sym same ∙ ap label high
]

label_joined : (label : ℕ → ℕ) (a b u : ℕ) → label a ≡ label b → label (joined a b u) ≡ label u
label_joined label a b u same = elim (cases_eq u (max a b)) [
  | inl e ↦ ap label (joined_high a b u e) ∙ label_low label a b same ∙ ap label (sym e)
  | inr other ↦ ap label (joined_other a b u other)
]

pub least_le : (fs : List Finger) (u : ℕ) → least_chained fs u ≤ u
least_le [] u = omega arith
least_le (f ∷ fs) u = omega (
  arith,
  least_le fs u,
  joined_le (least_chained fs f.lo.0) (least_chained fs f.hi.0)
      (least_chained fs u),
)

-- the names are such labels
pub least_labels : (fs : List Finger) → IsLabelling (least_chained fs) fs
least_labels [] = All-nil (λ (f : Finger). f.lo.0 ≡ f.hi.0)
least_labels (f ∷ fs) =
    let a : ℕ = least_chained fs f.lo.0 in
    let b : ℕ = least_chained fs f.hi.0 in
    All-cons (λ (g : Finger). joined a b (least_chained fs g.lo.0) ≡ joined a b (least_chained fs g.hi.0)) f fs
    (joined_a a b ∙ sym (joined_b a b))
    (All-weaker (λ (g : Finger). least_chained fs g.lo.0 ≡ least_chained fs g.hi.0)
    (λ (g : Finger). joined a b (least_chained fs g.lo.0) ≡ joined a b (least_chained fs g.hi.0))
    (λ g e. ap (joined a b) e) fs (least_labels fs))

-- a class's name is chained with its nets
pub least_is_chained : (fs : List Finger) (u : ℕ) → AreChained fs (least_chained fs u) u
least_is_chained [] u label h = refl
least_is_chained (f ∷ fs) u label h =
    let ends : label f.lo.0 ≡ label f.hi.0 = All-head (λ (g : Finger). label g.lo.0 ≡ label g.hi.0) f fs h in
    let rest : IsLabelling label fs = All-tail (λ (g : Finger). label g.lo.0 ≡ label g.hi.0) f fs h in
    let same : label (least_chained fs f.lo.0) ≡ label (least_chained fs f.hi.0) = least_is_chained fs f.lo.0 label rest
    ∙ ends ∙ sym (least_is_chained fs f.hi.0 label rest) in
    label_joined label (least_chained fs f.lo.0) (least_chained fs f.hi.0) (least_chained fs u) same
    ∙ least_is_chained fs u label rest

pub class_chained : (fs : List Finger) (u v : ℕ) → least_chained fs u ≡ least_chained fs v → AreChained fs u v
class_chained fs u v e label h = sym (least_is_chained fs u label h) ∙ ap label e ∙ least_is_chained fs v label h

pub chained_class : (fs : List Finger) (u v : ℕ) → AreChained fs u v → least_chained fs u ≡ least_chained fs v
chained_class fs u v h = h (least_chained fs) (least_labels fs)

pub least_is_least : (fs : List Finger) (u v : ℕ) → AreChained fs u v → least_chained fs u ≤ v
least_is_least fs u v h = omega (arith, chained_class fs u v h, least_le fs v)

-- fewer demands on the labels chain fewer nets
least_more : (xs ys : List Finger) → ((label : ℕ → ℕ) → IsLabelling label ys → IsLabelling label xs) → (u : ℕ)
    → least_chained ys u ≤ least_chained xs u
least_more xs ys also u =
    least_is_least ys u (least_chained xs u) (λ label h. sym (least_is_chained xs u label (also label h)))

-- the names depend on the fingers alone, and not on their order
pub least_permuted : (xs ys : List Finger) (u : ℕ) → IsPermutation xs ys → least_chained xs u ≡ least_chained ys u
least_permuted xs ys u h =
    let there : least_chained ys u ≤ least_chained xs u =
    least_more xs ys (λ label l. All-permutation (λ (f : Finger). label f.lo.0 ≡ label f.hi.0) ys xs
    (IsPermutation-sym xs ys h) l) u in
    let back : least_chained xs u ≤ least_chained ys u =
    least_more ys xs (λ label l. All-permutation (λ (f : Finger). label f.lo.0 ≡ label f.hi.0) xs ys h l) u in
    omega (arith, there, back)
