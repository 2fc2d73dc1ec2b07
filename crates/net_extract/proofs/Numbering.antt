-- Numbers of pieces, one after the other.
use Rattle.std.proofs.Common.{◌≡◌, ℕ, zero, suc, ◌+◌, ◌<◌, ◌≤◌, ◌==◌, if◌then◌else◌, List, [], ◌∷◌, ◌++◌, map, length, get_or, slice_get, take, Some, Result, Ok, Err, OnOk, arith, add-one, refl, sym, subst, ap, ◌∙◌, inl, inr, append-nil}
use Rattle.std.specs.List.{Contains}
use Rattle.std.proofs.lemmas.List.{take_more, get_or_append_left}
use Rattle.std.proofs.Math.Seq.{get_or-append_seam}
use Rattle.std.proofs.lemmas.Bool.{cases_eq, eq-eqb, ne_eqb}
use Rattle.std.proofs.lemmas.List.Elements.{Contains-append_left, Contains-append_cases, Contains-push}
use Rattle.cell_num.proofs.Lists.{contains_none, contains_one}
use Rattle.number_trees.specs.Classes.{AreHeads}
use Rattle.net_extract.specs.Connections.{pieces_of, nets_of, blank, heads_below, AreNumbered}
use Rattle.net_extract.specs.declared.piece.Piece.{Piece}
use Rattle.net_extract.specs.declared.connections.Wire.{Wire}

pub map_push : {X Y : Type 0} (f : X → Y) (xs : List X) (x : X) → map f (xs ++ x ∷ []) ≡ map f xs ++ f x ∷ []
map_push f [] x = refl
map_push f (y ∷ ys) x = ap (λ z. f y ∷ z) (map_push f ys x)

map_length : {X Y : Type 0} (f : X → Y) (xs : List X) → length (map f xs) ≡ length xs
map_length f [] = refl
map_length f (y ∷ ys) = omega (arith, map_length f ys)

get_left : {X : Type 0} (xs ys : List X) (i : ℕ) (x : X) → slice_get xs i ≡ Some x → slice_get (xs ++ ys) i ≡ Some x
get_left [] ys i x e = absurd cc
get_left (z ∷ zs) ys zero x e = e
get_left (z ∷ zs) ys (suc i) x e = get_left zs ys i x e

get_end : {X : Type 0} (xs : List X) (x : X) → slice_get (xs ++ x ∷ []) (length xs) ≡ Some x
get_end [] x = refl
get_end (z ∷ zs) x = get_end zs x

take_length : {X : Type 0} (n : ℕ) (xs : List X) → n ≤ length xs → length (take n xs) ≡ n
take_length zero xs l = refl
take_length (suc n) [] l = absurd (omega arith)
take_length (suc n) (x ∷ xs) l = let r = take_length n xs (omega arith) in omega (arith, r)

-- as many wires as pieces
pub as_many : (ps : List Piece) (labels : List ℕ) (k : ℕ) (wires : List Wire) (firsts : List Piece) → k ≤ length ps → AreNumbered ps labels k wires firsts → length wires ≡ k
as_many ps labels k wires firsts l is = sym (map_length (λ (w : Wire). w.piece) wires) ∙ ap (λ z. length z) is.pieces ∙ take_length k ps l

pub heads_own : (ps : List Piece) (labels : List ℕ) (k : ℕ) → get_or labels k 0 ≡ k → heads_below ps labels (k + 1) ≡ heads_below ps labels k ++ get_or ps k blank ∷ []
heads_own ps labels k e = rw add-one (rw (eq-eqb (get_or labels k 0) k e) refl)

pub heads_other : (ps : List Piece) (labels : List ℕ) (k : ℕ) → (get_or labels k 0 ≡ k → ⊥) → heads_below ps labels (k + 1) ≡ heads_below ps labels k
heads_other ps labels k ne = rw add-one (rw (ne_eqb (get_or labels k 0) k ne) (append-nil (heads_below ps labels k)))

-- what one more piece is numbered
pub record IsNext (k : ℕ) (p : Piece) (label : ℕ) (wires : List Wire) (firsts more : List Piece) (n : ℕ) : Type 0 where
  pub first : label ≡ k → more ≡ firsts ++ p ∷ []
  pub new : label ≡ k → n ≡ length firsts
  pub later : label < k → more ≡ firsts
  pub old : label < k → n ≡ get_or (nets_of wires) label 0

pub none_numbered : (ps : List Piece) (labels : List ℕ) → AreNumbered ps labels 0 [] []
none_numbered ps labels = record { pieces = refl; heads = refl; numbers = λ i l. absurd (omega (arith, l)) }

pub more_numbered : (ps : List Piece) (labels : List ℕ) (k : ℕ) (wires made : List Wire) (firsts more : List Piece) (w : Wire) → k < length ps → AreHeads (length ps) labels → AreNumbered ps labels k wires firsts → w.piece ≡ get_or ps k blank → made ≡ wires ++ w ∷ [] → IsNext k (get_or ps k blank) (get_or labels k 0) wires firsts more w.net → AreNumbered ps labels (k + 1) made more
more_numbered ps labels k wires made firsts more w lk heads was piece e next =
    subst (λ z. AreNumbered ps labels (k + 1) z more) (sym e) (record { pieces = all; heads = tops; numbers = numbers })
  where
    all : pieces_of (wires ++ w ∷ []) ≡ take (k + 1) ps
    all = map_push (λ (z : Wire). z.piece) wires w ∙ ap (λ z. z ++ w.piece ∷ []) was.pieces ∙ ap (λ z. take k ps ++ z ∷ []) piece ∙ sym (take_more ps k blank lk)

    tops : more ≡ heads_below ps labels (k + 1)
    tops = elim (cases_eq (get_or labels k 0) k) [
      | inl own ↦ next.first own ∙ ap (λ z. z ++ get_or ps k blank ∷ []) was.heads ∙ sym (heads_own ps labels k own)
      | inr ne ↦ next.later (let low = heads.low k lk in omega (arith, low, ne)) ∙ was.heads ∙ sym (heads_other ps labels k ne)
    ]

    many : length (nets_of wires) ≡ k
    many = map_length (λ (z : Wire). z.net) wires ∙ as_many ps labels k wires firsts (omega (arith, lk)) was

    nets : nets_of (wires ++ w ∷ []) ≡ nets_of wires ++ w.net ∷ []
    nets = map_push (λ (z : Wire). z.net) wires w

    before : (i : ℕ) → i < k → get_or (nets_of (wires ++ w ∷ [])) i 0 ≡ get_or (nets_of wires) i 0
    before i l = ap (λ z. get_or z i 0) nets ∙ get_or_append_left (nets_of wires) (w.net ∷ []) 0 i (omega (arith, l, many))

    here : get_or (nets_of (wires ++ w ∷ [])) k 0 ≡ w.net
    here = ap (λ z. get_or z k 0) nets ∙ subst (λ z. get_or (nets_of wires ++ w.net ∷ []) z 0 ≡ w.net) many (get_or-append_seam (nets_of wires) w.net [] 0)

    kept : (i : ℕ) (p : Piece) → slice_get firsts i ≡ Some p → slice_get more i ≡ Some p
    kept i p g = elim (cases_eq (get_or labels k 0) k) [
      | inl own ↦ subst (λ z. slice_get z i ≡ Some p) (sym (next.first own)) (get_left firsts (get_or ps k blank ∷ []) i p g)
      | inr ne ↦ subst (λ z. slice_get z i ≡ Some p) (sym (next.later (let low = heads.low k lk in omega (arith, low, ne)))) g
    ]

    last : slice_get more w.net ≡ Some (get_or ps (get_or labels k 0) blank)
    last = elim (cases_eq (get_or labels k 0) k) [
      | inl own ↦ subst (λ z. slice_get more w.net ≡ Some (get_or ps z blank)) (sym own) (subst (λ z. slice_get more z ≡ Some (get_or ps k blank)) (sym (next.new own)) (subst (λ z. slice_get z (length firsts) ≡ Some (get_or ps k blank)) (sym (next.first own)) (get_end firsts (get_or ps k blank))))
      | inr ne ↦
          let less : get_or labels k 0 < k = (let low = heads.low k lk in omega (arith, low, ne)) in
          let it : slice_get firsts (get_or (nets_of wires) (get_or labels k 0) 0) ≡ Some (get_or ps (get_or labels (get_or labels k 0) 0) blank) = was.numbers (get_or labels k 0) less in
          kept w.net (get_or ps (get_or labels k 0) blank) (subst (λ z. slice_get firsts z ≡ Some (get_or ps (get_or labels k 0) blank)) (sym (next.old less)) (subst (λ z. slice_get firsts (get_or (nets_of wires) (get_or labels k 0) 0) ≡ Some (get_or ps z blank)) (heads.itself k lk) it))
    ]

    numbers : (i : ℕ) → i < k + 1 → slice_get more (get_or (nets_of (wires ++ w ∷ [])) i 0) ≡ Some (get_or ps (get_or labels i 0) blank)
    numbers i l = elim (cases_eq i k) [
      | inl e ↦ subst (λ z. slice_get more (get_or (nets_of (wires ++ w ∷ [])) z 0) ≡ Some (get_or ps (get_or labels z 0) blank)) (sym e) (subst (λ z. slice_get more z ≡ Some (get_or ps (get_or labels k 0) blank)) (sym here) last)
      | inr ne ↦ let less : i < k = omega (arith, l, ne) in subst (λ z. slice_get more z ≡ Some (get_or ps (get_or labels i 0) blank)) (sym (before i less)) (kept (get_or (nets_of wires) i 0) (get_or ps (get_or labels i 0) blank) (was.numbers i less))
    ]

-- ---- the first pieces of all classes
pub record IsHead (ps : List Piece) (labels : List ℕ) (k : ℕ) (p : Piece) : Type 0 where
  pub at : ℕ
  pub below : at < k
  pub own : get_or labels at 0 ≡ at
  pub is : get_or ps at blank ≡ p

pub head_of : (ps : List Piece) (labels : List ℕ) (k : ℕ) (p : Piece) → Contains (heads_below ps labels k) p → IsHead ps labels k p
head_of ps labels zero p c = absurd (contains_none p c)
head_of ps labels (suc k) p c =
    elim (cases_eq (get_or labels k 0) k) [
      | inl own ↦
          let d : Contains (heads_below ps labels k ++ get_or ps k blank ∷ []) p = subst (λ z. Contains z p) (heads_own ps labels k own) (rw add-one c) in
          elim (Contains-append_cases (heads_below ps labels k) (get_or ps k blank ∷ []) p d) [
            | inl old ↦ later (head_of ps labels k p old)
            | inr new ↦ record { at = k; below = omega arith; own = own; is = contains_one (get_or ps k blank) p new }
          ]
      | inr ne ↦ later (head_of ps labels k p (subst (λ z. Contains z p) (heads_other ps labels k ne) (rw add-one c)))
    ]
  where
    later : IsHead ps labels k p → IsHead ps labels (suc k) p
    later h = let l = h.below in record { at = h.at; below = omega (arith, l); own = h.own; is = h.is }

pub head_is : (ps : List Piece) (labels : List ℕ) (k i : ℕ) → i < k → get_or labels i 0 ≡ i → Contains (heads_below ps labels k) (get_or ps i blank)
head_is ps labels zero i l own = absurd (omega arith)
head_is ps labels (suc k) i l own =
    elim (cases_eq i k) [
      | inl e ↦ subst (λ z. Contains (heads_below ps labels (suc k)) (get_or ps z blank)) (sym e) (let mine : get_or labels k 0 ≡ k = subst (λ z. get_or labels z 0 ≡ z) e own in subst (λ z. Contains z (get_or ps k blank)) (sym (same_own mine)) (Contains-push (heads_below ps labels k) (get_or ps k blank)))
      | inr ne ↦ more (head_is ps labels k i (omega (arith, l, ne)) own)
    ]
  where
    same_own : get_or labels k 0 ≡ k → heads_below ps labels (suc k) ≡ heads_below ps labels k ++ get_or ps k blank ∷ []
    same_own e = rw (eq-eqb (get_or labels k 0) k e) refl

    more : Contains (heads_below ps labels k) (get_or ps i blank) → Contains (heads_below ps labels (suc k)) (get_or ps i blank)
    more c = Contains-append_left (heads_below ps labels k) (if get_or labels k 0 == k then get_or ps k blank ∷ [] else []) (get_or ps i blank) c

pub on_ok : {E : Type 0} {P Q : Type 0} (r : Result (Unit {0}) E) → OnOk r P → (P → Q) → OnOk r Q
on_ok (Ok u) p f = f p
on_ok (Err e) p f = tt
