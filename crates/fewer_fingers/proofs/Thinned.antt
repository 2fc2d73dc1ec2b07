-- Columns without the fingers that are left out: which fingers stand in them, and their gaps.
use Rattle.std.proofs.Common.{ℕ, ◌≡◌, ◌≤◌, Bool, true, false, not, if◌then◌else◌, cond, List, [], ◌∷◌}
use Rattle.std.proofs.Common.{Option, Some, None, option_map, map, refl, sym, ap, arith, ◌∙◌, inl, inr, ◌⊎◌}
use Rattle.std.specs.List.{cons_option}
use Rattle.std.proofs.lemmas.Bool.{both_ways, cases_Bool, or_cases, or_left, or_right}
use Rattle.cell_num.specs.declared.finger.Row.{Row}
use Rattle.cell_num.specs.declared.finger.Row.TheVariants.{P, N}
use Rattle.cell_num.specs.declared.finger.Finger.{Finger}
use Rattle.row_model.specs.declared.column.Placed.{Placed}
use Rattle.row_model.specs.declared.column.Column.{Column}
use Rattle.row_model.specs.Arrangement.{fingers_in, place}
use Rattle.row_model.specs.Gaps.{facing_differs, gaps_of, is_gap}
use Rattle.trail_state.proofs.Members.{filter_off, filter_on}
use Rattle.fewer_fingers.specs.declared.fewer.LeftOut.{LeftOut}
use Rattle.fewer_fingers.specs.Fewer.{is_out, staying_in}
use Rattle.fewer_fingers.proofs.Dropped.{gaps_more}

-- the finger is not left out
abbrev pub stays : LeftOut → Finger → Bool
stays out x = not (is_out out x.gate.0)

-- a place without its finger, where this is left out
abbrev pub thin : LeftOut → Option Placed → Option Placed
thin out None = None
thin out (Some x) = if is_out out x.finger.gate.0 then None else Some x

-- a column without its finger of the row, where this is left out
abbrev pub thinned : Row → LeftOut → Column → Column
thinned P out c = record { p = thin out c.p; n = c.n }
thinned N out c = record { p = c.p; n = thin out c.n }

pub thin_gone : (out : LeftOut) (x : Placed) → is_out out x.finger.gate.0 ≡ true → thin out (Some x) ≡ None
thin_gone out x e = rw e refl

pub thin_here : (out : LeftOut) (x : Placed) → is_out out x.finger.gate.0 ≡ false → thin out (Some x) ≡ Some x
thin_here out x e = rw e refl

-- a place is empty or as before
pub thin_is : (out : LeftOut) (o : Option Placed) → (thin out o ≡ None) ⊎ (thin out o ≡ o)
thin_is out None = inl refl
thin_is out (Some x) = elim (cases_Bool (is_out out x.finger.gate.0)) [
  | inl gone ↦ inl (thin_gone out x gone)
  | inr here ↦ inr (thin_here out x here)
]

-- the fingers of the row are those that stay
thin_first : (out : LeftOut) (o : Option Placed) (fs : List Finger)
    → cons_option (option_map (λ (x : Placed). x.finger) (thin out o)) (staying_in out fs)
    ≡ staying_in out (cons_option (option_map (λ (x : Placed). x.finger) o) fs)
thin_first out None fs = refl
thin_first out (Some x) fs =
    elim (cases_Bool (is_out out x.finger.gate.0)) [
      | inl gone ↦
          ap (λ o. cons_option (option_map (λ (y : Placed). y.finger) o) (staying_in out fs)) (thin_gone out x gone)
          ∙ sym (filter_off (stays out) x.finger fs (ap not gone))
      | inr here ↦
          ap (λ o. cons_option (option_map (λ (y : Placed). y.finger) o) (staying_in out fs)) (thin_here out x here)
          ∙ sym (filter_on (stays out) x.finger fs (ap not here))
    ]

-- A column's place of the row is thinned, and that of the other row is as before.
thinned_at : (r : Row) (out : LeftOut) (c : Column) → place r (thinned r out c) ≡ thin out (place r c)
thinned_at P out c = refl
thinned_at N out c = refl

abbrev pub other : Row → Row
other P = N
other N = P

thinned_beside : (r : Row) (out : LeftOut) (c : Column) → place (other r) (thinned r out c) ≡ place (other r) c
thinned_beside P out c = refl
thinned_beside N out c = refl

abbrev add_finger : List Finger → Option Placed → List Finger
add_finger fs o = cons_option (option_map (λ (x : Placed). x.finger) o) fs

pub fingers_thinned : (r : Row) (out : LeftOut) (cs : List Column) → fingers_in r (map (thinned r out) cs)
    ≡ staying_in out (fingers_in r cs)
fingers_thinned r out [] = refl
fingers_thinned r out (c ∷ cs) =
    ap (λ fs. add_finger fs (place r (thinned r out c))) (fingers_thinned r out cs)
    ∙ ap (add_finger (staying_in out (fingers_in r cs))) (thinned_at r out c)
    ∙ thin_first out (place r c) (fingers_in r cs)

pub fingers_beside : (r : Row) (out : LeftOut) (cs : List Column) → fingers_in (other r) (map (thinned r out) cs)
    ≡ fingers_in (other r) cs
fingers_beside r out [] = refl
fingers_beside r out (c ∷ cs) =
    ap (λ fs. add_finger fs (place (other r) (thinned r out c))) (fingers_beside r out cs)
    ∙ ap (add_finger (fingers_in (other r) cs)) (thinned_beside r out c)

none_before : (b : Option Placed) → facing_differs None b ≡ false
none_before None = refl
none_before (Some y) = refl

none_behind : (a : Option Placed) → facing_differs a None ≡ false
none_behind None = refl
none_behind (Some x) = refl

-- nets that face each other faced each other before
differed : (out : LeftOut) (a b : Option Placed) → facing_differs (thin out a) (thin out b) ≡ true → facing_differs a b
    ≡ true
differed out a b e = elim (thin_is out a) [
  | inl gone ↦ absurd (both_ways (facing_differs (thin out a) (thin out b))
      (ap (λ o. facing_differs o (thin out b)) gone ∙ none_before (thin out b)) e)
  | inr first ↦ elim (thin_is out b) [
    | inl gone ↦ absurd (both_ways (facing_differs (thin out a) (thin out b)) (ap (facing_differs (thin out a)) gone
        ∙ none_behind (thin out a)) e)
    | inr second ↦ sym (ap (λ o. facing_differs o (thin out b)) first ∙ ap (facing_differs a) second) ∙ e
  ]
]

was_gap : (r : Row) (out : LeftOut) (c d : Column) → is_gap (thinned r out c, thinned r out d) ≡ true → is_gap (c, d)
    ≡ true
was_gap P out c d e = elim (or_cases (facing_differs (thin out c.p) (thin out d.p)) (facing_differs c.n d.n) e) [
  | inl p ↦ or_left (facing_differs c.p d.p) (facing_differs c.n d.n) (differed out c.p d.p p)
  | inr n ↦ or_right (facing_differs c.p d.p) (facing_differs c.n d.n) n
]
was_gap N out c d e = elim (or_cases (facing_differs c.p d.p) (facing_differs (thin out c.n) (thin out d.n)) e) [
  | inl p ↦ or_left (facing_differs c.p d.p) (facing_differs c.n d.n) p
  | inr n ↦ or_right (facing_differs c.p d.p) (facing_differs c.n d.n) (differed out c.n d.n n)
]

bit_le : (a b : Bool) → (a ≡ true → b ≡ true) → cond a 1 0 ≤ cond b 1 0
bit_le true b then' = let e : ◌≡◌ {A = ℕ} (cond b 1 0) 1 = rw (then' refl) refl in omega (arith, e)
bit_le false true then' = omega arith
bit_le false false then' = omega arith

-- columns without what is left out have no more gaps
pub fewer_of : (r : Row) (out : LeftOut) (cs : List Column) → gaps_of (map (thinned r out) cs) ≤ gaps_of cs
fewer_of r out [] = omega arith
fewer_of r out (c ∷ []) = omega arith
fewer_of r out (c ∷ d ∷ ds) =
    omega (
      arith,
      fewer_of r out (d ∷ ds),
      gaps_more (thinned r out c) (thinned r out d) (map (thinned r out) ds),
      gaps_more c d ds,
      bit_le (is_gap (thinned r out c, thinned r out d)) (is_gap (c, d)) (was_gap r out c d),
    )
