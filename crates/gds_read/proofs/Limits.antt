-- What an element draws is kept up to the limit, and told where it goes beyond.
use Rattle.std.proofs.Common.{ℕ, ◌≡◌, ◌+◌, ◌-◌, ◌<◌, ◌≤◌, nat_lt, Option, Some, None, option_map, List, [], ◌∷◌, ◌++◌, length, Result, Ok, Err, refl, sym, subst, ap, ◌∙◌, arith, ◌⊎◌, inl, inr, append_assoc, append-nil}
use Rattle.std.proofs.lemmas.Bool.{cases_Bool, ltb-true, ltb-false}
use Rattle.std.proofs.Common.{length-append}
use Rattle.box_geom.specs.declared.shape.Shape.{Shape}
use Rattle.gds_area.specs.declared.fault.GdsFault.{GdsFault}
use Rattle.gds_area.specs.declared.fault.GdsFault.TheVariants as fault
use Rattle.gds_area.specs.declared.area.Area.{Area}
use Rattle.gds_area.specs.declared.area.DrawContext.{DrawContext}
use Rattle.box_geom.specs.declared.layer.Layer.{Layer}
use Rattle.gds_record.specs.Records.{Item}
use Rattle.gds_area.specs.declared.units.Grid.{Grid}
use Rattle.gds_area.specs.Points.{points_of}
use Rattle.gds_area.specs.Areas.{shape_of, shapes_of, with_kept, put, put_all, Puts}
use Rattle.gds_area.specs.declared.placement.Move.{Move}
use Rattle.gds_area.specs.declared.progress.Progress.{Progress}
use Rattle.gds_area.specs.Progress.{rectangles, both, amount, within_limit, Adds}
use Rattle.gds_read.specs.Elements.{layer_of, xy_place, xy_of, boundary_areas, path_areas_of, draw_context_of, draw_context_for, drawn_on}
use Rattle.gds_area.proofs.Counting.{within, beyond}
use Rattle.gds_area.proofs.Putting.{fault_of}
use Rattle.gds_read.proofs.Drawings.{adds_fault_of}
use Rattle.cell_num.specs.Steps.{◌>>=◌}

abbrev all_kept : List Shape → List Shape → List Shape
all_kept old [] = old
all_kept old (s ∷ ss) = all_kept (with_kept old s) ss

put_is : (draw_context : DrawContext) (old : List Shape) (xs : List Area) → put draw_context old xs ≡ (shapes_of draw_context xs >>= λ rects. Ok (all_kept old rects))
put_is draw_context old [] = refl
put_is draw_context old (a ∷ xs) = by (shape_of draw_context a) (λ s. put_is draw_context (with_kept old s) xs)
  where
    more : (s : Shape) (x : Result (List Shape) GdsFault) → (x >>= λ rects. Ok (all_kept (with_kept old s) rects)) ≡ ((x >>= λ ss. Ok (s ∷ ss)) >>= λ rects. Ok (all_kept old rects))
    more s (Ok ss) = refl
    more s (Err f) = refl

    by : (x : Result Shape GdsFault) → ((s : Shape) → put draw_context (with_kept old s) xs ≡ (shapes_of draw_context xs >>= λ rects. Ok (all_kept (with_kept old s) rects))) → (x >>= λ s. put draw_context (with_kept old s) xs) ≡ ((x >>= λ s. shapes_of draw_context xs >>= λ ss. Ok (s ∷ ss)) >>= λ rects. Ok (all_kept old rects))
    by (Ok s) rest = rest s ∙ more s (shapes_of draw_context xs)
    by (Err f) rest = refl

full : (old : List Shape) (s : Shape) → 1000000 < length old → with_kept old s ≡ old
unfolding with_kept
full old s h = elim (cases_Bool (nat_lt 1000000 (length old))) [
  | inl e ↦ rw e refl
  | inr e ↦ absurd (let l = ltb-false 1000000 (length old) e in omega (arith, h, l))
]

room : (old : List Shape) (s : Shape) → length old ≤ 1000000 → with_kept old s ≡ old ++ s ∷ []
unfolding with_kept
room old s h = elim (cases_Bool (nat_lt 1000000 (length old))) [
  | inl e ↦ absurd (let l = ltb-true 1000000 (length old) e in omega (arith, h, l))
  | inr e ↦ rw e refl
]

one_more : (old : List Shape) (s : Shape) → length (old ++ s ∷ []) ≡ length old + 1
one_more old s = length-append old (s ∷ [])

longer : (old rects : List Shape) → length old ≤ length (all_kept old rects)
longer old [] = omega arith
longer old (s ∷ ss) =
    elim (cases_Bool (nat_lt 1000000 (length old))) [
      | inl e ↦ let more = ltb-true 1000000 (length old) e in rw (full old s (omega (arith, more))) (longer old ss)
      | inr e ↦ let few = ltb-false 1000000 (length old) e in rw (room old s (omega (arith, few))) (let rest = longer (old ++ s ∷ []) ss in omega (arith, rest, one_more old s))
    ]

kept_few : (old rects : List Shape) → length old + length rects ≤ 1000000 → all_kept old rects ≡ old ++ rects
kept_few old [] h = sym (append-nil old)
kept_few old (s ∷ ss) h =
    ap (λ (t : List Shape). all_kept t ss) (room old s (omega (arith, h)))
    ∙ (kept_few (old ++ s ∷ []) ss (omega (arith, h, one_more old s)) ∙ append_assoc old (s ∷ []) ss)

kept_many : (old rects : List Shape) → 1000000 < length old + length rects → 1000000 < length (all_kept old rects)
kept_many old [] h = omega (arith, h)
kept_many old (s ∷ ss) h =
    elim (cases_Bool (nat_lt 1000000 (length old))) [
      | inl e ↦ let more = ltb-true 1000000 (length old) e in rw (full old s (omega (arith, more))) (let rest = longer old ss in omega (arith, rest, more))
      | inr e ↦ let few = ltb-false 1000000 (length old) e in rw (room old s (omega (arith, few))) (kept_many (old ++ s ∷ []) ss (omega (arith, h, one_more old s)))
    ]

-- what was drawn without a fault, and how many rectangles there are then
record IsKept (at count : ℕ) (draw_context : DrawContext) (old new : List Shape) (areas : Result (List Area) GdsFault) : Type 0 where
  rects : List Shape
  is : drawn_on at count (Some draw_context) areas ≡ within_limit at count (rectangles rects)
  kept : all_kept old rects ≡ new

ok_is : (a b : List Shape) → ◌≡◌ {A = Result (List Shape) GdsFault} (Ok a) (Ok b) → a ≡ b
ok_is a b e = cc

kept_by : (at count : ℕ) (draw_context : DrawContext) (old new : List Shape) (areas : Result (List Area) GdsFault) → (areas >>= put draw_context old) ≡ Ok new → IsKept at count draw_context old new areas
kept_by at count draw_context old new (Err f) e = absurd cc
kept_by at count draw_context old new (Ok xs) e = by (shapes_of draw_context xs) refl (sym (put_is draw_context old xs) ∙ e)
  where
    by : (x : Result (List Shape) GdsFault) → shapes_of draw_context xs ≡ x → (x >>= λ rects. Ok (all_kept old rects)) ≡ Ok new → IsKept at count draw_context old new (Ok xs)
    by (Err f) q p = absurd cc
    by (Ok rects) q p = record { rects = rects; is = ap (λ (x : Result (List Shape) GdsFault). x >>= λ rects. within_limit at count (rectangles rects)) q; kept = ok_is (all_kept old rects) new p }

abbrev with_rects : Progress → List Shape → Progress
with_rects old new = record { shapes = record { rects = new; labels = old.shapes.labels }; refs = old.refs }

-- what is taken after an element whose rectangles have room
pub adds_drawn : (at : ℕ) (draw_context : DrawContext) (old : Progress) (new : List Shape) (areas : Result (List Area) GdsFault) → (areas >>= put draw_context old.shapes.rects) ≡ Ok new → amount old ≤ 1000000 → length new ≤ 1000000 - old.refs → Adds (Ok tt) old (record { shapes = record { rects = new; labels = old.shapes.labels }; refs = old.refs }) (drawn_on at (amount old) (Some draw_context) areas)
adds_drawn at draw_context old new areas e start few =
    let k = kept_by at (amount old) draw_context old.shapes.rects new areas e in
    all k (elim (many_or_few k) [ inl many ↦ absurd (let m = kept_many old.shapes.rects k.rects many in let c = ap length k.kept in omega (arith, m, c, few)) | inr less ↦ less ])
  where
    many_or_few : (k : IsKept at (amount old) draw_context old.shapes.rects new areas) → (1000000 < length old.shapes.rects + length k.rects) ⊎ (length old.shapes.rects + length k.rects ≤ 1000000)
    many_or_few k = elim (cases_Bool (nat_lt 1000000 (length old.shapes.rects + length k.rects))) [
      | inl e ↦ inl (let l = ltb-true 1000000 (length old.shapes.rects + length k.rects) e in omega (arith, l))
      | inr e ↦ inr (let l = ltb-false 1000000 (length old.shapes.rects + length k.rects) e in omega (arith, l))
    ]

    same : (k : IsKept at (amount old) draw_context old.shapes.rects new areas) → old.shapes.rects ++ k.rects ≡ new → ◌≡◌ {A = Progress} (with_rects old new) (both old (rectangles k.rects))
    same k e = rw (e, append-nil old.shapes.labels, (let z : old.refs + 0 ≡ old.refs = omega arith in z)) refl

    all : (k : IsKept at (amount old) draw_context old.shapes.rects new areas) → length old.shapes.rects + length k.rects ≤ 1000000 → Adds (Ok tt) old (with_rects old new) (drawn_on at (amount old) (Some draw_context) areas)
    all k less =
        let whole : old.shapes.rects ++ k.rects ≡ new = sym (kept_few old.shapes.rects k.rects less) ∙ k.kept in
        let c = ap length whole in
        rw (k.is, within at (amount old) (rectangles k.rects) (omega (arith, few, start, c, length-append old.shapes.rects k.rects))) (same k whole)

pub is_wide : (at : ℕ) (draw_context : DrawContext) (old : Progress) (new : List Shape) (areas : Result (List Area) GdsFault) → (areas >>= put draw_context old.shapes.rects) ≡ Ok new → amount old ≤ 1000000 → 1000000 - old.refs < length new → drawn_on at (amount old) (Some draw_context) areas ≡ Err (fault.Wide at)
is_wide at draw_context old new areas e start many =
    let k = kept_by at (amount old) draw_context old.shapes.rects new areas e in
    k.is ∙ beyond at (amount old) (rectangles k.rects) (elim (cases_Bool (nat_lt 1000000 (length old.shapes.rects + length k.rects))) [
      | inl e ↦ let l = ltb-true 1000000 (length old.shapes.rects + length k.rects) e in omega (arith, l)
      | inr e ↦ let l = ltb-false 1000000 (length old.shapes.rects + length k.rects) e in let c = ap length (sym (kept_few old.shapes.rects k.rects l) ∙ k.kept) in omega (arith, l, c, many, start, length-append old.shapes.rects k.rects)
    ])

fault_is : (f g : GdsFault) → ◌≡◌ {A = Result (List Shape) GdsFault} (Err f) (Err g) → f ≡ g
fault_is f g e = cc

faulty : (at count : ℕ) (draw_context : DrawContext) (old : List Shape) (areas : Result (List Area) GdsFault) (f : GdsFault) → (areas >>= put draw_context old) ≡ Err f → drawn_on at count (Some draw_context) areas ≡ Err f
faulty at count draw_context old (Err g) f e = ap (λ (h : GdsFault). Err h) (fault_is g f e)
faulty at count draw_context old (Ok xs) f e = by (shapes_of draw_context xs) (sym (put_is draw_context old xs) ∙ e)
  where
    by : (x : Result (List Shape) GdsFault) → (x >>= λ rects. Ok (all_kept old rects)) ≡ Err f → (x >>= λ rects. within_limit at count (rectangles rects)) ≡ Err f
    by (Ok rects) p = absurd cc
    by (Err g) p = ap (λ (h : GdsFault). Err h) (fault_is g f p)

pub adds_fault : (at : ℕ) (draw_context : DrawContext) (old new : Progress) (last : List Shape) (areas : Result (List Area) GdsFault) (f : GdsFault) → Puts {A = Unit {0}} (Err f) last (areas >>= put draw_context old.shapes.rects) → Adds (Err f) old new (drawn_on at (amount old) (Some draw_context) areas)
adds_fault at draw_context old new last areas f puts = elim (fault_of f last (areas >>= put draw_context old.shapes.rects) puts) [
  | inl short ↦ adds_fault_of f old new (drawn_on at (amount old) (Some draw_context) areas) (inl short)
  | inr same ↦ adds_fault_of f old new (drawn_on at (amount old) (Some draw_context) areas) (inr (faulty at (amount old) draw_context old.shapes.rects areas f same))
]

pub ruleset limit_rules = (adds_drawn, is_wide, adds_fault)

-- ---- the faults of a boundary and of a path

draw_context_at : (grid : Grid) (stands : Move) (inside : List Item) (draw_context : DrawContext) → draw_context_for grid stands inside ≡ Some draw_context → draw_context.at ≡ xy_place inside
draw_context_at grid stands inside draw_context e = by (layer_of inside) e
  where
    some_is : (a b : DrawContext) → ◌≡◌ {A = Option DrawContext} (Some a) (Some b) → a ≡ b
    some_is a b q = cc

    by : (o : Option Layer) → option_map (draw_context_of grid stands inside) o ≡ Some draw_context → draw_context.at ≡ xy_place inside
    by None q = absurd cc
    by (Some on) q = ap (λ (p : DrawContext). p.at) (sym (some_is (draw_context_of grid stands inside on) draw_context q))

pub boundary_fault : (grid : Grid) (stands : Move) (at : ℕ) (inside : List Item) (draw_context : DrawContext) (old new : Progress) (last : List Shape) (xy : List ℕ) (f : GdsFault) → draw_context_for grid stands inside ≡ Some draw_context → xy ≡ xy_of inside → Puts {A = Unit {0}} (Err f) last (put_all draw_context old.shapes.rects (boundary_areas draw_context.at (points_of xy))) → Adds (Err f) old new (drawn_on at (amount old) (draw_context_for grid stands inside) (boundary_areas (xy_place inside) (points_of (xy_of inside))))
boundary_fault grid stands at inside draw_context old new last xy f told points puts =
    subst (λ (o : Option DrawContext). Adds (Err f) old new (drawn_on at (amount old) o (boundary_areas (xy_place inside) (points_of (xy_of inside))))) (sym told)
    (adds_fault at draw_context old new last (boundary_areas (xy_place inside) (points_of (xy_of inside))) f
    (subst (λ (t : List ℕ). Puts {A = Unit {0}} (Err f) last (put_all draw_context old.shapes.rects (boundary_areas (xy_place inside) (points_of t)))) points
    (subst (λ (n : ℕ). Puts {A = Unit {0}} (Err f) last (put_all draw_context old.shapes.rects (boundary_areas n (points_of xy)))) (draw_context_at grid stands inside draw_context told) puts)))

pub path_fault : (grid : Grid) (stands : Move) (at : ℕ) (inside : List Item) (draw_context : DrawContext) (old new : Progress) (last : List Shape) (f : GdsFault) → draw_context_for grid stands inside ≡ Some draw_context → Puts {A = Unit {0}} (Err f) last (put_all draw_context old.shapes.rects (path_areas_of draw_context.at inside)) → Adds (Err f) old new (drawn_on at (amount old) (draw_context_for grid stands inside) (path_areas_of (xy_place inside) inside))
path_fault grid stands at inside draw_context old new last f told puts =
    subst (λ (o : Option DrawContext). Adds (Err f) old new (drawn_on at (amount old) o (path_areas_of (xy_place inside) inside))) (sym told)
    (adds_fault at draw_context old new last (path_areas_of (xy_place inside) inside) f
    (subst (λ (n : ℕ). Puts {A = Unit {0}} (Err f) last (put_all draw_context old.shapes.rects (path_areas_of n inside))) (draw_context_at grid stands inside draw_context told) puts))
