-- What is visited in a copy takes some room, and what is not visited draws nothing.
use Rattle.std.proofs.Common.{ℕ, zero, suc, ◌≡◌, ◌+◌, ◌<◌, ◌≤◌, nat_lt, arith, Bool, true, false, List, [], ◌∷◌, map, Option, Some, None, option_map, Result, Ok, Err, refl, sym, ap, ◌∙◌, inl, inr}
use Rattle.std.specs.List.{range_with_len}
use Rattle.std.proofs.lemmas.Bool.{cases_Bool, ltb-true, ltb-false}
use Rattle.box_geom.specs.declared.layer.Layer.{Layer}
use Rattle.box_geom.specs.declared.shape.Shape.{Shape}
use Rattle.box_geom.specs.Rectangle.{Rectangle}
use Rattle.gds_record.specs.declared.types.RecordType.TheVariants as record_type
use Rattle.gds_record.specs.Records.{Item}
use Rattle.gds_area.specs.declared.fault.GdsFault.{GdsFault}
use Rattle.gds_area.specs.declared.fault.GdsFault.TheVariants as fault
use Rattle.gds_area.specs.declared.area.Area.{Area}
use Rattle.gds_area.specs.declared.area.DrawContext.{DrawContext}
use Rattle.gds_area.specs.declared.path.Reach.{Reach}
use Rattle.gds_area.specs.declared.point.Point.{Point}
use Rattle.gds_area.specs.declared.progress.Progress.{Progress}
use Rattle.gds_area.specs.Points.{has_slant, closed}
use Rattle.gds_area.specs.EvenOdd.{inside_walk, boundary_rectangles}
use Rattle.gds_area.specs.Paths.{path_areas}
use Rattle.gds_area.specs.Areas.{area_of, has_some, shape_of, shapes_of}
use Rattle.gds_area.specs.Progress.{no_progress, rectangles, both, amount, within_limit, in_order}
use Rattle.gds_area.proofs.Counting.{within, beyond}
use Rattle.cell_num.specs.Steps.{◌>>=◌}
use Rattle.gds_read.specs.Elements.{layer_of, xy_place, boundary_areas, areas_along, path_areas_of, drawn_on}
use Rattle.gds_read.specs.Index.{has_areas, on_layer, covers}
use Rattle.gds_read.proofs.Drawings.{amount_both, taken_is}

-- ---- what an element covers, whatever the place of its points

pub slant_told : (at : ℕ) (points : List Point) → has_slant (closed points) ≡ true → true ≡ has_areas (boundary_areas at points)
unfolding boundary_areas
slant_told at points e = rw e refl

some_mapped : (rs : List Rectangle) → has_some (map area_of rs) ≡ has_some rs
some_mapped [] = refl
some_mapped (r ∷ rs) = refl

pub boundary_told : (at : ℕ) (points : List Point) (some : Bool) → has_slant (closed points) ≡ false → some ≡ has_some (inside_walk (closed points)) → some ≡ has_areas (boundary_areas at points)
unfolding boundary_areas
boundary_told at points some e is = rw e (is ∙ sym (some_mapped (boundary_rectangles points)))

pub slant_along : (at : ℕ) (reach : Reach) (points : List Point) → has_slant points ≡ true → true ≡ has_areas (areas_along at reach points)
unfolding areas_along
slant_along at reach points e = rw e refl

pub along_told : (at : ℕ) (reach : Reach) (points : List Point) (some : Bool) → has_slant points ≡ false → some ≡ has_some (path_areas reach.half reach.ends points) → some ≡ has_areas (areas_along at reach points)
unfolding areas_along
along_told at reach points some e is = rw e is

pub path_covered : (inside : List Item) (on : Layer) (some : Bool) → layer_of inside ≡ Some on → ((at : ℕ) → some ≡ has_areas (path_areas_of at inside)) → some ≡ covers record_type.Path inside
path_covered inside on some is told = told (xy_place inside) ∙ sym (ap (λ (o : Option Layer). on_layer o (has_areas (path_areas_of (xy_place inside) inside))) is)

-- ---- the limit

pub record IsLimited (count : ℕ) (one got : Progress) : Type 0 where
  pub is : got ≡ one
  pub few : count + amount got ≤ 1000000

pub limited : (at count : ℕ) (one got : Progress) → within_limit at count one ≡ Ok got → IsLimited count one got
limited at count one got e = elim (cases_Bool (nat_lt 1000000 (count + amount one))) [
  | inl many ↦ absurd (fails (sym (beyond at count one (let l = ltb-true 1000000 (count + amount one) many in omega (arith, l))) ∙ e))
  | inr less ↦
      let few : count + amount one ≤ 1000000 = let l = ltb-false 1000000 (count + amount one) less in omega (arith, l) in
      let is : got ≡ one = sym (taken_is one got (sym (within at count one few) ∙ e)) in
      record { is = is; few = let n = ap amount is in omega (arith, few, n) }
]
  where
    fails : ◌≡◌ {A = Result Progress GdsFault} (Err (fault.Wide at)) (Ok got) → ⊥
    fails q = absurd cc

-- ---- what a visit comes to

-- What is taken leaves no more than the limit, if there was no more before.
abbrev pub HasRoom : ℕ → Result Progress GdsFault → Type 0
HasRoom count x = (one : Progress) → count ≤ 1000000 → x ≡ Ok one → count + amount one ≤ 1000000

-- at least one rectangle or reference is taken
abbrev pub TakesSome : Result Progress GdsFault → Type 0
TakesSome x = (one : Progress) → x ≡ Ok one → 1 ≤ amount one

-- An element that is looked at or not: a copy takes no labels.
pub record IsVisit (labels looked : Bool) (count : ℕ) (x : Result Progress GdsFault) : Type 0 where
  pub room : HasRoom count x
  pub passed : looked ≡ false → count ≤ 1000000 → x ≡ Ok no_progress
  pub counted : labels ≡ false → looked ≡ true → TakesSome x

pub nothing : (labels : Bool) (count : ℕ) → IsVisit labels false count (Ok no_progress)
nothing labels count = record {
  room = λ one few e. let n = ap amount (taken_is no_progress one e) in omega (arith, few, n);
  passed = λ _ _. refl;
  counted = λ _ e one q. absurd cc;
}

-- ---- one after the other

then_room : (count : ℕ) (x : Result Progress GdsFault) (rest : ℕ → Result Progress GdsFault) → HasRoom count x → ((n : ℕ) → HasRoom n (rest n)) → HasRoom count (x >>= λ one. rest (count + amount one) >>= λ more. Ok (both one more))
then_room count (Err f) rest room rooms one few e = absurd cc
then_room count (Ok first) rest room rooms one few e = behind (rest (count + amount first)) (rooms (count + amount first)) e
  where
    behind : (y : Result Progress GdsFault) → HasRoom (count + amount first) y → (y >>= λ more. Ok (both first more)) ≡ Ok one → count + amount one ≤ 1000000
    behind (Err f) has q = absurd cc
    behind (Ok more) has q =
        let fit = has more (room first few refl) refl in
        let n = ap amount (taken_is (both first more) one q) in
        let m = amount_both first more in
        omega (arith, fit, n, m)

pub ordered_room : {A : Type 0} (step : ℕ → A → Result Progress GdsFault) → ((n : ℕ) (x : A) → HasRoom n (step n x)) → (xs : List A) (count : ℕ) → HasRoom count (in_order step count xs)
unfolding in_order
ordered_room step rooms [] count one few e = let n = ap amount (taken_is no_progress one e) in omega (arith, few, n)
ordered_room step rooms (x ∷ xs) count one few e = then_room count (step count x) (λ n. in_order step n xs) (rooms count x) (ordered_room step rooms xs) one few e

pub then_counts : (x : Result Progress GdsFault) (rest : Progress → Result Progress GdsFault) → TakesSome x → TakesSome (x >>= λ one. rest one >>= λ more. Ok (both one more))
then_counts (Err f) rest some one e = absurd cc
then_counts (Ok first) rest some one e = behind (rest first) e
  where
    behind : (y : Result Progress GdsFault) → (y >>= λ more. Ok (both first more)) ≡ Ok one → 1 ≤ amount one
    behind (Err f) q = absurd cc
    behind (Ok more) q =
        let here = some first refl in
        let n = ap amount (taken_is (both first more) one q) in
        let m = amount_both first more in
        omega (arith, here, n, m)

pub ordered_counts : (step : ℕ → ℕ → Result Progress GdsFault) → ((n x : ℕ) → TakesSome (step n x)) → (count most : ℕ) → 0 < most → TakesSome (in_order step count (range_with_len 0 most))
unfolding in_order
ordered_counts step some count zero less one e = absurd (omega (arith, less))
ordered_counts step some count (suc more) less one e = then_counts (step count 0) (λ first. in_order step (count + amount first) (range_with_len 1 more)) (some count 0) one e

-- ---- boundaries and paths

no_shape : (one : Progress) (f : GdsFault) → ◌≡◌ {A = Result Progress GdsFault} (Err f) (Ok one) → ⊥
no_shape one f e = absurd cc

put_down : (at count : ℕ) (x : Result (List Shape) GdsFault) → HasRoom count (x >>= λ rects. within_limit at count (rectangles rects))
put_down at count (Err f) one few e = absurd cc
put_down at count (Ok rects) one few e = (limited at count (rectangles rects) one e).few

some_put : (at count : ℕ) (x : Result Shape GdsFault) (y : Result (List Shape) GdsFault) → TakesSome (x >>= λ s. y >>= λ ss. Ok (s ∷ ss) >>= λ rects. within_limit at count (rectangles rects))
some_put at count (Err f) y one e = absurd cc
some_put at count (Ok s) (Err f) one e = absurd cc
some_put at count (Ok s) (Ok ss) one e = let n = ap amount (limited at count (rectangles (s ∷ ss)) one e).is in omega (arith, n)

pub drawn_visit : (labels : Bool) (at count : ℕ) (draw_context : Layer → DrawContext) (o : Option Layer) (areas : Result (List Area) GdsFault) → IsVisit labels (on_layer o (has_areas areas)) count (drawn_on at count (option_map draw_context o) areas)
drawn_visit labels at count draw_context None areas = nothing labels count
drawn_visit labels at count draw_context (Some on) (Err f) = record { room = λ one few e. absurd (no_shape one f e); passed = λ e. absurd cc; counted = λ _ _ one e. absurd (no_shape one f e) }
drawn_visit labels at count draw_context (Some on) (Ok []) = record {
  room = put_down at count (Ok []);
  passed = λ _ few. within at count (rectangles []) (omega (arith, few));
  counted = λ _ e. absurd cc;
}
drawn_visit labels at count draw_context (Some on) (Ok (a ∷ xs)) = record {
  room = put_down at count (shapes_of (draw_context on) (a ∷ xs));
  passed = λ e. absurd cc;
  counted = λ _ _ one e. some_put at count (shape_of (draw_context on) a) (shapes_of (draw_context on) xs) one (told (shape_of (draw_context on) a) (shapes_of (draw_context on) xs) ∙ e);
}
  where
    told : (x : Result Shape GdsFault) (y : Result (List Shape) GdsFault) → (x >>= λ s. y >>= λ ss. Ok (s ∷ ss) >>= λ rects. within_limit at count (rectangles rects)) ≡ ((x >>= λ s. y >>= λ ss. Ok (s ∷ ss)) >>= λ rects. within_limit at count (rectangles rects))
    told (Err f) y = refl
    told (Ok s) (Err f) = refl
    told (Ok s) (Ok ss) = refl
