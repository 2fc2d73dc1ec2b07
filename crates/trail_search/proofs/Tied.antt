-- The units that were spent, and the lemmas that were added.
use Rattle.std.specs.Prelude.{ℕ, ◌≡◌, ◌+◌, ◌<◌, ◌≤◌, List, [], ◌∷◌, ◌++◌, Option, Some, None, drop, slice_get, sum_by}
use Rattle.std.proofs.Common.{refl, sym, ap, arith, ◌∙◌}
use Rattle.std.proofs.lemmas.List.Sums.{sum_by-cons, sum_by_push}
use Rattle.cell_num.specs.declared.finger.Fingers.{Fingers}
use Rattle.trail_state.specs.declared.level.Level.{Level}
use Rattle.trail_log.specs.declared.trails.TrailCertificate.{TrailCertificate}
use Rattle.trail_check.specs.declared.lemma.TrailLemma.{TrailLemma}
use Rattle.trail_check.specs.Leveled.{levels_for}
use Rattle.trail_check.specs.Listed.{lemmas_listed}
use Rattle.trail_search.specs.declared.kept.Kept.{Kept}
use Rattle.trail_search.specs.Proof.{AreSpent, lemma_units}
use Rattle.trail_search.specs.Search.{AreKept, AreTied}
use Rattle.trail_search.specs.Units.{level_units, path_units, units_at, units_of, visit_units}
use Rattle.trail_search.proofs.Ends.{level_at}

-- ---- units

units_some : (levels : List Level) (done : ℕ) (level : Level) → slice_get levels done ≡ Some level → units_at levels done ≡ level_units level
unfolding units_at
units_some levels done level at = ap visit_units at

units_leaf : (levels : List Level) (done : ℕ) → slice_get levels done ≡ None → units_at levels done ≡ 1
unfolding units_at
units_leaf levels done at = ap visit_units at

pub units_none : (levels : List Level) (lemmas : List TrailLemma) → lemmas ≡ [] → units_of levels lemmas ≡ 0
unfolding units_of
units_none levels lemmas none = ap (λ (ls : List TrailLemma). sum_by (λ (l : TrailLemma). units_at levels l.done) ls) none

pub units_more : (levels : List Level) (lemmas : List TrailLemma) (l : TrailLemma) → units_of levels (lemmas ++ l ∷ []) ≡ units_of levels lemmas + units_at levels l.done
unfolding units_of
units_more levels lemmas l = sum_by_push (λ (x : TrailLemma). units_at levels x.done) lemmas l

-- the path from a gate on
path_first : (level : Level) (levels : List Level) → path_units (level ∷ levels) ≡ level_units level + path_units levels
unfolding path_units
path_first level levels = sum_by-cons level_units level levels

pub path_next : (levels : List Level) (done : ℕ) (level : Level) → slice_get levels done ≡ Some level → path_units (drop done levels) ≡ units_at levels done + path_units (drop (done + 1) levels)
path_next levels done level at =
    ap path_units (level_at levels done level at) ∙ path_first level (drop (done + 1) levels) ∙ ap (λ (n : ℕ). n + path_units (drop (done + 1) levels)) (sym (units_some levels done level at))

-- too few units for a visit are within the path
within_path : (levels : List Level) (done left : ℕ) → left < units_at levels done → left ≤ path_units (drop done levels)
within_path levels done left few = by (slice_get levels done) refl
  where
    by : (o : Option Level) → slice_get levels done ≡ o → left ≤ path_units (drop done levels)
    by None at = omega (arith, few, units_leaf levels done at)
    by (Some level) at = omega (arith, few, path_next levels done level at)

-- ---- a visit

-- the rest was too little for it
pub tied_thrown : (levels : List Level) (kept : Kept) (done left left_after : ℕ) → left_after ≡ 0 → left < units_at levels done → AreTied levels kept kept left left_after (path_units (drop done levels))
tied_thrown levels kept done left left_after none few = record { few = omega (arith, none); many = omega (arith, none, within_path levels done left few) }

-- after the last gate
pub tied_leaf : (levels : List Level) (kept : Kept) (done left left_after others : ℕ) → slice_get levels done ≡ None → left_after + units_at levels done ≡ left → 1 ≤ others → AreTied levels kept kept left left_after others
tied_leaf levels kept done left left_after others at went some =
    let one : units_at levels done ≡ 1 = units_leaf levels done at in
    record { few = omega (arith, went); many = omega (arith, went, one, some) }

-- a visit of the path, and those after it
pub tied_behind : (levels : List Level) (a b c : Kept) (here left left_on left_after behind others : ℕ) → left_on + units_of levels b.lemmas + here ≡ left + units_of levels a.lemmas → AreTied levels b c left_on left_after behind → behind + here ≤ others → AreTied levels a c left left_after others
tied_behind levels a b c here left left_on left_after behind others went h more = record { few = omega (arith, went, h.few); many = omega (arith, went, h.many, more) }

-- a visit of the path, and one for each lemma so far
pub tied_still : (levels : List Level) (a b c : Kept) (here left left_on left_after : ℕ) → left_on + units_of levels b.lemmas + here ≡ left + units_of levels a.lemmas → AreTied levels b c left_on left_after 0 → left_after + units_of levels c.lemmas + here ≡ left + units_of levels a.lemmas
tied_still levels a b c here left left_on left_after went h = omega (arith, went, h.few, h.many)

-- the last one as well
pub tied_kept : (levels : List Level) (a b c : Kept) (here left left_after others : ℕ) → left_after + units_of levels b.lemmas + here ≡ left + units_of levels a.lemmas → units_of levels c.lemmas ≡ units_of levels b.lemmas + here → AreTied levels a c left left_after others
tied_kept levels a b c here left left_after others went one = record { few = omega (arith, went, one); many = omega (arith, went, one) }

-- ---- all limits

pub tied_exact : (levels : List Level) (a b : Kept) (left left_after others : ℕ) → left_after + units_of levels b.lemmas ≡ left + units_of levels a.lemmas → AreTied levels a b left left_after others
tied_exact levels a b left left_after others went = record { few = omega (arith, went); many = omega (arith, went) }

pub tied_then : (levels : List Level) (a b c : Kept) (left left_on left_after behind others : ℕ) → left_on + units_of levels b.lemmas ≡ left + units_of levels a.lemmas → AreTied levels b c left_on left_after behind → behind ≤ others → AreTied levels a c left left_after others
tied_then levels a b c left left_on left_after behind others went h more = record { few = omega (arith, went, h.few); many = omega (arith, went, h.many, more) }

-- the lines of a certificate list the lemmas
pub spent_is : (f : Fingers) (levels : List Level) (trails : TrailCertificate) (before after : Kept) (left left_after others most : ℕ) → levels ≡ levels_for f trails → AreKept levels after → trails.lemmas ≡ after.lines → before.lemmas ≡ [] → others ≡ most → AreTied levels before after left left_after others → AreSpent f left left_after most trails
spent_is f levels trails before after left left_after others most same h lines none few tied =
    let listed : lemmas_listed (levels_for f trails) trails.lemmas ≡ after.lemmas = ap (λ (ls : List Level). lemmas_listed ls trails.lemmas) (sym same) ∙ ap (lemmas_listed levels) lines ∙ h.listed in
    let told : lemma_units f trails ≡ units_of levels after.lemmas = ap (units_of (levels_for f trails)) listed ∙ ap (λ (ls : List Level). units_of ls after.lemmas) (sym same) in
    let first : units_of levels before.lemmas ≡ 0 = units_none levels before.lemmas none in
    record { few = omega (arith, told, first, tied.few); many = omega (arith, told, first, few, tied.many) }
