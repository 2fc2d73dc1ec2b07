-- References, and the structures that they draw.
use Rattle.std.proofs.Common.{ℕ, zero, suc, ◌≡◌, ◌+◌, ◌-◌, ◌<◌, ◌≤◌, nat_lt, arith, List, Option, Some, None, Result, Ok, Err, refl, sym, subst, ap, ◌∙◌, append_assoc, inl, inr}
use Rattle.std.proofs.lemmas.Bool.{cases_Bool, ltb-true, ltb-false}
use Rattle.gds_record.specs.declared.record.GdsRec.{GdsRec}
use Rattle.gds_record.specs.declared.types.RecordType.{RecordType}
use Rattle.gds_record.specs.declared.types.RecordType.TheVariants as record_type
use Rattle.std.proofs.lemmas.Int.{ints}
use Rattle.gds_record.specs.Records.{Item, items_from}
use Rattle.gds_area.specs.declared.fault.GdsFault.{GdsFault}
use Rattle.gds_area.specs.declared.fault.GdsFault.TheVariants as fault
use Rattle.gds_area.specs.declared.units.Grid.{Grid}
use Rattle.gds_read.specs.declared.reference.Array.{Array}
use Rattle.gds_area.specs.declared.progress.Progress.{Progress}
use Rattle.gds_area.specs.declared.progress.Origin.{Origin}
use Rattle.gds_area.specs.declared.progress.Context.{Context}
use Rattle.gds_read.specs.declared.reference.Copies.{Copies}
use Rattle.cell_num.specs.Steps.{◌>>=◌, or_fault}
use Rattle.gds_area.specs.Moves.{IsNear}
use Rattle.gds_area.specs.Progress.{one_reference, no_progress, both, amount, within_limit, Adds, origin_of}
use Rattle.gds_read.specs.References.{target_in, array_of, Targets}
use Rattle.gds_read.specs.Elements.{inside_of, element_of, elements_of}
use Rattle.gds_read.specs.Flat.{file_of, flat, copies_of, copies_in, referred_in, drawn_in, drawn_from, text_by, element_in, flat_in, IsContext}
use Rattle.gds_read.proofs.Drawings.{with_front, front_nothing, amount_both, fault_kept}
use Rattle.gds_area.proofs.Counting.{within, beyond}
use Rattle.std.specs.List.{range_with_len}
use Rattle.gds_area.specs.declared.placement.Move.{Move}
use Rattle.gds_area.specs.Moves.{composed}
use Rattle.gds_read.specs.References.{copy_at}
use Rattle.gds_area.specs.Progress.{in_order}
use Rattle.gds_read.specs.Flat.{row_in}
use Rattle.gds_read.proofs.Drawings.{numbers_more, numbers_done, numbers_stop}

-- ---- a copy

pub deep_copy : (bytes : List ℕ) (grid : Grid) (origin : Origin) (count place : ℕ) → flat_in bytes grid 0 origin count place ≡ Err (fault.Deep origin.outer)
unfolding flat
deep_copy bytes grid origin count place = refl

abbrev pub context_inside : Grid → ℕ → Origin → Context
context_inside grid levels origin = record { grid = grid; origin = Some origin; levels = levels - 1 }

then_level : (bytes : List ℕ) (grid : Grid) (levels : ℕ) (origin : Origin) (count place : ℕ) → (levels ≡ 0 → ⊥) → flat_in bytes grid levels origin count place ≡ (within_limit origin.outer count one_reference >>= λ one. drawn_in bytes (context_inside grid levels origin) (count + 1) (elements_of (items_from bytes place)) >>= λ rest. Ok (both one rest))
unfolding flat
then_level bytes grid zero origin count place some = absurd (some refl)
then_level bytes grid (suc levels) origin count place some = ap (λ (n : ℕ). within_limit origin.outer count one_reference >>= λ one. drawn_in bytes (record { grid = grid; origin = Some origin; levels = n }) (count + 1) (elements_of (items_from bytes place)) >>= λ rest. Ok (both one rest)) (let e : levels ≡ suc levels - 1 = omega arith in e)

pub wide_copy : (bytes : List ℕ) (grid : Grid) (levels : ℕ) (origin : Origin) (place : ℕ) (old new last : Progress) (f : GdsFault) → (levels ≡ 0 → ⊥) → Adds (Err f) old new (within_limit origin.outer (amount old) one_reference) → Adds (Err f) old last (flat_in bytes grid levels origin (amount old) place)
wide_copy bytes grid levels origin place old new last f some adds =
    fault_kept f old new old last (within_limit origin.outer (amount old) one_reference) (flat_in bytes grid levels origin (amount old) place) adds (λ e.
    then_level bytes grid levels origin (amount old) place some ∙ ap (λ (x : Result Progress GdsFault). x >>= λ one. drawn_in bytes (context_inside grid levels origin) (amount old + 1) (elements_of (items_from bytes place)) >>= λ rest. Ok (both one rest)) e)

both_assoc : (old one rest : Progress) → both (both old one) rest ≡ both old (both one rest)
both_assoc old one rest = rw (append_assoc old.shapes.rects one.shapes.rects rest.shapes.rects, append_assoc old.shapes.labels one.shapes.labels rest.shapes.labels, (let e : old.refs + one.refs + rest.refs ≡ old.refs + (one.refs + rest.refs) = omega arith in e)) refl

behind_one : (old mid new : Progress) (result : Result (Unit {0}) GdsFault) (one read : Result Progress GdsFault) → Adds (Ok tt) old mid one → Adds result mid new read → Adds result old new (one >>= λ first. read >>= λ rest. Ok (both first rest))
behind_one old mid new result (Err f) read adds more = absurd adds
behind_one old mid new (Ok tt) (Ok one) (Ok rest) adds more = more ∙ (ap (λ (t : Progress). both t rest) adds ∙ both_assoc old one rest)
behind_one old mid new (Ok tt) (Ok one) (Err f) adds more = absurd more
behind_one old mid new (Err f) (Ok one) read adds more = fault_kept f mid new old new read (read >>= λ rest. Ok (both one rest)) more (λ e. ap (λ (x : Result Progress GdsFault). x >>= λ rest. Ok (both one rest)) e)

counted_amount : (outer : ℕ) (old mid : Progress) → Adds (Ok tt) old mid (within_limit outer (amount old) one_reference) → amount mid ≡ amount old + 1
counted_amount outer old mid adds = elim (cases_Bool (nat_lt 1000000 (amount old + amount one_reference))) [
  | inl many ↦ absurd (subst (λ (x : Result Progress GdsFault). Adds (Ok tt) old mid x) (beyond outer (amount old) one_reference (let l = ltb-true 1000000 (amount old + amount one_reference) many in omega (arith, l))) adds)
  | inr few ↦ let e : mid ≡ both old one_reference = subst (λ (x : Result Progress GdsFault). Adds (Ok tt) old mid x) (within outer (amount old) one_reference (let l = ltb-false 1000000 (amount old + amount one_reference) few in omega (arith, l))) adds in let n = ap amount e in let m = amount_both old one_reference in omega (arith, n, m)
]

pub counted_room : (outer : ℕ) (old mid : Progress) → Adds (Ok tt) old mid (within_limit outer (amount old) one_reference) → amount mid ≤ 1000000
counted_room outer old mid adds = elim (cases_Bool (nat_lt 1000000 (amount old + amount one_reference))) [
  | inl many ↦ absurd (subst (λ (x : Result Progress GdsFault). Adds (Ok tt) old mid x) (beyond outer (amount old) one_reference (let l = ltb-true 1000000 (amount old + amount one_reference) many in omega (arith, l))) adds)
  | inr few ↦ let n = counted_amount outer old mid adds in let l = ltb-false 1000000 (amount old + amount one_reference) few in omega (arith, n, l)
]

pub copied : (bytes : List ℕ) (grid : Grid) (levels : ℕ) (origin : Origin) (place : ℕ) (old mid new : Progress) (result : Result (Unit {0}) GdsFault) → (levels ≡ 0 → ⊥) → Adds (Ok tt) old mid (within_limit origin.outer (amount old) one_reference) → Adds result mid new (drawn_in bytes (context_inside grid levels origin) (amount mid) (elements_of (items_from bytes place))) → Adds result old new (flat_in bytes grid levels origin (amount old) place)
copied bytes grid levels origin place old mid new result some adds more =
    subst (λ (x : Result Progress GdsFault). Adds result old new x) (sym (then_level bytes grid levels origin (amount old) place some))
    (behind_one old mid new result (within_limit origin.outer (amount old) one_reference) (drawn_in bytes (context_inside grid levels origin) (amount old + 1) (elements_of (items_from bytes place))) adds
    (subst (λ (n : ℕ). Adds result mid new (drawn_in bytes (context_inside grid levels origin) n (elements_of (items_from bytes place)))) (counted_amount origin.outer old mid adds) more))

-- ---- a reference

pub no_target : (bytes : List ℕ) (context : Context) (count : ℕ) (r : GdsRec) (kind : RecordType) → Targets bytes None (target_in (items_from bytes 0) (inside_of bytes r)) → referred_in bytes context count r kind ≡ Err (fault.Reference r.at)
no_target bytes context count r kind t = go (target_in (items_from bytes 0) (inside_of bytes r)) t
  where
    go : (o : Option (List Item)) → Targets bytes None o → (or_fault o (fault.Reference r.at) >>= λ target. or_fault (array_of kind (inside_of bytes r)) (fault.Reference r.at) >>= λ array. copies_of (flat context.levels (file_of context.grid bytes)) (origin_of context.origin r.at) (elements_of target) array count) ≡ Err (fault.Reference r.at)
    go None t = refl
    go (Some one) t = absurd t

there : (bytes : List ℕ) (place : ℕ) (o : Option (List Item)) → Targets bytes (Some place) o → o ≡ Some (items_from bytes place)
there bytes place None t = absurd t
there bytes place (Some one) t = ap (λ (x : List Item). Some x) t.0

with_target : (bytes : List ℕ) (context : Context) (count place : ℕ) (r : GdsRec) (kind : RecordType) → Targets bytes (Some place) (target_in (items_from bytes 0) (inside_of bytes r)) → referred_in bytes context count r kind ≡ (or_fault (array_of kind (inside_of bytes r)) (fault.Reference r.at) >>= λ array. copies_of (flat context.levels (file_of context.grid bytes)) (origin_of context.origin r.at) (elements_of (items_from bytes place)) array count)
with_target bytes context count place r kind t = ap (λ (o : Option (List Item)). or_fault o (fault.Reference r.at) >>= λ target. or_fault (array_of kind (inside_of bytes r)) (fault.Reference r.at) >>= λ array. copies_of (flat context.levels (file_of context.grid bytes)) (origin_of context.origin r.at) (elements_of target) array count) (there bytes place (target_in (items_from bytes 0) (inside_of bytes r)) t)

pub no_array : (bytes : List ℕ) (context : Context) (count place : ℕ) (r : GdsRec) (kind : RecordType) → Targets bytes (Some place) (target_in (items_from bytes 0) (inside_of bytes r)) → array_of kind (inside_of bytes r) ≡ None → referred_in bytes context count r kind ≡ Err (fault.Reference r.at)
no_array bytes context count place r kind t none = with_target bytes context count place r kind t ∙ ap (λ (o : Option Array). or_fault o (fault.Reference r.at) >>= λ array. copies_of (flat context.levels (file_of context.grid bytes)) (origin_of context.origin r.at) (elements_of (items_from bytes place)) array count) none

pub with_copies : (bytes : List ℕ) (context : Context) (place : ℕ) (array : Array) (origin : Origin) (r : GdsRec) (kind : RecordType) (result : Result (Unit {0}) GdsFault) (old new : Progress) → origin ≡ origin_of context.origin r.at → Targets bytes (Some place) (target_in (items_from bytes 0) (inside_of bytes r)) → array_of kind (inside_of bytes r) ≡ Some array → Adds result old new (copies_in bytes context origin (record { place = place; array = array }) (amount old)) → Adds result old new (referred_in bytes context (amount old) r kind)
with_copies bytes context place array origin r kind result old new here t is adds =
    subst (λ (x : Result Progress GdsFault). Adds result old new x) (sym (with_target bytes context (amount old) place r kind t ∙ ap (λ (o : Option Array). or_fault o (fault.Reference r.at) >>= λ array. copies_of (flat context.levels (file_of context.grid bytes)) (origin_of context.origin r.at) (elements_of (items_from bytes place)) array (amount old)) is)) (subst (λ (a : Origin). Adds result old new (copies_in bytes context a (record { place = place; array = array }) (amount old))) here adds)

near_at : (context : Context) (at : ℕ) → IsContext context → IsNear (16 - context.levels) (origin_of context.origin at).stands
near_at context at is = go context.origin is.near
  where
    go : (o : Option Origin) → IsNear (16 - context.levels) (origin_of o 0).stands → IsNear (16 - context.levels) (origin_of o at).stands
    go None near = near
    go (Some origin) near = near

pub near_origin : (context : Context) (at : ℕ) (origin : Origin) → origin ≡ origin_of context.origin at → IsContext context → IsNear (16 - context.levels) origin.stands
near_origin context at origin is framed = subst (λ (a : Origin). IsNear (16 - context.levels) a.stands) (sym is) (near_at context at framed)

pub own_context : (grid : Grid) → 1 ≤ grid.lambda_nm → grid.picometres ≤ 1000000000000000000 → IsContext (record { grid = grid; origin = None; levels = 16 })
own_context grid some few = record { lambda = some; unit = few; levels = omega arith; near = record { left = omega (arith, ints); right = omega (arith, ints); low = omega (arith, ints); high = omega (arith, ints) } }

pub inner_context : (grid : Grid) (levels : ℕ) (origin : Origin) → 1 ≤ grid.lambda_nm → grid.picometres ≤ 1000000000000000000 → levels ≤ 16 → (levels ≡ 0 → ⊥) → IsNear (17 - levels) origin.stands → IsContext (record { grid = grid; origin = Some origin; levels = levels - 1 })
inner_context grid zero origin some few most not_none near = absurd (not_none refl)
inner_context grid (suc levels) origin some few most not_none near =
    let e : 17 - suc levels ≡ 16 - (suc levels - 1) = omega (arith, most) in
    record { lambda = some; unit = few; levels = omega (arith, most); near = subst (λ (n : ℕ). IsNear n origin.stands) e near }

pub ruleset copy_rules = (deep_copy, wide_copy, inner_context)

pub ruleset reference_rules = (no_target, no_array, with_copies, near_origin)

-- ---- the kinds of elements

pub same_taken : (old : Progress) → old ≡ both old no_progress
same_taken old = sym (front_nothing old)

pub boundary_drawn : (bytes : List ℕ) (context : Context) (r : GdsRec) (origin : Origin) (result : Result (Unit {0}) GdsFault) (old new : Progress) → origin ≡ origin_of context.origin r.at → Adds result old new (drawn_from context.grid origin (amount old) (inside_of bytes r) record_type.Boundary) → Adds result old new (element_in bytes context (amount old) (element_of bytes r record_type.Boundary) record_type.Boundary)
boundary_drawn bytes context r origin result old new is adds = subst (λ (a : Origin). Adds result old new (drawn_from context.grid a (amount old) (inside_of bytes r) record_type.Boundary)) is adds

pub path_drawn : (bytes : List ℕ) (context : Context) (r : GdsRec) (origin : Origin) (result : Result (Unit {0}) GdsFault) (old new : Progress) → origin ≡ origin_of context.origin r.at → Adds result old new (drawn_from context.grid origin (amount old) (inside_of bytes r) record_type.Path) → Adds result old new (element_in bytes context (amount old) (element_of bytes r record_type.Path) record_type.Path)
path_drawn bytes context r origin result old new is adds = subst (λ (a : Origin). Adds result old new (drawn_from context.grid a (amount old) (inside_of bytes r) record_type.Path)) is adds

pub text_drawn : (bytes : List ℕ) (context : Context) (r : GdsRec) (result : Result (Unit {0}) GdsFault) (old new : Progress) → context.origin ≡ None → Adds result old new (text_by context.grid None (element_of bytes r record_type.Text)) → Adds result old new (element_in bytes context (amount old) (element_of bytes r record_type.Text) record_type.Text)
text_drawn bytes context r result old new is adds = subst (λ (o : Option Origin). Adds result old new (text_by context.grid o (element_of bytes r record_type.Text))) (sym is) adds

pub text_passed : (bytes : List ℕ) (context : Context) (r : GdsRec) (origin : Origin) (old : Progress) → context.origin ≡ Some origin → Adds (Ok tt) old old (element_in bytes context (amount old) (element_of bytes r record_type.Text) record_type.Text)
text_passed bytes context r origin old is = subst (λ (o : Option Origin). Adds (Ok tt) old old (text_by context.grid o (element_of bytes r record_type.Text))) (sym is) (same_taken old)

pub ruleset kind_rules = (same_taken, boundary_drawn, path_drawn, text_drawn, text_passed)

-- ---- the copies of a row, and the rows

-- the copy at a column and a row
abbrev copy_in : List ℕ → Context → Origin → Copies → ℕ → ℕ → ℕ → Result Progress GdsFault
copy_in bytes context origin copies row count column = flat_in bytes context.grid context.levels (record { stands = composed origin.stands (copy_at copies.array column row); outer = origin.outer }) count copies.place

unfoldable pub row_behind : List ℕ → Context → Origin → Copies → ℕ → ℕ → Progress → Result Progress GdsFault
row_behind bytes context origin copies row column done = with_front done (in_order (copy_in bytes context origin copies row) (amount done) (range_with_len column (copies.array.lattice.columns - column)))

unfoldable pub rows_behind : List ℕ → Context → Origin → Copies → ℕ → Progress → Result Progress GdsFault
rows_behind bytes context origin copies row done = with_front done (in_order (row_in bytes context origin copies) (amount done) (range_with_len row (copies.array.lattice.rows - row)))

pub row_starts : (bytes : List ℕ) (context : Context) (origin : Origin) (copies : Copies) (row : ℕ) (old : Progress) → row_behind bytes context origin copies row 0 old ≡ with_front old (row_in bytes context origin copies (amount old) row)
unfolding row_behind
row_starts bytes context origin copies row old = ap (λ (n : ℕ). with_front old (in_order (copy_in bytes context origin copies row) (amount old) (range_with_len 0 n))) (let e : copies.array.lattice.columns - 0 ≡ copies.array.lattice.columns = omega arith in e)

placed : (bytes : List ℕ) (context : Context) (origin : Origin) (copies : Copies) (row column : ℕ) (copy stands : Move) (count : ℕ) → copy ≡ copy_at copies.array column row → stands ≡ composed origin.stands copy → flat_in bytes context.grid context.levels (record { stands = stands; outer = origin.outer }) count copies.place ≡ copy_in bytes context origin copies row count column
placed bytes context origin copies row column copy stands count is so = ap (λ (m : Move). flat_in bytes context.grid context.levels (record { stands = m; outer = origin.outer }) count copies.place) (so ∙ ap (composed origin.stands) is)

pub row_more : (bytes : List ℕ) (context : Context) (origin : Origin) (copies : Copies) (row column : ℕ) (copy stands : Move) (done new : Progress) (all : Result Progress GdsFault) → column < copies.array.lattice.columns → copy ≡ copy_at copies.array column row → stands ≡ composed origin.stands copy → Adds (Ok tt) done new (flat_in bytes context.grid context.levels (record { stands = stands; outer = origin.outer }) (amount done) copies.place) → row_behind bytes context origin copies row column done ≡ all → row_behind bytes context origin copies row (column + 1) new ≡ all
unfolding row_behind
row_more bytes context origin copies row column copy stands done new all less is so adds e =
    numbers_more (copy_in bytes context origin copies row) column copies.array.lattice.columns done new all less
    (subst (λ (x : Result Progress GdsFault). Adds (Ok tt) done new x) (placed bytes context origin copies row column copy stands (amount done) is so) adds) e

pub row_stops : (bytes : List ℕ) (context : Context) (origin : Origin) (copies : Copies) (row column : ℕ) (copy stands : Move) (old done new last : Progress) (f : GdsFault) → column < copies.array.lattice.columns → copy ≡ copy_at copies.array column row → stands ≡ composed origin.stands copy → Adds (Err f) done new (flat_in bytes context.grid context.levels (record { stands = stands; outer = origin.outer }) (amount done) copies.place) → row_behind bytes context origin copies row column done ≡ with_front old (row_in bytes context origin copies (amount old) row) → Adds (Err f) old last (row_in bytes context origin copies (amount old) row)
unfolding row_behind
row_stops bytes context origin copies row column copy stands old done new last f less is so adds e =
    numbers_stop (copy_in bytes context origin copies row) column copies.array.lattice.columns old done new last f (row_in bytes context origin copies (amount old) row) less
    (subst (λ (x : Result Progress GdsFault). Adds (Err f) done new x) (placed bytes context origin copies row column copy stands (amount done) is so) adds) e

pub row_done : (bytes : List ℕ) (context : Context) (origin : Origin) (copies : Copies) (row column : ℕ) (old done : Progress) → copies.array.lattice.columns ≤ column → row_behind bytes context origin copies row column done ≡ with_front old (row_in bytes context origin copies (amount old) row) → Adds (Ok tt) old done (row_in bytes context origin copies (amount old) row)
unfolding row_behind
row_done bytes context origin copies row column old done past e = numbers_done (copy_in bytes context origin copies row) column copies.array.lattice.columns old done (row_in bytes context origin copies (amount old) row) past e

pub rows_start : (bytes : List ℕ) (context : Context) (origin : Origin) (copies : Copies) (old : Progress) → rows_behind bytes context origin copies 0 old ≡ with_front old (copies_in bytes context origin copies (amount old))
unfolding rows_behind
rows_start bytes context origin copies old = ap (λ (n : ℕ). with_front old (in_order (row_in bytes context origin copies) (amount old) (range_with_len 0 n))) (let e : copies.array.lattice.rows - 0 ≡ copies.array.lattice.rows = omega arith in e)

pub rows_more : (bytes : List ℕ) (context : Context) (origin : Origin) (copies : Copies) (row : ℕ) (done new : Progress) (all : Result Progress GdsFault) → row < copies.array.lattice.rows → Adds (Ok tt) done new (row_in bytes context origin copies (amount done) row) → rows_behind bytes context origin copies row done ≡ all → rows_behind bytes context origin copies (row + 1) new ≡ all
unfolding rows_behind
rows_more bytes context origin copies row done new all less adds e = numbers_more (row_in bytes context origin copies) row copies.array.lattice.rows done new all less adds e

pub rows_stop : (bytes : List ℕ) (context : Context) (origin : Origin) (copies : Copies) (row : ℕ) (old done new last : Progress) (f : GdsFault) → row < copies.array.lattice.rows → Adds (Err f) done new (row_in bytes context origin copies (amount done) row) → rows_behind bytes context origin copies row done ≡ with_front old (copies_in bytes context origin copies (amount old)) → Adds (Err f) old last (copies_in bytes context origin copies (amount old))
unfolding rows_behind
rows_stop bytes context origin copies row old done new last f less adds e = numbers_stop (row_in bytes context origin copies) row copies.array.lattice.rows old done new last f (copies_in bytes context origin copies (amount old)) less adds e

pub rows_done : (bytes : List ℕ) (context : Context) (origin : Origin) (copies : Copies) (row : ℕ) (old done : Progress) → copies.array.lattice.rows ≤ row → rows_behind bytes context origin copies row done ≡ with_front old (copies_in bytes context origin copies (amount old)) → Adds (Ok tt) old done (copies_in bytes context origin copies (amount old))
unfolding rows_behind
rows_done bytes context origin copies row old done past e = numbers_done (row_in bytes context origin copies) row copies.array.lattice.rows old done (copies_in bytes context origin copies (amount old)) past e

pub ruleset column_rules = (row_starts, row_more, row_stops, row_done)

pub ruleset row_rules = (rows_start, rows_more, rows_stop, rows_done)
