-- A copy of a structure takes some room, and so does each element that is visited in it.
use Rattle.std.proofs.Common.{ℕ, zero, suc, ◌≡◌, ◌+◌, ◌*◌, ◌<◌, ◌≤◌, nat_lt, arith, Bool, true, false, ◌&&◌, List, [], ◌∷◌, length, Option, Some, None, Result, Ok, Err, refl, ap}
use Rattle.std.specs.Prelude.{◌==◌, if◌then◌else◌}
use Rattle.std.proofs.lemmas.Bool.{ltb-true}
use Rattle.gds_record.specs.declared.types.RecordType.{RecordType}
use Rattle.gds_record.specs.declared.types.RecordType.TheVariants as record_type
use Rattle.gds_record.specs.Types.{type_numbered}
use Rattle.gds_record.specs.Records.{Item}
use Rattle.gds_area.specs.declared.fault.GdsFault.{GdsFault}
use Rattle.gds_area.specs.declared.fault.GdsFault.TheVariants as fault
use Rattle.gds_area.specs.declared.units.Grid.{Grid}
use Rattle.gds_area.specs.declared.point.Point.{Point}
use Rattle.gds_area.specs.declared.progress.Progress.{Progress}
use Rattle.gds_area.specs.declared.progress.Origin.{Origin}
use Rattle.gds_area.specs.declared.progress.Context.{Context}
use Rattle.gds_area.specs.Points.{point_at}
use Rattle.gds_area.specs.Progress.{plain, no_progress, one_reference, both, amount, within_limit, origin_of}
use Rattle.cell_num.specs.Steps.{◌>>=◌, or_fault}
use Rattle.gds_read.specs.declared.label.Spot.{Spot}
use Rattle.gds_read.specs.declared.lattice.Counts.{Counts}
use Rattle.gds_read.specs.declared.lattice.Lattice.{Lattice}
use Rattle.gds_read.specs.declared.reference.Facing.{Facing}
use Rattle.gds_read.specs.declared.reference.Array.{Array}
use Rattle.gds_read.specs.Structure.{trimmed}
use Rattle.gds_read.specs.References.{counts_of, two_counts, counts_told, has_steps, lattice_on, single, may_stand, lattice_of, facing_on, facing_of, data_in, repeats, array_of, target_in, copy_at}
use Rattle.gds_read.specs.Elements.{Element, until, elements_of, layer_of, xy_place, xy_of, content_of, areas_of, draw_context_of, text_spot, with_label}
use Rattle.gds_read.specs.Index.{covers, element_draws, draws}
use Rattle.gds_read.specs.Flat.{File, Below, file_of, inside_copy, row_of, copies_of, referred, text_by, element_by, one_level, flat, record_in, drawn_from, in_copy}
use Rattle.gds_read.proofs.Drawings.{amount_both, taken_is}
use Rattle.gds_read.proofs.Visited.{limited, HasRoom, TakesSome, IsVisit, nothing, ordered_room, then_counts, ordered_counts, drawn_visit}

-- ---- a reference has a copy at least

abbrev HasCounts : Option Counts → Type 0
HasCounts None = Unit {0}
HasCounts (Some n) = (0 < n.columns) × (0 < n.rows)

abbrev HasLattice : Option Lattice → Type 0
HasLattice None = Unit {0}
HasLattice (Some at) = (0 < at.columns) × (0 < at.rows)

abbrev HasCopies : Option Array → Type 0
HasCopies None = Unit {0}
HasCopies (Some a) = (0 < a.lattice.columns) × (0 < a.lattice.rows)

counts_hold : (c r : ℕ) → HasCounts (counts_of c r)
counts_hold c r = by (nat_lt 0 c) refl (nat_lt 0 r) refl (nat_lt c 32768) (nat_lt r 32768)
  where
    by : (a : Bool) → nat_lt 0 c ≡ a → (b : Bool) → nat_lt 0 r ≡ b → (x y : Bool) → HasCounts (if (a && x) && (b && y) then Some (record { columns = c; rows = r }) else None)
    by false p b q x y = tt
    by true p b q false y = tt
    by true p false q true y = tt
    by true p true q true false = tt
    by true p true q true true = (ltb-true 0 c p, ltb-true 0 r q)

two_hold : (content : List ℕ) → HasCounts (two_counts content)
two_hold [] = tt
two_hold (a ∷ []) = tt
two_hold (a ∷ b ∷ []) = tt
two_hold (a ∷ b ∷ c ∷ []) = tt
two_hold (a ∷ b ∷ c ∷ d ∷ []) = counts_hold (256 * a + b) (256 * c + d)
two_hold (a ∷ b ∷ c ∷ d ∷ e ∷ more) = tt

told_hold : (o : Option (List ℕ)) → HasCounts (counts_told o)
told_hold None = tt
told_hold (Some content) = two_hold content

on_hold : (p q s : Point) (o : Option Counts) → HasCounts o → HasLattice (lattice_on p q s o)
on_hold p q s None has = tt
on_hold p q s (Some n) has = by (has_steps n.columns p q && has_steps n.rows p s)
  where
    by : (b : Bool) → HasLattice (if b then Some (record { first = p; behind_columns = q; behind_rows = s; columns = n.columns; rows = n.rows }) else None)
    by true = has
    by false = tt

single_holds : (xy : List ℕ) (counts : Option (List ℕ)) → HasLattice (lattice_of record_type.SRef xy counts)
single_holds xy counts = by (length xy == 8 && may_stand counts)
  where
    by : (b : Bool) → HasLattice (if b then Some (single (point_at 0 xy)) else None)
    by true = (omega arith, omega arith)
    by false = tt

array_holds : (xy : List ℕ) (counts : Option (List ℕ)) → HasLattice (lattice_of record_type.ARef xy counts)
array_holds xy counts = by (length xy == 24)
  where
    by : (b : Bool) → HasLattice (if b then lattice_on (point_at 0 xy) (point_at 8 xy) (point_at 16 xy) (counts_told counts) else None)
    by true = on_hold (point_at 0 xy) (point_at 8 xy) (point_at 16 xy) (counts_told counts) (told_hold counts)
    by false = tt

copies_hold : (b : Bool) (f : Option Facing) (o : Option Lattice) → HasLattice o → HasCopies (if b then None else facing_on f o)
copies_hold true f o has = tt
copies_hold false None o has = tt
copies_hold false (Some f) None has = tt
copies_hold false (Some f) (Some at) has = has

-- ---- what a structure draws where it is referred to

record IsBelow (below : Below) : Type 0 where
  room : (origin : Origin) (count : ℕ) (es : List Element) → HasRoom count (below origin count es)
  counted : (origin : Origin) (count : ℕ) (es : List Element) → TakesSome (below origin count es)

row_room : (below : Below) (origin : Origin) (es : List Element) (array : Array) → IsBelow below → (count row : ℕ) → HasRoom count (row_of below origin es array count row)
row_room below origin es array is count row = ordered_room (λ n column. below (inside_copy origin (copy_at array column row)) n es) (λ n column. is.room (inside_copy origin (copy_at array column row)) n es) _ count

row_counts : (below : Below) (origin : Origin) (es : List Element) (array : Array) → IsBelow below → 0 < array.lattice.columns → (count row : ℕ) → TakesSome (row_of below origin es array count row)
row_counts below origin es array is some count row = ordered_counts (λ n column. below (inside_copy origin (copy_at array column row)) n es) (λ n column. is.counted (inside_copy origin (copy_at array column row)) n es) count array.lattice.columns some

refused : (labels : Bool) (count : ℕ) (f : GdsFault) → IsVisit labels true count (Err f)
refused labels count f = record { room = λ one few e. absurd cc; passed = λ e. absurd cc; counted = λ _ _ one e. absurd cc }

referred_visit : (labels : Bool) (below : Below) (file : File) (origin : Origin) (count : ℕ) (e : Element) (kind : RecordType) → IsBelow below → HasLattice (lattice_of kind (xy_of e.inside) (data_in record_type.ColRow e.inside)) → IsVisit labels true count (referred below file origin count e kind)
referred_visit labels below file origin count e kind is has = by (target_in file.records e.inside) (array_of kind e.inside) (copies_hold (repeats e.inside) (facing_of e.inside) (lattice_of kind (xy_of e.inside) (data_in record_type.ColRow e.inside)) has)
  where
    by : (t : Option (List Item)) (a : Option Array) → HasCopies a → IsVisit labels true count (or_fault t (fault.Reference e.at) >>= λ target. or_fault a (fault.Reference e.at) >>= λ array. copies_of below origin (elements_of target) array count)
    by None a some = refused labels count (fault.Reference e.at)
    by (Some t) None some = refused labels count (fault.Reference e.at)
    by (Some t) (Some array) some = record {
      room = ordered_room (λ n row. row_of below origin (elements_of t) array n row) (row_room below origin (elements_of t) array is) _ count;
      passed = λ q. absurd cc;
      counted = λ _ _. ordered_counts (λ n row. row_of below origin (elements_of t) array n row) (row_counts below origin (elements_of t) array is some.0) count array.lattice.rows some.1;
    }

-- ---- an element

label_room : (count : ℕ) (name : List ℕ) (o : Option Spot) → HasRoom count (Ok (plain (with_label name o)))
label_room count name None one few e = let n = ap amount (taken_is (plain (with_label name None)) one e) in omega (arith, few, n)
label_room count name (Some spot) one few e = let n = ap amount (taken_is (plain (with_label name (Some spot))) one e) in omega (arith, few, n)

text_room : (grid : Grid) (origin : Option Origin) (count : ℕ) (e : Element) → HasRoom count (text_by grid origin e)
text_room grid (Some origin) count e = (nothing true count).room
text_room grid None count e = by (text_spot grid e)
  where
    by : (x : Result (Option Spot) GdsFault) → HasRoom count (x >>= λ spot. Ok (plain (with_label (trimmed (content_of record_type.StringText e.inside)) spot)))
    by (Err f) one few q = absurd cc
    by (Ok spot) one few q = label_room count (trimmed (content_of record_type.StringText e.inside)) spot one few q

text_visit : (labels : Bool) (grid : Grid) (origin : Option Origin) (count : ℕ) (e : Element) → (labels ≡ false → text_by grid origin e ≡ Ok no_progress) → IsVisit labels labels count (text_by grid origin e)
text_visit true grid origin count e quiet = record { room = text_room grid origin count e; passed = λ q. absurd cc; counted = λ q. absurd cc }
text_visit false grid origin count e quiet = record { room = text_room grid origin count e; passed = λ q few. quiet q; counted = λ _ q. absurd cc }

areas_visit : (labels : Bool) (grid : Grid) (origin : Origin) (count : ℕ) (inside : List Item) (kind : RecordType) → IsVisit labels (covers kind inside) count (drawn_from grid origin count inside kind)
areas_visit labels grid origin count inside kind = drawn_visit labels origin.outer count (draw_context_of grid origin.stands inside) (layer_of inside) (areas_of (xy_place inside) inside kind)

element_visit : (labels : Bool) (below : Below) (file : File) (origin : Option Origin) (count : ℕ) (e : Element) (kind : RecordType) → IsBelow below → (labels ≡ false → text_by file.grid origin e ≡ Ok no_progress) → IsVisit labels (element_draws labels kind e.inside) count (element_by below file origin count e kind)
element_visit labels below file origin count e record_type.Boundary is quiet = areas_visit labels file.grid (origin_of origin e.at) count e.inside record_type.Boundary
element_visit labels below file origin count e record_type.Path is quiet = areas_visit labels file.grid (origin_of origin e.at) count e.inside record_type.Path
element_visit labels below file origin count e record_type.Text is quiet = text_visit labels file.grid origin count e quiet
element_visit labels below file origin count e record_type.SRef is quiet = referred_visit labels below file (origin_of origin e.at) count e record_type.SRef is (single_holds (xy_of e.inside) (data_in record_type.ColRow e.inside))
element_visit labels below file origin count e record_type.ARef is quiet = referred_visit labels below file (origin_of origin e.at) count e record_type.ARef is (array_holds (xy_of e.inside) (data_in record_type.ColRow e.inside))
element_visit labels below file origin count e record_type.Header is quiet = nothing labels count
element_visit labels below file origin count e record_type.BgnLib is quiet = nothing labels count
element_visit labels below file origin count e record_type.LibName is quiet = nothing labels count
element_visit labels below file origin count e record_type.Units is quiet = nothing labels count
element_visit labels below file origin count e record_type.EndLib is quiet = nothing labels count
element_visit labels below file origin count e record_type.BgnStr is quiet = nothing labels count
element_visit labels below file origin count e record_type.StrName is quiet = nothing labels count
element_visit labels below file origin count e record_type.EndStr is quiet = nothing labels count
element_visit labels below file origin count e record_type.Node is quiet = nothing labels count
element_visit labels below file origin count e record_type.Box is quiet = nothing labels count
element_visit labels below file origin count e record_type.Layer is quiet = nothing labels count
element_visit labels below file origin count e record_type.DataType is quiet = nothing labels count
element_visit labels below file origin count e record_type.Width is quiet = nothing labels count
element_visit labels below file origin count e record_type.Xy is quiet = nothing labels count
element_visit labels below file origin count e record_type.SName is quiet = nothing labels count
element_visit labels below file origin count e record_type.ColRow is quiet = nothing labels count
element_visit labels below file origin count e record_type.TextType is quiet = nothing labels count
element_visit labels below file origin count e record_type.Presentation is quiet = nothing labels count
element_visit labels below file origin count e record_type.StringText is quiet = nothing labels count
element_visit labels below file origin count e record_type.STrans is quiet = nothing labels count
element_visit labels below file origin count e record_type.Mag is quiet = nothing labels count
element_visit labels below file origin count e record_type.Angle is quiet = nothing labels count
element_visit labels below file origin count e record_type.PathType is quiet = nothing labels count
element_visit labels below file origin count e record_type.PropAttr is quiet = nothing labels count
element_visit labels below file origin count e record_type.PropValue is quiet = nothing labels count
element_visit labels below file origin count e record_type.EndEl is quiet = nothing labels count

-- ---- so many references may stand in each other

one_copy : (outer count : ℕ) → TakesSome (within_limit outer count one_reference)
one_copy outer count one e = let n = ap amount (limited outer count one_reference one e).is in omega (arith, n)

copy_room : (outer count : ℕ) (rest : Result Progress GdsFault) → HasRoom (count + 1) rest → HasRoom count (within_limit outer count one_reference >>= λ one. rest >>= λ more. Ok (both one more))
copy_room outer count rest has one few e = by (within_limit outer count one_reference) refl rest has e
  where
    by : (x : Result Progress GdsFault) → within_limit outer count one_reference ≡ x → (y : Result Progress GdsFault) → HasRoom (count + 1) y → (x >>= λ one. y >>= λ more. Ok (both one more)) ≡ Ok one → count + amount one ≤ 1000000
    by (Err f) p y fits q = absurd cc
    by (Ok first) p (Err f) fits q = absurd cc
    by (Ok first) p (Ok more) fits q =
        let here = limited outer count one_reference first p in
        let f = ap amount here.is in
        let fit : count + 1 + amount more ≤ 1000000 = fits more (omega (arith, here.few, f)) refl in
        let n = ap amount (taken_is (both first more) one q) in
        let m = amount_both first more in
        omega (arith, fit, n, m, f)

flat_below : (levels : ℕ) (file : File) → IsBelow (flat levels file)
unfolding flat
flat_below zero file = record { room = λ origin count es one few e. absurd cc; counted = λ origin count es one e. absurd cc }
flat_below (suc levels) file = from (flat_below levels file)
  where
    from : IsBelow (flat levels file) → IsBelow (flat (suc levels) file)
    from is = record {
      room = λ origin count es. copy_room origin.outer count (one_level (flat levels file) file (Some origin) (count + 1) es)
          (ordered_room (λ n e. element_by (flat levels file) file (Some origin) n e e.kind) (λ n e. (element_visit false (flat levels file) file (Some origin) n e e.kind is (λ _. refl)).room) es (count + 1));
      counted = λ origin count es. then_counts (within_limit origin.outer count one_reference) (λ one. one_level (flat levels file) file (Some origin) (count + 1) es) (one_copy origin.outer count);
    }

-- ---- a record

pub visit : (bytes : List ℕ) (context : Context) (labels : Bool) (count : ℕ) (r : Item) (rs : List Item) (o : Option RecordType) → (labels ≡ false → (e : Element) → text_by context.grid context.origin e ≡ Ok no_progress) → IsVisit labels (draws labels o rs) count (record_in bytes context count r rs o)
visit bytes context labels count r rs None quiet = nothing labels count
visit bytes context labels count r rs (Some kind) quiet =
    let e : Element = record { kind = kind; at = r.at; inside = until record_type.EndEl rs } in
    element_visit labels (flat context.levels (file_of context.grid bytes)) (file_of context.grid bytes) context.origin count e kind (flat_below context.levels (file_of context.grid bytes)) (λ q. quiet q e)

pub copy_visit : (bytes : List ℕ) (grid : Grid) (levels : ℕ) (origin : Origin) (count : ℕ) (r : Item) (rs : List Item) → IsVisit false (draws false (type_numbered r.code) rs) count (in_copy bytes grid levels origin count r rs)
copy_visit bytes grid levels origin count r rs = visit bytes (record { grid = grid; origin = Some origin; levels = levels }) false count r rs (type_numbered r.code) (λ _ e. refl)
