-- What is taken in order, and what the elements draw, an element at a time.
use Rattle.std.proofs.Common.{ℕ, suc, ◌≡◌, ◌+◌, ◌-◌, ◌<◌, ◌≤◌, arith, Bool, false, is_some, List, [], ◌∷◌, Option, Some, None, Result, Ok, Err, refl, sym, subst, ap, ◌∙◌, append_assoc, append-nil, ◌⊎◌, inl, inr}
use Rattle.std.specs.Prelude.{if◌then◌else◌}
use Rattle.std.specs.List.{range_with_len}
use Rattle.std.proofs.lemmas.Bool.{cases_Bool, ne_eqb}
use Rattle.std.proofs.Common.{length-append}
use Rattle.box_geom.specs.declared.shape.Shapes.{Shapes}
use Rattle.gds_record.specs.declared.record.GdsRec.{GdsRec}
use Rattle.gds_record.specs.declared.record.RecFault.{RecFault}
use Rattle.gds_record.specs.declared.types.RecordType.{RecordType}
use Rattle.gds_record.specs.declared.types.RecordType.TheVariants as record_type
use Rattle.gds_record.specs.Types.{number_of, type_numbered}
use Rattle.gds_record.specs.Records.{Item, item_of, record_at, items_from}
use Rattle.gds_record.proofs.Walks.{items_end, items_more}
use Rattle.gds_area.specs.declared.fault.GdsFault.{GdsFault}
use Rattle.gds_area.specs.declared.fault.GdsFault.TheVariants as fault
use Rattle.gds_area.specs.declared.units.Grid.{Grid}
use Rattle.gds_read.specs.declared.label.Spot.{Spot}
use Rattle.gds_area.specs.declared.progress.Progress.{Progress}
use Rattle.gds_area.specs.declared.progress.Origin.{Origin}
use Rattle.gds_area.specs.declared.progress.Context.{Context}
use Rattle.cell_num.specs.Steps.{◌>>=◌}
use Rattle.gds_read.specs.Grammar.{element_begun}
use Rattle.gds_area.specs.Progress.{plain, no_progress, both, amount, in_order, Adds}
use Rattle.gds_read.specs.Elements.{Element, until, with_element, elements_of, with_label}
use Rattle.gds_read.specs.Flat.{File, Below, file_of, flat, element_by, element_in, record_in, drawn_in, drawn_record, drawn, Gives}

pub adds_same : (f : GdsFault) (old new : Progress) → Adds (Err f) old new (Err f)
adds_same (fault.Cut at) old new = refl
adds_same (fault.Length at) old new = refl
adds_same (fault.Order at code) old new = refl
adds_same (fault.Kind at code) old new = refl
adds_same (fault.Unit pm) old new = refl
adds_same fault.NoCell old new = refl
adds_same (fault.Twice name) old new = refl
adds_same (fault.Slant at) old new = refl
adds_same (fault.Grid at) old new = refl
adds_same (fault.Reference at) old new = refl
adds_same fault.NoMemory old new = tt
adds_same (fault.Deep at) old new = refl
adds_same (fault.Wide at) old new = refl

pub fault_of : (f : GdsFault) (old new : Progress) (x : Result Progress GdsFault) → Adds (Err f) old new x → (f ≡ fault.NoMemory) ⊎ (x ≡ Err f)
fault_of (fault.Cut at) old new (Ok one) adds = inr adds
fault_of (fault.Cut at) old new (Err g) adds = inr adds
fault_of (fault.Length at) old new (Ok one) adds = inr adds
fault_of (fault.Length at) old new (Err g) adds = inr adds
fault_of (fault.Order at code) old new (Ok one) adds = inr adds
fault_of (fault.Order at code) old new (Err g) adds = inr adds
fault_of (fault.Kind at code) old new (Ok one) adds = inr adds
fault_of (fault.Kind at code) old new (Err g) adds = inr adds
fault_of (fault.Unit pm) old new (Ok one) adds = inr adds
fault_of (fault.Unit pm) old new (Err g) adds = inr adds
fault_of fault.NoCell old new (Ok one) adds = inr adds
fault_of fault.NoCell old new (Err g) adds = inr adds
fault_of (fault.Twice name) old new (Ok one) adds = inr adds
fault_of (fault.Twice name) old new (Err g) adds = inr adds
fault_of (fault.Slant at) old new (Ok one) adds = inr adds
fault_of (fault.Slant at) old new (Err g) adds = inr adds
fault_of (fault.Grid at) old new (Ok one) adds = inr adds
fault_of (fault.Grid at) old new (Err g) adds = inr adds
fault_of (fault.Reference at) old new (Ok one) adds = inr adds
fault_of (fault.Reference at) old new (Err g) adds = inr adds
fault_of fault.NoMemory old new (Ok one) adds = inl refl
fault_of fault.NoMemory old new (Err g) adds = inl refl
fault_of (fault.Deep at) old new (Ok one) adds = inr adds
fault_of (fault.Deep at) old new (Err g) adds = inr adds
fault_of (fault.Wide at) old new (Ok one) adds = inr adds
fault_of (fault.Wide at) old new (Err g) adds = inr adds

pub adds_fault_of : (f : GdsFault) (old new : Progress) (x : Result Progress GdsFault) → (f ≡ fault.NoMemory) ⊎ (x ≡ Err f) → Adds (Err f) old new x
adds_fault_of f old new x (inl short) = subst (λ (g : GdsFault). Adds (Err g) old new x) (sym short) (out x)
  where
    out : (x : Result Progress GdsFault) → Adds (Err fault.NoMemory) old new x
    out (Ok s) = tt
    out (Err g) = tt
adds_fault_of f old new x (inr same) = subst (λ (y : Result Progress GdsFault). Adds (Err f) old new y) (sym same) (adds_same f old new)

-- a fault stays the fault of what follows
pub fault_kept : (f : GdsFault) (a b c d : Progress) (x y : Result Progress GdsFault) → Adds (Err f) a b x → (x ≡ Err f → y ≡ Err f) → Adds (Err f) c d y
fault_kept f a b c d x y adds so = elim (fault_of f a b x adds) [
  | inl short ↦ adds_fault_of f c d y (inl short)
  | inr same ↦ adds_fault_of f c d y (inr (so same))
]

abbrev pub with_front : Progress → Result Progress GdsFault → Result Progress GdsFault
with_front done (Ok one) = Ok (both done one)
with_front done (Err e) = Err e

pub front_nothing : (done : Progress) → both done no_progress ≡ done
front_nothing done = rw (append-nil done.shapes.rects, append-nil done.shapes.labels, (let z : done.refs + 0 ≡ done.refs = omega arith in z)) refl

pub amount_both : (a b : Progress) → amount (both a b) ≡ amount a + amount b
amount_both a b = let e = length-append a.shapes.rects b.shapes.rects in omega (arith, e)

pub taken_is : (a b : Progress) → ◌≡◌ {A = Result Progress GdsFault} (Ok a) (Ok b) → a ≡ b
taken_is a b e = cc

not_both : (a : Progress) (f : GdsFault) → ◌≡◌ {A = Result Progress GdsFault} (Err f) (Ok a) → ⊥
not_both a f e = absurd cc

same_fault : (f g : GdsFault) → ◌≡◌ {A = Result Progress GdsFault} (Err f) (Err g) → ◌≡◌ {A = Result Progress GdsFault} (Err f) (Err g)
same_fault f g e = e

pub adds_all : (old new : Progress) (read : Result Progress GdsFault) → with_front old read ≡ Ok new → Adds (Ok tt) old new read
adds_all old new (Ok one) e = sym (taken_is (both old one) new e)
adds_all old new (Err f) e = absurd (not_both new f e)

pub front_fault : (old : Progress) (f : GdsFault) (read : Result Progress GdsFault) → with_front old read ≡ Err f → read ≡ Err f
front_fault old f (Ok one) e = absurd cc
front_fault old f (Err g) e = e

front_then : (done one : Progress) (more : Result Progress GdsFault) → with_front done (more >>= λ rest. Ok (both one rest)) ≡ with_front (both done one) more
front_then done one (Ok rest) = rw (append_assoc done.shapes.rects one.shapes.rects rest.shapes.rects, append_assoc done.shapes.labels one.shapes.labels rest.shapes.labels, (let e : done.refs + one.refs + rest.refs ≡ done.refs + (one.refs + rest.refs) = omega arith in e)) refl
front_then done one (Err f) = refl

abbrev with_refs : Shapes → ℕ → Result Progress GdsFault
with_refs shapes refs = Ok (record { shapes = shapes; refs = refs })

nothing_front : (more : Result Progress GdsFault) → (more >>= λ rest. Ok (both no_progress rest)) ≡ more
nothing_front (Ok rest) = ap (with_refs rest.shapes) (let e : 0 + rest.refs ≡ rest.refs = omega arith in e)
nothing_front (Err f) = refl

-- ---- in order

pub ordered_none : {A : Type 0} (step : ℕ → A → Result Progress GdsFault) (done : Progress) → with_front done (in_order step (amount done) []) ≡ Ok done
unfolding in_order
ordered_none step done = ap (λ (t : Progress). Ok t) (front_nothing done)

then_rest : {A : Type 0} (step : ℕ → A → Result Progress GdsFault) (done new : Progress) (xs : List A) (x : Result Progress GdsFault) → Adds (Ok tt) done new x → with_front done (x >>= λ one. in_order step (amount done + amount one) xs >>= λ rest. Ok (both one rest)) ≡ with_front new (in_order step (amount new) xs)
then_rest step done new xs (Ok one) same =
    front_then done one (in_order step (amount done + amount one) xs)
    ∙ (ap (λ (n : ℕ). with_front (both done one) (in_order step n xs)) (sym (amount_both done one))
    ∙ ap (λ (t : Progress). with_front t (in_order step (amount t) xs)) (sym same))
then_rest step done new xs (Err f) impossible = absurd impossible

pub ordered_more : {A : Type 0} (step : ℕ → A → Result Progress GdsFault) (done new : Progress) (x : A) (xs : List A) → Adds (Ok tt) done new (step (amount done) x) → with_front done (in_order step (amount done) (x ∷ xs)) ≡ with_front new (in_order step (amount new) xs)
unfolding in_order
ordered_more step done new x xs adds = then_rest step done new xs (step (amount done) x) adds

pub ordered_stops : {A : Type 0} (step : ℕ → A → Result Progress GdsFault) (count : ℕ) (x : A) (xs : List A) (f : GdsFault) → step count x ≡ Err f → in_order step count (x ∷ xs) ≡ Err f
unfolding in_order
ordered_stops step count x xs f e = ap (λ (y : Result Progress GdsFault). y >>= λ one. in_order step (count + amount one) xs >>= λ rest. Ok (both one rest)) e

range_more : (at n : ℕ) → at < n → range_with_len at (n - at) ≡ at ∷ range_with_len (at + 1) (n - (at + 1))
range_more at n less = ap (λ (m : ℕ). range_with_len at m) (let e : n - at ≡ suc (n - (at + 1)) = omega (arith, less) in e)

range_none : (at n : ℕ) → n ≤ at → range_with_len at (n - at) ≡ []
range_none at n past = ap (λ (m : ℕ). range_with_len at m) (let e : n - at ≡ 0 = omega (arith, past) in e)

-- over the numbers below one
pub numbers_more : (step : ℕ → ℕ → Result Progress GdsFault) (at n : ℕ) (done new : Progress) (all : Result Progress GdsFault) → at < n → Adds (Ok tt) done new (step (amount done) at) → with_front done (in_order step (amount done) (range_with_len at (n - at))) ≡ all → with_front new (in_order step (amount new) (range_with_len (at + 1) (n - (at + 1)))) ≡ all
numbers_more step at n done new all less adds e =
    sym (ordered_more step done new at (range_with_len (at + 1) (n - (at + 1))) adds)
    ∙ (sym (ap (λ (xs : List ℕ). with_front done (in_order step (amount done) xs)) (range_more at n less)) ∙ e)

pub numbers_done : (step : ℕ → ℕ → Result Progress GdsFault) (at n : ℕ) (old done : Progress) (read : Result Progress GdsFault) → n ≤ at → with_front done (in_order step (amount done) (range_with_len at (n - at))) ≡ with_front old read → Adds (Ok tt) old done read
numbers_done step at n old done read past e = adds_all old done read (sym e ∙ (ap (λ (xs : List ℕ). with_front done (in_order step (amount done) xs)) (range_none at n past) ∙ ordered_none step done))

pub numbers_stop : (step : ℕ → ℕ → Result Progress GdsFault) (at n : ℕ) (old done new last : Progress) (f : GdsFault) (read : Result Progress GdsFault) → at < n → Adds (Err f) done new (step (amount done) at) → with_front done (in_order step (amount done) (range_with_len at (n - at))) ≡ with_front old read → Adds (Err f) old last read
numbers_stop step at n old done new last f read less adds e =
    fault_kept f done new old last (step (amount done) at) read adds (λ same.
    front_fault old f read (sym e ∙ ap (λ (y : Result Progress GdsFault). with_front done y) (ap (λ (xs : List ℕ). in_order step (amount done) xs) (range_more at n less) ∙ ordered_stops step (amount done) at (range_with_len (at + 1) (n - (at + 1))) f same)))

-- ---- the elements

-- a record that begins no element draws nothing
not_begun : (below : Below) (file : File) (origin : Option Origin) (count : ℕ) (e : Element) (kind : RecordType) → is_some (element_begun kind) ≡ false → element_by below file origin count e kind ≡ Ok no_progress
not_begun below file origin count e record_type.Header none = refl
not_begun below file origin count e record_type.BgnLib none = refl
not_begun below file origin count e record_type.LibName none = refl
not_begun below file origin count e record_type.Units none = refl
not_begun below file origin count e record_type.EndLib none = refl
not_begun below file origin count e record_type.BgnStr none = refl
not_begun below file origin count e record_type.StrName none = refl
not_begun below file origin count e record_type.EndStr none = refl
not_begun below file origin count e record_type.Boundary none = absurd cc
not_begun below file origin count e record_type.Path none = absurd cc
not_begun below file origin count e record_type.SRef none = absurd cc
not_begun below file origin count e record_type.ARef none = absurd cc
not_begun below file origin count e record_type.Text none = absurd cc
not_begun below file origin count e record_type.Node none = absurd cc
not_begun below file origin count e record_type.Box none = absurd cc
not_begun below file origin count e record_type.Layer none = refl
not_begun below file origin count e record_type.DataType none = refl
not_begun below file origin count e record_type.Width none = refl
not_begun below file origin count e record_type.Xy none = refl
not_begun below file origin count e record_type.SName none = refl
not_begun below file origin count e record_type.ColRow none = refl
not_begun below file origin count e record_type.TextType none = refl
not_begun below file origin count e record_type.Presentation none = refl
not_begun below file origin count e record_type.StringText none = refl
not_begun below file origin count e record_type.STrans none = refl
not_begun below file origin count e record_type.Mag none = refl
not_begun below file origin count e record_type.Angle none = refl
not_begun below file origin count e record_type.PathType none = refl
not_begun below file origin count e record_type.PropAttr none = refl
not_begun below file origin count e record_type.PropValue none = refl
not_begun below file origin count e record_type.EndEl none = refl

abbrev step_in : List ℕ → Context → ℕ → Element → Result Progress GdsFault
step_in bytes context n e = element_in bytes context n e e.kind

-- the rest is drawn where so much was taken before it
abbrev pub rest_after : List ℕ → Context → ℕ → List Element → Progress → Result Progress GdsFault
rest_after bytes context count es one = drawn_in bytes context (count + amount one) es >>= λ rest. Ok (both one rest)

pub nothing_before : (bytes : List ℕ) (context : Context) (count : ℕ) (es : List Element) → drawn_in bytes context count es ≡ rest_after bytes context count es no_progress
nothing_before bytes context count es = ap (λ (n : ℕ). drawn_in bytes context n es) (let e : count ≡ count + 0 = omega arith in e) ∙ sym (nothing_front (drawn_in bytes context (count + 0) es))

begun_more : (bytes : List ℕ) (context : Context) (count : ℕ) (r : Item) (rs : List Item) (o : Option RecordType) (rest : List Element) → drawn_in bytes context count (with_element r rs o rest) ≡ (record_in bytes context count r rs o >>= rest_after bytes context count rest)
unfolding in_order
begun_more bytes context count r rs None rest = nothing_before bytes context count rest
begun_more bytes context count r rs (Some kind) rest = elim (cases_Bool (is_some (element_begun kind))) [
  | inl begins ↦ rw begins refl
  | inr none ↦ rw (none, not_begun_in bytes context count r rs kind none) (nothing_before bytes context count rest)
]
  where
    not_begun_in : (bytes : List ℕ) (context : Context) (count : ℕ) (r : Item) (rs : List Item) (kind : RecordType) → is_some (element_begun kind) ≡ false → record_in bytes context count r rs (Some kind) ≡ Ok no_progress
    not_begun_in bytes context count r rs kind none = not_begun (flat context.levels (file_of context.grid bytes)) (file_of context.grid bytes) context.origin count (record { kind = kind; at = r.at; inside = until record_type.EndEl rs }) kind none

elements_more : (bytes : List ℕ) (context : Context) (count : ℕ) (r : Item) (rs : List Item) → (r.code ≡ number_of record_type.EndStr → ⊥) → drawn_in bytes context count (elements_of (r ∷ rs)) ≡ (record_in bytes context count r rs (type_numbered r.code) >>= rest_after bytes context count (elements_of rs))
elements_more bytes context count r rs other =
    ap (λ (b : Bool). drawn_in bytes context count (if b then [] else with_element r rs (type_numbered r.code) (elements_of rs))) (ne_eqb r.code (number_of record_type.EndStr) other)
    ∙ begun_more bytes context count r rs (type_numbered r.code) (elements_of rs)

-- what is drawn from a place on, behind what was taken
abbrev pub drawn_from : List ℕ → Context → ℕ → ℕ → Result Progress GdsFault
drawn_from bytes context count at = drawn_in bytes context count (elements_of (items_from bytes at))

abbrev pub drawn_behind : List ℕ → Context → Progress → ℕ → Result Progress GdsFault
drawn_behind bytes context done at = with_front done (drawn_from bytes context (amount done) at)

pub ends_none : (bytes : List ℕ) (context : Context) (at : ℕ) (old done : Progress) (read : Result Progress GdsFault) (f : RecFault) → record_at bytes at ≡ Err f → drawn_behind bytes context done at ≡ with_front old read → Adds (Ok tt) old done read
ends_none bytes context at old done read f e so = adds_all old done read (sym so ∙ (ap (λ (t : List Item). with_front done (drawn_in bytes context (amount done) (elements_of t))) (items_end bytes at f e) ∙ ordered_none (step_in bytes context) done))

pub ends_there : (bytes : List ℕ) (context : Context) (at : ℕ) (old done : Progress) (read : Result Progress GdsFault) (r : GdsRec) → record_at bytes at ≡ Ok r → r.code ≡ number_of record_type.EndStr → drawn_behind bytes context done at ≡ with_front old read → Adds (Ok tt) old done read
ends_there bytes context at old done read r e k so = adds_all old done read (sym so ∙ (ap (λ (t : List Item). with_front done (drawn_in bytes context (amount done) (elements_of t))) (items_more bytes at r e) ∙ (rw k (ordered_none (step_in bytes context) done))))

pub here : (bytes : List ℕ) (context : Context) (count at : ℕ) (r : GdsRec) → record_at bytes at ≡ Ok r → (r.code ≡ number_of record_type.EndStr → ⊥) → drawn_from bytes context count at ≡ (drawn_record bytes context count r >>= rest_after bytes context count (elements_of (items_from bytes r.next)))
here bytes context count at r e other = ap (λ (t : List Item). drawn_in bytes context count (elements_of t)) (items_more bytes at r e) ∙ elements_more bytes context count (item_of bytes r) (items_from bytes r.next) other

pub goes_on_with : (bytes : List ℕ) (context : Context) (at : ℕ) (done new : Progress) (r : GdsRec) → record_at bytes at ≡ Ok r → (r.code ≡ number_of record_type.EndStr → ⊥) → Adds (Ok tt) done new (drawn_record bytes context (amount done) r) → drawn_behind bytes context done at ≡ drawn_behind bytes context new r.next
goes_on_with bytes context at done new r e other adds =
    ap (λ (t : Result Progress GdsFault). with_front done t) (here bytes context (amount done) at r e other) ∙ then_rest (step_in bytes context) done new (elements_of (items_from bytes r.next)) (drawn_record bytes context (amount done) r) adds

pub stops : (bytes : List ℕ) (context : Context) (at : ℕ) (old done new last : Progress) (r : GdsRec) (f : GdsFault) (read : Result Progress GdsFault) → record_at bytes at ≡ Ok r → (r.code ≡ number_of record_type.EndStr → ⊥) → Adds (Err f) done new (drawn_record bytes context (amount done) r) → drawn_behind bytes context done at ≡ with_front old read → Adds (Err f) old last read
stops bytes context at old done new last r f read e other adds so =
    fault_kept f done new old last (drawn_record bytes context (amount done) r) read adds (λ same.
    front_fault old f read (sym so ∙ ap (λ (y : Result Progress GdsFault). with_front done y) (here bytes context (amount done) at r e other ∙ ap (λ (y : Result Progress GdsFault). y >>= rest_after bytes context (amount done) (elements_of (items_from bytes r.next))) same)))

-- ---- one structure

abbrev pub own : Grid → Context
own grid = record { grid = grid; origin = None; levels = 16 }

pub gives_taken : (bytes : List ℕ) (grid : Grid) (place : ℕ) (new : Progress) → Adds (Ok tt) no_progress new (drawn_from bytes (own grid) 0 place) → Gives (Ok new.shapes) (drawn (file_of grid bytes) 0 (elements_of (items_from bytes place)))
unfolding drawn
gives_taken bytes grid place new adds = go (drawn_from bytes (own grid) 0 place) adds
  where
    go : (read : Result Progress GdsFault) → Adds (Ok tt) no_progress new read → Gives (Ok new.shapes) read
    go (Ok one) same = ap (λ (t : Progress). Ok t.shapes) (sym same)
    go (Err f) impossible = absurd impossible

gives_same : (f : GdsFault) (all : Result Progress GdsFault) → all ≡ Err f → Gives (Err f) all
gives_same (fault.Cut at) all e = e
gives_same (fault.Length at) all e = e
gives_same (fault.Order at code) all e = e
gives_same (fault.Kind at code) all e = e
gives_same (fault.Unit pm) all e = e
gives_same fault.NoCell all e = e
gives_same (fault.Twice name) all e = e
gives_same (fault.Slant at) all e = e
gives_same (fault.Grid at) all e = e
gives_same (fault.Reference at) all e = e
gives_same fault.NoMemory all e = tt
gives_same (fault.Deep at) all e = e
gives_same (fault.Wide at) all e = e

pub gives_fault : (bytes : List ℕ) (grid : Grid) (place : ℕ) (new : Progress) (f : GdsFault) → Adds (Err f) no_progress new (drawn_from bytes (own grid) 0 place) → Gives (Err f) (drawn (file_of grid bytes) 0 (elements_of (items_from bytes place)))
unfolding drawn
gives_fault bytes grid place new f adds = elim (fault_of f no_progress new (drawn_from bytes (own grid) 0 place) adds) [
  | inl short ↦ rw short tt
  | inr same ↦ gives_same f (drawn_from bytes (own grid) 0 place) same
]

-- a label takes no room
pub same_amount : (old new : Progress) (name : List ℕ) (spot : Option Spot) → new ≡ both old (plain (with_label name spot)) → amount old ≤ 1000000 → amount new ≤ 1000000
same_amount old new name None e few = let n = ap amount e in let m = amount_both old (plain (with_label name None)) in omega (arith, n, m, few)
same_amount old new name (Some spot) e few = let n = ap amount e in let m = amount_both old (plain (with_label name (Some spot))) in omega (arith, n, m, few)
