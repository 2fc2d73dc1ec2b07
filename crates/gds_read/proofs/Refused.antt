-- Why no cell is read of the bytes.
use Rattle.std.proofs.Common.{ℕ, ◌≡◌, ◌+◌, arith, List, [], ◌∷◌, ◌++◌, Result, Ok, Err, refl, sym, ap, ◌∙◌, ◌⊎◌, inl, inr}
use Rattle.box_geom.specs.declared.shape.Shapes.{Shapes}
use Rattle.gds_record.specs.Records.{Item, IsBytes}
use Rattle.gds_area.specs.declared.fault.GdsFault.{GdsFault}
use Rattle.gds_area.specs.declared.fault.GdsFault.TheVariants as fault
use Rattle.cell_num.specs.Steps.{◌>>=◌}
use Rattle.gds_read.specs.Grammar.{first_pass_of}
use Rattle.gds_read.specs.Structure.{found_in, one_of}
use Rattle.gds_area.specs.declared.progress.Progress.{Progress}
use Rattle.gds_area.specs.Progress.{no_progress, both, amount, in_order}
use Rattle.gds_read.specs.Elements.{Element, elements_of}
use Rattle.gds_read.specs.Flat.{File, drawn_by, drawn}
use Rattle.gds_read.specs.Decoding.{file_in, decoded, GdsRefused, IsFirstFaulty, HasNoCell, HasTwice, HasFaultyElement, IsCellFault}
use Rattle.gds_read.proofs.Drawings.{amount_both}
use Rattle.gds_read.proofs.Found.{bind_ok, found, only}
use Rattle.gds_read.proofs.Faulty.{first_fault, only_fault}

same_fault : {A B : Type 0} (f g : GdsFault) → ◌≡◌ {A = Result A GdsFault} (Err f) (Err g) → ◌≡◌ {A = Result B GdsFault} (Err f) (Err g)
same_fault f g e = cc

fault_is : {A : Type 0} (f g : GdsFault) → ◌≡◌ {A = Result A GdsFault} (Err f) (Err g) → f ≡ g
fault_is f g e = cc

progress_is_one : (a b : Progress) → ◌≡◌ {A = Result Progress GdsFault} (Ok a) (Ok b) → a ≡ b
progress_is_one a b e = cc

no_fault : {A : Type 0} (x : A) (f : GdsFault) → ◌≡◌ {A = Result A GdsFault} (Ok x) (Err f) → ⊥
no_fault x f e = absurd cc

-- the fault of the first, or of what follows it
bind_err : {A B : Type 0} (x : Result A GdsFault) (next : A → Result B GdsFault) (f : GdsFault) → (x >>= next) ≡ Err f → (x ≡ Err f) ⊎ ((a : A) × (x ≡ Ok a) × (next a ≡ Err f))
bind_err (Ok a) next f e = inr (a, refl, e)
bind_err (Err g) next f e = inl (same_fault g f e)

-- ---- the elements

abbrev rest_of : File → ℕ → List Element → Progress → Result Progress GdsFault
rest_of file count es one = drawn file (count + amount one) es >>= λ rest. Ok (both one rest)

-- the same, where so many rectangles stand before all of them
record IsFaultyBehind (file : File) (count : ℕ) (elements : List Element) (f : GdsFault) : Type 0 where
  before : List Element
  progress : Progress
  faulty : Element
  behind : List Element
  is : elements ≡ before ++ (faulty ∷ behind)
  drawn_before : drawn file count before ≡ Ok progress
  fault : drawn_by file (count + amount progress) faulty faulty.kind ≡ Err f

first_here : (file : File) (count : ℕ) (e : Element) (es : List Element) (f : GdsFault) → drawn_by file count e e.kind ≡ Err f → IsFaultyBehind file count (e ∷ es) f
unfolding drawn in_order
first_here file count e es f h = record { before = []; progress = no_progress; faulty = e; behind = es; is = refl; drawn_before = refl; fault = ap (λ (n : ℕ). drawn_by file n e e.kind) (let n : count + 0 ≡ count = omega arith in n) ∙ h }

both_drawn : (file : File) (count : ℕ) (e : Element) (es : List Element) (one rest : Progress) → drawn_by file count e e.kind ≡ Ok one → drawn file (count + amount one) es ≡ Ok rest → drawn file count (e ∷ es) ≡ Ok (both one rest)
unfolding drawn in_order
both_drawn file count e es one rest h k = rw (h, k) refl

added : (count : ℕ) (one rest : Progress) → count + amount (both one rest) ≡ count + amount one + amount rest
added count one rest = let e = amount_both one rest in omega (arith, e)

first_later : (file : File) (count : ℕ) (e : Element) (es : List Element) (f : GdsFault) (one : Progress) → drawn_by file count e e.kind ≡ Ok one → IsFaultyBehind file (count + amount one) es f → IsFaultyBehind file count (e ∷ es) f
first_later file count e es f one h s =
    record {
      before = e ∷ s.before;
      progress = both one s.progress;
      faulty = s.faulty;
      behind = s.behind;
      is = ap (λ (t : List Element). e ∷ t) s.is;
      drawn_before = both_drawn file count e s.before one s.progress h s.drawn_before;
      fault = ap (λ (n : ℕ). drawn_by file n s.faulty s.faulty.kind) (added count one s.progress) ∙ s.fault;
    }

faulty_behind : (file : File) (count : ℕ) (es : List Element) (f : GdsFault) → drawn file count es ≡ Err f → IsFaultyBehind file count es f
unfolding drawn in_order
faulty_behind file count [] f h = absurd (no_fault _ f h)
faulty_behind file count (e ∷ es) f h = elim (bind_err (drawn_by file count e e.kind) (rest_of file count es) f h) [
  | inl here ↦ first_here file count e es f here
  | inr later ↦ elim (bind_err (drawn file (count + amount later.0) es) (λ rest. Ok (both later.0 rest)) f later.2) [
    | inl rest ↦ first_later file count e es f later.0 later.1 (faulty_behind file (count + amount later.0) es f rest)
    | inr none ↦ absurd (no_fault _ f none.2)
  ]
]

first_faulty : (file : File) (es : List Element) (f : GdsFault) → drawn file 0 es ≡ Err f → IsFirstFaulty file es f
first_faulty file es f h =
    let s = faulty_behind file 0 es f h in
    record { before = s.before; progress = s.progress; faulty = s.faulty; behind = s.behind; is = s.is; drawn_before = s.drawn_before; fault = ap (λ (n : ℕ). drawn_by file n s.faulty s.faulty.kind) (let e : amount s.progress ≡ 0 + amount s.progress = omega arith in e) ∙ s.fault }

faulty_drawn : (file : File) (count : ℕ) (before behind : List Element) (faulty : Element) (f : GdsFault) (progress : Progress) → drawn file count before ≡ Ok progress → drawn_by file (count + amount progress) faulty faulty.kind ≡ Err f → drawn file count (before ++ (faulty ∷ behind)) ≡ Err f
unfolding drawn in_order
faulty_drawn file count [] behind faulty f progress all h =
    let none : progress ≡ no_progress = sym (progress_is_one no_progress progress all) in
    ap (λ (x : Result Progress GdsFault). x >>= rest_of file count behind)
    (ap (λ (n : ℕ). drawn_by file n faulty faulty.kind) (let zero_more = ap amount none in let n : count ≡ count + amount progress = omega (arith, zero_more) in n) ∙ h)
faulty_drawn file count (e ∷ es) behind faulty f progress all h =
    let first = bind_ok (drawn_by file count e e.kind) (rest_of file count es) progress all in
    let rest = bind_ok (drawn file (count + amount first.0) es) (λ rest. Ok (both first.0 rest)) progress first.2 in
    let whole : both first.0 rest.0 ≡ progress = progress_is_one (both first.0 rest.0) progress rest.2 in
    let places : count + amount progress ≡ count + amount first.0 + amount rest.0 = sym (ap (λ (s : Progress). count + amount s) whole) ∙ added count first.0 rest.0 in
    ap (λ (x : Result Progress GdsFault). x >>= rest_of file count (es ++ (faulty ∷ behind))) first.1
    ∙ ap (λ (x : Result Progress GdsFault). x >>= λ rest. Ok (both first.0 rest))
    (faulty_drawn file (count + amount first.0) es behind faulty f rest.0 rest.1 (ap (λ (n : ℕ). drawn_by file n faulty faulty.kind) (sym places) ∙ h))

-- ---- the cell

abbrev then_drawn : List ℕ → ℕ → List Item → Result Shapes GdsFault
then_drawn bytes lambda records = drawn (file_in bytes lambda) 0 (elements_of records) >>= λ progress. Ok progress.shapes

abbrev then_found : List ℕ → List ℕ → ℕ → ℕ → Result Shapes GdsFault
then_found bytes name lambda end = one_of name (found_in bytes name) >>= then_drawn bytes lambda

taken_fault : (read : Result Progress GdsFault) (f : GdsFault) → (read >>= λ progress. Ok progress.shapes) ≡ Err f → read ≡ Err f
taken_fault (Ok progress) f e = absurd (no_fault progress.shapes f e)
taken_fault (Err g) f e = same_fault g f e

abbrev ByName : List ℕ → List ℕ → ℕ → GdsFault → Type 0
ByName bytes name lambda f = HasNoCell bytes name f ⊎ (HasTwice bytes name f ⊎ HasFaultyElement bytes name lambda f)

by_name : (bytes name : List ℕ) (lambda end : ℕ) (f : GdsFault) → IsBytes bytes → first_pass_of bytes ≡ Ok end → (all : List (List Item)) → found_in bytes name ≡ all → (one_of name all >>= then_drawn bytes lambda) ≡ Err f → ByName bytes name lambda f
by_name bytes name lambda end f fits passed [] is e = inl (record { end = end; library = found bytes end fits passed; none = is; fault = sym (fault_is fault.NoCell f e) })
by_name bytes name lambda end f fits passed (one ∷ []) is e = inr (inr (record { end = end; records = one; library = found bytes end fits passed; one = is; first = first_faulty (file_in bytes lambda) (elements_of one) f (taken_fault (drawn (file_in bytes lambda) 0 (elements_of one)) f e) }))
by_name bytes name lambda end f fits passed (one ∷ other ∷ more) is e = inr (inl (record { end = end; first = one; second = other; more = more; library = found bytes end fits passed; two = is; fault = sym (fault_is (fault.Twice name) f e) }))

pub is_cell_fault : (bytes name : List ℕ) (lambda : ℕ) (f : GdsFault) → IsBytes bytes → GdsRefused bytes name lambda f → IsCellFault bytes name lambda f
unfolding decoded
is_cell_fault bytes name lambda f fits e = elim (bind_err (first_pass_of bytes) (then_found bytes name lambda) f e) [
  | inl first ↦ inl (first_fault bytes f fits first)
  | inr behind ↦ inr (by_name bytes name lambda behind.0 f fits behind.1 (found_in bytes name) refl behind.2)
]

-- ---- and back

passed_on : (bytes name : List ℕ) (lambda end : ℕ) (all : List (List Item)) (f : GdsFault) → first_pass_of bytes ≡ Ok end → found_in bytes name ≡ all → (one_of name all >>= then_drawn bytes lambda) ≡ Err f → GdsRefused bytes name lambda f
unfolding decoded
passed_on bytes name lambda end all f passed is e =
    ap (λ (x : Result ℕ GdsFault). x >>= then_found bytes name lambda) passed
    ∙ (ap (λ (t : List (List Item)). one_of name t >>= then_drawn bytes lambda) is ∙ e)

on_first : (bytes name : List ℕ) (lambda : ℕ) (f : GdsFault) → first_pass_of bytes ≡ Err f → GdsRefused bytes name lambda f
unfolding decoded
on_first bytes name lambda f e = ap (λ (x : Result ℕ GdsFault). x >>= then_found bytes name lambda) e

pub cell_fault_is : (bytes name : List ℕ) (lambda : ℕ) (f : GdsFault) → IsCellFault bytes name lambda f → GdsRefused bytes name lambda f
cell_fault_is bytes name lambda f (inl first) = on_first bytes name lambda f (only_fault bytes f first)
cell_fault_is bytes name lambda f (inr (inl c)) = passed_on bytes name lambda c.end [] f (only bytes c.end c.library) c.none (ap (λ (g : GdsFault). Err g) (sym c.fault))
cell_fault_is bytes name lambda f (inr (inr (inl c))) = passed_on bytes name lambda c.end (c.first ∷ c.second ∷ c.more) f (only bytes c.end c.library) c.two (ap (λ (g : GdsFault). Err g) (sym c.fault))
cell_fault_is bytes name lambda f (inr (inr (inr c))) =
    passed_on bytes name lambda c.end (c.records ∷ []) f (only bytes c.end c.library) c.one
    (ap (λ (x : Result Progress GdsFault). x >>= λ progress. Ok progress.shapes) (ap (λ (t : List Element). drawn (file_in bytes lambda) 0 t) c.first.is ∙ faulty_drawn (file_in bytes lambda) 0 c.first.before c.first.behind c.first.faulty f c.first.progress c.first.drawn_before (ap (λ (n : ℕ). drawn_by (file_in bytes lambda) n c.first.faulty c.first.faulty.kind) (let e : 0 + amount c.first.progress ≡ amount c.first.progress = omega arith in e) ∙ c.first.fault)))
