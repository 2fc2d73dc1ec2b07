-- The passes of the reader, one after the other.
use Rattle.std.specs.Prelude.{nat_lt, ◌==◌, ◌%◌, ◌/◌, ◌^◌, length}
use Rattle.std.proofs.lemmas.Bool.{cases_Bool}
use Rattle.std.proofs.Math.Nat.{min-le_right}
use Rattle.gds_read.specs.Real.{nearest, word_at}
use Rattle.std.proofs.Common.{ℕ, ◌≤◌, arith, inl, inr, ◌≡◌, List, [], ◌∷◌, Result, Ok, Err, IfOk, IfErr, refl, sym, ap, subst, ◌∙◌}
use Rattle.box_geom.specs.declared.shape.Shapes.{Shapes}
use Rattle.gds_record.specs.Records.{Item, items_from}
use Rattle.gds_area.specs.declared.fault.GdsFault.{GdsFault}
use Rattle.gds_area.specs.declared.fault.GdsFault.TheVariants as fault
use Rattle.gds_read.specs.declared.structure.Lookup.TheVariants as lookup
use Rattle.cell_num.specs.Steps.{◌>>=◌}
use Rattle.gds_read.specs.Grammar.{first_pass_of}
use Rattle.gds_read.specs.Structure.{found_in, one_of, Finds}
use Rattle.gds_area.specs.declared.progress.Progress.{Progress}
use Rattle.gds_area.specs.declared.units.Grid.{Grid}
use Rattle.gds_read.specs.Elements.{elements_of}
use Rattle.gds_read.specs.Flat.{file_of, drawn, Gives}
use Rattle.gds_read.specs.Decoding.{unit_in, grid_in, file_in, decoded, Decodes, GdsRefused, IsRefused, IsTwiceOf}

abbrev drawn_whole : List ℕ → ℕ → List Item → Result Shapes GdsFault
drawn_whole bytes lambda records = drawn (file_in bytes lambda) 0 (elements_of records) >>= λ progress. Ok progress.shapes

is_refused : (bytes name : List ℕ) (lambda : ℕ) (f : GdsFault) → decoded bytes name lambda ≡ Err f → IsRefused bytes name lambda f
is_refused bytes name lambda (fault.Cut at) e = e
is_refused bytes name lambda (fault.Length at) e = e
is_refused bytes name lambda (fault.Order at code) e = e
is_refused bytes name lambda (fault.Kind at code) e = e
is_refused bytes name lambda (fault.Unit pm) e = e
is_refused bytes name lambda fault.NoCell e = e
is_refused bytes name lambda (fault.Twice other) e = e
is_refused bytes name lambda (fault.Slant at) e = e
is_refused bytes name lambda (fault.Grid at) e = e
is_refused bytes name lambda (fault.Reference at) e = e
is_refused bytes name lambda fault.NoMemory e = tt
is_refused bytes name lambda (fault.Deep at) e = e
is_refused bytes name lambda (fault.Wide at) e = e

behind_pass : (bytes name : List ℕ) (lambda end : ℕ) → first_pass_of bytes ≡ Ok end → decoded bytes name lambda ≡ (one_of name (found_in bytes name) >>= λ records. drawn_whole bytes lambda records)
unfolding decoded
behind_pass bytes name lambda end e = ap (λ (x : Result ℕ GdsFault). x >>= λ n. one_of name (found_in bytes name) >>= λ records. drawn_whole bytes lambda records) e

pub refused_first : (bytes name : List ℕ) (lambda : ℕ) (f : GdsFault) → first_pass_of bytes ≡ Err f → IsRefused bytes name lambda f
unfolding decoded
refused_first bytes name lambda f e = is_refused bytes name lambda f (ap (λ (x : Result ℕ GdsFault). x >>= λ n. one_of name (found_in bytes name) >>= λ records. drawn_whole bytes lambda records) e)

none_found : (bytes name : List ℕ) (all : List (List Item)) → Finds bytes lookup.NoCell all → one_of name all ≡ Err fault.NoCell
none_found bytes name [] f = refl
none_found bytes name (one ∷ []) f = absurd f
none_found bytes name (one ∷ other ∷ more) f = absurd f

two_found : (bytes name : List ℕ) (all : List (List Item)) → Finds bytes lookup.Twice all → one_of name all ≡ Err (fault.Twice name)
two_found bytes name [] f = absurd f
two_found bytes name (one ∷ []) f = absurd f
two_found bytes name (one ∷ other ∷ more) f = refl

one_found : (bytes name : List ℕ) (place : ℕ) (all : List (List Item)) → Finds bytes (lookup.At place) all → one_of name all ≡ Ok (items_from bytes place)
one_found bytes name place [] f = absurd f
one_found bytes name place (one ∷ []) f = ap (λ (t : List Item). Ok t) f
one_found bytes name place (one ∷ other ∷ more) f = absurd f

abbrev then_drawn : List ℕ → ℕ → Result (List Item) GdsFault → Result Shapes GdsFault
then_drawn bytes lambda found = found >>= λ records. drawn_whole bytes lambda records

pub no_cell : (bytes name : List ℕ) (lambda end : ℕ) → first_pass_of bytes ≡ Ok end → Finds bytes lookup.NoCell (found_in bytes name) → GdsRefused bytes name lambda fault.NoCell
no_cell bytes name lambda end e f = behind_pass bytes name lambda end e ∙ ap (λ (x : Result (List Item) GdsFault). then_drawn bytes lambda x) (none_found bytes name (found_in bytes name) f)

twice_there : (bytes name : List ℕ) (lambda end : ℕ) → first_pass_of bytes ≡ Ok end → Finds bytes lookup.Twice (found_in bytes name) → GdsRefused bytes name lambda (fault.Twice name)
twice_there bytes name lambda end e f = behind_pass bytes name lambda end e ∙ ap (λ (x : Result (List Item) GdsFault). then_drawn bytes lambda x) (two_found bytes name (found_in bytes name) f)

at_place : (bytes name : List ℕ) (lambda end place : ℕ) → first_pass_of bytes ≡ Ok end → Finds bytes (lookup.At place) (found_in bytes name) → decoded bytes name lambda ≡ drawn_whole bytes lambda (items_from bytes place)
at_place bytes name lambda end place e f = behind_pass bytes name lambda end e ∙ ap (λ (x : Result (List Item) GdsFault). then_drawn bytes lambda x) (one_found bytes name place (found_in bytes name) f)

drawn_there : (bytes name : List ℕ) (lambda end place : ℕ) (shapes : Shapes) → first_pass_of bytes ≡ Ok end → Finds bytes (lookup.At place) (found_in bytes name) → Gives (Ok shapes) (drawn (file_in bytes lambda) 0 (elements_of (items_from bytes place))) → Decodes bytes name lambda shapes
drawn_there bytes name lambda end place shapes e f gives = at_place bytes name lambda end place e f ∙ gives

shapes_fault : {f : GdsFault} (read : Result Progress GdsFault) → read ≡ Err f → (read >>= λ progress. Ok progress.shapes) ≡ Err f
shapes_fault read e = ap (λ (x : Result Progress GdsFault). x >>= λ progress. Ok progress.shapes) e

gives_refused : (bytes name : List ℕ) (lambda : ℕ) (f : GdsFault) (read : Result Progress GdsFault) → decoded bytes name lambda ≡ (read >>= λ progress. Ok progress.shapes) → Gives (Err f) read → IsRefused bytes name lambda f
gives_refused bytes name lambda (fault.Cut at) read e gives = e ∙ shapes_fault read gives
gives_refused bytes name lambda (fault.Length at) read e gives = e ∙ shapes_fault read gives
gives_refused bytes name lambda (fault.Order at code) read e gives = e ∙ shapes_fault read gives
gives_refused bytes name lambda (fault.Kind at code) read e gives = e ∙ shapes_fault read gives
gives_refused bytes name lambda (fault.Unit pm) read e gives = e ∙ shapes_fault read gives
gives_refused bytes name lambda fault.NoCell read e gives = e ∙ shapes_fault read gives
gives_refused bytes name lambda (fault.Twice other) read e gives = e ∙ shapes_fault read gives
gives_refused bytes name lambda (fault.Slant at) read e gives = e ∙ shapes_fault read gives
gives_refused bytes name lambda (fault.Grid at) read e gives = e ∙ shapes_fault read gives
gives_refused bytes name lambda (fault.Reference at) read e gives = e ∙ shapes_fault read gives
gives_refused bytes name lambda fault.NoMemory read e gives = tt
gives_refused bytes name lambda (fault.Deep at) read e gives = e ∙ shapes_fault read gives
gives_refused bytes name lambda (fault.Wide at) read e gives = e ∙ shapes_fault read gives

refused_there : (bytes name : List ℕ) (lambda end place : ℕ) (f : GdsFault) → first_pass_of bytes ≡ Ok end → Finds bytes (lookup.At place) (found_in bytes name) → Gives (Err f) (drawn (file_in bytes lambda) 0 (elements_of (items_from bytes place))) → IsRefused bytes name lambda f
refused_there bytes name lambda end place f e found gives = gives_refused bytes name lambda f (drawn (file_in bytes lambda) 0 (elements_of (items_from bytes place))) (at_place bytes name lambda end place e found) gives

in_grid : (bytes : List ℕ) (lambda place : ℕ) (grid : Grid) (r : Result Shapes GdsFault) → grid ≡ grid_in bytes lambda → Gives r (drawn (file_of grid bytes) 0 (elements_of (items_from bytes place))) → Gives r (drawn (file_in bytes lambda) 0 (elements_of (items_from bytes place)))
in_grid bytes lambda place grid r same = subst (λ (g : Grid). Gives r (drawn (file_of g bytes) 0 (elements_of (items_from bytes place)))) same

pub decodes_there : (bytes name : List ℕ) (lambda end place : ℕ) (grid : Grid) (r : Result Shapes GdsFault) → first_pass_of bytes ≡ Ok end → Finds bytes (lookup.At place) (found_in bytes name) → grid ≡ grid_in bytes lambda → Gives r (drawn (file_of grid bytes) 0 (elements_of (items_from bytes place))) → IfOk r (Decodes bytes name lambda)
decodes_there bytes name lambda end place grid (Ok shapes) e found same gives = drawn_there bytes name lambda end place shapes e found (in_grid bytes lambda place grid (Ok shapes) same gives)
decodes_there bytes name lambda end place grid (Err f) e found same gives = tt

pub refuses_there : (bytes name : List ℕ) (lambda end place : ℕ) (grid : Grid) (r : Result Shapes GdsFault) → first_pass_of bytes ≡ Ok end → Finds bytes (lookup.At place) (found_in bytes name) → grid ≡ grid_in bytes lambda → Gives r (drawn (file_of grid bytes) 0 (elements_of (items_from bytes place))) → IfErr r (IsRefused bytes name lambda)
refuses_there bytes name lambda end place grid (Ok shapes) e found same gives = tt
refuses_there bytes name lambda end place grid (Err f) e found same gives = refused_there bytes name lambda end place f e found (in_grid bytes lambda place grid (Err f) same gives)

twice_of : (bytes name : List ℕ) (lambda : ℕ) (f : GdsFault) → decoded bytes name lambda ≡ Err (fault.Twice name) → IsTwiceOf name f → IsRefused bytes name lambda f
twice_of bytes name lambda (fault.Cut at) e is = e ∙ ap (λ (g : GdsFault). Err g) (sym is)
twice_of bytes name lambda (fault.Length at) e is = e ∙ ap (λ (g : GdsFault). Err g) (sym is)
twice_of bytes name lambda (fault.Order at code) e is = e ∙ ap (λ (g : GdsFault). Err g) (sym is)
twice_of bytes name lambda (fault.Kind at code) e is = e ∙ ap (λ (g : GdsFault). Err g) (sym is)
twice_of bytes name lambda (fault.Unit pm) e is = e ∙ ap (λ (g : GdsFault). Err g) (sym is)
twice_of bytes name lambda fault.NoCell e is = e ∙ ap (λ (g : GdsFault). Err g) (sym is)
twice_of bytes name lambda (fault.Twice other) e is = e ∙ ap (λ (g : GdsFault). Err g) (sym is)
twice_of bytes name lambda (fault.Slant at) e is = e ∙ ap (λ (g : GdsFault). Err g) (sym is)
twice_of bytes name lambda (fault.Grid at) e is = e ∙ ap (λ (g : GdsFault). Err g) (sym is)
twice_of bytes name lambda (fault.Reference at) e is = e ∙ ap (λ (g : GdsFault). Err g) (sym is)
twice_of bytes name lambda fault.NoMemory e is = tt
twice_of bytes name lambda (fault.Deep at) e is = e ∙ ap (λ (g : GdsFault). Err g) (sym is)
twice_of bytes name lambda (fault.Wide at) e is = e ∙ ap (λ (g : GdsFault). Err g) (sym is)

pub twice_refused : (bytes name : List ℕ) (lambda end : ℕ) (f : GdsFault) → first_pass_of bytes ≡ Ok end → Finds bytes lookup.Twice (found_in bytes name) → IsTwiceOf name f → IsRefused bytes name lambda f
twice_refused bytes name lambda end f e found is = twice_of bytes name lambda f (twice_there bytes name lambda end e found) is

pub unit_limit : (units : List ℕ) → unit_in units ≤ 1000000000000000000
unit_limit units = elim (cases_Bool (length units == 16)) [
  | inl e ↦ rw e (elim (cases_Bool (nat_lt (word_at units 8) (2 ^ 63))) [
    | inl small ↦ rw small (min-le_right (nearest (word_at units 8 % 2 ^ 56) (word_at units 8 / 2 ^ 56)) (10 ^ 18))
    | inr large ↦ rw large (omega arith)
  ])
  | inr e ↦ rw e (omega arith)
]

pub ruleset refusal_rules = (refused_first, no_cell, twice_refused)
