-- What is decoded is the cell of a library.
use Rattle.std.proofs.Common.{ℕ, ◌≡◌, List, [], ◌∷◌, Result, Ok, ap, ◌∙◌}
use Rattle.box_geom.specs.declared.shape.Shapes.{Shapes}
use Rattle.gds_record.specs.Records.{Item, IsBytes}
use Rattle.gds_area.specs.declared.fault.GdsFault.{GdsFault}
use Rattle.cell_num.specs.Steps.{◌>>=◌}
use Rattle.gds_read.specs.Grammar.{first_pass_of}
use Rattle.gds_read.specs.Structure.{found_in, one_of}
use Rattle.gds_area.specs.declared.progress.Progress.{Progress}
use Rattle.gds_read.specs.Elements.{elements_of}
use Rattle.gds_read.specs.Flat.{drawn}
use Rattle.gds_read.specs.Decoding.{file_in, decoded, Decodes, IsCell}
use Rattle.gds_read.proofs.Found.{bind_ok, found, only}

same_records : (x y : List Item) → ◌≡◌ {A = Result (List Item) GdsFault} (Ok x) (Ok y) → x ≡ y
same_records x y e = cc

one_found : (name : List ℕ) (all : List (List Item)) (records : List Item) → one_of name all ≡ Ok records → all ≡ records ∷ []
one_found name [] records e = absurd cc
one_found name (one ∷ []) records e = ap (λ (t : List Item). t ∷ []) (same_records one records e)
one_found name (one ∷ other ∷ more) records e = absurd cc

abbrev then_drawn : List ℕ → ℕ → List Item → Result Shapes GdsFault
then_drawn bytes lambda records = drawn (file_in bytes lambda) 0 (elements_of records) >>= λ progress. Ok progress.shapes

shapes_are : (a b : Shapes) → ◌≡◌ {A = Result Shapes GdsFault} (Ok a) (Ok b) → a ≡ b
shapes_are a b e = cc

abbrev with_refs : ℕ → Shapes → Progress
with_refs refs shapes = record { shapes = shapes; refs = refs }

taken_is : (progress : Progress) (shapes : Shapes) → ◌≡◌ {A = Result Shapes GdsFault} (Ok progress.shapes) (Ok shapes) → progress ≡ with_refs progress.refs shapes
taken_is progress shapes e = ap (with_refs progress.refs) (shapes_are progress.shapes shapes e)

pub is_cell : (bytes name : List ℕ) (lambda : ℕ) (shapes : Shapes) → IsBytes bytes → Decodes bytes name lambda shapes → IsCell bytes name lambda shapes
unfolding decoded
is_cell bytes name lambda shapes fits e =
    let a = bind_ok (first_pass_of bytes) (λ end. one_of name (found_in bytes name) >>= then_drawn bytes lambda) shapes e in
    let b = bind_ok (one_of name (found_in bytes name)) (then_drawn bytes lambda) shapes a.2 in
    let c = bind_ok (drawn (file_in bytes lambda) 0 (elements_of b.0)) (λ progress. Ok progress.shapes) shapes b.2 in
    record {
      end = a.0;
      records = b.0;
      library = found bytes a.0 fits a.1;
      one = one_found name (found_in bytes name) b.0 b.1;
      refs = c.0.refs;
      draws = c.1 ∙ ap (λ (t : Progress). Ok t) (taken_is c.0 shapes c.2);
    }

pub cell_is : (bytes name : List ℕ) (lambda : ℕ) (shapes : Shapes) → IsCell bytes name lambda shapes → Decodes bytes name lambda shapes
unfolding decoded
cell_is bytes name lambda shapes c = rw (only bytes c.end c.library, c.one) (ap (λ (x : Result Progress GdsFault). x >>= λ progress. Ok progress.shapes) c.draws)
