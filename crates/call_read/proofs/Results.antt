-- What holds of the answer of steps in order, and of one that refused a GDSII file.
use Rattle.std.proofs.Common.{ℕ, ◌≡◌, ◌≢◌, List, Result, Ok, Err, IfErr, refl, sym, ap, ◌∙◌}
use Rattle.gds_area.specs.declared.fault.GdsFault.{GdsFault}
use Rattle.gds_area.specs.declared.fault.GdsFault.TheVariants as gds
use Rattle.gds_read.specs.Decoding.{GdsRefused, IsRefused, decoded}
use Rattle.call_read.specs.declared.refusal.Refusal.{Refusal}
use Rattle.call_read.specs.declared.refusal.Refusal.TheVariants.{Gds, NoMemory}
use Rattle.call_read.specs.Refusals.{as_refusal, gds_refusal}
use Rattle.cell_num.specs.Steps.{◌>>=◌}

pub err_behind : {A B E : Type 0} (Is : E → Type 0) (first : Result A E) (next : A → Result B E) → IfErr first Is → ((x : A) → IfErr (next x) Is) → IfErr (first >>= next) Is
err_behind Is (Ok x) next one each = each x
err_behind Is (Err e) next one each = one

-- ---- a file that is no library with the cell

refused_so : (bytes name : List ℕ) (lambda : ℕ) (f : GdsFault) (e : Refusal) → gds_refusal f ≡ Gds f → GdsRefused bytes name lambda f → e ≡ gds_refusal f → as_refusal Gds (decoded bytes name lambda) ≡ Err e
refused_so bytes name lambda f e other is from = ap (as_refusal Gds) is ∙ ap (λ (x : Refusal). Err x) (sym (from ∙ other))

pub gds_refused : (bytes name : List ℕ) (lambda : ℕ) (f : GdsFault) (e : Refusal) → IsRefused bytes name lambda f → e ≡ gds_refusal f → e ≢ NoMemory → as_refusal Gds (decoded bytes name lambda) ≡ Err e
gds_refused bytes name lambda gds.NoMemory e is from other = absurd (other from)
gds_refused bytes name lambda (gds.Cut at) e is from other = refused_so bytes name lambda (gds.Cut at) e refl is from
gds_refused bytes name lambda (gds.Length at) e is from other = refused_so bytes name lambda (gds.Length at) e refl is from
gds_refused bytes name lambda (gds.Order at code) e is from other = refused_so bytes name lambda (gds.Order at code) e refl is from
gds_refused bytes name lambda (gds.Kind at code) e is from other = refused_so bytes name lambda (gds.Kind at code) e refl is from
gds_refused bytes name lambda (gds.Unit picometres) e is from other = refused_so bytes name lambda (gds.Unit picometres) e refl is from
gds_refused bytes name lambda gds.NoCell e is from other = refused_so bytes name lambda gds.NoCell e refl is from
gds_refused bytes name lambda (gds.Twice twice) e is from other = refused_so bytes name lambda (gds.Twice twice) e refl is from
gds_refused bytes name lambda (gds.Slant at) e is from other = refused_so bytes name lambda (gds.Slant at) e refl is from
gds_refused bytes name lambda (gds.Grid at) e is from other = refused_so bytes name lambda (gds.Grid at) e refl is from
gds_refused bytes name lambda (gds.Deep at) e is from other = refused_so bytes name lambda (gds.Deep at) e refl is from
gds_refused bytes name lambda (gds.Reference at) e is from other = refused_so bytes name lambda (gds.Reference at) e refl is from
gds_refused bytes name lambda (gds.Wide at) e is from other = refused_so bytes name lambda (gds.Wide at) e refl is from
