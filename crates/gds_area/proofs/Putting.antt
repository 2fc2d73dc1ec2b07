-- Areas are drawn one after the other.
use Rattle.std.proofs.Common.{◌≡◌, List, [], ◌∷◌, ◌++◌, Result, Ok, Err, refl, sym, ap, ◌∙◌, ◌⊎◌, inl, inr}
use Rattle.box_geom.specs.declared.shape.Shape.{Shape}
use Rattle.gds_area.specs.declared.fault.GdsFault.{GdsFault}
use Rattle.gds_area.specs.declared.fault.GdsFault.TheVariants as fault
use Rattle.gds_area.specs.declared.area.Area.{Area}
use Rattle.gds_area.specs.declared.area.DrawContext.{DrawContext}
use Rattle.gds_area.specs.Areas.{shape_of, with_kept, put, Puts}
use Rattle.cell_num.specs.Steps.{◌>>=◌}

put_more : (draw_context : DrawContext) (old : List Shape) (xs bs : List Area) → put draw_context old (xs ++ bs) ≡ (put draw_context old xs >>= λ new. put draw_context new bs)
put_more draw_context old [] bs = refl
put_more draw_context old (a ∷ xs) bs = by (shape_of draw_context a) (λ s. put_more draw_context (with_kept old s) xs bs)
  where
    by : (x : Result Shape GdsFault) → ((s : Shape) → put draw_context (with_kept old s) (xs ++ bs) ≡ (put draw_context (with_kept old s) xs >>= λ new. put draw_context new bs)) → (x >>= λ s. put draw_context (with_kept old s) (xs ++ bs)) ≡ ((x >>= λ s. put draw_context (with_kept old s) xs) >>= λ new. put draw_context new bs)
    by (Ok s) rest = rest s
    by (Err f) rest = refl

pub goes_on : (draw_context : DrawContext) (old new : List Shape) (xs bs : List Area) → put draw_context old xs ≡ Ok new → put draw_context old (xs ++ bs) ≡ put draw_context new bs
goes_on draw_context old new xs bs e = put_more draw_context old xs bs ∙ ap (λ (x : Result (List Shape) GdsFault). x >>= λ new. put draw_context new bs) e

-- Memory ran out, or the fault is the one told.
pub fault_of : (f : GdsFault) (new : List Shape) (x : Result (List Shape) GdsFault) → Puts {A = Unit {0}} (Err f) new x → (f ≡ fault.NoMemory) ⊎ (x ≡ Err f)
fault_of (fault.Cut at) new x puts = inr puts
fault_of (fault.Length at) new x puts = inr puts
fault_of (fault.Order at code) new x puts = inr puts
fault_of (fault.Kind at code) new x puts = inr puts
fault_of (fault.Unit pm) new x puts = inr puts
fault_of fault.NoCell new x puts = inr puts
fault_of (fault.Twice name) new x puts = inr puts
fault_of (fault.Slant at) new x puts = inr puts
fault_of (fault.Grid at) new x puts = inr puts
fault_of (fault.Reference at) new x puts = inr puts
fault_of fault.NoMemory new x puts = inl refl
fault_of (fault.Deep at) new x puts = inr puts
fault_of (fault.Wide at) new x puts = inr puts

pub puts_same : (f : GdsFault) (new : List Shape) (x : Result (List Shape) GdsFault) → x ≡ Err f → Puts {A = Unit {0}} (Err f) new x
puts_same (fault.Cut at) new x e = e
puts_same (fault.Length at) new x e = e
puts_same (fault.Order at code) new x e = e
puts_same (fault.Kind at code) new x e = e
puts_same (fault.Unit pm) new x e = e
puts_same fault.NoCell new x e = e
puts_same (fault.Twice name) new x e = e
puts_same (fault.Slant at) new x e = e
puts_same (fault.Grid at) new x e = e
puts_same (fault.Reference at) new x e = e
puts_same fault.NoMemory new x e = tt
puts_same (fault.Deep at) new x e = e
puts_same (fault.Wide at) new x e = e

-- a fault stays the fault of what follows
pub carried : (f : GdsFault) (new last : List Shape) (x y : Result (List Shape) GdsFault) → Puts {A = Unit {0}} (Err f) new x → (x ≡ Err f → y ≡ Err f) → Puts {A = Unit {0}} (Err f) last y
carried f new last x y puts so = elim (fault_of f new x puts) [
  | inl short ↦ rw short tt
  | inr same ↦ puts_same f last y (so same)
]

pub stops : (draw_context : DrawContext) (old new last : List Shape) (xs bs : List Area) (f : GdsFault) (all : Result (List Shape) GdsFault) → Puts {A = Unit {0}} (Err f) new (put draw_context old xs) → put draw_context old (xs ++ bs) ≡ all → Puts {A = Unit {0}} (Err f) last all
stops draw_context old new last xs bs f all puts so =
    carried f new last (put draw_context old xs) all puts (λ e. sym so ∙ (put_more draw_context old xs bs ∙ ap (λ (x : Result (List Shape) GdsFault). x >>= λ new. put draw_context new bs) e))
