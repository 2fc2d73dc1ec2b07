-- No definition refuses for want of memory.
use Rattle.std.proofs.Common.{◌≡◌, nat_le, length}
use Rattle.std.specs.Prelude.{Err}
use Rattle.cell_num.specs.declared.finger.Fingers.{Fingers}
use Rattle.cell_num.specs.Fingers.{columns_of}
use Rattle.cell_num.specs.Steps.{require}
use Rattle.tech_file.specs.Technology.{Technology}
use Rattle.tech_file.proofs.Told.{never_step, never_require}
use Rattle.spice_net.specs.declared.subckt.Subckt.{Subckt}
use Rattle.finger_fold.specs.declared.folding.FoldFault.TheVariants as fault
use Rattle.finger_fold.specs.Folding.{all_fingers, saturated, within_limits, folded}

never_limits : (f : Fingers) → within_limits f ≡ Err fault.NoMemory → ⊥
never_limits f =
    never_step fault.NoMemory (require (nat_le (length f.p) 64) (fault.TooManyFingers (saturated (length f.p)))) _ (never_require fault.NoMemory (nat_le (length f.p) 64) (fault.TooManyFingers (saturated (length f.p))) (λ q. cc)) (λ u.
    never_step fault.NoMemory (require (nat_le (length f.n) 64) (fault.TooManyFingers (saturated (length f.n)))) _ (never_require fault.NoMemory (nat_le (length f.n) 64) (fault.TooManyFingers (saturated (length f.n))) (λ q. cc)) (λ v.
    never_step fault.NoMemory (require (nat_le (columns_of f) 32) (fault.TooManyColumns (columns_of f))) _ (never_require fault.NoMemory (nat_le (columns_of f) 32) (fault.TooManyColumns (columns_of f)) (λ q. cc)) (λ w q. cc)))

pub never_folded : (tech : Technology) (cell : Subckt) → folded tech cell ≡ Err fault.NoMemory → ⊥
never_folded tech cell = never_limits (all_fingers tech cell)
