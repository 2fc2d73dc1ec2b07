-- Steps that were all granted, taken apart.
use Rattle.std.proofs.Common.{◌≡◌, Bool, true, false, refl}
use Rattle.std.specs.Prelude.{Option, Some, None, Result, Ok, Err}
use Rattle.cell_num.specs.Steps.{◌>>=◌, require, or_fault}

pub granted_step : {A B E : Type 0} (r : Result A E) (f : A → Result B E) (y : B) → (r >>= f) ≡ Ok y → (x : A) × (r ≡ Ok x) × (f x ≡ Ok y)
granted_step (Ok x) f y e = (x, refl, e)
granted_step (Err g) f y e = absurd cc

pub granted_require : {B E : Type 0} (b : Bool) (g : E) (f : Unit {0} → Result B E) (y : B) → (require b g >>= f) ≡ Ok y → (b ≡ true) × (f tt ≡ Ok y)
granted_require true g f y e = (refl, e)
granted_require false g f y e = absurd cc

pub granted_option : {A B E : Type 0} (o : Option A) (g : E) (f : A → Result B E) (y : B) → (or_fault o g >>= f) ≡ Ok y → (x : A) × (o ≡ Some x) × (f x ≡ Ok y)
granted_option (Some x) g f y e = (x, refl, e)
granted_option None g f y e = absurd cc
